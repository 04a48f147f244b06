-- Laws of imports and of conversions of images.
use Rattle.std.specs.Prelude.{◌≡◌, ◌≢◌, ◌≤◌, ℕ, false, true, List, [], ◌∷◌, ◌++◌, Option, None, Some, Ok, Err, codes}
use Rattle.std.specs.Prelude.{map}
use Rattle.std.specs.Prelude.{length}
use Rattle.percent_encoding.specs.Percent.{percent_decode}
use Rattle.pm_convert.specs.Formats.{name_of}
use Rattle.pm_convert.specs.Found.{blocks_in, formats_of, is_volume}
use Rattle.pm_convert.specs.Jobs.{converted, converted_back, formats_text, line_for, number_of, only}
use Rattle.pm_convert.specs.Made.{new_image, with_blocks}
use Rattle.pm_convert.specs.declared.format.Format.{Format}
use Rattle.pm_convert.specs.declared.job.ConvertFault.TheVariants as faults
use Rattle.pm_files.specs.Held.{Files}
use Rattle.pm_filer.specs.Filed.{bytes_of_file}
use Rattle.pm_filer.specs.Listing.{printable_name, space_line}
use Rattle.pm_filer.specs.declared.fault.FilerFault.TheVariants as filer
use Rattle.pm_folder.specs.declared.contents.Ends.{Ends}
use Rattle.pm_folder.specs.declared.contents.Ends.TheVariants as lines
use Rattle.pm_folder.specs.declared.contents.How.TheVariants as how
use Rattle.pm_import.specs.Feeds.{with_feeds}
use Rattle.pm_import.specs.Imported.{NotAdded, TakesLine, with_date}
use Rattle.pm_import.specs.Listed.{Listed, utf8_of}
use Rattle.pm_import.specs.Placed.{is_same_file, placed}
use Rattle.pm_textfile.specs.Laying.{text_file}
use Rattle.pm_textfile.specs.Reading.{text_of_file}
use Rattle.pm_textfile.specs.Writing.{text_fault}
use Rattle.pm_textfile.specs.declared.fault.TextFault.{TextFault}
use Rattle.pm_volume.specs.Files.{file_named}
use Rattle.pm_volume.specs.Headers.{dated_image}
use Rattle.pm_volume.specs.Made.{added}
use Rattle.pm_volume.specs.Space.{volume_name}
use Rattle.pm_volume.specs.declared.fault.VolumeFault.{VolumeFault}
use Rattle.pm_volume.specs.declared.fault.VolumeFault.TheVariants.{BadName}

-- The file of the line `l` is added byte for byte if the volume has no file of its name. A file that the volume has
-- with the same bytes changes nothing; if it has other bytes, the volume refuses a second file of the name. A text is
-- added as the text file of its lines, which end with the given bytes. A text file of the volume with the same text
-- changes nothing. A text with a fault is refused. A name that is not UTF-8 is refused. The volume gets the last date
-- of LIST only if it is not 0. An empty line has no effect.
pub record ImportLaws : Type 0 where
  pub new_bytes : (e : Ends) (image : List ℕ) (l : Listed) (name contents made : List ℕ) → l.how ≡ how.Bytes
      → utf8_of (percent_decode l.name) ≡ Some name → bytes_of_file image (file_named image name) ≡ None
      → added image name l.kind contents l.date ≡ Ok made → placed e image l contents ≡ Ok made
  pub refused_bytes : (e : Ends) (image : List ℕ) (l : Listed) (name contents : List ℕ) (fault : VolumeFault)
      → l.how ≡ how.Bytes → utf8_of (percent_decode l.name) ≡ Some name
      → bytes_of_file image (file_named image name) ≡ None → added image name l.kind contents l.date ≡ Err fault
      → placed e image l contents ≡ Err (filer.Volume fault)
  pub same_bytes : (e : Ends) (image : List ℕ) (l : Listed) (name contents : List ℕ) → l.how ≡ how.Bytes
      → utf8_of (percent_decode l.name) ≡ Some name
      → bytes_of_file image (file_named image name) ≡ Some contents → placed e image l contents ≡ Ok image
  pub new_text : (image : List ℕ) (l : Listed) (name text made : List ℕ) (e : Ends) → e ≡ lines.Lf → l.how ≡ how.Text
      → text_fault text ≡ None → utf8_of (percent_decode l.name) ≡ Some name
      → bytes_of_file image (file_named image name) ≡ None
      → added image name l.kind (text_file text) l.date ≡ Ok made → placed e image l text ≡ Ok made
  pub new_text_in : (e : Ends) (image : List ℕ) (l : Listed) (name text made : List ℕ) → l.how ≡ how.Text
      → text_fault (with_feeds e text) ≡ None → utf8_of (percent_decode l.name) ≡ Some name
      → bytes_of_file image (file_named image name) ≡ None
      → added image name l.kind (text_file (with_feeds e text)) l.date ≡ Ok made → placed e image l text ≡ Ok made
  pub refused_text : (e : Ends) (image : List ℕ) (l : Listed) (name text : List ℕ) (fault : VolumeFault)
      → l.how ≡ how.Text → text_fault (with_feeds e text) ≡ None → utf8_of (percent_decode l.name) ≡ Some name
      → bytes_of_file image (file_named image name) ≡ None
      → added image name l.kind (text_file (with_feeds e text)) l.date ≡ Err fault
      → placed e image l text ≡ Err (filer.Volume fault)
  pub same_text : (e : Ends) (image : List ℕ) (l : Listed) (name text old : List ℕ) → l.how ≡ how.Text
      → text_fault (with_feeds e text) ≡ None → utf8_of (percent_decode l.name) ≡ Some name
      → bytes_of_file image (file_named image name) ≡ Some old → 1024 ≤ length old
      → text_of_file old ≡ text_of_file (text_file (with_feeds e text)) → placed e image l text ≡ Ok image
  pub bad_text_in : (e : Ends) (image : List ℕ) (l : Listed) (text : List ℕ) (fault : TextFault) → l.how ≡ how.Text
      → text_fault (with_feeds e text) ≡ Some fault → placed e image l text ≡ Err (filer.Text fault)
  pub bad_name_of_text : (e : Ends) (image : List ℕ) (l : Listed) (text : List ℕ) → l.how ≡ how.Text
      → text_fault (with_feeds e text) ≡ None → utf8_of (percent_decode l.name) ≡ None
      → placed e image l text ≡ Err (filer.Volume BadName)
  pub other_file : (e : Ends) (image : List ℕ) (l : Listed) (name contents old : List ℕ) (fault : VolumeFault)
      → l.how ≡ how.Bytes → utf8_of (percent_decode l.name) ≡ Some name
      → bytes_of_file image (file_named image name) ≡ Some old → old ≢ contents
      → added image name l.kind contents l.date ≡ Err fault → placed e image l contents ≡ Err (filer.Volume fault)
  pub bad_text : (image : List ℕ) (l : Listed) (text : List ℕ) (fault : TextFault) (e : Ends) → e ≡ lines.Lf
      → l.how ≡ how.Text → text_fault text ≡ Some fault → placed e image l text ≡ Err (filer.Text fault)
  pub bad_name : (e : Ends) (image : List ℕ) (l : Listed) (contents : List ℕ) → l.how ≡ how.Bytes
      → utf8_of (percent_decode l.name) ≡ None → placed e image l contents ≡ Err (filer.Volume BadName)
  pub short_text : is_same_file how.Text (Some (codes "a")) (codes "a") ≡ false
  pub other_bytes : is_same_file how.Bytes (Some (codes "a")) (codes "b") ≡ false
  pub no_date : (image : List ℕ) → with_date image None ≡ image
  pub date_0 : (image : List ℕ) → with_date image (Some 0) ≡ image
  pub date_1 : (image : List ℕ) → with_date image (Some 1) ≡ dated_image image 1
  pub empty_line : (folder : Files) (e : Ends) (image : List ℕ) (left : List NotAdded)
      → TakesLine folder e [] image image left left

-- A conversion takes the blocks of the image in the given format, or in the only one in which it opens, and makes a new
-- image of them, or an image with them. Each fault has its own reason and number.
pub record ConversionLaws : Type 0 where
  pub made : (format to : Format) (image blocks made : List ℕ) → blocks_in format image ≡ Some blocks
      → new_image to blocks ≡ Some made → converted (Some format) to image ≡ Ok made
  pub only_one : (format to : Format) (image blocks made : List ℕ) → formats_of image ≡ format ∷ []
      → blocks_in format image ≡ Some blocks → new_image to blocks ≡ Some made → converted None to image ≡ Ok made
  pub back : (format : Format) (image old blocks made : List ℕ) → blocks_in format image ≡ Some old
      → with_blocks format image blocks ≡ Some made → converted_back (Some format) image blocks ≡ Ok made
  pub only_one_back : (format : Format) (image old blocks made : List ℕ) → formats_of image ≡ format ∷ []
      → blocks_in format image ≡ Some old → with_blocks format image blocks ≡ Some made
      → converted_back None image blocks ≡ Ok made
  pub no_format : (to : Format) (image : List ℕ) → formats_of image ≡ [] → converted None to image ≡ Err faults.NoFormat
  pub no_format_back : (image blocks : List ℕ) → formats_of image ≡ []
      → converted_back None image blocks ≡ Err faults.NoFormat
  pub several : (to first second : Format) (more : List Format) (image : List ℕ)
      → formats_of image ≡ first ∷ second ∷ more → converted None to image ≡ Err faults.Several
  pub several_back : (first second : Format) (more : List Format) (image blocks : List ℕ)
      → formats_of image ≡ first ∷ second ∷ more → converted_back None image blocks ≡ Err faults.Several
  pub other_format : (format to : Format) (image : List ℕ) → blocks_in format image ≡ None
      → converted (Some format) to image ≡ Err faults.OtherFormat
  pub other_format_back : (format : Format) (image blocks : List ℕ) → blocks_in format image ≡ None
      → converted_back (Some format) image blocks ≡ Err faults.OtherFormat
  pub other_length : (format to : Format) (image blocks : List ℕ) → blocks_in format image ≡ Some blocks
      → new_image to blocks ≡ None → converted (Some format) to image ≡ Err faults.OtherLength
  pub other_length_back : (format : Format) (image old blocks : List ℕ) → blocks_in format image ≡ Some old
      → with_blocks format image blocks ≡ None → converted_back (Some format) image blocks ≡ Err faults.OtherLength
  pub numbers : map number_of (faults.NoFormat ∷ faults.Several ∷ faults.OtherFormat ∷ faults.OtherLength ∷ [])
      ≡ 1 ∷ 2 ∷ 3 ∷ 4 ∷ []
  pub line : (format : Format) (blocks : List ℕ) → is_volume blocks ≡ true → line_for format (Some blocks)
      ≡ name_of format ++ (codes " " ++ (printable_name (volume_name blocks) ++ (codes ": " ++ space_line blocks)))
  pub no_line : (image : List ℕ) → formats_of image ≡ [] → formats_text image ≡ []
