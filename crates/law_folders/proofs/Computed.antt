-- The laws of imports and of conversions, computed.
use Rattle.std.proofs.Common.{◌≡◌, ◌≢◌, ◌≤◌, ℕ, Bool, true, false, List, [], ◌∷◌, None, Some, Ok, Err, length, refl, inl, inr}
use Rattle.std.specs.Str.{bytes_eq}
use Rattle.std.proofs.lemmas.Bool.{cases_Bool, le-leb}
use Rattle.std.proofs.lemmas.Slice.Eq.{bytes_eq-Decides}
use Rattle.law_folders.specs.Laws.{ConversionLaws, ImportLaws}
use Rattle.percent_encoding.specs.Percent.{percent_decode}
use Rattle.pm_filer.specs.Filed.{bytes_of_file}
use Rattle.pm_filer.specs.declared.fault.FilerFault.TheVariants as filer
use Rattle.pm_folder.specs.declared.contents.Ends.{Ends}
use Rattle.pm_folder.specs.declared.contents.How.TheVariants as how
use Rattle.pm_import.specs.Feeds.{with_feeds}
use Rattle.pm_import.specs.Listed.{Listed, utf8_of}
use Rattle.pm_import.specs.Placed.{placed}
use Rattle.pm_textfile.proofs.RoundTrip.{length-text_file}
use Rattle.pm_textfile.specs.Laying.{text_file}
use Rattle.pm_textfile.specs.Reading.{text_of_file}
use Rattle.pm_textfile.specs.Writing.{text_fault}
use Rattle.pm_volume.specs.Files.{file_named}
use Rattle.pm_volume.specs.Made.{added}
use Rattle.pm_volume.specs.declared.fault.VolumeFault.{VolumeFault}

same_text : (e : Ends) (image : List ℕ) (l : Listed) (name text old : List ℕ) → l.how ≡ how.Text
    → text_fault (with_feeds e text) ≡ None → utf8_of (percent_decode l.name) ≡ Some name
    → bytes_of_file image (file_named image name) ≡ Some old → 1024 ≤ length old
    → text_of_file old ≡ text_of_file (text_file (with_feeds e text)) → placed e image l text ≡ Ok image
unfolding placed
same_text e image l name text old h f u n long same =
    let new = text_file (with_feeds e text) in
    let first = le-leb 1024 (length old) long in
    let second = le-leb 1024 (length new) (length-text_file (with_feeds e text)) in
    rw (h, f, u, n, first, second, (bytes_eq-Decides (text_of_file old) (text_of_file new)).1 same) refl

other_file : (e : Ends) (image : List ℕ) (l : Listed) (name contents old : List ℕ) (fault : VolumeFault)
    → l.how ≡ how.Bytes → utf8_of (percent_decode l.name) ≡ Some name
    → bytes_of_file image (file_named image name) ≡ Some old → old ≢ contents
    → added image name l.kind contents l.date ≡ Err fault → placed e image l contents ≡ Err (filer.Volume fault)
unfolding placed
other_file e image l name contents old fault h u n other a =
    let apart : bytes_eq old contents ≡ false = elim (cases_Bool (bytes_eq old contents)) [
      | inl is ↦ absurd (other ((bytes_eq-Decides old contents).0 is))
      | inr not ↦ not
    ] in
    rw (h, u, n, apart, a) refl

pub import_laws : ImportLaws
unfolding placed
import_laws = record {
  new_bytes = λ e image l name contents made h u n a. rw (h, u, n, a) refl;
  refused_bytes = λ e image l name contents fault h u n a. rw (h, u, n, a) refl;
  same_bytes = λ e image l name contents h u s. rw (h, u, s, (bytes_eq-Decides contents contents).1 refl) refl;
  new_text = λ image l name text made e lf h f u n a. rw (lf, h, f, u, n, a) refl;
  new_text_in = λ e image l name text made h f u n a. rw (h, f, u, n, a) refl;
  refused_text = λ e image l name text fault h f u n a. rw (h, f, u, n, a) refl;
  same_text = same_text;
  bad_text_in = λ e image l text fault h f. rw (h, f) refl;
  bad_name_of_text = λ e image l text h f u. rw (h, f, u) refl;
  other_file = other_file;
  bad_text = λ image l text fault e lf h f. rw (lf, h, f) refl;
  bad_name = λ e image l contents h u. rw (h, u) refl;
  short_text = refl;
  other_bytes = refl;
  no_date = λ image. refl;
  date_0 = λ image. refl;
  date_1 = λ image. refl;
  empty_line = λ folder e image left. (refl, refl);
}

pub conversion_laws : ConversionLaws
conversion_laws = record {
  made = λ format to image blocks made b m. rw (b, m) refl;
  only_one = λ format to image blocks made f b m. rw (f, b, m) refl;
  back = λ format image old blocks made b m. rw (b, m) refl;
  only_one_back = λ format image old blocks made f b m. rw (f, b, m) refl;
  no_format = λ to image f. rw f refl;
  no_format_back = λ image blocks f. rw f refl;
  several = λ to first second more image f. rw f refl;
  several_back = λ first second more image blocks f. rw f refl;
  other_format = λ format to image b. rw b refl;
  other_format_back = λ format image blocks b. rw b refl;
  other_length = λ format to image blocks b n. rw (b, n) refl;
  other_length_back = λ format image old blocks b n. rw (b, n) refl;
  numbers = refl;
  line = λ format blocks v. rw v refl;
  no_line = λ image f. rw f refl;
}
