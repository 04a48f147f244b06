-- The laws of images, and the worked examples, computed.
use Rattle.std.proofs.Common.{◌≡◌, ◌∙◌, ℕ, Bool, true, false, List, [], ◌∷◌, None, Some, ap, refl}
use Rattle.std.specs.List.{filter}
use Rattle.std.specs.Option.{is_none}
use Rattle.pm_volume.specs.Directory.{files_begin, image_fault}
use Rattle.pm_volume.specs.declared.fault.VolumeFault.{VolumeFault}
use Rattle.pm_convert.specs.Big.{big_with, code_blocks, directory_front, exchanged_front, exchanged_with, turned_directory}
use Rattle.pm_convert.specs.Found.{are_volume, blocks_in, formats_of, opens}
use Rattle.std.specs.Prelude.{slice_index}
use Rattle.pm_bytes.specs.Words.{word_in, written}
use Rattle.pm_check.specs.Forms.{front_size, has_front, long_in}
use Rattle.pm_check.specs.Headed.{new_file, plain_header}
use Rattle.pm_check.specs.Orders.{turned, turned_front}
use Rattle.pm_volume.specs.Directory.{entries_from}
use Rattle.pm_volume.specs.Entries.{entry_of}
use Rattle.pm_convert.specs.Covers.{cover_of, has_disk_copy}
use Rattle.pm_convert.specs.Foreigners.{recognized, volume_size}
use Rattle.pm_convert.specs.Formats.{format_named, formats_with, name_of}
use Rattle.pm_convert.specs.Headers.{disk_copy_header}
use Rattle.pm_convert.specs.Sums.{sum_from}
use Rattle.pm_convert.specs.Worked.{WorkedBig, WorkedCovers, WorkedForeigners, WorkedImages, WorkedNames, WorkedOpens}
use Rattle.pm_convert.specs.declared.foreign.Foreign.TheVariants as foreigners
use Rattle.pm_convert.specs.declared.format.ByteOrder.{ByteOrder}
use Rattle.pm_convert.specs.declared.format.ByteOrder.TheVariants as orders
use Rattle.pm_convert.specs.declared.format.Cover.{Cover}
use Rattle.pm_convert.specs.declared.format.Cover.TheVariants as covers
use Rattle.pm_convert.specs.declared.format.Format.{Format}
use Rattle.pm_convert.proofs.ImageLaws.{back, keeps_size, same}
use Rattle.pm_convert.proofs.NewLaws.{made_back, made_sealed}
use Rattle.pm_convert.proofs.SealLaws.{sealed}

pub worked_images : WorkedImages
worked_images = record {
  back = back;
  size = keeps_size;
  same = same;
  sealed = sealed;
  made = made_back;
  made_sealed = made_sealed;
}

-- The twelve names, by cover and order.
named_of : (cover : Cover) (order : ByteOrder)
    → format_named (name_of (record { cover = cover; order = order })) ≡ Some (record { cover = cover; order = order })
named_of covers.Bare orders.Blocks = refl
named_of covers.Bare orders.Dos = refl
named_of covers.Bare orders.Swapped = refl
named_of covers.Bare orders.Big = refl
named_of covers.TwoImg orders.Blocks = refl
named_of covers.TwoImg orders.Dos = refl
named_of covers.TwoImg orders.Swapped = refl
named_of covers.TwoImg orders.Big = refl
named_of covers.DiskCopy orders.Blocks = refl
named_of covers.DiskCopy orders.Dos = refl
named_of covers.DiskCopy orders.Swapped = refl
named_of covers.DiskCopy orders.Big = refl

pub worked_names : WorkedNames
worked_names = record {
  named = λ format. named_of format.cover format.order;
  names = refl;
  unknown = refl;
  reported = refl;
}

pub worked_covers : WorkedCovers
unfolding sum_from disk_copy_header written new_file plain_header has_disk_copy has_front front_size long_in word_in turned turned_front
worked_covers = record {
  no_sum = refl;
  word = refl;
  words = refl;
  byte = refl;
  over = refl;
  header = refl;
  dos_file = refl;
  numbers = refl;
  disk_copy_file = refl;
  tags = refl;
  no_tags = refl;
  no_mark = refl;
  both = refl;
  both_seen = refl;
  whole = refl;
  short = refl;
  empty = refl;
  two_img = refl;
  covers_seen = refl;
  sum_wrong = refl;
  changed = refl;
  found = refl;
  other_length = refl;
  bare = refl;
  dos_sizes = refl;
  big_sizes = refl;
}

one_copy : (directory image : List ℕ) → files_begin directory ≡ 6
    → big_with directory image ≡ exchanged_with false (code_blocks directory) image
one_copy directory image begin = rw begin refl

two_copies : (directory image : List ℕ) → files_begin directory ≡ 10
    → big_with directory image ≡ exchanged_with true (code_blocks directory) image
two_copies directory image begin = rw begin refl

pub worked_big : WorkedBig
unfolding entries_from entry_of word_in exchanged_with exchanged_front turned_directory directory_front
worked_big = record {
  directory = refl;
  directory_end = refl;
  dictionary = refl;
  places = refl;
  second = refl;
  part = refl;
  last = refl;
  exchanged = refl;
  turned = refl;
  one_copy = one_copy;
  two_copies = two_copies;
  directory_places = refl;
  code = refl;
  most = refl;
}

dos33_worked : (image : List ℕ) → slice_index image 0 ≡ 1 → slice_index image 1024 ≡ 1 → volume_size image ≡ 143360
    → slice_index image 69633 ≡ 17 → slice_index image 69635 ≡ 3 → recognized image ≡ Some foreigners.Dos33
dos33_worked image first block size one three = rw (first, size, block, one, three) refl

nib_worked : (image : List ℕ) → slice_index image 0 ≡ 255 → volume_size image ≡ 232960 → recognized image ≡ Some foreigners.Nib
nib_worked image first size = rw (first, size) refl

pub worked_foreigners : WorkedForeigners
unfolding disk_copy_header has_disk_copy has_front front_size long_in word_in
worked_foreigners = record {
  gzip = refl;
  woz = refl;
  nothing = refl;
  hfs = refl;
  prodos = refl;
  other_kind = refl;
  dos33 = dos33_worked;
  nib = nib_worked;
  sizes = refl;
  compressed = refl;
  bits = refl;
  nibbles = refl;
  disks = refl;
}

opened : (format : Format) (image blocks : List ℕ) → blocks_in format image ≡ Some blocks → image_fault blocks ≡ None
    → opens image format ≡ true
opened format image blocks found good = ap are_volume found ∙ ap is_none good

faulty : (format : Format) (image blocks : List ℕ) (fault : VolumeFault) → blocks_in format image ≡ Some blocks
    → image_fault blocks ≡ Some fault → opens image format ≡ false
faulty format image blocks fault found bad = ap are_volume found ∙ ap is_none bad

missing : (format : Format) (image : List ℕ) → blocks_in format image ≡ None → opens image format ≡ false
missing format image found = ap are_volume found

-- If a test is true of each element, a filter keeps the whole list.
kept : (p : Format → Bool) (formats : List Format) → ((format : Format) → p format ≡ true) → filter p formats ≡ formats
kept p [] always = refl
kept p (format ∷ formats) always =
    let is = always format in rw is (ap (λ rest. format ∷ rest) (kept p formats always))

empty_opens : formats_of [] ≡ []
unfolding has_disk_copy has_front image_fault turned turned_front
empty_opens = refl

pub worked_opens : WorkedOpens
worked_opens = record {
  opened = opened;
  faulty = faulty;
  missing = missing;
  all = λ image always. kept (opens image) (formats_with (cover_of image)) always;
  empty = empty_opens;
}
