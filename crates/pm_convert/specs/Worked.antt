-- What conversions between formats are: laws, and worked examples.
use Rattle.std.specs.Prelude.{◌≡◌, ◌≢◌, ◌<◌, ⊤, ℕ, Bool, true, false, List, [], ◌∷◌, ◌++◌, None, Some, codes}
use Rattle.std.specs.Prelude.{length, map, replicate, slice_index, take}
use Rattle.std.specs.List.{filter, range_with_len}
use Rattle.pm_bytes.specs.Words.{written}
use Rattle.pm_volume.specs.Directory.{directory_of, files_begin, image_fault}
use Rattle.pm_volume.specs.declared.fault.VolumeFault.{VolumeFault}
use Rattle.pm_check.specs.Orders.{turned}
use Rattle.pm_check.specs.declared.order.Order.TheVariants as turns
use Rattle.pm_check.specs.Headed.{example}
use Rattle.pm_convert.specs.Big.{IsClear, big_place, big_with, code_blocks, directory_place, exchanged_with}
use Rattle.pm_convert.specs.Big.{is_dictionary_word, is_directory_word}
use Rattle.pm_convert.specs.Big.{listed, turned_directory}
use Rattle.pm_convert.specs.Covers.{bare_size, cover_of, part_in}
use Rattle.pm_convert.specs.Foreigners.{foreign_text, recognized, volume_size}
use Rattle.pm_convert.specs.Formats.{all_formats, format_named, formats_with, name_of}
use Rattle.pm_convert.specs.Found.{blocks_in, formats_of, is_sum_wrong, opens}
use Rattle.pm_convert.specs.Headers.{disk_copy_header}
use Rattle.pm_convert.specs.Made.{disk_copy, new_image, order_number, two_img, with_blocks}
use Rattle.pm_convert.specs.Sums.{checksum, sum_from}
use Rattle.pm_convert.specs.Turning.{fits, in_blocks, in_order}
use Rattle.pm_convert.specs.declared.foreign.Foreign.TheVariants as foreigners
use Rattle.pm_convert.specs.declared.format.ByteOrder.{ByteOrder}
use Rattle.pm_convert.specs.declared.format.ByteOrder.TheVariants as orders
use Rattle.pm_convert.specs.declared.format.Cover.TheVariants as covers
use Rattle.pm_convert.specs.declared.format.Format.{Format}

-- The volume `blocks` comes back after a conversion to an order and back. For `big`, no code file begins in the blocks
-- of the directory, as the directory states that has the low byte first.
abbrev pub ComesBack : ByteOrder → List ℕ → Type 0
ComesBack orders.Blocks blocks = ⊤
ComesBack orders.Dos blocks = ⊤
ComesBack orders.Swapped blocks = ⊤
ComesBack orders.Big blocks = IsClear (directory_of blocks)

-- `volume`, which is in an order, comes back after a conversion to blocks in order and back.
abbrev pub GoesBack : ByteOrder → List ℕ → Type 0
GoesBack orders.Blocks volume = ⊤
GoesBack orders.Dos volume = ⊤
GoesBack orders.Swapped volume = ⊤
GoesBack orders.Big volume = IsClear (turned_directory (directory_of volume))

-- A conversion from blocks to an order is the inverse of the conversion from the order to blocks. Both keep the length.
-- DOS order and exchanged words are those of pm_check. For `big` the files are those of the directory that has the low
-- byte first: the converted one, or the one that is converted.
pub record WorkedTurns : Type 0 where
  pub back : (order : ByteOrder) (blocks : List ℕ) → fits order (length blocks) ≡ true → ComesBack order blocks
      → in_blocks order (in_order order blocks) ≡ blocks
  pub forth : (order : ByteOrder) (volume : List ℕ) → fits order (length volume) ≡ true → GoesBack order volume
      → in_order order (in_blocks order volume) ≡ volume
  pub size : (order : ByteOrder) (blocks : List ℕ) → length (in_order order blocks) ≡ length blocks
  pub blocks_size : (order : ByteOrder) (volume : List ℕ) → length (in_blocks order volume) ≡ length volume
  pub dos : (volume : List ℕ) → in_blocks orders.Dos volume ≡ turned turns.Dos volume
  pub swapped : (volume : List ℕ) → in_blocks orders.Swapped volume ≡ turned turns.Swapped volume
  pub from_directory : (volume : List ℕ)
      → in_blocks orders.Big volume ≡ big_with (turned_directory (directory_of volume)) volume
  pub to_directory : (blocks : List ℕ) → in_order orders.Big blocks ≡ big_with (directory_of blocks) blocks

-- Is true if the conversion of an order is its own inverse.
abbrev pub is_own_inverse : ByteOrder → Bool
is_own_inverse orders.Blocks = true
is_own_inverse orders.Dos = true
is_own_inverse orders.Swapped = true
is_own_inverse orders.Big = false

-- Laws of images. `back`: the blocks that an image gets are the blocks that it has afterwards. `size`: the image keeps
-- its length. `same`: an image that gets its own blocks is unchanged. `sealed`: the checksum of DiskCopy 4.2 then
-- matches. `made` and `made_sealed`: the same for a new image. A header states the length in four bytes, and a bare
-- image of 143,488 bytes has 128 bytes after the volume.
pub record WorkedImages : Type 0 where
  pub back : (format : Format) (image blocks made : List ℕ) → with_blocks format image blocks ≡ Some made
      → ComesBack format.order blocks → blocks_in format made ≡ Some blocks
  pub size : (format : Format) (image blocks made : List ℕ) → with_blocks format image blocks ≡ Some made
      → length made ≡ length image
  pub same : (format : Format) (image blocks : List ℕ) → blocks_in format image ≡ Some blocks
      → is_own_inverse format.order ≡ true → format.cover ≢ covers.DiskCopy → with_blocks format image blocks
      ≡ Some image
  pub sealed : (order : ByteOrder) (image blocks made : List ℕ)
      → with_blocks (record { cover = covers.DiskCopy; order = order }) image blocks ≡ Some made
      → is_sum_wrong made ≡ false
  pub made : (format : Format) (blocks made : List ℕ) → new_image format blocks ≡ Some made
      → ComesBack format.order blocks → 0 < length blocks → length blocks < 4294967296 → length blocks ≢ 143488
      → blocks_in format made ≡ Some blocks
  pub made_sealed : (order : ByteOrder) (blocks made : List ℕ)
      → new_image (record { cover = covers.DiskCopy; order = order }) blocks ≡ Some made
      → 0 < length blocks → length blocks < 4294967296 → is_sum_wrong made ≡ false

-- The names of the formats, and that each name is that of one format.
pub record WorkedNames : Type 0 where
  pub named : (format : Format) → format_named (name_of format) ≡ Some format
  pub names : map name_of all_formats
      ≡ codes "blocks" ∷ codes "dos" ∷ codes "swapped" ∷ codes "big"
      ∷ codes "2mg-blocks" ∷ codes "2mg-dos" ∷ codes "2mg-swapped" ∷ codes "2mg-big"
      ∷ codes "dc42-blocks" ∷ codes "dc42-dos" ∷ codes "dc42-swapped" ∷ codes "dc42-big" ∷ []
  pub unknown : map format_named (codes "" ∷ codes "2mg" ∷ codes "dc42-" ∷ codes "Blocks" ∷ codes "bigger" ∷ [])
      ≡ None ∷ None ∷ None ∷ None ∷ None ∷ []
  pub reported : formats_with covers.TwoImg
      ≡ record { cover = covers.TwoImg; order = orders.Blocks } ∷ record { cover = covers.TwoImg; order = orders.Dos }
      ∷ record { cover = covers.TwoImg; order = orders.Swapped }
      ∷ record { cover = covers.TwoImg; order = orders.Big } ∷ []

-- An image of DiskCopy 4.2 for examples: a volume of `size` bytes with the checksum `sum`, and `rest` after the header.
abbrev pub copied : ℕ → ℕ → List ℕ → List ℕ
copied size sum rest = disk_copy_header size sum ++ rest

-- The same for a volume of two bytes and one byte of tags.
abbrev pub with_tag : List ℕ → List ℕ
with_tag rest = written (copied 2 129 rest) 68 (0 ∷ 0 ∷ 0 ∷ 1 ∷ [])

-- An image with two valid headers: the name in the header of DiskCopy 4.2 is the header of a .2mg file.
abbrev pub two_headers : List ℕ
two_headers = written (copied 2 129 (1 ∷ 2 ∷ [])) 0 (take 32 (example 1 7 84 1 []))

-- Worked examples of covers:
-- - checksums: of no byte, a word, two words, a single byte, and a sum of more than 32 bits
-- - the header of DiskCopy 4.2 for a disk of 143,360 bytes, and that of a .2mg file for two bytes
-- - images of DiskCopy 4.2: whole, one byte short, empty, with tags, without the mark, and with two headers
-- - an image with other blocks, whose checksum is new and whose last byte stays
-- - bare images of about 143,488 bytes, and lengths that an order does not permit
pub record WorkedCovers : Type 0 where
  pub no_sum : checksum [] ≡ 0
  pub word : checksum (1 ∷ 2 ∷ []) ≡ 129
  pub words : checksum (0 ∷ 1 ∷ 0 ∷ 1 ∷ []) ≡ 3221225472
  pub byte : checksum (1 ∷ []) ≡ 128
  pub over : sum_from 4294967295 (0 ∷ 2 ∷ []) ≡ 2147483648
  pub header : disk_copy_header 143360 258
      ≡ replicate 64 0 ++ (0 ∷ 2 ∷ 48 ∷ 0 ∷ 0 ∷ 0 ∷ 0 ∷ 0 ∷ 0 ∷ 0 ∷ 1 ∷ 2 ∷ 0 ∷ 0 ∷ 0 ∷ 0 ∷ 1 ∷ 34 ∷ 1 ∷ 0 ∷ [])
  pub dos_file : two_img orders.Dos (1 ∷ 2 ∷ [])
      ≡ 50 ∷ 73 ∷ 77 ∷ 71 ∷ 80 ∷ 77 ∷ 67 ∷ 72 ∷ 64 ∷ 0 ∷ 1 ∷ 0 ∷ 0 ∷ 0 ∷ 0 ∷ 0 ∷ 0 ∷ 0 ∷ 0 ∷ 0 ∷ 0 ∷ 0 ∷ 0 ∷ 0
      ∷ 64 ∷ 0 ∷ 0 ∷ 0 ∷ 2 ∷ 0 ∷ 0 ∷ 0 ∷ replicate 32 0 ++ (1 ∷ 2 ∷ [])
  pub numbers : map order_number (orders.Blocks ∷ orders.Dos ∷ orders.Swapped ∷ orders.Big ∷ []) ≡ 1 ∷ 0 ∷ 1 ∷ 1 ∷ []
  pub disk_copy_file : disk_copy (1 ∷ 2 ∷ []) ≡ copied 2 129 (1 ∷ 2 ∷ [])
  pub tags : part_in covers.DiskCopy (with_tag (1 ∷ 2 ∷ 9 ∷ [])) ≡ Some (record { begin = 84; size = 2 })
  pub no_tags : part_in covers.DiskCopy (with_tag (1 ∷ 2 ∷ [])) ≡ None
  pub no_mark : part_in covers.DiskCopy (written (copied 2 129 (1 ∷ 2 ∷ [])) 83 (1 ∷ [])) ≡ None
  pub both : map (λ cover. part_in cover two_headers) (covers.TwoImg ∷ covers.DiskCopy ∷ [])
      ≡ Some (record { begin = 84; size = 1 }) ∷ Some (record { begin = 84; size = 2 }) ∷ []
  pub both_seen : cover_of two_headers ≡ covers.DiskCopy
  pub whole : part_in covers.DiskCopy (copied 2 129 (1 ∷ 2 ∷ 9 ∷ [])) ≡ Some (record { begin = 84; size = 2 })
  pub short : part_in covers.DiskCopy (copied 2 129 (1 ∷ [])) ≡ None
  pub empty : part_in covers.DiskCopy (copied 0 0 (1 ∷ 2 ∷ [])) ≡ None
  pub two_img : part_in covers.TwoImg (example 1 7 66 3 (1 ∷ 2 ∷ 3 ∷ 4 ∷ 5 ∷ []))
      ≡ Some (record { begin = 66; size = 3 })
  pub covers_seen : map cover_of (copied 2 129 (1 ∷ 2 ∷ []) ∷ copied 2 129 (1 ∷ []) ∷ example 1 7 66 3 (1 ∷ 2 ∷ 3
      ∷ 4 ∷ 5 ∷ []) ∷ [] ∷ [])
      ≡ covers.DiskCopy ∷ covers.Bare ∷ covers.TwoImg ∷ covers.Bare ∷ []
  pub sum_wrong : map is_sum_wrong (copied 2 129 (1 ∷ 2 ∷ []) ∷ copied 2 130 (1 ∷ 2 ∷ []) ∷ copied 2 130 (1 ∷ []) ∷ [])
      ≡ false ∷ true ∷ false ∷ []
  pub changed : with_blocks (record { cover = covers.DiskCopy; order = orders.Swapped }) (copied 2 129 (1 ∷ 2 ∷ 9
      ∷ [])) (4 ∷ 3 ∷ [])
      ≡ Some (copied 2 386 (3 ∷ 4 ∷ 9 ∷ []))
  pub found : blocks_in (record { cover = covers.DiskCopy; order = orders.Swapped }) (copied 2 129 (1 ∷ 2 ∷ 9 ∷ []))
      ≡ Some (2 ∷ 1 ∷ [])
  pub other_length : with_blocks (record { cover = covers.Bare; order = orders.Blocks }) (1 ∷ 2 ∷ []) (3 ∷ []) ≡ None
  pub bare : map bare_size (143360 ∷ 143487 ∷ 143488 ∷ 143489 ∷ []) ≡ 143360 ∷ 143487 ∷ 143360 ∷ 143489 ∷ []
  pub dos_sizes : map (fits orders.Dos) (143359 ∷ 143360 ∷ 143361 ∷ []) ≡ false ∷ true ∷ false ∷ []
  pub big_sizes : map (fits orders.Big) (3071 ∷ 3072 ∷ []) ≡ false ∷ true ∷ []

-- A directory for examples: a header that states `count` files, a code file at block 7 with the kind word 18, and a
-- text at block 9.
abbrev pub two_files : ℕ → List ℕ
two_files count =
    replicate 16 0 ++ (count ∷ 0 ∷ replicate 8 0 ++ (7 ∷ 0 ∷ 9 ∷ 0 ∷ 18 ∷ 0 ∷ replicate 20 0
    ++ (9 ∷ 0 ∷ 10 ∷ 0 ∷ 3 ∷ 0 ∷ replicate 20 0)))

-- Worked examples of the order `big`:
-- - the bytes that are in exchanged words, in the first slots and at the end of a directory, and in a dictionary
-- - offsets of an image with a dictionary in block 7, with a second copy, and with a block 7 that is not whole
-- - the code files of a directory with two files, and the number of files that are read at most
pub record WorkedBig : Type 0 where
  pub directory : filter (λ p. is_directory_word p) (range_with_len 0 82)
      ≡ range_with_len 0 6 ++ (range_with_len 14 8 ++ (range_with_len 26 6 ++ (range_with_len 48 10
      ++ range_with_len 74 8)))
  pub directory_end : filter (λ p. is_directory_word p) (range_with_len 2008 40) ≡ 2024 ∷ 2025 ∷ 2026 ∷ 2027 ∷ []
  pub dictionary : filter (λ p. is_dictionary_word p) (0 ∷ 63 ∷ 64 ∷ 191 ∷ 192 ∷ 287 ∷ 288 ∷ 511 ∷ [])
      ≡ 0 ∷ 63 ∷ 192 ∷ 287 ∷ []
  pub places : map (big_place false (7 ∷ []) 5120) (1023 ∷ 1024 ∷ 1025 ∷ 1030 ∷ 3072 ∷ 3583 ∷ 3584 ∷ 3585 ∷ 3648
      ∷ 4096 ∷ [])
      ≡ 1023 ∷ 1025 ∷ 1024 ∷ 1030 ∷ 3072 ∷ 3583 ∷ 3585 ∷ 3584 ∷ 3648 ∷ 4096 ∷ []
  pub second : map (big_place true [] 5120) (1024 ∷ 3072 ∷ 3073 ∷ 3078 ∷ 3584 ∷ 3594 ∷ [])
      ≡ 1025 ∷ 3073 ∷ 3072 ∷ 3078 ∷ 3584 ∷ 3595 ∷ []
  pub part : map (big_place false (7 ∷ []) 4095) (3584 ∷ 3585 ∷ []) ≡ 3584 ∷ 3585 ∷ []
  pub last : map (big_place true [] 3073) (3072 ∷ []) ≡ 3072 ∷ []
  pub exchanged : exchanged_with false [] (replicate 1024 5 ++ (1 ∷ 2 ∷ 3 ∷ [])) ≡ replicate 1024 5 ++ (2 ∷ 1 ∷ 3 ∷ [])
  pub turned : take 8 (turned_directory (1 ∷ 2 ∷ 3 ∷ 4 ∷ 5 ∷ 6 ∷ 7 ∷ 8 ∷ [])) ≡ 2 ∷ 1 ∷ 4 ∷ 3 ∷ 6 ∷ 5 ∷ 7 ∷ 8 ∷ []
  pub one_copy : (directory image : List ℕ) → files_begin directory ≡ 6
      → big_with directory image ≡ exchanged_with false (code_blocks directory) image
  pub two_copies : (directory image : List ℕ) → files_begin directory ≡ 10
      → big_with directory image ≡ exchanged_with true (code_blocks directory) image
  pub directory_places : map directory_place (0 ∷ 1 ∷ 6 ∷ 14 ∷ 2027 ∷ 2028 ∷ []) ≡ 1 ∷ 0 ∷ 6 ∷ 15 ∷ 2026 ∷ 2028 ∷ []
  pub code : map code_blocks (two_files 0 ∷ two_files 1 ∷ two_files 2 ∷ []) ≡ [] ∷ (7 ∷ []) ∷ (7 ∷ []) ∷ []
  pub most : map listed (two_files 76 ∷ two_files 77 ∷ two_files 78 ∷ []) ≡ 76 ∷ 77 ∷ 77 ∷ []

-- An image opens in a format if it has blocks in this format, and these have no fault. An empty image opens in no
-- format.
pub record WorkedOpens : Type 0 where
  pub opened : (format : Format) (image blocks : List ℕ) → blocks_in format image ≡ Some blocks
      → image_fault blocks ≡ None
      → opens image format ≡ true
  pub faulty : (format : Format) (image blocks : List ℕ) (fault : VolumeFault) → blocks_in format image ≡ Some blocks
      → image_fault blocks ≡ Some fault → opens image format ≡ false
  pub missing : (format : Format) (image : List ℕ) → blocks_in format image ≡ None → opens image format ≡ false
  pub all : (image : List ℕ) → ((format : Format) → opens image format ≡ true)
      → formats_of image ≡ formats_with (cover_of image)
  pub empty : formats_of [] ≡ []

-- Worked examples of other formats: two files by their first bytes, disks by block 2, and lengths and offsets.
pub record WorkedForeigners : Type 0 where
  pub gzip : recognized (31 ∷ 139 ∷ 8 ∷ 0 ∷ []) ≡ Some foreigners.Gzip
  pub woz : recognized (87 ∷ 79 ∷ 90 ∷ 50 ∷ []) ≡ Some foreigners.Woz
  pub nothing : recognized [] ≡ None
  pub hfs : recognized (replicate 1024 0 ++ (66 ∷ 68 ∷ [])) ≡ Some foreigners.Hfs
  pub prodos : recognized (replicate 1028 0 ++ (250 ∷ [])) ≡ Some foreigners.ProDos
  pub other_kind : recognized (replicate 1028 0 ++ (224 ∷ [])) ≡ None
  pub dos33 : (image : List ℕ) → slice_index image 0 ≡ 1 → slice_index image 1024 ≡ 1 → volume_size image ≡ 143360
      → slice_index image 69633 ≡ 17 → slice_index image 69635 ≡ 3 → recognized image ≡ Some foreigners.Dos33
  pub nib : (image : List ℕ) → slice_index image 0 ≡ 255 → volume_size image ≡ 232960 → recognized image
      ≡ Some foreigners.Nib
  pub sizes : map volume_size (copied 2 129 (1 ∷ 2 ∷ 9 ∷ []) ∷ example 1 7 66 3 (1 ∷ 2 ∷ 3 ∷ 4 ∷ 5 ∷ []) ∷ (1 ∷ [])
      ∷ []) ≡ 2 ∷ 3 ∷ 1 ∷ []
  pub compressed : foreign_text foreigners.Gzip ≡ codes "it is compressed; decompress it with gunzip"
  pub bits : foreign_text foreigners.Woz
      ≡ codes "it looks like .woz, the bits of a disk; convert it to sectors with another tool"
  pub nibbles : foreign_text foreigners.Nib
      ≡ codes "it has the length of .nib, the nibbles of a disk; convert it to sectors with another tool"
  pub disks : map foreign_text (foreigners.Hfs ∷ foreigners.ProDos ∷ foreigners.Dos33 ∷ [])
      ≡ codes "it looks like a Macintosh disk (HFS)" ∷ codes "it looks like a ProDOS disk"
      ∷ codes "it looks like a DOS 3.3 disk" ∷ []
