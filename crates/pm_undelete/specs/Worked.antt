-- Laws of removed files, and worked examples.
use Rattle.std.specs.Prelude.{◌≡◌, ◌<◌, ◌≤◌, ◌⊎◌, ◌↔◌, ◌+◌, ◌-◌, ◌*◌, ℕ, true, false, List, [], ◌∷◌, ◌++◌}
use Rattle.std.specs.Prelude.{None, Some, codes, replicate, slice_range}
use Rattle.std.specs.Fmt.{decimal}
use Rattle.std.specs.List.{All, Contains}
use Rattle.pm_codefile.specs.declared.file.Slot.{Slot}
use Rattle.pm_volume.specs.Directory.{IsVolume, block_count, directory_of, files_begin}
use Rattle.pm_volume.specs.Files.{files_of}
use Rattle.pm_volume.specs.declared.entry.Entry.{Entry}
use Rattle.pm_undelete.specs.Blocks.{are_free, blocks_of, is_outside, span}
use Rattle.pm_bytes.specs.declared.blocks.TheConstants.{BLOCK}
use Rattle.pm_undelete.specs.Codes.{end_of, is_likely, is_printable}
use Rattle.pm_undelete.specs.Found.{candidates_of, chosen, look_at}
use Rattle.pm_undelete.specs.Lines.{line_of, lines_of}
use Rattle.pm_undelete.specs.Texts.{is_letter, size_of_pages}
use Rattle.pm_undelete.specs.declared.finding.Candidate.{Candidate}
use Rattle.pm_undelete.specs.declared.finding.Looks.TheVariants as looks

-- The areas from block `begin` up to, but not including, `end`: before, between and after the given files. Each area is
-- its first block and the block after its last block. An area can have no blocks.
abbrev pub areas : ℕ → List Entry → ℕ → List (ℕ × ℕ)
areas begin [] end = (begin, end) ∷ []
areas begin (e ∷ files) end = (begin, e.first) ∷ areas e.end files end

-- The free areas of the volume `image`.
abbrev pub areas_of : List ℕ → List (ℕ × ℕ)
areas_of image = areas (files_begin (directory_of image)) (files_of image) (block_count (directory_of image))

-- The candidate `c` begins in the free area `free`, and its first block looks like the beginning of a file.
pub record BeginsIn (image : List ℕ) (c : Candidate) (free : ℕ × ℕ) : Type 0 where
  pub area : Contains (areas_of image) free
  pub after : free.0 ≤ c.first
  pub before : c.first < free.1
  pub looks : look_at image c.first (free.1 - c.first) ≡ Some c

-- `sound`: each candidate begins in a free area of the volume, at a block that looks like the beginning of a file.
-- `complete`: each block of a free area that looks like the beginning of a file is a candidate.
-- `free`: all blocks of a candidate are free.
pub record WorkedCandidates : Type 0 where
  pub sound : (image : List ℕ) (c : Candidate) → Contains (candidates_of image) c
      → (area : ℕ × ℕ) × BeginsIn image c area
  pub complete : (image : List ℕ) (c : Candidate) (area : ℕ × ℕ) → BeginsIn image c area
      → Contains (candidates_of image) c
  pub free : (image : List ℕ) → IsVolume image → (c : Candidate) → Contains (candidates_of image) c
      → are_free image c.first (c.first + c.blocks) ≡ true
  pub code_first : chosen 7 2 4 ≡ Some (record { first = 7; blocks = 2; looks = looks.Code })
  pub text : chosen 7 0 4 ≡ Some (record { first = 7; blocks = 4; looks = looks.Text })
  pub neither : chosen 7 0 0 ≡ None

-- Block `n` is a block of the volume after the directory, and no file has it.
pub record IsFree (image : List ℕ) (n : ℕ) : Type 0 where
  pub after : files_begin (directory_of image) ≤ n
  pub within : n < block_count (directory_of image)
  pub apart : All (λ (e : Entry). (n < e.first) ⊎ (e.end ≤ n)) (files_of image)

-- Block `n` is in one of the free areas of the volume `image`.
abbrev pub IsInArea : List ℕ → ℕ → Type 0
IsInArea image n = (area : ℕ × ℕ) × Contains (areas_of image) area × (area.0 ≤ n) × (n < area.1)

-- `areas`: a block is free if and only if it is in a free area.
-- `each`: blocks are all free if and only if each of them is free.
-- `bytes`: the bytes of free blocks are the bytes of the image from the first block up to the end of the last one.
-- `before`, `behind`: a file that ends before these blocks or begins after them has none of them.
-- `empty`: a file without blocks has none, wherever it is.
pub record WorkedFree : Type 0 where
  pub areas : (image : List ℕ) → IsVolume image → (n : ℕ) → IsFree image n ↔ IsInArea image n
  pub each : (image : List ℕ) (first end : ℕ) → (are_free image first end ≡ true)
      ↔ ((first < end) × ((n : ℕ) → first ≤ n → n < end → IsFree image n))
  pub bytes : (image : List ℕ) → IsVolume image → (first end : ℕ) → are_free image first end ≡ true
      → blocks_of image first end ≡ slice_range image (BLOCK * first) (BLOCK * end)
  pub before : is_outside 10 12 (span 8 10) ≡ true
  pub behind : is_outside 10 12 (span 12 14) ≡ true
  pub first_block : is_outside 10 12 (span 8 11) ≡ false
  pub last_block : is_outside 10 12 (span 11 14) ≡ false
  pub empty : is_outside 10 12 (span 11 11) ≡ true

-- A slot of a dictionary: its block, its length in bytes, and a name of spaces.
abbrev pub slot : ℕ → ℕ → Slot
slot block length = record { block = block; length = length; kind = 0; name = replicate 8 32 }

-- A segment ends with the block that has its last byte. A slot with a segment in block 0 is not likely, and a slot
-- without a segment is. A text file has two blocks of header and two for each page.
pub record WorkedLooks : Type 0 where
  pub one_byte : end_of (slot 1 2) ≡ 2
  pub whole_block : end_of (slot 1 512) ≡ 2
  pub next_block : end_of (slot 1 514) ≡ 3
  pub no_segment : end_of (slot 9 0) ≡ 0
  pub in_dictionary : is_likely (slot 0 2) ≡ false
  pub after_dictionary : is_likely (slot 1 2) ≡ true
  pub unused : is_likely (slot 0 0) ≡ true
  pub unprintable : is_likely (record { block = 1; length = 2; kind = 0; name = replicate 8 0 }) ≡ false
  pub lowest : is_printable 32 ≡ true
  pub below : is_printable 31 ≡ false
  pub highest : is_printable 126 ≡ true
  pub above : is_printable 127 ≡ false
  pub feed : is_letter 10 ≡ true
  pub tab : is_letter 9 ≡ false
  pub no_page : size_of_pages 0 ≡ 0
  pub one_page : size_of_pages 1 ≡ 4
  pub two_pages : size_of_pages 2 ≡ 6

-- Each candidate has its line.
pub record WorkedFoundLines : Type 0 where
  pub text : line_of (record { first = 18; blocks = 4; looks = looks.Text })
      ≡ codes "block " ++ (decimal 18 ++ (codes " blocks " ++ (decimal 4 ++ codes " text\n")))
  pub code : line_of (record { first = 22; blocks = 2; looks = looks.Code })
      ≡ codes "block " ++ (decimal 22 ++ (codes " blocks " ++ (decimal 2 ++ codes " code\n")))
  pub none : lines_of [] ≡ []
