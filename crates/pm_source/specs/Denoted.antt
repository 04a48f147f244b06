-- The meaning of a listing: the bytes of the segments that its characters denote.
use Rattle.std.specs.Prelude.{◌≡◌, ℕ, ◌+◌, ◌==◌, List, [], ◌∷◌, ◌++◌, length, map, if◌then◌else◌}
use Rattle.std.specs.Str.Lines.{lines}
use Rattle.std.specs.Str.Parse.{digits_value}
use Rattle.pm_code.specs.Program.{segment_numbered, Segment, FitSlots, IsProgram}
use Rattle.pm_code.specs.Image.{Listed, bytes_of_segment, listed_segment, listing}
use Rattle.pm_source.specs.Words.{Cut, cut}

-- The contents of one line of a listing: a segment, a procedure, an offset in the segment, and the bytes at this
-- offset.
pub record Denoted : Type 0 where
  pub segment : ℕ
  pub procedure : ℕ
  pub at : ℕ
  pub bytes : List ℕ

-- The bytes that a line denotes, up to a second space. Each byte is written as a space and two hexadecimal digits.
abbrev pub pairs_value : List ℕ → List ℕ
pairs_value [] = []
pairs_value (space ∷ []) = []
pairs_value (space ∷ high ∷ []) = []
pairs_value (space ∷ high ∷ low ∷ rest) =
    if high == 32 then [] else digits_value 16 (high ∷ low ∷ []) ∷ pairs_value rest

-- The contents of a line of a listing, from its first three words and the characters after them.
abbrev pub line_by_words : Cut → Cut → Cut → Denoted
line_by_words segment procedure at = record {
  segment = digits_value 10 segment.word;
  procedure = digits_value 10 procedure.word;
  at = digits_value 10 at.word;
  bytes = pairs_value at.rest;
}

-- The contents of a line of a listing, from its characters: three decimal numbers, and then the bytes. Characters after
-- the bytes are ignored.
abbrev pub line_value : List ℕ → Denoted
line_value cs = line_by_words (cut cs) (cut (cut cs).rest) (cut (cut (cut cs).rest).rest)

-- The contents of all lines of a listing, from its characters.
unfoldable pub denoted : List ℕ → List Denoted
denoted shown = map line_value (lines shown)

-- The lines of the list that belong to segment `n`.
abbrev pub of_segment : ℕ → List Denoted → List Denoted
of_segment n [] = []
of_segment n (d ∷ ds) = if d.segment == n then d ∷ of_segment n ds else of_segment n ds

-- The bytes of all lines of the list, joined.
abbrev pub bytes_of_lines : List Denoted → List ℕ
bytes_of_lines [] = []
bytes_of_lines (d ∷ ds) = d.bytes ++ bytes_of_lines ds

-- The bytes that a listing denotes for segment `n`: the bytes of its lines, joined.
abbrev pub denoted_bytes : ℕ → List ℕ → List ℕ
denoted_bytes n shown = bytes_of_lines (of_segment n (denoted shown))

-- States that each line has the offset of its bytes, if the bytes of the first line are at offset `at`.
abbrev pub ArePlacedFrom : ℕ → List Denoted → Type 0
ArePlacedFrom at [] = Unit {0}
ArePlacedFrom at (d ∷ ds) = (d.at ≡ at) × ArePlacedFrom (at + length d.bytes) ds

-- The contents of a line of a listing that shows `l`, a line of the segment `number`.
abbrev pub denoted_line : ℕ → Listed → Denoted
denoted_line number l = record { segment = number; procedure = l.procedure; at = l.at; bytes = l.bytes }

abbrev pub denoted_program : List Segment → List Denoted
denoted_program [] = []
denoted_program (s ∷ ss) = map (denoted_line s.number) (listed_segment s) ++ denoted_program ss

-- If a listing shows a program, then the contents of its lines are the lines of the program: their segments,
-- procedures, offsets and bytes.
abbrev pub ListingIsRead : Type 0
ListingIsRead = (ss : List Segment) → IsProgram ss → FitSlots ss → denoted (listing ss) ≡ denoted_program ss

-- If a listing shows a program, then the bytes that it denotes for segment `n` are the bytes of this segment. They are
-- empty if the program has no segment `n`. Each line has the offset of its bytes in the segment.
abbrev pub ListingDenotesSegments : Type 0
ListingDenotesSegments = (ss : List Segment) (n : ℕ) → IsProgram ss → FitSlots ss
    → (denoted_bytes n (listing ss) ≡ bytes_of_segment (segment_numbered n ss))
    × ArePlacedFrom 0 (of_segment n (denoted (listing ss)))
