-- The code file and the listing of a program.
use Rattle.std.specs.Prelude.{◌≡◌, ℕ, zero, suc, ◌+◌, ◌-◌, ◌/◌, ◌%◌, List, [], ◌∷◌, ◌++◌, length, map}
use Rattle.std.specs.Prelude.{reverse, replicate, nat_lt, if◌then◌else◌, codes, Option, Some, None}
use Rattle.pm_codefile.specs.Layout.{layout}
use Rattle.pm_code.specs.Item.{Item, item_bytes, size}
use Rattle.pm_code.specs.Program.{Procedure, Segment, FollowFrom, attribute_bytes, code_end, dictionary_bytes}
use Rattle.pm_code.specs.Program.{entry_bytes, jtab_of, procedures_end, segment_bytes, segment_numbered}
use Rattle.pm_code.specs.Shown.{entry_line, padded, shown_item}

abbrev pub bytes_of_segment : Option Segment → List ℕ
bytes_of_segment None = []
bytes_of_segment (Some s) = segment_bytes s

-- The name of a segment padded with spaces to 8 characters, or 8 spaces if no segment is given.
abbrev pub name_of_segment : Option Segment → List ℕ
name_of_segment None = replicate 8 32
name_of_segment (Some s) = s.name ++ replicate (8 - length s.name) 32

-- The segments of program `ss` in the `count` slots from slot `n`; `None` for a slot without a segment.
abbrev pub slots_of : ℕ → ℕ → List Segment → List (Option Segment)
slots_of n zero ss = []
slots_of n (suc count) ss = segment_numbered n ss ∷ slots_of (n + 1) count ss

abbrev pub joined_bytes : List (Option Segment) → List ℕ
joined_bytes [] = []
joined_bytes (s ∷ ss) = bytes_of_segment s ++ joined_bytes ss

-- The code file of program `ss` in the canonical layout. Each segment is in the slot with its number.
unfoldable pub file_of : List Segment → List ℕ
file_of ss =
    let slots = slots_of 0 16 ss in
    layout (map name_of_segment slots) (map (λ s. length (bytes_of_segment s)) slots) (joined_bytes slots)

-- A line of a listing: the procedure, the offset in the segment, the bytes, and their description.
pub record Listed : Type 0 where
  pub procedure : ℕ
  pub at : ℕ
  pub bytes : List ℕ
  pub what : List ℕ

abbrev pub listed_items : ℕ → ℕ → List (Item ℕ) → List Listed
listed_items number at [] = []
listed_items number at (item ∷ items) =
    record { procedure = number; at = at; bytes = item_bytes at item; what = shown_item item }
    ∷ listed_items number (at + size at item) items

-- The lines of the jump table of procedure `number`, from the lowest word at offset `at` upward. So the line of the
-- last entry comes first.
abbrev pub listed_entries : ℕ → ℕ → List ℕ → List Listed
listed_entries number at [] = []
listed_entries number at (place ∷ places) =
    record { procedure = number; at = at; bytes = entry_bytes at (place ∷ []); what = entry_line place }
    ∷ listed_entries number (at + 2) places

abbrev pub listed_attributes : ℕ → Procedure → Listed
listed_attributes number p =
    record { procedure = number; at = jtab_of p - 8; bytes = attribute_bytes number p; what = codes ".ATTR" }

-- The lines of procedure `p`, which has the number `number`: its items, its jump table and its attributes. The lines
-- `rest` follow.
abbrev pub listed_procedure : ℕ → Procedure → List Listed → List Listed
listed_procedure number p rest =
    listed_items number p.start p.items ++ (listed_entries number (code_end p) (reverse p.entries)
    ++ listed_attributes number p ∷ rest)

abbrev pub listed_procedures : ℕ → List Procedure → List Listed → List Listed
listed_procedures number [] rest = rest
listed_procedures number (p ∷ ps) rest = listed_procedure number p (listed_procedures (number + 1) ps rest)

-- The line of the dictionary of segment `s`, which includes the highest word of the segment.
abbrev pub listed_dictionary : Segment → Listed
listed_dictionary s =
    let at = procedures_end 0 s.procedures in
    record {
      procedure = 0;
      at = at;
      bytes = dictionary_bytes at (reverse s.procedures)
          ++ s.number ∷ length s.procedures ∷ [];
      what = codes ".DICT";
    }

-- The lines of segment `s`, in the order of their offsets.
abbrev pub listed_segment : Segment → List Listed
listed_segment s = listed_procedures 1 s.procedures (listed_dictionary s ∷ [])

abbrev pub upper_digit : ℕ → ℕ
upper_digit d = if nat_lt d 10 then 48 + d else 55 + d

-- The text of bytes, each as a space and two hexadecimal digits.
abbrev pub pairs_text : List ℕ → List ℕ
pairs_text [] = []
pairs_text (b ∷ bs) = 32 ∷ upper_digit (b / 16) ∷ upper_digit (b % 16) ∷ pairs_text bs

-- The text of line `l` of segment `number`: the segment in two digits, the procedure in three, the offset in five, the
-- bytes, two spaces, and the description.
abbrev pub listed_line : ℕ → Listed → List ℕ
listed_line number l =
    padded 2 number ++ (32 ∷ padded 3 l.procedure ++
    (32 ∷ padded 5 l.at ++ (pairs_text l.bytes ++ (32 ∷ 32 ∷ l.what ++ (10 ∷ [])))))

abbrev pub listed_lines : ℕ → List Listed → List ℕ
listed_lines number [] = []
listed_lines number (l ∷ ls) = listed_line number l ++ listed_lines number ls

-- The listing of a program, one segment after the other. Each segment has a line for each item and each jump table
-- entry, for the attributes of each procedure, and for the dictionary.
unfoldable pub listing : List Segment → List ℕ
listing [] = []
listing (s ∷ ss) = listed_lines s.number (listed_segment s) ++ listing ss

abbrev pub listed_bytes : List Listed → List ℕ
listed_bytes [] = []
listed_bytes (l ∷ ls) = l.bytes ++ listed_bytes ls

-- States that the joined bytes of the lines of a segment are the bytes of the segment.
abbrev pub ListingIsSegment : Type 0
ListingIsSegment = (s : Segment) → listed_bytes (listed_segment s) ≡ segment_bytes s

-- Is true if each line has the offset of its bytes. The bytes of the first line are at offset `at`.
abbrev pub StandFrom : ℕ → List Listed → Type 0
StandFrom at [] = Unit {0}
StandFrom at (l ∷ ls) = (l.at ≡ at) × StandFrom (at + length l.bytes) ls

-- States that each line of a segment has the offset of its bytes in the segment.
abbrev pub ListingIsPlaced : Type 0
ListingIsPlaced = (s : Segment) → FollowFrom 0 s.procedures → StandFrom 0 (listed_segment s)
