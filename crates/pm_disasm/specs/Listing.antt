-- The listing of a code file. It shows the bytes of the file at their offsets in their segments, for any layout of the
-- file.
use Rattle.std.specs.Prelude.{◌≡◌, ◌≤◌, ℕ, zero, suc, ◌+◌, ◌-◌, ◌*◌, List, [], ◌∷◌, ◌++◌, codes, drop, length, reverse}
use Rattle.std.specs.Prelude.{take, nat_lt, if◌then◌else◌, Option, Some, None}
use Rattle.std.specs.List.{AllByRecursion}
use Rattle.pm_codefile.specs.declared.table.Attributes.{Attributes}
use Rattle.pm_codefile.specs.Dictionary.{segment_in}
use Rattle.pm_codefile.specs.Segments.{attributes_in, procedures_in}
use Rattle.pm_code.specs.Image.{Listed, listed_line, listed_lines, listed_segment}
use Rattle.pm_code.specs.Item.{Item, size}
use Rattle.pm_code.specs.Program.{AreInstructions, IsSegment, Procedure, Segment, segment_bytes}
use Rattle.pm_code.specs.Shown.{entry_line, joined, shown_item}
use Rattle.pm_disasm.specs.Shown.{missing_line}
use Rattle.pm_disasm.specs.Split.{procedure_of}

-- A line of the listing of a segment: `count` bytes of the segment from offset `at`, and their description `what`.
abbrev pub stored : List ℕ → ℕ → ℕ → ℕ → List ℕ → Listed
stored segment procedure at count what =
    record { procedure = procedure; at = at; bytes = take count (drop at segment); what = what }

-- The lines of adjacent items, the first of which is at offset `at`.
abbrev pub stored_items : List ℕ → ℕ → ℕ → List (Item ℕ) → List Listed
stored_items segment number at [] = []
stored_items segment number at (item ∷ items) =
    stored segment number at (size at item) (shown_item item)
    ∷ stored_items segment number (at + size at item) items

-- The lines of a jump table, from its lowest word at offset `at` upward. The last entry comes first.
abbrev pub stored_entries : List ℕ → ℕ → ℕ → List ℕ → List Listed
stored_entries segment number at [] = []
stored_entries segment number at (place ∷ places) =
    stored segment number at 2 (entry_line place) ∷ stored_entries segment number (at + 2) places

-- The lines of procedure `p`, which has the attribute table `a`: its items, its jump table and its attributes. Each
-- line has the procedure number of the table.
abbrev pub stored_procedure : List ℕ → Attributes → Procedure → List Listed
stored_procedure segment a p =
    stored_items segment a.procedure a.enter p.items
    ++ (stored_entries segment a.procedure (a.jtab - 8 - 2 * length p.entries) (reverse p.entries)
    ++ stored segment a.procedure (a.jtab - 8) 10 (codes ".ATTR") ∷ [])

-- The listing of the procedure with the attribute table `a`. If its exit code is before its code, the listing is only a
-- comment.
abbrev pub table_listing : ℕ → List ℕ → Attributes → List ℕ
table_listing slot segment a =
    if nat_lt a.exit a.enter then joined (missing_line a.procedure)
    else listed_lines slot (stored_procedure segment a (procedure_of segment a))

abbrev pub table_listing_or : ℕ → List ℕ → ℕ → Option Attributes → List ℕ
table_listing_or slot segment p None = joined (missing_line p)
table_listing_or slot segment p (Some a) = table_listing slot segment a

-- The listing of `count` procedures of a segment, from number `p` on.
abbrev pub tables_listing : ℕ → List ℕ → ℕ → ℕ → List ℕ
tables_listing slot segment p zero = []
tables_listing slot segment p (suc count) =
    table_listing_or slot segment p (attributes_in segment p) ++ tables_listing slot segment (p + 1) count

-- The line of the dictionary of `segment`, which includes the highest word.
abbrev pub stored_dictionary : List ℕ → Listed
stored_dictionary segment =
    let at = length segment - (2 + 2 * procedures_in segment) in
    stored segment 0 at (length segment - at) (codes ".DICT")

-- The listing of the segment in slot `n`. It is empty if the slot has no segment.
abbrev pub slot_listing : ℕ → Option (List ℕ) → List ℕ
slot_listing n None = []
slot_listing n (Some segment) =
    tables_listing n segment 1 (procedures_in segment) ++ listed_line n (stored_dictionary segment)

-- The listing of `count` slots of a code file, from slot `n` on.
abbrev pub slots_listing : List ℕ → ℕ → ℕ → List ℕ
slots_listing file n zero = []
slots_listing file n (suc count) = slot_listing n (segment_in file n) ++ slots_listing file (n + 1) count

-- The listing of a code file: its segments in ascending order of their slots.
unfoldable pub file_listing : List ℕ → List ℕ
file_listing file = slots_listing file 0 16

-- States that the bytes of each line of a procedure are those of its segment at the offset in the line.
abbrev pub LinesAreStored : Type 0
LinesAreStored = (segment : List ℕ) (a : Attributes)
    → AllByRecursion (λ l. l.bytes ≡ take (length l.bytes) (drop l.at segment))
    (stored_procedure segment a (procedure_of segment a))

-- States that the listing of the bytes of a program's segment is the listing of the program's segment, if all its items
-- are instructions.
abbrev pub ListingIsProgrammed : Type 0
ListingIsProgrammed = (s : Segment) → IsSegment s → length (segment_bytes s) ≤ 65534
    → AllByRecursion (λ p. AreInstructions p.items) s.procedures
    → slot_listing s.number (Some (segment_bytes s)) ≡ listed_lines s.number (listed_segment s)
