-- Code files as text.
use Rattle.std.specs.Prelude.{ℕ, zero, suc, ◌+◌, List, [], ◌∷◌, ◌++◌, map}
use Rattle.std.specs.Prelude.{reverse, nat_lt, ◌==◌, if◌then◌else◌, codes, Option, Some, None}
use Rattle.std.specs.Fmt.{decimal}
unfoldable pub use Rattle.pm_bytes.specs.Decimals.{padded}
use Rattle.pm_codefile.specs.declared.table.Attributes.{Attributes}
use Rattle.pm_codefile.specs.Dictionary.{segment_in, slot_in}
use Rattle.pm_codefile.specs.Segments.{attributes_in, procedures_in}
use Rattle.pm_code.specs.Program.{is_name_character}
use Rattle.pm_disasm.specs.Split.{procedure_of}
use Rattle.pm_code.specs.Shown.{joined, procedure_lines, segment_line}
use Rattle.pm_code.specs.Laws.{name_of}

-- The comment for a procedure that cannot be shown.
abbrev pub missing_line : ℕ → List (List ℕ)
missing_line number = (codes "; procedure " ++ decimal number) ∷ []

-- The lines of the procedure that has the attribute table `a`. If its exit code is before its code, it is shown as a
-- comment with its number.
abbrev pub table_lines : List ℕ → Attributes → List (List ℕ)
table_lines segment a =
    if nat_lt a.exit a.enter then missing_line a.procedure else procedure_lines a.procedure (procedure_of segment a)

-- The lines of procedure `p` of `segment`. If the procedure has no attribute table, it is shown as a comment with its
-- number.
abbrev pub table_lines_or : List ℕ → ℕ → Option Attributes → List (List ℕ)
table_lines_or segment p None = missing_line p
table_lines_or segment p (Some a) = table_lines segment a

-- The lines of `count` procedures of a segment, from number `p` on.
abbrev pub tables_lines : List ℕ → ℕ → ℕ → List (List ℕ)
tables_lines segment p zero = []
tables_lines segment p (suc count) =
    table_lines_or segment p (attributes_in segment p) ++ tables_lines segment (p + 1) count

-- Removes the spaces at the beginning of a name that is in reverse order. So a name in a code file loses the spaces at
-- its end. The definitions that follow show an empty name, and each byte that is not allowed, as a question mark.
abbrev pub cut : List ℕ → List ℕ
cut [] = []
cut (c ∷ cs) = if c == 32 then cut cs else c ∷ cs

abbrev pub or_mark : List ℕ → List ℕ
or_mark [] = 63 ∷ []
or_mark (c ∷ cs) = c ∷ cs

abbrev pub shown_name : List ℕ → List ℕ
shown_name name = or_mark (map (λ c. if is_name_character c then c else 63) (reverse (cut (reverse name))))

-- The lines of the segment in slot `n`. The list is empty if the slot has no segment.
abbrev pub slot_lines : ℕ → List ℕ → Option (List ℕ) → List (List ℕ)
slot_lines n name None = []
slot_lines n name (Some segment) = segment_line n (shown_name name) ∷ tables_lines segment 1 (procedures_in segment)

-- The first line of the segment in slot `n`, with a line feed. It is empty if the slot has no segment.
abbrev pub slot_head : ℕ → List ℕ → Option (List ℕ) → List ℕ
slot_head n name None = []
slot_head n name (Some segment) = joined (segment_line n (shown_name name) ∷ [])

-- The lines of `count` slots of a code file, from slot `n` on.
abbrev pub slots_lines : List ℕ → ℕ → ℕ → List (List ℕ)
slots_lines file n zero = []
slots_lines file n (suc count) =
    slot_lines n (name_of (slot_in file n)) (segment_in file n) ++ slots_lines file (n + 1) count

-- The text of a procedure of a segment.
unfoldable pub procedure_text : List ℕ → Attributes → List ℕ
procedure_text segment a = joined (table_lines segment a)

-- The text of a code file: its segments in ascending order of their slots.
unfoldable pub file_text : List ℕ → List ℕ
file_text file = joined (slots_lines file 0 16)
