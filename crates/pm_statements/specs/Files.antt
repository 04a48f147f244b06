-- The text of a code file as statements.
use Rattle.std.specs.Prelude.{◌≡◌, Bool, ℕ, zero, suc, ◌+◌, ◌==◌, List, [], ◌∷◌, ◌++◌, nat_le, Option, Some, None}
use Rattle.std.specs.Prelude.{◌*◌, codes, length, if◌then◌else◌, IfSome}
use Rattle.std.specs.Fmt.{decimal, signed_decimal}
use Rattle.std.specs.List.{AllByRecursion, list_any}
use Rattle.std.specs.Str.{bytes_eq}
use Rattle.pm_codefile.specs.Dictionary.{segment_in}
use Rattle.pm_codefile.specs.Segments.{attributes_in, procedures_in}
use Rattle.pm_codefile.specs.declared.table.Attributes.{Attributes}
use Rattle.pm_disasm.specs.Split.{procedure_of}
use Rattle.pm_code.specs.declared.program.Procedure as declared
use Rattle.pm_code.specs.Program.{Procedure, is_among}
use Rattle.pm_code.specs.Shown.{label_text}
use Rattle.pm_code.specs.Views.{procedure_seen}
use Rattle.pm_statements.specs.Callees.{callee_of, no_return, returns_from, system_callee}
use Rattle.pm_trees.specs.Parts.{Known}
use Rattle.pm_statements.specs.Bodies.{procedure_statements}
use Rattle.pm_statements.specs.declared.callees.Returns.{Returns}
use Rattle.pm_statements.specs.declared.callees.Returns.TheVariants as returns
use Rattle.pm_trees.specs.declared.items.Layout.{Layout}
use Rattle.pm_trees.specs.declared.items.Layout.TheVariants as layouts
use Rattle.pm_trees.specs.declared.part.Callee.{Callee}
use Rattle.pm_statements.specs.declared.sized.SizedTable.{SizedTable}
use Rattle.pm_statements.specs.declared.sized.SizedSegment.{SizedSegment}

-- ---- the sizes of a file's procedures

-- Returns the sizes of the procedure of the attribute table `a`. Returns None if the exit code is before the code.
unfoldable pub table_callee : List ℕ → Attributes → Option Callee
table_callee segment a = if nat_le a.enter a.exit then callee_of (procedure_of segment a) else None

-- Returns the sizes of the procedure of an attribute table, or None if the number has no attribute table.
abbrev pub callee_in : List ℕ → Option Attributes → Option Callee
callee_in segment None = None
callee_in segment (Some a) = table_callee segment a

-- Returns the sizes for `count` procedure numbers of `segment`, from number `n` on.
abbrev pub callees_from : List ℕ → ℕ → ℕ → List (Option Callee)
callees_from segment n zero = []
callees_from segment n (suc count) = callee_in segment (attributes_in segment n) ∷ callees_from segment (n + 1) count

-- Returns the sizes for `count` procedures of the operating system, from number `n` on.
abbrev pub system_from : ℕ → ℕ → List (Option Callee)
system_from n zero = []
system_from n (suc count) = system_callee n ∷ system_from (n + 1) count

-- Returns the sizes for the 256 procedure numbers of slot `n`, from its segment. If slot 0 has no segment, the sizes
-- are those of the operating system.
abbrev pub slot_callees : ℕ → Option (List ℕ) → List (Option Callee)
slot_callees n (Some segment) = None ∷ callees_from segment 1 255
slot_callees n None = if n == 0 then None ∷ system_from 1 255 else None ∷ callees_from [] 1 255

-- Returns the sizes for `count` slots of `file`, from slot `n` on.
abbrev pub slots_callees : List ℕ → ℕ → ℕ → List (Option Callee)
slots_callees file n zero = []
slots_callees file n (suc count) = slot_callees n (segment_in file n) ++ slots_callees file (n + 1) count

-- Returns the sizes of all procedures of `file`: 256 elements for each slot, by procedure number.
unfoldable pub file_callees : List ℕ → List (Option Callee)
file_callees file = slots_callees file 0 16

-- Returns how many words the returns of the procedure `p` leave.
abbrev pub returns_in : Procedure → Returns
returns_in p = returns_from no_return p.items

-- If `s` caches a procedure, it is the procedure that its attribute table has in `segment`, and `returns` of `s` is
-- correct for it.
abbrev pub IsKept : List ℕ → SizedTable → Type 0
IsKept segment s = IfSome s.procedure (λ p. (procedure_seen p ≡ procedure_of segment s.table)
    × (s.returns ≡ returns_in (procedure_seen p)))

-- Returns the number of items of a procedure, or 0 for None.
abbrev pub count_of : Option declared.Procedure → ℕ
count_of None = 0
count_of (Some p) = length p.items.items

-- Returns the number of items of the procedure that `s` caches, or 0 if no procedure is cached.
abbrev pub items_kept : SizedTable → ℕ
items_kept s = count_of s.procedure

-- The sizes of `s` are those of its attribute table in `segment`, and its cached procedure is correct.
abbrev pub IsSizedTable : List ℕ → SizedTable → Type 0
IsSizedTable segment s = (s.callee ≡ table_callee segment s.table) × IsKept segment s

-- Returns the sizes for the 256 procedure numbers of `segment`. Number 0 has no procedure.
abbrev pub segment_callees : List ℕ → List (Option Callee)
segment_callees segment = None ∷ callees_from segment 1 255

-- The sizes and the attribute tables of `s` are correct for the bytes of its segment.
pub record IsSizedSegment (s : SizedSegment) : Type 0 where
  pub callees : s.callees.items ≡ segment_callees s.segment.now
  pub tables : AllByRecursion (IsSizedTable s.segment.now) s.tables.items

-- Is true if one of `segments` has these bytes.
abbrev pub is_sized : List SizedSegment → List ℕ → Bool
is_sized segments bytes = list_any (λ s. bytes_eq s.segment.now bytes) segments

-- ---- the text

-- Returns the beginning of the first line of a procedure: its number and its slot.
abbrev pub named : ℕ → ℕ → List ℕ
named number slot = codes "PROCEDURE " ++ (decimal number ++ (codes " OF SEGMENT " ++ decimal slot))

-- Returns the size of the result in bytes. The text is empty unless all returns leave the same number of words.
abbrev pub result_text : Returns → List ℕ
result_text (returns.Of n) = codes ", " ++ (decimal (2 * n) ++ codes " of result")
result_text _ = []

-- Returns the first line of a procedure: its number and slot, its level, and the sizes of its parameters, locals and
-- result in bytes.
abbrev pub header : ℕ → Attributes → Returns → List ℕ
header slot a r = named a.procedure slot ++ (codes ": level " ++ (signed_decimal a.level
    ++ (codes ", " ++ (decimal a.parameters ++ (codes " bytes of parameters, " ++ (decimal a.locals
    ++ (codes " of locals" ++ result_text r)))))))

-- Returns a line for each entry of a jump table, from entry `k` on. A line has `^`, the number of the entry, and the
-- label of its target.
abbrev pub entry_lines : ℕ → List ℕ → List ℕ
entry_lines k [] = []
entry_lines k (place ∷ places) =
    (10 ∷ 94 ∷ (decimal k ++ (32 ∷ label_text place))) ++ entry_lines (k + 1) places

-- Returns the text of a procedure with code: its first line, the lines of its jump table, and its statements.
abbrev pub code_text : Known → Attributes → Procedure → List ℕ
code_text k a p =
    ((header k.segment a (returns_in p) ++ entry_lines 0 p.entries) ++ procedure_statements k p) ++ 10 ∷ []

-- Returns the text of the procedure of the attribute table `a`. If the exit code is before the code, the text is one
-- line that says so.
unfoldable pub table_text : Known → List ℕ → Attributes → List ℕ
table_text k segment a = if nat_le a.enter a.exit
    then code_text k a (procedure_of segment a)
    else named a.procedure k.segment ++ (codes ": no code" ++ 10 ∷ [])

-- Returns the line for a procedure number whose attribute table `a` was already shown. The line names the number that
-- is in that table.
abbrev pub repeated_text : ℕ → ℕ → Attributes → List ℕ
repeated_text number slot a =
    named number slot ++ (codes ": shown above as PROCEDURE " ++ (decimal a.procedure ++ 10 ∷ []))

-- Returns the text for procedure number `p`. `shown` has the offsets of the attribute tables that were already shown.
-- The text is one line if the number has no table, or if `shown` contains its table.
abbrev pub numbered_text : Known → List ℕ → List ℕ → ℕ → Option Attributes → List ℕ
numbered_text k segment shown p None = named p k.segment ++ (codes ": no table" ++ 10 ∷ [])
numbered_text k segment shown p (Some a) =
    if is_among shown a.jtab then repeated_text p k.segment a else table_text k segment a

-- Returns the offsets of the attribute tables that were shown, after one more procedure number was shown.
abbrev pub with_table : List ℕ → Option Attributes → List ℕ
with_table shown None = shown
with_table shown (Some a) = if is_among shown a.jtab then shown else shown ++ a.jtab ∷ []

-- Returns the text for `count` procedure numbers of `segment`, from number `p` on. Each attribute table is shown once.
abbrev pub tables_text : Known → List ℕ → List ℕ → ℕ → ℕ → List ℕ
tables_text k segment shown p zero = []
tables_text k segment shown p (suc count) = numbered_text k segment shown p (attributes_in segment p)
    ++ tables_text k segment (with_table shown (attributes_in segment p)) (p + 1) count

-- Returns the text of the segment in slot `n`, or no text if the slot has no segment.
abbrev pub slot_text : List (Option Callee) → Layout → ℕ → Option (List ℕ) → List ℕ
slot_text callees layout n None = []
slot_text callees layout n (Some segment) = tables_text
    (record { segment = n; callees = callees; layout = layout }) segment [] 1 (procedures_in segment)

-- Returns the text for `count` slots of `file`, from slot `n` on.
abbrev pub slots_text : List (Option Callee) → Layout → List ℕ → ℕ → ℕ → List ℕ
slots_text callees layout file n zero = []
slots_text callees layout file n (suc count) =
    slot_text callees layout n (segment_in file n) ++ slots_text callees layout file (n + 1) count

-- Returns the text of the code file `file`: its segments in ascending order of their slots.
unfoldable pub file_text : Layout → List ℕ → List ℕ
file_text layout file = slots_text (file_callees file) layout file 0 16

-- Returns the text of the code file `file` as statements without indentation.
abbrev pub file_statements : List ℕ → List ℕ
file_statements file = file_text layouts.Flat file

-- Returns the text of the code file `file` as statements, each indented by its depth.
abbrev pub indented_statements : List ℕ → List ℕ
indented_statements file = file_text layouts.Indented file

-- Returns the text of the code file `file` as statements in blocks.
abbrev pub block_statements : List ℕ → List ℕ
block_statements file = file_text layouts.Blocks file
