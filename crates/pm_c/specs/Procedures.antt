-- The procedures of a code file, as numbers.
use Rattle.std.specs.Prelude.{ℕ, zero, suc, ◌+◌, ◌-◌, List, [], ◌∷◌, ◌++◌, Option, Some, None, if◌then◌else◌}
use Rattle.std.specs.Prelude.{length, nat_lt, slice_index}
use Rattle.std.specs.Fmt.{decimal}
use Rattle.pm_batch.specs.declared.refusal.Refusal.TheVariants as refusals
use Rattle.pm_codefile.specs.Dictionary.{segment_in}
use Rattle.pm_codefile.specs.Segments.{attributes_in, procedures_in}
use Rattle.pm_codefile.specs.declared.fault.CodeFault.{CodeFault}
use Rattle.pm_codefile.specs.declared.table.Attributes.{Attributes}
use Rattle.pm_tool.specs.Outcomes.{Said, refused}
use Rattle.pm_tool.specs.Products.{ended}

-- The number of a segment: its last byte but one. It is 0 if the segment has no such byte.
abbrev pub segment_number : List ℕ → ℕ
segment_number segment = if nat_lt (length segment) 2 then 0 else slice_index segment (length segment - 2)

-- The line of the procedure with the attribute table `a`, in the segment of slot `slot`: the slot, the number in the
-- table, the number of the segment, the offset of the first instruction, and the sizes of the parameters and of the
-- local variables in bytes.
abbrev pub procedure_line : ℕ → List ℕ → Attributes → List ℕ
procedure_line slot segment a =
    decimal slot ++ (32 ∷ (decimal a.procedure ++ (32 ∷ (decimal (segment_number segment)
    ++ (32 ∷ (decimal a.enter ++ (32 ∷ (decimal a.parameters ++ (32 ∷ (decimal a.locals ++ 10 ∷ []))))))))))

-- The line of a procedure, or no line if the procedure has no attribute table.
abbrev pub line_or_none : ℕ → List ℕ → Option Attributes → List ℕ
line_or_none slot segment None = []
line_or_none slot segment (Some a) = procedure_line slot segment a

-- The lines of `count` procedures of a segment, from number `p` on.
abbrev pub procedures_from : ℕ → List ℕ → ℕ → ℕ → List ℕ
procedures_from slot segment p zero = []
procedures_from slot segment p (suc count) =
    line_or_none slot segment (attributes_in segment p) ++ procedures_from slot segment (p + 1) count

-- The lines of the segment in slot `n`, or no lines if the slot has no segment.
abbrev pub slot_procedures : ℕ → Option (List ℕ) → List ℕ
slot_procedures n None = []
slot_procedures n (Some segment) = procedures_from n segment 1 (procedures_in segment)

-- The lines of `count` slots of a code file, from slot `n` on.
abbrev pub slots_procedures : List ℕ → ℕ → ℕ → List ℕ
slots_procedures file n zero = []
slots_procedures file n (suc count) =
    slot_procedures n (segment_in file n) ++ slots_procedures file (n + 1) count

-- The lines of all procedures of a code file, in ascending order of their slots.
unfoldable pub file_procedures : List ℕ → List ℕ
file_procedures file = slots_procedures file 0 16

-- The defined output of the call: the lines, or the message `refused code N` if the file is no code file.
abbrev pub said_procedures : Option CodeFault → List ℕ → Said
said_procedures None text = ended text None []
said_procedures (Some fault) text = refused (refusals.Code fault) []
