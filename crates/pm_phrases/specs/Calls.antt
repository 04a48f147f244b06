-- The texts of calls and returns.
use Rattle.std.specs.Prelude.{ℕ, ◌==◌, if◌then◌else◌, List, ◌++◌, codes, Option, Some, None}
use Rattle.std.specs.Fmt.{decimal}
use Rattle.std.specs.Option.{unwrap_or}
use Rattle.pm_families.specs.declared.families.Call.{Call}
use Rattle.pm_families.specs.declared.families.Call.TheVariants as call
use Rattle.pm_families.specs.declared.families.Return.{Return}
use Rattle.pm_families.specs.declared.families.Return.TheVariants as return
use Rattle.pm_opcode.specs.declared.operation.Operation.{Operation}
use Rattle.pm_opcode.specs.declared.operation.Operation.TheVariants as operation
use Rattle.pm_notes.specs.Names.{standard_name, system_name}
use Rattle.pm_phrases.specs.Shown.{Shown, arguments, value}

-- The name of procedure `n` of `segment`, or `None`. Only procedures of segment 0, the operating system, have names.
unfoldable pub external_name : ℕ → ℕ → Option (List ℕ)
external_name segment n = if segment == 0 then system_name n else None

-- The text of the called procedure: its name, or the instruction and its numbers if the procedure has no name.
unfoldable pub called_text : Call → List ℕ
called_text (call.Clp n) = codes "CLP_" ++ decimal n
called_text (call.Cgp n) = codes "CGP_" ++ decimal n
called_text (call.Cbp n) = codes "CBP_" ++ decimal n
called_text (call.Cip n) = codes "CIP_" ++ decimal n
called_text (call.Cxp segment n) =
    unwrap_or (external_name segment n) (codes "CXP_" ++ (decimal segment ++ (codes "_" ++ decimal n)))

-- The name, followed by the argument list `operands`; `None` if no name is given.
abbrev pub if_named : Option (List ℕ) → List Shown → Option Shown
if_named (Some name) operands = Some (value 9 (name ++ arguments operands))
if_named None operands = None

unfoldable pub standard_call : ℕ → List Shown → Option Shown
standard_call n operands = if_named (standard_name n) operands

-- The text of a call, or of CSP if the standard procedure has a name. A call has any number of operands.
unfoldable pub called : Operation → List Shown → Option Shown
called (operation.Call c) operands = Some (value 9 (called_text c ++ arguments operands))
called (operation.Standard n) operands = standard_call n operands
called _ operands = None

-- The text of RNP or RBP. The count of result words is shown unless it is 0.
unfoldable pub returned : Return → Shown
returned (return.Normal n) = if n == 0 then value 0 (codes "RETURN") else value 0 (codes "RETURN " ++ decimal n)
returned (return.Base n) =
    if n == 0 then value 0 (codes "RETURN FROM BASE") else value 0 (codes "RETURN FROM BASE " ++ decimal n)
