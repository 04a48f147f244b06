-- The texts of variables.
use Rattle.std.specs.Prelude.{ℕ, ◌&&◌, nat_le, if◌then◌else◌, List, ◌++◌, codes, Option, Some, None}
use Rattle.std.specs.Fmt.{decimal}
use Rattle.pm_families.specs.declared.families.Scope.{Scope}
use Rattle.pm_families.specs.declared.families.Scope.TheVariants as scope
use Rattle.pm_families.specs.declared.families.Variable.{Variable}
use Rattle.pm_families.specs.declared.families.Variable.TheVariants as variable
use Rattle.pm_phrases.specs.declared.around.Around.{Around}
use Rattle.pm_phrases.specs.declared.operand.Form.TheVariants as form
use Rattle.pm_phrases.specs.declared.spelling.Spelling.{Spelling}
use Rattle.pm_phrases.specs.Shown.{Shown, standing, value, value_text}
use Rattle.pm_phrases.specs.Spelled.{marked}

-- The prefix of the name of local variable `n`. The variables from 1 to the size of the parameters are parameters.
unfoldable pub local_word : Around → ℕ → List ℕ
local_word around n = if nat_le 1 n && nat_le n around.parameters then codes "param" else codes "local"

unfoldable pub variable_text : Around → Scope → ℕ → Spelling → List ℕ
variable_text around scope.Global n s = codes "global" ++ marked n s
variable_text around scope.Local n s = local_word around n ++ marked n s
variable_text around (scope.Intermediate links) n s = codes "up" ++ (decimal links ++ (codes "_" ++ marked n s))

-- The text of LAO, LLA, LDA, LDO, LDL or LOD. These instructions have no operands.
unfoldable pub variable_alone : Around → Spelling → Variable → Option Shown
variable_alone around s (variable.Address scope n) = Some (standing form.Variable (variable_text around scope n s))
variable_alone around s (variable.Load scope n) = Some (value 9 (variable_text around scope n s))
variable_alone around s (variable.Store scope n) = None

-- The text of SRO, STL or STR. The operand `a` is the stored value.
unfoldable pub variable_one : Around → Spelling → Variable → Shown → Option Shown
variable_one around s (variable.Store scope n) a =
    Some (value 0 (variable_text around scope n s ++ (codes " := " ++ value_text a 0)))
variable_one around s _ a = None
