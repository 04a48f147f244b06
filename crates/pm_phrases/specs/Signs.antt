-- Operators and their precedence, as in Pascal. The operator of the highest precedence is applied first.
use Rattle.std.specs.Prelude.{ℕ, List, codes}
use Rattle.pm_families.specs.declared.families.Binary.{Binary}
use Rattle.pm_families.specs.declared.families.Binary.TheVariants as binary
use Rattle.pm_families.specs.declared.families.Relation.{Relation}
use Rattle.pm_families.specs.declared.families.Relation.TheVariants as relation

abbrev pub binary_sign : Binary → List ℕ
binary_sign binary.Add = codes "+"
binary_sign binary.Subtract = codes "-"
binary_sign binary.Multiply = codes "*"
binary_sign binary.Divide = codes "DIV"
binary_sign binary.Modulo = codes "MOD"
binary_sign binary.And = codes "AND"
binary_sign binary.Or = codes "OR"

abbrev pub binary_strength : Binary → ℕ
binary_strength binary.Add = 2
binary_strength binary.Subtract = 2
binary_strength binary.Or = 2
binary_strength binary.Multiply = 3
binary_strength binary.Divide = 3
binary_strength binary.Modulo = 3
binary_strength binary.And = 3

abbrev pub relation_sign : Relation → List ℕ
relation_sign relation.Equal = codes "="
relation_sign relation.NotEqual = codes "<>"
relation_sign relation.Less = codes "<"
relation_sign relation.LessOrEqual = codes "<="
relation_sign relation.Greater = codes ">"
relation_sign relation.GreaterOrEqual = codes ">="
