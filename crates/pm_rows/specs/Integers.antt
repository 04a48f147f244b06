-- The operations of the instructions on integers. The results are words, modulo 65,536.
use Rattle.std.specs.Prelude.{ℕ, ◌+◌, ◌-◌, ◌*◌, ◌%◌, Bool, not, Result, Ok, Err, if◌then◌else◌, ◌==◌, ℤ}
use Rattle.std.specs.Prelude.{unsigned_abs, int_lt, int_le, int_div, int_rem, bit_and, bit_or}
use Rattle.pm_words.specs.declared.error.ExecError.{ExecError}
use Rattle.pm_words.specs.declared.error.ExecError.TheVariants.{DivideByZero}
use Rattle.pm_words.specs.Stack.{minus}
use Rattle.pm_words.specs.Signed.{signed, word}
use Rattle.pm_families.specs.declared.families.Unary.{Unary}
use Rattle.pm_families.specs.declared.families.Unary.TheVariants.{Absolute, Negate, Square, Complement}
use Rattle.pm_families.specs.declared.families.Binary.{Binary}
use Rattle.pm_families.specs.declared.families.Binary.TheVariants.{Add, Subtract, Multiply, Divide, Modulo, And, Or}
use Rattle.pm_families.specs.declared.families.Relation.{Relation}
use Rattle.pm_families.specs.declared.families.Relation.TheVariants.{Equal, GreaterOrEqual, Greater, LessOrEqual, Less}
use Rattle.pm_families.specs.declared.families.Relation.TheVariants.{NotEqual}

-- The result of an operation on the word `a`: the absolute value, the negative, the square, or the complement of all
-- bits.
abbrev pub unary : Unary → ℕ → ℕ
unary Absolute a = unsigned_abs (signed a)
unary Negate a = minus 0 a
unary Square a = (a * a) % 65536
unary Complement a = 65535 - a

-- The signed result `f a b` as a word, or the error `DivideByZero` if `b` is 0.
abbrev pub divided : (ℤ → ℤ → ℤ) → ℕ → ℕ → Result ℕ ExecError
divided f a b = if b == 0 then Err DivideByZero else Ok (word (f (signed a) (signed b)))

-- The result of an operation on the words `a` and `b`. The quotient is rounded toward zero, and the remainder has the
-- sign of `a`.
abbrev pub binary : Binary → ℕ → ℕ → Result ℕ ExecError
binary Add a b = Ok ((a + b) % 65536)
binary Subtract a b = Ok (minus a b)
binary Multiply a b = Ok ((a * b) % 65536)
binary Divide a b = divided int_div a b
binary Modulo a b = divided int_rem a b
binary And a b = Ok (bit_and a b)
binary Or a b = Ok (bit_or a b)

-- Whether a relation is true for `a` and `b` as signed numbers.
abbrev pub relation : Relation → ℕ → ℕ → Bool
relation Equal a b = a == b
relation NotEqual a b = not (a == b)
relation Less a b = int_lt (signed a) (signed b)
relation LessOrEqual a b = int_le (signed a) (signed b)
relation Greater a b = int_lt (signed b) (signed a)
relation GreaterOrEqual a b = int_le (signed b) (signed a)
