-- Worked examples: results of the definitions of integer operations for a few words, worked out by hand.
use Rattle.std.specs.Prelude.{◌≡◌, Ok, Err, true, false}
use Rattle.pm_words.specs.declared.error.ExecError.TheVariants.{DivideByZero}
use Rattle.pm_families.specs.declared.families.Unary.TheVariants.{Absolute, Negate, Square, Complement}
use Rattle.pm_families.specs.declared.families.Binary.TheVariants.{Add, Subtract, Multiply, Divide, Modulo}
use Rattle.pm_families.specs.declared.families.Relation.TheVariants.{Less}
use Rattle.pm_rows.specs.Integers.{binary, relation, unary}

pub record WorkedResults : Type 0 where
  -- Sums and products are taken modulo 65,536: 32,767 + 1 is the word 32,768.
  pub sum : binary Add 32767 1 ≡ Ok 32768
  pub difference : binary Subtract 0 1 ≡ Ok 65535
  pub product : binary Multiply 256 257 ≡ Ok 256
  -- The quotient of -7 and 2 is -3, and the remainder is -1. The quotient of -32,768 and -1 is the word 32,768.
  -- Division by 0 fails.
  pub quotient : binary Divide 65529 2 ≡ Ok 65533
  pub remainder : binary Modulo 65529 2 ≡ Ok 65535
  pub wrapped : binary Divide 32768 65535 ≡ Ok 32768
  pub by_zero : binary Divide 65529 0 ≡ Err DivideByZero
  -- The absolute value and the negative of -32,768 are the same word, 32,768.
  pub absolute : unary Absolute 32768 ≡ 32768
  pub negative : unary Negate 32768 ≡ 32768
  pub square : unary Square 65535 ≡ 1
  pub complement : unary Complement 0 ≡ 65535
  -- Words are compared as signed numbers.
  pub below : relation Less 65535 0 ≡ true
  pub not_below : relation Less 32767 32768 ≡ false
