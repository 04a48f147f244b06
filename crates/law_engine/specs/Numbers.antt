-- Laws of words as signed numbers: division, and the order of the values of a case jump.
use Rattle.std.specs.Prelude.{◌≡◌, ◌≢◌, ◌<◌, ◌⊎◌, ℕ, ◌+◌, ◌*◌, ◌%◌, ◌&&◌, List, true, Ok, if◌then◌else◌, ℤ, pos, ◌+ℤ◌}
use Rattle.std.specs.Prelude.{◌-ℤ◌, ◌*ℤ◌, int_le, int_lt, nat_le, unsigned_abs}
use Rattle.pm_words.specs.Stack.{minus}
use Rattle.pm_families.specs.declared.families.Binary.TheVariants.{Divide, Modulo}
use Rattle.pm_opcode.specs.Spelling.{jump_count, rank}
use Rattle.pm_words.specs.Signed.{signed, word}
use Rattle.pm_rows.specs.Jumps.{case_target, entry_target}
use Rattle.pm_rows.specs.Integers.{binary}

-- `quotient` and `remainder` are those of `a` divided by `b` as signed numbers. DVI and MODI return their words. `a` is
-- the quotient times `b`, plus the remainder. The remainder is less than `b` in absolute value, and is 0 or has the
-- sign of `a`. The signed number of the word of the remainder is the remainder. The same holds for the quotient, except
-- for -32,768 divided by -1.
pub record Division (a b : ℕ) : Type 0 where
  pub quotient : ℤ
  pub remainder : ℤ
  pub divide : binary Divide a b ≡ Ok (word quotient)
  pub modulo : binary Modulo a b ≡ Ok (word remainder)
  pub whole : quotient *ℤ signed b +ℤ remainder ≡ signed a
  pub less : unsigned_abs remainder < unsigned_abs (signed b)
  pub sign : (remainder ≡ pos 0) ⊎ (int_lt remainder (pos 0) ≡ int_lt (signed a) (pos 0))
  pub remainder_fits : signed (word remainder) ≡ remainder
  pub quotient_fits : (a ≢ 32768) ⊎ (b ≢ 65535) → signed (word quotient) ≡ quotient

abbrev pub DivisionIsWhole : Type 0
DivisionIsWhole = (a b : ℕ) → a < 65536 → b < 65536 → b ≢ 0 → Division a b

-- The rank of a word is its signed number plus 32,768. Hence ranks have the order of signed numbers. `jump_count a b`
-- is the difference of the signed numbers plus 1.
pub record RanksAreOrdered (a b : ℕ) : Type 0 where
  pub number : pos (rank a) ≡ signed a +ℤ pos 32768
  pub order : nat_le (rank a) (rank b) ≡ int_le (signed a) (signed b)
  pub distance : int_le (signed a) (signed b) ≡ true → pos (jump_count a b) ≡ signed b -ℤ signed a +ℤ pos 1

abbrev pub RanksFollowSigned : Type 0
RanksFollowSigned = (a b : ℕ) → a < 65536 → b < 65536 → RanksAreOrdered a b

-- If the value is from `low` to `high` as a signed number, then XJP jumps through the entry of its table with the
-- number `value - low`. Otherwise it continues at the jump before the table.
abbrev pub CaseJumpsBySigned : Type 0
CaseJumpsBySigned =
    (low high table value : ℕ) (m : List ℕ) → low < 65536 → high < 65536 → value < 65536 →
    case_target low high table m value ≡
    (if int_le (signed low) (signed value) && int_le (signed value) (signed high)
    then entry_target m ((table + 2 * unsigned_abs (signed value -ℤ signed low)) % 65536)
    else Ok (minus (table % 65536) 2))
