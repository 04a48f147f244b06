-- Words as signed numbers, and truth values as words. A word of 32,768 or more represents this word less 65,536.
use Rattle.std.specs.Prelude.{ℕ, ◌-◌, ◌%◌, Bool, ℤ, pos, negsuc, if◌then◌else◌}
use Rattle.std.specs.Int.{w16, cast_signed}

-- The signed number that the word `w` represents.
abbrev pub signed : ℕ → ℤ
signed w = cast_signed w16 w

-- The word that represents a signed number, modulo 65,536.
abbrev pub word : ℤ → ℕ
word (pos n) = n % 65536
word (negsuc n) = 65535 - n % 65536

-- The word of a truth value: 1 for true, 0 for false.
abbrev pub truth : Bool → ℕ
truth b = if b then 1 else 0
