-- The three operations that combine two sets: intersection, union and difference.
use Rattle.std.specs.Prelude.{ℕ, ◌&&◌, ◌||◌, Bool, not, max, min, bit_and, bit_or}
use Rattle.std.specs.Int.{bit_not, w16}
use Rattle.pm_values.specs.declared.sets.Combination.{Combination}
use Rattle.pm_values.specs.declared.sets.Combination.TheVariants.{Intersection, Union, Difference}

-- The number of words of the combination of two sets that have `s` and `t` words.
abbrev pub count_of : Combination → ℕ → ℕ → ℕ
count_of Intersection s t = min s t
count_of Union s t = max s t
count_of Difference s t = s

-- Whether a number is in the combination of two sets. `s` is true if the number is in the first set, and `t` if it is
-- in the second set.
abbrev pub test_of : Combination → Bool → Bool → Bool
test_of Intersection s t = s && t
test_of Union s t = s || t
test_of Difference s t = s && not t

-- A word of the combination of two sets, whose words at the same index are `a` and `b`.
abbrev pub combined_word : Combination → ℕ → ℕ → ℕ
combined_word Intersection a b = bit_and a b
combined_word Union a b = bit_or a b
combined_word Difference a b = bit_and a (bit_not w16 b)
