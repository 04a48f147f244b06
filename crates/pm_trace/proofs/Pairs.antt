-- Lemmas about the pairs of digits in the table `PAIRS`.
use Rattle.std.proofs.Common.{◌≡◌, ◌<◌, ℕ, ◌+◌, ◌/◌, ◌%◌, List, [], ◌∷◌, get_or, ◌∙◌, ap, arith}
use Rattle.std.specs.Prelude.{map}
use Rattle.std.specs.List.{range_with_len}
use Rattle.std.proofs.lemmas.List.FromFn.{get_or-map-range_with_len}

abbrev two_digits : ℕ → List ℕ
two_digits n = (48 + n / 10) ∷ (48 + n % 10) ∷ []

-- If the whole table has the two digits of each number below 100, then pair `n` has the two digits of `n`.
pub pair_in : (pairs : List (List ℕ)) (n : ℕ) (d : List ℕ) → pairs ≡ map two_digits (range_with_len 0 100) → n < 100
    → get_or pairs n d ≡ (48 + n / 10) ∷ (48 + n % 10) ∷ []
pair_in pairs n d e h = ap (λ xs. get_or xs n d) e ∙ get_or-map-range_with_len two_digits 0 100 n n d h (omega arith)
