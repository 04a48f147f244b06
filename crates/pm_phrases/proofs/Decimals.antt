-- The decimal digits of a number.
use Rattle.std.proofs.Common.{◌≡◌, ◌≤◌, ◌<◌, ℕ, ◌+◌, ◌/◌, ◌%◌, ◌^◌, List, [], ◌∷◌, ◌++◌, append_assoc, ap, sym, ◌∙◌}
use Rattle.std.specs.Fmt.{decimal}
use Rattle.std.proofs.lemmas.Fmt.{decimal_step}

-- If the digits of `n / 10` and then the last digit of `n` were appended, then the digits of `n` were appended.
pub digit_added : (n : ℕ) (old tens new : List ℕ) → 10 ≤ n → n < 2 ^ 64 → tens ≡ old ++ decimal (n / 10)
    → new ≡ tens ++ ((48 + n % 10) ∷ []) → new ≡ old ++ decimal n
digit_added n old tens new high small front behind =
    behind
    ∙ ap (λ t. t ++ ((48 + n % 10) ∷ [])) front
    ∙ append_assoc old (decimal (n / 10)) ((48 + n % 10) ∷ [])
    ∙ ap (λ t. old ++ t) (sym (decimal_step n high small))
