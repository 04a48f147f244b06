-- Lemmas about the numbers of a line, digit by digit and word by word.
use Rattle.std.proofs.Common.{◌≡◌, ◌∙◌, ◌+◌, ◌-◌, ◌*◌, ◌^◌, ◌≤◌, ◌<◌, ap, sym, refl, arith, ℕ, zero, suc, Bool, true, false, List, [], ◌∷◌, ◌++◌, length}
use Rattle.std.proofs.Common.{append_assoc, append-nil, Option, Some, None}
use Rattle.std.specs.Prelude.{nat_lt, if◌then◌else◌}
use Rattle.std.proofs.lemmas.Bool.Decides.{nat_tests}
use Rattle.pm_notes.specs.Names.{is_digit}
use Rattle.pm_session.specs.Commands.{number_and_numbers, word_number, number_behind, numbers}

-- If `n` is above 4,294,967,295, then further digits do not give a number.
number_large : (n : ℕ) (word : List ℕ) → 4294967295 < n → number_behind n word ≡ None
unfolding number_behind
number_large n [] h =
    let not_below : nat_lt n (2 ^ 32) ≡ false = grind (arith, nat_tests) in
    rw not_below refl
number_large n (c ∷ word) h = by_digit (is_digit c) (number_behind (10 * n + (c - 48)) word) (number_large (10 * n + (c - 48)) word (omega arith))
  where
    by_digit : (b : Bool) (more : Option ℕ) → more ≡ None → (if b then more else None) ≡ None
    by_digit true more e = e
    by_digit false more e = refl

digit_more : (n c : ℕ) (word : List ℕ) → is_digit c ≡ true → number_behind n (c ∷ word) ≡ number_behind (10 * n + (c - 48)) word
unfolding number_behind
digit_more n c word e = rw e refl

no_digit : (n c : ℕ) (word : List ℕ) → is_digit c ≡ false → number_behind n (c ∷ word) ≡ None
unfolding number_behind
no_digit n c word e = rw e refl

number_end : (n : ℕ) → n ≤ 4294967295 → number_behind n [] ≡ Some n
unfolding number_behind
number_end n h =
    let below : nat_lt n (2 ^ 32) ≡ true = grind (arith, nat_tests) in
    rw below refl

module _ (whole : Option ℕ) (n : ℕ) (rest : List ℕ) (h : whole ≡ number_behind n rest) where
  -- If no byte remains and `n` is not too large, then `n` is the number.
  pub number_is : length rest ≡ 0 → n ≤ 4294967295 → whole ≡ Some n
  number_is none le = h ∙ at rest none
    where
      at : (rest : List ℕ) → length rest ≡ 0 → number_behind n rest ≡ Some n
      at [] none = number_end n le
      at (c ∷ rest) none = absurd (omega arith)

  module _ (c : ℕ) (tail : List ℕ) (e : rest ≡ c ∷ tail) where
    pub number_none : is_digit c ≡ false → whole ≡ None
    number_none d = h ∙ ap (number_behind n) e ∙ no_digit n c tail d

    pub number_next : is_digit c ≡ true → whole ≡ number_behind (10 * n + (c - 48)) tail
    number_next d = h ∙ ap (number_behind n) e ∙ digit_more n c tail d

    pub number_too_large : is_digit c ≡ true → 4294967295 < 10 * n + (c - 48) → whole ≡ None
    number_too_large d large = number_next d ∙ number_large (10 * n + (c - 48)) tail large

-- ---- words that are numbers

-- The numbers `front` followed by the given numbers, or `None` if no list is given.
abbrev pub behind : List ℕ → Option (List ℕ) → Option (List ℕ)
behind front (Some ns) = Some (front ++ ns)
behind front None = None

pub behind_none : (ns : Option (List ℕ)) → ns ≡ behind [] ns
behind_none (Some ns) = refl
behind_none None = refl

behind_one : (front : List ℕ) (n : ℕ) (ns : Option (List ℕ)) → behind front (number_and_numbers (Some n) ns) ≡ behind (front ++ n ∷ []) ns
behind_one front n (Some ns) = ap (λ xs. Some xs) (sym (append_assoc front (n ∷ []) ns))
behind_one front n None = refl

joined_none : (ns : Option (List ℕ)) → number_and_numbers None ns ≡ None
joined_none (Some ns) = refl
joined_none None = refl

numbers_end : (most : ℕ) → numbers most [] ≡ Some []
unfolding numbers
numbers_end zero = refl
numbers_end (suc most) = refl

numbers_full : (word : List ℕ) (words : List (List ℕ)) → numbers 0 (word ∷ words) ≡ None
unfolding numbers
numbers_full word words = refl

numbers_more : (most : ℕ) (word : List ℕ) (words : List (List ℕ))
    → numbers (suc most) (word ∷ words) ≡ number_and_numbers (word_number word) (numbers most words)
unfolding numbers
numbers_more most word words = refl

module _ (whole : Option (List ℕ)) (front : List ℕ) (k : ℕ) (words : List (List ℕ)) (h : whole ≡ behind front (numbers k words)) where
  pub numbers_are : words ≡ [] → whole ≡ Some front
  numbers_are e = h ∙ ap (λ ws. behind front (numbers k ws)) e ∙ ap (behind front) (numbers_end k) ∙ ap (λ xs. Some xs) (append-nil front)

  module _ (word : List ℕ) (rest : List (List ℕ)) (e : words ≡ word ∷ rest) where
    pub numbers_too_many : k ≡ 0 → whole ≡ None
    numbers_too_many none =
        h ∙ ap (λ ws. behind front (numbers k ws)) e ∙ ap (λ n. behind front (numbers n (word ∷ rest))) none ∙ ap (behind front) (numbers_full word rest)

    pub numbers_none : word_number word ≡ None → whole ≡ None
    numbers_none none = h ∙ ap (λ ws. behind front (numbers k ws)) e ∙ ap (behind front) (at k)
      where
        at : (k : ℕ) → numbers k (word ∷ rest) ≡ None
        at zero = numbers_full word rest
        at (suc k) = numbers_more k word rest ∙ ap (λ n. number_and_numbers n (numbers k rest)) none ∙ joined_none (numbers k rest)

    pub numbers_next : (n j : ℕ) → k ≡ suc j → word_number word ≡ Some n → whole ≡ behind (front ++ n ∷ []) (numbers j rest)
    numbers_next n j ke is =
        h ∙ ap (λ ws. behind front (numbers k ws)) e ∙ ap (λ i. behind front (numbers i (word ∷ rest))) ke
        ∙ ap (behind front) (numbers_more j word rest ∙ ap (λ m. number_and_numbers m (numbers j rest)) is)
        ∙ behind_one front n (numbers j rest)
