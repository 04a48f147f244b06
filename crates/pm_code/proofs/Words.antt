-- Lemmas about words that are written one after the other.
use Rattle.std.proofs.Common.{◌≡◌, ◌<◌, ◌≤◌, ℕ, zero, suc, ◌+◌, ◌-◌, ◌*◌, ◌/◌, ◌%◌, List, [], ◌∷◌, ◌++◌, length, map, drop}
use Rattle.std.proofs.Common.{get_or, refl, sym, ap, ◌∙◌, arith, add-one, append-nil, append_assoc, drop-cons, length-drop}
use Rattle.std.specs.Prelude.{codes}
use Rattle.std.specs.Fmt.{decimal}
use Rattle.pm_code.specs.Text.{operands_text, more_operands}
use Rattle.pm_words.specs.Words.{words_of}

-- The text of the operands `ts` if `k` operands precede them.
abbrev pub rest_text : ℕ → List (List ℕ) → List ℕ
rest_text zero ts = operands_text ts
rest_text (suc k) ts = more_operands ts

-- The text before operand `k`: a space, or a comma and a space.
abbrev pub lead_text : ℕ → List ℕ
lead_text zero = codes " "
lead_text (suc k) = codes ", "

pub lead_text-first : (k : ℕ) → k ≡ 0 → codes " " ≡ lead_text k
lead_text-first zero e = refl
lead_text-first (suc k) e = absurd (omega arith)

pub lead_text-more : (k : ℕ) → (k ≡ 0 → ⊥) → codes ", " ≡ lead_text k
lead_text-more zero e = absurd (e refl)
lead_text-more (suc k) e = refl

first_text : (k : ℕ) (t : List ℕ) (ts : List (List ℕ)) → rest_text k (t ∷ ts) ≡ (lead_text k ++ t) ++ more_operands ts
first_text zero t ts = refl
first_text (suc k) t ts = refl

pub words_at : (bs : List ℕ) (k : ℕ) → 2 * k + 1 < length bs → words_of (drop (2 * k) bs)
    ≡ (get_or bs (2 * k) 0 + 256 * get_or bs (2 * k + 1) 0) ∷ words_of (drop (2 * (k + 1)) bs)
unfolding words_of
words_at bs k h =
    let here : suc (2 * k) ≡ 2 * k + 1 = omega arith in
    let next : suc (2 * k + 1) ≡ 2 * (k + 1) = omega arith in
    let low : drop (2 * k) bs ≡ get_or bs (2 * k) 0 ∷ drop (suc (2 * k)) bs = drop-cons bs (2 * k) 0 (omega arith) in
    let high : drop (2 * k + 1) bs ≡ get_or bs (2 * k + 1) 0 ∷ drop (suc (2 * k + 1)) bs = drop-cons bs (2 * k + 1) 0 h in
    ap words_of (low ∙ ap (λ n. get_or bs (2 * k) 0 ∷ drop n bs) here
    ∙ ap (λ xs. get_or bs (2 * k) 0 ∷ xs) (high ∙ ap (λ n. get_or bs (2 * k + 1) 0 ∷ drop n bs) next))

-- If word `k` is appended, then the written text followed by the remaining words is still the whole text.
pub word_written : (bs done whole : List ℕ) (k : ℕ) → 2 * k + 1 < length bs → done ++ rest_text k (map decimal (words_of (drop (2 * k) bs))) ≡ whole
    → (done ++ (lead_text k ++ decimal (get_or bs (2 * k) 0 + 256 * get_or bs (2 * k + 1) 0)))
    ++ rest_text (k + 1) (map decimal (words_of (drop (2 * (k + 1)) bs))) ≡ whole
word_written bs done whole k h e =
    let w : ℕ = get_or bs (2 * k) 0 + 256 * get_or bs (2 * k + 1) 0 in
    let ts : List (List ℕ) = map decimal (words_of (drop (2 * (k + 1)) bs)) in
    let behind : rest_text (k + 1) ts ≡ more_operands ts = ap (λ n. rest_text n ts) (add-one k) in
    append_assoc done (lead_text k ++ decimal w) (rest_text (k + 1) ts)
    ∙ ap (λ u. done ++ ((lead_text k ++ decimal w) ++ u)) behind
    ∙ ap (λ u. done ++ u) (sym (first_text k (decimal w) ts))
    ∙ ap (λ u. done ++ rest_text k (map decimal u)) (sym (words_at bs k h))
    ∙ e

pub none_left : (bs : List ℕ) → length bs ≤ 1 → words_of bs ≡ []
unfolding words_of
none_left [] h = refl
none_left (b ∷ []) h = refl
none_left (b ∷ d ∷ bs) h = absurd (omega arith)

-- If no whole word remains, then the written text is the whole text.
pub all_written : (bs done whole : List ℕ) (k : ℕ) → length bs / 2 ≤ k → done ++ rest_text k (map decimal (words_of (drop (2 * k) bs))) ≡ whole → done ≡ whole
all_written bs done whole k h e =
    let none : words_of (drop (2 * k) bs) ≡ [] = none_left (drop (2 * k) bs) (omega (arith, length-drop (2 * k) bs)) in
    sym (append-nil done) ∙ ap (λ u. done ++ u) (sym (empty k)) ∙ ap (λ u. done ++ rest_text k (map decimal u)) (sym none) ∙ e
  where
    empty : (k : ℕ) → rest_text k [] ≡ []
    empty zero = refl
    empty (suc k) = refl
