-- Definitions and lemmas for words that no range of memory touches. `stretch a n` is the range of the `n` bytes from
-- `a` on.
use Rattle.std.proofs.Common.{◌≡◌, ◌≢◌, ◌<◌, ◌≤◌, ◌⊎◌, inl, inr, ⊎_elim, ℕ, ◌+◌, ◌-◌, ◌*◌, ◌/◌, ◌%◌, ◌&&◌, ◌||◌, Bool, false, nat_lt}
use Rattle.std.proofs.Common.{List, [], ◌∷◌, Result, Ok, Err, refl, sym, ap, ◌∙◌, subst, arith}
use Rattle.std.specs.List.{list_any}
use Rattle.std.proofs.Math.Nat.{min-eq_left}
use Rattle.std.proofs.lemmas.Bool.{and_cases, cases_lt, ltb-false, or_parts}
use Rattle.std.proofs.lemmas.List.{get_or-set_other}
use Rattle.pm_words.specs.Words.{byte_at, with_word, word_at}
use Rattle.pm_words.specs.Stack.{◌>>=◌}
use Rattle.pm_words.proofs.Laws.{word_at-bytes}
use Rattle.pm_machine.specs.Written.{Stretch, stretch, stretch_to, touches}

-- ---- the words that a stretch does not touch

-- The two bytes from `x` on are not among the `n` bytes from `a` on: `n` is 0, or they are before or after these bytes.
abbrev pub IsAway : ℕ → ℕ → ℕ → Type 0
IsAway x a n = (n ≡ 0) ⊎ ((x + 1 < a) ⊎ (a + n ≤ x))

apart : (x a n : ℕ) → touches x 2 (stretch a n) ≡ false → IsAway x a n
apart x a n h = ⊎_elim
    (λ e. let none = ltb-false 0 n e in inl (omega (arith, none)))
    (λ e. ⊎_elim
    (λ f. let low = ltb-false a (x + 2) f in inr (inl (omega (arith, low))))
    (λ f. let high = ltb-false x (a + n) f in inr (inr high))
    (and_cases (nat_lt a (x + 2)) (nat_lt x (a + n)) e))
    (and_cases (nat_lt 0 n) (nat_lt a (x + 2) && nat_lt x (a + n)) h)

pub away : (x a n : ℕ) → list_any (touches x 2) (stretch a n ∷ []) ≡ false → IsAway x a n
away x a n h = apart x a n (or_parts (touches x 2 (stretch a n)) false h).0

-- If two memories have the same two bytes at `x` and `x + 1`, then they have the same word at the even address `x`.
word_same : (m n : List ℕ) (x : ℕ) → x % 2 ≡ 0 → byte_at n x ≡ byte_at m x → byte_at n (x + 1) ≡ byte_at m (x + 1) → word_at n x ≡ word_at m x
word_same m n x even low high =
    word_at-bytes n x even ∙ ap (λ (b : ℕ). b + 256 * byte_at n (x + 1)) low ∙ ap (λ (b : ℕ). byte_at m x + 256 * b) high ∙ sym (word_at-bytes m x even)

low_byte_away : (x a n : ℕ) → IsAway x a n → (x < a) ⊎ (a + n ≤ x)
low_byte_away x a n (inl none) = ⊎_elim (λ l. inl l) (λ l. inr (omega (arith, none, l))) (cases_lt x a)
low_byte_away x a n (inr (inl low)) = inl (omega (arith, low))
low_byte_away x a n (inr (inr high)) = inr high

high_byte_away : (x a n : ℕ) → IsAway x a n → (x + 1 < a) ⊎ (a + n ≤ x + 1)
high_byte_away x a n (inl none) = ⊎_elim (λ l. inl l) (λ l. inr (omega (arith, none, l))) (cases_lt (x + 1) a)
high_byte_away x a n (inr (inl low)) = inl low
high_byte_away x a n (inr (inr high)) = inr (omega (arith, high))

-- ---- rows that leave all words unchanged, except those of stretches

-- Every word that none of the ranges `ss` touches is the same in `m` and `n`.
abbrev pub Kept : List Stretch → List ℕ → List ℕ → Type 0
Kept ss m n = (x : ℕ) → x % 2 ≡ 0 → list_any (touches x 2) ss ≡ false → word_at n x ≡ word_at m x

-- If all bytes outside a range are unchanged, then every word that the range does not touch is unchanged.
pub bytes_kept : (m n : List ℕ) (a k : ℕ) → ((y : ℕ) → (y < a) ⊎ (a + k ≤ y) → byte_at n y ≡ byte_at m y) → Kept (stretch a k ∷ []) m n
bytes_kept m n a k same = λ x even none.
    let far = away x a k none in
    word_same m n x even (same x (low_byte_away x a k far)) (same (x + 1) (high_byte_away x a k far))

-- If all words outside a range of at least one byte are unchanged, then every word that the range does not touch is
-- unchanged.
pub words_kept : (m n : List ℕ) (a k : ℕ) → 0 < k → ((x : ℕ) → x % 2 ≡ 0 → (x + 1 < a) ⊎ (a + k ≤ x) → word_at n x ≡ word_at m x)
    → Kept (stretch a k ∷ []) m n
words_kept m n a k some same = λ x even none. same x even (outside x (away x a k none))
  where
    outside : (x : ℕ) → IsAway x a k → (x + 1 < a) ⊎ (a + k ≤ x)
    outside x (inl none) = absurd (omega (arith, none, some))
    outside x (inr far) = far

-- If a word is written at the address `a`, then each word that does not contain the byte at `a` is unchanged.
pub word_kept : (m : List ℕ) (a w x : ℕ) → x % 2 ≡ 0 → (x + 1 < a) ⊎ (a < x) → word_at (with_word m a w) x ≡ word_at m x
unfolding word_at with_word
word_kept m a w x even far = get_or-set_other m (a / 2) (x / 2) w 0 (differs far)
  where
    differs : (x + 1 < a) ⊎ (a < x) → x / 2 ≢ a / 2
    differs (inl low) = λ e. omega (arith, low, even, e)
    differs (inr high) = λ e. omega (arith, high, even, e)

pub stored_kept : (m : List ℕ) (a w : ℕ) → Kept (stretch a 2 ∷ []) m (with_word m a w)
stored_kept m a w = words_kept m (with_word m a w) a 2 (omega arith) (λ x even far. word_kept m a w x even (further x far))
  where
    further : (x : ℕ) → (x + 1 < a) ⊎ (a + 2 ≤ x) → (x + 1 < a) ⊎ (a < x)
    further x (inl low) = inl low
    further x (inr high) = inr (omega (arith, high))

-- If `n` is at most `end`, then the range of `n` bytes that ends at `end` is complete.
pub all_stand : (end n : ℕ) → n ≤ end → stretch_to end n ≡ stretch (end - n) n
all_stand end n room = ap (λ (k : ℕ). stretch (end - n) k) (min-eq_left room)

pub kept_to : (end n : ℕ) (m p : List ℕ) → n ≤ end → Kept (stretch (end - n) n ∷ []) m p → Kept (stretch_to end n ∷ []) m p
kept_to end n m p room h = subst (λ (s : Stretch). Kept (s ∷ []) m p) (sym (all_stand end n room)) h

-- If nothing is written, then all words are unchanged.
pub all_kept : (ss : List Stretch) (m : List ℕ) → Kept ss m m
all_kept ss m = λ x even none. refl

-- If only words of the first range are written, and then only words of the others, then all other words are unchanged.
pub both_kept : (s : Stretch) (ss : List Stretch) (m n p : List ℕ) → Kept (s ∷ []) m n → Kept ss n p → Kept (s ∷ ss) m p
both_kept s ss m n p first rest = λ x even none.
    let parts = or_parts (touches x 2 s) (list_any (touches x 2) ss) none in
    rest x even parts.1 ∙ first x even (alone (touches x 2 s) parts.0)
  where
    alone : (b : Bool) → b ≡ false → (b || false) ≡ false
    alone b h = rw h refl

-- ---- steps that may fail

-- A success has property `P`; an error always does.
abbrev pub IfMade : {A E : Type 0} → (A → Type 0) → Result A E → Type 0
IfMade P (Ok x) = P x
IfMade P (Err e) = Unit {0}

pub made : {A B E : Type 0} (P : B → Type 0) (r : Result A E) (f : A → Result B E) → ((x : A) → r ≡ Ok x → IfMade P (f x)) → IfMade P (r >>= f)
made P (Ok x) f h = h x refl
made P (Err e) f h = tt
