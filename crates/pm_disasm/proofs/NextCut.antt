-- Lemmas about the lowest forced offset after an offset.
use Rattle.std.proofs.Common.{◌≡◌, ◌<◌, ◌≤◌, ◌^◌, ℕ, Bool, true, false, List, [], ◌∷◌, refl, sym, ap, ◌∙◌, ◌+◌, arith, inl, inr, Some, None}
use Rattle.std.specs.Prelude.{◌&&◌, ◌||◌, nat_lt}
use Rattle.std.specs.List.{list_any}
use Rattle.std.proofs.lemmas.Bool.{cases_lt, le-ltb, lt-ltb, or_parts, true≢false}
use Rattle.pm_disasm.specs.Offsets.{IsNextCut}
use Rattle.pm_disasm.specs.Split.{Front, uncut}

abbrev lies : ℕ → ℕ → ℕ → Bool
lies at end place = nat_lt at place && nat_lt place end

same_one : (before at next end place : ℕ) → lies before next place ≡ false → before ≤ at → at < next → lies at end place ≡ lies before end place
same_one before at next end place h l m = elim (cases_lt at place) [
  | inl a ↦ (let s : nat_lt at place ≡ true = lt-ltb _ _ a in let t : nat_lt before place ≡ true = lt-ltb _ _ (omega (arith, a, l)) in rw (s, t) refl)
  | inr a ↦ (let s : nat_lt at place ≡ false = le-ltb _ _ a in elim (cases_lt before place) [
    | inl b ↦ (let t : nat_lt before place ≡ true = lt-ltb _ _ b in let u : nat_lt place next
        ≡ true = lt-ltb _ _ (omega (arith, a, m)) in absurd (true≢false (sym (rw (t, u) refl) ∙ h)))
    | inr b ↦ (let t : nat_lt before place ≡ false = le-ltb _ _ b in rw (s, t) refl)
  ])
]

same_any : (forced : List ℕ) (before at next end : ℕ) → list_any (lies before next) forced ≡ false → before ≤ at → at < next
    → list_any (lies at end) forced ≡ list_any (lies before end) forced
same_any [] before at next end h l m = refl
same_any (p ∷ forced) before at next end h l m =
    let both = or_parts (lies before next p) (list_any (lies before next) forced) h in
    ap (λ b. b || list_any (lies at end) forced) (same_one before at next end p both.0 l m)
    ∙ ap (λ b. lies before end p || b) (same_any forced before at next end both.1 l m)

-- If `next` is the lowest forced offset after `before`, and `at` is from `before` to `next - 1`, then `next` is also
-- the lowest one after `at`.
pub still_next : (forced : List ℕ) (before at next : ℕ) → IsNextCut forced before next → before ≤ at → at < next → next < 2 ^ 64 → IsNextCut forced at next
still_next forced before at next h l m w = λ end e.
    same_any forced before at next end (h next w ∙ le-ltb next next (omega arith)) l m ∙ h end e

or_more : (a b c : Bool) → ((a || b) || c) ≡ (a || (b || c))
or_more true b c = refl
or_more false b c = refl

-- If `place` is after `at` and lower than `next`, then `place` replaces `next` as the lowest forced offset.
pub less_next : (at place next end : ℕ) (rest : Bool) → at < place → place < next
    → (nat_lt place end || rest) ≡ (nat_lt next end || (lies at end place || rest))
less_next at place next end rest a b =
    let s : nat_lt at place ≡ true = lt-ltb _ _ a in
    elim (cases_lt place end) [
      | inl c ↦ (let t : nat_lt place end ≡ true = lt-ltb _ _ c in elim (cases_lt next end) [
        | inl d ↦ (let u : nat_lt next end ≡ true = lt-ltb _ _ d in rw (s, t, u) refl)
        | inr d ↦ (let u : nat_lt next end ≡ false = le-ltb _ _ d in rw (s, t, u) refl)
      ])
      | inr c ↦ (let t : nat_lt place end ≡ false = le-ltb _ _ c in let u : nat_lt next end ≡ false = le-ltb _ _ (omega (arith, c, b)) in rw (s, t, u) refl)
    ]

-- If `place` is not after `at`, or not lower than `next`, then `next` is still the lowest forced offset.
pub same_next : (at place next end : ℕ) (rest : Bool) → (at < place → next ≤ place)
    → (nat_lt next end || rest) ≡ (nat_lt next end || (lies at end place || rest))
same_next at place next end rest h = elim (cases_lt next end) [
  | inl d ↦ (let u : nat_lt next end ≡ true = lt-ltb _ _ d in rw u refl)
  | inr d ↦ (let u : nat_lt next end ≡ false = le-ltb _ _ d in elim (cases_lt at place) [
    | inl a ↦ (let s : nat_lt at place ≡ true = lt-ltb _ _ a in let t : nat_lt place end ≡ false = le-ltb _ _ (omega (arith, d, h a)) in rw (u, s, t) refl)
    | inr a ↦ (let s : nat_lt at place ≡ false = le-ltb _ _ a in rw (u, s) refl)
  ])
]

-- If the lowest forced offset `next` is before the end of the instruction `f`, then `f` is not used.
pub cut : (forced : List ℕ) (at next : ℕ) (f : Front) → IsNextCut forced at next → at + f.size < 2 ^ 64 → next < at + f.size → None ≡ uncut forced at (Some f)
cut forced at next f h w l =
    let t : list_any (lies at (at + f.size)) forced ≡ true = h (at + f.size) w ∙ lt-ltb _ _ l in
    rw t refl

pub kept : (forced : List ℕ) (at next : ℕ) (f : Front) → IsNextCut forced at next → at + f.size < 2 ^ 64 → at + f.size ≤ next
    → Some f ≡ uncut forced at (Some f)
kept forced at next f h w l =
    let t : list_any (lies at (at + f.size)) forced ≡ false = h (at + f.size) w ∙ le-ltb _ _ l in
    rw t refl
