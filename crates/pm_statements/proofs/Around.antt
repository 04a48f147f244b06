-- The ends of the open spans are the ends of the counted spans that contain the offset.
use Rattle.std.proofs.Common.{◌≡◌, ◌≤◌, ◌<◌, ℕ, zero, suc, ◌+◌, Bool, true, false, List, [], ◌∷◌, ◌++◌, length, replicate}
use Rattle.std.proofs.Common.{Option, None, Some, refl, sym, ap, ◌∙◌, arith, subst}
use Rattle.std.specs.Prelude.{not, ◌||◌, ◌&&◌, nat_le, nat_lt, if◌then◌else◌}
use Rattle.std.proofs.lemmas.Bool.Decides.{nat_tests}
use Rattle.pm_code.specs.Item.{Item, size}
use Rattle.pm_statements.specs.Depths.{Depths, at_place, depths, depths_from, leads_to, lies_within, open_at, opened, with_span}
use Rattle.pm_statements.specs.Spans.{DepthsAreSpans, JumpSpan, around, counted, counts, depths_by, goes_on, lies_in, span_to, spans_from}

-- ---- lists of ends

-- Returns the ends that are greater than `x`.
abbrev only : ℕ → List ℕ → List ℕ
only x [] = []
only x (e ∷ es) = if nat_lt x e then e ∷ only x es else only x es

-- Each end of the list is at least `e`.
abbrev Below : ℕ → List ℕ → Type 0
Below e [] = Unit {0}
Below e (x ∷ xs) = (e ≤ x) × Below e xs

-- The ends of the list are in ascending order.
abbrev Rising : List ℕ → Type 0
Rising [] = Unit {0}
Rising (e ∷ es) = Below e es × Rising es

all_stay : (x e : ℕ) (es : List ℕ) → x < e → Below e es → only x es ≡ es
all_stay x e [] low b = refl
all_stay x e (f ∷ es) low b =
    let high : nat_lt x f ≡ true = grind (arith, nat_tests, low, b.0) in
    rw high (ap (λ l. f ∷ l) (all_stay x e es low b.1))

open_only : (x : ℕ) (es : List ℕ) → Rising es → open_at x es ≡ only x es
open_only x [] r = refl
open_only x (e ∷ es) r = by (nat_le e x) refl (open_only x es r.1)
  where
    by : (b : Bool) → nat_le e x ≡ b → open_at x es ≡ only x es → (if b then open_at x es else e ∷ es) ≡ only x (e ∷ es)
    by true h more =
        let past : nat_lt x e ≡ false = grind (arith, nat_tests, h) in
        rw past more
    by false h more =
        let on : nat_lt x e ≡ true = grind (arith, nat_tests, h) in
        let low : x < e = grind (arith, nat_tests, h) in
        rw on (sym (ap (λ l. e ∷ l) (all_stay x e es low r.0)))

below_only : (x e : ℕ) (es : List ℕ) → Below e es → Below e (only x es)
below_only x e [] b = tt
below_only x e (f ∷ es) b = by (nat_lt x f) (below_only x e es b.1)
  where
    by : (c : Bool) → Below e (only x es) → Below e (if c then f ∷ only x es else only x es)
    by true more = (b.0, more)
    by false more = more

rising_only : (x : ℕ) (es : List ℕ) → Rising es → Rising (only x es)
rising_only x [] r = tt
rising_only x (e ∷ es) r = by (nat_lt x e) (rising_only x es r.1)
  where
    by : (c : Bool) → Rising (only x es) → Rising (if c then e ∷ only x es else only x es)
    by true more = (below_only x e es r.0, more)
    by false more = more

-- ---- the ends of spans that contain an offset

abbrev ends_at : ℕ → List JumpSpan → List ℕ
ends_at at [] = []
ends_at at (s ∷ ss) = if goes_on at s then s.behind ∷ ends_at at ss else ends_at at ss

abbrev Begun : ℕ → List JumpSpan → Type 0
Begun at [] = Unit {0}
Begun at (s ∷ ss) = (s.begin ≤ at) × Begun at ss

begun_later : (at next : ℕ) (ss : List JumpSpan) → at ≤ next → Begun at ss → Begun next ss
begun_later at next [] h b = tt
begun_later at next (s ∷ ss) h b = (omega (arith, h, b.0), begun_later at next ss h b.1)

only_ends : (at next : ℕ) (ss : List JumpSpan) → at ≤ next → Begun at ss → only next (ends_at at ss) ≡ ends_at next ss
only_ends at next [] h b = refl
only_ends at next (s ∷ ss) h b = by (nat_lt at s.behind) (nat_lt next s.behind) refl refl (only_ends at next ss h b.1)
  where
    here : nat_le s.begin at ≡ true
    here = grind (arith, nat_tests, b.0)

    there : nat_le s.begin next ≡ true
    there = grind (arith, nat_tests, b.0, h)

    by : (c d : Bool) → nat_lt at s.behind ≡ c → nat_lt next s.behind ≡ d → only next (ends_at at ss) ≡ ends_at next ss
        → only next (ends_at at (s ∷ ss)) ≡ ends_at next (s ∷ ss)
    by true true e f more = rw here (rw there (rw e (rw f (ap (λ l. s.behind ∷ l) more))))
    by true false e f more = rw here (rw there (rw e (rw f more)))
    by false true e f more = absurd (grind (arith, nat_tests, e, f, h))
    by false false e f more = rw here (rw there (rw e (rw f more)))

-- If all spans `ss` have begun at `at` and their ends ascend, then `open_at` computes which of them still contain the
-- later offset `next`.
open_later : (at next : ℕ) (ss : List JumpSpan) → at ≤ next → Begun at ss → Rising (ends_at at ss)
    → open_at next (ends_at at ss) ≡ ends_at next ss
open_later at next ss h b r = open_only next (ends_at at ss) r ∙ only_ends at next ss h b

rising_later : (at next : ℕ) (ss : List JumpSpan) → at ≤ next → Begun at ss → Rising (ends_at at ss) → Rising (ends_at next ss)
rising_later at next ss h b r = subst Rising (only_ends at next ss h b) (rising_only next (ends_at at ss) r)

-- ---- one more span

all_high : ℕ → List ℕ → Bool
all_high end [] = true
all_high end (e ∷ es) = nat_le end e && all_high end es

lies_high : (at end : ℕ) (ss : List JumpSpan) → lies_in (record { begin = at; behind = end }) ss ≡ all_high end (ends_at at ss)
unfolding all_high
lies_high at end [] = refl
lies_high at end (s ∷ ss) = by (goes_on at s) (lies_high at end ss)
  where
    by : (b : Bool) → lies_in (record { begin = at; behind = end }) ss ≡ all_high end (ends_at at ss)
        → ((not b || nat_le end s.behind) && lies_in (record { begin = at; behind = end }) ss)
        ≡ all_high end (if b then s.behind ∷ ends_at at ss else ends_at at ss)
    by true more = ap (λ c. nat_le end s.behind && c) more
    by false more = more

all_below : (end e : ℕ) (es : List ℕ) → end ≤ e → Below e es → all_high end es ≡ true
unfolding all_high
all_below end e [] h b = refl
all_below end e (f ∷ es) h b =
    let high : nat_le end f ≡ true = grind (arith, nat_tests, h, b.0) in
    rw high (all_below end e es h b.1)

within_high : (at end : ℕ) (es : List ℕ) → Rising es → lies_within at end es ≡ (nat_lt at end && all_high end es)
unfolding all_high
within_high at end [] r = by (nat_lt at end)
  where
    by : (b : Bool) → b ≡ (b && true)
    by true = refl
    by false = refl
within_high at end (e ∷ es) r = ap (λ c. nat_lt at end && c) (by (nat_le end e) refl)
  where
    by : (b : Bool) → nat_le end e ≡ b → b ≡ (b && all_high end es)
    by true h = sym (all_below end e es (grind (arith, nat_tests, h)) r.0)
    by false h = refl

-- Adds the span from `at` to `end` to `ss`, if this span counts.
abbrev counted_one : ℕ → ℕ → List JumpSpan → List JumpSpan
counted_one at end ss = if counts (record { begin = at; behind = end }) ss then record { begin = at; behind = end } ∷ ss else ss

-- The list `es` has the ends of those spans of `ss` that contain `at`. The spans of `ss` have begun at `at`, and the
-- ends ascend.
record AreOpen (at : ℕ) (es : List ℕ) (ss : List JumpSpan) : Type 0 where
  same : es ≡ ends_at at ss
  begun : Begun at ss
  rising : Rising (ends_at at ss)

below_high : (end : ℕ) (es : List ℕ) → all_high end es ≡ true → Below end es
unfolding all_high
below_high end [] h = tt
below_high end (e ∷ es) h = by (nat_le end e) (all_high end es) refl refl h (below_high end es)
  where
    by : (a b : Bool) → nat_le end e ≡ a → all_high end es ≡ b → (a && b) ≡ true → (all_high end es ≡ true → Below end es)
        → Below end (e ∷ es)
    by true true f g k more = (grind (arith, nat_tests, f), more g)
    by true false f g k more = absurd (grind (arith, k))
    by false b f g k more = absurd (grind (arith, k))

open_one : (at end : ℕ) (es : List ℕ) (ss : List JumpSpan) → AreOpen at es ss
    → AreOpen at (with_span at (Some end) es) (counted_one at end ss)
open_one at end es ss o = by (nat_lt at end) (all_high end (ends_at at ss)) refl refl
  where
    within : lies_within at end es ≡ (nat_lt at end && all_high end (ends_at at ss))
    within = ap (lies_within at end) o.same ∙ within_high at end (ends_at at ss) o.rising

    count : counts (record { begin = at; behind = end }) ss ≡ (nat_lt at end && all_high end (ends_at at ss))
    count = ap (λ c. nat_lt at end && c) (lies_high at end ss)

    here : nat_le at at ≡ true
    here = grind (arith, nat_tests)

    with : (c : Bool) → (nat_lt at end && all_high end (ends_at at ss)) ≡ c
        → AreOpen at (if c then end ∷ es else es) (if c then record { begin = at; behind = end } ∷ ss else ss)
        → AreOpen at (with_span at (Some end) es) (counted_one at end ss)
    with c e a = subst (λ (d : Bool). AreOpen at (if d then end ∷ es else es) (counted_one at end ss)) (sym (within ∙ e))
        (subst (λ (d : Bool). AreOpen at (if c then end ∷ es else es) (if d then record { begin = at; behind = end } ∷ ss else ss))
        (sym (count ∙ e)) a)

    by : (a b : Bool) → nat_lt at end ≡ a → all_high end (ends_at at ss) ≡ b
        → AreOpen at (with_span at (Some end) es) (counted_one at end ss)
    by true true e f = with true (rw e (rw f refl)) (record {
      same = rw here (rw e (ap (λ l. end ∷ l) o.same));
      begun = (omega arith, o.begun);
      rising = rw here (rw e ((below_high end (ends_at at ss) f, o.rising)));
    })
    by true false e f = with false (rw e (rw f refl)) o
    by false b e f = with false (rw e refl) o

-- Adds the span from `at` to its end to `ss`, if an end is given and the span counts.
abbrev counted_if : ℕ → Option ℕ → List JumpSpan → List JumpSpan
counted_if at None ss = ss
counted_if at (Some end) ss = counted_one at end ss

open_if : (at : ℕ) (end : Option ℕ) (es : List ℕ) (ss : List JumpSpan) → AreOpen at es ss
    → AreOpen at (with_span at end es) (counted_if at end ss)
open_if at None es ss o = o
open_if at (Some end) es ss o = open_one at end es ss o

-- ---- spans that begin later

abbrev From : ℕ → List JumpSpan → Type 0
From at [] = Unit {0}
From at (s ∷ ss) = (at ≤ s.begin) × From at ss

from_earlier : (at next : ℕ) (ss : List JumpSpan) → at ≤ next → From next ss → From at ss
from_earlier at next [] h f = tt
from_earlier at next (s ∷ ss) h f = (omega (arith, h, f.0), from_earlier at next ss h f.1)

from_to : (at : ℕ) (end : Option ℕ) (ss : List JumpSpan) → From at ss → From at (span_to at end ss)
from_to at None ss f = f
from_to at (Some end) ss f = (omega arith, f)

from_all : (entries : List ℕ) (ls : Depths) (at : ℕ) (forward : Option ℕ) (items : List (Item ℕ))
    → From at (spans_from entries ls at forward items)
from_all entries ls at forward [] = tt
from_all entries ls at forward (item ∷ items) =
    let next : ℕ = at + size at item in
    from_to at forward _ (from_to at (Some (at_place ls at)) _
    (from_earlier at next _ (omega arith) (from_all entries ls next (leads_to entries item) items)))

around_later : (at next : ℕ) (done ss : List JumpSpan) → at < next → From next ss → around at (counted done ss) ≡ around at done
around_later at next done [] low f = refl
around_later at next done (s ∷ ss) low f =
    by (counts s done) (around_later at next (s ∷ done) ss low f.1) (around_later at next done ss low f.1)
  where
    not_here : goes_on at s ≡ false
    not_here =
        let out : nat_le s.begin at ≡ false = grind (arith, nat_tests, low, f.0) in
        rw out refl

    by : (b : Bool) → around at (counted (s ∷ done) ss) ≡ around at (s ∷ done) → around at (counted done ss) ≡ around at done
        → around at (counted (if b then s ∷ done else done) ss) ≡ around at done
    by true with_it without = with_it ∙ rw not_here refl
    by false with_it without = without

around_ends : (at : ℕ) (ss : List JumpSpan) → length (ends_at at ss) ≡ around at ss
around_ends at [] = refl
around_ends at (s ∷ ss) = by (goes_on at s) (around_ends at ss)
  where
    by : (b : Bool) → length (ends_at at ss) ≡ around at ss
        → length (if b then s.behind ∷ ends_at at ss else ends_at at ss)
        ≡ (if b then suc (around at ss) else around at ss)
    by true more = ap suc more
    by false more = more

-- ---- all spans

counted_both : (at : ℕ) (forward : Option ℕ) (again : ℕ) (done ss : List JumpSpan)
    → counted done (span_to at forward (span_to at (Some again) ss)) ≡ counted (counted_one at again (counted_if at forward done)) ss
counted_both at None again done ss = refl
counted_both at (Some end) again done ss = refl

replicated : (n : ℕ) (a b : ℕ) → (0 < n → a ≡ b) → replicate n a ≡ replicate n b
replicated zero a b f = refl
replicated (suc n) a b f = ap (replicate (suc n)) (f (omega arith))

depths_are : (entries : List ℕ) (ls : Depths) (at : ℕ) (forward : Option ℕ) (ends : List ℕ) (done : List JumpSpan)
    (items : List (Item ℕ)) → AreOpen at (open_at at ends) done
    → depths_from entries ls at forward ends items ≡ depths_by (counted done (spans_from entries ls at forward items)) at items
unfolding depths_from
depths_are entries ls at forward ends done [] o = refl
depths_are entries ls at forward ends done (item ∷ items) o =
    let n : ℕ = size at item in
    let next : ℕ = at + n in
    let again : ℕ = at_place ls at in
    let rest : List JumpSpan = spans_from entries ls next (leads_to entries item) items in
    let now : List JumpSpan = counted_one at again (counted_if at forward done) in
    let stack : List ℕ = opened at forward again ends in
    let here : AreOpen at stack now = open_one at again _ _ (open_if at forward (open_at at ends) done o) in
    let same : open_at next stack ≡ ends_at next now =
    ap (open_at next) here.same ∙ open_later at next now (omega arith) here.begun here.rising in
    let there : AreOpen next (open_at next stack) now = record {
      same = same;
      begun = begun_later at next now (omega arith) here.begun;
      rising = rising_later at next now (omega arith) here.begun here.rising;
    } in
    let deep : 0 < n → length stack ≡ around at (counted now rest) = λ some.
    ap length here.same ∙ around_ends at now
    ∙ sym (around_later at next now rest (omega (arith, some)) (from_all entries ls next (leads_to entries item) items)) in
    ap (λ l. l ++ depths_from entries ls next (leads_to entries item) stack items) (replicated n (length stack) (around at (counted now rest)) deep)
    ∙ ap (λ l. replicate n (around at (counted now rest)) ++ l) (depths_are entries ls next (leads_to entries item) stack now items there)
    ∙ ap (λ ss. depths_by ss at (item ∷ items)) (sym (counted_both at forward again done rest))

pub depths_are_spans : DepthsAreSpans
unfolding depths
depths_are_spans p = depths_are p.entries _ p.start None [] [] p.items (record { same = refl; begun = tt; rising = tt })
