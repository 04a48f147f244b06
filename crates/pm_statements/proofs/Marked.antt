-- Offsets are marked one after another. `has m p` states whether the set `m` contains the offset `p`.
use Rattle.std.proofs.Common.{◌≡◌, ◌≤◌, ◌<◌, ℕ, zero, suc, Bool, true, false, List, [], ◌∷◌, ◌++◌, drop, length, map, set, replicate, refl, sym, ap, ◌∙◌, arith}
use Rattle.std.specs.Prelude.{◌-◌, ◌==◌, ◌||◌, ◌&&◌, nat_le, nat_lt, if◌then◌else◌, slice_index_or}
use Rattle.std.proofs.lemmas.List.{drop_all, get_or-set_other, get_or-set_same, length-set}
use Rattle.std.proofs.lemmas.Bool.Decides.{nat_tests}
use Rattle.pm_code.specs.Item.{Item}
use Rattle.pm_code.specs.Program.{is_among, item_places}
use Rattle.pm_code.specs.Shown.{named_places}
use Rattle.pm_statements.specs.Marks.{AreMarked, Marks, has, has_flag}
use Rattle.pm_trees.specs.Parts.{place_at}

pub or_false : (b : Bool) → (b || false) ≡ b
or_false true = refl
or_false false = refl

pub or_assoc : (a b c : Bool) → ((a || b) || c) ≡ (a || (b || c))
or_assoc true b c = refl
or_assoc false b c = refl

or_turned : (a b c : Bool) → ((a || b) || c) ≡ (b || (a || c))
or_turned true true c = refl
or_turned true false c = refl
or_turned false b c = refl

pub among_joined : (xs ys : List ℕ) (p : ℕ) → is_among (xs ++ ys) p ≡ (is_among xs p || is_among ys p)
among_joined [] ys p = refl
among_joined (x ∷ xs) ys p = ap (λ b. (x == p) || b) (among_joined xs ys p) ∙ sym (or_assoc (x == p) (is_among xs p) (is_among ys p))

-- ---- flags

none_set : (n k : ℕ) → slice_index_or (replicate n false) k false ≡ false
none_set zero k = refl
none_set (suc n) zero = refl
none_set (suc n) (suc k) = none_set n k

-- If no flag of `m` is set and its list of other offsets is empty, then `m` contains no offset.
pub none_marked : (m : Marks) (n p : ℕ) → m.flags ≡ replicate n false → m.others ≡ [] → has m p ≡ false
unfolding has
none_marked m n p e f = by (has_flag m p)
  where
    by : (b : Bool) → (if b then slice_index_or m.flags (p - m.start) false else is_among m.others p) ≡ false
    by true = ap (λ l. slice_index_or l (p - m.start) false) e ∙ none_set n (p - m.start)
    by false = ap (λ l. is_among l p) f

one_set : (flags : List Bool) (k q : ℕ) → k < length flags
    → slice_index_or (set flags k true) q false ≡ ((k == q) || slice_index_or flags q false)
one_set flags k q low = by (k == q) refl
  where
    by : (b : Bool) → (k == q) ≡ b → slice_index_or (set flags k true) q false ≡ (b || slice_index_or flags q false)
    by true e =
        let same : q ≡ k = grind (arith, nat_tests, e) in
        ap (λ (x : ℕ). slice_index_or (set flags k true) x false) same ∙ get_or-set_same flags k true false low
    by false e = get_or-set_other flags k q true false (λ x. absurd (grind (arith, nat_tests, e, x)))

same_offset : (s a b : ℕ) → s ≤ a → s ≤ b → ((a - s) == (b - s)) ≡ (a == b)
same_offset s a b h i = by (a == b) refl
  where
    by : (c : Bool) → (a == b) ≡ c → ((a - s) == (b - s)) ≡ c
    by true e = grind (arith, nat_tests, e)
    by false e = grind (arith, nat_tests, e, h, i)

flag_low : (m : Marks) (p : ℕ) → has_flag m p ≡ true → m.start ≤ p
flag_low m p e = grind (arith, nat_tests, e)

flag_there : (m : Marks) (p : ℕ) → m.start ≤ p → p - m.start < length m.flags → has_flag m p ≡ true
flag_there m p low within = grind (arith, nat_tests, low, within)

-- If `q` has a flag in `m` and `p` has none, then `p` and `q` differ.
different : (m : Marks) (p q : ℕ) → has_flag m p ≡ false → has_flag m q ≡ true → (p == q) ≡ false
different m p q e f = by (p == q) refl
  where
    by : (b : Bool) → (p == q) ≡ b → b ≡ false
    by true g =
        let same : p ≡ q = grind (arith, nat_tests, g) in
        sym f ∙ sym (ap (has_flag m) same) ∙ e
    by false g = refl

apart : (m : Marks) (p q : ℕ) → has_flag m p ≡ true → has_flag m q ≡ false → (p == q) ≡ false
apart m p q e f = by (p == q) refl
  where
    by : (b : Bool) → (p == q) ≡ b → b ≡ false
    by true g =
        let same : p ≡ q = grind (arith, nat_tests, g) in
        sym e ∙ ap (has_flag m) same ∙ f
    by false g = refl

-- If the flag of `place` is set, then the set contains `place` and the offsets that it contained before.
pub flag_set : (m : Marks) (place p : ℕ) → m.start ≤ place → place - m.start < length m.flags
    → has (record { start = m.start; flags = set m.flags (place - m.start) true; others = m.others }) p ≡ ((place == p) || has m p)
unfolding has
flag_set m place p low within =
    ap (λ (n : ℕ). if nat_le m.start p && nat_lt (p - m.start) n
    then slice_index_or (set m.flags (place - m.start) true) (p - m.start) false else is_among m.others p)
    (length-set m.flags (place - m.start) true)
    ∙ by (has_flag m p) refl
  where
    by : (b : Bool) → has_flag m p ≡ b
        → (if b then slice_index_or (set m.flags (place - m.start) true) (p - m.start) false else is_among m.others p)
        ≡ ((place == p) || (if b then slice_index_or m.flags (p - m.start) false else is_among m.others p))
    by true e =
        let same : ((place - m.start) == (p - m.start)) ≡ (place == p) = same_offset m.start place p low (flag_low m p e) in
        one_set m.flags (place - m.start) (p - m.start) within
        ∙ ap (λ (x : Bool). x || slice_index_or m.flags (p - m.start) false) same
    by false e =
        let other : (place == p) ≡ false = apart m place p (flag_there m place low within) e in
        sym (ap (λ (x : Bool). x || is_among m.others p) other)

one_behind : (a b : Bool) → (a || (b || false)) ≡ (b || a)
one_behind true true = refl
one_behind true false = refl
one_behind false true = refl
one_behind false false = refl

-- If `place` has no flag and is added to the list of other offsets, then the set contains `place` and the offsets that
-- it contained before.
pub other_added : (m : Marks) (place p : ℕ) → has_flag m place ≡ false
    → has (record { start = m.start; flags = m.flags; others = m.others ++ place ∷ [] }) p ≡ ((place == p) || has m p)
unfolding has
other_added m place p none = by (has_flag m p) refl
  where
    by : (b : Bool) → has_flag m p ≡ b
        → (if b then slice_index_or m.flags (p - m.start) false else is_among (m.others ++ place ∷ []) p)
        ≡ ((place == p) || (if b then slice_index_or m.flags (p - m.start) false else is_among m.others p))
    by true e =
        let other : (place == p) ≡ false = different m place p none e in
        sym (ap (λ (x : Bool). x || slice_index_or m.flags (p - m.start) false) other)
    by false e = among_joined m.others (place ∷ []) p ∙ one_behind (is_among m.others p) (place == p)

-- If `place` was marked, then marking `places` gives the same set as marking `place ∷ places`.
pub place_step : (place p : ℕ) (places : List ℕ) (new old : Bool) → new ≡ ((place == p) || old)
    → (new || is_among places p) ≡ (old || is_among (place ∷ places) p)
place_step place p places new old e = ap (λ b. b || is_among places p) e ∙ or_turned (place == p) old (is_among places p)

-- If the offsets of `item` were marked, then marking those of `items` gives the same set as marking those of `item ∷
-- items`.
pub item_step : (item : Item ℕ) (items : List (Item ℕ)) (p : ℕ) (new old : Bool) → new ≡ (old || is_among (item_places item) p)
    → (new || is_among (named_places items) p) ≡ (old || is_among (named_places (item ∷ items)) p)
item_step item items p new old e =
    ap (λ b. b || is_among (named_places items) p) e
    ∙ or_assoc old (is_among (item_places item) p) (is_among (named_places items) p)
    ∙ ap (λ b. old || b) (sym (among_joined (item_places item) (named_places items) p))

pub joined_places : (xs ys : List ℕ) (p : ℕ) (new middle old : Bool) → middle ≡ (old || is_among xs p) → new ≡ (middle || is_among ys p)
    → new ≡ (old || is_among (xs ++ ys) p)
joined_places xs ys p new middle old e f =
    f ∙ ap (λ b. b || is_among ys p) e ∙ or_assoc old (is_among xs p) (is_among ys p) ∙ ap (λ b. old || b) (sym (among_joined xs ys p))

-- If the offsets `xs` and then the offsets `ys` are marked in an empty set, then the set contains exactly `xs ++ ys`.
pub two_marked : (xs ys : List ℕ) (p : ℕ) (none first second : Bool) → none ≡ false → first ≡ (none || is_among xs p)
    → second ≡ (first || is_among ys p) → second ≡ is_among (xs ++ ys) p
two_marked xs ys p none first second a b c =
    joined_places xs ys p second first none b c ∙ ap (λ (x : Bool). x || is_among (xs ++ ys) p) a

pub three_marked : (xs ys zs : List ℕ) (p : ℕ) (none first second third : Bool) → none ≡ false → first ≡ (none || is_among xs p)
    → second ≡ (first || is_among ys p) → third ≡ (second || is_among zs p) → third ≡ is_among (xs ++ (ys ++ zs)) p
three_marked xs ys zs p none first second third a b c d =
    two_marked xs (ys ++ zs) p none first third a b (joined_places ys zs p third second first c d)

pub one_place : (place p : ℕ) (new old : Bool) → new ≡ ((place == p) || old) → new ≡ (old || is_among (place ∷ []) p)
one_place place p new old e = e ∙ by (place == p) old
  where
    by : (a b : Bool) → (a || b) ≡ (b || (a || false))
    by true true = refl
    by true false = refl
    by false true = refl
    by false false = refl

-- If no offset or no item remains to be marked, then the set is complete.
pub places_done : (places : List ℕ) (i p : ℕ) (now whole : Bool) → length places ≤ i → (now || is_among (drop i places) p) ≡ whole → now ≡ whole
places_done places i p now whole high e =
    sym (or_false now) ∙ sym (ap (λ l. now || is_among l p) (drop_all i places high)) ∙ e

pub items_done : {A : Type 0} → (f : A → Item ℕ) (items : List A) (i p : ℕ) (now whole : Bool) → length items ≤ i
    → (now || is_among (named_places (map f (drop i items))) p) ≡ whole → now ≡ whole
items_done f items i p now whole high e =
    sym (or_false now) ∙ sym (ap (λ l. now || is_among (named_places (map f l)) p) (drop_all i items high)) ∙ e

pub place_known : (marks : Marks) (used : List ℕ) (exit at : ℕ) → AreMarked marks used
    → record { offset = at; has_label = has marks at; is_exit = exit == at } ≡ place_at used exit at
place_known marks used exit at h = ap (λ (b : Bool). record { offset = at; has_label = b; is_exit = exit == at }) (h at)
