-- The first element of a list that passes a test, and the list without it.
use Rattle.std.proofs.Common.{◌≡◌, ◌<◌, ◌≤◌, ◌∙◌, ◌+◌, ℕ, suc, Bool, true, false, not, cond, List, [], ◌∷◌, ◌++◌, Option, None, Some, length, get_or, take, drop, refl, ap, ap₂, sym, arith, append-nil, ltb}
use Rattle.std.specs.List.{find, position, position_or_len, remove, slice_get}
use Rattle.std.proofs.lemmas.Bool.{ltb-false}
use Rattle.std.proofs.lemmas.List.{drop_all, take_all}
use Rattle.std.proofs.lemmas.List.Folds.{find_at}
use Rattle.std.proofs.lemmas.Option.{cond_some, slice_get-get_or, slice_get_past}
use Rattle.pm_compare.specs.Verdicts.{without_first}

-- The list without the first element that passes is the list without the element at its place.
without_at : {X : Type 0} (p : X → Bool) (xs : List X) → without_first p xs ≡ remove xs (position_or_len p xs)
without_at p [] = refl
without_at {X} p (x ∷ xs) = by (p x) (without_at p xs)
  where
    later : (n : ℕ) → remove (x ∷ xs) (1 + n) ≡ x ∷ remove xs n
    later n = let e : 1 + n ≡ suc n = omega arith in ap (remove (x ∷ xs)) e

    by : (b : Bool) → without_first p xs ≡ remove xs (position_or_len p xs)
        → cond b xs (x ∷ without_first p xs) ≡ remove (x ∷ xs) (cond (not b) (1 + position_or_len p xs) 0)
    by true rest = refl
    by false rest = ap (λ (ys : List X). x ∷ ys) rest ∙ sym (later (position_or_len p xs))

-- A place that a search finds.
place_is : {X : Type 0} (p : X → Bool) (xs : List X) (k : ℕ) → position p xs ≡ Some k → position_or_len p xs ≡ k
place_is p xs k found = (cond_some (ltb (position_or_len p xs) (length xs)) (position_or_len p xs) k found).1

-- A search that finds nothing.
no_place : {X : Type 0} (p : X → Bool) (xs : List X) → position p xs ≡ None → length xs ≤ position_or_len p xs
no_place p xs none = by (ltb (position_or_len p xs) (length xs)) refl none
  where
    by : (b : Bool) → ltb (position_or_len p xs) (length xs) ≡ b → cond b (Some (position_or_len p xs)) None ≡ None
        → length xs ≤ position_or_len p xs
    by true is e = absurd (cc)
    by false is e = ltb-false (position_or_len p xs) (length xs) is

pub found_there : {X : Type 0} (p : X → Bool) (xs : List X) (k : ℕ) (x : X) → position p xs ≡ Some k → k < length xs
    → x ≡ get_or xs k x → Some x ≡ find p xs
found_there p xs k x found within item =
    ap Some item ∙ sym (slice_get-get_or xs k x within) ∙ ap (slice_get xs) (sym (place_is p xs k found)) ∙ sym (find_at p xs)

pub removed_there : {X : Type 0} (p : X → Bool) (xs : List X) (k : ℕ) → position p xs ≡ Some k → remove xs k ≡ without_first p xs
removed_there p xs k found = ap (remove xs) (sym (place_is p xs k found)) ∙ sym (without_at p xs)

pub found_nowhere : {X : Type 0} (p : X → Bool) (xs : List X) → position p xs ≡ None → None ≡ find p xs
found_nowhere p xs none = sym (find_at p xs ∙ slice_get_past xs (position_or_len p xs) (no_place p xs none))

pub removed_nowhere : {X : Type 0} (p : X → Bool) (xs : List X) → position p xs ≡ None → xs ≡ without_first p xs
removed_nowhere {X} p xs none =
    let n = position_or_len p xs in
    let past : length xs ≤ n = no_place p xs none in
    sym (without_at p xs ∙ ap₂ (λ (front rest : List X). front ++ rest) (take_all n xs past) (drop_all (suc n) xs (omega arith)) ∙ append-nil xs)
