-- Laws of the last items of lists.
use Rattle.std.proofs.Common.{◌≡◌, ◌≤◌, ℕ, zero, suc, ◌-◌, Bool, true, false, not, List, [], ◌∷◌, ◌++◌, drop, take, length, refl, sym, ap, ◌∙◌, arith}
use Rattle.std.specs.Prelude.{reverse, ◌==◌, ◌&&◌, nat_le}
use Rattle.std.proofs.lemmas.Bool.{and_parts}
use Rattle.std.proofs.lemmas.Bool.Decides.{nat_tests}
use Rattle.std.proofs.lemmas.List.{reverse-append, reverse-reverse, length-reverse, length-drop, take-append-drop, drop_all, take_all}
use Rattle.std.proofs.Math.Seq.{drop-append_seam, take-append_seam}
use Rattle.pm_trees.specs.declared.part.Leaves.{Leaves}
use Rattle.pm_trees.specs.Trees.{first_place, is_operand, is_set, words_count, words_left}
use Rattle.pm_trees.specs.declared.left.Left.{Left}
use Rattle.pm_trees.specs.declared.part.Place.{Place}
use Rattle.pm_trees.specs.Piles.{leaves_left}

pub reverse_pushed : {A : Type 0} → (l : List A) (s : A) → reverse (l ++ s ∷ []) ≡ s ∷ reverse l
reverse_pushed l s = reverse-append l (s ∷ [])

pub twice_reversed : {A : Type 0} → (l : List A) → reverse (reverse l) ≡ l
twice_reversed l = reverse-reverse l

pub operand_fits : (n : ℕ) (l : Leaves) → is_operand n l ≡ true → words_left l ≤ n
operand_fits n l h =
    let more = and_parts (not (n == 0)) (not (is_set l) && nat_le (words_left l) n) h in
    let low = and_parts (not (is_set l)) (nat_le (words_left l) n) more.1 in
    grind (arith, nat_tests, low.1)

pub no_words : (ls : List Leaves) → words_count 0 ls ≡ record { trees = 0; missing = 0 }
unfolding words_count
no_words [] = refl
no_words (l ∷ ls) = refl

pub leaves_dropped : (k : ℕ) (l : List Left) → leaves_left (drop k l) ≡ drop k (leaves_left l)
leaves_dropped zero l = refl
leaves_dropped (suc k) [] = refl
leaves_dropped (suc k) (s ∷ ss) = leaves_dropped k ss

-- If the list `l` has at least `k` items, then dropping the first `k` items of the reverse of `l` is the reverse of `l`
-- without its last `k` items.
without_few : {A : Type 0} → (k : ℕ) (l : List A) → k ≤ length l → reverse (take (length l - k) l) ≡ drop k (reverse l)
without_few k l low =
    let i : ℕ = length l - k in
    let count : length (reverse (drop i l)) ≡ k =
    length-reverse (drop i l) ∙ length-drop i l ∙ omega (arith, low) in
    let whole : reverse (drop i l) ++ reverse (take i l) ≡ reverse l =
    sym (reverse-append (take i l) (drop i l)) ∙ ap reverse (take-append-drop i l) in
    sym (drop-append_seam (reverse (drop i l)) (reverse (take i l)))
    ∙ ap (λ (n : ℕ). drop n (reverse (drop i l) ++ reverse (take i l))) count
    ∙ ap (drop k) whole

last_few : {A : Type 0} → (k : ℕ) (l : List A) → k ≤ length l → reverse (drop (length l - k) l) ≡ take k (reverse l)
last_few k l low =
    let i : ℕ = length l - k in
    let count : length (reverse (drop i l)) ≡ k =
    length-reverse (drop i l) ∙ length-drop i l ∙ omega (arith, low) in
    let whole : reverse (drop i l) ++ reverse (take i l) ≡ reverse l =
    sym (reverse-append (take i l) (drop i l)) ∙ ap reverse (take-append-drop i l) in
    sym (take-append_seam (reverse (drop i l)) (reverse (take i l)))
    ∙ ap (λ (n : ℕ). take n (reverse (drop i l) ++ reverse (take i l))) count
    ∙ ap (take k) whole

pub reverse_without : {A : Type 0} → (k : ℕ) (l : List A) → reverse (take (length l - k) l) ≡ drop k (reverse l)
reverse_without k l = by (nat_le k (length l)) refl
  where
    by : (b : Bool) → nat_le k (length l) ≡ b → reverse (take (length l - k) l) ≡ drop k (reverse l)
    by true e = without_few k l (grind (arith, nat_tests, e))
    by false e =
        let none : length l - k ≡ 0 = grind (arith, nat_tests, e) in
        let far : length (reverse l) ≤ k = grind (arith, nat_tests, e, length-reverse l) in
        ap (λ (n : ℕ). reverse (take n l)) none ∙ sym (drop_all k (reverse l) far)

pub reverse_last : {A : Type 0} → (k : ℕ) (l : List A) → reverse (drop (length l - k) l) ≡ take k (reverse l)
reverse_last k l = by (nat_le k (length l)) refl
  where
    by : (b : Bool) → nat_le k (length l) ≡ b → reverse (drop (length l - k) l) ≡ take k (reverse l)
    by true e = last_few k l (grind (arith, nat_tests, e))
    by false e =
        let none : length l - k ≡ 0 = grind (arith, nat_tests, e) in
        let far : length (reverse l) ≤ k = grind (arith, nat_tests, e, length-reverse l) in
        ap (λ (n : ℕ). reverse (drop n l)) none ∙ sym (take_all k (reverse l) far)

first_among : (p : Place) (l : List Left) (q : Left) → first_place p (l ++ q ∷ []) ≡ q.place
first_among p [] q = refl
first_among p (l ∷ ls) q = first_among l.place ls q

pub last_again : {A : Type 0} → (k : ℕ) (l : List A) → drop (length l - k) l ≡ reverse (take k (reverse l))
last_again k l = sym (twice_reversed (drop (length l - k) l)) ∙ ap reverse (reverse_last k l)

pub first_place_first : (p : Place) (q : Left) (ls : List Left) → first_place p (reverse (q ∷ ls)) ≡ q.place
first_place_first p q ls = ap (first_place p) (reverse-append (q ∷ []) ls) ∙ first_among p (reverse ls) q
