-- Spans that end, and the loops and depths of one item after another.
use Rattle.std.proofs.Common.{◌≡◌, ◌<◌, ◌+◌, ◌-◌, ◌++◌, ◌∷◌, [], ℕ, true, false, List, Option, append_assoc, ap, arith, drop, length, refl, ◌∙◌}
use Rattle.std.proofs.Common.{replicate, reverse, sym, take}
use Rattle.std.proofs.lemmas.List.{append-nil, length-reverse}
use Rattle.pm_code.specs.Item.{Item, size}
use Rattle.pm_trees.proofs.Ends.{reverse_without}
use Rattle.pm_statements.specs.Depths.{Depths, at_place, depths_from, has_ended, leads_by_condition, leads_to, loops_from, open_at, opened, with_loop}

pub ended_closes : (at : ℕ) (ends : List ℕ) → has_ended at ends ≡ true → open_at at (drop 1 ends) ≡ open_at at ends
ended_closes at [] e = refl
ended_closes at (end ∷ ends) e = rw e refl

-- If the innermost span has ended, then the list of spans is not empty.
pub some_ended : (at : ℕ) (l : List ℕ) → has_ended at (reverse l) ≡ true → 0 < length l
some_ended at [] e = absurd (grind (arith, e))
some_ended at (x ∷ l) e = omega arith

-- If the innermost span, which is the last item of the list, has ended, then removing it does not change which spans
-- are open at `at`.
pub ended_before : (at : ℕ) (l : List ℕ) → has_ended at (reverse l) ≡ true
    → open_at at (reverse (take (length l - 1) l)) ≡ open_at at (reverse l)
ended_before at l e = ap (open_at at) (reverse_without 1 l) ∙ ended_closes at (reverse l) e

pub none_ended : (at : ℕ) (ends : List ℕ) → has_ended at ends ≡ false → open_at at ends ≡ ends
none_ended at [] e = refl
none_ended at (end ∷ ends) e = rw e refl

-- If the loop of the next item is recorded, then the loops of the remaining items complete the list.
pub loops_step : (entries : List ℕ) (start at next : ℕ) (item : Item ℕ) (items all : List (Item ℕ)) (ls new : List ℕ)
    → all ≡ item ∷ items → next ≡ at + size at item → new ≡ with_loop start at next (leads_by_condition entries item) ls
    → loops_from entries start next items new ≡ loops_from entries start at all ls
unfolding loops_from
loops_step entries start at next item items all ls new a b c =
    ap (λ l. loops_from entries start next items l) c
    ∙ ap (λ (n : ℕ). loops_from entries start n items (with_loop start at n (leads_by_condition entries item) ls)) b
    ∙ ap (λ is. loops_from entries start at is ls) (sym a)

pub loops_done : (entries : List ℕ) (start at : ℕ) (items : List (Item ℕ)) (ls : List ℕ) → items ≡ []
    → loops_from entries start at items ls ≡ ls
unfolding loops_from
loops_done entries start at items ls e = ap (λ is. loops_from entries start at is ls) e

-- If the depths of the next item are appended, then the depths of the remaining items complete the list.
pub depths_step : (entries : List ℕ) (ls : Depths) (at next again : ℕ) (forward : Option ℕ) (ends now : List ℕ) (item : Item ℕ)
    (items all : List (Item ℕ)) (before after : List ℕ) (place : Option ℕ) (count depth : ℕ)
    → all ≡ item ∷ items → next ≡ at + size at item → again ≡ at_place ls at → reverse now ≡ opened at forward again ends
    → place ≡ leads_to entries item → count ≡ next - at → depth ≡ length now → after ≡ before ++ replicate count depth
    → after ++ depths_from entries ls next place (reverse now) items ≡ before ++ depths_from entries ls at forward ends all
unfolding depths_from
depths_step entries ls at next again forward ends now item items all before after place count depth a b c d e f g h =
    let n : ℕ = size at item in
    let many : count ≡ n = f ∙ omega (arith, b) in
    let o : List ℕ = opened at forward (at_place ls at) ends in
    let there : reverse now ≡ o = d ∙ ap (λ (x : ℕ). opened at forward x ends) c in
    let deep : depth ≡ length o = g ∙ sym (length-reverse now) ∙ ap length there in
    let rest : depths_from entries ls next place (reverse now) items
    ≡ depths_from entries ls (at + n) (leads_to entries item) o items =
    ap (λ (x : ℕ). depths_from entries ls x place (reverse now) items) b
    ∙ ap (λ p. depths_from entries ls (at + n) p (reverse now) items) e
    ∙ ap (λ x. depths_from entries ls (at + n) (leads_to entries item) x items) there in
    let here : after ≡ before ++ replicate n (length o) =
    h ∙ ap (λ (x : ℕ). before ++ replicate x depth) many ∙ ap (λ (x : ℕ). before ++ replicate n x) deep in
    ap (λ x. x ++ depths_from entries ls next place (reverse now) items) here
    ∙ ap (λ x. (before ++ replicate n (length o)) ++ x) rest
    ∙ append_assoc before (replicate n (length o)) (depths_from entries ls (at + n) (leads_to entries item) o items)
    ∙ ap (λ is. before ++ depths_from entries ls at forward ends is) (sym a)

pub depths_done : (entries : List ℕ) (ls : Depths) (at : ℕ) (forward : Option ℕ) (ends : List ℕ) (items : List (Item ℕ)) (before : List ℕ)
    → items ≡ [] → before ++ depths_from entries ls at forward ends items ≡ before
unfolding depths_from
depths_done entries ls at forward ends items before e =
    ap (λ is. before ++ depths_from entries ls at forward ends is) e ∙ append-nil before
