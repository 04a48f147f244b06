-- The statements, read with the operands first, are the code. A *part* is one item of the code with its stack effect. A
-- *tree* is a part with the trees that push its operands.
use Rattle.std.proofs.Common.{◌≡◌, ℕ, zero, suc, ◌+◌, Bool, true, false, List, [], ◌∷◌, ◌++◌, refl, sym, ap, ◌∙◌, append_assoc}
use Rattle.std.specs.Prelude.{◌||◌, map, if◌then◌else◌}
use Rattle.std.proofs.lemmas.List.{append-nil}
use Rattle.pm_code.specs.Item.{Item, size}
use Rattle.pm_trees.specs.Parts.{Known, Part, is_reached, labelled_places, parts, procedure_parts}
use Rattle.pm_trees.specs.Trees.{Forest, Count, Growing, back, before_part, behind, closed, front, grown, grown_all, grown_by, is_full, leaves_nothing}
use Rattle.pm_trees.specs.Trees.{leaves_of, lefts_of, none_missing, parts_of, statements, takes_count}
use Rattle.pm_trees.specs.Trees.Forest.{Bare, Tree}
use Rattle.pm_trees.specs.Laws.{StatementsAreTheCode}

pub parts_behind : (f before : Forest) → parts_of (behind f before) ≡ parts_of before ++ parts_of f
parts_behind Bare before = sym (append-nil (parts_of before))
parts_behind (Tree p m o more) before =
    rw (parts_behind more before) (append_assoc (parts_of before) (parts_of more) (parts_of o ++ p ∷ []))

pub parts_split : (k : ℕ) (f : Forest) → parts_of (back k f) ++ parts_of (front k f) ≡ parts_of f
parts_split zero f = append-nil (parts_of f)
parts_split (suc k) Bare = refl
parts_split (suc k) (Tree p m o before) =
    sym (append_assoc (parts_of (back k before)) (parts_of (front k before)) (parts_of o ++ p ∷ []))
    ∙ ap (λ l. l ++ (parts_of o ++ p ∷ [])) (parts_split k before)

-- ---- the parts of the trees during building

all_parts : Growing → List Part
all_parts g = parts_of g.done ++ parts_of g.pending

parts_closed : (g : Growing) → parts_of (closed g).done ≡ all_parts g
unfolding all_parts
parts_closed g = parts_behind g.pending g.done

parts_before : (p : Part) (g : Growing) → all_parts (before_part p g) ≡ all_parts g
unfolding all_parts
parts_before p g = by (is_reached p.place || is_full (lefts_of g.pending))
  where
    by : (b : Bool) → parts_of (if b then closed g else g).done ++ parts_of (if b then closed g else g).pending ≡ parts_of g.done ++ parts_of g.pending
    by true = append-nil (parts_of (behind g.pending g.done)) ∙ parts_behind g.pending g.done
    by false = refl

-- If a part is added to the trees, then the parts of the trees are the old parts, followed by this part.
joins : (p : Part) (c : Count) (g : Growing) → all_parts (grown_by p c g) ≡ all_parts g ++ p ∷ []
unfolding all_parts
joins p c g = by (leaves_nothing p.leaves) (none_missing c.missing)
  where
    all : parts_of g.done ++ (parts_of (back c.trees g.pending) ++ (parts_of (front c.trees g.pending) ++ p ∷ []))
        ≡ (parts_of g.done ++ parts_of g.pending) ++ p ∷ []
    all = ap (λ l. parts_of g.done ++ l)
        (sym (append_assoc (parts_of (back c.trees g.pending)) (parts_of (front c.trees g.pending)) (p ∷ []))
        ∙ ap (λ l. l ++ p ∷ []) (parts_split c.trees g.pending))
        ∙ sym (append_assoc (parts_of g.done) (parts_of g.pending) (p ∷ []))

    gone : parts_of (behind (back c.trees g.pending) g.done) ++ (parts_of (front c.trees g.pending) ++ p ∷ [])
        ≡ (parts_of g.done ++ parts_of g.pending) ++ p ∷ []
    gone = ap (λ l. l ++ (parts_of (front c.trees g.pending) ++ p ∷ [])) (parts_behind (back c.trees g.pending) g.done)
        ∙ append_assoc (parts_of g.done) (parts_of (back c.trees g.pending)) (parts_of (front c.trees g.pending) ++ p ∷ []) ∙ all

    by : (a b : Bool)
        → all_parts (if a then record { done = Tree p c.missing (front c.trees g.pending) (behind (back c.trees g.pending) g.done); pending = Bare }
        else if b then record { done = g.done; pending = Tree p c.missing (front c.trees g.pending) (back c.trees g.pending) }
        else record { done = behind (back c.trees g.pending) g.done; pending = Tree p c.missing (front c.trees g.pending) Bare })
        ≡ (parts_of g.done ++ parts_of g.pending) ++ p ∷ []
    by true b = append-nil (parts_of (behind (back c.trees g.pending) g.done) ++ (parts_of (front c.trees g.pending) ++ p ∷ [])) ∙ gone
    by false true = all
    by false false = gone

parts_grown : (p : Part) (g : Growing) → all_parts (grown p g) ≡ all_parts g ++ p ∷ []
parts_grown p g = joins p (takes_count p.takes (leaves_of g.pending)) g

parts_all : (ps : List Part) (g : Growing) → all_parts (grown_all ps g) ≡ all_parts g ++ ps
parts_all [] g = sym (append-nil (all_parts g))
parts_all (p ∷ ps) g =
    parts_all ps (grown p (before_part p g))
    ∙ ap (λ l. l ++ ps) (parts_grown p (before_part p g) ∙ ap (λ l. l ++ p ∷ []) (parts_before p g))
    ∙ append_assoc (all_parts g) (p ∷ []) ps

parts_of_statements : (ps : List Part) → parts_of (statements ps) ≡ ps
unfolding statements all_parts
parts_of_statements ps =
    let g : Growing = record { done = Bare; pending = Bare } in
    parts_closed (grown_all ps g) ∙ parts_all ps g

items_of_parts : (k : Known) (used : List ℕ) (exit at : ℕ) (items : List (Item ℕ)) → map (λ (p : Part). p.item) (parts k used exit at items) ≡ items
items_of_parts k used exit at [] = refl
items_of_parts k used exit at (item ∷ items) = ap (λ l. item ∷ l) (items_of_parts k used exit (at + size at item) items)

pub statements_are_the_code : StatementsAreTheCode
statements_are_the_code k p =
    ap (λ l. map (λ (q : Part). q.item) l) (parts_of_statements (procedure_parts k p))
    ∙ items_of_parts k (labelled_places p) p.exit p.start p.items
