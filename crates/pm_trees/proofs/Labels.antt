-- In a statement, only the first part can have a label or begin the exit code. A *part* is one item of the code with
-- its stack effect. A *tree* is a part with the trees that push its operands.
use Rattle.std.proofs.Common.{◌≡◌, Bool, true, false, List, [], ◌∷◌, ◌++◌, refl, sym, ap, ◌∙◌, subst, append_assoc}
use Rattle.std.specs.Prelude.{◌||◌, if◌then◌else◌}
use Rattle.pm_trees.specs.Parts.{Part, is_reached, procedure_parts}
use Rattle.pm_trees.specs.Trees.{Forest, Count, Growing, back, behind, front, is_full, leaves_nothing, leaves_of, lefts_of}
use Rattle.pm_trees.specs.Trees.{none_missing, parts_of, statements, takes_count}
use Rattle.pm_trees.specs.Trees.{before_part, closed, grown, grown_all, grown_by}
use Rattle.pm_trees.specs.Trees.Forest.{Bare, Tree}
use Rattle.pm_trees.specs.Laws.{AreInOne, AreReachedAtTheFront, AreUnreached, LabelsStandBeforeStatements}
use Rattle.pm_trees.proofs.Grown.{parts_split}

unreached_joined : (ps qs : List Part) → AreUnreached ps → AreUnreached qs → AreUnreached (ps ++ qs)
unreached_joined [] qs a b = b
unreached_joined (p ∷ ps) qs a b = (a.0, unreached_joined ps qs a.1 b)

unreached_front : (ps qs : List Part) → AreUnreached (ps ++ qs) → AreUnreached ps
unreached_front [] qs a = tt
unreached_front (p ∷ ps) qs a = (a.0, unreached_front ps qs a.1)

unreached_back : (ps qs : List Part) → AreUnreached (ps ++ qs) → AreUnreached qs
unreached_back [] qs a = a
unreached_back (p ∷ ps) qs a = unreached_back ps qs a.1

weaker : (ps : List Part) → AreUnreached ps → AreInOne ps
weaker [] a = tt
weaker (p ∷ ps) a = a.1

one_front : (ps qs : List Part) → AreInOne (ps ++ qs) → AreInOne ps
one_front [] qs a = tt
one_front (p ∷ ps) qs a = unreached_front ps qs a

one_back : (ps qs : List Part) → AreInOne (ps ++ qs) → AreInOne qs
one_back [] qs a = a
one_back (p ∷ ps) qs a = weaker qs (unreached_back ps qs a)

-- If the part `p` has no label, then it can be appended to the parts of a statement.
one_more : (ps : List Part) (p : Part) → AreInOne ps → is_reached p.place ≡ false → AreInOne (ps ++ p ∷ [])
one_more [] p a e = tt
one_more (q ∷ ps) p a e = unreached_joined ps (p ∷ []) a (e, tt)

-- If in a list of trees no part after the first has a label, then the same is true for each tree of the list.
each : (f : Forest) → AreInOne (parts_of f) → AreReachedAtTheFront f
each Bare a = tt
each (Tree p m o before) a =
    (one_back (parts_of before) (parts_of o ++ p ∷ []) a, each before (one_front (parts_of before) (parts_of o ++ p ∷ []) a))

front_behind : (f before : Forest) → AreReachedAtTheFront f → AreReachedAtTheFront before → AreReachedAtTheFront (behind f before)
front_behind Bare before f b = b
front_behind (Tree p m o more) before f b = (f.0, front_behind more before f.1 b)

record AreFronted (g : Growing) : Type 0 where
  done : AreReachedAtTheFront g.done
  pending : AreInOne (parts_of g.pending)

-- States that the part `p` may be added to the pending trees `f`: at most the first part has a label.
abbrev MayJoin : Part → Forest → Type 0
MayJoin p f = AreInOne (parts_of f ++ p ∷ [])

front_joins : (p : Part) (c : Count) (g : Growing) → MayJoin p g.pending → AreReachedAtTheFront g.done → AreFronted (grown_by p c g)
front_joins p c g a d = by (leaves_nothing p.leaves) (none_missing c.missing)
  where
    whole : AreInOne (parts_of (back c.trees g.pending) ++ (parts_of (front c.trees g.pending) ++ p ∷ []))
    whole = subst AreInOne (ap (λ l. l ++ p ∷ []) (sym (parts_split c.trees g.pending))
        ∙ append_assoc (parts_of (back c.trees g.pending)) (parts_of (front c.trees g.pending)) (p ∷ [])) a

    here : AreInOne (parts_of (front c.trees g.pending) ++ p ∷ [])
    here = one_back (parts_of (back c.trees g.pending)) (parts_of (front c.trees g.pending) ++ p ∷ []) whole

    rest : AreReachedAtTheFront (back c.trees g.pending)
    rest = each (back c.trees g.pending) (one_front (parts_of (back c.trees g.pending)) (parts_of (front c.trees g.pending) ++ p ∷ []) whole)

    by : (x y : Bool)
        → AreFronted (if x then record { done = Tree p c.missing (front c.trees g.pending) (behind (back c.trees g.pending) g.done); pending = Bare }
        else if y then record { done = g.done; pending = Tree p c.missing (front c.trees g.pending) (back c.trees g.pending) }
        else record { done = behind (back c.trees g.pending) g.done; pending = Tree p c.missing (front c.trees g.pending) Bare })
    by true y = record { done = (here, front_behind (back c.trees g.pending) g.done rest d); pending = tt }
    by false true = record { done = d; pending = whole }
    by false false = record { done = front_behind (back c.trees g.pending) g.done rest d; pending = here }

neither : (a b : Bool) → (a || b) ≡ false → a ≡ false
neither true b e = e
neither false b e = refl

front_grown : (p : Part) (g : Growing) → AreFronted g → AreFronted (grown p (before_part p g))
front_grown p g s = by (is_reached p.place || is_full (lefts_of g.pending)) refl
  where
    by : (b : Bool) → (is_reached p.place || is_full (lefts_of g.pending)) ≡ b → AreFronted (grown p (if b then closed g else g))
    by true e = front_joins p (takes_count p.takes []) (closed g) tt (front_behind g.pending g.done (each g.pending s.pending) s.done)
    by false e = front_joins p (takes_count p.takes (leaves_of g.pending)) g
        (one_more (parts_of g.pending) p s.pending (neither (is_reached p.place) (is_full (lefts_of g.pending)) e)) s.done

front_all : (ps : List Part) (g : Growing) → AreFronted g → AreFronted (grown_all ps g)
front_all [] g s = s
front_all (p ∷ ps) g s = front_all ps (grown p (before_part p g)) (front_grown p g s)

pub labels_stand_before_statements : LabelsStandBeforeStatements
unfolding statements
labels_stand_before_statements k p =
    let g : Growing = record { done = Bare; pending = Bare } in
    let ps = procedure_parts k p in
    let s : AreFronted (grown_all ps g) = front_all ps g (record { done = tt; pending = tt }) in
    front_behind (grown_all ps g).pending (grown_all ps g).done (each (grown_all ps g).pending s.pending) s.done
