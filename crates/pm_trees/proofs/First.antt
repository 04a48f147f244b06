-- What is missing for a statement was on the stack before the statement. A *part* is one item of the code with its
-- stack effect. A *tree* is a part with the trees that push its operands.
use Rattle.std.proofs.Common.{◌≡◌, ℕ, zero, suc, Bool, true, false, List, [], ◌∷◌, refl}
use Rattle.std.specs.Prelude.{◌||◌, if◌then◌else◌}
use Rattle.pm_phrases.specs.declared.around.Missing.{Missing}
use Rattle.pm_trees.specs.Parts.{Part, is_reached, procedure_parts}
use Rattle.pm_trees.specs.Trees.{Forest, Count, Growing, back, before_part, behind, closed, front, grown, grown_all, grown_by, is_full, leaves_nothing}
use Rattle.pm_trees.specs.Trees.{leaves_of, lefts_of, none_missing, statements, takes_count}
use Rattle.pm_trees.specs.Trees.Forest.{Bare, Tree}
use Rattle.pm_trees.specs.Laws.{AreWhole, EachMissesBelow, MissBelow, MissingIsBelow}

whole_below : (f : Forest) → AreWhole f → MissBelow f
whole_below Bare w = tt
whole_below (Tree p m o Bare) w = whole_below o w.1
whole_below (Tree p m o (Tree q n r before)) w = (w.0, w.1, whole_below (Tree q n r before) w.2)

below_front : (k : ℕ) (f : Forest) → MissBelow f → MissBelow (front k f)
below_front zero f s = tt
below_front (suc k) Bare s = tt
below_front (suc zero) (Tree p m o Bare) s = s
below_front (suc (suc k)) (Tree p m o Bare) s = s
below_front (suc zero) (Tree p m o (Tree q n r before)) s = whole_below o s.1
below_front (suc (suc k)) (Tree p m o (Tree q n r before)) s = (s.0, s.1, below_front (suc k) (Tree q n r before) s.2)

below_back : (k : ℕ) (f : Forest) → MissBelow f → MissBelow (back k f)
below_back zero f s = s
below_back (suc k) Bare s = tt
below_back (suc zero) (Tree p m o Bare) s = tt
below_back (suc (suc k)) (Tree p m o Bare) s = tt
below_back (suc k) (Tree p m o (Tree q n r before)) s = below_back k (Tree q n r before) s.2

-- States that the operands of a tree that follows other trees are complete: nothing is missing in them.
abbrev OrWhole : Forest → Forest → Type 0
OrWhole o Bare = Unit {0}
OrWhole o (Tree q n r before) = AreWhole o

one_more : (p : Part) (m : Missing) (o x y : Forest) → none_missing m ≡ true → AreWhole o → OrWhole x y → OrWhole (Tree p m o x) y
one_more p m o x Bare e w h = tt
one_more p m o x (Tree q n r before) e w h = (e, w, h)

or_whole : (k : ℕ) (f : Forest) → MissBelow f → OrWhole (front k f) (back k f)
or_whole zero Bare s = tt
or_whole zero (Tree p m o before) s = tt
or_whole (suc k) Bare s = tt
or_whole (suc zero) (Tree p m o Bare) s = tt
or_whole (suc (suc k)) (Tree p m o Bare) s = tt
or_whole (suc k) (Tree p m o (Tree q n r before)) s =
    one_more p m o (front k (Tree q n r before)) (back k (Tree q n r before)) s.0 s.1 (or_whole k (Tree q n r before) s.2)

upon : (p : Part) (m : Missing) (o before : Forest) → none_missing m ≡ true → MissBelow o → OrWhole o before → MissBelow before
    → MissBelow (Tree p m o before)
upon p m o Bare e a w s = a
upon p m o (Tree q n r before) e a w s = (e, w, s)

each : (f : Forest) → MissBelow f → EachMissesBelow f
each Bare s = tt
each (Tree p m o Bare) s = (s, tt)
each (Tree p m o (Tree q n r before)) s = (whole_below o s.1, each (Tree q n r before) s.2)

each_behind : (f before : Forest) → EachMissesBelow f → EachMissesBelow before → EachMissesBelow (behind f before)
each_behind Bare before f b = b
each_behind (Tree p m o more) before f b = (f.0, each_behind more before f.1 b)

record AreBelow (g : Growing) : Type 0 where
  done : EachMissesBelow g.done
  pending : MissBelow g.pending

below_joins : (p : Part) (c : Count) (g : Growing) → AreBelow g → AreBelow (grown_by p c g)
below_joins p c g s = by (leaves_nothing p.leaves) (none_missing c.missing) refl
  where
    o : MissBelow (front c.trees g.pending)
    o = below_front c.trees g.pending s.pending

    r : MissBelow (back c.trees g.pending)
    r = below_back c.trees g.pending s.pending

    by : (x y : Bool) → none_missing c.missing ≡ y
        → AreBelow (if x then record { done = Tree p c.missing (front c.trees g.pending) (behind (back c.trees g.pending) g.done); pending = Bare }
        else if y then record { done = g.done; pending = Tree p c.missing (front c.trees g.pending) (back c.trees g.pending) }
        else record { done = behind (back c.trees g.pending) g.done; pending = Tree p c.missing (front c.trees g.pending) Bare })
    by true y e = record { done = (o, each_behind (back c.trees g.pending) g.done (each (back c.trees g.pending) r) s.done); pending = tt }
    by false true e = record {
      done = s.done;
      pending = upon p c.missing (front c.trees g.pending) (back c.trees g.pending) e o (or_whole c.trees g.pending s.pending) r;
    }
    by false false e = record { done = each_behind (back c.trees g.pending) g.done (each (back c.trees g.pending) r) s.done; pending = o }

below_before : (p : Part) (g : Growing) → AreBelow g → AreBelow (before_part p g)
below_before p g s = by (is_reached p.place || is_full (lefts_of g.pending))
  where
    by : (b : Bool) → AreBelow (if b then closed g else g)
    by true = record { done = each_behind g.pending g.done (each g.pending s.pending) s.done; pending = tt }
    by false = s

below_all : (ps : List Part) (g : Growing) → AreBelow g → AreBelow (grown_all ps g)
below_all [] g s = s
below_all (p ∷ ps) g s =
    let h = before_part p g in
    below_all ps (grown p h) (below_joins p (takes_count p.takes (leaves_of h.pending)) h (below_before p g s))

pub missing_is_below : MissingIsBelow
unfolding statements
missing_is_below k p =
    let g : Growing = record { done = Bare; pending = Bare } in
    let ps = procedure_parts k p in
    let s : AreBelow (grown_all ps g) = below_all ps g (record { done = tt; pending = tt }) in
    each_behind (grown_all ps g).pending (grown_all ps g).done (each (grown_all ps g).pending s.pending) s.done
