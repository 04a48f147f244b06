-- The phrases that are built part by part are the phrases of the statements. A *part* is one item of the code with its
-- stack effect. A *tree* is a part with the trees that push its operands.
use Rattle.std.proofs.Common.{◌≡◌, ◌≤◌, ℕ, zero, suc, ◌+◌, ◌-◌, Bool, true, false, List, [], ◌∷◌, drop, length, refl, sym, ap, ◌∙◌, arith}
use Rattle.std.specs.Prelude.{◌||◌, if◌then◌else◌}
use Rattle.std.proofs.lemmas.List.{drop-drop, drop-take, take-append-drop, take-take}
use Rattle.pm_phrases.specs.declared.around.Around.{Around}
use Rattle.pm_phrases.specs.declared.around.Missing.{Missing}
use Rattle.pm_phrases.specs.Shown.{Shown}
use Rattle.pm_trees.specs.declared.left.Left.{Left}
use Rattle.pm_trees.specs.Parts.{Part, is_reached}
use Rattle.pm_trees.specs.Trees.{Forest, Count, Growing, back, before_part, behind, closed, front, grown, grown_all, grown_by}
use Rattle.pm_trees.specs.Trees.{is_full, leaves_nothing, left_by}
use Rattle.pm_trees.specs.Trees.{leaves_of, lefts_of, none_missing, statements, takes_count}
use Rattle.pm_trees.specs.Trees.Forest.{Bare, Tree}
use Rattle.pm_trees.specs.Piles.{Pile, Texts, TextGrows, added, added_all, added_by, after, before_text, closed_texts, last_of, leaves_left, no_trees}
use Rattle.pm_trees.specs.Piles.{pile_of, rest_of, texts_in, upon}

-- ---- the two lists of a pile, which are summaries and phrases

consed : Left → Shown → Pile → Pile
consed l s t = record { lefts = l ∷ t.lefts; phrases = s ∷ t.phrases }

pile_front : (a : Around) (k : ℕ) (f : Forest) → last_of k (pile_of a f) ≡ pile_of a (front k f)
unfolding consed
pile_front a zero f = refl
pile_front a (suc k) Bare = refl
pile_front a (suc k) (Tree p m o before) = ap (consed _ _) (pile_front a k before)

pile_back : (a : Around) (k : ℕ) (f : Forest) → rest_of k (pile_of a f) ≡ pile_of a (back k f)
pile_back a zero f = refl
pile_back a (suc k) Bare = refl
pile_back a (suc k) (Tree p m o before) = pile_back a k before

lefts_same : (a : Around) (f : Forest) → (pile_of a f).lefts ≡ lefts_of f
lefts_same a Bare = refl
lefts_same a (Tree p m o before) =
    ap (λ o. left_by p o ∷ (pile_of a before).lefts) (lefts_same a o)
    ∙ ap (λ b. left_by p (lefts_of o) ∷ b) (lefts_same a before)

leaves_same : (a : Around) (f : Forest) → leaves_left (pile_of a f).lefts ≡ leaves_of f
unfolding left_by
leaves_same a Bare = refl
leaves_same a (Tree p m o before) = ap (λ l. p.leaves ∷ l) (leaves_same a before)

pile_behind : (a : Around) (f before : Forest) → after (pile_of a f) (pile_of a before) ≡ pile_of a (behind f before)
unfolding consed
pile_behind a Bare before = refl
pile_behind a (Tree p m o more) before = ap (consed _ _) (pile_behind a more before)

-- ---- building of trees

abbrev texts_of : Around → Growing → Texts
texts_of a g = record { done = pile_of a g.done; pending = pile_of a g.pending }

closed_as : (a : Around) (g : Growing) → closed_texts (texts_of a g) ≡ texts_of a (closed g)
closed_as a g = ap (λ (t : Pile). record { done = t; pending = no_trees }) (pile_behind a g.pending g.done)

before_as : (a : Around) (p : Part) (g : Growing) → before_text p (texts_of a g) ≡ texts_of a (before_part p g)
before_as a p g =
    ap (λ ls. if is_reached p.place || is_full ls then closed_texts (texts_of a g) else texts_of a g) (lefts_same a g.pending)
    ∙ by (is_reached p.place || is_full (lefts_of g.pending))
  where
    by : (b : Bool) → (if b then closed_texts (texts_of a g) else texts_of a g) ≡ texts_of a (if b then closed g else g)
    by true = closed_as a g
    by false = refl

-- The trees after the part `p` is added. `o` has its operands, `r` the remaining pending trees, and `done` the
-- statements.
abbrev added_with : Around → Part → Missing → Pile → Pile → Pile → Texts
added_with a p m done o r =
    if leaves_nothing p.leaves then record { done = upon a p m o (after r done); pending = no_trees }
    else if none_missing m then record { done = done; pending = upon a p m o r }
    else record { done = after r done; pending = upon a p m o no_trees }

added_grown : (a : Around) (p : Part) (c : Count) (g : Growing) → added_by a p c (texts_of a g) ≡ texts_of a (grown_by p c g)
added_grown a p c g =
    ap (λ o. added_with a p c.missing (pile_of a g.done) o (rest_of c.trees (pile_of a g.pending))) (pile_front a c.trees g.pending)
    ∙ ap (λ r. added_with a p c.missing (pile_of a g.done) (pile_of a (front c.trees g.pending)) r) (pile_back a c.trees g.pending)
    ∙ by (leaves_nothing p.leaves) (none_missing c.missing)
  where
    by : (x y : Bool)
        → (if x then record {
          done = upon a p c.missing (pile_of a (front c.trees g.pending)) (after (pile_of a (back c.trees g.pending)) (pile_of a g.done));
          pending = no_trees;
        }
        else if y then record {
          done = pile_of a g.done;
          pending = upon a p c.missing (pile_of a (front c.trees g.pending)) (pile_of a (back c.trees g.pending));
        }
        else record {
          done = after (pile_of a (back c.trees g.pending)) (pile_of a g.done);
          pending = upon a p c.missing (pile_of a (front c.trees g.pending)) no_trees;
        })
        ≡ texts_of a (if x then record { done = Tree p c.missing (front c.trees g.pending) (behind (back c.trees g.pending) g.done); pending = Bare }
        else if y then record { done = g.done; pending = Tree p c.missing (front c.trees g.pending) (back c.trees g.pending) }
        else record { done = behind (back c.trees g.pending) g.done; pending = Tree p c.missing (front c.trees g.pending) Bare })
    by true y = ap (λ (t : Pile). record { done = upon a p c.missing (pile_of a (front c.trees g.pending)) t; pending = no_trees })
        (pile_behind a (back c.trees g.pending) g.done)
    by false true = refl
    by false false = ap (λ (t : Pile). record { done = t; pending = upon a p c.missing (pile_of a (front c.trees g.pending)) no_trees })
        (pile_behind a (back c.trees g.pending) g.done)

added_as : (a : Around) (p : Part) (g : Growing) → added a p (texts_of a g) ≡ texts_of a (grown p g)
added_as a p g =
    ap (λ l. added_by a p (takes_count p.takes l) (texts_of a g)) (leaves_same a g.pending)
    ∙ added_grown a p (takes_count p.takes (leaves_of g.pending)) g

all_as : (a : Around) (ps : List Part) (g : Growing) → added_all a ps (texts_of a g) ≡ texts_of a (grown_all ps g)
unfolding added_all
all_as a [] g = refl
all_as a (p ∷ ps) g =
    ap (λ t. added_all a ps (added a p t)) (before_as a p g)
    ∙ ap (added_all a ps) (added_as a p (before_part p g))
    ∙ all_as a ps (grown p (before_part p g))

pub text_grows : TextGrows
unfolding statements
text_grows a ps =
    let g : Growing = record { done = Bare; pending = Bare } in
    ap (λ t. (closed_texts t).done) (all_as a ps g) ∙ ap (λ t. t.done) (closed_as a (grown_all ps g))

-- ---- trees as one pile, whose last trees are pending

abbrev beside : List Left → List Shown → Pile
beside l s = record { lefts = l; phrases = s }

piles_same : (l k : List Left) (s r : List Shown) → l ≡ k → s ≡ r → beside l s ≡ beside k r
piles_same l k s r e f = ap (λ (x : List Left). beside x s) e ∙ ap (λ (x : List Shown). beside k x) f

front_front : (n r : ℕ) (t : Pile) → last_of n (last_of (n + r) t) ≡ last_of n t
front_front n r t = piles_same _ _ _ _ (take-take n (n + r) t.lefts (omega arith)) (take-take n (n + r) t.phrases (omega arith))

back_front : (n r : ℕ) (t : Pile) → rest_of n (last_of (n + r) t) ≡ last_of r (rest_of n t)
back_front n r t = piles_same _ _ _ _ (drop-take n r t.lefts) (drop-take n r t.phrases)

back_back : (n r : ℕ) (t : Pile) → rest_of r (rest_of n t) ≡ rest_of (n + r) t
back_back n r t = piles_same _ _ _ _ (drop-drop r n t.lefts) (drop-drop r n t.phrases)

pub both_parts : (k : ℕ) (t : Pile) → after (last_of k t) (rest_of k t) ≡ t
both_parts k t = piles_same _ _ _ _ (take-append-drop k t.lefts) (take-append-drop k t.phrases)

-- If no tree is pending, then all trees are finished statements.
pub none_pending : (k : ℕ) (t : Pile) → texts_in t 0 ≡ closed_texts (texts_in t k)
none_pending k t = ap (λ (u : Pile). record { done = u; pending = no_trees }) (sym (both_parts k t))

-- The trees after a part with `n` operands is added, if `r` pending trees remain.
added_sum : (a : Around) (p : Part) (n : ℕ) (m : Missing) (r : ℕ) (t : Pile)
    → texts_in (upon a p m (last_of n t) (rest_of n t)) (if leaves_nothing p.leaves then 0 else if none_missing m then suc r else 1)
    ≡ added_with a p m (rest_of (n + r) t) (last_of n (last_of (n + r) t)) (rest_of n (last_of (n + r) t))
added_sum a p n m r t =
    by (leaves_nothing p.leaves) (none_missing m)
    ∙ ap (λ u. added_with a p m u (last_of n t) (last_of r (rest_of n t))) (back_back n r t)
    ∙ sym (ap (λ u. added_with a p m (rest_of (n + r) t) u (last_of r (rest_of n t))) (front_front n r t))
    ∙ sym (ap (λ u. added_with a p m (rest_of (n + r) t) (last_of n (last_of (n + r) t)) u) (back_front n r t))
  where
    o : Pile
    o = last_of n t

    q : Pile
    q = rest_of n t

    by : (x y : Bool) → texts_in (upon a p m o q) (if x then 0 else if y then suc r else 1)
        ≡ (if x then record { done = upon a p m o (after (last_of r q) (rest_of r q)); pending = no_trees }
        else if y then record { done = rest_of r q; pending = upon a p m o (last_of r q) }
        else record { done = after (last_of r q) (rest_of r q); pending = upon a p m o no_trees })
    by true y = ap (λ (u : Pile). record { done = upon a p m o u; pending = no_trees }) (sym (both_parts r q))
    by false true = refl
    by false false = ap (λ (u : Pile). record { done = u; pending = upon a p m o no_trees }) (sym (both_parts r q))

pub added_in : (a : Around) (p : Part) (n : ℕ) (m : Missing) (c : Count) (k : ℕ) (t : Pile) → n ≡ c.trees → m ≡ c.missing → n ≤ k
    → texts_in (upon a p m (last_of n t) (rest_of n t)) (if leaves_nothing p.leaves then 0 else if none_missing m then suc (k - n) else 1)
    ≡ added_by a p c (texts_in t k)
added_in a p n m c k t e f low =
    let whole : n + (k - n) ≡ k = omega (arith, low) in
    added_sum a p n m (k - n) t
    ∙ ap (λ (j : ℕ). added_with a p m (rest_of j t) (last_of n (last_of j t)) (rest_of n (last_of j t))) whole
    ∙ ap (λ (i : ℕ). added_with a p m (rest_of k t) (last_of i (last_of k t)) (rest_of i (last_of k t))) e
    ∙ ap (λ (w : Missing). added_with a p w (rest_of k t) (last_of c.trees (last_of k t)) (rest_of c.trees (last_of k t))) f

-- ---- one step of the loop over the parts

pub added_none : (a : Around) (i : ℕ) (ps : List Part) (t : Texts) → length ps ≤ i → added_all a (drop i ps) t ≡ t
unfolding added_all
added_none a zero [] t high = refl
added_none a zero (p ∷ ps) t high = absurd (omega (arith, high))
added_none a (suc i) [] t high = refl
added_none a (suc i) (p ∷ ps) t high = added_none a i ps t (omega (arith, high))

pub added_step : (a : Around) (p : Part) (ps more : List Part) (t : Texts) → ps ≡ p ∷ more
    → added_all a more (added a p (before_text p t)) ≡ added_all a ps t
unfolding added_all
added_step a p ps more t e = sym (ap (λ l. added_all a l t) e)
