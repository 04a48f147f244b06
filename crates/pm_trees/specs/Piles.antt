-- Trees as summaries and phrases, built part by part. A *phrase* is the text of a tree (`phrase_of` of pm_phrases).
-- *Pending* trees are the last trees, which can still become operands. A *part* is one item of the code with its stack
-- effect. A *tree* is a part with the trees that push its operands.
use Rattle.std.specs.Prelude.{◌≡◌, ℕ, List, [], ◌∷◌, ◌++◌, reverse}
use Rattle.std.specs.Prelude.{take, drop}
use Rattle.std.specs.Prelude.{◌||◌, if◌then◌else◌}
use Rattle.pm_phrases.specs.declared.around.Around.{Around}
use Rattle.pm_phrases.specs.declared.around.Missing.{Missing}
use Rattle.pm_phrases.specs.Phrases.{phrase_of}
use Rattle.pm_phrases.specs.Shown.{Shown}
use Rattle.pm_trees.specs.declared.left.Left.{Left}
use Rattle.pm_trees.specs.declared.part.Leaves.{Leaves}
use Rattle.pm_trees.specs.Parts.{Part, is_reached}
use Rattle.pm_trees.specs.Trees.{Count, Forest, is_full, leaves_nothing, left_by, none_missing, statements}
use Rattle.pm_trees.specs.Trees.{takes_count}
use Rattle.pm_trees.specs.Trees.Forest.{Bare, Tree}

-- ---- trees as summaries and phrases

-- A list of trees: the summary and the phrase of each, the last tree first.
pub record Pile : Type 0 where
  pub lefts : List Left
  pub phrases : List Shown

abbrev pub no_trees : Pile
no_trees = record { lefts = []; phrases = [] }

-- The trees `before` after the tree with the summary `left` and the phrase `phrase` is appended.
abbrev pub upon_all : Left → Shown → Pile → Pile
upon_all left phrase before = record { lefts = left ∷ before.lefts; phrases = phrase ∷ before.phrases }

-- The phrase of the part `p` with its operands.
abbrev pub phrase_by : Around → Part → Missing → Pile → Shown
phrase_by a p missing operands = phrase_of a p.item p.known missing (reverse operands.phrases)

-- The trees `before` after the part `p` with its operands is appended as one tree.
abbrev pub upon : Around → Part → Missing → Pile → Pile → Pile
upon a p missing operands before =
    upon_all (left_by p operands.lefts) (phrase_by a p missing operands) before

abbrev pub pile_of : Around → Forest → Pile
pile_of a Bare = no_trees
pile_of a (Tree p missing operands before) = upon a p missing (pile_of a operands) (pile_of a before)

-- The last `k` trees of `t`.
abbrev pub last_of : ℕ → Pile → Pile
last_of k t = record { lefts = take k t.lefts; phrases = take k t.phrases }

abbrev pub rest_of : ℕ → Pile → Pile
rest_of k t = record { lefts = drop k t.lefts; phrases = drop k t.phrases }

-- The trees `before`, followed by the trees `more`.
abbrev pub after : Pile → Pile → Pile
after more before = record { lefts = more.lefts ++ before.lefts; phrases = more.phrases ++ before.phrases }

-- ---- building of trees

-- Trees during building: the finished statements, and the pending trees, which can still become operands.
pub record Texts : Type 0 where
  pub done : Pile
  pub pending : Pile

-- The list of trees `t`, of which the last `k` are pending and the others are finished.
abbrev pub texts_in : Pile → ℕ → Texts
texts_in t k = record { done = rest_of k t; pending = last_of k t }

abbrev pub leaves_left : List Left → List Leaves
leaves_left [] = []
leaves_left (l ∷ ls) = l.leaves ∷ leaves_left ls

abbrev pub closed_texts : Texts → Texts
closed_texts t = record { done = after t.pending t.done; pending = no_trees }

abbrev pub added_by : Around → Part → Count → Texts → Texts
added_by a p c t =
    if leaves_nothing p.leaves
    then record {
      done = upon a p c.missing (last_of c.trees t.pending) (after (rest_of c.trees t.pending) t.done);
      pending = no_trees;
    }
    else if none_missing c.missing
    then record { done = t.done; pending = upon a p c.missing (last_of c.trees t.pending) (rest_of c.trees t.pending) }
    else record {
      done = after (rest_of c.trees t.pending) t.done;
      pending = upon a p c.missing (last_of c.trees t.pending) no_trees;
    }

abbrev pub added : Around → Part → Texts → Texts
added a p t = added_by a p (takes_count p.takes (leaves_left t.pending.lefts)) t

abbrev pub before_text : Part → Texts → Texts
before_text p t = if is_reached p.place || is_full t.pending.lefts then closed_texts t else t

unfoldable pub added_all : Around → List Part → Texts → Texts
added_all a [] t = t
added_all a (p ∷ ps) t = added_all a ps (added a p (before_text p t))

-- The phrases that are built part by part are the phrases of the statements.
abbrev pub TextGrows : Type 0
TextGrows = (a : Around) (ps : List Part)
    → (closed_texts (added_all a ps (record { done = no_trees; pending = no_trees }))).done ≡ pile_of a (statements ps)
