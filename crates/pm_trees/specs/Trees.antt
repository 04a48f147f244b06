-- Code as statements. Each statement is a tree whose nodes are parts of the code. A *share* is an amount of the stack:
-- a number of words, or one set.
use Rattle.std.specs.Prelude.{ℕ, zero, suc, ◌+◌, ◌-◌, Bool, true, false, not, List, [], ◌∷◌, ◌++◌, drop, ◌==◌, ◌||◌}
use Rattle.std.specs.Prelude.{◌&&◌, nat_le, nat_lt, if◌then◌else◌}
use Rattle.pm_effects.specs.declared.effect.Share.{Share}
use Rattle.pm_effects.specs.declared.effect.Share.TheVariants as share
use Rattle.pm_phrases.specs.declared.around.Missing.{Missing}
use Rattle.pm_trees.specs.declared.left.Left.{Left}
use Rattle.pm_trees.specs.declared.part.Leaves.{Leaves}
use Rattle.pm_trees.specs.declared.part.Leaves.TheVariants as leaves
use Rattle.pm_trees.specs.declared.part.Place.{Place}
use Rattle.pm_trees.specs.declared.part.Takes.{Takes}
use Rattle.pm_trees.specs.Parts.{Part, is_reached}

-- A list of trees, the last tree first. The fields of `Tree` are a part, what is missing for the part (it pops this,
-- but no operand pushes it), its operands, and the trees before this tree.
pub data Forest : Type 0 where
  Bare : Forest
  Tree : Part → Missing → Forest → Forest → Forest

-- The parts of the trees in the order of execution: first the operands from left to right, then the part that pops
-- them.
abbrev pub parts_of : Forest → List Part
parts_of Bare = []
parts_of (Tree p missing operands before) = parts_of before ++ (parts_of operands ++ p ∷ [])

-- The trees `before`, followed by the trees of the first argument.
abbrev pub behind : Forest → Forest → Forest
behind Bare before = before
behind (Tree p missing operands more) before = Tree p missing operands (behind more before)

-- ---- operands

-- The last `k` trees of the list.
abbrev pub front : ℕ → Forest → Forest
front zero f = Bare
front (suc k) Bare = Bare
front (suc k) (Tree p missing operands before) = Tree p missing operands (front k before)

abbrev pub back : ℕ → Forest → Forest
back zero f = f
back (suc k) Bare = Bare
back (suc k) (Tree p missing operands before) = back k before

-- What the part of each tree pushes, the last tree first.
abbrev pub leaves_of : Forest → List Leaves
leaves_of Bare = []
leaves_of (Tree p missing operands before) = p.leaves ∷ leaves_of before

-- ---- the summary of a tree: what its part pushes, the place of its first part, and the number of its parts

-- The maximum number of parts of an operand. A tree with more parts is a statement, even if it pushes something.
abbrev pub most_parts : ℕ
most_parts = 100

-- The number `n` of parts, limited to `most_parts + 1`.
abbrev pub capped : ℕ → ℕ
capped n = if nat_lt most_parts n then suc most_parts else n

abbrev pub parts_left : List Left → ℕ
parts_left [] = 0
parts_left (l ∷ ls) = capped (l.parts + parts_left ls)

-- The place of the first tree of the list, or `place` if the list is empty.
abbrev pub first_place : Place → List Left → Place
first_place place [] = place
first_place place (l ∷ ls) = first_place l.place ls

-- The summary of the tree that consists of the part `p` and the trees `operands`.
unfoldable pub left_by : Part → List Left → Left
left_by p operands = record {
  leaves = p.leaves;
  place = first_place p.place operands;
  parts = capped (suc (parts_left operands));
  role = p.role;
}

abbrev pub lefts_of : Forest → List Left
lefts_of Bare = []
lefts_of (Tree p missing operands before) = left_by p (lefts_of operands) ∷ lefts_of before

-- Whether the last tree has too many parts for an operand.
abbrev pub is_full : List Left → Bool
is_full [] = false
is_full (l ∷ ls) = nat_lt most_parts l.parts

-- ---- how many trees are operands of a part

-- The number of words that a tree pushes. For a set it is 0, because the size of the set is not known.
abbrev pub words_left : Leaves → ℕ
words_left (leaves.Words n) = n
words_left (leaves.Constant c) = 1
words_left leaves.Set = 0

abbrev pub is_set : Leaves → Bool
is_set (leaves.Words n) = false
is_set (leaves.Constant c) = false
is_set leaves.Set = true

abbrev pub is_operand : ℕ → Leaves → Bool
is_operand n l = not (n == 0) && (not (is_set l) && nat_le (words_left l) n)

-- The number of trees that are operands, and the number of words that they do not push although they are needed.
pub record CountWords : Type 0 where
  pub trees : ℕ
  pub missing : ℕ

pub record CountShare : Type 0 where
  pub trees : ℕ
  pub missing : Share

pub record Count : Type 0 where
  pub trees : ℕ
  pub missing : Missing

abbrev pub one_more : CountWords → CountWords
one_more c = record { trees = suc c.trees; missing = c.missing }

-- Counts how many of the last trees together push at most `n` words.
unfoldable pub words_count : ℕ → List Leaves → CountWords
words_count n [] = record { trees = 0; missing = n }
words_count n (l ∷ ls) =
    if is_operand n l then one_more (words_count (n - words_left l) ls) else record { trees = 0; missing = n }

abbrev pub as_share : CountWords → CountShare
as_share c = record { trees = c.trees; missing = share.Words c.missing }

abbrev pub no_set : CountShare
no_set = record { trees = 0; missing = share.Set }

-- The count for a set that is pushed as words followed by their number. The trees are a set only if no word is missing.
abbrev pub counted : CountWords → CountShare
counted c = if c.missing == 0 then as_share (one_more c) else no_set

-- Counts how many of the last trees push one set. A set is pushed by one tree, or by trees that push words followed by
-- a constant that is the number of these words.
unfoldable pub set_count : List Leaves → CountShare
set_count [] = no_set
set_count (leaves.Words n ∷ ls) = no_set
set_count (leaves.Constant c ∷ ls) = counted (words_count c ls)
set_count (leaves.Set ∷ ls) = record { trees = 1; missing = share.Words 0 }

unfoldable pub share_count : Share → List Leaves → CountShare
share_count (share.Words n) ls = as_share (words_count n ls)
share_count share.Set ls = set_count ls

abbrev pub is_none : Share → Bool
is_none (share.Words n) = n == 0
is_none share.Set = false

abbrev pub none_missing : Missing → Bool
none_missing t = is_none t.top && is_none t.below

-- The count for both shares of a part: `t` for the share on top, and `u` for the share below it. If something of the
-- share on top is missing, no tree is counted for the share below it.
abbrev pub then_count : CountShare → Share → CountShare → Count
then_count t below u =
    if is_none t.missing
    then record { trees = t.trees + u.trees; missing = record { top = share.Words 0; below = u.missing } }
    else record { trees = t.trees; missing = record { top = t.missing; below = below } }

unfoldable pub takes_count : Takes → List Leaves → Count
takes_count w ls =
    let t = share_count w.top ls in
    then_count t w.below (share_count w.below (drop t.trees ls))

-- ---- building of statements

-- Trees during building: the finished statements, and the pending trees, which can still become operands.
pub record Growing : Type 0 where
  pub done : Forest
  pub pending : Forest

-- The trees after all pending trees become statements.
abbrev pub closed : Growing → Growing
closed g = record { done = behind g.pending g.done; pending = Bare }

abbrev pub leaves_nothing : Leaves → Bool
leaves_nothing l = not (is_set l) && words_left l == 0

-- Adds the part `p` with the operands that `c` counts. If the part pushes nothing, its tree is a statement, and the
-- remaining pending trees become statements too. If something is missing, the remaining pending trees become
-- statements.
abbrev pub grown_by : Part → Count → Growing → Growing
grown_by p c g =
    if leaves_nothing p.leaves
    then record {
      done = Tree p c.missing (front c.trees g.pending) (behind (back c.trees g.pending) g.done);
      pending = Bare;
    }
    else if none_missing c.missing
    then record { done = g.done; pending = Tree p c.missing (front c.trees g.pending) (back c.trees g.pending) }
    else record {
      done = behind (back c.trees g.pending) g.done;
      pending = Tree p c.missing (front c.trees g.pending) Bare;
    }

abbrev pub grown : Part → Growing → Growing
grown p g = grown_by p (takes_count p.takes (leaves_of g.pending)) g

-- The trees before the part `p` is added. All pending trees become statements if `p` has a label or begins the exit
-- code, or if the last tree has too many parts.
abbrev pub before_part : Part → Growing → Growing
before_part p g = if is_reached p.place || is_full (lefts_of g.pending) then closed g else g

abbrev pub grown_all : List Part → Growing → Growing
grown_all [] g = g
grown_all (p ∷ ps) g = grown_all ps (grown p (before_part p g))

-- The statements of the code that consists of the parts `ps`, the last statement first.
unfoldable pub statements : List Part → Forest
statements ps = (closed (grown_all ps (record { done = Bare; pending = Bare }))).done
