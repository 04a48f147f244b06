-- Statements that jump back to the beginning of a loop, and case jumps. An *end* is the offset after the last byte of
-- such a statement.
use Rattle.std.specs.Prelude.{◌≡◌, ℕ, ◌==◌, nat_le, if◌then◌else◌, List, [], ◌∷◌, slice_index_or, Option, Some, None}
use Rattle.pm_trees.specs.declared.backs.Backs.{Backs}
use Rattle.pm_trees.specs.declared.backs.Loops.{Loops}
use Rattle.pm_trees.specs.declared.statement.Leads.{Leads}
use Rattle.pm_trees.specs.declared.statement.Leads.TheVariants as leads
use Rattle.pm_trees.specs.declared.statement.Statement.{Statement}

-- The way in which a statement jumps: under a condition, always, or selected by a value (a case jump).
pub data Way : Type 0 where
  ByCondition : Way
  Always : Way
  ByValue : Way

abbrev pub back_to : ℕ → ℕ → Option ℕ
back_to place at = if nat_le place at then Some place else None

-- The offset for which the end of a statement at `at` is recorded. For a jump back, or to the statement itself, it is
-- the target. For a case jump, it is `at`.
abbrev pub back_place : Way → Leads → ℕ → Option ℕ
back_place ByCondition (leads.ByCondition place) at = back_to place at
back_place Always (leads.Always place) at = back_to place at
back_place ByValue leads.ByValue at = Some at
back_place _ _ at = None

-- The recorded end for `place` after one more statement, which ends at `behind` and is recorded for the offset `to`.
-- `end` is the recorded end before.
abbrev pub later_end : ℕ → ℕ → Option ℕ → ℕ → ℕ
later_end place end None behind = end
later_end place end (Some to) behind = if to == place then behind else end

unfoldable pub back_end : Way → ℕ → ℕ → List Statement → ℕ
back_end w place end [] = end
back_end w place end (s ∷ ss) = back_end w place (later_end place end (back_place w s.leads s.at) s.behind) ss

-- The end of the last statement that is recorded for `place`, or 0 if no statement is recorded for `place`.
abbrev pub loop_end : Way → ℕ → List Statement → ℕ
loop_end w place ss = back_end w place 0 ss

-- The recorded end for `place` in the list `ends`, or 0 if `place` is after the end of the list.
abbrev pub written : List ℕ → ℕ → ℕ
written ends place = slice_index_or ends place 0

-- States that the list `ends` has the recorded end for each offset.
abbrev pub AreEnds : List ℕ → Way → List Statement → Type 0
AreEnds ends w ss = (place : ℕ) → written ends place ≡ loop_end w place ss

-- The target of a jump. It is 0 if the statement does not jump, or if it is a case jump.
abbrev pub place_of : Leads → ℕ
place_of leads.Nowhere = 0
place_of (leads.ByCondition place) = place
place_of (leads.Always place) = place
place_of leads.ByValue = 0

-- The ends of the loops that begin at the statement `s`, and of the case jump at the target of `s`.
abbrev pub loops_at : List Statement → Statement → Loops
loops_at ss s = record {
  by_condition = loop_end ByCondition s.at ss;
  always = loop_end Always s.at ss;
  by_value = loop_end ByValue (place_of s.leads) ss;
}

-- States that the three lists of `b` are the recorded ends of the statements `ss`.
pub record IsOf (b : Backs) (ss : List Statement) : Type 0 where
  pub by_condition : AreEnds b.by_condition.items ByCondition ss
  pub always : AreEnds b.always.items Always ss
  pub by_value : AreEnds b.by_value.items ByValue ss
