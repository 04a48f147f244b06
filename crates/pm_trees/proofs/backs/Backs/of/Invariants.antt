use Rattle.std.proofs.Common.{◌≡◌, ℕ, List, drop}
use Rattle.pm_trees.specs.Backs.{Way, back_end, loop_end, written}
use Rattle.pm_trees.specs.Backs.Way.{Always, ByCondition, ByValue}
use Rattle.pm_trees.specs.declared.statement.Statement.{Statement}
use Rattle.pm_trees.proofs.backs.Backs.of.Given as goal

-- States that the ends so far, updated with the remaining statements, are the ends of all statements.
abbrev SoFar : List ℕ → Way → ℕ → List Statement → Type 0
SoFar ends w i ss = (p : ℕ) → back_end w p (written ends p) (drop i ss) ≡ loop_end w p ss

abbrev pub invariant-loop-statement : goal.invariant-loop-statement
invariant-loop-statement l = record {
  by_condition : SoFar l.ends.by_condition.items ByCondition l.statement-index l.statements;
  always : SoFar l.ends.always.items Always l.statement-index l.statements;
  by_value : SoFar l.ends.by_value.items ByValue l.statement-index l.statements;
}
