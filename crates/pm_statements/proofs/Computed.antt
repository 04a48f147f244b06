-- The checker computes the results of the worked examples.
use Rattle.std.proofs.Common.{refl}
use Rattle.pm_opcode.specs.Operations.{operation_of}
use Rattle.pm_opcode.specs.Table.{form_of, groups, implied, shape_of}
use Rattle.pm_statements.specs.BlockLabels.{line_places}
use Rattle.pm_statements.specs.Depths.{depths, depths_from, loops_from}
use Rattle.pm_trees.specs.Trees.{left_by, set_count, share_count, statements, takes_count, words_count}
use Rattle.pm_statements.specs.Worked.{WorkedStatements}

pub worked_statements : WorkedStatements
unfolding line_places depths depths_from loops_from operation_of form_of groups implied shape_of left_by
    set_count share_count statements takes_count words_count
worked_statements = record {
  offsets = refl;
  labels = refl;
  exits = refl;
  parts = refl;
  depths = refl;
  choice = refl;
  loop = refl;
  back = refl;
  out = refl;
  named = refl;
}
