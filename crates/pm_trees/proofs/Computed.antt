-- The worked examples of blocks, computed by the checker.
use Rattle.std.proofs.Common.{refl}
use Rattle.pm_trees.specs.Backs.{back_end}
use Rattle.pm_trees.specs.Blocks.{all_end, blocks, lines_from}
use Rattle.pm_trees.specs.Worked.{WorkedBlocks}

pub worked_blocks : WorkedBlocks
unfolding back_end all_end blocks lines_from
worked_blocks = record {
  straight = refl;
  choice = refl;
  otherwise = refl;
  loop = refl;
  until = refl;
  at_once = refl;
  nested = refl;
  out = refl;
  twice = refl;
  last = refl;
  beyond = refl;
  crossing = refl;
  case = refl;
  case_in_loop = refl;
  out_of_case = refl;
  twice_to_case = refl;
  crossing_case = refl;
  else_to_case = refl;
  between = refl;
}
