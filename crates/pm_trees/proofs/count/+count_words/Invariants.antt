use Rattle.std.specs.Prelude.{length}
use Rattle.pm_trees.proofs.count.+count_words.Given as goal

abbrev pub decreases-count_words : goal.decreases-count_words
decreases-count_words l = length l.operands.now
