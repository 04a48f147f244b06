use Rattle.std.specs.Prelude.{length}
use Rattle.pm_asm.proofs.near.+is_near.Given as goal

abbrev pub decreases-is_near : goal.decreases-is_near
decreases-is_near l = length l.word.now
