use Rattle.pm_asm.proofs.Examples.{examples_are_taken}
use Rattle.pm_asm.proofs.worked.examples_are_taken.Goals as goal

pub returns : goal.returns
returns c = record { law = examples_are_taken }
