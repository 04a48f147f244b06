use Rattle.pm_c.proofs.SessionLaws as laws
use Rattle.pm_c.proofs.laws.slices_are_one_run.Goals as goal

pub returns : goal.returns
returns c = record { law = laws.slices_are_one_run }
