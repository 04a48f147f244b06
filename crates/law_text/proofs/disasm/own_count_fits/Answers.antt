use Rattle.law_text.proofs.OwnCount.{own_count_fits}
use Rattle.law_text.proofs.disasm.own_count_fits.Goals as goal

pub returns : goal.returns
returns c = record { law = own_count_fits }
