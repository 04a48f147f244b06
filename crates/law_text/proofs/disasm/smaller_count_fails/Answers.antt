use Rattle.law_text.proofs.OwnCount.{smaller_count_fails}
use Rattle.law_text.proofs.disasm.smaller_count_fails.Goals as goal

pub returns : goal.returns
returns c = record { law = smaller_count_fails }
