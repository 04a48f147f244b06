use Rattle.law_text.proofs.asm.assembled_is_listed.Goals as goal
use Rattle.law_text.proofs.ListedFile.{assembled_is_listed}

pub returns : goal.returns
returns c = record { law = assembled_is_listed }
