use Rattle.law_text.proofs.code.file_holds_program.Goals as goal
use Rattle.law_text.proofs.Held.{file_holds_program, file_is_accepted}

pub returns : goal.returns
returns c = record { law = file_holds_program; accepted = file_is_accepted }
