use Rattle.law_jobs.proofs.Typed.{types_are_keys}
use Rattle.law_jobs.proofs.sessions.a_text_is_its_keys.Goals as goal

pub returns : goal.returns
returns c = record { law = types_are_keys }
