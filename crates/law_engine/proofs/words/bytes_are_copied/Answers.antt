use Rattle.law_engine.proofs.PublicLaws.{bytes_are_copied}
use Rattle.law_engine.proofs.words.bytes_are_copied.Goals as goal

pub returns : goal.returns
returns c = record { law = bytes_are_copied }
