use Rattle.law_engine.proofs.PublicLaws.{bytes_are_written}
use Rattle.law_engine.proofs.words.bytes_are_written.Goals as goal

pub returns : goal.returns
returns c = record { law = bytes_are_written }
