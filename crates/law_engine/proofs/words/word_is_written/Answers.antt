use Rattle.law_engine.proofs.PublicLaws.{word_is_written}
use Rattle.law_engine.proofs.words.word_is_written.Goals as goal

pub returns : goal.returns
returns c = record { law = word_is_written }
