use Rattle.law_engine.proofs.PublicLaws.{words_are_their_bytes}
use Rattle.law_engine.proofs.words.words_are_their_bytes.Goals as goal

pub returns : goal.returns
returns c = record { law = words_are_their_bytes }
