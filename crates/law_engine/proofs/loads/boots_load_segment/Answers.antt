use Rattle.law_engine.proofs.LoadLaws.{boots_load_segment}
use Rattle.law_engine.proofs.loads.boots_load_segment.Goals as goal

pub returns : goal.returns
returns c = record { law = boots_load_segment }
