use Rattle.law_engine.proofs.LoadLaws.{steps_load}
use Rattle.law_engine.proofs.loads.steps_load_segments.Goals as goal

pub returns : goal.returns
returns c = record { law = steps_load c.args.machine.now.state c.machines_hold_words.ensures.memory }
