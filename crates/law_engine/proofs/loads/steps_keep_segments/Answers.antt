use Rattle.law_engine.proofs.KeptLoads.{steps_keep}
use Rattle.law_engine.proofs.loads.steps_keep_segments.Goals as goal

pub returns : goal.returns
returns c = record { law = steps_keep c.args.machine.now.state c.machines_hold_words.ensures.memory }
