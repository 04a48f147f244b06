use Rattle.law_engine.proofs.KeptLoads.{steps_load_what_is_there}
use Rattle.law_engine.proofs.loads.steps_load_what_is_there.Goals as goal

pub returns : goal.returns
returns c = record { law = steps_load_what_is_there c.args.machine.now.state c.machines_hold_words.ensures.memory }
