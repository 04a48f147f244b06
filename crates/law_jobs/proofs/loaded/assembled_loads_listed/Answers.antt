use Rattle.law_jobs.proofs.Listed.{assembled_boots_listed, assembled_keeps_listed, assembled_loads_listed}
use Rattle.law_jobs.proofs.loaded.assembled_loads_listed.Goals as goal

pub returns : goal.returns
returns c = record {
  law = assembled_loads_listed c.args.machine.now.state c.machines_hold_words.ensures.memory;
  keeps = assembled_keeps_listed c.args.machine.now.state c.machines_hold_words.ensures.memory;
  boot = assembled_boots_listed;
}
