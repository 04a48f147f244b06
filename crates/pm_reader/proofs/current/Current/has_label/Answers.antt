use Rattle.std.proofs.Common.{◌∙◌}
use Rattle.pm_reader.proofs.current.Current.has_label.Goals as goal

pub returns : goal.returns
returns c = record { label = c.contains_key.ensures ∙ c.args.self.now.named c.args.name.now }
