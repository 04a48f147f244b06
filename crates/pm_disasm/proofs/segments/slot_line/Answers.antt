use Rattle.std.proofs.Common.{◌∙◌, sym}
use Rattle.pm_disasm.proofs.Tabled.{slot_there}
use Rattle.pm_disasm.proofs.segments.slot_line.Goals as goal

pub returns-in_default : goal.returns-in_default
returns-in_default c = absurd (slot_there c.args.file.now c.args.n c.requires.slot (sym c.slot.ensures.slot ∙ c.in_default.is))
