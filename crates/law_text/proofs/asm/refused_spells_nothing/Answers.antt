use Rattle.pm_asm.proofs.Outcomes.{refused_spells_nothing}
use Rattle.law_text.proofs.asm.refused_spells_nothing.Goals as goal

pub returns : goal.returns
returns c = record { law = refused_spells_nothing }
