use Rattle.law_text.proofs.asm.jumps_lead_to_symbols.Goals as goal
use Rattle.pm_asm.proofs.SymbolPlaces.{jumps_lead_to_symbols}

pub returns : goal.returns
returns c = record { law = jumps_lead_to_symbols }
