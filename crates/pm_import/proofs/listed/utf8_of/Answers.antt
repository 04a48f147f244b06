use Rattle.std.proofs.Common.{◌∙◌, Some, ap, sym}
use Rattle.pm_import.proofs.Cutting.{utf8_no, utf8_yes}
use Rattle.pm_import.proofs.listed.utf8_of.Goals as goal

pub returns-in-Ok : goal.returns-in-Ok
returns-in-Ok c = record {
  text = ap (λ t. Some t) c.in-Ok.ensures.cases.0 ∙ sym (utf8_yes c.args.bytes.now c.in-Ok.ensures.cases.1);
}

pub returns-in-Err : goal.returns-in-Err
returns-in-Err c = record { text = sym (utf8_no c.args.bytes.now c.in-Err.ensures.cases.0) }
