use Rattle.std.proofs.Common.{sym}
use Rattle.pm_c.proofs.FormatLaws.{no_format}
use Rattle.pm_c.proofs.conversions.named.Goals as goal

-- src/conversions.rt:38:1
pub returns-in-Err : goal.returns-in-Err
returns-in-Err c = record { format = sym (no_format c.args.name.now c.in-Err.ensures.cases.0) }
