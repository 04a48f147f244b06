use Rattle.std.proofs.Common.{sym, arith}
use Rattle.pm_access.proofs.WritingLaws.{word_above}
use Rattle.pm_access.proofs.stretches.word_in.Goals as goal

pub returns-then-address-gt65535 : goal.returns-then-address-gt65535
returns-then-address-gt65535 c = record { word = sym (word_above c.args.memory.now.words c.args.address c.word.ensures.memory (omega arith)) }
