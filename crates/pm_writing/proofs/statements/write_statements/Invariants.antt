use Rattle.std.proofs.Common.{◌-◌}
use Rattle.pm_statements.specs.Files.{slots_text}
use Rattle.pm_writing.proofs.Writing.{Rest}
use Rattle.pm_writing.proofs.statements.write_statements.Given as goal

-- The statements of the slots from `n` on remain to be written.
abbrev pub invariant-loop-n : goal.invariant-loop-n
invariant-loop-n g l = Rest (g.W.Sink.seen l.fn.sink) (g.W.Sink.seen l.sink)
    (slots_text l.sizes.callees.items l.layout l.file 0 16) (slots_text l.sizes.callees.items l.layout l.file l.n (16 - l.n))
