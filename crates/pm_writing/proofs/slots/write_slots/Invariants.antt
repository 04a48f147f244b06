use Rattle.std.proofs.Common.{◌-◌}
use Rattle.pm_writing.specs.Pieces.{slots_pieces}
use Rattle.pm_writing.proofs.Writing.{Rest}
use Rattle.pm_writing.proofs.slots.write_slots.Given as goal

-- The pieces of the slots from `n` on remain to be written.
abbrev pub invariant-loop-n : goal.invariant-loop-n
invariant-loop-n g l = Rest (g.W.Sink.seen l.fn.sink) (g.W.Sink.seen l.sink)
    (slots_pieces l.form l.file 0 16) (slots_pieces l.form l.file l.n (16 - l.n))
