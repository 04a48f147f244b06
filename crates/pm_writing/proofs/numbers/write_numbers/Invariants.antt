use Rattle.std.proofs.Common.{◌≡◌, ◌+◌, ◌-◌, IfSome}
use Rattle.pm_codefile.specs.Segments.{procedures_in}
use Rattle.pm_writing.specs.Pieces.{pieces, table_piece}
use Rattle.pm_writing.proofs.Writing.{Rest}
use Rattle.pm_writing.proofs.numbers.write_numbers.Given as goal

-- The pieces of the remaining procedure numbers remain to be written. The cached piece is that of the cached table.
abbrev pub invariant-loop-done : goal.invariant-loop-done
invariant-loop-done g l = record {
  rest : Rest (g.W.Sink.seen l.fn.sink) (g.W.Sink.seen l.sink)
      (pieces l.part.form l.file l.part.slot l.part.segment.now 1 (procedures_in l.part.segment.now))
      (pieces l.part.form l.file l.part.slot l.part.segment.now (l.done + 1) (procedures_in l.part.segment.now - l.done));
  last : IfSome l.last (λ s. s.piece.items ≡ table_piece l.part.form l.file l.part.slot l.part.segment.now s.table);
}
