use Rattle.std.proofs.Common.{◌+◌, ◌-◌, [], IfSome}
use Rattle.pm_codefile.specs.Segments.{procedures_in}
use Rattle.pm_disasm.specs.Offsets.{IsDecoded}
use Rattle.pm_statements.specs.Files.{tables_text}
use Rattle.pm_writing.proofs.Writing.{Rest}
use Rattle.pm_writing.proofs.statements.write_segment.Given as goal

-- The statements of the remaining procedures remain to be written. If a segment is decoded, it is this segment.
abbrev pub invariant-loop-done : goal.invariant-loop-done
invariant-loop-done g l = record {
  rest : Rest (g.W.Sink.seen l.fn.sink) (g.W.Sink.seen l.sink)
      (tables_text l.known l.sized.segment.now [] 1 (procedures_in l.sized.segment.now))
      (tables_text l.known l.sized.segment.now l.shown.items (l.done + 1) (procedures_in l.sized.segment.now - l.done));
  decoded : IfSome l.decoded (λ d. IsDecoded d l.sized.segment.now);
}
