use Rattle.std.proofs.Common.{◌≡◌, subst}
use Rattle.pm_disasm.proofs.Readings.{given}
use Rattle.pm_writing.specs.Pieces.{table_piece}
use Rattle.pm_writing.specs.Written.{Writes}
use Rattle.pm_writing.proofs.numbers.write_table.Goals as goal

pub returns-in-Some-clause-writes : goal.returns-in-Some-clause-writes
returns-in-Some-clause-writes g c =
    let part = c.args.part in
    let shows = table_piece part.form c.args.file.now part.slot part.segment.now in
    let known : c.in-Some.piece.now ≡ shows c.args.table =
    given (λ piece. piece.now ≡ shows c.args.table) c.same.result c.in-Some.piece c.in-Some.is (c.same.ensures.piece shows c.requires.last) in
    subst (λ piece. Writes (g.W.Sink.seen c.args.sink.now) (g.W.Sink.seen c.write_piece.new.sink) piece c.write_piece.result) known
    c.write_piece.ensures.writes
