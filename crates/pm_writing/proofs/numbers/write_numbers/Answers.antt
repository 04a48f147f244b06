use Rattle.std.proofs.Common.{◌<◌, ◌+◌, ◌-◌, arith}
use Rattle.std.proofs.lemmas.Result.{err_from_is_err_and}
use Rattle.pm_codefile.specs.Segments.{attributes_in, procedures_in}
use Rattle.pm_writing.specs.Pieces.{number_piece, pieces}
use Rattle.pm_writing.proofs.Next.{next_number}
use Rattle.pm_writing.proofs.Writing.{cut_piece, piece_written}
use Rattle.pm_writing.proofs.numbers.write_numbers.Goals as goal

pub returns-in_err-write_number : goal.returns-in_err-write_number
returns-in_err-write_number g c =
    let part = c.args.part in
    let segment = part.segment.now in
    let done = c.loop-done.done in
    let count = procedures_in segment in
    let more : done < count = omega (arith, c.loop-done-test.true, c.procedures-done-end.ensures.count) in
    let r = c.from_residual-in_err-write_number in
    let p = err_from_is_err_and r.result r.ensures.1 in
    record {
      writes = rw (p.1, p.2) (cut_piece _ _ _ _ (number_piece part.form c.args.file.now part.slot segment (done + 1) (attributes_in segment (done + 1))) _ _
          (next_number part.form c.args.file.now part.slot segment done count _ _ _ more c.loop-done.invariant.rest) c.in_err-write_number.ensures.writes);
    }

pub loop-done-preserved : goal.loop-done-preserved
loop-done-preserved g c =
    let part = c.args.part in
    let segment = part.segment.now in
    let done = c.loop-done.done in
    let count = procedures_in segment in
    let more : done < count = omega (arith, c.loop-done-test.true, c.procedures-done-end.ensures.count) in
    let w = c.in_ok-write_number.ensures.writes in
    record {
      rest = piece_written _ _ _ _ (number_piece part.form c.args.file.now part.slot segment (done + 1) (attributes_in segment (done + 1))) _
          (next_number part.form c.args.file.now part.slot segment done count _ _ _ more c.loop-done.invariant.rest) w.0 w.1;
      last = c.in_ok-write_number.ensures.last;
    }
