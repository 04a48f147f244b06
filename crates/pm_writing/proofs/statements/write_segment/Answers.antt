use Rattle.std.proofs.Common.{◌<◌, ◌+◌, arith, subst, sym}
use Rattle.std.proofs.lemmas.Result.{err_from_is_err_and}
use Rattle.pm_codefile.specs.Segments.{attributes_in, procedures_in}
use Rattle.pm_statements.specs.Files.{numbered_text}
use Rattle.pm_writing.proofs.Next.{next_table}
use Rattle.pm_writing.proofs.Writing.{cut_piece, piece_written}
use Rattle.pm_writing.proofs.statements.write_segment.Goals as goal

pub returns-in_err-write_numbered : goal.returns-in_err-write_numbered
returns-in_err-write_numbered g c =
    let known = c.args.known.now in
    let segment = c.args.sized.now.segment.now in
    let shown = c.loop-done.shown.items in
    let done = c.loop-done.done in
    let count = procedures_in segment in
    let more : done < count = omega (arith, c.loop-done-test.true, c.procedures-done-end.ensures.count) in
    let p = err_from_is_err_and c.from_residual.result c.from_residual.ensures.1 in
    record {
      writes = rw (p.1, p.2) (cut_piece _ _ _ _ (numbered_text known segment shown (done + 1) (attributes_in segment (done + 1))) _ _
          (next_table known segment shown done count _ _ _ more c.loop-done.invariant.rest) c.in_err-write_numbered.ensures.writes);
    }

pub loop-done-preserved : goal.loop-done-preserved
loop-done-preserved g c =
    let known = c.args.known.now in
    let segment = c.args.sized.now.segment.now in
    let shown = c.loop-done.shown.items in
    let done = c.loop-done.done in
    let count = procedures_in segment in
    let more : done < count = omega (arith, c.loop-done-test.true, c.procedures-done-end.ensures.count) in
    let w = c.in_ok-write_numbered.ensures.writes in
    record {
      rest = rw c.in_ok-write_numbered.ensures.shown
          (piece_written _ _ _ _ (numbered_text known segment shown (done + 1) (attributes_in segment (done + 1))) _
          (next_table known segment shown done count _ _ _ more c.loop-done.invariant.rest) w.0 w.1);
      decoded = c.in_ok-write_numbered.ensures.decoded;
    }
