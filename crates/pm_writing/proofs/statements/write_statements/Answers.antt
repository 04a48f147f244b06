use Rattle.std.proofs.Common.{◌≡◌, ◌<◌, ◌+◌, ◌-◌, arith, subst}
use Rattle.std.proofs.lemmas.Result.{err_from_is_err_and}
use Rattle.pm_codefile.specs.Dictionary.{segment_in}
use Rattle.pm_statements.specs.Files.{file_text, slot_text, slots_text}
use Rattle.pm_writing.specs.Written.{Writes}
use Rattle.pm_writing.proofs.Next.{next_statements}
use Rattle.pm_writing.proofs.Writing.{at_start, cut_piece, no_piece, piece_written}
use Rattle.pm_writing.proofs.statements.write_statements.Goals as goal

pub returns-in_err-sizes : goal.returns-in_err-sizes
returns-in_err-sizes g c =
    let p = err_from_is_err_and c.from_residual.result c.from_residual.ensures.1 in
    let s0 = g.W.Sink.seen c.args.sink.now in
    let text = file_text c.args.layout c.args.file.now in
    record { writes = rw (p.1, p.2) (no_piece s0 s0 text text (at_start s0 text c.requires.well)) }

pub returns-in_err-write_slot : goal.returns-in_err-write_slot
unfolding file_text
returns-in_err-write_slot g c =
    let file = c.args.file.now in
    let n = c.loop-n.n in
    let callees = c.in_ok-sizes.sizes.callees.items in
    let more : n < 16 = omega (arith, c.loop-n-test.true) in
    let r = c.from_residual-in_err-write_slot in
    let p = err_from_is_err_and r.result r.ensures.1 in
    record {
      writes = subst (λ all. Writes (g.W.Sink.seen c.args.sink.now) (g.W.Sink.seen c.write_slot.new.sink)
          (slots_text all c.args.layout file 0 16) r.result) c.in_ok-sizes.ensures.callees
          (rw (p.1, p.2) (cut_piece _ _ _ (slots_text callees c.args.layout file 0 16) (slot_text callees c.args.layout n (segment_in file n)) _ _
          (next_statements callees c.args.layout file n _ _ _ more c.loop-n.invariant) c.in_err-write_slot.ensures.writes));
    }

pub loop-n-preserved : goal.loop-n-preserved
loop-n-preserved g c =
    let file = c.args.file.now in
    let n = c.loop-n.n in
    let callees = c.in_ok-sizes.sizes.callees.items in
    let more : n < 16 = omega (arith, c.loop-n-test.true) in
    let w = c.in_ok-write_slot.ensures.writes in
    piece_written _ _ _ _ (slot_text callees c.args.layout n (segment_in file n)) _
    (next_statements callees c.args.layout file n _ _ _ more c.loop-n.invariant) w.0 w.1
