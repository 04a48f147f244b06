use Rattle.std.proofs.Common.{◌≡◌, ◌<◌, ◌+◌, ◌-◌, arith, subst}
use Rattle.std.proofs.lemmas.Result.{err_from_is_err_and}
use Rattle.std.specs.Io.KnownBytes.{Appends}
use Rattle.pm_codefile.specs.Dictionary.{segment_in}
use Rattle.pm_writing.specs.Pieces.{form_text, slot_piece, slots_pieces}
use Rattle.pm_writing.specs.Written.{Writes}
use Rattle.pm_writing.proofs.Next.{next_slot, no_slot}
use Rattle.pm_writing.proofs.Texts.{pieces_are_text}
use Rattle.pm_writing.proofs.Writing.{all_written, cut_piece, piece_written}
use Rattle.pm_writing.proofs.slots.write_slots.Goals as goal

pub returns-in_err-write_slot : goal.returns-in_err-write_slot
returns-in_err-write_slot g c =
    let file = c.args.file.now in
    let n = c.loop-n.n in
    let more : n < 16 = omega (arith, c.loop-n-test.true) in
    let p = err_from_is_err_and c.from_residual.result c.from_residual.ensures.1 in
    record {
      writes = subst (λ text. Writes (g.W.Sink.seen c.args.sink.now) (g.W.Sink.seen c.write_slot.new.sink) text c.from_residual.result)
          (pieces_are_text c.args.form file)
          (rw (p.1, p.2) (cut_piece _ _ _ (slots_pieces c.args.form file 0 16) (slot_piece c.args.form file n (segment_in file n)) _ _
          (next_slot c.args.form file n _ _ _ more c.loop-n.invariant) c.in_err-write_slot.ensures.writes));
    }

pub loop-n-preserved : goal.loop-n-preserved
loop-n-preserved g c =
    let file = c.args.file.now in
    let n = c.loop-n.n in
    let more : n < 16 = omega (arith, c.loop-n-test.true) in
    let w = c.in_ok-write_slot.ensures.writes in
    piece_written _ _ _ _ (slot_piece c.args.form file n (segment_in file n)) _ (next_slot c.args.form file n _ _ _ more c.loop-n.invariant) w.0 w.1

pub returns : goal.returns
returns g c =
    let file = c.args.file.now in
    let n = c.loop-n.n in
    let none : 16 - n ≡ 0 = omega (arith, c.loop-n-test.false) in
    let whole = no_slot c.args.form file n _ _ _ none c.loop-n.invariant in
    record {
      writes = (
        subst (λ text. Appends (g.W.Sink.seen c.args.sink.now).contents (g.W.Sink.seen c.loop-n.sink).contents text)
            (pieces_are_text c.args.form file) (all_written _ _ _ whole),
        whole.well,
      );
    }
