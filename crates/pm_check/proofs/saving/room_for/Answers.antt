use Rattle.std.proofs.Common.{◌≡◌, ◌+◌, arith}
use Rattle.pm_check.specs.Believing.{blocks_of}
use Rattle.pm_check.specs.Saving.{room_for}
use Rattle.pm_check.proofs.Saves.{no_file}
use Rattle.pm_check.proofs.SavingSteps.{blocks-more, blocks-done}
use Rattle.pm_check.proofs.saving.room_for.Goals as goal

pub loop-file-preserved : goal.loop-file-preserved
loop-file-preserved c =
    let more = blocks-more no_file c.args.taken.now c.loop-file.file-index (omega arith) in
    record {
      rest = omega (arith, more, c.loop-file.invariant.rest, c.saturating_sub.ensures, c.from-need-in-loop-file.ensures);
      few = omega (arith, c.loop-file.invariant.few, c.saturating_sub.type_inv, c.from-need-in-loop-file.ensures);
    }

pub returns : goal.returns
unfolding room_for
returns c =
    let done = blocks-done c.args.taken.now c.loop-file.file-index (omega arith) in
    let whole : c.loop-file.need ≡ 6 + blocks_of c.args.taken.now = omega (arith, done, c.loop-file.invariant.rest) in
    record { room = rw (c.min-room.ensures, c.max.ensures, c.from.ensures, whole) (omega arith) }
