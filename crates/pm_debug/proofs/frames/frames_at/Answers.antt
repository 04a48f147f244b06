use Rattle.std.proofs.Common.{rules, arith, ◌+◌, drop, get_or}
use Rattle.std.proofs.lemmas.List.{drop_all}
use Rattle.pm_debug.proofs.FrameLaws.{address_left, frames_more, frames_odd, frames_over}
use Rattle.pm_debug.proofs.frames.frames_at.Goals as goal

pub returns-in_default-clause-frames : goal.returns-in_default-clause-frames
returns-in_default-clause-frames c =
    frames_odd _ _ _ _ c.loop-address.invariant.rest (get_or c.args.addresses.now c.loop-address.address-index 0)
    (drop (c.loop-address.address-index + 1) c.args.addresses.now) (address_left _ _ c.loop-address-test.true) (search rules)

pub loop-address-preserved : goal.loop-address-preserved
loop-address-preserved c =
    record {
      rest = rw c.in_ok-push.ensures.items
          (frames_more _ _ _ _ c.loop-address.invariant.rest (get_or c.args.addresses.now c.loop-address.address-index 0)
          (drop (c.loop-address.address-index + 1) c.args.addresses.now) (address_left _ _ c.loop-address-test.true) _ (search rules));
    }

pub returns-clause-frames : goal.returns-clause-frames
returns-clause-frames c =
    frames_over _ _ _ _ c.loop-address.invariant.rest (drop_all c.loop-address.address-index c.args.addresses.now (omega arith))
