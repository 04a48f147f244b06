use Rattle.std.proofs.Common.{◌≡◌, drop}
use Rattle.pm_debug.specs.Frames.{frames_at}
use Rattle.pm_debug.proofs.FrameLaws.{behind_frames}
use Rattle.pm_debug.proofs.frames.frames_at.Given as goal

-- The frames up to here, followed by those of the remaining addresses, are all frames.
abbrev pub invariant-loop-address : goal.invariant-loop-address
invariant-loop-address l = record {
  rest : frames_at l.memory.words l.addresses ≡ behind_frames l.frames.items (frames_at l.memory.words (drop l.address-index l.addresses));
}
