use Rattle.std.proofs.Common.{◌≡◌, ◌≤◌, ◌+◌, ◌*◌, drop}
use Rattle.pm_check.specs.Believing.{blocks_of}
use Rattle.pm_check.proofs.saving.room_for.Given as goal

-- The blocks of the files so far and of the remaining files are together the blocks of all files.
abbrev pub invariant-loop-file : goal.invariant-loop-file
invariant-loop-file l = record {
  rest : l.need + blocks_of (drop l.file-index l.taken) ≡ 6 + blocks_of l.taken;
  few : l.need ≤ 6 + 65535 * l.file-index;
}
