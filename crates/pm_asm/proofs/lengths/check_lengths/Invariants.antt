use Rattle.std.proofs.Common.{◌≡◌, drop}
use Rattle.std.specs.List.{AllByRecursion, list_any}
use Rattle.pm_code.specs.Program.{FollowFrom}
use Rattle.pm_code.specs.Views.{program_seen}
use Rattle.pm_asm.specs.Lengths.{first_long, is_countless_long}
use Rattle.pm_asm.proofs.lengths.check_lengths.Given as goal

-- The first segment that is too long is among the remaining segments. The same holds for a segment whose length does
-- not fit in 64 bits.
abbrev pub invariant-loop-segment : goal.invariant-loop-segment
invariant-loop-segment l = record {
  long : first_long (program_seen (drop l.segment-index l.program)) ≡ first_long (program_seen l.program);
  countless : list_any is_countless_long (program_seen (drop l.segment-index l.program)) ≡ list_any is_countless_long (program_seen l.program);
  follow : AllByRecursion (λ s. FollowFrom 0 s.procedures) (program_seen (drop l.segment-index l.program));
}
