use Rattle.std.proofs.Common.{◌≡◌, drop, map}
use Rattle.pm_code.specs.Program.{FollowFrom, procedures_end}
use Rattle.pm_code.specs.Views.{procedure_seen}
use Rattle.pm_code.proofs.lengths.procedures_end.Given as goal

-- The remaining procedures, which begin at `end`, end at the offset at which all procedures end.
abbrev pub invariant-loop-procedure : goal.invariant-loop-procedure
invariant-loop-procedure l = record {
  last : procedures_end l.end (map procedure_seen (drop l.procedure-index l.procedures)) ≡ procedures_end 0 (map procedure_seen l.procedures);
  follow : FollowFrom l.end (map procedure_seen (drop l.procedure-index l.procedures));
}
