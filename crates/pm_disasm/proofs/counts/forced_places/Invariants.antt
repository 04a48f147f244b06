use Rattle.std.proofs.Common.{◌≡◌, ◌-◌, ◌++◌}
use Rattle.pm_disasm.specs.Chosen.{are_inside, forced_with}
use Rattle.pm_disasm.specs.Split.{entry_places}
use Rattle.pm_disasm.proofs.counts.forced_places.Given as goal

-- The targets up to here, followed by those of the remaining entries, are all targets. If the remaining targets are
-- inside the code, then all targets are.
abbrev pub invariant-loop-entry : goal.invariant-loop-entry
invariant-loop-entry l = record {
  taken : l.forced.items ++ entry_places l.segment l.a.jtab l.entry (l.count - l.entry) ≡ forced_with l.segment l.a l.count;
  inside : are_inside l.segment l.a l.end l.a.jtab l.entry (l.count - l.entry) ≡ are_inside l.segment l.a l.end l.a.jtab 0 l.count;
}
