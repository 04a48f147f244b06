use Rattle.std.proofs.Common.{◌≡◌, ◌++◌, ◌-◌}
use Rattle.pm_undelete.specs.Found.{found_from}
use Rattle.pm_undelete.proofs.finding.push_area.Given as goal

-- The candidates so far, and those from block `n` on, are together all candidates of the area.
abbrev pub invariant-places : goal.invariant-places
invariant-places l = record {
  whole : l.list.items ++ found_from l.volume l.n (l.end - l.n)
      ≡ l.fn.list.items ++ found_from l.volume l.begin (l.end - l.begin);
}

abbrev pub decreases-places : goal.decreases-places
decreases-places l = l.end - l.n
