use Rattle.std.proofs.Common.{◌≡◌, ◌+◌, ◌-◌, ◌++◌}
use Rattle.pm_check.specs.Rules.{findings_from}
use Rattle.pm_check.proofs.rules.push_slots.Given as goal

-- The findings so far and the findings of the remaining slots are together all findings.
abbrev pub invariant-loop-n : goal.invariant-loop-n
invariant-loop-n l = l.found.items ++ findings_from l.directory l.n (l.count + 1 - l.n)
    ≡ l.fn.found.items ++ findings_from l.directory 1 l.count
