use Rattle.std.proofs.Common.{◌≡◌, ◌≤◌, ◌-◌, ℕ, Bool, true, drop, length}
use Rattle.pm_code.specs.Program.{entries_needed}
use Rattle.pm_disasm.specs.Follow.{written_by}
use Rattle.pm_disasm.specs.Offsets.{IsNextCut}
use Rattle.pm_disasm.specs.Split.{parts}
use Rattle.pm_disasm.proofs.taking.takes_more.Given as goal

-- The remaining parts use at most as many entries as all parts.
abbrev pub invariant-parts : goal.invariant-parts
invariant-parts l = record {
  inside : l.at ≤ length l.bytes;
  forced : l.cuts.forced.now ≡ l.forced;
  next : IsNextCut l.cuts.forced.now l.at l.cuts.next;
  less : (test : ℕ → Bool) → entries_needed (written_by test true (parts l.forced 0 l.at (drop l.at l.bytes)))
      ≤ entries_needed (written_by test true (parts l.forced 0 l.begin (drop l.begin l.bytes)));
}

abbrev pub decreases-parts : goal.decreases-parts
decreases-parts l = length l.bytes - l.at
