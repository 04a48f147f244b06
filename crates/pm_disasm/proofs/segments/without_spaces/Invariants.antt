use Rattle.std.proofs.Common.{◌≡◌, ◌≤◌, length, reverse, take}
use Rattle.pm_disasm.specs.Shown.{cut}
use Rattle.pm_disasm.proofs.segments.without_spaces.Given as goal

-- The remaining name without its spaces is the whole name without its spaces.
abbrev pub invariant-spaces : goal.invariant-spaces
invariant-spaces l = record {
  within : l.count ≤ length l.name;
  cut : reverse (cut (reverse (take l.count l.name))) ≡ reverse (cut (reverse l.name));
}

abbrev pub decreases-spaces : goal.decreases-spaces
decreases-spaces l = l.count
