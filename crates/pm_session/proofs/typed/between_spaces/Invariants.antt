use Rattle.std.proofs.Common.{◌≡◌, ◌≤◌, length, reverse, take}
use Rattle.pm_disasm.specs.Shown.{cut}
use Rattle.pm_session.proofs.typed.between_spaces.Given as goal

-- The bytes after `end` are spaces.
abbrev pub invariant-spaces : goal.invariant-spaces
invariant-spaces l = record {
  within : l.end ≤ length l.rest;
  text : reverse (cut (reverse (take l.end l.rest))) ≡ reverse (cut (reverse l.rest));
}

abbrev pub decreases-spaces : goal.decreases-spaces
decreases-spaces l = l.end
