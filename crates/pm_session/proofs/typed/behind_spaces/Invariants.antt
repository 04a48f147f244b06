use Rattle.std.proofs.Common.{◌≡◌, drop}
use Rattle.pm_disasm.specs.Shown.{cut}
use Rattle.pm_session.proofs.typed.behind_spaces.Given as goal

-- The bytes up to here are spaces.
abbrev pub invariant-loop-i : goal.invariant-loop-i
invariant-loop-i l = cut (drop l.i l.text) ≡ cut l.text
