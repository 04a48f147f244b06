use Rattle.std.proofs.Common.{◌≡◌, ◌-◌}
use Rattle.pm_check.specs.Naming.{free_from}
use Rattle.pm_check.proofs.naming.free_name.Given as goal

-- The search from number `n` on returns the same name as the search from number 0 on.
abbrev pub invariant-loop-n : goal.invariant-loop-n
invariant-loop-n l = free_from l.volume l.name l.n (77 - l.n) ≡ free_from l.volume l.name 0 77
