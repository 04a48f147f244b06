use Rattle.std.proofs.Common.{◌≡◌, ◌+◌, ◌-◌, ◌++◌, ◌∷◌, None}
use Rattle.pm_statements.specs.Files.{system_from}
use Rattle.pm_statements.proofs.sized.add_system.Given as goal

-- The sizes so far, followed by the sizes for the remaining numbers, are all sizes.
abbrev pub invariant-loop-done : goal.invariant-loop-done
invariant-loop-done l =
    l.callees.items ++ system_from (l.done + 1) (255 - l.done) ≡ l.fn.callees.items ++ (None ∷ system_from 1 255)
