use Rattle.std.proofs.Common.{◌≡◌, ◌-◌, ◌++◌}
use Rattle.pm_check.specs.Notes.{pairs_from}
use Rattle.pm_check.proofs.notes.push_pairs.Given as goal

-- The notes so far and the notes of the remaining slots are together all notes.
abbrev pub invariant-loop-k : goal.invariant-loop-k
invariant-loop-k l = l.notes.items ++ pairs_from l.directory l.n l.k (l.n - l.k)
    ≡ l.fn.notes.items ++ pairs_from l.directory l.n 1 (l.n - 1)
