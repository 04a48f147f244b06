use Rattle.std.proofs.Common.{◌≡◌, ◌-◌, ◌++◌}
use Rattle.pm_check.specs.Notes.{differing_from}
use Rattle.pm_check.proofs.notes.push_differing.Given as goal

-- The notes so far and the notes of the remaining slots are together all notes.
abbrev pub invariant-loop-n : goal.invariant-loop-n
invariant-loop-n l = l.notes.items ++ differing_from l.directory l.other l.n (78 - l.n)
    ≡ l.fn.notes.items ++ differing_from l.directory l.other 0 78
