use Rattle.std.proofs.Common.{◌≡◌, ◌+◌, ◌-◌, ◌++◌}
use Rattle.pm_check.specs.Notes.{notes_from}
use Rattle.pm_check.proofs.notes.push_slots.Given as goal

-- The notes so far and the notes of the remaining slots are together all notes.
abbrev pub invariant-loop-n : goal.invariant-loop-n
invariant-loop-n l = l.notes.items ++ notes_from l.directory l.n (l.count + 1 - l.n)
    ≡ l.fn.notes.items ++ notes_from l.directory 1 l.count
