use Rattle.std.proofs.Common.{◌≡◌, ◌*◌, ◌-◌, ◌++◌, List, ℕ}
use Rattle.std.specs.Fmt.{HasWritten, IsPlainFormatter}
use Rattle.pm_phrases.specs.Sets.{members_from, no_member}
use Rattle.pm_phrases.proofs.sets.MembersDisplay.fmt.Given as goal

-- The written text, followed by the text of the remaining numbers, is the whole text.
abbrev pub invariant-loop-number : goal.invariant-loop-number
invariant-loop-number g l =
    IsPlainFormatter l.fn.f → (done : List ℕ) × (HasWritten g.W.Write.write_str_gives l.fn.f done l.f)
    × (done ++ members_from l.bytes l.behind l.number (16 * l.count - l.number) ≡ members_from l.bytes no_member 0 (16 * l.count))
