use Rattle.std.proofs.Common.{◌≡◌, ◌++◌, List, ℕ, drop, map}
use Rattle.std.specs.Fmt.{HasWritten, IsPlainFormatter}
use Rattle.pm_code.specs.Shown.{label_text}
use Rattle.pm_code.specs.Text.{more_operands}
use Rattle.pm_code.proofs.shown.PlacesDisplay.fmt.Given as goal

-- The written text, followed by the text of the remaining labels, is the whole text.
abbrev pub invariant-loop-place : goal.invariant-loop-place
invariant-loop-place g l =
    IsPlainFormatter l.initial.f → (done : List ℕ) × (HasWritten g.W.Write.write_str_gives l.initial.f done l.f)
    × (done ++ more_operands (map label_text (drop l.place-index l.place-items)) ≡ more_operands (map label_text l.initial.self.0.now))
