use Rattle.std.proofs.Common.{◌≡◌, ◌++◌, List, ℕ, drop}
use Rattle.std.specs.Fmt.{HasWritten, IsPlainFormatter}
use Rattle.pm_phrases.specs.Cases.{more_arms}
use Rattle.pm_phrases.proofs.cases.MoreArmsDisplay.fmt.Given as goal

-- The written text, followed by the text of the remaining arms, is the whole text.
abbrev pub invariant-loop-place : goal.invariant-loop-place
invariant-loop-place g l =
    IsPlainFormatter l.initial.f → (done : List ℕ) × (HasWritten g.W.Write.write_str_gives l.initial.f done l.f)
    × (done ++ more_arms l.value (drop l.place-index l.places) ≡ more_arms l.initial.self.value l.initial.self.places.now)
