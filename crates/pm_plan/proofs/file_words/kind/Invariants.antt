use Rattle.std.proofs.Common.{◌≡◌, ◌<◌, ℕ, Some}
use Rattle.pm_filer.specs.Listing.{kind_word}
use Rattle.pm_plan.proofs.file_words.kind.Given as goal

-- No kind with a number below `l.kind` has the name `l.fn.text`.
abbrev pub invariant-loop-kind : goal.invariant-loop-kind
invariant-loop-kind l = (kind : ℕ) → kind < l.kind → kind_word kind ≡ Some l.fn.text → ⊥
