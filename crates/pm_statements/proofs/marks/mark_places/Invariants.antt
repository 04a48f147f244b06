use Rattle.std.proofs.Common.{◌≡◌, ℕ, drop}
use Rattle.std.specs.Prelude.{◌||◌}
use Rattle.pm_code.specs.Program.{is_among}
use Rattle.pm_statements.specs.Marks.{has}
use Rattle.pm_statements.proofs.marks.mark_places.Given as goal

-- The offsets that are marked so far, and the remaining offsets, are all offsets.
abbrev pub invariant-loop-place : goal.invariant-loop-place
invariant-loop-place l =
    (p : ℕ) → (has l.marks p || is_among (drop l.place-index l.places) p) ≡ (has l.fn.marks p || is_among l.places p)
