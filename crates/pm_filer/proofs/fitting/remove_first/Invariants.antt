use Rattle.std.proofs.Common.{◌≡◌}
use Rattle.pm_volume.specs.Directory.{IsVolume}
use Rattle.pm_filer.specs.Fitting.{without_first}
use Rattle.pm_filer.proofs.fitting.remove_first.Given as goal

-- Removing the remaining matching files gives the result for all files.
abbrev pub invariant-slots : goal.invariant-slots
invariant-slots l = (without_first l.pattern l.before l.volume ≡ without_first l.pattern l.count l.fn.volume)
    × (IsVolume l.fn.volume → IsVolume l.volume)

abbrev pub decreases-slots : goal.decreases-slots
decreases-slots l = l.before
