use Rattle.std.proofs.Common.{◌≡◌, ◌++◌, length}
use Rattle.pm_compare.specs.Verdicts.{compared, compared_from}
use Rattle.pm_compare.proofs.comparing.compare.Given as goal

-- The results so far, followed by those for the remaining files, are all results.
abbrev pub invariant-files : goal.invariant-files
invariant-files l =
    l.found.items ++ compared_from l.here l.there l.entries l.unpaired.items ≡ compared l.here l.there

abbrev pub decreases-files : goal.decreases-files
decreases-files l = length l.entries
