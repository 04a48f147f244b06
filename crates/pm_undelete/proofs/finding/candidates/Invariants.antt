use Rattle.std.proofs.Common.{◌≡◌, ◌++◌, length}
use Rattle.pm_volume.specs.Directory.{block_count, directory_of}
use Rattle.pm_undelete.specs.Found.{candidates_of, found_between}
use Rattle.pm_undelete.proofs.finding.candidates.Given as goal

-- The candidates so far, and those before, between and after the remaining files, are together all candidates.
abbrev pub invariant-files : goal.invariant-files
invariant-files l =
    l.list.items ++ found_between l.volume l.begin l.entries (block_count (directory_of l.volume))
    ≡ candidates_of l.volume

abbrev pub decreases-files : goal.decreases-files
decreases-files l = length l.entries
