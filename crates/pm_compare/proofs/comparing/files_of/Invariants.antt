use Rattle.std.proofs.Common.{◌≡◌, ◌++◌, length}
use Rattle.pm_volume.specs.Files.{files_of}
use Rattle.pm_compare.proofs.comparing.files_of.Given as goal

-- The entries so far, followed by the remaining entries, are all entries.
abbrev pub invariant-files : goal.invariant-files
invariant-files l = l.list.items ++ l.entries ≡ files_of l.volume

abbrev pub decreases-files : goal.decreases-files
decreases-files l = length l.entries
