use Rattle.std.proofs.Common.{◌≡◌, ◌++◌, ◌+◌, ◌≤◌, length}
use Rattle.std.specs.Prelude.{map}
use Rattle.pm_folder.specs.Folder.{files_from, folder_of, seen}
use Rattle.pm_folder.proofs.folder.folder_of.Given as goal

-- The files so far, followed by the files for the remaining entries, are all files.
abbrev pub invariant-files : goal.invariant-files
invariant-files l =
    (map seen l.files.items ++ files_from l.text l.wanted l.volume l.slot l.entries
    ≡ folder_of l.text l.wanted l.volume)
    × (l.slot + length l.entries ≤ 78)

abbrev pub decreases-files : goal.decreases-files
decreases-files l = length l.entries
