use Rattle.std.proofs.Common.{◌≡◌, ◌+◌, ◌≤◌, length, take}
use Rattle.std.specs.List.{filter}
use Rattle.pm_folder.specs.Folder.{has_name, same_before}
use Rattle.pm_folder.proofs.folder.same_before.Given as goal

-- The count so far, plus the count of the remaining entries before the slot, is the whole count.
abbrev pub invariant-files : goal.invariant-files
invariant-files l =
    (l.count + length (filter (has_name l.name) (take l.left l.entries)) ≡ same_before l.volume l.slot l.name)
    × (l.count + length l.entries ≤ 77)

abbrev pub decreases-files : goal.decreases-files
decreases-files l = length l.entries
