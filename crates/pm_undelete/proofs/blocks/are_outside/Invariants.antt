use Rattle.std.proofs.Common.{◌≡◌, length}
use Rattle.std.specs.List.{list_all}
use Rattle.pm_undelete.specs.Blocks.{is_outside}
use Rattle.pm_volume.specs.Files.{files_of}
use Rattle.pm_undelete.proofs.blocks.are_outside.Given as goal

-- No file has one of the blocks if and only if none of the remaining files has one.
abbrev pub invariant-files : goal.invariant-files
invariant-files l = list_all (is_outside l.first l.end) l.entries ≡ list_all (is_outside l.first l.end) (files_of l.volume)

abbrev pub decreases-files : goal.decreases-files
decreases-files l = length l.entries
