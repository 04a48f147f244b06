use Rattle.std.proofs.Common.{◌≡◌, ◌++◌, string_bytes, length}
use Rattle.std.specs.List.{flat_map}
use Rattle.pm_volume.specs.Files.{files_of}
use Rattle.pm_filer.specs.Listing.{file_line}
use Rattle.pm_filer.proofs.listing.push_files.Given as goal

-- The text so far and the lines of the remaining files are together the complete text.
abbrev pub invariant-files : goal.invariant-files
invariant-files l = string_bytes l.text ++ flat_map file_line l.entries ≡ string_bytes l.fn.text ++ flat_map file_line (files_of l.volume)

abbrev pub decreases-files : goal.decreases-files
decreases-files l = length l.entries
