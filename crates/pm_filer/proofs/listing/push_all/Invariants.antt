use Rattle.std.proofs.Common.{◌≡◌, ◌++◌, ◌+◌, ◌≤◌, string_bytes, length}
use Rattle.pm_volume.specs.Directory.{block_count, directory_of, files_begin}
use Rattle.pm_volume.specs.Files.{files_of}
use Rattle.pm_filer.specs.Listing.{full_lines}
use Rattle.pm_filer.proofs.listing.push_all.Given as goal

-- The text so far and the lines of the remaining files are together the complete text.
abbrev pub invariant-files : goal.invariant-files
invariant-files l =
    (string_bytes l.text ++ full_lines l.slot l.begin l.entries (block_count (directory_of l.volume))
    ≡ string_bytes l.fn.text
    ++ full_lines 1 (files_begin (directory_of l.volume)) (files_of l.volume) (block_count (directory_of l.volume)))
    × (l.slot + length l.entries ≤ 78)

abbrev pub decreases-files : goal.decreases-files
decreases-files l = length l.entries
