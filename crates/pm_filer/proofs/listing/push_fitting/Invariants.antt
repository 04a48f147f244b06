use Rattle.std.proofs.Common.{◌≡◌, ◌++◌, ◌+◌, ◌≤◌, string_bytes, length}
use Rattle.std.specs.List.{filter, flat_map}
use Rattle.pm_filer.specs.Fitting.{fitting_files, is_fitting}
use Rattle.pm_filer.specs.Listing.{file_line}
use Rattle.pm_filer.proofs.listing.push_fitting.Given as goal

-- The text so far and the lines of the remaining matching files are together the complete text. The same holds for the
-- number of matching files.
abbrev pub invariant-files : goal.invariant-files
invariant-files l =
    (string_bytes l.text ++ flat_map file_line (filter (is_fitting l.pattern) l.entries)
    ≡ string_bytes l.fn.text ++ flat_map file_line (fitting_files l.volume l.pattern))
    × ((l.count + length (filter (is_fitting l.pattern) l.entries) ≡ length (fitting_files l.volume l.pattern))
    × (l.count + length l.entries ≤ 77))

abbrev pub decreases-files : goal.decreases-files
decreases-files l = length l.entries
