use Rattle.std.proofs.Common.{◌≡◌, ◌++◌, length}
use Rattle.std.specs.List.{filter, flat_map}
use Rattle.pm_filer.specs.Fitting.{is_fitting}
use Rattle.pm_search.specs.Lines.{name_line, names_text}
use Rattle.pm_search.proofs.names.names_text.Given as goal

-- The text so far, followed by the lines of the remaining files that match, is the complete text.
abbrev pub invariant-files : goal.invariant-files
invariant-files l =
    l.text.items ++ flat_map (name_line l.path) (filter (is_fitting l.pattern) l.entries) ≡ names_text l.path l.volume l.pattern

abbrev pub decreases-files : goal.decreases-files
decreases-files l = length l.entries
