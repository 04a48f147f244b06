-- The exit statuses of searches and comparisons.
use Rattle.std.specs.Prelude.{ℕ, Bool, true, false}
use Rattle.pm_search.specs.declared.query.SearchEnding.{SearchEnding}
use Rattle.pm_search.specs.declared.query.SearchEnding.TheVariants as endings

-- Returns the exit status of a search: 2 if an image was refused, 0 if something was found, and 7 if nothing was found.
abbrev pub search_status : SearchEnding → ℕ
search_status endings.Refused = 2
search_status endings.Found = 0
search_status endings.Nothing = 7

-- Returns the exit status of a comparison: 7 if a file differs, or is on one volume only, and 0 otherwise.
abbrev pub compare_status : Bool → ℕ
compare_status true = 7
compare_status false = 0
