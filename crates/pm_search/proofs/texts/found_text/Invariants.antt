use Rattle.std.proofs.Common.{◌≡◌, ◌++◌, length}
use Rattle.std.specs.List.{flat_map}
use Rattle.pm_search.specs.Texts.{file_text, lines_text}
use Rattle.pm_search.proofs.texts.found_text.Given as goal

-- The text so far, followed by the lines for the remaining files, is the complete text.
abbrev pub invariant-files : goal.invariant-files
invariant-files l =
    l.text.items ++ flat_map (file_text l.path l.finder l.volume) l.entries ≡ lines_text l.path l.volume l.finder

abbrev pub decreases-files : goal.decreases-files
decreases-files l = length l.entries
