use Rattle.std.proofs.Common.{◌≡◌, ◌+◌, ◌*◌, drop}
use Rattle.std.specs.List.{list_all}
use Rattle.pm_words.specs.Words.{words_of}
use Rattle.pm_disasm.specs.Split.{table_places}
use Rattle.pm_disasm.specs.Views.{has}
use Rattle.pm_disasm.proofs.written.table_leads.Given as goal

-- If all remaining targets are boundaries, then all targets are boundaries.
abbrev pub invariant-loop-k : goal.invariant-loop-k
invariant-loop-k l =
    list_all (has l.boundaries) (table_places (l.at + 2 * l.k) (words_of (drop (2 * l.k) l.words)))
    ≡ list_all (has l.boundaries) (table_places l.at (words_of l.words))
