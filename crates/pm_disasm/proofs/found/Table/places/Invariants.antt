use Rattle.std.proofs.Common.{◌≡◌, ◌+◌, ◌*◌, ◌++◌, drop}
use Rattle.pm_words.specs.Words.{words_of}
use Rattle.pm_disasm.specs.Split.{table_places}
use Rattle.pm_disasm.proofs.found.Table.places.Given as goal

-- The targets up to here, followed by those of the remaining words, are all targets.
abbrev pub invariant-loop-k : goal.invariant-loop-k
invariant-loop-k l = l.places.items ++ table_places (l.at + 2 * l.k) (words_of (drop (2 * l.k) l.words)) ≡ table_places l.at (words_of l.words)
