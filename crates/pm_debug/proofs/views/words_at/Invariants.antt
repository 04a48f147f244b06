use Rattle.std.proofs.Common.{◌≡◌}
use Rattle.pm_words.specs.Words.{words_at}
use Rattle.pm_debug.proofs.views.words_at.Given as goal

-- The list has the first `i` words.
abbrev pub invariant-loop-i : goal.invariant-loop-i
invariant-loop-i l = record { words : l.words.items ≡ words_at l.memory.words l.start l.i }
