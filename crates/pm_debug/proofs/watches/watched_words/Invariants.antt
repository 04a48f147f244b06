use Rattle.std.proofs.Common.{◌≡◌, take}
use Rattle.pm_debug.specs.Watches.{watched_words}
use Rattle.pm_debug.proofs.watches.watched_words.Given as goal

-- The list has the watched words up to here.
abbrev pub invariant-loop-address : goal.invariant-loop-address
invariant-loop-address l = record { so_far : l.words.items ≡ watched_words (take l.address-index l.watches.items) l.memory.words }
