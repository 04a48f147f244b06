use Rattle.std.proofs.Common.{◌≡◌, drop}
use Rattle.pm_debug.specs.Watches.{first_changed}
use Rattle.pm_debug.proofs.watches.first_changed.Given as goal

-- The first changed word is among the remaining words, so no word before them has changed.
abbrev pub invariant-loop-known : goal.invariant-loop-known
invariant-loop-known l = record { rest : first_changed l.watched l.memory.words ≡ first_changed (drop l.known-index l.watched) l.memory.words }
