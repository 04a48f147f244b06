use Rattle.std.proofs.Common.{◌≡◌, ◌*◌}
use Rattle.pm_words.specs.Watch.{WatchStays}
use Rattle.pm_words.specs.Words.{copied}
use Rattle.pm_calls.proofs.frame.put_words.Given as goal

-- The first `i` words are copied.
abbrev pub invariant-loop-i : goal.invariant-loop-i
invariant-loop-i l = record {
  written : l.memory.words ≡ copied l.fn.memory.words l.from l.to (2 * l.i);
  watch : WatchStays l.fn.memory l.memory;
}
