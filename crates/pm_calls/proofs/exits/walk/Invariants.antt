use Rattle.std.proofs.Common.{◌≡◌}
use Rattle.pm_words.specs.Watch.{WatchStays}
use Rattle.pm_calls.specs.Exits.{frame_up, with_exits}
use Rattle.pm_calls.proofs.WalkLaws.{Passes}
use Rattle.pm_calls.proofs.exits.walk.Given as goal

abbrev pub invariant-loop-count : goal.invariant-loop-count
invariant-loop-count l = record {
  frame : l.frame ≡ frame_up l.before.words l.mp l._count;
  passed : Passes l.before.words l.wanted l.mp l._count;
  written : l.memory.words ≡ with_exits l.before.words l.mp l._count;
  watch : WatchStays l.initial.memory l.memory;
}
