-- The segment that a call reaches, described by the words of its memory.
use Rattle.std.specs.Prelude.{ℕ, List, length, Option, Some, None, Result, Ok, Err}
use Rattle.pm_words.specs.declared.error.ExecError.{ExecError}
use Rattle.pm_words.specs.Words.{with_bytes}
use Rattle.pm_calls.specs.Calls.{Reached}
use Rattle.pm_access.specs.declared.loaded.Loaded.{Loaded}
use Rattle.pm_access.specs.declared.reached.Segment.{Segment}

-- The words of the memory `l` after its code was loaded.
abbrev pub loaded_memory : Loaded → List ℕ
loaded_memory l = with_bytes l.memory.now.words l.start l.code.now

-- A segment as contracts describe it. `memory` has the words of the memory after the code was loaded, `place` is the
-- address of the highest word of the segment, and `loaded` is the number of bytes that were loaded.
pub record Seen : Type 0 where
  pub memory : List ℕ
  pub place : ℕ
  pub loaded : ℕ

abbrev pub segment_seen : Segment → Seen
segment_seen g =
    record { memory = loaded_memory g.memory; place = g.place; loaded = length g.memory.code.now }

-- The segment that a call reaches, or `None` if the call ends with an error before it reaches its segment.
abbrev pub reached_seen : Result Reached ExecError → Option Seen
reached_seen (Ok at) = Some (record { memory = at.memory; place = at.place; loaded = at.loaded })
reached_seen (Err e) = None
