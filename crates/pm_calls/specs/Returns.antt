-- The rules of returns.
use Rattle.std.specs.Prelude.{ℕ, ◌+◌, ◌-◌, ◌*◌, ◌%◌, Bool, false, ◌&&◌, ◌||◌, List, Option, Some, None, Result, Ok}
use Rattle.std.specs.Prelude.{if◌then◌else◌, ◌==◌, nat_lt, nat_le, slice_set, slice_index_or, option_and_then, position}
use Rattle.pm_words.specs.declared.error.ExecError.{ExecError}
use Rattle.pm_words.specs.declared.error.ExecError.TheVariants.{InvalidMemory, StackOverflow}
use Rattle.pm_words.specs.Words.{word_at, copied}
use Rattle.pm_words.specs.Stack.{◌>>=◌, demand, is_even, minus}
use Rattle.pm_calls.specs.declared.registers.Registers.{Registers}
use Rattle.pm_calls.specs.declared.frames.SegmentPlace.{SegmentPlace}
use Rattle.pm_calls.specs.Places.{Parts}
use Rattle.pm_words.specs.declared.layout.TheConstants.{STACK_END}

-- The entry of a slot after one of its calls is removed. If it was the last call and the segment has no keep request,
-- the slot has no address any more.
abbrev pub one_call_less : SegmentPlace → Option SegmentPlace
one_call_less p = if nat_lt 1 p.count || nat_lt 0 p.keeps then Some (record p { count = p.count - 1 }) else None

-- Is true if the slot has a segment at `s`.
abbrev pub is_at : ℕ → Option SegmentPlace → Bool
is_at s None = false
is_at s (Some p) = p.place == s

-- Is true if the slot has a segment at `s` with a call.
abbrev pub stands_at : ℕ → Option SegmentPlace → Bool
stands_at s None = false
stands_at s (Some p) = p.place == s && nat_lt 0 p.count

-- The entries of the slots after a call of the given slot is removed, if a slot is given.
abbrev pub lessened : Option ℕ → List (Option SegmentPlace) → List (Option SegmentPlace)
lessened None places = places
lessened (Some n) places = slice_set places n (option_and_then one_call_less (slice_index_or places n None))

-- The entries of the slots after a return from the segment at `s`: one call is removed from the lowest slot that has a
-- segment at `s` with a call.
unfoldable pub released : ℕ → List (Option SegmentPlace) → List (Option SegmentPlace)
released s places = lessened (position (stands_at s) places) places

-- The registers after a return from the frame at `f` to its caller. SP is `sp`. A base return restores the old BASE.
abbrev pub left_to : List ℕ → Registers → ℕ → ℕ → Bool → Registers
left_to m r f sp base = record r {
  sp = sp;
  mp = word_at m (f + 2);
  jtab = word_at m (f + 4);
  seg = word_at m (f + 6);
  ipc = word_at m (f + 8);
  base = if base then word_at m (minus f 2) else r.base;
}

-- The state after a return from the frame at MP with a result of `words` words. All words are read from the memory
-- before the return. The result is above the control words of the frame, and is copied to below the SP that the frame
-- saves.
unfoldable pub returned : Parts → ℕ → Bool → Result Parts ExecError
returned c words base = do
  let f = c.registers.mp
  _ ← demand (is_even f && nat_le (f + 12 + 2 * words) 65536) InvalidMemory
  let above = word_at c.memory (f + 10)
  _ ← demand (is_even above && nat_le above STACK_END) InvalidMemory
  _ ← demand (nat_le (c.registers.np + 2 * words) above) StackOverflow
  let r = left_to c.memory c.registers f (above - 2 * words) base
  Ok (record {
    memory = copied c.memory ((f + 12) % 65536) (above - 2 * words) (2 * words);
    registers = r;
    places = if r.seg == c.registers.seg then c.places else released c.registers.seg c.places;
  })
