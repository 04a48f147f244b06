-- The rules of keep requests. A segment with a keep request remains loaded when calls of it return.
use Rattle.std.specs.Prelude.{ℕ, ◌+◌, ◌-◌, ◌||◌, List, Option, Some, None, is_none, Result, Ok}
use Rattle.std.specs.Prelude.{Err, if◌then◌else◌, ◌==◌, nat_lt, slice_get, slice_set, length}
use Rattle.pm_words.specs.declared.error.ExecError.{ExecError}
use Rattle.pm_words.specs.declared.error.ExecError.TheVariants.{NoSegment, StackOverflow}
use Rattle.pm_words.specs.Words.{with_bytes}
use Rattle.pm_words.specs.Stack.{◌>>=◌, demand, minus}
use Rattle.pm_calls.specs.declared.frames.SegmentPlace.{SegmentPlace}
use Rattle.pm_calls.specs.Places.{Parts}
use Rattle.pm_calls.specs.Calls.{code_fits}

-- ---- one keep more

-- The state after a keep request for slot `n`, whose segment is loaded as `p` states. The number of keep requests
-- increases by 1, up to 65,535.
unfoldable pub keep_standing : Parts → ℕ → SegmentPlace → Result Parts ExecError
keep_standing c n p = do
  _ ← demand (nat_lt p.keeps 65535) StackOverflow
  Ok (record c { places = slice_set c.places n (Some (record p { keeps = p.keeps + 1 })) })

-- The state after a keep request for slot `n`, whose segment must be loaded. Its code ends at SP, its highest word is
-- the word below SP, and SP is set below the code.
unfoldable pub keep_loading : Parts → ℕ → List ℕ → Result Parts ExecError
keep_loading c n code = do
  let sp = c.registers.sp
  _ ← code_fits c.registers code
  Ok (record {
    memory = with_bytes c.memory (sp - length code) code;
    registers = record c.registers { sp = sp - length code };
    places = slice_set c.places n (Some (record { place = minus sp 2; count = 0; keeps = 1 }));
  })

-- The state after a keep request for slot `n`, with the given entry. If the segment is not loaded, its code is
-- required.
abbrev pub keep_slot : Parts → ℕ → Option (List ℕ) → Option (Option SegmentPlace) → Result Parts ExecError
keep_slot c n code None = Err NoSegment
keep_slot c n code (Some (Some p)) = keep_standing c n p
keep_slot c n None (Some None) = Err NoSegment
keep_slot c n (Some code) (Some None) = keep_loading c n code

unfoldable pub segment_kept : Parts → ℕ → Option (List ℕ) → Result Parts ExecError
segment_kept c n code = keep_slot c n code (slice_get c.places n)

-- ---- one keep less

-- The entry of a slot after one of its keep requests is withdrawn. If it was the last and no call of the segment
-- remains, the slot has no address any more.
abbrev pub less_kept : SegmentPlace → Option SegmentPlace
less_kept p = if nat_lt 1 p.keeps || nat_lt 0 p.count then Some (record p { keeps = p.keeps - 1 }) else None

-- SP after a segment of `size` bytes at `place` is unloaded: above its code if the code is on top of the stack, and
-- otherwise unchanged.
abbrev pub above_code : ℕ → ℕ → ℕ → ℕ
above_code sp place size = if sp + size == place + 2 then place + 2 else sp

unfoldable pub unkeep_standing : Parts → ℕ → ℕ → SegmentPlace → Result Parts ExecError
unkeep_standing c n size p = do
  _ ← demand (nat_lt 0 p.keeps) NoSegment
  let sp = if is_none (less_kept p) then above_code c.registers.sp p.place size else c.registers.sp
  Ok (record c { registers = record c.registers { sp = sp }; places = slice_set c.places n (less_kept p) })

abbrev pub unkeep_slot : Parts → ℕ → ℕ → Option (Option SegmentPlace) → Result Parts ExecError
unkeep_slot c n size None = Err NoSegment
unkeep_slot c n size (Some None) = Err NoSegment
unkeep_slot c n size (Some (Some p)) = unkeep_standing c n size p

-- The state after a keep request for slot `n` is withdrawn. The segment has `size` bytes. If no keep request and no
-- call remains, the slot has no address any more, and the code is popped if it is on top of the stack.
unfoldable pub segment_unkept : Parts → ℕ → ℕ → Result Parts ExecError
segment_unkept c n size = unkeep_slot c n size (slice_get c.places n)
