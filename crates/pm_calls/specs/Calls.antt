-- The rules of calls.
use Rattle.std.specs.Prelude.{ℕ, ◌+◌, ◌-◌, ℤ, pos, int_le, Bool, true, false, List, Option, Some, None, Result}
use Rattle.std.specs.Prelude.{Ok, Err, ◌≡◌, if◌then◌else◌, ◌==◌, nat_lt, nat_le, slice_get, slice_set, length}
use Rattle.pm_words.specs.declared.error.ExecError.{ExecError}
use Rattle.pm_words.specs.declared.error.ExecError.TheVariants.{NoSegment, InvalidMemory, StackOverflow}
use Rattle.pm_words.specs.Words.{with_word, with_bytes, copied}
use Rattle.pm_words.specs.Stack.{◌>>=◌, demand, minus}
use Rattle.pm_calls.specs.declared.registers.Registers.{Registers}
use Rattle.pm_calls.specs.declared.frames.Table.{Table}
use Rattle.pm_calls.specs.declared.frames.SegmentPlace.{SegmentPlace}
use Rattle.pm_families.specs.declared.families.Call.{Call}
use Rattle.pm_families.specs.declared.families.Call.TheVariants.{Clp, Cgp, Cbp, Cip, Cxp}
use Rattle.pm_calls.specs.Places.{Parts}
use Rattle.pm_calls.specs.Links.{static_link}
use Rattle.pm_calls.specs.Tables.{attributes}
use Rattle.pm_words.specs.declared.layout.TheConstants.{STACK_END}

-- Is true if the given call calls a main procedure, so that it saves the old BASE. `level` is the level of the called
-- procedure.
abbrev pub is_base : Call → ℤ → Bool
is_base (Cbp p) level = true
is_base (Cxp n p) level = int_le level (pos 0)
is_base (Clp p) level = false
is_base (Cgp p) level = false
is_base (Cip p) level = false

abbrev pub procedure_called : Call → ℕ
procedure_called (Clp p) = p
procedure_called (Cgp p) = p
procedure_called (Cbp p) = p
procedure_called (Cip p) = p
procedure_called (Cxp n p) = p

-- ---- the segment of a call

-- The segment that a call reaches: the memory that contains its code, the entries of the slots, the address of its
-- highest word, and the number of bytes that were loaded for the call.
pub record Reached : Type 0 where
  pub memory : List ℕ
  pub places : List (Option SegmentPlace)
  pub place : ℕ
  pub loaded : ℕ

-- The running segment, as the segment that a call reaches.
abbrev pub here : Parts → Reached
here c = record { memory = c.memory; places = c.places; place = c.registers.seg; loaded = 0 }

-- Code can be loaded if it has at least one byte, and fits between NP and SP.
abbrev pub code_fits : Registers → List ℕ → Result (Unit {0}) ExecError
code_fits r code = do
  _ ← demand (nat_lt 0 (length code)) NoSegment
  demand (nat_le (r.np + length code) r.sp) StackOverflow

-- The segment of slot `n`, if the call must load its code `code`. The code ends at SP, and its highest word is the word
-- below SP.
unfoldable pub reach_loading : Parts → ℕ → List ℕ → Result Reached ExecError
reach_loading c n code = do
  let sp = c.registers.sp
  _ ← code_fits c.registers code
  Ok (record {
    memory = with_bytes c.memory (sp - length code) code;
    places = slice_set c.places n (Some (record { place = minus sp 2; count = 1; keeps = 0 }));
    place = minus sp 2;
    loaded = length code;
  })

-- The segment of slot `n`, if it is loaded as `p` states. A call from another segment adds 1 to its count, up to
-- 65,535.
unfoldable pub reach_standing : Parts → ℕ → SegmentPlace → Result Reached ExecError
reach_standing c n p =
    if p.place == c.registers.seg then Ok (here c)
    else do
      _ ← demand (nat_lt p.count 65535) StackOverflow
      Ok (record {
        memory = c.memory;
        places = slice_set c.places n (Some (record p { count = p.count + 1 }));
        place = p.place;
        loaded = 0;
      })

-- ---- the frame of a call

-- The number of bytes below its frame that a call uses: 2 for the old BASE of a base call, and otherwise 0.
abbrev pub kept_below : Bool → ℕ
kept_below base = if base then 2 else 0

-- The address at which a new frame ends. This is below the code that was loaded for the call, if any, and otherwise
-- above the parameters.
abbrev pub frame_top : ℕ → ℕ → ℕ → ℕ
frame_top loaded sp parameters = if nat_lt 0 loaded then sp - loaded else sp + parameters

-- The memory with the six control words of a frame at `f`: the static link, the dynamic link, and the caller's JTAB,
-- SEG, IPC and SP (`above`).
unfoldable pub with_control : List ℕ → ℕ → ℕ → Registers → ℕ → List ℕ
with_control m f static r above =
    let linked = with_word m f static in
    let dynamic = with_word linked (f + 2) r.mp in
    let jtab = with_word dynamic (f + 4) r.jtab in
    let seg = with_word jtab (f + 6) r.seg in
    let ipc = with_word seg (f + 8) r.ipc in
    with_word ipc (f + 10) above

-- The memory with a frame at `f`: the parameters, which are copied from the stack, and the control words.
abbrev pub with_frame : List ℕ → ℕ → ℕ → Registers → ℕ → List ℕ
with_frame m f static r parameters =
    with_control (copied m r.sp (f + 12) parameters) f static r (r.sp + parameters)

-- The memory with the old BASE `old` below the frame at `f`, if `base` is true.
abbrev pub with_old_base : Bool → List ℕ → ℕ → ℕ → List ℕ
with_old_base base m f old = if base then with_word m (f - 2) old else m

-- The registers at the start of the procedure with the table `t` and the frame at `f`, in the segment at `s`.
abbrev pub inside : Bool → Registers → ℕ → Table → ℕ → Registers
inside base r s t f = record r {
  mp = f;
  sp = f - kept_below base;
  jtab = t.jtab;
  seg = s;
  ipc = t.enter;
  base = if base then f else r.base;
}

-- The memory and registers after the frame of the procedure with the table `t` and the static link `static` is created.
-- From the top down, a frame has local variables, parameters and control words. Sums are natural numbers, not words.
unfoldable pub framed : List ℕ → ℕ → ℕ → Registers → Bool → Table → ℕ → Result (List ℕ × Registers) ExecError
framed m s loaded r base t static = do
  _ ← demand (nat_le (r.sp + t.parameters) STACK_END) InvalidMemory
  let top = frame_top loaded r.sp t.parameters
  let size = t.locals + t.parameters + 12
  _ ← demand (nat_le (r.np + kept_below base + size) top) StackOverflow
  let f = top - size
  Ok (with_old_base base (with_frame m f static r t.parameters) f r.base, inside base r s t f)

-- ---- the call

-- The memory and registers after a call of a procedure of the segment at `s`. For this call, `loaded` bytes of code
-- were loaded; the memory `m` contains them.
unfoldable pub entered : List ℕ → ℕ → ℕ → Registers → Call → Result (List ℕ × Registers) ExecError
entered m s loaded r call = do
  t ← attributes m s (procedure_called call)
  static ← static_link call m r t.level
  framed m s loaded r (is_base call t.level) t static

-- The state after the given call reaches the segment `at` and enters the procedure.
unfoldable pub called_at : Parts → Call → Reached → Result Parts ExecError
called_at c call at = do
  e ← entered at.memory at.place at.loaded c.registers call
  Ok (record { memory = e.0; registers = e.1; places = at.places })

-- The state after a call of a procedure of slot `n`, whose segment is loaded as `p` states. The next definition is for
-- a segment that must be loaded.
unfoldable pub called_standing : Parts → Call → ℕ → SegmentPlace → Result Parts ExecError
called_standing c call n p = reach_standing c n p >>= called_at c call

unfoldable pub called_loading : Parts → Call → ℕ → List ℕ → Result Parts ExecError
called_loading c call n code = reach_loading c n code >>= called_at c call

-- The state after a call of a procedure of slot `n`, with the given entry. If the segment is not loaded, its code is
-- required.
abbrev pub called_slot : Parts → Call → ℕ → Option (List ℕ) → Option (Option SegmentPlace) → Result Parts ExecError
called_slot c call n code None = Err NoSegment
called_slot c call n code (Some (Some p)) = called_standing c call n p
called_slot c call n None (Some None) = Err NoSegment
called_slot c call n (Some code) (Some None) = called_loading c call n code

unfoldable pub called : Parts → Call → Option (List ℕ) → Result Parts ExecError
called c (Cxp n p) code = called_slot c (Cxp n p) n code (slice_get c.places n)
called c (Clp p) code = called_at c (Clp p) (here c)
called c (Cgp p) code = called_at c (Cgp p) (here c)
called c (Cbp p) code = called_at c (Cbp p) (here c)
called c (Cip p) code = called_at c (Cip p) (here c)
