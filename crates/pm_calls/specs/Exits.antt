-- The rule of EXIT: leaving a procedure that is given by its segment number and its procedure number. The running
-- procedure, and each of its callers up to the requested one, continues at the exit address in its own table. At these
-- addresses they return, one after the other.
use Rattle.std.specs.Prelude.{ℕ, zero, suc, ◌+◌, ◌%◌, Bool, false, not, ◌&&◌, ◌||◌, List}
use Rattle.std.specs.Prelude.{Option, Some, None, Result, Ok, Err, if◌then◌else◌, ◌==◌}
use Rattle.pm_words.specs.declared.error.ExecError.{ExecError}
use Rattle.pm_words.specs.declared.error.ExecError.TheVariants.{NoProcedure}
use Rattle.pm_words.specs.Words.{word_at, with_word}
use Rattle.pm_words.specs.Stack.{◌>>=◌, demand, load, minus}
use Rattle.pm_calls.specs.declared.exits.Wanted.{Wanted}
use Rattle.pm_calls.specs.Places.{Parts}
use Rattle.pm_calls.specs.Tables.{self_relative}
use Rattle.pm_words.specs.declared.layout.TheConstants.{SYSTEM_FRAME}

-- Is true if the procedure whose segment has its highest word at `s`, and whose table is at `j`, is the requested
-- procedure `p`. The low bytes of these two words must be the requested numbers. Both words are always read.
abbrev pub is_wanted : List ℕ → Wanted → ℕ → ℕ → Result Bool ExecError
is_wanted m p s j = do
  segment ← load m s
  procedure ← load m j
  Ok (segment % 256 == p.segment && procedure % 256 == p.procedure)

-- The exit address of the procedure whose table is at `j`.
abbrev pub exit_code : List ℕ → ℕ → ℕ
exit_code m j = self_relative m (minus j 4)

-- The control word at offset `n` of the frame at `f`.
abbrev pub control : List ℕ → ℕ → ℕ → ℕ
control m f n = word_at m ((f + n) % 65536)

-- The check of EXIT at the frame `f`. It is true if the caller that this frame saves is the requested procedure `p`. If
-- `f` or its caller's frame is the system's frame, the search ends with `NoProcedure`.
unfoldable pub met : List ℕ → Wanted → ℕ → Result Bool ExecError
met m p f = do
  caller ← load m ((f + 2) % 65536)
  _ ← demand (not (f == SYSTEM_FRAME || caller == SYSTEM_FRAME)) NoProcedure
  jtab ← load m ((f + 4) % 65536)
  seg ← load m ((f + 6) % 65536)
  is_wanted m p seg jtab

-- The frame to which the given number of dynamic links leads from the frame at `a`.
unfoldable pub frame_up : List ℕ → ℕ → ℕ → ℕ
frame_up m a zero = a
frame_up m a (suc i) = control m (frame_up m a i) 2

-- The number that was already found. If none was found, `n` if it passes the test (`passes`).
abbrev pub or_else_if : Option ℕ → Bool → ℕ → Option ℕ
or_else_if (Some k) passes n = Some k
or_else_if None passes n = if passes then Some n else None

-- The least number below `n` that passes the test `t`.
unfoldable pub least_below : (ℕ → Bool) → ℕ → Option ℕ
least_below t zero = None
least_below t (suc n) = or_else_if (least_below t n) (t n) n

-- Is true if EXIT continues with the next frame, after a check with the given result.
abbrev pub goes_on : Result Bool ExecError → Bool
goes_on (Ok wanted) = not wanted
goes_on (Err e) = false

-- The number `k` of the frame at which EXIT stopped, or the error of the check of this frame. If EXIT did not stop,
-- `NoProcedure`.
abbrev pub stopped : List ℕ → Wanted → ℕ → Option ℕ → Result ℕ ExecError
stopped m p a None = Err NoProcedure
stopped m p a (Some k) = met m p (frame_up m a k) >>= λ wanted. Ok k

-- The number of the first frame at which EXIT does not continue, counted in dynamic links from the frame at `a`. A
-- chain of 32,768 frames is circular.
unfoldable pub last_frame : List ℕ → Wanted → ℕ → Result ℕ ExecError
last_frame m p a = stopped m p a (least_below (λ i. not (goes_on (met m p (frame_up m a i)))) 32768)

-- The memory in which the callers that the given number of frames save continue at their exit addresses. The first
-- frame is at `a`. All words are read from the old memory `m`.
unfoldable pub with_exits : List ℕ → ℕ → ℕ → List ℕ
with_exits m a zero = m
with_exits m a (suc i) =
    let f = frame_up m a i in with_word (with_exits m a i) ((f + 8) % 65536) (exit_code m (control m f 4))

-- The memory after EXIT, if the running procedure is not the requested one. The saved IPC is changed in each frame from
-- that at `a` up to the first whose caller is the requested procedure `p`.
unfoldable pub walked : List ℕ → Wanted → ℕ → Result (List ℕ) ExecError
walked m p a = last_frame m p a >>= λ k. Ok (with_exits m a (k + 1))

-- The memory after EXIT. It is unchanged if the running procedure is the requested one (`here` is true).
abbrev pub walked_unless : Bool → List ℕ → Wanted → ℕ → Result (List ℕ) ExecError
walked_unless here m p a = if here then Ok m else walked m p a

-- The state after EXIT for the requested procedure `p`. IPC is set to the exit address of the running procedure in any
-- case.
unfoldable pub exited : Parts → Wanted → Result Parts ExecError
exited c p = do
  here ← is_wanted c.memory p c.registers.seg c.registers.jtab
  m ← walked_unless here c.memory p c.registers.mp
  Ok (record c { memory = m; registers = record c.registers { ipc = exit_code c.memory c.registers.jtab } })
