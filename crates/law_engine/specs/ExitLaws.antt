-- Laws of EXIT: the memory and the registers after it, and the returns after it. The record `Parts` has the memory, the
-- registers and the entries of the segment slots.
use Rattle.std.specs.Prelude.{◌≡◌, ◌≢◌, ◌<◌, ◌≤◌, ◌==◌, ℕ, ◌+◌, ◌%◌, Bool, List, [], ◌∷◌, length, Result, Ok}
use Rattle.pm_words.specs.declared.error.ExecError.{ExecError}
use Rattle.pm_words.specs.Words.{IsMemory, word_at}
use Rattle.pm_words.specs.Stack.{◌>>=◌}
use Rattle.pm_calls.specs.declared.exits.Wanted.{Wanted}
use Rattle.pm_calls.specs.Places.{Parts}
use Rattle.pm_calls.specs.Returns.{returned}
use Rattle.pm_calls.specs.Exits.{control, exit_code, exited, frame_up, is_wanted}
use Rattle.pm_machine.specs.Written.{ip_kept}
pub use Rattle.pm_machine.specs.Written.{frames_left, left_by_exit}

-- Returns the address of the word in which the frame `i` callers up from MP saves IPC.
abbrev pub saved_ip : Parts → ℕ → ℕ
saved_ip c i = ip_kept c.memory c.registers.mp i

-- Returns the exit address of the procedure that the frame `i` callers up from MP saves. The JTAB that the frame saves
-- states the attribute table of this procedure.
abbrev pub saved_exit : Parts → ℕ → ℕ
saved_exit c i = exit_code c.memory (control c.memory (frame_up c.memory c.registers.mp i) 4)

-- EXIT leads from `c` to `d`. All words are unchanged, except the saved IPC of the frames that EXIT leaves. Each saved
-- IPC becomes the exit address of its procedure, unless a later one of these frames saves its IPC in the same word. Of
-- the registers only IPC changes, and the slots are unchanged.
pub record ExitLeaves (c d : Parts) (p : Wanted) : Type 0 where
  pub count : ℕ
  pub frames : left_by_exit c p ≡ Ok count
  pub registers : d.registers ≡ record c.registers { ipc = exit_code c.memory c.registers.jtab }
  pub places : d.places ≡ c.places
  pub rest :
      (x : ℕ) → x % 2 ≡ 0
      → ((i : ℕ) → i < count → x ≢ saved_ip c i) → word_at d.memory x ≡ word_at c.memory x
  pub saved :
      (i : ℕ) → i < count → ((j : ℕ) → i < j → j < count → saved_ip c i ≢ saved_ip c j)
      → word_at d.memory (saved_ip c i) ≡ saved_exit c i

-- If EXIT succeeds, then it changes only IPC and the saved IPC of the frames that it leaves.
abbrev pub ExitChangesSavedIpsAlone : Type 0
ExitChangesSavedIpsAlone = (c d : Parts) (p : Wanted) → IsMemory c.memory → exited c p ≡ Ok d → ExitLeaves c d p

-- ---- the returns after EXIT

-- Returns the result of the returns in the list, executed one after another from `c`. Each return is the number of
-- words that it leaves, and a flag that states whether it is a base return.
abbrev pub all_returned : Parts → List (ℕ × Bool) → Result Parts ExecError
all_returned c [] = Ok c
all_returned c (r ∷ rs) = returned c r.0 r.1 >>= λ d. all_returned d rs

-- The frame `f` is below the frame `above` of its caller. Its control words end at or below the SP that it saves, and
-- this SP is at or below the frame of the caller.
pub record IsBelowCaller (m : List ℕ) (f above : ℕ) : Type 0 where
  pub words : f + 12 ≤ control m f 10
  pub caller : control m f 10 ≤ above

-- Each of the `n` frames from the frame at MP on is below the frame of its caller.
abbrev pub AreStacked : Parts → ℕ → Type 0
AreStacked c n =
    (i : ℕ) → i < n → IsBelowCaller c.memory (frame_up c.memory c.registers.mp i)
    (frame_up c.memory c.registers.mp (i + 1))

-- `c` is before an EXIT that leaves `count` frames, and `e` is after this EXIT and `n` returns. MP in `e` is the frame
-- `n` callers up, and IPC is the exit address of the running procedure. This procedure is the one that EXIT names if
-- and only if `n` is `count`. The next return that succeeds makes MP the frame `n + 1` callers up.
pub record LeadsOut (c e : Parts) (p : Wanted) (count n : ℕ) : Type 0 where
  pub frame : e.registers.mp ≡ frame_up c.memory c.registers.mp n
  pub ipc : e.registers.ipc ≡ exit_code c.memory e.registers.jtab
  pub named : is_wanted c.memory p e.registers.seg e.registers.jtab ≡ Ok (n == count)
  pub next :
      (g : Parts) (words : ℕ) (base : Bool) →
      returned e words base ≡ Ok g → g.registers.mp ≡ frame_up c.memory c.registers.mp (n + 1)

-- If EXIT leaves `count` frames, each of them is below the frame of its caller, and at most `count` returns after EXIT
-- succeed, then these returns lead through the frames to the exit address of the named procedure.
abbrev pub ReturnsLeadOut : Type 0
ReturnsLeadOut =
    (c d e : Parts) (p : Wanted) (count : ℕ) (rs : List (ℕ × Bool)) →
    IsMemory c.memory → exited c p ≡ Ok d → left_by_exit c p ≡ Ok count → AreStacked c count →
    length rs ≤ count → all_returned d rs ≡ Ok e → LeadsOut c e p count (length rs)
