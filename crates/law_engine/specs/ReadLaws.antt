-- The law of the bytes that a step reads: the step depends on no other bytes of memory.
use Rattle.std.specs.Prelude.{◌≡◌, ◌⊎◌, ◌<◌, ◌≤◌, ℕ, ◌+◌, ◌%◌, true, false, List, Result, Ok}
use Rattle.pm_words.specs.Words.{byte_at, word_at}
use Rattle.pm_opcode.specs.declared.instr.Instr.{Instr}
use Rattle.pm_units.specs.Traps.{Pause}
use Rattle.pm_machine.specs.Rows.{fetched}
use Rattle.pm_machine.specs.State.{State}
use Rattle.pm_machine.specs.Steps.{executed}
use Rattle.pm_machine.specs.ReadStretches.{reads}
use Rattle.pm_machine.specs.Written.{writes}
use Rattle.law_engine.specs.WrittenLaws.{IsPlain}

-- Returns the state `s` with the memory `m`.
abbrev pub in_memory : State → List ℕ → State
in_memory s m = record s { memory = m }

-- The memory `m` and the memory of the state `s` agree on all bytes that the instruction at IPC reads. The same
-- instruction is fetched from both. Its bytes in the code are the same: the characters of LSA and LPA, the words of LDC
-- and the table of XJP. Each byte that the instruction reads is the same.
pub record HoldsWhatIsRead (s : State) (m : List ℕ) : Type 0 where
  pub instruction : fetched m s.registers.ipc ≡ fetched s.memory s.registers.ipc
  pub named : (i : Instr) (x : ℕ) → fetched s.memory s.registers.ipc ≡ Ok i → i.start ≤ x → x < i.start + i.count
      → byte_at m x ≡ byte_at s.memory x
  pub bytes : (x : ℕ) → reads x 1 s ≡ true → byte_at m x ≡ byte_at s.memory x

-- Each byte is the same in the two new memories, or it is unchanged in both. This holds if an instruction writes the
-- same bytes in both memories and leaves all other bytes unchanged.
abbrev pub ChangeAlike : List ℕ → List ℕ → List ℕ → List ℕ → Type 0
ChangeAlike old new other_old other_new =
    (x : ℕ) → (byte_at other_new x ≡ byte_at new x)
    ⊎ ((byte_at new x ≡ byte_at old x) × (byte_at other_new x ≡ byte_at other_old x))

-- A step in the state `s` with the memory `m` succeeds, as the step from `s` to `t` does. After it, the state equals
-- `t` except for the memory, and both memories changed alike. Each word of which the instruction writes no byte is
-- unchanged.
pub record GoesAlike (s t : State) (m : List ℕ) (other : Result State Pause) : Type 0 where
  pub memory : List ℕ
  pub goes : other ≡ Ok (in_memory t memory)
  pub alike : ChangeAlike s.memory t.memory m memory
  pub rest : (x : ℕ) → x % 2 ≡ 0 → writes x 2 s ≡ false → word_at memory x ≡ word_at m x

-- A step depends on the registers, the devices, the slots, the rows of the dictionary, its instruction and the bytes
-- that the instruction reads. It depends on no other byte of the memory. The law covers only steps that succeed, and
-- not steps that fail or wait.
abbrev pub StepsDependOnWhatTheyRead : Type 0
StepsDependOnWhatTheyRead =
    (s t : State) (m : List ℕ) →
    IsPlain s → IsPlain (in_memory s m) → HoldsWhatIsRead s m → executed s ≡ Ok t
    → GoesAlike s t m (executed (in_memory s m))
