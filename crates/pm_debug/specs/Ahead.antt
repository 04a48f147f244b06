-- The addresses of consecutive instructions from an address on.
use Rattle.std.specs.Prelude.{ℕ, zero, suc, ◌+◌, nat_lt, List, [], ◌∷◌, Result, Ok, Err, if◌then◌else◌}
use Rattle.pm_words.specs.Words.{bytes_of}
use Rattle.pm_opcode.specs.declared.instr.Instr.{Instr}
use Rattle.pm_opcode.specs.declared.instr.Decode.{Decode}
use Rattle.pm_opcode.specs.Reading.{reading}
use Rattle.pm_machine.specs.State.{State}

-- The size in bytes of what was decoded: the size of the instruction, or 1 for a byte that begins no instruction.
abbrev pub size_of : Result Instr Decode → ℕ
size_of (Ok i) = i.len
size_of (Err fault) = 1

abbrev pub next_address : List ℕ → ℕ → ℕ
next_address bytes at = at + size_of (reading bytes at)

-- The addresses of at most `n` consecutive instructions, the first of which is at `at`. None is above 65,535.
unfoldable pub addresses_from : List ℕ → ℕ → ℕ → List ℕ
addresses_from bytes zero at = []
addresses_from bytes (suc n) at = at ∷ (if nat_lt (next_address bytes at) 65536
    then addresses_from bytes n (next_address bytes at) else [])

-- The addresses of at most `n` consecutive instructions, the first of which is at IPC.
abbrev pub addresses_ahead : State → ℕ → List ℕ
addresses_ahead s n = addresses_from (bytes_of s.memory) n s.registers.ipc
