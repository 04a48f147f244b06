-- Positions in the code. A position consists of the number of a segment, the number of a procedure, and an offset from
-- the entry address of the procedure.
use Rattle.std.specs.Prelude.{ℕ, ◌%◌, ◌&&◌, Option, Some, None, List, if◌then◌else◌}
use Rattle.pm_words.specs.Words.{word_at}
use Rattle.pm_words.specs.Stack.{is_even, minus}
use Rattle.pm_calls.specs.Tables.{self_relative}
use Rattle.pm_machine.specs.State.{State}
use Rattle.pm_machine.specs.declared.code_place.CodePlace.{CodePlace}

-- The position with the numbers `segment` and `procedure`, and the offset `offset`.
abbrev pub code_place : ℕ → ℕ → ℕ → CodePlace
code_place segment procedure offset = record { segment = segment; procedure = procedure; offset = offset }

-- The position in the code that the values `seg`, `jtab` and `ipc` of SEG, JTAB and IPC describe. It has the low bytes
-- of the words at `seg` and `jtab`, and `ipc` less the entry address of the procedure. `None` if `seg` or `jtab` is
-- odd.
unfoldable pub place_at : List ℕ → ℕ → ℕ → ℕ → Option CodePlace
place_at m seg jtab ipc =
    if is_even seg && is_even jtab then Some (code_place
    (word_at m seg % 256)
    (word_at m jtab % 256)
    (minus ipc (self_relative m (minus jtab 2))))
    else None

-- The position in the code at which a machine with the state `s` executes.
abbrev pub place_in_code : State → Option CodePlace
place_in_code s = place_at s.memory s.registers.seg s.registers.jtab s.registers.ipc
