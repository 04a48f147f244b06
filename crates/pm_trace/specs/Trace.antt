-- The lines of a trace.
use Rattle.std.specs.Prelude.{ℕ, ◌==◌, List, [], ◌∷◌, ◌++◌, codes, Option, None, Some, if◌then◌else◌}
use Rattle.pm_words.specs.Words.{word_at}
use Rattle.pm_machine.specs.State.{State}
use Rattle.pm_code.specs.Shown.{padded}
use Rattle.pm_disasm.specs.Text.{line_text}
use Rattle.pm_words.specs.declared.layout.TheConstants.{STACK_END}

-- The word at `sp`, the top of the stack, or `None` if `sp` is 65,504.
unfoldable pub top_word : List ℕ → ℕ → Option ℕ
top_word words sp = if sp == STACK_END then None else Some (word_at words sp)

abbrev pub top_text : Option ℕ → List ℕ
top_text None = codes "-----"
top_text (Some word) = padded 5 word

-- The texts joined, with a space between two of them.
abbrev pub spaced : List (List ℕ) → List ℕ
spaced [] = []
spaced (part ∷ []) = part
spaced (part ∷ next ∷ parts) = part ++ 32 ∷ spaced (next ∷ parts)

-- The line of a trace for the next step of the state `s`. It has the number of steps before, five registers, the word
-- at the top of the stack, and the instruction at IPC.
unfoldable pub trace_line : State → List ℕ
trace_line s = spaced (
    padded 8 s.steps
    ∷ padded 5 s.registers.ipc
    ∷ padded 5 s.registers.sp
    ∷ padded 5 s.registers.mp
    ∷ padded 5 s.registers.base
    ∷ padded 5 s.registers.np
    ∷ top_text (top_word s.memory s.registers.sp)
    ∷ line_text s.memory s.registers.ipc
    ∷ [])
