-- Laws of the lines of a trace that are selected, in terms of words in memory and numbers of opcodes.
use Rattle.std.specs.Prelude.{◌≡◌, ◌≤◌, ℕ, zero, suc, ◌%◌, ◌==◌, true, List, [], ◌∷◌, ◌++◌, map, ⊤}
use Rattle.std.specs.List.{list_any}
use Rattle.pm_opcode.specs.Table.{mnemonic_of}
use Rattle.pm_words.specs.Words.{word_at}
use Rattle.pm_machine.specs.State.{State}
use Rattle.pm_trace.specs.Trace.{trace_line}
use Rattle.pm_trace.specs.Selected.{front, is_at_call, is_call_or_return, shown_line}
use Rattle.pm_jobs.specs.declared.selection.Code.{Code}
use Rattle.pm_jobs.specs.declared.selection.Code.TheVariants as codes
use Rattle.pm_jobs.specs.declared.selection.Selection.{Selection}

-- The next step is in the segment `segment`: SEG and JTAB are even, and the low byte of the word at SEG is the number
-- of the segment. For a requested procedure, the low byte of the word at JTAB is also its number. If no code is
-- requested, each step is in it.
pub record IsIn (segment : ℕ) (s : State) : Type 0 where
  pub even_seg : s.registers.seg % 2 ≡ 0
  pub even_jtab : s.registers.jtab % 2 ≡ 0
  pub number : word_at s.memory s.registers.seg % 256 ≡ segment

abbrev pub StandsThere : Code → State → Type 0
StandsThere codes.Anywhere s = ⊤
StandsThere (codes.Segment segment) s = IsIn segment s
StandsThere (codes.Procedure segment procedure) s =
    IsIn segment s × (word_at s.memory s.registers.jtab % 256 ≡ procedure)

-- The line of the next step is selected: at least as many steps as `--from` states were executed, the step is in the
-- requested code, and with `--calls` the step is a call or a return.
pub record IsAskedFor (wanted : Selection) (s : State) : Type 0 where
  pub late : wanted.from ≤ s.steps
  pub there : StandsThere wanted.code s
  pub call : wanted.calls ≡ true → is_at_call s ≡ true

-- If the line of the next step is selected, then the trace has its prefix, the line and a line feed.
abbrev pub AskedLinesAreShown : Type 0
AskedLinesAreShown = (wanted : Selection) (s : State) → IsAskedFor wanted s
    → shown_line wanted s ≡ front wanted s ++ trace_line s ++ 10 ∷ []

-- If the line of the next step is not selected, then the trace has nothing for the step.
abbrev pub OtherLinesAreNot : Type 0
OtherLinesAreNot = (wanted : Selection) (s : State) → (IsAskedFor wanted s → ⊥) → shown_line wanted s ≡ []

-- Returns the numbers less than the argument, in ascending order.
abbrev pub bytes_below : ℕ → List ℕ
bytes_below zero = []
bytes_below (suc n) = bytes_below n ++ n ∷ []

-- The opcodes of RNP, CIP, RBP, CBP, CXP, CLP and CGP.
abbrev pub call_numbers : List ℕ
call_numbers = 173 ∷ 174 ∷ 193 ∷ 194 ∷ 205 ∷ 206 ∷ 207 ∷ []

-- Of the 256 opcodes, exactly those in `call_numbers` are calls or returns.
abbrev pub CallsByNumber : Type 0
CallsByNumber = map (λ b. is_call_or_return (mnemonic_of b)) (bytes_below 256)
    ≡ map (λ b. list_any (λ n. n == b) call_numbers) (bytes_below 256)
