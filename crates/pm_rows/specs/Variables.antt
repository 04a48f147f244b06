-- The rules of the instructions on variables of frames. Variable b of the frame at address f is at f + 10 + 2b, so
-- variable 1 is the word after the control words of the frame. A line such as `.., a, b -> .., c` shows the stack
-- before and after the instruction, with the top at the right.
use Rattle.std.specs.Prelude.{ℕ, ◌≡◌, ◌+◌, ◌*◌, ◌%◌, ◌<◌, ◌≤◌, false, length, List, Result, Ok, Err, ⊤}
use Rattle.pm_words.specs.declared.error.ExecError.{ExecError}
use Rattle.pm_words.specs.Stack.{◌>>=◌, load, pop, push, store}
use Rattle.pm_words.specs.Top.{Ends}
use Rattle.pm_families.specs.declared.families.Scope.{Scope}
use Rattle.pm_families.specs.declared.families.Scope.TheVariants.{Global, Local, Intermediate}
use Rattle.pm_families.specs.declared.families.Variable.{Variable}
use Rattle.pm_families.specs.declared.families.Variable.TheVariants.{Address, Load, Store}
use Rattle.pm_calls.specs.declared.registers.Registers.{Registers}
use Rattle.pm_words.specs.Words.{Contents}
use Rattle.pm_words.specs.declared.layout.TheConstants.{HIGHEST_WORD}
use Rattle.pm_calls.specs.Kept.{BeginsWith}
use Rattle.pm_calls.specs.Links.{link}
use Rattle.pm_calls.specs.Places.{Standing}

-- The address of the frame that a scope selects: the frame at BASE, the frame at MP, or the frame `n` static links up
-- from MP.
abbrev pub frame_of : Scope → List ℕ → Registers → Result ℕ ExecError
frame_of Global m r = Ok r.base
frame_of Local m r = Ok r.mp
frame_of (Intermediate n) m r = link m r.mp n

-- The address of variable `b` of the frame that `scope` selects, modulo 65,536.
abbrev pub variable_at : Scope → ℕ → List ℕ → Registers → Result ℕ ExecError
variable_at scope b m r = frame_of scope m r >>= λ f. Ok ((f + 10 + 2 * b) % 65536)

-- LAO, LLA and LDA. .. -> .., address: pushes the address of variable `b`. The result of each rule is the memory and
-- SP.
unfoldable pub variable_address_row : Scope → ℕ → List ℕ → Registers → Result (List ℕ × ℕ) ExecError
variable_address_row scope b m r = do
  x ← variable_at scope b m r
  push m r.sp r.np x

-- LDO, SLDO, LDL, SLDL and LOD. .. -> .., w: pushes the word in variable `b`.
unfoldable pub load_row : Scope → ℕ → List ℕ → Registers → Result (List ℕ × ℕ) ExecError
load_row scope b m r = do
  x ← variable_at scope b m r
  w ← load m x
  push m r.sp r.np w

-- SRO, STL and STR. .., v -> ..: pops the word `v` and stores it in variable `b`.
unfoldable pub store_row : Scope → ℕ → List ℕ → Registers → Result (List ℕ × ℕ) ExecError
store_row scope b m r = do
  v ← pop m r.sp
  x ← variable_at scope b m r
  n ← store m x v.word
  Ok (n, v.above)

unfoldable pub variable_row : Variable → List ℕ → Registers → Result (List ℕ × ℕ) ExecError
variable_row (Address scope b) m r = variable_address_row scope b m r
variable_row (Load scope b) m r = load_row scope b m r
variable_row (Store scope b) m r = store_row scope b m r

-- States that a call follows the rule `row`. If the call succeeds, the words of memory and the returned SP are those of
-- `row`, and NP is unchanged. If it fails, its error is the error of `row`, and the words are unchanged. In both cases
-- the call may cache static links, and so change which words are watched.
abbrev pub GivesTop : Result Ends ExecError → Ends → List ℕ → List ℕ → Result (List ℕ × ℕ) ExecError → Type 0
GivesTop (Ok top) from before after row = (row ≡ Ok (after, top.sp)) × (top.np ≡ from.np)
GivesTop (Err e) from before after row = (row ≡ Err e) × (after ≡ before)

-- The scope of the variable that an operation uses.
abbrev pub scope_of : Variable → Scope
scope_of (Address scope b) = scope
scope_of (Load scope b) = scope
scope_of (Store scope b) = scope

-- The number of the variable that an operation uses.
abbrev pub number_of : Variable → ℕ
number_of (Address scope b) = b
number_of (Load scope b) = b
number_of (Store scope b) = b

-- States that an operation on a variable of the frame at `frame` cannot fail. The stack has space for the word to push,
-- or has a word to pop. If a word is loaded or stored, `frame` is even.
abbrev pub IsSound : Variable → ℕ → ℕ → ℕ → Type 0
IsSound (Address scope b) sp np frame = np + 2 ≤ sp
IsSound (Load scope b) sp np frame = (np + 2 ≤ sp) × (frame % 2 ≡ 0)
IsSound (Store scope b) sp np frame = (sp ≤ HIGHEST_WORD) × (frame % 2 ≡ 0)

-- States that the frame which a scope selects is found with cached static links only.
abbrev pub IsNear : Scope → Contents → Standing → ℕ → Type 0
IsNear Global memory frames mp = ⊤
IsNear Local memory frames mp = ⊤
IsNear (Intermediate n) memory frames mp =
    (memory.touched ≡ false) × BeginsWith frames.bases mp × (n < length frames.bases)
