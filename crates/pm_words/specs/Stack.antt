-- The stack operations that the rules of instructions use. The stack grows down: SP is the address of the word on top
-- of the stack. A push writes the word below this address. The stack ends at 65,504, and a pop never reads a word at
-- this address or above.
use Rattle.std.specs.Prelude.{ℕ, ◌+◌, ◌-◌, ◌%◌, ◌≤◌, ◌≡◌, ◌==◌, Bool, List, Result}
use Rattle.std.specs.Prelude.{Ok, Err, if◌then◌else◌, ◌&&◌, ◌*◌, nat_le, nat_lt}
pub use Rattle.pm_bytes.specs.Steps.{◌>>=◌}
use Rattle.pm_words.specs.declared.error.ExecError.{ExecError}
use Rattle.pm_words.specs.declared.error.ExecError.TheVariants.{InvalidMemory, StackOverflow}
use Rattle.pm_words.specs.Words.{Contents, word_at, with_word}
use Rattle.pm_words.specs.Watch.{WatchStays}
use Rattle.pm_words.specs.declared.stack.Popped.{Popped}
use Rattle.pm_words.specs.declared.layout.TheConstants.{HIGHEST_WORD, STACK_END}

-- Succeeds if `holds` is true. Otherwise fails with the error `e`.
abbrev pub demand : {E : Type 0} → Bool → E → Result (Unit {0}) E
demand holds e = if holds then Ok tt else Err e

abbrev pub is_even : ℕ → Bool
is_even a = a % 2 == 0

-- Whether the `n` bytes from address `a` on are in memory.
abbrev pub lies_in_memory : ℕ → ℕ → Bool
lies_in_memory a n = nat_le (a + n) 65536

-- Whether `a` is even and the `n` words from address `a` on are in memory.
abbrev pub words_lie_in_memory : ℕ → ℕ → Bool
words_lie_in_memory a n = is_even a && lies_in_memory a (2 * n)

-- The difference `a - b` modulo 65,536.
abbrev pub minus : ℕ → ℕ → ℕ
minus a b = (a + (65536 - b)) % 65536

-- The word of the memory `m` at address `a`, or the error `InvalidMemory` if `a` is odd.
abbrev pub load : List ℕ → ℕ → Result ℕ ExecError
load m a = if is_even a then Ok (word_at m a) else Err InvalidMemory

-- The memory `m` after the word `w` is written at address `a`, or the error `InvalidMemory` if `a` is odd.
abbrev pub store : List ℕ → ℕ → ℕ → Result (List ℕ) ExecError
store m a w = if is_even a then Ok (with_word m a w) else Err InvalidMemory

-- The word on top of the stack (at address `sp`), and SP after the pop. The error is `InvalidMemory` if `sp` is odd or
-- SP after the pop would be above 65,504.
abbrev pub pop : List ℕ → ℕ → Result Popped ExecError
pop m sp =
    if nat_lt HIGHEST_WORD sp then Err InvalidMemory else (load m sp >>= λ w. Ok (record { word = w; above = sp + 2 }))

-- The memory after the word `w` is pushed, and the new SP. The error is `StackOverflow` if the new SP would be below
-- `np`, or else `InvalidMemory` if `sp` is odd.
abbrev pub push : List ℕ → ℕ → ℕ → ℕ → Result (List ℕ × ℕ) ExecError
push m sp np w = if nat_lt sp (np + 2) then Err StackOverflow else (store m (sp - 2) w >>= λ n. Ok (n, sp - 2))

-- The type of the rule of an instruction that uses only the stack: it maps memory, SP and NP to memory and SP. The
-- lines of a rule are in the order in which errors are checked: first the pops, then the checks of the rule itself,
-- then the push.
abbrev pub StackRow : Type 0
StackRow = List ℕ → ℕ → ℕ → Result (List ℕ × ℕ) ExecError

-- States that a call follows the rule `row` of an instruction. If the call succeeds, the new memory and the value that
-- it returns (SP, or the registers) are those of `row`, and `WatchStays` holds. If the call fails, its error is the
-- error of `row`, and memory is unchanged.
abbrev pub Changes : {A : Type 0} → Result A ExecError → Contents → Contents → Result (List ℕ × A) ExecError → Type 0
Changes (Ok x) old new row = (row ≡ Ok (new.words, x)) × WatchStays old new
Changes (Err e) old new row = (row ≡ Err e) × (new ≡ old)

-- States that a call writes memory as `done` defines. If the call succeeds, the new memory is the result of `done`, and
-- `WatchStays` holds. If the call fails, its error is the error of `done`, and memory is unchanged.
abbrev pub Writes : Result (Unit {0}) ExecError → Contents → Contents → Result (List ℕ) ExecError → Type 0
Writes (Ok x) old new done = (done ≡ Ok new.words) × WatchStays old new
Writes (Err e) old new done = (done ≡ Err e) × (new ≡ old)

-- States that a call changes `old` into `new` as `done` defines. If the call succeeds, `new` is the result of `done`.
-- If the call fails, its error is the error of `done`, and `new` equals `old`.
abbrev pub Leaves : {A B : Type 0} → Result A ExecError → B → B → Result B ExecError → Type 0
Leaves (Ok x) old new done = done ≡ Ok new
Leaves (Err e) old new done = (done ≡ Err e) × (new ≡ old)

-- States the invariant of SP and NP in every machine: SP and NP are even, and NP ≤ SP ≤ 65,504.
pub record IsStack (sp np : ℕ) : Type 0 where
  pub even_sp : sp % 2 ≡ 0
  pub even_np : np % 2 ≡ 0
  pub above : np ≤ sp
  pub below : sp ≤ STACK_END
