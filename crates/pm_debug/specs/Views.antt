-- What the debugger shows of a machine, in addition to its registers and the line of a trace.
use Rattle.std.specs.Prelude.{◌≡◌, ℕ, zero, suc, ◌+◌, ◌-◌, ◌*◌, ◌/◌, ◌%◌, ◌==◌, ◌||◌, min, ⊤}
use Rattle.std.specs.Prelude.{List, [], ◌∷◌, length, drop, Option, Some, None, Result, Ok, Err, if◌then◌else◌}
use Rattle.pm_words.specs.Words.{bytes_at, word_at, words_at}
use Rattle.pm_words.specs.Stack.{◌>>=◌, is_even, load}
use Rattle.pm_calls.specs.Links.{link}
use Rattle.pm_machine.specs.State.{State}
use Rattle.pm_words.specs.declared.error.ExecError.{ExecError}
use Rattle.pm_debug.specs.declared.refusal.DebugRefusal.{DebugRefusal}
use Rattle.pm_debug.specs.declared.refusal.DebugRefusal.TheVariants.{Full, NotSet, OddAddress, NoMemory, TooDeep}
use Rattle.pm_debug.specs.declared.refusal.DebugRefusal.TheVariants.{NothingLeft}
use Rattle.pm_words.specs.declared.layout.TheConstants.{STACK_END, SYSTEM_FRAME}

-- At most `n` words of the stack, from SP up. All of them are below 65,504.
unfoldable pub stack_words : State → ℕ → List ℕ
stack_words s n = words_at s.memory s.registers.sp (min n ((STACK_END - s.registers.sp) / 2))

-- At most `n` words from the address `a` on, none of them above 65,534. `None` if `a` is odd.
unfoldable pub words_from : State → ℕ → ℕ → Option (List ℕ)
words_from s a n = if is_even a then Some (words_at s.memory a (min n ((65536 - a) / 2))) else None

-- At most `n` bytes from the address `a` on, none of them above 65,535.
abbrev pub bytes_from : State → ℕ → ℕ → List ℕ
bytes_from s a n = bytes_at s.memory a n

-- The last `n` bytes of the console output, or the whole output if it is shorter.
unfoldable pub console_end : State → ℕ → List ℕ
console_end s n = drop (length s.devices.console - n) s.devices.console

abbrev pub before_frames : ℕ → Option (List ℕ) → Option (List ℕ)
before_frames a (Some frames) = Some (a ∷ frames)
before_frames a None = None

-- The addresses of frames, the first of which is `a`. The number before `a` is the maximum number of frames. The word
-- at offset `distance` of a frame is the address of the next frame. The system's frame, 65,492, is the last. The result
-- is `None` if the next frame after a frame at an odd address is needed.
unfoldable pub chain : List ℕ → ℕ → ℕ → ℕ → Option (List ℕ)
chain m distance zero a = Some []
chain m distance (suc n) a =
    if n == 0 || a == SYSTEM_FRAME then Some (a ∷ [])
    else if is_even a then before_frames a (chain m distance n (word_at m ((a + distance) % 65536)))
    else None

-- The addresses of at most `limit` frames along the static links, from MP on. The static link MSSTAT is the first word
-- of a frame.
abbrev pub static_chain : State → ℕ → Option (List ℕ)
static_chain s limit = chain s.memory 0 limit s.registers.mp

-- The addresses of at most `limit` frames along the dynamic links, from MP on. The dynamic link MSDYN is the second
-- word of a frame.
abbrev pub dynamic_chain : State → ℕ → Option (List ℕ)
dynamic_chain s limit = chain s.memory 2 limit s.registers.mp

-- Variable number `b` of the procedure that is `depth` static links up.
unfoldable pub local : State → ℕ → ℕ → Result ℕ ExecError
local s depth b = link s.memory s.registers.mp depth >>= λ f. load s.memory ((f + 10 + 2 * b) % 65536)

-- States the answer of a call that shows a list: the list, `OddAddress` if the list does not exist, or `NoMemory`.
abbrev pub ShowsChain : {Z A : Type 0} → (Z → A) → Result Z DebugRefusal → Option A → Type 0
ShowsChain view (Ok frames) chain = chain ≡ Some (view frames)
ShowsChain view (Err OddAddress) chain = chain ≡ None
ShowsChain view (Err NoMemory) chain = ⊤
ShowsChain view (Err Full) chain = ⊥
ShowsChain view (Err NotSet) chain = ⊥
ShowsChain view (Err TooDeep) chain = ⊥
ShowsChain view (Err NothingLeft) chain = ⊥
