-- What a statement does, as its text states, and the law that the machine does it. A `Part` is an operation of a
-- statement with its item (its instruction in the code). A `Tree` is an operation with the trees of its operands.
use Rattle.std.specs.Prelude.{◌≡◌, ℕ, zero, suc, ◌+◌, ◌-◌, ◌*◌, ◌%◌, ◌<◌, ◌≤◌, ◌==◌, ◌&&◌, Bool, false, not, nat_le}
use Rattle.std.specs.Prelude.{nat_lt, true, List, [], ◌∷◌, length, Result, Ok, Err, if◌then◌else◌, int_le}
use Rattle.pm_words.specs.declared.error.ExecError.{ExecError}
use Rattle.pm_words.specs.declared.error.ExecError.TheVariants.{InvalidIndex, InvalidMemory, NoSegment}
use Rattle.pm_words.specs.Words.{byte_at, word_at, with_word}
use Rattle.pm_words.specs.Stack.{IsStack, is_even, minus}
use Rattle.pm_words.specs.Signed.{signed, truth}
use Rattle.pm_families.specs.declared.families.Arithmetic.{Arithmetic}
use Rattle.pm_families.specs.declared.families.Arithmetic.TheVariants as arithmetic
use Rattle.pm_families.specs.declared.families.Scope.{Scope}
use Rattle.pm_families.specs.declared.families.Scope.TheVariants.{Global, Local, Intermediate}
use Rattle.pm_families.specs.declared.families.Variable.{Variable}
use Rattle.pm_families.specs.declared.families.Variable.TheVariants as variable
use Rattle.pm_families.specs.declared.families.Pointer.{Pointer}
use Rattle.pm_families.specs.declared.families.Pointer.TheVariants as pointer
use Rattle.pm_families.specs.declared.families.Condition.{Condition}
use Rattle.pm_families.specs.declared.families.Condition.TheVariants.{Always, IfFalse, IfDifferent, IfEqual}
use Rattle.pm_families.specs.declared.families.Jump.{Jump}
use Rattle.pm_families.specs.declared.families.Jump.TheVariants as jump
use Rattle.pm_opcode.specs.declared.operation.Operation.{Operation}
use Rattle.pm_opcode.specs.declared.operation.Operation.TheVariants as operation
use Rattle.pm_opcode.specs.Operations.{operation_of}
use Rattle.pm_code.specs.Item.{IsItem, Item, Target, item_bytes, size}
use Rattle.pm_code.specs.Item.Item.{Plain, Jump as JumpItem}
use Rattle.pm_code.specs.Item.Target.{To, Through}
use Rattle.pm_rows.specs.Integers.{unary, binary, relation}
use Rattle.pm_machine.specs.declared.state.Status.TheVariants as status
use Rattle.pm_machine.specs.State.{State}
use Rattle.pm_machine.specs.Runs.{after_steps}
use Rattle.pm_phrases.specs.declared.around.Missing.{Missing}
use Rattle.pm_opcode.specs.Standing.{bare}
use Rattle.pm_trees.specs.Parts.{Part}
use Rattle.pm_trees.specs.Trees.{Forest, parts_of}
use Rattle.pm_trees.specs.Trees.Forest.{Bare, Tree}

-- ---- what a text states

-- What a text states about a value: the value (`Gives`), the error of the machine instead of the value (`Fails`), or
-- nothing (`Unsaid`).
pub data Said (A : Type 0) : Type 0 where
  Gives : A → Said A
  Fails : ExecError → Said A
  Unsaid : Said A

-- Returns the result of one computation after another. An error of the first computation, or `Unsaid`, is the result.
abbrev pub then_said : {A B : Type 0} → Said A → (A → Said B) → Said B
then_said (Gives x) f = f x
then_said (Fails e) f = Fails e
then_said Unsaid f = Unsaid

abbrev pub as_said : {A : Type 0} → Result A ExecError → Said A
as_said (Ok x) = Gives x
as_said (Err e) = Fails e

-- Returns `x` for an operation without operands. The result is `Unsaid` if operands are given.
abbrev pub on_none : {A : Type 0} → Said A → List ℕ → Said A
on_none x [] = x
on_none x (a ∷ ws) = Unsaid

abbrev pub on_one : {A : Type 0} → (ℕ → Said A) → List ℕ → Said A
on_one f [] = Unsaid
on_one f (a ∷ []) = f a
on_one f (b ∷ a ∷ ws) = Unsaid

-- Returns the result of an operation on two operands `a` and `b`. The last operand is the first in the list. The result
-- is `Unsaid` if the list does not have two operands.
abbrev pub on_two : {A : Type 0} → (ℕ → ℕ → Said A) → List ℕ → Said A
on_two f [] = Unsaid
on_two f (b ∷ []) = Unsaid
on_two f (b ∷ a ∷ []) = f a b
on_two f (c ∷ b ∷ a ∷ ws) = Unsaid

abbrev pub on_three : {A : Type 0} → (ℕ → ℕ → ℕ → Said A) → List ℕ → Said A
on_three f [] = Unsaid
on_three f (c ∷ []) = Unsaid
on_three f (c ∷ b ∷ []) = Unsaid
on_three f (c ∷ b ∷ a ∷ []) = f a b c
on_three f (d ∷ c ∷ b ∷ a ∷ ws) = Unsaid

-- ---- variables of a state

-- Returns whether the address `a` is on the free stack, which is from NP up to but not including SP. Operands are
-- pushed there, so nothing is stated about a statement that reads a word there.
abbrev pub is_free : State → ℕ → Bool
is_free s a = nat_le s.registers.np a && nat_lt a s.registers.sp

-- Returns the word at the address `a`: `InvalidMemory` if `a` is odd, and `Unsaid` if `a` is on the free stack.
unfoldable pub word_there : State → ℕ → Said ℕ
word_there s a = if is_even a then (if is_free s a then Unsaid else Gives (word_at s.memory a)) else Fails InvalidMemory

-- Returns the frame that is reached from the frame `f` by following `n` static links.
unfoldable pub frame_up : State → ℕ → ℕ → Said ℕ
frame_up s f zero = Gives f
frame_up s f (suc n) = then_said (frame_up s f n) (word_there s)

unfoldable pub frame_there : State → Scope → Said ℕ
frame_there s Global = Gives s.registers.base
frame_there s Local = Gives s.registers.mp
frame_there s (Intermediate n) = if nat_lt 127 n then Fails NoSegment else frame_up s s.registers.mp n

-- Returns the address of the variable `b` of a scope.
abbrev pub variable_there : State → Scope → ℕ → Said ℕ
variable_there s scope b = then_said (frame_there s scope) (λ f. Gives ((f + 10 + 2 * b) % 65536))

-- ---- the value of an operation on its operands

abbrev pub check_said : ℕ → ℕ → ℕ → Said ℕ
check_said a b c = if int_le (signed b) (signed a) && int_le (signed a) (signed c) then Gives a else Fails InvalidIndex

abbrev pub arithmetic_said : Arithmetic → List ℕ → Said ℕ
arithmetic_said (arithmetic.Constant w) ws = on_none (Gives w) ws
arithmetic_said arithmetic.Nil ws = on_none (Gives 0) ws
arithmetic_said (arithmetic.OnOne o) ws = on_one (λ a. Gives (unary o a)) ws
arithmetic_said (arithmetic.OnTwo o) ws = on_two (λ a b. as_said (binary o a b)) ws
arithmetic_said (arithmetic.Compare o) ws = on_two (λ a b. Gives (truth (relation o a b))) ws
arithmetic_said arithmetic.Check ws = on_three check_said ws

abbrev pub variable_said : State → Variable → List ℕ → Said ℕ
variable_said s (variable.Address scope b) ws = on_none (variable_there s scope b) ws
variable_said s (variable.Load scope b) ws = on_none (then_said (variable_there s scope b) (word_there s)) ws
variable_said s (variable.Store scope b) ws = Unsaid

-- Returns the value of an operation on a pointer: `x.k` as an address or as a value, or the address of an item of an
-- array.
abbrev pub pointer_said : State → Pointer → List ℕ → Said ℕ
pointer_said s (pointer.Increment k) ws = on_one (λ a. Gives ((a + 2 * k) % 65536)) ws
pointer_said s (pointer.Load k) ws = on_one (λ a. word_there s ((a + 2 * k) % 65536)) ws
pointer_said s (pointer.Index b) ws = on_two (λ a i. Gives ((a + 2 * b * i) % 65536)) ws
pointer_said s other ws = Unsaid

abbrev pub value_said : State → Operation → List ℕ → Said ℕ
value_said s (operation.Arithmetic o) ws = arithmetic_said o ws
value_said s (operation.Variable o) ws = variable_said s o ws
value_said s (operation.Pointer o) ws = pointer_said s o ws
value_said s other ws = Unsaid

-- Returns the distance of the target of a jump from the next instruction, as a word. For entry `k` of the jump table,
-- returns the distance of this entry from JTAB.
abbrev pub distance : ℕ → Target ℕ → ℕ
distance next (To place) = place - next
distance next (Through k) = 65526 - 2 * k

abbrev pub item_operation : ℕ → Item ℕ → Operation
item_operation at (Plain i named) = operation_of i
item_operation at (JumpItem op target) = operation_of (record (bare op) { a = distance (at + 2) target })
item_operation at other = operation.Unimplemented

abbrev pub operation_at : Part → Operation
operation_at p = item_operation p.place.offset p.item

-- Returns the values of the trees, the value of the last tree first. Before each operation its operands are executed,
-- from left to right.
unfoldable pub values_said : State → Forest → Said (List ℕ)
values_said s Bare = Gives []
values_said s (Tree p missing operands before) =
    then_said (values_said s before) (λ others.
    then_said (values_said s operands) (λ ws.
    then_said (value_said s (operation_at p) ws) (λ w. Gives (w ∷ others))))

-- ---- statements

-- The effect of a statement: it writes a word at an address, jumps to an address, or continues with the next statement.
pub data Done : Type 0 where
  Writes : ℕ → ℕ → Done
  Jumps : ℕ → Done
  GoesOn : Done

abbrev pub written_said : ℕ → ℕ → Said Done
written_said a w = if is_even a then Gives (Writes a w) else Fails InvalidMemory

-- States the address to which a jump leads, in a segment that begins at `origin`. The target is an offset of the
-- segment, or the address that entry `k` of the jump table states. The entry states how far the address is below the
-- entry.
abbrev pub leads_said : State → ℕ → Target ℕ → Said Done
leads_said s origin (To place) = Gives (Jumps ((origin + place) % 65536))
leads_said s origin (Through k) =
    then_said (word_there s ((s.registers.jtab + (65526 - 2 * k)) % 65536))
    (λ w. Gives (Jumps (minus ((s.registers.jtab + (65526 - 2 * k)) % 65536) w)))

abbrev pub jump_said : Condition → Said Done → List ℕ → Said Done
jump_said Always there ws = on_none there ws
jump_said IfFalse there ws = on_one (λ a. if a % 2 == 0 then there else Gives GoesOn) ws
jump_said IfDifferent there ws = on_two (λ a b. if not (a == b) then there else Gives GoesOn) ws
jump_said IfEqual there ws = on_two (λ a b. if a == b then there else Gives GoesOn) ws

abbrev pub store_said : State → Variable → List ℕ → Said Done
store_said s (variable.Store scope b) ws = on_one (λ w. then_said (variable_there s scope b) (λ a. written_said a w)) ws
store_said s other ws = Unsaid

abbrev pub store_through_said : Pointer → List ℕ → Said Done
store_through_said pointer.Store ws = on_two written_said ws
store_through_said other ws = Unsaid

abbrev pub jump_by : Jump → Said Done → List ℕ → Said Done
jump_by (jump.Short condition offset) there ws = jump_said condition there ws
jump_by (jump.Case low high table) there ws = Unsaid

abbrev pub jump_item_said : State → ℕ → Jump → Item ℕ → List ℕ → Said Done
jump_item_said s origin o (JumpItem op target) ws = jump_by o (leads_said s origin target) ws
jump_item_said s origin o other ws = Unsaid

-- States the effect of the last operation of a statement on the values `ws` of its operands.
abbrev pub done_said : State → ℕ → Operation → Item ℕ → List ℕ → Said Done
done_said s origin (operation.Variable o) item ws = store_said s o ws
done_said s origin (operation.Pointer o) item ws = store_through_said o ws
done_said s origin (operation.Jump o) item ws = jump_item_said s origin o item ws
done_said s origin other item ws = Unsaid

-- States the effect of a statement whose last operation is `p` and whose operands are the trees `operands`.
abbrev pub statement_said : State → ℕ → Part → Forest → Said Done
statement_said s origin p operands =
    then_said (values_said s operands) (λ ws. done_said s origin (operation_at p) p.item ws)

-- ---- the machine

-- The memory `t` differs from the memory of the state `s` only on the free stack.
pub record IsLike (s : State) (t : List ℕ) : Type 0 where
  pub size : length t ≡ 32768
  pub words : (a : ℕ) → is_even a ≡ true → is_free s a ≡ false → word_at t a ≡ word_at s.memory a

-- The bytes are in the memory of the state `s` from the address `a` on, and none of them is on the free stack.
abbrev pub StandThere : State → ℕ → List ℕ → Type 0
StandThere s a [] = Unit {0}
StandThere s a (b ∷ bs) = (a < 65536) × (is_free s a ≡ false) × (byte_at s.memory a ≡ b) × StandThere s (a + 1) bs

-- The item of `p` is in a segment that begins at `origin`. It is valid at its offset, and its bytes are in memory at
-- this offset.
pub record Stands (s : State) (origin : ℕ) (p : Part) : Type 0 where
  pub item : IsItem p.place.offset p.item
  pub bytes : StandThere s (origin + p.place.offset) (item_bytes p.place.offset p.item)

-- The items of the list follow each other in memory without gaps from the offset `at` on.
abbrev pub StandFrom : State → ℕ → ℕ → List Part → Type 0
StandFrom s origin at [] = Unit {0}
StandFrom s origin at (p ∷ ps) =
    (p.place.offset ≡ at) × Stands s origin p × StandFrom s origin (at + size at p.item) ps

abbrev pub behind_parts : ℕ → List Part → ℕ
behind_parts at [] = at
behind_parts at (p ∷ ps) = behind_parts (at + size at p.item) ps

-- The machine runs, its memory and its stack are valid, and IPC is at the offset `at` of a segment that begins at
-- `origin`.
pub record StandsAt (s : State) (origin at : ℕ) : Type 0 where
  pub segment : origin % 2 ≡ 0
  pub running : s.status ≡ status.Running
  pub size : length s.memory ≡ 32768
  pub stack : IsStack s.registers.sp s.registers.np
  pub ipc : s.registers.ipc ≡ (origin + at) % 65536

abbrev pub memory_behind : Done → List ℕ → List ℕ
memory_behind (Writes a w) m = with_word m a w
memory_behind (Jumps ipc) m = m
memory_behind GoesOn m = m

abbrev pub ipc_behind : Done → ℕ → ℕ
ipc_behind (Writes a w) next = next
ipc_behind (Jumps ipc) next = ipc
ipc_behind GoesOn next = next

-- The state `t` is the state after a statement with the effect `d`. Nothing else has changed except the free stack and
-- the count of steps.
pub record Does (s : State) (next : ℕ) (d : Done) (t : State) : Type 0 where
  pub memory : IsLike (record s { memory = memory_behind d s.memory }) t.memory
  pub registers : t.registers ≡ record s.registers { ipc = ipc_behind d next }
  pub others : t ≡ record s { memory = t.memory; registers = t.registers; steps = t.steps }

-- The machine has halted with the error `e`, and only words on the free stack have been written.
pub record Halts (s : State) (e : ExecError) (t : State) : Type 0 where
  pub status : t.status ≡ status.Halted e
  pub memory : IsLike s t.memory

abbrev pub DoesAsSaid : State → ℕ → Said Done → State → Type 0
DoesAsSaid s next (Gives d) t = Does s next d t
DoesAsSaid s next (Fails e) t = Halts s e t
DoesAsSaid s next Unsaid t = Unit {0}

-- If a machine executes all instructions of a statement, then it has done what the statement states. The premises are:
-- the machine `s` runs, with IPC at the beginning of the statement; the bytes of the statement are in memory outside
-- the free stack; the free stack has space for a word for each instruction of the statement except the last.
abbrev pub StatementsDoWhatTheySay : Type 0
StatementsDoWhatTheySay =
    (s : State) (origin at : ℕ) (p : Part) (missing : Missing) (operands : Forest) →
    StandsAt s origin at → StandFrom s origin at (parts_of (Tree p missing operands Bare)) →
    s.registers.np + 2 * length (parts_of operands) ≤ s.registers.sp →
    DoesAsSaid s ((origin + behind_parts at (parts_of (Tree p missing operands Bare))) % 65536)
    (statement_said s origin p operands)
    (after_steps (length (parts_of (Tree p missing operands Bare))) s)
