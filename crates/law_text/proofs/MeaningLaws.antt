-- Lemmas: statements do what their text states. A *rule* is the definition of what an instruction does.
use Rattle.std.proofs.Common.{◌≡◌, ◌≢◌, ◌<◌, ◌≤◌, inl, inr, ℕ, zero, suc, ◌+◌, ◌-◌, ◌*◌, ◌/◌, ◌%◌, ◌&&◌, ◌==◌, Bool, true, false, not, cond, drop, set}
use Rattle.std.proofs.Common.{append-nil, nat_lt, List, [], ◌∷◌, ◌++◌, length, get_or, Result, Ok, Err, refl, sym, ap, ◌∙◌, subst, arith, length-append}
use Rattle.std.specs.Prelude.{int_le, Option, Some, None}
use Rattle.std.proofs.lemmas.Bool.{cases_Bool}
use Rattle.std.proofs.lemmas.Bool.Decides.{nat_tests}
use Rattle.std.proofs.lemmas.List.{drop_more, length-set}
use Rattle.pm_words.specs.declared.error.ExecError.{ExecError}
use Rattle.pm_words.specs.declared.error.ExecError.TheVariants.{InvalidIndex}
use Rattle.pm_words.specs.declared.stack.Popped.{Popped}
use Rattle.pm_words.specs.Words.{byte_at, bytes_of, with_word, word_at}
use Rattle.pm_words.specs.Signed.{signed, truth}
use Rattle.pm_words.specs.Stack.{◌>>=◌, IsStack, demand, is_even, load, minus, pop, push, store}
use Rattle.pm_words.proofs.Laws.{byte_at-even, byte_at-odd, word_at-with_word, word_at-with_word_other}
use Rattle.pm_words.proofs.Pairs.{length-bytes_of}
use Rattle.pm_families.specs.declared.families.Arithmetic.{Arithmetic}
use Rattle.pm_families.specs.declared.families.Arithmetic.TheVariants as arithmetic
use Rattle.pm_families.specs.declared.families.Scope.{Scope}
use Rattle.pm_families.specs.declared.families.Scope.TheVariants.{Global, Local, Intermediate}
use Rattle.pm_families.specs.declared.families.Variable.{Variable}
use Rattle.pm_families.specs.declared.families.Variable.TheVariants as variable
use Rattle.pm_families.specs.declared.families.Pointer.{Pointer}
use Rattle.pm_families.specs.declared.families.Pointer.TheVariants as pointer
use Rattle.pm_opcode.specs.declared.instr.Instr.{Instr}
use Rattle.pm_opcode.specs.declared.operation.Operation.{Operation}
use Rattle.pm_opcode.specs.declared.operation.Operation.TheVariants as operation
use Rattle.pm_opcode.specs.Operations.{operation_of}
use Rattle.pm_calls.specs.declared.registers.Registers.{Registers}
use Rattle.pm_calls.specs.Links.{link, up}
use Rattle.pm_rows.specs.Arithmetic.{arithmetic_row, binary_row, check_row, constant_row, relation_row, unary_row}
use Rattle.pm_rows.specs.Integers.{unary, binary, relation}
use Rattle.pm_rows.specs.Pointers.{increment_row, index_row, indirect_row, pointer_row, store_indirect_row}
use Rattle.pm_rows.specs.Variables.{frame_of, load_row, store_row, variable_address_row, variable_at, variable_row}
use Rattle.pm_units.specs.Traps.{Fails as Failing, or_fails}
use Rattle.pm_machine.specs.declared.state.Status.TheVariants as status
use Rattle.pm_machine.specs.declared.state.Stop.TheVariants as stop
use Rattle.pm_machine.specs.State.{State}
use Rattle.pm_machine.specs.Rows.{fetched, on_stack, past_instruction, performed, read_as, row}
use Rattle.pm_machine.specs.Steps.{at_status, executed, settled, step_counted, stepped, stop_of}
use Rattle.pm_machine.specs.Runs.{after_steps}
use Rattle.pm_machine.proofs.RunLaws.{after_both}
use Rattle.pm_families.specs.declared.families.Condition.{Condition}
use Rattle.pm_families.specs.declared.families.Condition.TheVariants.{Always, IfFalse, IfDifferent, IfEqual}
use Rattle.pm_families.specs.declared.families.Jump.{Jump}
use Rattle.pm_families.specs.declared.families.Jump.TheVariants as jump
use Rattle.pm_families.specs.declared.families.Kind.{Kind}
use Rattle.pm_families.specs.declared.families.Relation.{Relation}
use Rattle.pm_families.specs.declared.families.Value.TheVariants as value
use Rattle.pm_families.specs.Kinds.{kind_of}
use Rattle.pm_opcode.specs.Operations.{comparison_of, filled_scope, variable_number, with_operands}
use Rattle.pm_opcode.specs.Table.{form_of, shape_of}
use Rattle.pm_opcode.specs.declared.operand_form.Form.{Form}
use Rattle.pm_opcode.specs.declared.operand_form.Form.TheVariants.{Sb}
use Rattle.pm_opcode.specs.Spelling.{in_range, is_odd, names_bytes, signed_byte, spelled_operands, spelling}
use Rattle.pm_opcode.specs.Standing.{clear, placed_at}
use Rattle.pm_opcode.specs.Reading.{reading}
use Rattle.pm_opcode.proofs.ReadAgain.{spelled_read}
use Rattle.pm_rows.specs.Jumps.{jump_row, jumped, short_row, target}
use Rattle.pm_machine.specs.Rows.{on_registers}
use Rattle.pm_code.specs.Item.{IsItem, IsNear, IsPlain, Item, Target, item_bytes, jump_byte, size}
use Rattle.pm_code.specs.Item.Item.{Plain, Jump as JumpItem, Case, OneByte}
use Rattle.pm_code.specs.Item.Target.{To, Through}
use Rattle.pm_opcode.specs.Standing.{bare}
use Rattle.pm_trees.specs.Parts.{Part}
use Rattle.pm_trees.specs.Trees.{Forest, parts_of}
use Rattle.pm_trees.specs.Trees.Forest.{Bare, Tree}
use Rattle.law_text.specs.Meaning.{DoesAsSaid, Done, Halts, StandFrom, StandThere, StatementsDoWhatTheySay, behind_parts, distance, done_said}
use Rattle.law_text.specs.Meaning.{ipc_behind, item_operation, jump_item_said, jump_said, leads_said, memory_behind, operation_at}
use Rattle.law_text.specs.Meaning.{store_said, store_through_said, values_said, written_said}
use Rattle.law_text.specs.Meaning.Done.{Writes, Jumps, GoesOn}
use Rattle.law_text.specs.Meaning.{Said, arithmetic_said, as_said, check_said, frame_there, frame_up, is_free, on_none, on_one, on_three, on_two, pointer_said}
use Rattle.law_text.specs.Meaning.{then_said, value_said, variable_said, variable_there, word_there, IsLike}
use Rattle.law_text.specs.Meaning.Said.{Gives, Fails, Unsaid}

-- ---- what a statement states and what a rule results in

abbrev Agrees : {A : Type 0} → Said A → Result A ExecError → Type 0
Agrees (Gives x) r = r ≡ Ok x
Agrees (Fails e) r = r ≡ Err e
Agrees Unsaid r = Unit {0}

agrees_then : {A B : Type 0} (x : Said A) (r : Result A ExecError) (f : A → Said B) (g : A → Result B ExecError)
    → Agrees x r → ((a : A) → x ≡ Gives a → Agrees (f a) (g a)) → Agrees (then_said x f) (r >>= g)
agrees_then (Gives a) r f g h k = rw h (k a refl)
agrees_then (Fails e) r f g h k = rw h refl
agrees_then Unsaid r f g h k = tt

agrees_as : {A : Type 0} (r : Result A ExecError) → Agrees (as_said r) r
agrees_as (Ok x) = refl
agrees_as (Err e) = refl

-- ---- the stack

abbrev OnStack : List ℕ → ℕ → List ℕ → Type 0
OnStack m sp [] = Unit {0}
OnStack m sp (w ∷ ws) = (word_at m sp ≡ w) × OnStack m (sp + 2) ws

-- If words are on the stack, then a first part of them is on the stack, and the others are above it.
parted : (m : List ℕ) (sp : ℕ) (ws vs : List ℕ) → OnStack m sp (ws ++ vs) → OnStack m sp ws × OnStack m (sp + 2 * length ws) vs
parted m sp [] vs h = let e : sp + 2 * length {A = ℕ} [] ≡ sp = omega arith in (tt, subst (λ a. OnStack m a vs) (sym e) h)
parted m sp (w ∷ ws) vs h =
    let more = parted m (sp + 2) ws vs h.1 in
    let e : sp + 2 + 2 * length ws ≡ sp + 2 * length (w ∷ ws) = omega arith in
    ((h.0, more.0), subst (λ a. OnStack m a vs) e more.1)

-- If a word is written below words on the stack, then these words are still on the stack.
beside : (m : List ℕ) (sp a w : ℕ) (vs : List ℕ) → a % 2 ≡ 0 → sp % 2 ≡ 0 → a < sp → OnStack m sp vs → OnStack (with_word m a w) sp vs
beside m sp a w [] even there below h = tt
beside m sp a w (v ∷ vs) even there below h =
    let apart : sp ≢ a = λ e. omega (arith, e, below) in
    (word_at-with_word_other m a sp w even there apart ∙ h.0, beside m (sp + 2) a w vs even (omega (arith, there)) (omega (arith, below)) h.1)

evenly : (a : ℕ) → a % 2 ≡ 0 → is_even a ≡ true
evenly a e = grind (arith, nat_tests)

even_of : (a : ℕ) → is_even a ≡ true → a % 2 ≡ 0
even_of a e = grind (arith, nat_tests)

abbrev taken : ℕ → ℕ → Popped
taken w above = record { word = w; above = above }

pops : (m : List ℕ) (sp w : ℕ) → sp % 2 ≡ 0 → sp ≤ 65502 → word_at m sp ≡ w → pop m sp ≡ Ok (taken w (sp + 2))
pops m sp w even low is =
    let first : nat_lt 65502 sp ≡ false = grind (arith, nat_tests) in
    rw (first, evenly sp even, is) refl

pushes : (m : List ℕ) (sp np w : ℕ) → sp % 2 ≡ 0 → np + 2 ≤ sp → push m sp np w ≡ Ok (with_word m (sp - 2) w, sp - 2)
pushes m sp np w even room =
    let first : nat_lt sp (np + 2) ≡ false = grind (arith, nat_tests) in
    let below : (sp - 2) % 2 ≡ 0 = omega (arith, even, room) in
    rw (first, evenly (sp - 2) below) refl

-- ---- rules

-- Returns the result that a rule must have that pushes the stated value.
abbrev put : List ℕ → ℕ → Said ℕ → Said (List ℕ × ℕ)
put m above said = then_said said (λ w. Gives (with_word m (above - 2) w, above - 2))

-- The operands `ws` of a rule are on the stack, from address `sp` up to `above`.
record Fits (m : List ℕ) (sp above : ℕ) (ws : List ℕ) : Type 0 where
  even : sp % 2 ≡ 0
  is : above ≡ sp + 2 * length ws
  low : above ≤ 65504
  there : OnStack m sp ws

-- If operands are on the stack, then popping a word returns the first operand.
first_pop : (m : List ℕ) (sp above w : ℕ) (ws : List ℕ) → Fits m sp above (w ∷ ws) → pop m sp ≡ Ok (taken w (sp + 2))
first_pop m sp above w ws f =
    let is = f.is in
    let low = f.low in
    pops m sp w f.even (omega (arith, is, low)) f.there.0

rest_fits : (m : List ℕ) (sp above w : ℕ) (ws : List ℕ) → Fits m sp above (w ∷ ws) → Fits m (sp + 2) above ws
rest_fits m sp above w ws f =
    let is = f.is in
    let even = f.even in
    record { even = omega (arith, even); is = omega (arith, is); low = f.low; there = f.there.1 }

none_left : (m : List ℕ) (sp above : ℕ) → Fits m sp above [] → above ≡ sp
none_left m sp above f = let is = f.is in omega (arith, is)

-- If a rule ends by pushing a value that agrees with the stated value, then its result agrees with the statement.
ends : (m : List ℕ) (sp np above : ℕ) → Fits m sp above [] → np + 2 ≤ above → (x : Said ℕ) (r : Result ℕ ExecError) → Agrees x r
    → Agrees (put m above x) (r >>= λ w. push m sp np w)
ends m sp np above f room x r h = agrees_then x r _ _ h (λ w e.
    let same = none_left m sp above f in
    rw same (pushes m sp np w f.even (rw (sym same) room)))

on_no_word : (m : List ℕ) (sp np above : ℕ) (ws : List ℕ) (x : Said ℕ) (r : Result ℕ ExecError) → Fits m sp above ws → np + 2 ≤ above → Agrees x r
    → Agrees (put m above (on_none x ws)) (r >>= λ w. push m sp np w)
on_no_word m sp np above [] x r f room h = ends m sp np above f room x r h
on_no_word m sp np above (w ∷ ws) x r f room h = tt

on_a_word : (m : List ℕ) (sp np above : ℕ) (ws : List ℕ) (x : ℕ → Said ℕ) (r : ℕ → Result ℕ ExecError) → Fits m sp above ws → np + 2 ≤ above
    → ((a : ℕ) → Agrees (x a) (r a))
    → Agrees (put m above (on_one x ws)) (pop m sp >>= λ a. r a.word >>= λ w. push m a.above np w)
on_a_word m sp np above [] x r f room h = tt
on_a_word m sp np above (a ∷ []) x r f room h =
    rw (first_pop m sp above a [] f) (ends m (sp + 2) np above (rest_fits m sp above a [] f) room (x a) (r a) (h a))
on_a_word m sp np above (b ∷ a ∷ ws) x r f room h = tt

on_two_words : (m : List ℕ) (sp np above : ℕ) (ws : List ℕ) (x : ℕ → ℕ → Said ℕ) (r : ℕ → ℕ → Result ℕ ExecError) → Fits m sp above ws
    → np + 2 ≤ above → ((a b : ℕ) → Agrees (x a b) (r a b))
    → Agrees (put m above (on_two x ws)) (pop m sp >>= λ b. pop m b.above >>= λ a. r a.word b.word >>= λ w. push m a.above np w)
on_two_words m sp np above [] x r f room h = tt
on_two_words m sp np above (b ∷ []) x r f room h = tt
on_two_words m sp np above (b ∷ a ∷ []) x r f room h =
    let g = rest_fits m sp above b (a ∷ []) f in
    rw (first_pop m sp above b (a ∷ []) f, first_pop m (sp + 2) above a [] g)
    (ends m (sp + 2 + 2) np above (rest_fits m (sp + 2) above a [] g) room (x a b) (r a b) (h a b))
on_two_words m sp np above (c ∷ b ∷ a ∷ ws) x r f room h = tt

check_agrees : (a b c : ℕ) → Agrees (check_said a b c) (demand (int_le (signed b) (signed a) && int_le (signed a) (signed c)) InvalidIndex >>= λ u. Ok a)
check_agrees a b c = elim (cases_Bool (int_le (signed b) (signed a) && int_le (signed a) (signed c))) [
  | inl e ↦ rw e refl
  | inr e ↦ rw e refl
]

demanded : (b : Bool) (e : ExecError) (a : ℕ) (k : ℕ → Result (List ℕ × ℕ) ExecError)
    → (demand b e >>= λ u. k a) ≡ ((demand b e >>= λ u. Ok a) >>= k)
demanded true e a k = refl
demanded false e a k = refl

check_row_agrees : (m : List ℕ) (sp np above : ℕ) (ws : List ℕ) → Fits m sp above ws → np + 2 ≤ above
    → Agrees (put m above (on_three check_said ws)) (check_row m sp np)
unfolding check_row
check_row_agrees m sp np above [] f room = tt
check_row_agrees m sp np above (c ∷ []) f room = tt
check_row_agrees m sp np above (c ∷ b ∷ []) f room = tt
check_row_agrees m sp np above (c ∷ b ∷ a ∷ []) f room =
    let g = rest_fits m sp above c (b ∷ a ∷ []) f in
    let h = rest_fits m (sp + 2) above b (a ∷ []) g in
    let k = rest_fits m (sp + 2 + 2) above a [] h in
    rw (first_pop m sp above c (b ∷ a ∷ []) f, first_pop m (sp + 2) above b (a ∷ []) g, first_pop m (sp + 2 + 2) above a [] h)
    (subst (λ r. Agrees (put m above (check_said a b c)) r)
    (sym (demanded (int_le (signed b) (signed a) && int_le (signed a) (signed c)) InvalidIndex a (λ w. push m (sp + 2 + 2 + 2) np w)))
    (ends m (sp + 2 + 2 + 2) np above k room (check_said a b c) _ (check_agrees a b c)))
check_row_agrees m sp np above (d ∷ c ∷ b ∷ a ∷ ws) f room = tt

arithmetic_agrees : (o : Arithmetic) (m : List ℕ) (sp np above : ℕ) (ws : List ℕ) → Fits m sp above ws → np + 2 ≤ above
    → Agrees (put m above (arithmetic_said o ws)) (arithmetic_row o m sp np)
unfolding arithmetic_row constant_row unary_row binary_row relation_row
arithmetic_agrees (arithmetic.Constant w) m sp np above ws f room = on_no_word m sp np above ws (Gives w) (Ok w) f room refl
arithmetic_agrees arithmetic.Nil m sp np above ws f room = on_no_word m sp np above ws (Gives 0) (Ok 0) f room refl
arithmetic_agrees (arithmetic.OnOne o) m sp np above ws f room =
    on_a_word m sp np above ws (λ a. Gives (unary o a)) (λ a. Ok (unary o a)) f room (λ a. refl)
arithmetic_agrees (arithmetic.OnTwo o) m sp np above ws f room =
    on_two_words m sp np above ws (λ a b. as_said (binary o a b)) (λ a b. binary o a b) f room (λ a b. agrees_as (binary o a b))
arithmetic_agrees (arithmetic.Compare o) m sp np above ws f room =
    on_two_words m sp np above ws (λ a b. Gives (truth (relation o a b))) (λ a b. Ok (truth (relation o a b))) f room (λ a b. refl)
arithmetic_agrees arithmetic.Check m sp np above ws f room = check_row_agrees m sp np above ws f room

-- ---- what is read

word_agrees : (s : State) (t : List ℕ) (a : ℕ) → IsLike s t → Agrees (word_there s a) (load t a)
unfolding word_there
word_agrees s t a like = elim (cases_Bool (is_even a)) [
  | inl even ↦ elim (cases_Bool (is_free s a)) [
    | inl free ↦ rw (even, free) tt
    | inr other ↦ rw (even, other) (ap (λ (w : ℕ). Ok w) (like.words a even other))
  ]
  | inr odd ↦ rw odd refl
]

up_agrees : (s : State) (t : List ℕ) (f n : ℕ) → IsLike s t → Agrees (frame_up s f n) (up t f n)
unfolding frame_up up
up_agrees s t f zero like = refl
up_agrees s t f (suc n) like = agrees_then (frame_up s f n) (up t f n) (word_there s) (load t) (up_agrees s t f n like) (λ a e. word_agrees s t a like)

frame_agrees : (s : State) (t : List ℕ) (r : Registers) (scope : Scope) → IsLike s t → r.base ≡ s.registers.base → r.mp ≡ s.registers.mp
    → Agrees (frame_there s scope) (frame_of scope t r)
unfolding frame_there link
frame_agrees s t r Global like base mp = ap (λ (x : ℕ). Ok x) base
frame_agrees s t r Local like base mp = ap (λ (x : ℕ). Ok x) mp
frame_agrees s t r (Intermediate n) like base mp = elim (cases_Bool (nat_lt 127 n)) [
  | inl far ↦ rw far refl
  | inr near ↦ rw (near, mp) (up_agrees s t s.registers.mp n like)
]

variable_place_agrees : (s : State) (t : List ℕ) (r : Registers) (scope : Scope) (b : ℕ) → IsLike s t → r.base ≡ s.registers.base → r.mp ≡ s.registers.mp
    → Agrees (variable_there s scope b) (variable_at scope b t r)
variable_place_agrees s t r scope b like base mp =
    agrees_then (frame_there s scope) (frame_of scope t r) _ _ (frame_agrees s t r scope like base mp) (λ f e. refl)

assoc : {A B C : Type 0} (r : Result A ExecError) (f : A → Result B ExecError) (g : B → Result C ExecError)
    → ((r >>= f) >>= g) ≡ (r >>= λ a. f a >>= g)
assoc (Ok a) f g = refl
assoc (Err e) f g = refl

variable_agrees : (o : Variable) (s : State) (m : List ℕ) (r : Registers) (above : ℕ) (ws : List ℕ) → IsLike s m
    → r.base ≡ s.registers.base → r.mp ≡ s.registers.mp → Fits m r.sp above ws → r.np + 2 ≤ above
    → Agrees (put m above (variable_said s o ws)) (variable_row o m r)
unfolding variable_row variable_address_row load_row
variable_agrees (variable.Address scope b) s m r above ws like base mp f room =
    on_no_word m r.sp r.np above ws (variable_there s scope b) (variable_at scope b m r) f room (variable_place_agrees s m r scope b like base mp)
variable_agrees (variable.Load scope b) s m r above ws like base mp f room =
    subst (λ x. Agrees (put m above (variable_said s (variable.Load scope b) ws)) x) (assoc (variable_at scope b m r) (load m) (λ w. push m r.sp r.np w))
    (on_no_word m r.sp r.np above ws (then_said (variable_there s scope b) (word_there s)) (variable_at scope b m r >>= load m) f room
    (agrees_then (variable_there s scope b) (variable_at scope b m r) (word_there s) (load m) (variable_place_agrees s m r scope b like base mp)
    (λ a e. word_agrees s m a like)))
variable_agrees (variable.Store scope b) s m r above ws like base mp f room = tt

pointer_agrees : (o : Pointer) (s : State) (m : List ℕ) (sp np above : ℕ) (ws : List ℕ) → IsLike s m → Fits m sp above ws → np + 2 ≤ above
    → Agrees (put m above (pointer_said s o ws)) (pointer_row o m sp np)
unfolding pointer_row increment_row indirect_row index_row
pointer_agrees (pointer.Increment k) s m sp np above ws like f room =
    on_a_word m sp np above ws (λ a. Gives ((a + 2 * k) % 65536)) (λ a. Ok ((a + 2 * k) % 65536)) f room (λ a. refl)
pointer_agrees (pointer.Load k) s m sp np above ws like f room =
    on_a_word m sp np above ws (λ a. word_there s ((a + 2 * k) % 65536)) (λ a. load m ((a + 2 * k) % 65536)) f room
    (λ a. word_agrees s m ((a + 2 * k) % 65536) like)
pointer_agrees (pointer.Index b) s m sp np above ws like f room =
    on_two_words m sp np above ws (λ a i. Gives ((a + 2 * b * i) % 65536)) (λ a i. Ok ((a + 2 * b * i) % 65536)) f room (λ a i. refl)
pointer_agrees pointer.Store s m sp np above ws like f room = tt
pointer_agrees (pointer.LoadWords n) s m sp np above ws like f room = tt
pointer_agrees (pointer.StoreWords n) s m sp np above ws like f room = tt
pointer_agrees (pointer.Move b) s m sp np above ws like f room = tt

-- ---- steps of the machine

executes : (u : State) (i : Instr) → fetched u.memory u.registers.ipc ≡ Ok i → executed u ≡ performed (operation_of i) (past_instruction i u)
unfolding executed row
executes u i there = ap (λ (r : Result Instr ExecError). or_fails r >>= λ i. row i u) there

runs_on : (u : State) → u.status ≡ status.Running → stepped u ≡ settled u (executed u)
unfolding stepped
runs_on u runs = ap (λ a. at_status a u) runs

goes : (u v : State) (i : Instr) → u.status ≡ status.Running → fetched u.memory u.registers.ipc ≡ Ok i
    → performed (operation_of i) (past_instruction i u) ≡ Ok v → v.status ≡ status.Running → stepped u ≡ (step_counted v, stop.Went)
goes u v i runs there does after = runs_on u runs ∙ ap (settled u) (executes u i there ∙ does) ∙ ap (λ a. (step_counted v, stop_of a)) after

halts : (u : State) (i : Instr) (e : ExecError) → u.status ≡ status.Running → fetched u.memory u.registers.ipc ≡ Ok i
    → performed (operation_of i) (past_instruction i u) ≡ Err (Failing e) → stepped u ≡ (record u { status = status.Halted e }, stop.Halted e)
halts u i e runs there does = runs_on u runs ∙ ap (settled u) (executes u i there ∙ does)

halted_once : (u : State) (e : ExecError) → u.status ≡ status.Halted e → (stepped u).0 ≡ u
unfolding stepped
halted_once u e is = ap (λ a. (at_status a u).0) is

stays_halted : (n : ℕ) (u : State) (e : ExecError) → u.status ≡ status.Halted e → after_steps n u ≡ u
unfolding after_steps
stays_halted zero u e is = refl
stays_halted (suc n) u e is = ap (λ (x : State). (stepped x).0) (stays_halted n u e is) ∙ halted_once u e is

one_step : (u : State) → after_steps 1 u ≡ (stepped u).0
unfolding after_steps
one_step u = refl

-- ---- what is fetched

-- The operation is the given one, if the text states something about its result.
abbrev IsSame : Operation → Operation → Type 0
IsSame (operation.Arithmetic o) x = x ≡ operation.Arithmetic o
IsSame (operation.Variable o) x = x ≡ operation.Variable o
IsSame (operation.Pointer o) x = x ≡ operation.Pointer o
IsSame (operation.Jump (jump.Short c n)) x = x ≡ operation.Jump (jump.Short c n)
IsSame _ x = Unit {0}

-- The scope and the number of a variable are the same for any position of the instruction.
same_scope : (v : Scope) (i : Instr) (start len : ℕ) → filled_scope v (record i { start = start; len = len }) ≡ filled_scope v i
same_scope Global i start len = refl
same_scope Local i start len = refl
same_scope (Intermediate n) i start len = refl

same_number : (v : Scope) (i : Instr) (start len : ℕ) → variable_number v (record i { start = start; len = len }) ≡ variable_number v i
same_number Global i start len = refl
same_number Local i start len = refl
same_number (Intermediate n) i start len = refl

same_compared : (o : Relation) (k : Option Kind) (x : Operation) → IsSame (comparison_of o k) x
same_compared o (Some k) x = tt
same_compared o None x = tt

same_placed : (o : Operation) (i : Instr) (start len : ℕ) → IsSame (with_operands o i) (with_operands o (record i { start = start; len = len }))
same_placed (operation.Arithmetic (arithmetic.Constant w)) i start len = refl
same_placed (operation.Arithmetic arithmetic.Nil) i start len = refl
same_placed (operation.Arithmetic (arithmetic.OnOne o)) i start len = refl
same_placed (operation.Arithmetic (arithmetic.OnTwo o)) i start len = refl
same_placed (operation.Arithmetic (arithmetic.Compare o)) i start len = refl
same_placed (operation.Arithmetic arithmetic.Check) i start len = refl
same_placed (operation.Variable (variable.Address v n)) i start len =
    ap (λ w. operation.Variable (variable.Address w (variable_number v (record i { start = start; len = len })))) (same_scope v i start len)
    ∙ ap (λ k. operation.Variable (variable.Address (filled_scope v i) k)) (same_number v i start len)
same_placed (operation.Variable (variable.Load v n)) i start len =
    ap (λ w. operation.Variable (variable.Load w (variable_number v (record i { start = start; len = len })))) (same_scope v i start len)
    ∙ ap (λ k. operation.Variable (variable.Load (filled_scope v i) k)) (same_number v i start len)
same_placed (operation.Variable (variable.Store v n)) i start len =
    ap (λ w. operation.Variable (variable.Store w (variable_number v (record i { start = start; len = len })))) (same_scope v i start len)
    ∙ ap (λ k. operation.Variable (variable.Store (filled_scope v i) k)) (same_number v i start len)
same_placed (operation.Pointer (pointer.Increment n)) i start len = refl
same_placed (operation.Pointer (pointer.Load n)) i start len = refl
same_placed (operation.Pointer (pointer.Index n)) i start len = refl
same_placed (operation.Pointer pointer.Store) i start len = refl
same_placed (operation.Pointer (pointer.LoadWords n)) i start len = refl
same_placed (operation.Pointer (pointer.StoreWords n)) i start len = refl
same_placed (operation.Pointer (pointer.Move n)) i start len = refl
same_placed (operation.Literal o) i start len = tt
same_placed (operation.Value (value.Byte o)) i start len = tt
same_placed (operation.Value (value.Set o)) i start len = tt
same_placed (operation.Value (value.Text o)) i start len = tt
same_placed (operation.Value (value.Field o)) i start len = tt
same_placed (operation.Value (value.Compare o k)) i start len = same_compared o (kind_of i.a i.b) _
same_placed (operation.Jump (jump.Short c n)) i start len = refl
same_placed (operation.Jump (jump.Case low high table)) i start len = tt
same_placed (operation.Call o) i start len = tt
same_placed (operation.Return o) i start len = tt
same_placed (operation.Standard n) i start len = tt
same_placed operation.Nothing i start len = tt
same_placed operation.End i start len = tt
same_placed operation.Unimplemented i start len = tt

-- The machine fetches the instruction of an item, for any contents of the free stack.
record Fetched (s : State) (ipc at : ℕ) (item : Item ℕ) : Type 0 where
  instruction : Instr
  fetches : (t : List ℕ) → IsLike s t → fetched t ipc ≡ Ok instruction
  operation : IsSame (item_operation at item) (operation_of instruction)
  bytes : instruction.len ≡ size at item

-- If memory differs from that of `s` only on the free stack, then a byte that is not on the free stack is the same.
like_byte : (s : State) (t : List ℕ) (a : ℕ) → IsStack s.registers.sp s.registers.np → IsLike s t → is_free s a ≡ false → byte_at t a ≡ byte_at s.memory a
like_byte s t a stack like away = elim (cases_Bool (is_even a)) [
  | inl even ↦
      byte_at-even t a (even_of a even) ∙ ap (λ w. w % 256) (like.words a even away) ∙ sym (byte_at-even s.memory a (even_of a even))
  | inr odd ↦
      let half : a % 2 ≡ 1 = grind (arith, nat_tests) in
      let even_sp = stack.even_sp in
      let even_np = stack.even_np in
      let below : is_free s (a - 1) ≡ false = grind (arith, nat_tests) in
      let even : is_even (a - 1) ≡ true = evenly (a - 1) (omega (arith, half)) in
      byte_at-odd t a half ∙ ap (λ w. w / 256) (like.words (a - 1) even below) ∙ sym (byte_at-odd s.memory a half)
]

like_byte_there : (s : State) (t : List ℕ) (a b : ℕ) → IsStack s.registers.sp s.registers.np → IsLike s t → is_free s a ≡ false → byte_at s.memory a ≡ b
    → get_or (bytes_of t) a 0 ≡ b
unfolding byte_at
like_byte_there s t a b stack like away is = like_byte s t a stack like away ∙ is

-- If bytes are in memory outside the free stack, then the memory from `a` on begins with them.
there_on : (s : State) (t : List ℕ) (a : ℕ) (bs : List ℕ) → IsStack s.registers.sp s.registers.np → IsLike s t → StandThere s a bs
    → drop a (bytes_of t) ≡ bs ++ drop (a + length bs) (bytes_of t)
there_on s t a [] stack like h = let e : a + length {A = ℕ} [] ≡ a = omega arith in ap (λ k. drop k (bytes_of t)) (sym e)
there_on s t a (b ∷ bs) stack like h =
    let count : length (bytes_of t) ≡ 65536 = length-bytes_of t ∙ ap (λ n. 2 * n) like.size in
    let here : get_or (bytes_of t) a 0 ≡ b = like_byte_there s t a b stack like h.1 h.2 in
    let e : a + 1 + length bs ≡ a + length (b ∷ bs) = omega arith in
    drop_more (bytes_of t) a 0 (omega (arith, count, h.0))
    ∙ ap (λ x. x ∷ drop (a + 1) (bytes_of t)) here
    ∙ ap (λ xs. b ∷ xs) (there_on s t (a + 1) bs stack like h.3 ∙ ap (λ k. bs ++ drop k (bytes_of t)) e)

within_memory : (s : State) (a b : ℕ) (bs : List ℕ) → StandThere s a (b ∷ bs) → a % 65536 ≡ a
within_memory s a b bs h = let below = h.0 in omega (arith, below)

same_parity : (origin at : ℕ) → origin % 2 ≡ 0 → is_odd (origin + at) ≡ is_odd at
same_parity origin at even = ap (λ n. n == 1) (parity origin at even)
  where
    parity : (origin at : ℕ) → origin % 2 ≡ 0 → (origin + at) % 2 ≡ at % 2
    parity origin at even = omega (arith, even)

-- If the spelling of an instruction is in memory outside the free stack, then the instruction is fetched.
spelled_there : (s : State) (origin at : ℕ) (i : Instr) (named : List ℕ) → IsStack s.registers.sp s.registers.np → origin % 2 ≡ 0
    → in_range (form_of i.op) i ≡ true → (names_bytes (form_of i.op) ≡ true → length named ≡ i.count)
    → StandThere s (origin + at) (spelling (is_odd at) 0 i named) → (t : List ℕ) → IsLike s t
    → fetched t ((origin + at) % 65536) ≡ Ok (placed_at (origin + at) i named)
unfolding fetched
spelled_there s origin at i named stack even ranges count h t like =
    let a = origin + at in
    let odd = same_parity origin at even in
    let whole : drop a (bytes_of t) ≡ spelling (is_odd a) 0 i named ++ drop (a + length (spelling (is_odd at) 0 i named)) (bytes_of t) =
    there_on s t a (spelling (is_odd at) 0 i named) stack like h ∙ ap (λ b. spelling b 0 i named ++ drop (a + length (spelling
    (is_odd at) 0 i named)) (bytes_of t)) (sym odd) in
    let read = spelled_read (bytes_of t) a i named (record { ranges = ranges; count = count; pad = 0; rest = _; whole = whole }) in
    ap (λ k. read_as (reading (bytes_of t) k)) (within_memory s a i.op _ h) ∙ ap read_as read

plain_fetched : (s : State) (origin at : ℕ) (i : Instr) (named : List ℕ) → IsStack s.registers.sp s.registers.np → origin % 2 ≡ 0 → IsPlain i named
    → StandThere s (origin + at) (item_bytes at (Plain i named)) → Fetched s ((origin + at) % 65536) at (Plain i named)
unfolding operation_of
plain_fetched s origin at i named stack even plain h =
    let a = origin + at in
    let n = length (spelling (is_odd a) 0 i named) in
    let x = cond (names_bytes (form_of i.op)) (a + n - (clear (form_of i.op) i).count) 0 in
    let placed : placed_at a i named ≡ record i { start = x; len = n } = ap (λ (j : Instr). record j { start = x; len = n }) plain.fields in
    record {
      instruction = record i { start = x; len = n };
      fetches = λ t like. spelled_there s origin at i named stack even plain.ranges (λ e. plain.count) h t like ∙ ap (λ (j : Instr). Ok j) placed;
      operation = same_placed (shape_of i.op) i x n;
      bytes = ap (λ b. length (spelling b 0 i named)) (same_parity origin at even);
    }

abbrev jump_instruction : ℕ → ℕ → Target ℕ → Instr
jump_instruction at op goal = record (bare op) { a = distance (at + 2) goal }

-- The byte of a jump is the low byte of its distance, and represents it.
jump_low : (at : ℕ) (goal : Target ℕ) → IsNear (at + 2) goal → distance (at + 2) goal % 256 ≡ jump_byte (at + 2) goal
jump_low at (To place) near = let here = near.0 in let there = near.1 in omega (arith, here, there)
jump_low at (Through k) near = omega (arith, near)

jump_signed : (at : ℕ) (goal : Target ℕ) → IsNear (at + 2) goal → signed_byte (distance (at + 2) goal % 256) ≡ distance (at + 2) goal
jump_signed at (To place) near =
    let here = near.0 in
    let there = near.1 in
    let low : (place - (at + 2)) % 256 ≡ place - (at + 2) = omega (arith, here, there) in
    let small : nat_lt (place - (at + 2)) 128 ≡ true = grind (arith, nat_tests) in
    rw (low, small) refl
jump_signed at (Through k) near =
    let low : (65526 - 2 * k) % 256 ≡ 246 - 2 * k = omega (arith, near) in
    let large : nat_lt (246 - 2 * k) 128 ≡ false = grind (arith, nat_tests) in
    rw (low, large) (omega (arith, near))

jump_ranges : (f : Form) (at op : ℕ) (goal : Target ℕ) → f ≡ Sb → IsNear (at + 2) goal → in_range f (jump_instruction at op goal) ≡ true
jump_ranges f at op goal e near = let same = jump_signed at goal near in rw e (grind (arith, nat_tests, same))

jump_spelled : (f : Form) (odd : Bool) (at op : ℕ) (goal : Target ℕ) → f ≡ Sb → IsNear (at + 2) goal
    → jump_byte (at + 2) goal ∷ [] ≡ spelled_operands f odd 0 (jump_instruction at op goal) []
jump_spelled f odd at op goal e near = rw e (ap (λ b. b ∷ []) (sym (jump_low at goal near)))

jump_fetched : (s : State) (origin at op : ℕ) (goal : Target ℕ) → IsStack s.registers.sp s.registers.np → origin % 2 ≡ 0 → IsItem at (JumpItem op goal)
    → StandThere s (origin + at) (item_bytes at (JumpItem op goal)) → Fetched s ((origin + at) % 65536) at (JumpItem op goal)
unfolding operation_of
jump_fetched s origin at op goal stack even is h =
    let a = origin + at in
    let i = jump_instruction at op goal in
    let n = length (spelling (is_odd a) 0 i []) in
    let two : n ≡ 2 = rw is.0 refl in
    let spelled : item_bytes at (JumpItem op goal) ≡ spelling (is_odd at) 0 i [] =
    ap (λ bs. op ∷ bs) (jump_spelled (form_of op) (is_odd at) at op goal is.0 is.2) in
    let placed : placed_at a i [] ≡ record i { start = 0; len = n } = placed_jump (form_of op) a n at op goal is.0 in
    record {
      instruction = record i { start = 0; len = n };
      fetches = λ t like. spelled_there s origin at i [] stack even (jump_ranges (form_of op) at op goal is.0 is.2)
          (λ e. let none : names_bytes (form_of op) ≡ false = rw is.0 refl in absurd (cc)) (subst (StandThere s a) spelled h) t like
          ∙ ap (λ (j : Instr). Ok j) placed;
      operation = same_placed (shape_of op) i 0 n;
      bytes = two;
    }
  where
    placed_jump : (f : Form) (a n at op : ℕ) (goal : Target ℕ) → f ≡ Sb
        → (record (clear f (jump_instruction at op goal)) { start = cond (names_bytes f) (a + n - (clear f (jump_instruction at op goal)).count) 0; len = n })
        ≡ record (jump_instruction at op goal) { start = 0; len = n }
    placed_jump f a n at op goal e = rw e refl

-- ---- a state after some operands, whose values are on the stack, the last one first

record Holds (s : State) (vs : List ℕ) (ipc : ℕ) (u : State) : Type 0 where
  memory : IsLike s u.memory
  registers : u.registers ≡ record s.registers { sp = s.registers.sp - 2 * length vs; ipc = ipc }
  room : s.registers.np + 2 * length vs ≤ s.registers.sp
  there : OnStack u.memory (s.registers.sp - 2 * length vs) vs
  others : u ≡ record s { memory = u.memory; registers = u.registers; steps = u.steps }

-- The machine runs, and its stack is valid.
record Ready (s : State) : Type 0 where
  running : s.status ≡ status.Running
  stack : IsStack s.registers.sp s.registers.np

is_running : (s u : State) (vs : List ℕ) (ipc : ℕ) → Ready s → Holds s vs ipc u → u.status ≡ status.Running
is_running s u vs ipc ready h = ap (λ (x : State). x.status) h.others ∙ ready.running

next_ipc : (origin at len : ℕ) → ((origin + at) % 65536 + len) % 65536 ≡ (origin + (at + len)) % 65536
next_ipc origin at len = omega arith

-- After operands were executed, the instruction of the item is fetched.
fetched_there : (s u : State) (ipc at : ℕ) (item : Item ℕ) (vs : List ℕ) → Holds s vs ipc u → (st : Fetched s ipc at item)
    → fetched u.memory u.registers.ipc ≡ Ok st.instruction
fetched_there s u ipc at item vs h st =
    ap (λ (r : Registers). fetched u.memory r.ipc) h.registers ∙ st.fetches u.memory h.memory

-- After operands were executed, they fit the rule of the operation.
operands_fit : (s u : State) (ipc : ℕ) (ws vs : List ℕ) → Ready s → Holds s (ws ++ vs) ipc u
    → Fits u.memory u.registers.sp (s.registers.sp - 2 * length vs) ws
operands_fit s u ipc ws vs ready h =
    let even = ready.stack.even_sp in
    let below = ready.stack.below in
    let both : length (ws ++ vs) ≡ length ws + length vs = length-append ws vs in
    let room = h.room in
    let sp : u.registers.sp ≡ s.registers.sp - 2 * length (ws ++ vs) = ap (λ (r : Registers). r.sp) h.registers in
    record {
      even = omega (arith, sp, even, room);
      is = omega (arith, sp, both, room);
      low = omega (arith, below);
      there = (parted u.memory u.registers.sp ws vs (rw sp h.there)).0;
    }

put_room : (s u : State) (ipc : ℕ) (ws vs : List ℕ) → Holds s (ws ++ vs) ipc u → s.registers.np + 2 * (length vs + 1) ≤ s.registers.sp
    → u.registers.np + 2 ≤ s.registers.sp - 2 * length vs
put_room s u ipc ws vs h more =
    let np : u.registers.np ≡ s.registers.np = ap (λ (r : Registers). r.np) h.registers in
    omega (arith, np, more)

others_fit : (s u : State) (ipc : ℕ) (ws vs : List ℕ) → Holds s (ws ++ vs) ipc u → OnStack u.memory (s.registers.sp - 2 * length vs) vs
others_fit s u ipc ws vs h =
    let both : length (ws ++ vs) ≡ length ws + length vs = length-append ws vs in
    let room = h.room in
    let e : s.registers.sp - 2 * length (ws ++ vs) + 2 * length ws ≡ s.registers.sp - 2 * length vs = omega (arith, both, room) in
    rw (sym e) (parted u.memory (s.registers.sp - 2 * length (ws ++ vs)) ws vs h.there).1

like_pushed : (s : State) (m : List ℕ) (a w : ℕ) → IsLike s m → a % 2 ≡ 0 → s.registers.np ≤ a → a < s.registers.sp → IsLike s (with_word m a w)
unfolding with_word
like_pushed s m a w like even above below = record {
  size = length-set m (a / 2) w ∙ like.size;
  words = λ x is no.
      let free : is_free s a ≡ true = grind (arith, nat_tests) in
      let apart : x ≢ a = λ e. let yes : is_free s x ≡ true = rw e free in absurd (cc) in
      word_at-with_word_other m a x w even (even_of x is) apart ∙ like.words x is no;
}

abbrev NodeEnds : State → List ℕ → ℕ → Said ℕ → State → Type 0
NodeEnds s vs next (Gives w) t = Holds s (w ∷ vs) next t
NodeEnds s vs next (Fails e) t = Halts s e t
NodeEnds s vs next Unsaid t = Unit {0}

-- If a rule pushes a value, then the step that executes it leads to the state with this value on the stack.
settles : (s u : State) (i : Instr) (ws vs : List ℕ) (origin at : ℕ) (x : Said ℕ) (r : Result (List ℕ × ℕ) ExecError) → Ready s
    → Holds s (ws ++ vs) ((origin + at) % 65536) u → s.registers.np + 2 * (length vs + 1) ≤ s.registers.sp
    → fetched u.memory u.registers.ipc ≡ Ok i
    → performed (operation_of i) (past_instruction i u) ≡ or_fails (on_stack (past_instruction i u) r)
    → Agrees (put u.memory (s.registers.sp - 2 * length vs) x) r
    → NodeEnds s vs ((origin + (at + i.len)) % 65536) x (stepped u).0
settles s u i ws vs origin at Unsaid r ready h more there does agrees = tt
settles s u i ws vs origin at (Fails e) r ready h more there does agrees =
    let step =
    halts u i e (is_running s u (ws ++ vs) ((origin + at) % 65536) ready h) there (does ∙ ap (λ (x : Result (List ℕ × ℕ) ExecError). or_fails
    (on_stack (past_instruction i u) x)) agrees) in
    rw step (record { status = refl; memory = h.memory })
settles s u i ws vs origin at (Gives w) r ready h more there does agrees =
    let above = s.registers.sp - 2 * length vs in
    let n = with_word u.memory (above - 2) w in
    let v : State = record (past_instruction i u) { memory = n; registers = record (past_instruction i u).registers { sp = above - 2 } } in
    let runs = is_running s u (ws ++ vs) ((origin + at) % 65536) ready h in
    let step = goes u v i runs there (does ∙ ap (λ (x : Result (List ℕ × ℕ) ExecError). or_fails (on_stack (past_instruction i u) x)) agrees) runs in
    let even = ready.stack.even_sp in
    let even_above : (above - 2) % 2 ≡ 0 = omega (arith, even, more) in
    let size = h.memory.size in
    let sp : above - 2 ≡ s.registers.sp - 2 * length (w ∷ vs) = omega (arith, more) in
    let ready_below = ready.stack.below in
    let next : (u.registers.ipc + i.len) % 65536 ≡ (origin + (at + i.len)) % 65536 =
    ap (λ (q : Registers). (q.ipc + i.len) % 65536) h.registers ∙ next_ipc origin at i.len in
    let back : above - 2 + 2 ≡ above = omega (arith, more) in
    rw step (record {
      memory = like_pushed s u.memory (above - 2) w h.memory even_above (omega (arith, more)) (omega (arith, more));
      registers = ap (λ (q : Registers). record q { ipc = (u.registers.ipc + i.len) % 65536; sp = above - 2 }) h.registers
          ∙ ap (λ (a : ℕ). record s.registers { ipc = a; sp = above - 2 }) next
          ∙ ap (λ (a : ℕ). record s.registers { ipc = (origin + (at + i.len)) % 65536; sp = a }) sp;
      room = omega (arith, more);
      there = subst (λ a. OnStack n a (w ∷ vs)) sp (
        word_at-with_word u.memory (above - 2) (above - 2) w refl (omega (arith, size, ready_below)),
        subst (λ a. OnStack n a vs) (sym back) (beside u.memory above (above - 2) w vs even_above (omega (arith, even, more)) (omega (arith, more))
            (others_fit s u _ ws vs h)),
      );
      others = ap (λ (x : State). record x {
        memory = n;
        registers = record (past_instruction i u).registers { sp = above - 2 };
        steps =
            (step_counted v).steps;
      }) h.others;
    })

node_of : (o : Operation) (s u : State) (origin at : ℕ) (item : Item ℕ) (ws vs : List ℕ) → Ready s → (st : Fetched s ((origin + at) % 65536) at item)
    → Holds s (ws ++ vs) ((origin + at) % 65536) u → s.registers.np + 2 * (length vs + 1) ≤ s.registers.sp
    → IsSame o (operation_of st.instruction)
    → NodeEnds s vs ((origin + (at + st.instruction.len)) % 65536) (value_said s o ws) (stepped u).0
node_of (operation.Arithmetic o) s u origin at item ws vs ready st h more is =
    let i = st.instruction in
    settles s u i ws vs origin at (arithmetic_said o ws) (arithmetic_row o u.memory u.registers.sp u.registers.np) ready h more
    (fetched_there s u _ at item (ws ++ vs) h st) (ap (λ (x : Operation). performed x (past_instruction i u)) is)
    (arithmetic_agrees o u.memory u.registers.sp u.registers.np (s.registers.sp - 2 * length vs) ws (operands_fit s u _ ws vs ready h)
    (put_room s u _ ws vs h more))
node_of (operation.Variable o) s u origin at item ws vs ready st h more is =
    let i = st.instruction in
    settles s u i ws vs origin at (variable_said s o ws) (variable_row o u.memory (past_instruction i u).registers) ready h more
    (fetched_there s u _ at item (ws ++ vs) h st) (ap (λ (x : Operation). performed x (past_instruction i u)) is)
    (variable_agrees o s u.memory (past_instruction i u).registers (s.registers.sp - 2 * length vs) ws h.memory
    (ap (λ (r : Registers). r.base) h.registers) (ap (λ (r : Registers). r.mp) h.registers) (operands_fit s u _ ws vs ready h) (put_room s u _ ws vs h more))
node_of (operation.Pointer o) s u origin at item ws vs ready st h more is =
    let i = st.instruction in
    settles s u i ws vs origin at (pointer_said s o ws) (pointer_row o u.memory u.registers.sp u.registers.np) ready h more
    (fetched_there s u _ at item (ws ++ vs) h st) (ap (λ (x : Operation). performed x (past_instruction i u)) is)
    (pointer_agrees o s u.memory u.registers.sp u.registers.np (s.registers.sp - 2 * length vs) ws h.memory (operands_fit s u _ ws vs ready h)
    (put_room s u _ ws vs h more))
node_of (operation.Literal o) s u origin at item ws vs ready st h more is = tt
node_of (operation.Value o) s u origin at item ws vs ready st h more is = tt
node_of (operation.Jump o) s u origin at item ws vs ready st h more is = tt
node_of (operation.Call o) s u origin at item ws vs ready st h more is = tt
node_of (operation.Return o) s u origin at item ws vs ready st h more is = tt
node_of (operation.Standard n) s u origin at item ws vs ready st h more is = tt
node_of operation.Nothing s u origin at item ws vs ready st h more is = tt
node_of operation.End s u origin at item ws vs ready st h more is = tt
node_of operation.Unimplemented s u origin at item ws vs ready st h more is = tt

-- The item ends where its instruction ends.
to_size : (s : State) (vs : List ℕ) (origin at len : ℕ) (item : Item ℕ) (x : Said ℕ) (t : State) → len ≡ size at item
    → NodeEnds s vs ((origin + (at + len)) % 65536) x t → NodeEnds s vs ((origin + (at + size at item)) % 65536) x t
to_size s vs origin at len item x t e h = subst (λ n. NodeEnds s vs ((origin + (at + n)) % 65536) x t) e h

node_ends : (item : Item ℕ) (s u : State) (origin at : ℕ) (ws vs : List ℕ) → Ready s → origin % 2 ≡ 0 → IsItem at item
    → StandThere s (origin + at) (item_bytes at item)
    → Holds s (ws ++ vs) ((origin + at) % 65536) u → s.registers.np + 2 * (length vs + 1) ≤ s.registers.sp
    → NodeEnds s vs ((origin + (at + size at item)) % 65536) (value_said s (item_operation at item) ws) (stepped u).0
node_ends (Plain i named) s u origin at ws vs ready even is there h more =
    let st = plain_fetched s origin at i named ready.stack even is there in
    to_size s vs origin at st.instruction.len (Plain i named) _ _ st.bytes
    (node_of (item_operation at (Plain i named)) s u origin at (Plain i named) ws vs ready st h more st.operation)
node_ends (JumpItem op goal) s u origin at ws vs ready even is there h more =
    let st = jump_fetched s origin at op goal ready.stack even is there in
    to_size s vs origin at st.instruction.len (JumpItem op goal) _ _ st.bytes
    (node_of (item_operation at (JumpItem op goal)) s u origin at (JumpItem op goal) ws vs ready st h more st.operation)
node_ends (Case low high otherwise places) s u origin at ws vs ready even is there h more = tt
node_ends (OneByte b) s u origin at ws vs ready even is there h more = tt

-- ---- trees

abbrev ForestEnds : State → List ℕ → ℕ → Said (List ℕ) → State → Type 0
ForestEnds s vs next (Gives ws) t = Holds s (ws ++ vs) next t
ForestEnds s vs next (Fails e) t = Halts s e t
ForestEnds s vs next Unsaid t = Unit {0}

stand_parts : (s : State) (origin at : ℕ) (ps qs : List Part) → StandFrom s origin at (ps ++ qs)
    → StandFrom s origin at ps × StandFrom s origin (behind_parts at ps) qs
stand_parts s origin at [] qs h = (tt, h)
stand_parts s origin at (p ∷ ps) qs h =
    let more = stand_parts s origin (at + size at p.item) ps qs h.2 in
    ((h.0, h.1, more.0), more.1)

behind_both : (at : ℕ) (ps qs : List Part) → behind_parts at (ps ++ qs) ≡ behind_parts (behind_parts at ps) qs
behind_both at [] qs = refl
behind_both at (p ∷ ps) qs = behind_both (at + size at p.item) ps qs

given : {A B : Type 0} (x : Said A) (f : A → Said B) (y : B) → then_said x f ≡ Gives y → (a : A) × (x ≡ Gives a) × (f a ≡ Gives y)
given (Gives a) f y h = (a, refl, h)
given (Fails e) f y h = absurd (cc)
given Unsaid f y h = absurd (cc)

same_given : {A : Type 0} (x y : A) → Gives x ≡ Gives y → x ≡ y
same_given x y h = cc

values_count : (f : Forest) (s : State) (ws : List ℕ) → values_said s f ≡ Gives ws → length ws ≤ length (parts_of f)
unfolding values_said
values_count Bare s ws h = let e = same_given [] ws h in rw (sym e) (omega arith)
values_count (Tree p missing operands before) s ws h =
    let first = given (values_said s before) _ ws h in
    let second = given (values_said s operands) _ ws first.2 in
    let third = given (value_said s (operation_at p) second.0) _ ws second.2 in
    let e = same_given (third.0 ∷ first.0) ws third.2 in
    let fewer = values_count before s first.0 first.1 in
    let both : length (parts_of before ++ (parts_of operands ++ p ∷ [])) ≡ length (parts_of before) + length (parts_of operands ++ p ∷ []) =
    length-append (parts_of before) (parts_of operands ++ p ∷ []) in
    let last : length (parts_of operands ++ p ∷ []) ≡ length (parts_of operands) + 1 = length-append (parts_of operands) (p ∷ []) in
    rw (sym e) (omega (arith, fewer, both, last))

-- If the value of a part is on the stack in the state `t`, or its error has halted `t`, then the same holds for the
-- list of this value and `others`.
value_ends : (s t : State) (ipc next : ℕ) (others vs : List ℕ) (x : Said ℕ) → ipc ≡ next → NodeEnds s (others ++ vs) ipc x t
    → ForestEnds s vs next (then_said x (λ w. Gives (w ∷ others))) t
value_ends s t ipc next others vs Unsaid e h = tt
value_ends s t ipc next others vs (Fails error) e h = h
value_ends s t ipc next others vs (Gives w) e h = subst (λ a. Holds s (w ∷ (others ++ vs)) a t) e h

part_ends : (s u : State) (origin at : ℕ) (p : Part) (others vs : List ℕ) (x : Said (List ℕ)) → Ready s → origin % 2 ≡ 0 → StandFrom s origin at (p ∷ [])
    → s.registers.np + 2 * (length (others ++ vs) + 1) ≤ s.registers.sp
    → ForestEnds s (others ++ vs) ((origin + at) % 65536) x u
    → ForestEnds s vs ((origin + behind_parts at (p ∷ [])) % 65536)
    (then_said x (λ ws. then_said (value_said s (operation_at p) ws) (λ w. Gives (w ∷ others)))) (stepped u).0
part_ends s u origin at p others vs Unsaid ready even st more h = tt
part_ends s u origin at p others vs (Fails e) ready even st more h = rw (halted_once u e h.status) h
part_ends s u origin at p others vs (Gives ws) ready even st more h =
    let stands = st.1 in
    let there : Holds s (ws ++ (others ++ vs)) ((origin + p.place.offset) % 65536) u =
    subst (λ a. Holds s (ws ++ (others ++ vs)) ((origin + a) % 65536) u) (sym st.0) h in
    let ends = node_ends p.item s u origin p.place.offset ws (others ++ vs) ready even stands.item stands.bytes there more in
    value_ends s (stepped u).0 ((origin + (p.place.offset + size p.place.offset p.item)) % 65536) ((origin + behind_parts at
    (p ∷ [])) % 65536) others vs (value_said s (operation_at p) ws)
    (ap (λ a. (origin + (a + size a p.item)) % 65536) st.0) ends

-- If `n` steps execute the operands of the part `p`, then `n + 1` steps execute the operands and `p`.
operands_end : (s t : State) (origin at : ℕ) (p : Part) (n : ℕ) (operands : Forest) (others vs : List ℕ) → Ready s → origin % 2 ≡ 0
    → StandFrom s origin at (p ∷ []) → s.registers.np + 2 * (length (others ++ vs) + 1) ≤ s.registers.sp
    → ForestEnds s (others ++ vs) ((origin + at) % 65536) (values_said s operands) (after_steps n t)
    → ForestEnds s vs ((origin + behind_parts at (p ∷ [])) % 65536)
    (then_said (values_said s operands) (λ ws. then_said (value_said s (operation_at p) ws) (λ w. Gives (w ∷ others)))) (after_steps (n + 1) t)
operands_end s t origin at p n operands others vs ready even st more h =
    let last : after_steps (n + 1) t ≡ (stepped (after_steps n t)).0 = after_both 1 n t ∙ one_step (after_steps n t) in
    rw last (part_ends s (after_steps n t) origin at p others vs (values_said s operands) ready even st more h)

abbrev rest_said : State → Part → Forest → List ℕ → Said (List ℕ)
rest_said s p operands others =
    then_said (values_said s operands) (λ ws. then_said (value_said s (operation_at p) ws) (λ w. Gives (w ∷ others)))

tree_ends : (s t : State) (ipc next : ℕ) (p : Part) (k n : ℕ) (operands : Forest) (vs : List ℕ) (x : Said (List ℕ))
    → ForestEnds s vs ipc x t → ((ws : List ℕ) → x ≡ Gives ws → length ws ≤ n)
    → ((others : List ℕ) → length others ≤ n → Holds s (others ++ vs) ipc t → ForestEnds s vs next (rest_said s p operands others) (after_steps k t))
    → ForestEnds s vs next (then_said x (rest_said s p operands)) (after_steps k t)
tree_ends s t ipc next p k n operands vs Unsaid h few rest = tt
tree_ends s t ipc next p k n operands vs (Fails e) h few rest = rw (stays_halted k t e h.status) h
tree_ends s t ipc next p k n operands vs (Gives others) h few rest = rest others (few others refl) h

forest_ends : (f : Forest) (s u : State) (origin at : ℕ) (vs : List ℕ) → Ready s → origin % 2 ≡ 0 → Holds s vs ((origin + at) % 65536) u
    → StandFrom s origin at (parts_of f) → s.registers.np + 2 * (length vs + length (parts_of f)) ≤ s.registers.sp
    → ForestEnds s vs ((origin + behind_parts at (parts_of f)) % 65536) (values_said s f) (after_steps (length (parts_of f)) u)
unfolding values_said after_steps
forest_ends Bare s u origin at vs ready even h st room = h
forest_ends (Tree p missing operands before) s u origin at vs ready even h st room =
    let first = stand_parts s origin at (parts_of before) (parts_of operands ++ p ∷ []) st in
    let middle = behind_parts at (parts_of before) in
    let second = stand_parts s origin middle (parts_of operands) (p ∷ []) first.1 in
    let both : length (parts_of before ++ (parts_of operands ++ p ∷ [])) ≡ length (parts_of before) + length (parts_of operands ++ p ∷ []) =
    length-append (parts_of before) (parts_of operands ++ p ∷ []) in
    let last : length (parts_of operands ++ p ∷ []) ≡ length (parts_of operands) + 1 = length-append (parts_of operands) (p ∷ []) in
    let behind : behind_parts at (parts_of before ++ (parts_of operands ++ p ∷ [])) ≡ behind_parts (behind_parts middle (parts_of operands)) (p ∷ []) =
    behind_both at (parts_of before) (parts_of operands ++ p ∷ []) ∙ behind_both middle (parts_of operands) (p ∷ []) in
    let t = after_steps (length (parts_of before)) u in
    let came = forest_ends before s u origin at vs ready even h first.0 (omega (arith, room, both, last)) in
    let next = (origin + behind_parts (behind_parts middle (parts_of operands)) (p ∷ [])) % 65536 in
    let k = length (parts_of operands) + 1 in
    let done : ForestEnds s vs next (then_said (values_said s before) (rest_said s p operands)) (after_steps k t) =
    tree_ends s t ((origin + middle) % 65536) next p k (length (parts_of before)) operands vs (values_said s before) came (λ ws e. values_count before s ws e)
    (λ others few holds.
    let sum : length (others ++ vs) ≡ length others + length vs = length-append others vs in
    operands_end s t origin (behind_parts middle (parts_of operands)) p (length (parts_of operands)) operands others vs ready even second.1
    (omega (arith, room, both, last, sum, few))
    (forest_ends operands s t origin middle (others ++ vs) ready even holds second.0 (omega (arith, room, both, last, sum, few)))) in
    rw (behind, both, last) (subst (λ y. ForestEnds s vs next (then_said (values_said s before) (rest_said s p operands)) y)
    (sym (after_both k (length (parts_of before)) u)) done)

-- ---- the last operation of a statement

-- If two lists are alike at a position, they are still alike there after the same write to both.
alike_set : (xs ys : List ℕ) (k j w : ℕ) → length xs ≡ length ys → get_or xs j 0 ≡ get_or ys j 0 → get_or (set xs k w) j 0 ≡ get_or (set ys k w) j 0
alike_set [] [] k j w size h = refl
alike_set [] (y ∷ ys) k j w size h = absurd (omega (arith, size))
alike_set (x ∷ xs) [] k j w size h = absurd (omega (arith, size))
alike_set (x ∷ xs) (y ∷ ys) zero zero w size h = refl
alike_set (x ∷ xs) (y ∷ ys) zero (suc j) w size h = h
alike_set (x ∷ xs) (y ∷ ys) (suc k) zero w size h = h
alike_set (x ∷ xs) (y ∷ ys) (suc k) (suc j) w size h = alike_set xs ys k j w (omega (arith, size)) h

like_written : (s : State) (m : List ℕ) (a w : ℕ) → length s.memory ≡ 32768 → IsLike s m
    → IsLike (record s { memory = with_word s.memory a w }) (with_word m a w)
unfolding with_word word_at
like_written s m a w size like = record {
  size = length-set m (a / 2) w ∙ like.size;
  words = λ x even no. alike_set m s.memory (a / 2) (x / 2) w (like.size ∙ sym size) (like.words x even no);
}

like_done : (d : Done) (s : State) (m : List ℕ) → length s.memory ≡ 32768 → IsLike s m
    → IsLike (record s { memory = memory_behind d s.memory }) (memory_behind d m)
like_done (Writes a w) s m size like = like_written s m a w size like
like_done (Jumps ipc) s m size like = like
like_done GoesOn s m size like = like

-- Returns the memory and the registers after the last operation, which pops all operands up to the address `above`.
abbrev done_to : List ℕ → Registers → ℕ → Done → List ℕ × Registers
done_to m r above d = (memory_behind d m, record r { sp = above; ipc = ipc_behind d r.ipc })

abbrev taking : List ℕ → Registers → ℕ → Said Done → Said (List ℕ × Registers)
taking m r above x = then_said x (λ d. Gives (done_to m r above d))

abbrev both_parts : State → Result (List ℕ × Registers) ExecError → Result State ExecError
both_parts s r = r >>= λ t. Ok (record s { memory = t.0; registers = t.1 })

-- If a rule pops all operands, then the step that executes it leads to the state after the statement.
finishes : (s u : State) (i : Instr) (ws : List ℕ) (origin at : ℕ) (x : Said Done) (r : Result (List ℕ × Registers) ExecError) → Ready s
    → length s.memory ≡ 32768 → Holds s ws ((origin + at) % 65536) u → fetched u.memory u.registers.ipc ≡ Ok i
    → performed (operation_of i) (past_instruction i u) ≡ or_fails (both_parts (past_instruction i u) r)
    → Agrees (taking u.memory (past_instruction i u).registers s.registers.sp x) r
    → DoesAsSaid s ((origin + (at + i.len)) % 65536) x (stepped u).0
finishes s u i ws origin at Unsaid r ready size h there does agrees = tt
finishes s u i ws origin at (Fails e) r ready size h there does agrees =
    let step = halts u i e (is_running s u ws ((origin + at) % 65536) ready h) there
    (does ∙ ap (λ (x : Result (List ℕ × Registers) ExecError). or_fails (both_parts (past_instruction i u) x)) agrees) in
    rw step (record { status = refl; memory = h.memory })
finishes s u i ws origin at (Gives d) r ready size h there does agrees =
    let past = past_instruction i u in
    let v : State =
    record past { memory = memory_behind d u.memory; registers = record past.registers { sp = s.registers.sp; ipc = ipc_behind d past.registers.ipc } } in
    let runs = is_running s u ws ((origin + at) % 65536) ready h in
    let step = goes u v i runs there (does ∙ ap (λ (x : Result (List ℕ × Registers) ExecError). or_fails (both_parts past x)) agrees) runs in
    let next : (u.registers.ipc + i.len) % 65536 ≡ (origin + (at + i.len)) % 65536 =
    ap (λ (q : Registers). (q.ipc + i.len) % 65536) h.registers ∙ next_ipc origin at i.len in
    rw step (record {
      memory = like_done d s u.memory size h.memory;
      registers = ap (λ (q : Registers). record q { sp = s.registers.sp; ipc = ipc_behind d ((u.registers.ipc + i.len) % 65536) }) h.registers
          ∙ ap (λ (a : ℕ). record s.registers { ipc = ipc_behind d a }) next;
      others = ap (λ (x : State). record x {
        memory = memory_behind d u.memory;
        registers = record past.registers { sp = s.registers.sp; ipc = ipc_behind d past.registers.ipc };
        steps = (step_counted v).steps;
      }) h.others;
    })

-- ---- stores

-- Returns the result of a rule on the stack with the registers `r`, in which SP is the SP of the result.
abbrev with_sp : Registers → Result (List ℕ × ℕ) ExecError → Result (List ℕ × Registers) ExecError
with_sp r row = row >>= λ t. Ok (t.0, record r { sp = t.1 })

stack_parts : (s : State) (row : Result (List ℕ × ℕ) ExecError) → or_fails (on_stack s row) ≡ or_fails (both_parts s (with_sp s.registers row))
stack_parts s (Ok t) = refl
stack_parts s (Err e) = refl

written_agrees : (m : List ℕ) (r : Registers) (above a w : ℕ)
    → Agrees (taking m r above (written_said a w)) (with_sp r (store m a w >>= λ n. Ok (n, above)))
written_agrees m r above a w = elim (cases_Bool (is_even a)) [
  | inl even ↦ rw even refl
  | inr odd ↦ rw odd refl
]

-- A store of a variable does what its text states.
store_agrees : (o : Variable) (s : State) (m : List ℕ) (r : Registers) (ws : List ℕ) → IsLike s m → r.base ≡ s.registers.base → r.mp ≡ s.registers.mp
    → Fits m r.sp s.registers.sp ws → Agrees (taking m r s.registers.sp (store_said s o ws)) (with_sp r (variable_row o m r))
unfolding variable_row store_row
store_agrees (variable.Address scope b) s m r ws like base mp f = tt
store_agrees (variable.Load scope b) s m r ws like base mp f = tt
store_agrees (variable.Store scope b) s m r [] like base mp f = tt
store_agrees (variable.Store scope b) s m r (w ∷ []) like base mp f =
    rw (first_pop m r.sp s.registers.sp w [] f)
    (stored_there s m r (variable_there s scope b) (variable_at scope b m r) w (r.sp + 2) (none_left m (r.sp + 2) s.registers.sp
    (rest_fits m r.sp s.registers.sp w [] f))
    (variable_place_agrees s m r scope b like base mp))
  where
    stored_there : (s : State) (m : List ℕ) (r : Registers) (x : Said ℕ) (place : Result ℕ ExecError) (w above : ℕ) → s.registers.sp ≡ above → Agrees x place
        → Agrees (taking m r s.registers.sp (then_said x (λ a. written_said a w))) (with_sp r (place >>= λ a. store m a w >>= λ n. Ok (n, above)))
    stored_there s m r Unsaid place w above e h = tt
    stored_there s m r (Fails x) place w above e h = rw h refl
    stored_there s m r (Gives a) place w above e h = rw (h, e) (written_agrees m r above a w)
store_agrees (variable.Store scope b) s m r (v ∷ w ∷ ws) like base mp f = tt

-- A store through an address does what its text states.
store_through_agrees : (o : Pointer) (m : List ℕ) (r : Registers) (above : ℕ) (ws : List ℕ) → Fits m r.sp above ws
    → Agrees (taking m r above (store_through_said o ws)) (with_sp r (pointer_row o m r.sp r.np))
unfolding pointer_row store_indirect_row
store_through_agrees (pointer.Increment k) m r above ws f = tt
store_through_agrees (pointer.Load k) m r above ws f = tt
store_through_agrees (pointer.Index k) m r above ws f = tt
store_through_agrees pointer.Store m r above [] f = tt
store_through_agrees pointer.Store m r above (w ∷ []) f = tt
store_through_agrees pointer.Store m r above (w ∷ a ∷ []) f =
    let g = rest_fits m r.sp above w (a ∷ []) f in
    let same = none_left m (r.sp + 2 + 2) above (rest_fits m (r.sp + 2) above a [] g) in
    rw (first_pop m r.sp above w (a ∷ []) f, first_pop m (r.sp + 2) above a [] g, same) (written_agrees m r (r.sp + 2 + 2) a w)
store_through_agrees pointer.Store m r above (v ∷ w ∷ a ∷ ws) f = tt
store_through_agrees (pointer.LoadWords n) m r above ws f = tt
store_through_agrees (pointer.StoreWords n) m r above ws f = tt
store_through_agrees (pointer.Move b) m r above ws f = tt

-- ---- jumps

-- A jump leads to the address that its text states.
leads_agrees : (s : State) (m : List ℕ) (r : Registers) (origin at above : ℕ) (goal : Target ℕ) → IsLike s m → r.jtab ≡ s.registers.jtab
    → r.ipc ≡ (origin + (at + 2)) % 65536 → IsNear (at + 2) goal
    → Agrees (taking m r above (leads_said s origin goal)) (jumped true m (record r { sp = above }) (distance (at + 2) goal) >>= λ t. Ok (m, t))
unfolding target
leads_agrees s m r origin at above (To place) like jtab ipc near =
    let here = near.0 in
    let there = near.1 in
    let forward : nat_lt (place - (at + 2)) 32768 ≡ true = grind (arith, nat_tests) in
    let leads : (r.ipc + (place - (at + 2))) % 65536 ≡ (origin + place) % 65536 = omega (arith, ipc, here) in
    rw (forward, leads) refl
leads_agrees s m r origin at above (Through k) like jtab ipc near =
    let back : nat_lt (65526 - 2 * k) 32768 ≡ false = grind (arith, nat_tests) in
    let even : is_even (65526 - 2 * k) ≡ true = evenly (65526 - 2 * k) (omega (arith, near)) in
    let place = (r.jtab + (65526 - 2 * k)) % 65536 in
    rw (back, even) (subst (λ j. Agrees (taking m r above (then_said (word_there s ((j + (65526 - 2 * k)) % 65536))
    (λ w. Gives (Jumps (minus ((j + (65526 - 2 * k)) % 65536) w)))))
    (((load m place >>= λ w. Ok (minus place w)) >>= λ ipc. Ok (record r { sp = above; ipc = ipc })) >>= λ t. Ok (m, t))) jtab
    (entry_leads (word_there s place) (load m place) m r above place (word_agrees s m place like)))
  where
    entry_leads : (x : Said ℕ) (y : Result ℕ ExecError) (m : List ℕ) (r : Registers) (above a : ℕ) → Agrees x y
        → Agrees (taking m r above (then_said x (λ w. Gives (Jumps (minus a w)))))
        (((y >>= λ w. Ok (minus a w)) >>= λ ipc. Ok (record r { sp = above; ipc = ipc })) >>= λ t. Ok (m, t))
    entry_leads Unsaid y m r above a h = tt
    entry_leads (Fails e) y m r above a h = rw h refl
    entry_leads (Gives w) y m r above a h = rw h refl

abbrev with_memory : List ℕ → Result Registers ExecError → Result (List ℕ × Registers) ExecError
with_memory m row = row >>= λ t. Ok (m, t)

register_parts : (s : State) (row : Result Registers ExecError) → or_fails (on_registers s row) ≡ or_fails (both_parts s (with_memory s.memory row))
register_parts s (Ok t) = refl
register_parts s (Err e) = refl

-- A conditional jump does what its text states, whether or not the jump is executed.
taken_agrees : (b : Bool) (x : Said Done) (m : List ℕ) (r : Registers) (above offset : ℕ)
    → Agrees (taking m r above x) (with_memory m (jumped true m (record r { sp = above }) offset))
    → Agrees (taking m r above (cond b x (Gives GoesOn))) (with_memory m (jumped b m (record r { sp = above }) offset))
taken_agrees true x m r above offset h = h
taken_agrees false x m r above offset h = refl

short_agrees : (c : Condition) (x : Said Done) (m : List ℕ) (r : Registers) (above offset : ℕ) (ws : List ℕ) → Fits m r.sp above ws
    → Agrees (taking m r above x) (with_memory m (jumped true m (record r { sp = above }) offset))
    → Agrees (taking m r above (jump_said c x ws)) (with_memory m (short_row c m r offset))
unfolding short_row
short_agrees Always x m r above offset [] f h =
    subst (λ a. Agrees (taking m r above x) (with_memory m (jumped true m (record r { sp = a }) offset))) (none_left m r.sp above f) h
short_agrees Always x m r above offset (w ∷ ws) f h = tt
short_agrees IfFalse x m r above offset [] f h = tt
short_agrees IfFalse x m r above offset (a ∷ []) f h =
    let same = none_left m (r.sp + 2) above (rest_fits m r.sp above a [] f) in
    rw (first_pop m r.sp above a [] f, sym same) (taken_agrees (a % 2 == 0) x m r above offset h)
short_agrees IfFalse x m r above offset (b ∷ a ∷ ws) f h = tt
short_agrees IfDifferent x m r above offset [] f h = tt
short_agrees IfDifferent x m r above offset (b ∷ []) f h = tt
short_agrees IfDifferent x m r above offset (b ∷ a ∷ []) f h =
    let g = rest_fits m r.sp above b (a ∷ []) f in
    let same = none_left m (r.sp + 2 + 2) above (rest_fits m (r.sp + 2) above a [] g) in
    rw (first_pop m r.sp above b (a ∷ []) f, first_pop m (r.sp + 2) above a [] g, sym same) (taken_agrees (not (a == b)) x m r above offset h)
short_agrees IfDifferent x m r above offset (c ∷ b ∷ a ∷ ws) f h = tt
short_agrees IfEqual x m r above offset [] f h = tt
short_agrees IfEqual x m r above offset (b ∷ []) f h = tt
short_agrees IfEqual x m r above offset (b ∷ a ∷ []) f h =
    let g = rest_fits m r.sp above b (a ∷ []) f in
    let same = none_left m (r.sp + 2 + 2) above (rest_fits m (r.sp + 2) above a [] g) in
    rw (first_pop m r.sp above b (a ∷ []) f, first_pop m (r.sp + 2) above a [] g, sym same) (taken_agrees (a == b) x m r above offset h)
short_agrees IfEqual x m r above offset (c ∷ b ∷ a ∷ ws) f h = tt

-- The offset of a short jump is its operand.
compared_never : (o : Relation) (k : Option Kind) (c : Condition) (n : ℕ) → comparison_of o k ≡ operation.Jump (jump.Short c n) → ⊥
compared_never o (Some k) c n h = cc
compared_never o None c n h = cc

offset_is : (o : Operation) (i : Instr) (c : Condition) (n : ℕ) → with_operands o i ≡ operation.Jump (jump.Short c n) → n ≡ i.a
offset_is (operation.Arithmetic o) i c n h = absurd (cc)
offset_is (operation.Variable o) i c n h = absurd (cc)
offset_is (operation.Pointer o) i c n h = absurd (cc)
offset_is (operation.Value (value.Byte o)) i c n h = absurd (cc)
offset_is (operation.Value (value.Set o)) i c n h = absurd (cc)
offset_is (operation.Value (value.Text o)) i c n h = absurd (cc)
offset_is (operation.Value (value.Field o)) i c n h = absurd (cc)
offset_is (operation.Value (value.Compare o k)) i c n h = absurd (compared_never o (kind_of i.a i.b) c n h)
offset_is (operation.Literal o) i c n h = absurd (cc)
offset_is (operation.Jump (jump.Short d m)) i c n h = cc
offset_is (operation.Jump (jump.Case a b t)) i c n h = absurd (cc)
offset_is (operation.Call o) i c n h = absurd (cc)
offset_is (operation.Return o) i c n h = absurd (cc)
offset_is (operation.Standard m) i c n h = absurd (cc)
offset_is operation.Nothing i c n h = absurd (cc)
offset_is operation.End i c n h = absurd (cc)
offset_is operation.Unimplemented i c n h = absurd (cc)

-- ---- statements

-- After all operands of a statement were executed, they fit the rule of its last operation.
all_fit : (s u : State) (ipc : ℕ) (ws : List ℕ) → Ready s → Holds s ws ipc u → Fits u.memory u.registers.sp s.registers.sp ws
all_fit s u ipc ws ready h =
    let even = ready.stack.even_sp in
    let below = ready.stack.below in
    let room = h.room in
    let sp : u.registers.sp ≡ s.registers.sp - 2 * length ws = ap (λ (r : Registers). r.sp) h.registers in
    record {
      even = omega (arith, sp, even, room);
      is = omega (arith, sp, room);
      low = below;
      there = rw sp h.there;
    }

jump_of : (item : Item ℕ) (o : Jump) (s u : State) (origin at : ℕ) (i : Instr) (ws : List ℕ) → Ready s → length s.memory ≡ 32768
    → Holds s ws ((origin + at) % 65536) u → fetched u.memory u.registers.ipc ≡ Ok i → IsItem at item → i.len ≡ size at item
    → item_operation at item ≡ operation.Jump o → IsSame (operation.Jump o) (operation_of i)
    → DoesAsSaid s ((origin + (at + i.len)) % 65536) (jump_item_said s origin o item ws) (stepped u).0
unfolding operation_of jump_row
jump_of (Plain j named) o s u origin at i ws ready count h there is bytes same does = tt
jump_of (JumpItem op goal) (jump.Case low high table) s u origin at i ws ready count h there is bytes same does = tt
jump_of (JumpItem op goal) (jump.Short c offset) s u origin at i ws ready count h there is bytes same does =
    let past = past_instruction i u in
    let m = u.memory in
    let r = past.registers in
    let above = s.registers.sp in
    let operand : offset ≡ distance (at + 2) goal = offset_is (shape_of op) (record (bare op) { a = distance (at + 2) goal }) c offset same in
    let ipc : r.ipc ≡ (origin + (at + 2)) % 65536 = ap (λ (q : Registers). (q.ipc + i.len) % 65536) h.registers ∙ next_ipc origin at i.len
    ∙ ap (λ n. (origin + (at + n)) % 65536) bytes in
    let leads = leads_agrees s m r origin at above goal h.memory (ap (λ (q : Registers). q.jtab) h.registers) ipc is.2 in
    let row : Agrees (taking m r above (jump_said c (leads_said s origin goal) ws)) (with_memory m (short_row c m r offset)) =
    short_agrees c (leads_said s origin goal) m r above offset ws (all_fit s u ((origin + at) % 65536) ws ready h)
    (subst (λ n. Agrees (taking m r above (leads_said s origin goal)) (with_memory m (jumped true m (record r { sp = above }) n))) (sym operand) leads) in
    finishes s u i ws origin at (jump_said c (leads_said s origin goal) ws) (with_memory m (short_row c m r offset)) ready count h there
    (ap (λ (x : Operation). performed x past) does ∙ register_parts past (short_row c m r offset)) row
jump_of (Case low high otherwise places) o s u origin at i ws ready count h there is bytes same does = tt
jump_of (OneByte b) o s u origin at i ws ready count h there is bytes same does = tt

done_of : (o : Operation) (s u : State) (origin at : ℕ) (item : Item ℕ) (ws : List ℕ) → Ready s → length s.memory ≡ 32768 → IsItem at item
    → (st : Fetched s ((origin + at) % 65536) at item) → Holds s ws ((origin + at) % 65536) u → item_operation at item ≡ o
    → IsSame o (operation_of st.instruction)
    → DoesAsSaid s ((origin + (at + st.instruction.len)) % 65536) (done_said s origin o item ws) (stepped u).0
done_of (operation.Variable o) s u origin at item ws ready count is st h same does =
    let i = st.instruction in
    let past = past_instruction i u in
    finishes s u i ws origin at (store_said s o ws) (with_sp past.registers (variable_row o u.memory past.registers)) ready count h
    (fetched_there s u _ at item ws h st) (ap (λ (x : Operation). performed x past) does ∙ stack_parts past (variable_row o u.memory past.registers))
    (store_agrees o s u.memory past.registers ws h.memory (ap (λ (r : Registers). r.base) h.registers) (ap (λ (r : Registers). r.mp) h.registers)
    (all_fit s u _ ws ready h))
done_of (operation.Pointer o) s u origin at item ws ready count is st h same does =
    let i = st.instruction in
    let past = past_instruction i u in
    finishes s u i ws origin at (store_through_said o ws) (with_sp past.registers (pointer_row o u.memory u.registers.sp u.registers.np)) ready count h
    (fetched_there s u _ at item ws h st) (ap (λ (x : Operation). performed x past) does ∙ stack_parts past
    (pointer_row o u.memory u.registers.sp u.registers.np))
    (store_through_agrees o u.memory past.registers s.registers.sp ws (all_fit s u _ ws ready h))
done_of (operation.Jump o) s u origin at item ws ready count is st h same does =
    jump_of item o s u origin at st.instruction ws ready count h (fetched_there s u _ at item ws h st) is st.bytes same does
done_of (operation.Arithmetic o) s u origin at item ws ready count is st h same does = tt
done_of (operation.Literal o) s u origin at item ws ready count is st h same does = tt
done_of (operation.Value o) s u origin at item ws ready count is st h same does = tt
done_of (operation.Call o) s u origin at item ws ready count is st h same does = tt
done_of (operation.Return o) s u origin at item ws ready count is st h same does = tt
done_of (operation.Standard n) s u origin at item ws ready count is st h same does = tt
done_of operation.Nothing s u origin at item ws ready count is st h same does = tt
done_of operation.End s u origin at item ws ready count is st h same does = tt
done_of operation.Unimplemented s u origin at item ws ready count is st h same does = tt

done_to_size : (s : State) (origin at len : ℕ) (item : Item ℕ) (x : Said Done) (t : State) → len ≡ size at item
    → DoesAsSaid s ((origin + (at + len)) % 65536) x t → DoesAsSaid s ((origin + (at + size at item)) % 65536) x t
done_to_size s origin at len item x t e h = subst (λ n. DoesAsSaid s ((origin + (at + n)) % 65536) x t) e h

done_ends : (item : Item ℕ) (s u : State) (origin at : ℕ) (ws : List ℕ) → Ready s → length s.memory ≡ 32768 → origin % 2 ≡ 0 → IsItem at item
    → StandThere s (origin + at) (item_bytes at item) → Holds s ws ((origin + at) % 65536) u
    → DoesAsSaid s ((origin + (at + size at item)) % 65536) (done_said s origin (item_operation at item) item ws) (stepped u).0
done_ends (Plain i named) s u origin at ws ready count even is there h =
    let st = plain_fetched s origin at i named ready.stack even is there in
    done_to_size s origin at st.instruction.len (Plain i named) _ _ st.bytes
    (done_of (item_operation at (Plain i named)) s u origin at (Plain i named) ws ready count is st h refl st.operation)
done_ends (JumpItem op goal) s u origin at ws ready count even is there h =
    let st = jump_fetched s origin at op goal ready.stack even is there in
    done_to_size s origin at st.instruction.len (JumpItem op goal) _ _ st.bytes
    (done_of (item_operation at (JumpItem op goal)) s u origin at (JumpItem op goal) ws ready count is st h refl st.operation)
done_ends (Case low high otherwise places) s u origin at ws ready count even is there h = tt
done_ends (OneByte b) s u origin at ws ready count even is there h = tt

statement_ends : (s u : State) (origin at : ℕ) (p : Part) (x : Said (List ℕ)) → Ready s → length s.memory ≡ 32768 → origin % 2 ≡ 0
    → StandFrom s origin at (p ∷ []) → ForestEnds s [] ((origin + at) % 65536) x u
    → DoesAsSaid s ((origin + behind_parts at (p ∷ [])) % 65536) (then_said x (λ ws. done_said s origin (operation_at p) p.item ws)) (stepped u).0
statement_ends s u origin at p Unsaid ready count even st h = tt
statement_ends s u origin at p (Fails e) ready count even st h = rw (halted_once u e h.status) h
statement_ends s u origin at p (Gives ws) ready count even st h =
    let stands = st.1 in
    let holds : Holds s ws ((origin + at) % 65536) u = subst (λ vs. Holds s vs ((origin + at) % 65536) u) (append-nil ws) h in
    let there : Holds s ws ((origin + p.place.offset) % 65536) u = subst (λ a. Holds s ws ((origin + a) % 65536) u) (sym st.0) holds in
    subst (λ a. DoesAsSaid s ((origin + (a + size a p.item)) % 65536) (done_said s origin (operation_at p) p.item ws) (stepped u).0) st.0
    (done_ends p.item s u origin p.place.offset ws ready count even stands.item stands.bytes there)

pub statements_do_what_they_say : StatementsDoWhatTheySay
statements_do_what_they_say s origin at p missing operands stands st room =
    let ready : Ready s = record { running = stands.running; stack = stands.stack } in
    let parts = stand_parts s origin at (parts_of operands) (p ∷ []) st in
    let none : s.registers.sp - 2 * length {A = ℕ} [] ≡ s.registers.sp = omega arith in
    let above = stands.stack.above in
    let begins : Holds s [] ((origin + at) % 65536) s = record {
      memory = record { size = stands.size; words = λ a even no. refl };
      registers = rw (none, sym stands.ipc) refl;
      room = omega (arith, above);
      there = tt;
      others = refl;
    } in
    let values = forest_ends operands s s origin at [] ready stands.segment begins parts.0 (omega (arith, room)) in
    let both : length (parts_of operands ++ p ∷ []) ≡ length (parts_of operands) + 1 = length-append (parts_of operands) (p ∷ []) in
    let behind : behind_parts at (parts_of operands ++ p ∷ []) ≡ behind_parts (behind_parts at (parts_of operands)) (p ∷ []) = behind_both at
    (parts_of operands) (p ∷ []) in
    let last : after_steps (length (parts_of operands) + 1) s ≡ (stepped (after_steps (length (parts_of operands)) s)).0 =
    after_both 1 (length (parts_of operands)) s ∙ one_step (after_steps (length (parts_of operands)) s) in
    rw (behind, both, last)
    (statement_ends s (after_steps (length (parts_of operands)) s) origin (behind_parts at (parts_of operands)) p
    (values_said s operands) ready stands.size stands.segment parts.1 values)
