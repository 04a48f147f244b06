-- Lemmas for properties of the slots: a property that each rule preserves holds after any events.
use Rattle.std.proofs.Common.{◌≡◌, ◌≢◌, refl, inl, inr, ℕ, ◌+◌, ◌*◌, ◌==◌, ◌&&◌, Bool, true, false, cond, nat_lt, nat_le, List, length}
use Rattle.std.proofs.Common.{replicate, Option, Some, None, Result, Ok, Err, ap, ◌∙◌, subst, arith}
use Rattle.std.specs.Prelude.{slice_get, slice_set}
use Rattle.std.proofs.lemmas.Bool.Decides.{nat_tests}
use Rattle.std.proofs.lemmas.Bool.{cases_Bool}
use Rattle.pm_words.specs.declared.error.ExecError.{ExecError}
use Rattle.pm_words.specs.declared.error.ExecError.TheVariants.{InvalidMemory, StackOverflow}
use Rattle.pm_words.specs.Words.{word_at}
use Rattle.pm_words.specs.Stack.{◌>>=◌, demand, is_even, minus, pop}
use Rattle.pm_opcode.specs.declared.instr.Instr.{Instr}
use Rattle.pm_opcode.specs.declared.operation.Operation.{Operation}
use Rattle.pm_opcode.specs.declared.operation.Operation.TheVariants as operation
use Rattle.pm_families.specs.declared.families.Return.{Return}
use Rattle.pm_opcode.specs.Operations.{operation_of}
use Rattle.pm_calls.specs.declared.registers.Registers.{Registers}
use Rattle.pm_calls.specs.declared.exits.Wanted.{Wanted}
use Rattle.pm_calls.specs.declared.frames.SegmentPlace.{SegmentPlace}
use Rattle.pm_families.specs.declared.families.Call.{Call}
use Rattle.pm_families.specs.declared.families.Call.TheVariants.{Clp, Cgp, Cbp, Cip, Cxp}
use Rattle.pm_calls.specs.Places.{Parts}
use Rattle.pm_calls.specs.Calls.{Reached, called, called_at, called_loading, called_slot, called_standing}
use Rattle.pm_calls.specs.Calls.{entered, here, reach_loading, reach_standing, code_fits}
use Rattle.pm_calls.specs.Exits.{exited, is_wanted, walked_unless}
use Rattle.pm_calls.specs.Returns.{released, returned}
use Rattle.pm_units.specs.Traps.{Pause, Fails, Waits, or_fails}
use Rattle.pm_units.specs.Devices.{Devices, mounted}
use Rattle.pm_stdproc.specs.UnitRows.{served, units_row}
use Rattle.pm_stdproc.specs.Procedures.{Reach, exit_row, on_memory, procedure_numbered, procedure_row}
use Rattle.pm_stdproc.specs.Procedures as standard
use Rattle.pm_stdproc.specs.MemoryRows.{memory_row}
use Rattle.pm_units.specs.declared.ports.MountFault.{MountFault}
use Rattle.pm_stdproc.specs.declared.procedures.Procedure.{Procedure}
use Rattle.pm_stdproc.specs.declared.procedures.Procedure.TheVariants as procedure
use Rattle.pm_codefile.specs.Dictionary.{segment_in}
use Rattle.pm_stdproc.specs.declared.loads.SlotRow.{SlotRow}
use Rattle.pm_machine.specs.declared.state.Status.{Status}
use Rattle.pm_machine.specs.declared.state.Status.TheVariants as status
use Rattle.pm_machine.specs.State.{State}
use Rattle.pm_rows.specs.Arithmetic.{arithmetic_row}
use Rattle.pm_machine.specs.Boot.{begun, boot_start, code_file, first_parts, or_exec}
use Rattle.pm_machine.specs.Events.{Event, next, or_same}
use Rattle.pm_machine.specs.Events.Event.{Step, Key, Poke, Mount, Eject}
use Rattle.pm_rows.specs.Jumps.{jump_row}
use Rattle.pm_rows.specs.Literals.{literal_row}
use Rattle.pm_stdproc.specs.Loads.{code_needed}
use Rattle.pm_rows.specs.Pointers.{pointer_row}
use Rattle.pm_machine.specs.Procedures.{call_row, is_base_return, parts, reach, return_row, standard_row, words_of_return}
use Rattle.pm_machine.specs.Rows.{fetched, on_registers, on_stack, past_instruction, performed, row}
use Rattle.pm_machine.specs.Start.{raw_start}
use Rattle.pm_machine.specs.Steps.{at_status, executed, settled, stepped}
use Rattle.pm_rows.specs.Values.{value_row}
use Rattle.pm_rows.specs.Variables.{variable_row}
use Rattle.law_engine.proofs.ShapeLaws.{bound, chosen, ok_same, parts_there}

abbrev pub Places : Type 0
Places = List (Option SegmentPlace)

-- If the result is `Ok`, then its slots have the property `P`. Any error satisfies the definition.
abbrev pub Holds : {A E : Type 0} → (Places → Type 0) → (A → Places) → Result A E → Type 0
Holds P of (Ok x) = P (of x)
Holds P of (Err e) = Unit {0}

pub then : {A B E : Type 0} (P : Places → Type 0) (of : B → Places) (r : Result A E) (f : A → Result B E) → ((x : A) → Holds P of (f x)) → Holds P of (r >>= f)
then P of (Ok x) f h = h x
then P of (Err e) f h = tt

pub after : {A B E : Type 0} (P : Places → Type 0) (first : A → Places) (of : B → Places) (r : Result A E) (f : A → Result B E) → Holds P first r
    → ((x : A) → P (first x) → Holds P of (f x)) → Holds P of (r >>= f)
after P first of (Ok x) f k h = h x k
after P first of (Err e) f k h = tt

pub lifted : {A : Type 0} (P : Places → Type 0) (of : A → Places) (r : Result A ExecError) → Holds P of r → Holds P of (or_fails r)
lifted P of (Ok x) h = h
lifted P of (Err e) h = tt

either : (P : Places → Type 0) (b : Bool) (xs ys : Places) → P xs → P ys → P (cond b xs ys)
either P true xs ys h k = h
either P false xs ys h k = k

abbrev pub of_parts : Parts → Places
of_parts p = p.places

abbrev of_reached : Reached → Places
of_reached p = p.places

abbrev pub of_reach : Reach → Places
of_reach s = s.places

abbrev pub of_state : State → Places
of_state s = s.places

-- ---- the rows that do not change slots

exit_holds : (P : Places → Type 0) (s : Reach) → P s.places → Holds P of_reach (exit_row s)
unfolding exit_row exited
exit_holds P s h = then P of_reach (pop s.memory s.registers.sp) _ (λ p.
    then P of_reach (pop s.memory p.above) _ (λ n.
    let c = standard.reach_parts s (record s.registers { sp = n.above }) in
    let w : Wanted = record { segment = n.word; procedure = p.word } in
    after P of_parts of_reach (exited c w) _
    (then P of_parts (is_wanted c.memory w c.registers.seg c.registers.jtab) _ (λ d.
    then P of_parts (walked_unless d c.memory w c.registers.mp) _ (λ m. h))) (λ left k. k)))

pub procedure_holds : (P : Places → Type 0) (p : Procedure) (s : Reach) → p ≢ procedure.Keep → p ≢ procedure.Unkeep → P s.places
    → Holds P of_reach (procedure_row p s)
unfolding procedure_row
procedure_holds P (procedure.OnMemory o) s a b h = lifted P of_reach (on_memory s (memory_row o s.memory s.registers))
    (then P of_reach (memory_row o s.memory s.registers) _ (λ t. h))
procedure_holds P (procedure.OnUnits o) s a b h = then P of_reach (units_row o (served s.memory s.registers s.devices)) _ (λ t. h)
procedure_holds P procedure.Exit s a b h = lifted P of_reach (exit_row s) (exit_holds P s h)
procedure_holds P procedure.Keep s a b h = absurd (a refl)
procedure_holds P procedure.Unkeep s a b h = absurd (b refl)
procedure_holds P procedure.Unimplemented s a b h = tt

-- If the rule of a standard procedure preserves the property `P`, then the step of this procedure does.
pub standard_holds : (P : Places → Type 0) (n : ℕ) (s : State) → Holds P of_reach (procedure_row (procedure_numbered n) (reach s))
    → Holds P of_state (standard_row n s)
standard_holds P n s h = after P of_reach of_state (procedure_row (procedure_numbered n) (reach s)) _ h (λ t k. k)

-- A choice of two procedures other than `p` is not `p`.
is_not : (b : Bool) (x y p : Procedure) → x ≢ p → y ≢ p → cond b x y ≢ p
is_not true x y p h k = h
is_not false x y p h k = k

is_not_by : (b : Bool) (x y p : Procedure) → (b ≡ true → ⊥) → y ≢ p → cond b x y ≢ p
is_not_by true x y p h k = absurd (h refl)
is_not_by false x y p h k = k

is_number : (n k : ℕ) → (n == k) ≡ true → n ≡ k
is_number n k e = grind (arith, nat_tests, e)

pub not_keep : (n : ℕ) → n ≢ 21 → procedure_numbered n ≢ procedure.Keep
unfolding procedure_numbered
not_keep n h =
    is_not (n == 0) _ _ _ (λ e. cc) (
    is_not (n == 1) _ _ _ (λ e. cc) (
    is_not (n == 2) _ _ _ (λ e. cc) (
    is_not (n == 3) _ _ _ (λ e. cc) (
    is_not (n == 4) _ _ _ (λ e. cc) (
    is_not (n == 5) _ _ _ (λ e. cc) (
    is_not (n == 6) _ _ _ (λ e. cc) (
    is_not (n == 9) _ _ _ (λ e. cc) (
    is_not (n == 10) _ _ _ (λ e. cc) (
    is_not (n == 11) _ _ _ (λ e. cc) (
    is_not_by (n == 21) _ _ _ (λ e. h (is_number n 21 e)) (
    is_not (n == 22) _ _ _ (λ e. cc) (
    is_not (n == 32) _ _ _ (λ e. cc) (
    is_not (n == 33) _ _ _ (λ e. cc) (
    is_not (n == 34) _ _ _ (λ e. cc) (
    is_not (n == 35) _ _ _ (λ e. cc) (
    is_not (n == 37) _ _ _ (λ e. cc) (
    is_not (n == 38) _ _ _ (λ e. cc) (
    is_not (n == 39) _ _ _ (λ e. cc) (
    is_not (n == 40) _ _ _ (λ e. cc) (
    λ e. cc))))))))))))))))))))

pub not_unkeep : (n : ℕ) → n ≢ 22 → procedure_numbered n ≢ procedure.Unkeep
unfolding procedure_numbered
not_unkeep n h =
    is_not (n == 0) _ _ _ (λ e. cc) (
    is_not (n == 1) _ _ _ (λ e. cc) (
    is_not (n == 2) _ _ _ (λ e. cc) (
    is_not (n == 3) _ _ _ (λ e. cc) (
    is_not (n == 4) _ _ _ (λ e. cc) (
    is_not (n == 5) _ _ _ (λ e. cc) (
    is_not (n == 6) _ _ _ (λ e. cc) (
    is_not (n == 9) _ _ _ (λ e. cc) (
    is_not (n == 10) _ _ _ (λ e. cc) (
    is_not (n == 11) _ _ _ (λ e. cc) (
    is_not (n == 21) _ _ _ (λ e. cc) (
    is_not_by (n == 22) _ _ _ (λ e. h (is_number n 22 e)) (
    is_not (n == 32) _ _ _ (λ e. cc) (
    is_not (n == 33) _ _ _ (λ e. cc) (
    is_not (n == 34) _ _ _ (λ e. cc) (
    is_not (n == 35) _ _ _ (λ e. cc) (
    is_not (n == 37) _ _ _ (λ e. cc) (
    is_not (n == 38) _ _ _ (λ e. cc) (
    is_not (n == 39) _ _ _ (λ e. cc) (
    is_not (n == 40) _ _ _ (λ e. cc) (
    λ e. cc))))))))))))))))))))

pub other_holds : (P : Places → Type 0) (n : ℕ) (s : State) → n ≢ 21 → n ≢ 22 → P s.places → Holds P of_state (standard_row n s)
other_holds P n s a b h = standard_holds P n s (procedure_holds P (procedure_numbered n) (reach s) (not_keep n a) (not_unkeep n b) h)

stack_holds : (P : Places → Type 0) (s : State) (r : Result (List ℕ × ℕ) ExecError) → P s.places → Holds P of_state (or_fails (on_stack s r))
stack_holds P s r h = lifted P of_state (on_stack s r) (then P of_state r _ (λ t. h))

registers_hold : (P : Places → Type 0) (s : State) (r : Result Registers ExecError) → P s.places → Holds P of_state (or_fails (on_registers s r))
registers_hold P s r h = lifted P of_state (on_registers s r) (then P of_state r _ (λ t. h))

-- ---- the rows that change slots: a call, a load and a return

module _ (P : Places → Type 0)
    (more : (places : Places) (n : ℕ) (p : SegmentPlace) → slice_get places n ≡ Some (Some p) → P places
    → P (slice_set places n (Some (record p { count = p.count + 1 }))))
    (load : (places : Places) (n s : ℕ) → slice_get places n ≡ Some None → P places → P (slice_set places n
    (Some (record { place = s; count = 1; keeps = 0 }))))
    (release : (s : ℕ) (places : Places) → P places → P (released s places)) where
  at_holds : (c : Parts) (call : Call) (at : Reached) → P at.places → Holds P of_parts (called_at c call at)
  unfolding called_at
  at_holds c call at h = then P of_parts (entered at.memory at.place at.loaded c.registers call) _ (λ e. h)

  standing_holds : (c : Parts) (n : ℕ) (p : SegmentPlace) → slice_get c.places n ≡ Some (Some p) → P c.places → Holds P of_reached (reach_standing c n p)
  unfolding reach_standing
  standing_holds c n p is h = elim (cases_Bool (p.place == c.registers.seg)) [
    | inl e ↦ rw e h
    | inr e ↦ rw e (then P of_reached (demand (nat_lt p.count 65535) StackOverflow) _ (λ d. more c.places n p is h))
  ]

  loading_holds : (c : Parts) (n : ℕ) (code : List ℕ) → slice_get c.places n ≡ Some None → P c.places → Holds P of_reached (reach_loading c n code)
  unfolding reach_loading
  loading_holds c n code is h =
      then P of_reached (code_fits c.registers code) _ (λ d. load c.places n (minus c.registers.sp 2) is h)

  slot_holds : (c : Parts) (call : Call) (n : ℕ) (code : Option (List ℕ)) (slot : Option (Option SegmentPlace)) → slice_get c.places n ≡ slot → P c.places
      → Holds P of_parts (called_slot c call n code slot)
  unfolding called_standing called_loading
  slot_holds c call n code None is h = tt
  slot_holds c call n code (Some (Some p)) is h = after P of_reached of_parts (reach_standing c n p) _ (standing_holds c n p is h)
      (λ at k. at_holds c call at k)
  slot_holds c call n None (Some None) is h = tt
  slot_holds c call n (Some code) (Some None) is h = after P of_reached of_parts (reach_loading c n code) _ (loading_holds c n code is h)
      (λ at k. at_holds c call at k)

  pub called_holds : (c : Parts) (call : Call) (code : Option (List ℕ)) → P c.places → Holds P of_parts (called c call code)
  unfolding called
  called_holds c (Cxp n p) code h = slot_holds c (Cxp n p) n code (slice_get c.places n) refl h
  called_holds c (Clp p) code h = at_holds c (Clp p) (here c) h
  called_holds c (Cgp p) code h = at_holds c (Cgp p) (here c) h
  called_holds c (Cbp p) code h = at_holds c (Cbp p) (here c) h
  called_holds c (Cip p) code h = at_holds c (Cip p) (here c) h

  returned_holds : (c : Parts) (words : ℕ) (base : Bool) → P c.places → Holds P of_parts (returned c words base)
  unfolding returned
  returned_holds c words base h =
      then P of_parts (demand (is_even c.registers.mp && nat_le (c.registers.mp + 12 + 2 * words) 65536) InvalidMemory) _ (λ d.
      then P of_parts (demand (is_even (word_at c.memory (c.registers.mp + 10)) && nat_le (word_at c.memory (c.registers.mp + 10)) 65504) InvalidMemory) _ (λ k.
      then P of_parts (demand (nat_le (c.registers.np + 2 * words) (word_at c.memory (c.registers.mp + 10))) StackOverflow) _ (λ l.
      either P _ c.places (released c.registers.seg c.places) h (release c.registers.seg c.places h))))

  call_holds : (c : Call) (s : State) → P s.places → Holds P of_state (call_row c s)
  unfolding call_row
  call_holds c s h = then P of_state (code_needed c s.places s.rows s.devices) _ (λ code.
      after P of_parts of_state (called (parts s) c code) _ (called_holds (parts s) c code h) (λ p k. k))

  return_holds : (r : Return) (s : State) → P s.places → Holds P of_state (return_row r s)
  return_holds r s h =
      after P of_parts of_state (returned (parts s) (words_of_return r) (is_base_return r)) _
      (returned_holds (parts s) (words_of_return r) (is_base_return r) h) (λ p k. k)

  -- If the standard procedure of an operation preserves the property `P`, then the operation does.
  performed_holds : (o : Operation) (s : State) → P s.places → ((n : ℕ) → o ≡ operation.Standard n → Holds P of_state (standard_row n s))
      → Holds P of_state (performed o s)
  performed_holds (operation.Arithmetic o) s h k = stack_holds P s (arithmetic_row o s.memory s.registers.sp s.registers.np) h
  performed_holds (operation.Variable o) s h k = stack_holds P s (variable_row o s.memory s.registers) h
  performed_holds (operation.Pointer o) s h k = stack_holds P s (pointer_row o s.memory s.registers.sp s.registers.np) h
  performed_holds (operation.Value o) s h k = stack_holds P s (value_row o s.memory s.registers.sp s.registers.np) h
  performed_holds (operation.Literal o) s h k = stack_holds P s (literal_row o s.memory s.registers.sp s.registers.np) h
  performed_holds (operation.Jump o) s h k = registers_hold P s (jump_row o s.memory s.registers) h
  performed_holds (operation.Call o) s h k = lifted P of_state (call_row o s) (call_holds o s h)
  performed_holds (operation.Return o) s h k = lifted P of_state (return_row o s) (return_holds o s h)
  performed_holds (operation.Standard n) s h k = k n refl
  performed_holds operation.Nothing s h k = h
  performed_holds operation.End s h k = h
  performed_holds operation.Unimplemented s h k = tt

  settled_holds : (s : State) (r : Result State Pause) → P s.places → Holds P of_state r → P (settled s r).0.places
  settled_holds s (Ok t) h k = k
  settled_holds s (Err (Fails e)) h k = h
  settled_holds s (Err Waits) h k = h

  -- If the instruction at IPC is a standard procedure, then the property `P` holds after it.
  abbrev pub StandardHolds : State → Result Instr ExecError → Type 0
  StandardHolds s r = (i : Instr) (n : ℕ) → r ≡ Ok i → operation_of i ≡ operation.Standard n → Holds P of_state (standard_row n (past_instruction i s))

  fetched_holds : (s : State) (r : Result Instr ExecError) → P s.places → StandardHolds s r → Holds P of_state (or_fails r >>= λ i. row i s)
  unfolding row
  fetched_holds s (Err e) h k = tt
  fetched_holds s (Ok i) h k = performed_holds (operation_of i) (past_instruction i s) h (λ n is. k i n refl is)

  status_holds : (a : Status) (s : State) → P s.places → (a ≡ status.Running → StandardHolds s (fetched s.memory s.registers.ipc)) → P (at_status a s).0.places
  unfolding executed
  status_holds status.Running s h k = settled_holds s (executed s) h (fetched_holds s (fetched s.memory s.registers.ipc) h (k refl))
  status_holds status.Ended s h k = h
  status_holds (status.Halted e) s h k = h

  step_holds : (s : State) → P s.places → (s.status ≡ status.Running → StandardHolds s (fetched s.memory s.registers.ipc)) → P (stepped s).0.places
  unfolding stepped
  step_holds s h k = status_holds s.status s h k

  mount_holds : (r : Result Devices MountFault) (s : State) → P s.places → P (or_same s r).places
  mount_holds (Ok d) s h = h
  mount_holds (Err e) s h = h

  pub next_holds : (s : State) (e : Event) → P s.places → (e ≡ Step → s.status ≡ status.Running → StandardHolds s (fetched s.memory s.registers.ipc))
      → P (next s e).places
  next_holds s Step h k = step_holds s h (k refl)
  next_holds s (Key b) h k = h
  next_holds s (Poke a w) h k = elim (cases_Bool (is_even a)) [ inl e ↦ rw e h | inr e ↦ rw e h ]
  next_holds s (Mount unit image) h k = mount_holds (mounted unit image s.devices) s h
  next_holds s (Eject unit) h k = h

  -- ---- the starts

  pub raw_holds : (bytes : List ℕ) (s : State) → P (replicate 16 None) → raw_start bytes ≡ Ok s → P s.places
  unfolding raw_start
  raw_holds bytes s none h = let same = chosen (nat_lt 60000 (length bytes)) _ _ s h in subst (λ (k : State). P k.places) same none

  held_by : (r : Result Parts ExecError) (p : Parts) → Holds P of_parts r → r ≡ Ok p → P p.places
  held_by (Ok q) p k h = let same : q ≡ p = cc in subst (λ (x : Parts). P x.places) same k
  held_by (Err e) p k h = cc

  first_holds : P (replicate 16 None) → P first_parts.places
  unfolding first_parts
  first_holds none = none

  pub boot_holds : (images : List (Option (List ℕ))) (unit : ℕ) (name : List ℕ) (clock : ℕ) (s : State) → P (replicate 16 None)
      → boot_start images unit name clock ≡ Ok s → P s.places
  unfolding boot_start begun
  boot_holds images unit name clock s none h =
      let b = bound (begun images unit name) _ s h in
      let f = bound (code_file images unit name) _ b.0 b.1 in
      let p = bound (or_exec (called first_parts (Cxp 1 1) (segment_in f.0.1 1))) _ b.0 f.2 in
      let pair = ok_same _ b.0 p.2 in
      let same = ok_same _ s b.2 in
      let start = parts_there p.0 (called first_parts (Cxp 1 1) (segment_in f.0.1 1)) p.1 in
      let places : p.0.places ≡ s.places = ap (λ (k : Parts × List SlotRow). k.0.places) pair ∙ ap (λ (k : State). k.places) same in
      subst P places (held_by (called first_parts (Cxp 1 1) (segment_in f.0.1 1)) p.0 (called_holds first_parts (Cxp 1 1) (segment_in f.0.1 1)
      (first_holds none)) start)
