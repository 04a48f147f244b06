-- Lemmas for the parts of the state that a step or a row leaves unchanged.
use Rattle.std.specs.Prelude.{slice_get}
use Rattle.std.proofs.Common.{◌≡◌, ◌≢◌, ℕ, ◌+◌, ◌-◌, ◌*◌, ◌%◌, ◌&&◌, inl, inr, Some, None, length, Bool, true, false, nat_lt, List, Option, Result}
use Rattle.std.proofs.Common.{Ok, Err, refl, ap, arith}
use Rattle.std.proofs.lemmas.Bool.{cases_Bool}
use Rattle.std.proofs.lemmas.Bool.Decides.{nat_tests}
use Rattle.pm_words.specs.declared.error.ExecError.{ExecError}
use Rattle.pm_words.specs.declared.error.ExecError.TheVariants.{InvalidMemory}
use Rattle.pm_words.specs.Stack.{◌>>=◌, demand, is_even, load, pop, push, store}
use Rattle.pm_words.proofs.Laws.{word_at-with_word_other}
use Rattle.pm_opcode.specs.declared.instr.Instr.{Instr}
use Rattle.pm_opcode.specs.declared.operation.Operation.{Operation}
use Rattle.pm_opcode.specs.declared.operation.Operation.TheVariants as operation
use Rattle.pm_families.specs.declared.families.Arithmetic.{Arithmetic}
use Rattle.pm_families.specs.declared.families.Arithmetic.TheVariants.{Constant, Nil, OnOne, OnTwo, Compare, Check}
use Rattle.pm_families.specs.declared.families.Scope.{Scope}
use Rattle.pm_families.specs.declared.families.Call.{Call}
use Rattle.pm_families.specs.declared.families.Return.{Return}
use Rattle.pm_opcode.specs.Operations.{operation_of}
use Rattle.pm_calls.specs.declared.registers.Registers.{Registers}
use Rattle.pm_calls.specs.Calls.{called}
use Rattle.pm_calls.specs.Exits.{exited}
use Rattle.pm_calls.specs.Keeps.{segment_kept, segment_unkept}
use Rattle.pm_stdproc.specs.Loads.{length_of, slot_code}
use Rattle.pm_calls.specs.Returns.{returned}
use Rattle.pm_units.specs.Traps.{Pause, Fails, Waits, or_fails}
use Rattle.pm_units.specs.Devices.{Devices, cleared, image_at, unit_of}
use Rattle.pm_units.specs.Transfers.{Moved, can_move, from_disk, from_queue, unit_read}
use Rattle.pm_stdproc.specs.UnitRows.{Served, busy_row, clear_row, ordered, read_row, served, time_row, units_row, wait_row}
use Rattle.pm_stdproc.specs.Procedures.{Reach, exit_row, keep_row, on_memory, procedure_numbered, procedure_row, unkeep_row}
use Rattle.pm_stdproc.specs.Procedures as standard
use Rattle.pm_stdproc.specs.MemoryRows.{memory_row}
use Rattle.pm_units.specs.declared.ports.Port.{Port}
use Rattle.pm_units.specs.declared.ports.Port.TheVariants.{Console, Terminal, Absent, Printer, Disk, Unknown}
use Rattle.pm_units.specs.declared.transfers.Transfer.{Transfer}
use Rattle.pm_stdproc.specs.declared.procedures.OnUnits.{OnUnits}
use Rattle.pm_stdproc.specs.declared.procedures.OnUnits.TheVariants as units
use Rattle.pm_stdproc.specs.declared.procedures.Procedure.{Procedure}
use Rattle.pm_stdproc.specs.declared.procedures.Procedure.TheVariants as procedure
use Rattle.pm_machine.specs.declared.state.Status.{Status}
use Rattle.pm_machine.specs.declared.state.Status.TheVariants as status
use Rattle.pm_machine.specs.State.{State}
use Rattle.pm_rows.specs.Arithmetic.{arithmetic_row, binary_row, check_row, constant_row, relation_row, unary_row}
use Rattle.pm_rows.specs.Jumps.{jump_row}
use Rattle.pm_rows.specs.Literals.{literal_row}
use Rattle.pm_rows.specs.Pointers.{increment_row, indirect_row, index_row, pointer_row}
use Rattle.pm_rows.specs.Values.{value_row}
use Rattle.pm_rows.specs.Variables.{variable_address_row, load_row, variable_at, variable_row}
use Rattle.pm_stdproc.specs.Loads.{code_needed}
use Rattle.pm_machine.specs.Procedures.{call_row, is_base_return, parts, reach, return_row, standard_row, words_of_return}
use Rattle.pm_machine.specs.Rows.{fetched, on_registers, on_stack, past_instruction, performed, row}
use Rattle.pm_rows.specs.Integers.{binary}
use Rattle.pm_machine.specs.Steps.{at_status, executed, settled, stepped}
use Rattle.pm_machine.specs.RunLaws.{RowsKeepBelow, IsUnitWrite, KeepsBelow, RestStays, StepsKeepDisks}

-- ---- a machine that does not run

at_rest : (a : Status) (s : State) → a ≢ status.Running → (at_status a s).0 ≡ s
at_rest status.Running s other = absurd (other refl)
at_rest status.Ended s other = refl
at_rest (status.Halted e) s other = refl

pub rest_stays : RestStays
unfolding stepped
rest_stays s other = at_rest s.status s other

-- ---- disks

abbrev pub Disks : Type 0
Disks = List (Option (List ℕ))

abbrev KeepsDevices : Disks → Result Devices Pause → Type 0
KeepsDevices d (Ok e) = e.disks ≡ d
KeepsDevices d (Err e) = Unit {0}

-- If the result is a success `x`, then `disks x` equals the disks `d` before.
abbrev pub Stays : {A E : Type 0} → (A → Disks) → Disks → Result A E → Type 0
Stays disks d (Ok x) = disks x ≡ d
Stays disks d (Err e) = Unit {0}

then : {A B E : Type 0} (disks : B → Disks) (d : Disks) (r : Result A E) (f : A → Result B E) → ((x : A) → Stays disks d (f x)) → Stays disks d (r >>= f)
then disks d (Ok x) f h = h x
then disks d (Err e) f h = tt

-- If `r` leaves the disks `d` unchanged, and `f` does so after `r`, then `r` followed by `f` leaves `d` unchanged.
after : {A B E : Type 0} (first : A → Disks) (disks : B → Disks) (d : Disks) (r : Result A E) (f : A → Result B E) → Stays first d r
    → ((x : A) → first x ≡ d → Stays disks d (f x)) → Stays disks d (r >>= f)
after first disks d (Ok x) f k h = h x k
after first disks d (Err e) f k h = tt

lifted : {A : Type 0} (disks : A → Disks) (d : Disks) (r : Result A ExecError) → Stays disks d r → Stays disks d (or_fails r)
lifted disks d (Ok x) h = h
lifted disks d (Err e) h = tt

abbrev of_state : State → Disks
of_state s = s.devices.disks

abbrev of_reach : Reach → Disks
of_reach s = s.devices.disks

abbrev pub of_served : Served → Disks
of_served s = s.devices.disks

abbrev of_moved : Moved → Disks
of_moved s = s.devices.disks

-- ---- the standard procedures

queue_stays : (echo : Bool) (t : Transfer) (m : List ℕ) (d : Devices) → Stays of_moved d.disks (from_queue echo t m d)
queue_stays echo t m d = elim (cases_Bool (nat_lt (length d.queue) t.count)) [ inl e ↦ rw e tt | inr e ↦ rw e refl ]

disk_stays : (o : Option (List ℕ)) (t : Transfer) (m : List ℕ) (d : Devices) → (from_disk o t m d).devices.disks ≡ d.disks
disk_stays None t m d = refl
disk_stays (Some image) t m d = elim (cases_Bool (can_move image t)) [ inl e ↦ rw e refl | inr e ↦ rw e refl ]

read_stays : (p : Port) (t : Transfer) (m : List ℕ) (d : Devices) → Stays of_moved d.disks (unit_read p t m d)
unfolding unit_read
read_stays Unknown t m d = refl
read_stays Absent t m d = refl
read_stays Printer t m d = refl
read_stays Console t m d = queue_stays true t m d
read_stays Terminal t m d = queue_stays false t m d
read_stays (Disk k) t m d = disk_stays (image_at d k) t m d

pub read_row_stays : (s : Served) → Stays of_served s.devices.disks (read_row s)
unfolding read_row
read_row_stays s = then of_served s.devices.disks (or_fails (ordered s.memory s.registers.sp)) _ (λ o.
    after of_moved of_served s.devices.disks (unit_read (unit_of o.unit) o.transfer s.memory s.devices) _
    (read_stays (unit_of o.unit) o.transfer s.memory s.devices)
    (λ t e. e))

pub time_stays : (s : Served) → Stays of_served s.devices.disks (time_row s)
unfolding time_row
time_stays s = then of_served s.devices.disks (pop s.memory s.registers.sp) _ (λ b.
    then of_served s.devices.disks (pop s.memory b.above) _ (λ a. then of_served s.devices.disks (demand (is_even a.word && is_even b.word) InvalidMemory) _
    (λ h. refl)))

pub busy_stays : (s : Served) → Stays of_served s.devices.disks (busy_row s)
unfolding busy_row
busy_stays s = then of_served s.devices.disks (pop s.memory s.registers.sp) _ (λ unit.
    then of_served s.devices.disks (push s.memory unit.above s.registers.np 0) _ (λ n. refl))

pub wait_stays : (s : Served) → Stays of_served s.devices.disks (wait_row s)
unfolding wait_row
wait_stays s = then of_served s.devices.disks (pop s.memory s.registers.sp) _ (λ unit. refl)

cleared_stays : (p : Port) (d : Devices) → (cleared p d).1.disks ≡ d.disks
cleared_stays Unknown d = refl
cleared_stays Absent d = refl
cleared_stays Printer d = refl
cleared_stays Console d = refl
cleared_stays Terminal d = refl
cleared_stays (Disk k) d = refl

pub clear_stays : (s : Served) → Stays of_served s.devices.disks (clear_row s)
unfolding clear_row
clear_stays s = then of_served s.devices.disks (pop s.memory s.registers.sp) _ (λ unit. cleared_stays (unit_of unit.word) s.devices)

units_stay : (o : OnUnits) (s : Served) → o ≢ units.Write → Stays of_served s.devices.disks (units_row o s)
unfolding units_row
units_stay units.Read s other = read_row_stays s
units_stay units.Write s other = absurd (other refl)
units_stay units.Time s other = lifted of_served s.devices.disks (time_row s) (time_stays s)
units_stay units.Busy s other = lifted of_served s.devices.disks (busy_row s) (busy_stays s)
units_stay units.Wait s other = lifted of_served s.devices.disks (wait_row s) (wait_stays s)
units_stay units.Clear s other = lifted of_served s.devices.disks (clear_row s) (clear_stays s)

exit_stays : (s : Reach) → Stays of_reach s.devices.disks (exit_row s)
unfolding exit_row
exit_stays s = then of_reach s.devices.disks (pop s.memory s.registers.sp) _ (λ p.
    then of_reach s.devices.disks (pop s.memory p.above) _ (λ n.
    then of_reach s.devices.disks (exited (standard.reach_parts s (record s.registers { sp = n.above })) (record { segment = n.word; procedure = p.word })) _
    (λ left. refl)))

keep_stays : (s : Reach) → Stays of_reach s.devices.disks (keep_row s)
unfolding keep_row
keep_stays s = then of_reach s.devices.disks (pop s.memory s.registers.sp) _ (λ n.
    then of_reach s.devices.disks (slot_code n.word s.places s.rows s.devices) _ (λ code.
    then of_reach s.devices.disks (segment_kept (standard.reach_parts s (record s.registers { sp = n.above })) n.word code) _ (λ kept. refl)))

unkeep_stays : (s : Reach) → Stays of_reach s.devices.disks (unkeep_row s)
unfolding unkeep_row
unkeep_stays s = then of_reach s.devices.disks (pop s.memory s.registers.sp) _ (λ n.
    then of_reach s.devices.disks (segment_unkept (standard.reach_parts s (record s.registers { sp = n.above })) n.word (length_of (slice_get s.rows n.word))) _
    (λ left. refl))

procedure_stays : (p : Procedure) (s : Reach) → p ≢ procedure.OnUnits units.Write → Stays of_reach s.devices.disks (procedure_row p s)
unfolding procedure_row
procedure_stays (procedure.OnMemory o) s other = lifted of_reach s.devices.disks (on_memory s (memory_row o s.memory s.registers)) (
    then of_reach s.devices.disks (memory_row o s.memory s.registers) _ (λ t. refl))
procedure_stays (procedure.OnUnits o) s other =
    after of_served of_reach s.devices.disks (units_row o (served s.memory s.registers s.devices)) _ (
    units_stay o (served s.memory s.registers s.devices) (λ e. other (ap procedure.OnUnits e))) (λ t e. e)
procedure_stays procedure.Exit s other = lifted of_reach s.devices.disks (exit_row s) (exit_stays s)
procedure_stays procedure.Keep s other = lifted of_reach s.devices.disks (keep_row s) (keep_stays s)
procedure_stays procedure.Unkeep s other = lifted of_reach s.devices.disks (unkeep_row s) (unkeep_stays s)
procedure_stays procedure.Unimplemented s other = tt

-- ---- the rows

standard_stays : (n : ℕ) (s : State) → procedure_numbered n ≢ procedure.OnUnits units.Write → Stays of_state s.devices.disks (standard_row n s)
standard_stays n s other =
    after of_reach of_state s.devices.disks (procedure_row (procedure_numbered n) (reach s)) _ (procedure_stays (procedure_numbered n) (reach s) other)
    (λ t e. e)

stack_stays : (s : State) (r : Result (List ℕ × ℕ) ExecError) → Stays of_state s.devices.disks (or_fails (on_stack s r))
stack_stays s r = lifted of_state s.devices.disks (on_stack s r) (then of_state s.devices.disks r _ (λ t. refl))

registers_stay : (s : State) (r : Result Registers ExecError) → Stays of_state s.devices.disks (or_fails (on_registers s r))
registers_stay s r = lifted of_state s.devices.disks (on_registers s r) (then of_state s.devices.disks r _ (λ t. refl))

call_stays : (c : Call) (s : State) → Stays of_state s.devices.disks (call_row c s)
unfolding call_row
call_stays c s = then of_state s.devices.disks (code_needed c s.places s.rows s.devices) _ (λ code.
    then of_state s.devices.disks (called (parts s) c code) _ (λ p. refl))

return_stays : (r : Return) (s : State) → Stays of_state s.devices.disks (return_row r s)
return_stays r s = then of_state s.devices.disks (returned (parts s) (words_of_return r) (is_base_return r)) _ (λ p. refl)

performed_stays : (o : Operation) (s : State) → ((n : ℕ) → o ≡ operation.Standard n → procedure_numbered n ≢ procedure.OnUnits units.Write) →
    Stays of_state s.devices.disks (performed o s)
performed_stays (operation.Arithmetic o) s other = stack_stays s (arithmetic_row o s.memory s.registers.sp s.registers.np)
performed_stays (operation.Variable o) s other = stack_stays s (variable_row o s.memory s.registers)
performed_stays (operation.Pointer o) s other = stack_stays s (pointer_row o s.memory s.registers.sp s.registers.np)
performed_stays (operation.Value o) s other = stack_stays s (value_row o s.memory s.registers.sp s.registers.np)
performed_stays (operation.Literal o) s other = stack_stays s (literal_row o s.memory s.registers.sp s.registers.np)
performed_stays (operation.Jump o) s other = registers_stay s (jump_row o s.memory s.registers)
performed_stays (operation.Call o) s other = lifted of_state s.devices.disks (call_row o s) (call_stays o s)
performed_stays (operation.Return o) s other = lifted of_state s.devices.disks (return_row o s) (return_stays o s)
performed_stays (operation.Standard n) s other = standard_stays n s (other n refl)
performed_stays operation.Nothing s other = refl
performed_stays operation.End s other = refl
performed_stays operation.Unimplemented s other = tt

-- ---- a step

settled_stays : (s : State) (r : Result State Pause) → Stays of_state s.devices.disks r → (settled s r).0.devices.disks ≡ s.devices.disks
settled_stays s (Ok t) h = h
settled_stays s (Err (Fails e)) h = refl
settled_stays s (Err Waits) h = refl

fetched_stays : (s : State) (r : Result Instr ExecError) → ((i : Instr) → r ≡ Ok i → IsUnitWrite i → ⊥) →
    Stays of_state s.devices.disks (or_fails r >>= λ i. row i s)
unfolding row
fetched_stays s (Err e) other = tt
fetched_stays s (Ok i) other = performed_stays (operation_of i) (past_instruction i s) (λ n e p. other i refl (n, e, p))

status_stays : (a : Status) (s : State) → ((i : Instr) → fetched s.memory s.registers.ipc ≡ Ok i → IsUnitWrite i → ⊥) →
    (at_status a s).0.devices.disks ≡ s.devices.disks
unfolding executed
status_stays status.Running s other = settled_stays s (executed s) (fetched_stays s (fetched s.memory s.registers.ipc) other)
status_stays status.Ended s other = refl
status_stays (status.Halted e) s other = refl

pub steps_keep_disks : StepsKeepDisks
unfolding stepped
steps_keep_disks s other = status_stays s.status s other

-- ---- the stack

bound : {A : Type 0} (m : List ℕ) (r : Result A ExecError) (f : A → Result (List ℕ × ℕ) ExecError) → ((x : A) → KeepsBelow m (f x)) → KeepsBelow m (r >>= f)
bound m (Ok x) f h = h x
bound m (Err e) f h = tt

stored_below : (m : List ℕ) (a w : ℕ) → KeepsBelow m (store m a w >>= λ n. Ok (n, a))
stored_below m a w = elim (cases_Bool (is_even a)) [
  | inl e ↦ rw e (λ x even other. word_at-with_word_other m a x w (grind (arith, nat_tests, e)) even other)
  | inr e ↦ rw e tt
]

pushed_below : (m : List ℕ) (sp np w : ℕ) → KeepsBelow m (push m sp np w)
pushed_below m sp np w = elim (cases_Bool (nat_lt sp (np + 2))) [
  | inl e ↦ rw e tt
  | inr e ↦ rw e (stored_below m (sp - 2) w)
]

arithmetic_stays : (o : Arithmetic) (m : List ℕ) (sp np : ℕ) → KeepsBelow m (arithmetic_row o m sp np)
unfolding arithmetic_row constant_row unary_row binary_row relation_row check_row
arithmetic_stays (Constant w) m sp np = pushed_below m sp np w
arithmetic_stays Nil m sp np = pushed_below m sp np 0
arithmetic_stays (OnOne o) m sp np = bound m (pop m sp) _ (λ a. pushed_below m a.above np _)
arithmetic_stays (OnTwo o) m sp np = bound m (pop m sp) _ (λ b. bound m (pop m b.above) _
    (λ a. bound m (binary o a.word b.word) _ (λ c. pushed_below m a.above np c)))
arithmetic_stays (Compare o) m sp np = bound m (pop m sp) _ (λ b. bound m (pop m b.above) _ (λ a. pushed_below m a.above np _))
arithmetic_stays Check m sp np = bound m (pop m sp) _ (λ c. bound m (pop m c.above) _ (λ b. bound m (pop m b.above) _
    (λ a. bound m _ _ (λ h. pushed_below m a.above np a.word))))

increment_stays : (b : ℕ) (m : List ℕ) (sp np : ℕ) → KeepsBelow m (increment_row b m sp np)
unfolding increment_row
increment_stays b m sp np = bound m (pop m sp) _ (λ a. pushed_below m a.above np _)

indirect_stays : (b : ℕ) (m : List ℕ) (sp np : ℕ) → KeepsBelow m (indirect_row b m sp np)
unfolding indirect_row
indirect_stays b m sp np = bound m (pop m sp) _ (λ a. bound m (load m ((a.word + 2 * b) % 65536)) _ (λ w. pushed_below m a.above np w))

index_stays : (b : ℕ) (m : List ℕ) (sp np : ℕ) → KeepsBelow m (index_row b m sp np)
unfolding index_row
index_stays b m sp np = bound m (pop m sp) _ (λ i. bound m (pop m i.above) _ (λ a. pushed_below m a.above np _))

address_stays : (scope : Scope) (b : ℕ) (m : List ℕ) (r : Registers) → KeepsBelow m (variable_address_row scope b m r)
unfolding variable_address_row
address_stays scope b m r = bound m (variable_at scope b m r) _ (λ x. pushed_below m r.sp r.np x)

variable_stays : (scope : Scope) (b : ℕ) (m : List ℕ) (r : Registers) → KeepsBelow m (load_row scope b m r)
unfolding load_row
variable_stays scope b m r = bound m (variable_at scope b m r) _ (λ x. bound m (load m x) _ (λ w. pushed_below m r.sp r.np w))

pub rows_keep_below : RowsKeepBelow
rows_keep_below = record {
  arithmetic = arithmetic_stays;
  increments = increment_stays;
  loads = indirect_stays;
  indexes = index_stays;
  addresses = address_stays;
  variables = variable_stays;
}
