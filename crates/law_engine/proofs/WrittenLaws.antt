-- Lemmas: a step writes only words that share a byte with the ranges that `pm_machine` defines for its instruction.
use Rattle.std.proofs.Common.{◌≡◌, ℕ, ◌+◌, ◌%◌, List, [], Option, Some, None, Result, Ok, Err, refl, subst}
use Rattle.std.specs.Prelude.{slice_get}
use Rattle.pm_words.specs.declared.error.ExecError.{ExecError}
use Rattle.pm_words.specs.Stack.{◌>>=◌}
use Rattle.pm_families.specs.declared.families.Scope.{Scope}
use Rattle.pm_families.specs.declared.families.Scope.TheVariants.{Global, Local, Intermediate}
use Rattle.pm_families.specs.declared.families.Variable.{Variable}
use Rattle.pm_families.specs.declared.families.Variable.TheVariants as variable
use Rattle.pm_families.specs.declared.families.Call.{Call}
use Rattle.pm_families.specs.declared.families.Call.TheVariants.{Clp, Cgp, Cbp, Cip, Cxp}
use Rattle.pm_families.specs.declared.families.Return.{Return}
use Rattle.pm_opcode.specs.declared.instr.Instr.{Instr}
use Rattle.pm_opcode.specs.declared.operation.Operation.{Operation}
use Rattle.pm_opcode.specs.declared.operation.Operation.TheVariants as operation
use Rattle.pm_opcode.specs.Operations.{operation_of}
use Rattle.pm_calls.specs.declared.registers.Registers.{Registers}
use Rattle.pm_calls.specs.declared.frames.SegmentPlace.{SegmentPlace}
use Rattle.pm_calls.specs.Places.{Parts}
use Rattle.pm_calls.specs.Calls.{called, reach_loading, reach_standing}
use Rattle.pm_calls.specs.Laws.{IsCode}
use Rattle.pm_calls.specs.Returns.{returned}
use Rattle.pm_rows.specs.Arithmetic.{arithmetic_row}
use Rattle.pm_rows.specs.Variables.{variable_at, variable_row}
use Rattle.pm_rows.specs.Pointers.{pointer_row}
use Rattle.pm_rows.specs.Literals.{literal_row}
use Rattle.pm_rows.specs.Values.{value_row}
use Rattle.pm_rows.specs.Jumps.{jump_row}
use Rattle.pm_units.specs.Traps.{Pause, Fails, Waits, or_fails}
use Rattle.pm_stdproc.specs.declared.procedures.Procedure.{Procedure}
use Rattle.pm_stdproc.specs.declared.procedures.Procedure.TheVariants as procedure
use Rattle.pm_stdproc.specs.Loads.{code_needed, slot_code}
use Rattle.pm_stdproc.specs.MemoryRows.{memory_row}
use Rattle.pm_stdproc.specs.Procedures.{Reach, exit_row, keep_row, procedure_numbered, procedure_row, unkeep_row}
use Rattle.pm_stdproc.specs.Procedures as standard
use Rattle.pm_stdproc.specs.UnitRows.{Served, served, units_row}
use Rattle.pm_machine.specs.declared.state.Status.{Status}
use Rattle.pm_machine.specs.declared.state.Status.TheVariants as status
use Rattle.pm_machine.specs.Procedures.{call_row, is_base_return, parts, reach, status_after, with_parts, with_reach, words_of_return}
use Rattle.pm_machine.specs.Rows.{fetched, on_registers, on_stack, performed, row}
use Rattle.pm_machine.specs.State.{State}
use Rattle.pm_machine.specs.Steps.{at_status, executed, settled, stepped}
use Rattle.pm_machine.specs.Written.{Stretch, call_written, instruction_written, operation_written, procedure_written, reached_written}
use Rattle.pm_machine.specs.Written.{return_written, slot_reached, variable_written, word_stretch, written}
use Rattle.law_engine.specs.WrittenLaws.{IsPlain, StepsWriteWhatIsNamed}
use Rattle.law_engine.proofs.Stretches.{IfMade, Kept, all_kept}
use Rattle.law_engine.proofs.WrittenRows.{RowKeeps, arithmetic_keeps, literal_keeps, pointer_keeps, value_keeps, variable_keeps}
use Rattle.law_engine.proofs.WrittenCalls.{called_keeps, returned_keeps}
use Rattle.law_engine.proofs.WrittenMemory.{memory_keeps}
use Rattle.law_engine.proofs.WrittenUnits.{HoldsBytes, units_keep}
use Rattle.law_engine.proofs.WrittenProcedures.{exit_keeps, keep_keeps, slot_code_fits, unkeep_keeps}

-- Returns the registers `r` with the IPC `x`.
abbrev at_ipc : Registers → ℕ → Registers
at_ipc r x = record r { ipc = x }

abbrev with_ipc : State → ℕ → State
with_ipc s x = record s { registers = at_ipc s.registers x }

abbrev StepKeeps : {E : Type 0} → List Stretch → State → Result State E → Type 0
StepKeeps ss s made = IfMade (λ (t : State). Kept ss s.memory t.memory) made

failing : (ss : List Stretch) (s : State) (made : Result State ExecError) → StepKeeps ss s made → StepKeeps ss s (or_fails made)
failing ss s (Ok t) h = h
failing ss s (Err e) h = tt

holds : (s : State) → IsPlain s → HoldsBytes s.devices
holds s plain = record { disks = plain.disks; queue = plain.queue }

-- ---- rows on the stack, and jumps

stack_keeps : (ss : List Stretch) (s : State) (x : ℕ) (row : Result (List ℕ × ℕ) ExecError) → RowKeeps ss s.memory row
    → StepKeeps ss s (or_fails (on_stack (with_ipc s x) row))
stack_keeps ss s x (Ok t) h = h
stack_keeps ss s x (Err e) h = tt

jump_keeps : (s : State) (x : ℕ) (row : Result Registers ExecError) → StepKeeps [] s (or_fails (on_registers (with_ipc s x) row))
jump_keeps s x (Ok r) = all_kept [] s.memory
jump_keeps s x (Err e) = tt

-- The address of a variable does not depend on IPC.
same_variable : (scope : Scope) (b : ℕ) (m : List ℕ) (r : Registers) (x : ℕ) → variable_at scope b m (at_ipc r x) ≡ variable_at scope b m r
same_variable Global b m r x = refl
same_variable Local b m r x = refl
same_variable (Intermediate n) b m r x = refl

variable_step : (o : Variable) (s : State) (x : ℕ) → IsPlain s → StepKeeps (variable_written o s) s (performed (operation.Variable o) (with_ipc s x))
variable_step (variable.Address scope b) s x plain =
    stack_keeps (variable_written (variable.Address scope b) s) s x (variable_row (variable.Address scope b) s.memory (at_ipc s.registers x))
    (variable_keeps (variable.Address scope b) s.memory (at_ipc s.registers x) plain.memory plain.stack)
variable_step (variable.Load scope b) s x plain =
    stack_keeps (variable_written (variable.Load scope b) s) s x (variable_row (variable.Load scope b) s.memory (at_ipc s.registers x))
    (variable_keeps (variable.Load scope b) s.memory (at_ipc s.registers x) plain.memory plain.stack)
variable_step (variable.Store scope b) s x plain =
    let row = variable_row (variable.Store scope b) s.memory (at_ipc s.registers x) in
    stack_keeps (variable_written (variable.Store scope b) s) s x row
    (subst (λ a. RowKeeps (word_stretch a) s.memory row) (same_variable scope b s.memory s.registers x)
    (variable_keeps (variable.Store scope b) s.memory (at_ipc s.registers x) plain.memory plain.stack))

-- ---- calls and returns

parts_keep : (ss : List Stretch) (s t : State) (made : Result Parts ExecError) → IfMade (λ (d : Parts). Kept ss s.memory d.memory) made
    → StepKeeps ss s (or_fails (made >>= λ p. Ok (with_parts p t)))
parts_keep ss s t (Ok d) h = h
parts_keep ss s t (Err e) h = tt

-- The ranges of bytes that a call writes do not depend on IPC.
pub same_slot : (s : State) (x : ℕ) (call : Call) (n : ℕ) (slot : Option (Option SegmentPlace)) (code : Result (Option (List ℕ)) ExecError)
    → reached_written call s.registers.sp (slot_reached n (parts (with_ipc s x)) slot code)
    ≡ reached_written call s.registers.sp (slot_reached n (parts s) slot code)
unfolding reach_standing reach_loading
same_slot s x call n None code = refl
same_slot s x call n (Some (Some p)) code = refl
same_slot s x call n (Some None) (Ok (Some code)) = refl
same_slot s x call n (Some None) (Ok None) = refl
same_slot s x call n (Some None) (Err e) = refl

far_call_keeps : (s : State) (x n p : ℕ) (code : Result (Option (List ℕ)) ExecError) → IsPlain s → IfMade IsCode code
    → StepKeeps (reached_written (Cxp n p) s.registers.sp (slot_reached n (parts s) (slice_get s.places n) code)) s
    (or_fails (code >>= λ c. (called (parts (with_ipc s x)) (Cxp n p) c >>= λ q. Ok (with_parts q (with_ipc s x)))))
far_call_keeps s x n p (Ok code) plain bytes =
    parts_keep (reached_written (Cxp n p) s.registers.sp (slot_reached n (parts s) (slice_get s.places n) (Ok code))) s (with_ipc s x)
    (called (parts (with_ipc s x)) (Cxp n p) code)
    (subst (λ ss. IfMade (λ (d : Parts). Kept ss s.memory d.memory) (called (parts (with_ipc s x)) (Cxp n p) code))
    (same_slot s x (Cxp n p) n (slice_get s.places n) (Ok code)) (called_keeps (Cxp n p) (parts (with_ipc s x)) code plain.memory bytes))
far_call_keeps s x n p (Err e) plain bytes = tt

near_call_keeps : (ss : List Stretch) (call : Call) (s : State) (x : ℕ)
    → IfMade (λ (d : Parts). Kept ss s.memory d.memory) (called (parts (with_ipc s x)) call None)
    → StepKeeps ss s (or_fails (called (parts (with_ipc s x)) call None >>= λ q. Ok (with_parts q (with_ipc s x))))
near_call_keeps ss call s x h = parts_keep ss s (with_ipc s x) (called (parts (with_ipc s x)) call None) h

call_step : (o : Call) (s : State) (x : ℕ) → IsPlain s → StepKeeps (call_written o s) s (performed (operation.Call o) (with_ipc s x))
unfolding call_row code_needed
call_step (Cxp n p) s x plain =
    far_call_keeps s x n p (slot_code n s.places s.rows s.devices) plain (slot_code_fits n s.places s.rows s.devices (holds s plain))
call_step (Clp p) s x plain = near_call_keeps (call_written (Clp p) s) (Clp p) s x (called_keeps (Clp p) (parts (with_ipc s x)) None plain.memory tt)
call_step (Cgp p) s x plain = near_call_keeps (call_written (Cgp p) s) (Cgp p) s x (called_keeps (Cgp p) (parts (with_ipc s x)) None plain.memory tt)
call_step (Cbp p) s x plain = near_call_keeps (call_written (Cbp p) s) (Cbp p) s x (called_keeps (Cbp p) (parts (with_ipc s x)) None plain.memory tt)
call_step (Cip p) s x plain = near_call_keeps (call_written (Cip p) s) (Cip p) s x (called_keeps (Cip p) (parts (with_ipc s x)) None plain.memory tt)

return_step : (o : Return) (s : State) (x : ℕ) → IsPlain s
    → StepKeeps (return_written (words_of_return o) s.memory s.registers.mp) s (performed (operation.Return o) (with_ipc s x))
return_step o s x plain =
    of (returned (parts (with_ipc s x)) (words_of_return o) (is_base_return o))
    (returned_keeps (parts (with_ipc s x)) (words_of_return o) (is_base_return o) plain.memory)
  where
    ss : List Stretch
    ss = return_written (words_of_return o) s.memory s.registers.mp

    of : (made : Result Parts ExecError) → IfMade (λ (d : Parts). Kept ss s.memory d.memory) made
        → StepKeeps ss s (or_fails (made >>= λ p. Ok (record (with_parts p (with_ipc s x)) { status = status_after p.registers.mp s.status })))
    of (Ok d) h = h
    of (Err e) h = tt

-- ---- standard procedures

-- Returns the result of the standard procedure `p` in the state `s`.
abbrev stood : Procedure → State → Result State Pause
stood p s = procedure_row p (reach s) >>= λ t. Ok (with_reach t s)

abbrev ReachKeeps : {E : Type 0} → List Stretch → State → Result Reach E → Type 0
ReachKeeps ss s made = IfMade (λ (t : Reach). Kept ss s.memory t.memory) made

reached : (ss : List Stretch) (s t : State) (made : Result Reach Pause) → ReachKeeps ss s made → StepKeeps ss s (made >>= λ u. Ok (with_reach u t))
reached ss s t (Ok u) h = h
reached ss s t (Err e) h = tt

failing_reach : (ss : List Stretch) (s : State) (made : Result Reach ExecError) → ReachKeeps ss s made → ReachKeeps ss s (or_fails made)
failing_reach ss s (Ok u) h = h
failing_reach ss s (Err e) h = tt

on_memory : (ss : List Stretch) (s : State) (u : Reach) (row : Result (List ℕ × Registers) ExecError)
    → IfMade (λ (t : List ℕ × Registers). Kept ss s.memory t.0) row → ReachKeeps ss s (or_fails (standard.on_memory u row))
on_memory ss s u (Ok t) h = h
on_memory ss s u (Err e) h = tt

on_units : (ss : List Stretch) (s : State) (u : Reach) (row : Result Served Pause)
    → IfMade (λ (t : Served). Kept ss s.memory t.memory) row → ReachKeeps ss s (standard.on_units u row)
on_units ss s u (Ok t) h = h
on_units ss s u (Err e) h = tt

procedure_step : (p : Procedure) (s : State) (x : ℕ) → IsPlain s → StepKeeps (procedure_written p s) s (stood p (with_ipc s x))
unfolding procedure_row
procedure_step (procedure.OnMemory o) s x plain =
    let ss = procedure_written (procedure.OnMemory o) s in
    reached ss s (with_ipc s x) (procedure_row (procedure.OnMemory o) (reach (with_ipc s x)))
    (on_memory ss s (reach (with_ipc s x)) (memory_row o s.memory (at_ipc s.registers x)) (memory_keeps o s.memory (at_ipc s.registers x) plain.memory))
procedure_step (procedure.OnUnits o) s x plain =
    let ss = procedure_written (procedure.OnUnits o) s in
    let u = served s.memory (at_ipc s.registers x) s.devices in
    reached ss s (with_ipc s x) (procedure_row (procedure.OnUnits o) (reach (with_ipc s x)))
    (on_units ss s (reach (with_ipc s x)) (units_row o u) (units_keep o u plain.memory (holds s plain)))
procedure_step procedure.Exit s x plain =
    let ss = procedure_written procedure.Exit s in
    reached ss s (with_ipc s x) (procedure_row procedure.Exit (reach (with_ipc s x)))
    (failing_reach ss s (exit_row (reach (with_ipc s x))) (exit_keeps (reach (with_ipc s x)) plain.memory))
procedure_step procedure.Keep s x plain =
    let ss = procedure_written procedure.Keep s in
    reached ss s (with_ipc s x) (procedure_row procedure.Keep (reach (with_ipc s x)))
    (failing_reach ss s (keep_row (reach (with_ipc s x))) (keep_keeps (reach (with_ipc s x)) plain.memory (holds s plain)))
procedure_step procedure.Unkeep s x plain =
    reached [] s (with_ipc s x) (procedure_row procedure.Unkeep (reach (with_ipc s x)))
    (failing_reach [] s (unkeep_row (reach (with_ipc s x))) (unkeep_keeps (reach (with_ipc s x))))
procedure_step procedure.Unimplemented s x plain = tt

-- ---- a step

operation_step : (o : Operation) (s : State) (x : ℕ) → IsPlain s → StepKeeps (operation_written o s) s (performed o (with_ipc s x))
operation_step (operation.Arithmetic o) s x plain =
    stack_keeps (operation_written (operation.Arithmetic o) s) s x (arithmetic_row o s.memory s.registers.sp s.registers.np)
    (arithmetic_keeps o s.memory s.registers.sp s.registers.np plain.memory plain.stack)
operation_step (operation.Variable o) s x plain = variable_step o s x plain
operation_step (operation.Pointer o) s x plain =
    stack_keeps (operation_written (operation.Pointer o) s) s x (pointer_row o s.memory s.registers.sp s.registers.np)
    (pointer_keeps o s.memory s.registers.sp s.registers.np plain.memory plain.stack)
operation_step (operation.Literal o) s x plain =
    stack_keeps (operation_written (operation.Literal o) s) s x (literal_row o s.memory s.registers.sp s.registers.np)
    (literal_keeps o s.memory s.registers.sp s.registers.np plain.memory plain.stack)
operation_step (operation.Value o) s x plain =
    stack_keeps (operation_written (operation.Value o) s) s x (value_row o s.memory s.registers.sp s.registers.np)
    (value_keeps o s.memory s.registers.sp s.registers.np plain.memory plain.stack)
operation_step (operation.Jump o) s x plain = jump_keeps s x (jump_row o s.memory (at_ipc s.registers x))
operation_step (operation.Call o) s x plain = call_step o s x plain
operation_step (operation.Return o) s x plain = return_step o s x plain
operation_step (operation.Standard n) s x plain = procedure_step (procedure_numbered n) s x plain
operation_step operation.Nothing s x plain = all_kept [] s.memory
operation_step operation.End s x plain = all_kept [] s.memory
operation_step operation.Unimplemented s x plain = tt

fetched_step : (s : State) (r : Result Instr ExecError) → IsPlain s → StepKeeps (instruction_written r s) s (or_fails r >>= λ i. row i s)
unfolding row
fetched_step s (Ok i) plain = operation_step (operation_of i) s ((s.registers.ipc + i.len) % 65536) plain
fetched_step s (Err e) plain = tt

pub executed_step : (s : State) → IsPlain s → StepKeeps (written s) s (executed s)
unfolding executed written
executed_step s plain = fetched_step s (fetched s.memory s.registers.ipc) plain

settled_keeps : (ss : List Stretch) (s : State) (made : Result State Pause) → StepKeeps ss s made → Kept ss s.memory (settled s made).0.memory
settled_keeps ss s (Ok t) h = h
settled_keeps ss s (Err (Fails e)) h = all_kept ss s.memory
settled_keeps ss s (Err Waits) h = all_kept ss s.memory

status_keeps : (a : Status) (s : State) → IsPlain s → Kept (written s) s.memory (at_status a s).0.memory
status_keeps status.Running s plain = settled_keeps (written s) s (executed s) (executed_step s plain)
status_keeps status.Ended s plain = all_kept (written s) s.memory
status_keeps (status.Halted e) s plain = all_kept (written s) s.memory

pub steps_write_what_is_named : StepsWriteWhatIsNamed
unfolding stepped
steps_write_what_is_named s x plain even none = status_keeps s.status s plain x even none
