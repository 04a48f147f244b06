-- No row removes output that was written.
use Rattle.std.proofs.Common.{ℕ, Bool, true, false, List, [], ◌∷◌, ◌++◌, length, take, Option, Some, None, Result, Ok, Err, refl, sym, ap, ◌∙◌}
use Rattle.std.proofs.Common.{append-nil, append_assoc, drop, inl, inr, is_none, nat_lt, ◌&&◌}
use Rattle.std.specs.Prelude.{if◌then◌else◌}
use Rattle.std.proofs.lemmas.Bool.{cases_Bool}
use Rattle.pm_words.specs.declared.error.ExecError.{ExecError}
use Rattle.pm_words.specs.declared.error.ExecError.TheVariants.{InvalidMemory}
use Rattle.pm_words.specs.Words.{with_word}
use Rattle.pm_words.specs.Stack.{◌>>=◌, demand, is_even, pop, push}
use Rattle.pm_opcode.specs.declared.operation.Operation.{Operation}
use Rattle.pm_opcode.specs.declared.operation.Operation.TheVariants as operation
use Rattle.pm_families.specs.declared.families.Return.{Return}
use Rattle.pm_families.specs.declared.families.Call.{Call}
use Rattle.pm_opcode.specs.Operations.{operation_of}
use Rattle.pm_calls.specs.declared.registers.Registers.{Registers}
use Rattle.pm_calls.specs.Calls.{called}
use Rattle.pm_calls.specs.Exits.{exited}
use Rattle.pm_calls.specs.Keeps.{segment_kept, segment_unkept}
use Rattle.pm_calls.specs.Returns.{returned}
use Rattle.pm_stdproc.specs.Loads.{code_needed, slot_code}
use Rattle.pm_units.specs.Traps.{Pause, Fails, Waits, or_fails}
use Rattle.pm_units.specs.Devices.{Devices, cleared, ejected, ejected_at, image_at, mounted, mounted_at, unit_of}
use Rattle.pm_units.specs.Transfers.{Moved, can_move, from_disk, from_queue, to_disk, unit_read, unit_written}
use Rattle.pm_stdproc.specs.UnitRows.{Served, busy_row, clear_row, ordered, read_row, served, time_row, units_row, wait_row, write_row}
use Rattle.pm_stdproc.specs.Procedures.{Reach, exit_row, keep_row, procedure_numbered, procedure_row, unkeep_row}
use Rattle.pm_stdproc.specs.MemoryRows.{memory_row}
use Rattle.pm_units.specs.declared.ports.Port.{Port}
use Rattle.pm_units.specs.declared.ports.Port.TheVariants.{Console, Terminal, Absent, Printer, Disk, Unknown}
use Rattle.pm_units.specs.declared.transfers.Transfer.{Transfer}
use Rattle.pm_stdproc.specs.declared.procedures.OnUnits.{OnUnits}
use Rattle.pm_stdproc.specs.declared.procedures.OnUnits.TheVariants as units
use Rattle.pm_stdproc.specs.declared.procedures.Procedure.{Procedure}
use Rattle.pm_stdproc.specs.declared.procedures.Procedure.TheVariants as procedure
use Rattle.pm_rows.specs.Arithmetic.{arithmetic_row}
use Rattle.pm_rows.specs.Jumps.{jump_row}
use Rattle.pm_rows.specs.Literals.{literal_row}
use Rattle.pm_rows.specs.Pointers.{pointer_row}
use Rattle.pm_rows.specs.Values.{value_row}
use Rattle.pm_rows.specs.Variables.{variable_row}
use Rattle.pm_machine.specs.declared.state.Status.{Status}
use Rattle.pm_machine.specs.declared.state.Status.TheVariants as status
use Rattle.pm_machine.specs.State.{State}
use Rattle.pm_machine.specs.Events.{Event, after_all, next, or_same}
use Rattle.pm_machine.specs.Events.Event.{Step, Key, Poke, Mount, Eject}
use Rattle.pm_machine.specs.Procedures.{call_row, is_base_return, parts, reach, return_row, words_of_return}
use Rattle.pm_machine.specs.Rows.{fetched, on_stack, past_instruction, performed, row}
use Rattle.pm_machine.specs.Steps.{at_status, executed, settled, stepped}
use Rattle.law_engine.specs.Outputs.{GoesOnWith, OutputsGoOn, OutputsOnlyGrow}

-- ---- outputs

no_more : (xs : List ℕ) → GoesOnWith xs xs
no_more xs = record { more = []; whole = sym (append-nil xs) }

same : (d : Devices) → OutputsGoOn d d
same d = record { console = no_more d.console; printer = no_more d.printer }

further : (a b c : List ℕ) → GoesOnWith a b → GoesOnWith b c → GoesOnWith a c
further a b c f g = record {
  more = f.more ++ g.more;
  whole = g.whole ∙ ap (λ u. u ++ g.more) f.whole ∙ append_assoc a f.more g.more;
}

-- ---- the result of a part of a row

abbrev Gives : {A E : Type 0} → (A → Type 0) → Result A E → Type 0
Gives p (Ok x) = p x
Gives p (Err e) = Unit {0}

given : {A B E : Type 0} (p : B → Type 0) (r : Result A E) (f : A → Result B E) → ((x : A) → Gives p (f x)) → Gives p (r >>= f)
given p (Ok x) f h = h x
given p (Err e) f h = tt

after : {A B E : Type 0} (q : A → Type 0) (p : B → Type 0) (r : Result A E) (f : A → Result B E) → Gives q r → ((x : A) → q x → Gives p (f x))
    → Gives p (r >>= f)
after q p (Ok x) f k h = h x k
after q p (Err e) f k h = tt

lifted : {A : Type 0} (p : A → Type 0) (r : Result A ExecError) → Gives p r → Gives p (or_fails r)
lifted p (Ok x) h = h
lifted p (Err e) h = tt

-- ---- transfers

abbrev MovedOn : Devices → Moved → Type 0
MovedOn d t = OutputsGoOn d t.devices

queue_shown : (echo : Bool) (t : Transfer) (m : List ℕ) (d : Devices) → Gives (MovedOn d) (from_queue echo t m d)
queue_shown echo t m d = elim (cases_Bool (nat_lt (length d.queue) t.count)) [ inl e ↦ rw e tt | inr e ↦ rw e (shown echo) ]
  where
    shown : (echo : Bool) → OutputsGoOn d (record d { queue = drop t.count d.queue; console = if echo then d.console ++ take t.count d.queue else d.console })
    shown true = record { console = record { more = take t.count d.queue; whole = refl }; printer = no_more d.printer }
    shown false = record { console = no_more d.console; printer = no_more d.printer }

disk_read : (o : Option (List ℕ)) (t : Transfer) (m : List ℕ) (d : Devices) → MovedOn d (from_disk o t m d)
disk_read None t m d = same d
disk_read (Some image) t m d = elim (cases_Bool (can_move image t)) [ inl e ↦ rw e (same d) | inr e ↦ rw e (same d) ]

read_on : (p : Port) (t : Transfer) (m : List ℕ) (d : Devices) → Gives (MovedOn d) (unit_read p t m d)
unfolding unit_read
read_on Unknown t m d = same d
read_on Absent t m d = same d
read_on Printer t m d = same d
read_on Console t m d = queue_shown true t m d
read_on Terminal t m d = queue_shown false t m d
read_on (Disk k) t m d = disk_read (image_at d k) t m d

disk_written : (k : ℕ) (o : Option (List ℕ)) (t : Transfer) (m : List ℕ) (d : Devices) → MovedOn d (to_disk k o t m d)
disk_written k None t m d = same d
disk_written k (Some image) t m d = elim (cases_Bool (can_move image t)) [
  | inl e ↦ rw e (record { console = no_more d.console; printer = no_more d.printer })
  | inr e ↦ rw e (same d)
]

written_on : (p : Port) (t : Transfer) (m : List ℕ) (d : Devices) → MovedOn d (unit_written p t m d)
unfolding unit_written
written_on Unknown t m d = same d
written_on Absent t m d = same d
written_on Printer t m d = record { console = no_more d.console; printer = record { more = _; whole = refl } }
written_on Console t m d = record { console = record { more = _; whole = refl }; printer = no_more d.printer }
written_on Terminal t m d = record { console = record { more = _; whole = refl }; printer = no_more d.printer }
written_on (Disk k) t m d = disk_written k (image_at d k) t m d

cleared_on : (p : Port) (d : Devices) → OutputsGoOn d (cleared p d).1
cleared_on Unknown d = same d
cleared_on Absent d = same d
cleared_on Printer d = same d
cleared_on Console d = record { console = no_more d.console; printer = no_more d.printer }
cleared_on Terminal d = record { console = no_more d.console; printer = no_more d.printer }
cleared_on (Disk k) d = same d

-- ---- the standard procedures

abbrev ServedOn : Devices → Served → Type 0
ServedOn d t = OutputsGoOn d t.devices

units_on : (o : OnUnits) (m : List ℕ) (r : Registers) (d : Devices) → Gives (ServedOn d) (units_row o (served m r d))
unfolding units_row read_row write_row time_row busy_row wait_row clear_row
units_on units.Read m r d =
    given (ServedOn d) (or_fails (ordered m r.sp)) _ (λ o.
    after (MovedOn d) (ServedOn d) (unit_read (unit_of o.unit) o.transfer m d) _ (read_on (unit_of o.unit) o.transfer m d) (λ t h. h))
units_on units.Write m r d = given (ServedOn d) (or_fails (ordered m r.sp)) _ (λ o. written_on (unit_of o.unit) o.transfer m d)
units_on units.Time m r d =
    lifted (ServedOn d) _ (given (ServedOn d) (pop m r.sp) _ (λ b. given (ServedOn d) (pop m b.above) _ (λ a.
    given (ServedOn d) (demand (is_even a.word && is_even b.word) InvalidMemory) _ (λ h. same d))))
units_on units.Busy m r d =
    lifted (ServedOn d) _ (given (ServedOn d) (pop m r.sp) _ (λ unit. given (ServedOn d) (push m unit.above r.np 0) _ (λ n. same d)))
units_on units.Wait m r d = lifted (ServedOn d) _ (given (ServedOn d) (pop m r.sp) _ (λ unit. same d))
units_on units.Clear m r d = lifted (ServedOn d) _ (given (ServedOn d) (pop m r.sp) _ (λ unit. cleared_on (unit_of unit.word) d))

abbrev ReachOn : Devices → Reach → Type 0
ReachOn d t = OutputsGoOn d t.devices

procedure_on : (p : Procedure) (s : Reach) → Gives (ReachOn s.devices) (procedure_row p s)
unfolding procedure_row exit_row keep_row unkeep_row
procedure_on (procedure.OnMemory o) s =
    lifted (ReachOn s.devices) _ (given (ReachOn s.devices) (memory_row o s.memory s.registers) _ (λ t. same s.devices))
procedure_on (procedure.OnUnits o) s =
    after (ServedOn s.devices) (ReachOn s.devices) (units_row o (served s.memory s.registers s.devices)) _ (units_on o s.memory s.registers s.devices)
    (λ t h. h)
procedure_on procedure.Exit s =
    let p = ReachOn s.devices in
    lifted p _ (given p (pop s.memory s.registers.sp) _ (λ procedure. given p (pop s.memory procedure.above) _ (λ segment.
    given p (exited _ _) _ (λ left. same s.devices))))
procedure_on procedure.Keep s =
    let p = ReachOn s.devices in
    lifted p _ (given p (pop s.memory s.registers.sp) _ (λ segment. given p (slot_code segment.word s.places s.rows s.devices) _ (λ code.
    given p (segment_kept _ segment.word code) _ (λ kept. same s.devices))))
procedure_on procedure.Unkeep s =
    let p = ReachOn s.devices in
    lifted p _ (given p (pop s.memory s.registers.sp) _ (λ segment. given p (segment_unkept _ segment.word _) _ (λ left. same s.devices)))
procedure_on procedure.Unimplemented s = tt

-- ---- a step

abbrev GoesOn : State → State → Type 0
GoesOn s t = OutputsGoOn s.devices t.devices

stack_on : (s : State) (r : Result (List ℕ × ℕ) ExecError) → Gives (GoesOn s) (or_fails (on_stack s r))
stack_on s r = lifted (GoesOn s) (on_stack s r) (given (GoesOn s) r _ (λ t. same s.devices))

call_on : (c : Call) (s : State) → Gives (GoesOn s) (call_row c s)
unfolding call_row
call_on c s =
    given (GoesOn s) (code_needed c s.places s.rows s.devices) _ (λ code. given (GoesOn s) (called (parts s) c code) _ (λ p. same s.devices))

return_on : (r : Return) (s : State) → Gives (GoesOn s) (return_row r s)
return_on r s = given (GoesOn s) (returned (parts s) (words_of_return r) (is_base_return r)) _ (λ p. same s.devices)

performed_on : (o : Operation) (s : State) → Gives (GoesOn s) (performed o s)
performed_on (operation.Arithmetic o) s = stack_on s (arithmetic_row o s.memory s.registers.sp s.registers.np)
performed_on (operation.Variable o) s = stack_on s (variable_row o s.memory s.registers)
performed_on (operation.Pointer o) s = stack_on s (pointer_row o s.memory s.registers.sp s.registers.np)
performed_on (operation.Value o) s = stack_on s (value_row o s.memory s.registers.sp s.registers.np)
performed_on (operation.Literal o) s = stack_on s (literal_row o s.memory s.registers.sp s.registers.np)
performed_on (operation.Jump o) s =
    lifted (GoesOn s) _ (given (GoesOn s) (jump_row o s.memory s.registers) _ (λ r. same s.devices))
performed_on (operation.Call o) s = lifted (GoesOn s) (call_row o s) (call_on o s)
performed_on (operation.Return o) s = lifted (GoesOn s) (return_row o s) (return_on o s)
performed_on (operation.Standard n) s =
    after (ReachOn s.devices) (GoesOn s) (procedure_row (procedure_numbered n) (reach s)) _ (procedure_on (procedure_numbered n) (reach s)) (λ t h. h)
performed_on operation.Nothing s = same s.devices
performed_on operation.End s = same s.devices
performed_on operation.Unimplemented s = tt

executed_on : (s : State) → Gives (GoesOn s) (executed s)
unfolding executed row
executed_on s = given (GoesOn s) (or_fails (fetched s.memory s.registers.ipc)) _ (λ i. performed_on (operation_of i) (past_instruction i s))

settled_on : (s : State) (r : Result State Pause) → Gives (GoesOn s) r → GoesOn s (settled s r).0
settled_on s (Ok t) h = h
settled_on s (Err (Fails e)) h = same s.devices
settled_on s (Err Waits) h = same s.devices

status_on : (a : Status) (s : State) → GoesOn s (at_status a s).0
status_on status.Running s = settled_on s (executed s) (executed_on s)
status_on status.Ended s = same s.devices
status_on (status.Halted e) s = same s.devices

-- ---- events

poke_on : (b : Bool) (s : State) (a w : ℕ) → GoesOn s (if b then record s { memory = with_word s.memory a w } else s)
poke_on true s a w = same s.devices
poke_on false s a w = same s.devices

mount_on : (p : Port) (image : List ℕ) (s : State) → GoesOn s (or_same s (mounted_at p image s.devices))
mount_on Console image s = same s.devices
mount_on Terminal image s = same s.devices
mount_on Absent image s = same s.devices
mount_on Printer image s = same s.devices
mount_on Unknown image s = same s.devices
mount_on (Disk k) image s = elim (cases_Bool (is_none (image_at s.devices k))) [
  | inl e ↦ rw e (record { console = no_more s.devices.console; printer = no_more s.devices.printer })
  | inr e ↦ rw e (same s.devices)
]

eject_on : (p : Port) (d : Devices) → OutputsGoOn d (ejected_at p d)
eject_on Console d = same d
eject_on Terminal d = same d
eject_on Absent d = same d
eject_on Printer d = same d
eject_on Unknown d = same d
eject_on (Disk k) d = record { console = no_more d.console; printer = no_more d.printer }

pub event_on : (s : State) (e : Event) → GoesOn s (next s e)
unfolding stepped mounted ejected
event_on s Step = status_on s.status s
event_on s (Key b) = record { console = no_more s.devices.console; printer = no_more s.devices.printer }
event_on s (Poke a w) = poke_on (is_even a) s a w
event_on s (Mount unit image) = mount_on (unit_of unit) image s
event_on s (Eject unit) = eject_on (unit_of unit) s.devices

pub outputs_only_grow : OutputsOnlyGrow
outputs_only_grow s [] = same s.devices
outputs_only_grow s (e ∷ es) =
    let first = event_on s e in
    let rest = outputs_only_grow (next s e) es in
    record {
      console = further s.devices.console (next s e).devices.console (after_all (next s e) es).devices.console first.console rest.console;
      printer = further s.devices.printer (next s e).devices.printer (after_all (next s e) es).devices.printer first.printer rest.printer;
    }
