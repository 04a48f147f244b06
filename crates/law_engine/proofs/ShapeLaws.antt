-- Lemmas: no event changes the shape of a state: its rows, its number of segment slots, and its number of disks.
use Rattle.std.proofs.Common.{◌≡◌, inl, inr, ℕ, ◌+◌, ◌*◌, ◌==◌, ◌&&◌, Bool, true, false, cond, nat_lt, nat_le, List, [], ◌∷◌, length, Option, Some, None}
use Rattle.std.proofs.Common.{is_none, Result, Ok, Err, refl, sym, ap, ◌∙◌, subst, arith, length-set}
use Rattle.std.specs.Prelude.{position, slice_get}
use Rattle.std.proofs.lemmas.Bool.{cases_Bool}
use Rattle.std.proofs.lemmas.Option.{slice_get_past}
use Rattle.pm_words.specs.declared.error.ExecError.{ExecError}
use Rattle.pm_words.specs.declared.error.ExecError.TheVariants.{NoSegment, InvalidMemory, StackOverflow}
use Rattle.pm_words.specs.Words.{word_at}
use Rattle.pm_words.specs.Stack.{◌>>=◌, demand, is_even, pop}
use Rattle.pm_opcode.specs.declared.instr.Instr.{Instr}
use Rattle.pm_opcode.specs.declared.operation.Operation.{Operation}
use Rattle.pm_opcode.specs.declared.operation.Operation.TheVariants as operation
use Rattle.pm_families.specs.declared.families.Return.{Return}
use Rattle.pm_opcode.specs.Operations.{operation_of}
use Rattle.pm_calls.specs.declared.registers.Registers.{Registers}
use Rattle.pm_calls.specs.declared.exits.Wanted.{Wanted}
use Rattle.pm_calls.specs.declared.frames.SegmentPlace.{SegmentPlace}
use Rattle.pm_families.specs.declared.families.Call.{Call}
use Rattle.pm_families.specs.declared.families.Call.TheVariants.{Clp, Cgp, Cbp, Cip, Cxp}
use Rattle.pm_calls.specs.Places.{Parts, place_in}
use Rattle.pm_calls.specs.Calls.{Reached, called, called_at, called_loading, called_slot, called_standing}
use Rattle.pm_calls.specs.Calls.{entered, here, reach_loading, reach_standing, code_fits}
use Rattle.pm_calls.specs.Exits.{exited, is_wanted, walked_unless}
use Rattle.pm_calls.specs.Keeps.{keep_loading, keep_slot, keep_standing, less_kept, segment_kept, segment_unkept, unkeep_slot, unkeep_standing}
use Rattle.pm_stdproc.specs.Loads.{length_of, slot_code}
use Rattle.pm_calls.specs.Returns.{lessened, released, returned, stands_at}
use Rattle.pm_units.specs.Traps.{Pause, Fails, Waits, or_fails}
use Rattle.pm_units.specs.Devices.{Devices, ejected, ejected_at, image_at, mounted, mounted_at, unit_of}
use Rattle.pm_units.specs.Transfers.{can_move, to_disk, unit_written}
use Rattle.pm_stdproc.specs.UnitRows.{Served, busy_row, clear_row, ordered, read_row, served, time_row, units_row, wait_row, write_row}
use Rattle.pm_stdproc.specs.Procedures.{Reach, exit_row, keep_row, on_memory, procedure_numbered, procedure_row, unkeep_row}
use Rattle.pm_stdproc.specs.Procedures as standard
use Rattle.pm_stdproc.specs.MemoryRows.{memory_row}
use Rattle.pm_units.specs.declared.ports.Port.{Port}
use Rattle.pm_units.specs.declared.ports.Port.TheVariants.{Console, Terminal, Absent, Printer, Disk, Unknown}
use Rattle.pm_units.specs.declared.transfers.Transfer.{Transfer}
use Rattle.pm_stdproc.specs.declared.procedures.OnUnits.{OnUnits}
use Rattle.pm_stdproc.specs.declared.procedures.OnUnits.TheVariants as units
use Rattle.pm_stdproc.specs.declared.procedures.Procedure.{Procedure}
use Rattle.pm_stdproc.specs.declared.procedures.Procedure.TheVariants as procedure
use Rattle.pm_volume.specs.declared.entry.Entry.{Entry}
use Rattle.pm_codefile.specs.Dictionary.{segment_in}
use Rattle.pm_machine.specs.declared.state.BootFault.{BootFault}
use Rattle.pm_stdproc.specs.declared.loads.SlotRow.{SlotRow}
use Rattle.pm_machine.specs.declared.state.Status.{Status}
use Rattle.pm_machine.specs.declared.state.Status.TheVariants as status
use Rattle.pm_machine.specs.State.{State}
use Rattle.pm_rows.specs.Arithmetic.{arithmetic_row}
use Rattle.pm_machine.specs.Boot.{begun, boot_start, code_file, first_parts, or_exec, rows_below}
use Rattle.pm_machine.specs.Events.{Event, after_all, next, or_same}
use Rattle.pm_machine.specs.Events.Event.{Step, Key, Poke, Mount, Eject}
use Rattle.pm_rows.specs.Jumps.{jump_row}
use Rattle.pm_rows.specs.Literals.{literal_row}
use Rattle.pm_stdproc.specs.Loads.{code_needed}
use Rattle.pm_rows.specs.Pointers.{pointer_row}
use Rattle.pm_machine.specs.Procedures.{call_row, is_base_return, parts, reach, return_row, standard_row, words_of_return}
use Rattle.pm_machine.specs.Rows.{fetched, on_registers, on_stack, past_instruction, performed, row}
use Rattle.pm_machine.specs.Start.{raw_start}
use Rattle.pm_machine.specs.Steps.{at_status, executed, settled, stepped}
use Rattle.pm_rows.specs.Values.{value_row}
use Rattle.pm_rows.specs.Variables.{variable_row}
use Rattle.law_engine.specs.Shapes.{EventsKeepShape, HasShape, MachinesHaveShape}
use Rattle.law_engine.proofs.LoadedSegments.{length-rows}
use Rattle.law_engine.proofs.StepLaws as disks

-- ---- a part of a row returns the old value of a measure

abbrev Stays : {A E V : Type 0} → (A → V) → V → Result A E → Type 0
Stays of v (Ok x) = of x ≡ v
Stays of v (Err e) = Unit {0}

then : {A B E V : Type 0} (of : B → V) (v : V) (r : Result A E) (f : A → Result B E) → ((x : A) → Stays of v (f x)) → Stays of v (r >>= f)
then of v (Ok x) f h = h x
then of v (Err e) f h = tt

after : {A B E V W : Type 0} (first : A → W) (w : W) (of : B → V) (v : V) (r : Result A E) (f : A → Result B E) → Stays first w r
    → ((x : A) → first x ≡ w → Stays of v (f x)) → Stays of v (r >>= f)
after first w of v (Ok x) f k h = h x k
after first w of v (Err e) f k h = tt

lifted : {A V : Type 0} (of : A → V) (v : V) (r : Result A ExecError) → Stays of v r → Stays of v (or_fails r)
lifted of v (Ok x) h = h
lifted of v (Err e) h = tt

either : {A : Type 0} (b : Bool) (xs ys : List A) (n : ℕ) → length xs ≡ n → length ys ≡ n → length (cond b xs ys) ≡ n
either true xs ys n h k = h
either false xs ys n h k = k

-- ---- slots

abbrev of_parts : Parts → ℕ
of_parts p = length p.places

abbrev of_reached : Reached → ℕ
of_reached p = length p.places

at_stays : (c : Parts) (call : Call) (at : Reached) (n : ℕ) → length at.places ≡ n → Stays of_parts n (called_at c call at)
unfolding called_at
at_stays c call at n h = then of_parts n (entered at.memory at.place at.loaded c.registers call) _ (λ e. h)

standing_stays : (c : Parts) (n : ℕ) (p : SegmentPlace) → Stays of_reached (length c.places) (reach_standing c n p)
unfolding reach_standing
standing_stays c n p = elim (cases_Bool (p.place == c.registers.seg)) [
  | inl e ↦ rw e refl
  | inr e ↦ rw e (then of_reached (length c.places) (demand (nat_lt p.count 65535) StackOverflow) _ (λ h. length-set c.places n _))
]

loading_stays : (c : Parts) (n : ℕ) (code : List ℕ) → Stays of_reached (length c.places) (reach_loading c n code)
unfolding reach_loading
loading_stays c n code =
    then of_reached (length c.places) (code_fits c.registers code) _ (λ k. length-set c.places n _)

slot_stays : (c : Parts) (call : Call) (n : ℕ) (code : Option (List ℕ)) (slot : Option (Option SegmentPlace))
    → Stays of_parts (length c.places) (called_slot c call n code slot)
unfolding called_standing called_loading
slot_stays c call n code None = tt
slot_stays c call n code (Some (Some p)) = after of_reached (length c.places) of_parts (length c.places) (reach_standing c n p) _ (standing_stays c n p)
    (λ at h. at_stays c call at (length c.places) h)
slot_stays c call n None (Some None) = tt
slot_stays c call n (Some code) (Some None) = after of_reached (length c.places) of_parts (length c.places) (reach_loading c n code) _ (loading_stays c n code)
    (λ at h. at_stays c call at (length c.places) h)

called_stays : (c : Parts) (call : Call) (code : Option (List ℕ)) → Stays of_parts (length c.places) (called c call code)
unfolding called
called_stays c (Cxp n p) code = slot_stays c (Cxp n p) n code _
called_stays c (Clp p) code = at_stays c (Clp p) (here c) (length c.places) refl
called_stays c (Cgp p) code = at_stays c (Cgp p) (here c) (length c.places) refl
called_stays c (Cbp p) code = at_stays c (Cbp p) (here c) (length c.places) refl
called_stays c (Cip p) code = at_stays c (Cip p) (here c) (length c.places) refl

lessened_size : (o : Option ℕ) (places : List (Option SegmentPlace)) → length (lessened o places) ≡ length places
lessened_size None places = refl
lessened_size (Some n) places = length-set places n _

released_size : (s : ℕ) (places : List (Option SegmentPlace)) → length (released s places) ≡ length places
unfolding released
released_size s places = lessened_size (position (stands_at s) places) places

returned_stays : (c : Parts) (words : ℕ) (base : Bool) → Stays of_parts (length c.places) (returned c words base)
unfolding returned
returned_stays c words base =
    then of_parts (length c.places) (demand (is_even c.registers.mp && nat_le (c.registers.mp + 12 + 2 * words) 65536) InvalidMemory) _ (λ h.
    then of_parts (length c.places) (demand (is_even (word_at c.memory (c.registers.mp + 10)) && nat_le (word_at c.memory (c.registers.mp + 10)) 65504)
    InvalidMemory) _ (λ k.
    then of_parts (length c.places) (demand (nat_le (c.registers.np + 2 * words) (word_at c.memory (c.registers.mp + 10))) StackOverflow) _ (λ l.
    either _ c.places (released c.registers.seg c.places) (length c.places) refl (released_size c.registers.seg c.places))))

exited_stays : (c : Parts) (p : Wanted) → Stays of_parts (length c.places) (exited c p)
unfolding exited
exited_stays c p =
    then of_parts (length c.places) (is_wanted c.memory p c.registers.seg c.registers.jtab) _ (λ h.
    then of_parts (length c.places) (walked_unless h c.memory p c.registers.mp) _ (λ m. refl))

keep_slot_stays : (c : Parts) (n : ℕ) (code : Option (List ℕ)) (slot : Option (Option SegmentPlace))
    → Stays of_parts (length c.places) (keep_slot c n code slot)
unfolding keep_standing keep_loading
keep_slot_stays c n code None = tt
keep_slot_stays c n code (Some (Some p)) = then of_parts (length c.places) (demand (nat_lt p.keeps 65535) StackOverflow) _ (λ h. length-set c.places n _)
keep_slot_stays c n None (Some None) = tt
keep_slot_stays c n (Some code) (Some None) =
    then of_parts (length c.places) (code_fits c.registers code) _ (λ k. length-set c.places n _)

kept_stays : (c : Parts) (n : ℕ) (code : Option (List ℕ)) → Stays of_parts (length c.places) (segment_kept c n code)
unfolding segment_kept
kept_stays c n code = keep_slot_stays c n code (slice_get c.places n)

unkeep_slot_stays : (c : Parts) (n size : ℕ) (slot : Option (Option SegmentPlace)) → Stays of_parts (length c.places) (unkeep_slot c n size slot)
unfolding unkeep_standing
unkeep_slot_stays c n size None = tt
unkeep_slot_stays c n size (Some None) = tt
unkeep_slot_stays c n size (Some (Some p)) = then of_parts (length c.places) (demand (nat_lt 0 p.keeps) NoSegment) _ (λ h. length-set c.places n (less_kept p))

unkept_stays : (c : Parts) (n size : ℕ) → Stays of_parts (length c.places) (segment_unkept c n size)
unfolding segment_unkept
unkept_stays c n size = unkeep_slot_stays c n size (slice_get c.places n)

-- ---- disks

abbrev of_served : Served → ℕ
of_served s = length s.devices.disks

counted : (d : disks.Disks) (r : Result Served Pause) → disks.Stays disks.of_served d r → Stays of_served (length d) r
counted d (Ok x) h = ap length h
counted d (Err e) h = tt

counted_row : (d : disks.Disks) (r : Result Served ExecError) → disks.Stays disks.of_served d r → Stays of_served (length d) (or_fails r)
counted_row d (Ok x) h = ap length h
counted_row d (Err e) h = tt

to_disk_size : (k : ℕ) (o : Option (List ℕ)) (t : Transfer) (m : List ℕ) (d : Devices) → length (to_disk k o t m d).devices.disks ≡ length d.disks
to_disk_size k None t m d = refl
to_disk_size k (Some image) t m d = elim (cases_Bool (can_move image t)) [ inl e ↦ rw e (length-set d.disks k _) | inr e ↦ rw e refl ]

written_size : (p : Port) (t : Transfer) (m : List ℕ) (d : Devices) → length (unit_written p t m d).devices.disks ≡ length d.disks
unfolding unit_written
written_size Unknown t m d = refl
written_size Absent t m d = refl
written_size Printer t m d = refl
written_size Console t m d = refl
written_size Terminal t m d = refl
written_size (Disk k) t m d = to_disk_size k (image_at d k) t m d

write_stays : (s : Served) → Stays of_served (length s.devices.disks) (write_row s)
unfolding write_row
write_stays s = then of_served (length s.devices.disks) (or_fails (ordered s.memory s.registers.sp)) _
    (λ o. written_size (unit_of o.unit) o.transfer s.memory s.devices)

units_stay : (o : OnUnits) (s : Served) → Stays of_served (length s.devices.disks) (units_row o s)
unfolding units_row
units_stay units.Read s = counted s.devices.disks (read_row s) (disks.read_row_stays s)
units_stay units.Write s = write_stays s
units_stay units.Time s = counted_row s.devices.disks (time_row s) (disks.time_stays s)
units_stay units.Busy s = counted_row s.devices.disks (busy_row s) (disks.busy_stays s)
units_stay units.Wait s = counted_row s.devices.disks (wait_row s) (disks.wait_stays s)
units_stay units.Clear s = counted_row s.devices.disks (clear_row s) (disks.clear_stays s)

-- ---- the standard procedures

record Counts : Type 0 where
  pub places : ℕ
  pub disks : ℕ

abbrev of_reach : Reach → Counts
of_reach s = record { places = length s.places; disks = length s.devices.disks }

exit_stays : (s : Reach) → Stays of_reach (of_reach s) (exit_row s)
unfolding exit_row
exit_stays s = then of_reach (of_reach s) (pop s.memory s.registers.sp) _ (λ p.
    then of_reach (of_reach s) (pop s.memory p.above) _ (λ n.
    after of_parts (length s.places) of_reach (of_reach s) (exited (standard.reach_parts s (record s.registers { sp = n.above }))
    (record { segment = n.word; procedure = p.word })) _
    (exited_stays (standard.reach_parts s (record s.registers { sp = n.above })) (record { segment = n.word; procedure = p.word }))
    (λ left e. ap (λ k. record { places = k; disks = length s.devices.disks }) e)))

keep_stays : (s : Reach) → Stays of_reach (of_reach s) (keep_row s)
unfolding keep_row
keep_stays s = then of_reach (of_reach s) (pop s.memory s.registers.sp) _ (λ n.
    then of_reach (of_reach s) (slot_code n.word s.places s.rows s.devices) _ (λ code.
    after of_parts (length s.places) of_reach (of_reach s) (segment_kept (standard.reach_parts s (record s.registers { sp = n.above })) n.word code) _
    (kept_stays (standard.reach_parts s (record s.registers { sp = n.above })) n.word code)
    (λ left e. ap (λ k. record { places = k; disks = length s.devices.disks }) e)))

unkeep_stays : (s : Reach) → Stays of_reach (of_reach s) (unkeep_row s)
unfolding unkeep_row
unkeep_stays s = then of_reach (of_reach s) (pop s.memory s.registers.sp) _ (λ n.
    let size = length_of (slice_get s.rows n.word) in
    after of_parts (length s.places) of_reach (of_reach s) (segment_unkept (standard.reach_parts s (record s.registers { sp = n.above })) n.word size) _
    (unkept_stays (standard.reach_parts s (record s.registers { sp = n.above })) n.word size)
    (λ left e. ap (λ k. record { places = k; disks = length s.devices.disks }) e))

procedure_stays : (p : Procedure) (s : Reach) → Stays of_reach (of_reach s) (procedure_row p s)
unfolding procedure_row
procedure_stays (procedure.OnMemory o) s = lifted of_reach (of_reach s) (on_memory s (memory_row o s.memory s.registers)) (
    then of_reach (of_reach s) (memory_row o s.memory s.registers) _ (λ t. refl))
procedure_stays (procedure.OnUnits o) s =
    after of_served (length s.devices.disks) of_reach (of_reach s) (units_row o (served s.memory s.registers s.devices)) _
    (units_stay o (served s.memory s.registers s.devices)) (λ t e. ap (λ k. record { places = length s.places; disks = k }) e)
procedure_stays procedure.Exit s = lifted of_reach (of_reach s) (exit_row s) (exit_stays s)
procedure_stays procedure.Keep s = lifted of_reach (of_reach s) (keep_row s) (keep_stays s)
procedure_stays procedure.Unkeep s = lifted of_reach (of_reach s) (unkeep_row s) (unkeep_stays s)
procedure_stays procedure.Unimplemented s = tt

-- ---- the rows of the table

record Shape : Type 0 where
  pub rows : List SlotRow
  pub places : ℕ
  pub disks : ℕ

abbrev shape : State → Shape
shape s = record { rows = s.rows; places = length s.places; disks = length s.devices.disks }

stack_stays : (s : State) (r : Result (List ℕ × ℕ) ExecError) → Stays shape (shape s) (or_fails (on_stack s r))
stack_stays s r = lifted shape (shape s) (on_stack s r) (then shape (shape s) r _ (λ t. refl))

registers_stay : (s : State) (r : Result Registers ExecError) → Stays shape (shape s) (or_fails (on_registers s r))
registers_stay s r = lifted shape (shape s) (on_registers s r) (then shape (shape s) r _ (λ t. refl))

with_places : (s : State) (n : ℕ) → n ≡ length s.places → record { rows = s.rows; places = n; disks = length s.devices.disks } ≡ shape s
with_places s n h = ap (λ k. record { rows = s.rows; places = k; disks = length s.devices.disks }) h

call_stays : (c : Call) (s : State) → Stays shape (shape s) (call_row c s)
unfolding call_row
call_stays c s = then shape (shape s) (code_needed c s.places s.rows s.devices) _ (λ code.
    after of_parts (length s.places) shape (shape s) (called (parts s) c code) _ (called_stays (parts s) c code) (λ p e. with_places s (length p.places) e))

return_stays : (r : Return) (s : State) → Stays shape (shape s) (return_row r s)
return_stays r s =
    after of_parts (length s.places) shape (shape s) (returned (parts s) (words_of_return r) (is_base_return r)) _
    (returned_stays (parts s) (words_of_return r) (is_base_return r)) (λ p e. with_places s (length p.places) e)

standard_stays : (n : ℕ) (s : State) → Stays shape (shape s) (standard_row n s)
standard_stays n s =
    after of_reach (of_reach (reach s)) shape (shape s) (procedure_row (procedure_numbered n) (reach s)) _ (procedure_stays (procedure_numbered n) (reach s))
    (λ t e. ap (λ (k : Counts). record { rows = s.rows; places = k.places; disks = k.disks }) e)

performed_stays : (o : Operation) (s : State) → Stays shape (shape s) (performed o s)
performed_stays (operation.Arithmetic o) s = stack_stays s (arithmetic_row o s.memory s.registers.sp s.registers.np)
performed_stays (operation.Variable o) s = stack_stays s (variable_row o s.memory s.registers)
performed_stays (operation.Pointer o) s = stack_stays s (pointer_row o s.memory s.registers.sp s.registers.np)
performed_stays (operation.Value o) s = stack_stays s (value_row o s.memory s.registers.sp s.registers.np)
performed_stays (operation.Literal o) s = stack_stays s (literal_row o s.memory s.registers.sp s.registers.np)
performed_stays (operation.Jump o) s = registers_stay s (jump_row o s.memory s.registers)
performed_stays (operation.Call o) s = lifted shape (shape s) (call_row o s) (call_stays o s)
performed_stays (operation.Return o) s = lifted shape (shape s) (return_row o s) (return_stays o s)
performed_stays (operation.Standard n) s = standard_stays n s
performed_stays operation.Nothing s = refl
performed_stays operation.End s = refl
performed_stays operation.Unimplemented s = tt

-- ---- events

settled_stays : (s : State) (r : Result State Pause) → Stays shape (shape s) r → shape (settled s r).0 ≡ shape s
settled_stays s (Ok t) h = h
settled_stays s (Err (Fails e)) h = refl
settled_stays s (Err Waits) h = refl

fetched_stays : (s : State) (r : Result Instr ExecError) → Stays shape (shape s) (or_fails r >>= λ i. row i s)
unfolding row
fetched_stays s (Err e) = tt
fetched_stays s (Ok i) = performed_stays (operation_of i) (past_instruction i s)

status_stays : (a : Status) (s : State) → shape (at_status a s).0 ≡ shape s
unfolding executed
status_stays status.Running s = settled_stays s (executed s) (fetched_stays s (fetched s.memory s.registers.ipc))
status_stays status.Ended s = refl
status_stays (status.Halted e) s = refl

step_stays : (s : State) → shape (stepped s).0 ≡ shape s
unfolding stepped
step_stays s = status_stays s.status s

with_disks : (s : State) (n : ℕ) → n ≡ length s.devices.disks → record { rows = s.rows; places = length s.places; disks = n } ≡ shape s
with_disks s n h = ap (λ k. record { rows = s.rows; places = length s.places; disks = k }) h

mount_stays : (p : Port) (image : List ℕ) (s : State) → shape (or_same s (mounted_at p image s.devices)) ≡ shape s
mount_stays Console image s = refl
mount_stays Terminal image s = refl
mount_stays Absent image s = refl
mount_stays Printer image s = refl
mount_stays Unknown image s = refl
mount_stays (Disk k) image s = elim (cases_Bool (is_none (image_at s.devices k))) [
  | inl e ↦ rw e (with_disks s _ (length-set s.devices.disks k (Some image)))
  | inr e ↦ rw e refl
]

eject_stays : (p : Port) (d : Devices) → length (ejected_at p d).disks ≡ length d.disks
eject_stays Console d = refl
eject_stays Terminal d = refl
eject_stays Absent d = refl
eject_stays Printer d = refl
eject_stays Unknown d = refl
eject_stays (Disk k) d = length-set d.disks k None

next_stays : (s : State) (e : Event) → shape (next s e) ≡ shape s
unfolding mounted ejected
next_stays s Step = step_stays s
next_stays s (Key b) = refl
next_stays s (Poke a w) = elim (cases_Bool (is_even a)) [ inl e ↦ rw e refl | inr e ↦ rw e refl ]
next_stays s (Mount unit image) = mount_stays (unit_of unit) image s
next_stays s (Eject unit) = with_disks s _ (eject_stays (unit_of unit) s.devices)

all_stay : (s : State) (es : List Event) → shape (after_all s es) ≡ shape s
all_stay s [] = refl
all_stay s (e ∷ es) = all_stay (next s e) es ∙ next_stays s e

pub events_keep_shape : EventsKeepShape
events_keep_shape s es =
    let same = all_stay s es in
    record {
      rows = ap (λ (x : Shape). x.rows) same;
      places = ap (λ (x : Shape). x.places) same;
      disks = ap (λ (x : Shape). x.disks) same;
    }

-- ---- the starts

has_shape : (s : State) (es : List Event) → length s.rows ≡ 16 → length s.places ≡ 16 → length s.devices.disks ≡ 6 → HasShape (after_all s es)
has_shape s es rows places disks =
    let t = after_all s es in
    let kept = events_keep_shape s es in
    let size = kept.places ∙ places in
    record {
      rows = ap length kept.rows ∙ rows;
      places = size;
      disks = kept.disks ∙ disks;
      none_above = λ n h. ap place_in (slice_get_past t.places n (omega (arith, h, size)));
    }

abbrev pub ok : {A : Type 0} → A → Result A BootFault
ok x = Ok x

pub ok_same : {A : Type 0} (x y : A) → ok x ≡ ok y → x ≡ y
ok_same x y h = cc

pub bound : {A B E : Type 0} (r : Result A E) (rest : A → Result B E) (y : B) → (r >>= rest) ≡ Ok y → (x : A) × (r ≡ Ok x) × (rest x ≡ Ok y)
bound (Ok x) rest y h = (x, refl, h)
bound (Err e) rest y h = cc

pub chosen : {A : Type 0} (b : Bool) (f : BootFault) (x y : A) → cond b (Err f) (ok x) ≡ Ok y → x ≡ y
chosen true f x y h = cc
chosen false f x y h = ok_same x y h

raw_shape : (bytes : List ℕ) (s : State) → raw_start bytes ≡ Ok s → shape s ≡ record { rows = s.rows; places = 16; disks = 6 } × (length s.rows ≡ 16)
unfolding raw_start
raw_shape bytes s h = let same = chosen (nat_lt 60000 (length bytes)) _ _ s h in
    (subst (λ (k : State). shape k ≡ record { rows = k.rows; places = 16; disks = 6 }) same refl, subst (λ (k : State). length k.rows ≡ 16) same refl)

-- The state `s` is the result of a boot of the code file `name` on the unit `unit`.
pub record IsBooted (images : List (Option (List ℕ))) (unit : ℕ) (name : List ℕ) (s : State) : Type 0 where
  pub entry : Entry
  pub file : List ℕ
  pub found : code_file images unit name ≡ Ok (entry, file)
  pub rows : s.rows ≡ rows_below unit entry.first file 16
  pub places : length s.places ≡ 16
  pub disks : s.devices.disks ≡ images

pub parts_there : (p : Parts) (r : Result Parts ExecError) → or_exec r ≡ Ok p → r ≡ Ok p
parts_there p (Ok q) h = ap Ok (ok_same q p h)
parts_there p (Err e) h = cc

kept_by : (r : Result Parts ExecError) (p : Parts) (n : ℕ) → Stays of_parts n r → r ≡ Ok p → length p.places ≡ n
kept_by (Ok q) p n k h = let same : q ≡ p = cc in ap of_parts (sym same) ∙ k
kept_by (Err e) p n k h = cc

pub booted : (images : List (Option (List ℕ))) (unit : ℕ) (name : List ℕ) (clock : ℕ) (s : State) → boot_start images unit name clock ≡ Ok s
    → IsBooted images unit name s
unfolding boot_start begun first_parts
booted images unit name clock s h =
    let b = bound (begun images unit name) _ s h in
    let f = bound (code_file images unit name) _ b.0 b.1 in
    let p = bound (or_exec (called first_parts (Cxp 1 1) (segment_in f.0.1 1))) _ b.0 f.2 in
    let pair = ok_same _ b.0 p.2 in
    let same = ok_same _ s b.2 in
    let start = parts_there p.0 (called first_parts (Cxp 1 1) (segment_in f.0.1 1)) p.1 in
    let size = kept_by (called first_parts (Cxp 1 1) (segment_in f.0.1 1)) p.0 16 (called_stays first_parts (Cxp 1 1) (segment_in f.0.1 1)) start in
    record {
      entry = f.0.0;
      file = f.0.1;
      found = f.1;
      rows = sym (ap (λ (k : State). k.rows) same) ∙ sym (ap (λ (k : Parts × List SlotRow). k.1) pair);
      places = sym (ap (λ (k : State). length k.places) same) ∙ sym (ap (λ (k : Parts × List SlotRow). length k.0.places) pair) ∙ size;
      disks = sym (ap (λ (k : State). k.devices.disks) same);
    }

pub machines_have_shape : MachinesHaveShape
machines_have_shape = record {
  raw = λ bytes s es h. let is = raw_shape bytes s h in has_shape s es is.1 (ap (λ (x : Shape). x.places) is.0) (ap (λ (x : Shape). x.disks) is.0);
  booted = λ images unit name clock s es six h.
      let is = booted images unit name clock s h in
      has_shape s es (ap length is.rows ∙ length-rows unit is.entry.first is.file 16) is.places (ap length is.disks ∙ six);
}
