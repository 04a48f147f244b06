-- Lemmas for the parts of the state that each event leaves unchanged.
use Rattle.std.proofs.Common.{◌≡◌, inl, inr, ℕ, ◌+◌, ◌*◌, ◌/◌, ◌-◌, ◌%◌, ◌==◌, ◌&&◌, Bool, true, false, cond, nat_lt, nat_le, List, [], length, Option, Some}
use Rattle.std.proofs.Common.{None, is_none, Result, Ok, Err, refl, ap, ◌∙◌, arith}
use Rattle.std.specs.Prelude.{slice_get, slice_set}
use Rattle.std.proofs.lemmas.Bool.{cases_Bool}
use Rattle.pm_words.specs.declared.error.ExecError.{ExecError}
use Rattle.pm_words.specs.declared.error.ExecError.TheVariants.{NoSegment, InvalidMemory, StackOverflow, UserIo}
use Rattle.pm_words.specs.Words.{word_at}
use Rattle.pm_words.specs.Stack.{◌>>=◌, demand, is_even, pop}
use Rattle.pm_opcode.specs.declared.instr.Instr.{Instr}
use Rattle.pm_opcode.specs.declared.operation.Operation.{Operation}
use Rattle.pm_opcode.specs.declared.operation.Operation.TheVariants as operation
use Rattle.pm_families.specs.declared.families.Return.{Return}
use Rattle.pm_opcode.specs.Operations.{operation_of}
use Rattle.pm_calls.specs.declared.registers.Registers.{Registers}
use Rattle.pm_calls.specs.declared.exits.Wanted.{Wanted}
use Rattle.pm_calls.specs.declared.frames.SegmentPlace.{SegmentPlace}
use Rattle.pm_families.specs.declared.families.Call.{Call}
use Rattle.pm_families.specs.declared.families.Call.TheVariants.{Clp, Cgp, Cbp, Cip, Cxp}
use Rattle.pm_calls.specs.Places.{Parts}
use Rattle.pm_calls.specs.Calls.{Reached, called, called_at, called_loading, called_slot, called_standing}
use Rattle.pm_calls.specs.Links.{static_link}
use Rattle.pm_calls.specs.Tables.{attributes}
use Rattle.pm_calls.specs.Calls.{frame_top, framed, is_base, kept_below, procedure_called, entered, here, reach_loading, reach_standing, code_fits}
use Rattle.pm_calls.specs.Exits.{exited, is_wanted, walked_unless}
use Rattle.pm_calls.specs.Keeps.{keep_loading, keep_slot, keep_standing, segment_kept, segment_unkept, unkeep_slot, unkeep_standing}
use Rattle.pm_stdproc.specs.Loads.{length_of, slot_code}
use Rattle.pm_calls.specs.Returns.{returned}
use Rattle.pm_units.specs.Traps.{Pause, Fails, Waits, or_fails}
use Rattle.pm_units.specs.Devices.{Devices, cleared, ejected, ejected_at, image_at, mounted, mounted_at, unit_of}
use Rattle.pm_units.specs.Transfers.{can_move, to_disk, unit_written}
use Rattle.pm_stdproc.specs.UnitRows.{Served, after_transfer, busy_row, clear_row, ordered, read_row, served, time_row, units_row, wait_row, write_row}
use Rattle.pm_stdproc.specs.Procedures.{Reach, exit_row, keep_row, on_memory, procedure_numbered, procedure_row, unkeep_row}
use Rattle.pm_stdproc.specs.Procedures as standard
use Rattle.pm_stdproc.specs.MemoryRows.{memory_row}
use Rattle.pm_units.specs.declared.ports.Port.{Port}
use Rattle.pm_units.specs.declared.ports.Port.TheVariants.{Console, Terminal, Absent, Printer, Disk, Unknown}
use Rattle.pm_units.specs.declared.transfers.Transfer.{Transfer}
use Rattle.pm_stdproc.specs.declared.procedures.OnUnits.{OnUnits}
use Rattle.pm_stdproc.specs.declared.procedures.OnUnits.TheVariants as units
use Rattle.pm_stdproc.specs.declared.procedures.Procedure.{Procedure}
use Rattle.pm_stdproc.specs.declared.procedures.Procedure.TheVariants as procedure
use Rattle.pm_machine.specs.declared.state.Status.{Status}
use Rattle.pm_machine.specs.declared.state.Status.TheVariants as status
use Rattle.pm_machine.specs.State.{State}
use Rattle.pm_rows.specs.Arithmetic.{arithmetic_row}
use Rattle.pm_machine.specs.Events.{next, or_same}
use Rattle.pm_machine.specs.Events.Event.{Step, Key, Poke, Mount, Eject}
use Rattle.pm_rows.specs.Jumps.{case_row, case_target, jump_row, jumped, short_row, target}
use Rattle.pm_families.specs.declared.families.Condition.TheVariants.{Always, IfFalse, IfDifferent, IfEqual}
use Rattle.pm_families.specs.declared.families.Jump.{Jump}
use Rattle.pm_families.specs.declared.families.Jump.TheVariants as jump
use Rattle.pm_rows.specs.Literals.{literal_row}
use Rattle.pm_stdproc.specs.Loads.{code_needed}
use Rattle.pm_rows.specs.Pointers.{pointer_row}
use Rattle.pm_machine.specs.Procedures.{call_row, is_base_return, parts, reach, return_row, with_reach, words_of_return}
use Rattle.pm_machine.specs.Rows.{fetched, on_registers, on_stack, performed, row}
use Rattle.pm_machine.specs.Steps.{at_status, executed, settled, step_counted, stepped}
use Rattle.pm_rows.specs.Values.{value_row}
use Rattle.pm_rows.specs.Variables.{variable_row}
use Rattle.law_engine.specs.Writes.{EventsLeaveTheRest, LeavesTheRest, Writes, disk_named, event_writes, frame_row, is_disk, instruction_writes, memory_writes}
use Rattle.law_engine.specs.Writes.{nothing, operation_writes, outcome_writes, procedure_writes, stack_row, step_alone, step_writes, taking_row, unit_writes}
use Rattle.pm_stdproc.specs.declared.procedures.OnMemory.{OnMemory}
use Rattle.pm_stdproc.specs.declared.procedures.OnMemory.TheVariants as memory
use Rattle.pm_stdproc.specs.declared.rows.Order.{Order}
use Rattle.pm_stdproc.specs.MemoryRows.{check_io_row, fill_row, filled_with, mark_row, move_bytes_row, moved, new_row, passed_by, pop_place, push_row}
use Rattle.pm_stdproc.specs.MemoryRows.{release_row, scan_row}
use Rattle.pm_units.specs.Transfers.{Moved, from_disk, from_queue, unit_read}
use Rattle.pm_words.specs.Words.{moved_down, moved_up, with_word}
use Rattle.pm_words.specs.Stack.{load, push, store}
use Rattle.pm_words.proofs.Laws.{word_at-with_word_other}
use Rattle.std.proofs.lemmas.List.{get_or-set_other}
use Rattle.std.proofs.lemmas.Bool.Decides.{nat_tests}

-- ---- the state with the parts blanked that may be written

abbrev blank_registers : Writes → Registers → Registers
blank_registers w r = record {
  sp = cond w.sp 0 r.sp;
  ipc = cond w.ipc 0 r.ipc;
  seg = cond w.frame 0 r.seg;
  jtab = cond w.frame 0 r.jtab;
  mp = cond w.frame 0 r.mp;
  base = cond w.frame 0 r.base;
  np = cond w.np 0 r.np;
  ioresult = cond w.ioresult 0 r.ioresult;
}

abbrev blank_devices : Writes → Bool → Devices → Devices
blank_devices w dsk d = record {
  disks = cond dsk [] d.disks;
  queue = cond w.queue [] d.queue;
  console = cond w.console [] d.console;
  printer = cond w.printer [] d.printer;
  clock = d.clock;
}

-- Returns the state `s` with the parts that `w` names, except memory and disks, set to fixed values. If `mem` is true,
-- the memory is replaced by `[]`. If `dsk` is true, the disks are replaced by `[]`.
abbrev blanked : Writes → Bool → Bool → State → State
blanked w mem dsk s = record {
  memory = cond mem [] s.memory;
  registers = blank_registers w s.registers;
  steps = cond w.steps 0 s.steps;
  status = cond w.status status.Running s.status;
  places = cond w.places [] s.places;
  rows = s.rows;
  devices = blank_devices w dsk s.devices;
}

unless : {A : Type 0} (b : Bool) (z x y : A) → cond b z x ≡ cond b z y → b ≡ false → x ≡ y
unless true z x y h e = cc
unless false z x y h e = h

-- If `s` and `t` are equal after `blanked`, and the words and disks that `w` does not name are the same, then all parts
-- that `w` does not name are the same.
left : (w : Writes) (mem dsk : Bool) (s t : State) → blanked w mem dsk t ≡ blanked w mem dsk s
    → ((x : ℕ) → x % 2 ≡ 0 → w.words x ≡ false → word_at t.memory x ≡ word_at s.memory x)
    → ((k : ℕ) → w.disks k ≡ false → image_at t.devices k ≡ image_at s.devices k) → LeavesTheRest w s t
left w mem dsk s t same words disks = record {
  words = words;
  sp = unless w.sp 0 t.registers.sp s.registers.sp (ap (λ (k : State). k.registers.sp) same);
  ipc = unless w.ipc 0 t.registers.ipc s.registers.ipc (ap (λ (k : State). k.registers.ipc) same);
  seg = unless w.frame 0 t.registers.seg s.registers.seg (ap (λ (k : State). k.registers.seg) same);
  jtab = unless w.frame 0 t.registers.jtab s.registers.jtab (ap (λ (k : State). k.registers.jtab) same);
  mp = unless w.frame 0 t.registers.mp s.registers.mp (ap (λ (k : State). k.registers.mp) same);
  base = unless w.frame 0 t.registers.base s.registers.base (ap (λ (k : State). k.registers.base) same);
  np = unless w.np 0 t.registers.np s.registers.np (ap (λ (k : State). k.registers.np) same);
  ioresult = unless w.ioresult 0 t.registers.ioresult s.registers.ioresult (ap (λ (k : State). k.registers.ioresult) same);
  places = unless w.places [] t.places s.places (ap (λ (k : State). k.places) same);
  rows = ap (λ (k : State). k.rows) same;
  disks = disks;
  queue = unless w.queue [] t.devices.queue s.devices.queue (ap (λ (k : State). k.devices.queue) same);
  console = unless w.console [] t.devices.console s.devices.console (ap (λ (k : State). k.devices.console) same);
  printer = unless w.printer [] t.devices.printer s.devices.printer (ap (λ (k : State). k.devices.printer) same);
  clock = ap (λ (k : State). k.devices.clock) same;
  steps = unless w.steps 0 t.steps s.steps (ap (λ (k : State). k.steps) same);
  status = unless w.status status.Running t.status s.status (ap (λ (k : State). k.status) same);
}

-- If `s` and `t` are equal after `blanked` with `mem` and `dsk` false, then all parts that `w` does not name are the
-- same.
left_words : (w : Writes) (s t : State) → blanked w false false t ≡ blanked w false false s → LeavesTheRest w s t
left_words w s t same =
    left w false false s t same (λ x even h. ap (λ (k : State). word_at k.memory x) same) (λ k h. ap (λ (q : State). image_at q.devices k) same)

left_all : (w : Writes) (s t : State) → blanked w true false t ≡ blanked w true false s → ((x : ℕ) → w.words x ≡ true) → LeavesTheRest w s t
left_all w s t same all =
    left w true false s t same (λ x even h. written (w.words x) _ _ (all x) h) (λ k h. ap (λ (q : State). image_at q.devices k) same)
  where
    written : (b : Bool) (x y : ℕ) → b ≡ true → b ≡ false → x ≡ y
    written true x y e h = cc
    written false x y e h = cc

left_disks : (w : Writes) (s t : State) → blanked w false true t ≡ blanked w false true s
    → ((k : ℕ) → w.disks k ≡ false → image_at t.devices k ≡ image_at s.devices k) → LeavesTheRest w s t
left_disks w s t same disks = left w false true s t same (λ x even h. ap (λ (k : State). word_at k.memory x) same) disks

-- ---- the result of a part of a row

abbrev Gives : {A E : Type 0} → (A → Type 0) → Result A E → Type 0
Gives p (Ok x) = p x
Gives p (Err e) = Unit {0}

abbrev Stays : {A E V : Type 0} → (A → V) → V → Result A E → Type 0
Stays of v (Ok x) = of x ≡ v
Stays of v (Err e) = Unit {0}

then : {A B E V : Type 0} (of : B → V) (v : V) (r : Result A E) (f : A → Result B E) → ((x : A) → Stays of v (f x)) → Stays of v (r >>= f)
then of v (Ok x) f h = h x
then of v (Err e) f h = tt

after : {A B E V W : Type 0} (first : A → W) (w : W) (of : B → V) (v : V) (r : Result A E) (f : A → Result B E) → Stays first w r
    → ((x : A) → first x ≡ w → Stays of v (f x)) → Stays of v (r >>= f)
after first w of v (Ok x) f k h = h x k
after first w of v (Err e) f k h = tt

lifted : {A V : Type 0} (of : A → V) (v : V) (r : Result A ExecError) → Stays of v r → Stays of v (or_fails r)
lifted of v (Ok x) h = h
lifted of v (Err e) h = tt

-- ---- calls and returns leave NP and IORESULT

record Rest : Type 0 where
  pub np : ℕ
  pub ioresult : ℕ

abbrev of_registers : Registers → Rest
of_registers r = record { np = r.np; ioresult = r.ioresult }

abbrev of_pair : List ℕ × Registers → Rest
of_pair t = of_registers t.1

abbrev of_parts : Parts → Rest
of_parts p = of_registers p.registers

entered_stays : (m : List ℕ) (s loaded : ℕ) (r : Registers) (call : Call) → Stays of_pair (of_registers r) (entered m s loaded r call)
unfolding entered framed
entered_stays m s loaded r call =
    then of_pair (of_registers r) (attributes m s (procedure_called call)) _ (λ t.
    then of_pair (of_registers r) (static_link call m r t.level) _ (λ static.
    then of_pair (of_registers r) (demand (nat_le (r.sp + t.parameters) 65504) InvalidMemory) _ (λ h.
    then of_pair (of_registers r) (demand (nat_le (r.np + kept_below (is_base call t.level) + (t.locals + t.parameters + 12))
    (frame_top loaded r.sp t.parameters)) StackOverflow) _
    (λ k. refl))))

at_stays : (c : Parts) (call : Call) (at : Reached) → Stays of_parts (of_parts c) (called_at c call at)
unfolding called_at
at_stays c call at = after of_pair (of_parts c) of_parts (of_parts c) (entered at.memory at.place at.loaded c.registers call) _
    (entered_stays at.memory at.place at.loaded c.registers call) (λ e same. same)

slot_stays : (c : Parts) (call : Call) (n : ℕ) (code : Option (List ℕ)) (slot : Option (Option SegmentPlace))
    → Stays of_parts (of_parts c) (called_slot c call n code slot)
unfolding called_standing called_loading
slot_stays c call n code None = tt
slot_stays c call n code (Some (Some p)) = then of_parts (of_parts c) (reach_standing c n p) _ (λ at. at_stays c call at)
slot_stays c call n None (Some None) = tt
slot_stays c call n (Some code) (Some None) = then of_parts (of_parts c) (reach_loading c n code) _ (λ at. at_stays c call at)

called_stays : (c : Parts) (call : Call) (code : Option (List ℕ)) → Stays of_parts (of_parts c) (called c call code)
unfolding called
called_stays c (Cxp n p) code = slot_stays c (Cxp n p) n code _
called_stays c (Clp p) code = at_stays c (Clp p) (here c)
called_stays c (Cgp p) code = at_stays c (Cgp p) (here c)
called_stays c (Cbp p) code = at_stays c (Cbp p) (here c)
called_stays c (Cip p) code = at_stays c (Cip p) (here c)

returned_stays : (c : Parts) (words : ℕ) (base : Bool) → Stays of_parts (of_parts c) (returned c words base)
unfolding returned
returned_stays c words base =
    then of_parts (of_parts c) (demand (is_even c.registers.mp && nat_le (c.registers.mp + 12 + 2 * words) 65536) InvalidMemory) _ (λ h.
    then of_parts (of_parts c) (demand (is_even (word_at c.memory (c.registers.mp + 10)) && nat_le (word_at c.memory (c.registers.mp + 10)) 65504)
    InvalidMemory) _ (λ k.
    then of_parts (of_parts c) (demand (nat_le (c.registers.np + 2 * words) (word_at c.memory (c.registers.mp + 10))) StackOverflow) _ (λ l. refl)))

-- ---- EXIT, and segments that procedure 21 loads

-- Returns the registers `r` with SP and IPC set to 0.
abbrev other_registers : Registers → Registers
other_registers r = record r { sp = 0; ipc = 0 }

record Exited : Type 0 where
  pub registers : Registers
  pub places : List (Option SegmentPlace)

abbrev of_exited : Parts → Exited
of_exited p = record { registers = other_registers p.registers; places = p.places }

exited_stays : (c : Parts) (p : Wanted) → Stays of_exited (of_exited c) (exited c p)
unfolding exited
exited_stays c p =
    then of_exited (of_exited c) (is_wanted c.memory p c.registers.seg c.registers.jtab) _ (λ h.
    then of_exited (of_exited c) (walked_unless h c.memory p c.registers.mp) _ (λ m. refl))

abbrev of_kept : Parts → Registers
of_kept p = other_registers p.registers

kept_stays : (c : Parts) (n : ℕ) (code : Option (List ℕ)) (slot : Option (Option SegmentPlace))
    → Stays of_kept (of_kept c) (keep_slot c n code slot)
unfolding keep_standing keep_loading
kept_stays c n code None = tt
kept_stays c n code (Some (Some p)) = then of_kept (of_kept c) (demand (nat_lt p.keeps 65535) StackOverflow) _ (λ h. refl)
kept_stays c n None (Some None) = tt
kept_stays c n (Some code) (Some None) = then of_kept (of_kept c) (code_fits c.registers code) _ (λ k. refl)

record Unkept : Type 0 where
  pub memory : List ℕ
  pub registers : Registers

abbrev of_unkept : Parts → Unkept
of_unkept p = record { memory = p.memory; registers = other_registers p.registers }

unkept_stays : (c : Parts) (n size : ℕ) (slot : Option (Option SegmentPlace)) → Stays of_unkept (of_unkept c) (unkeep_slot c n size slot)
unfolding unkeep_standing
unkept_stays c n size None = tt
unkept_stays c n size (Some None) = tt
unkept_stays c n size (Some (Some p)) = then of_unkept (of_unkept c) (demand (nat_lt 0 p.keeps) NoSegment) _ (λ h. refl)

-- ---- the standard procedures on memory

record OfMemory : Type 0 where
  pub memory : List ℕ
  pub registers : Registers

abbrev memory_blank : Writes → Bool → List ℕ × Registers → OfMemory
memory_blank w mem t = record { memory = cond mem [] t.0; registers = blank_registers w t.1 }

-- Returns whether a procedure on memory can write words of memory.
abbrev in_memory : OnMemory → Bool
in_memory memory.CheckIo = false
in_memory memory.New = true
in_memory memory.MoveLeft = true
in_memory memory.MoveRight = true
in_memory memory.Fill = true
in_memory memory.Scan = true
in_memory memory.Mark = true
in_memory memory.Release = false
in_memory memory.IoResult = true
in_memory memory.Halt = false
in_memory memory.FreeMemory = true

abbrev memory_of : OnMemory → List ℕ × Registers → OfMemory
memory_of o t = memory_blank (memory_writes o) (in_memory o) t

abbrev at_ipc : Registers → ℕ → Registers
at_ipc r x = record r { ipc = x }

moved_stays : (of : List ℕ × Registers → OfMemory) (v : OfMemory) (move : List ℕ → ℕ → ℕ → ℕ → List ℕ) (m : List ℕ) (r : Registers)
    → ((n : List ℕ) (sp : ℕ) → of (n, record r { sp = sp }) ≡ v) → Stays of v (move_bytes_row move m r)
unfolding move_bytes_row
moved_stays of v move m r h =
    then of v (pop m r.sp) _ (λ n. then of v (pop_place m n.above) _ (λ to. then of v (pop_place m to.above) _ (λ from.
    then of v (moved move m from.word to.word n.word) _ (λ k. h k from.above))))

memory_stays : (o : OnMemory) (m : List ℕ) (r : Registers) (x : ℕ) → Stays (memory_of o) (memory_of o (m, r)) (memory_row o m (at_ipc r x))
unfolding memory_row check_io_row new_row fill_row scan_row mark_row release_row push_row
memory_stays memory.CheckIo m r x = then (memory_of memory.CheckIo) (memory_of memory.CheckIo (m, r)) (demand (r.ioresult == 0) UserIo) _ (λ h. refl)
memory_stays memory.New m r x =
    let of = memory_of memory.New in
    let v = of (m, r) in
    then of v (pop m r.sp) _ (λ n. then of v (pop m n.above) _ (λ a. then of v (store m a.word r.np) _ (λ k.
    then of v (demand (nat_le (r.np + 2 * n.word) a.above) StackOverflow) _ (λ h. refl))))
memory_stays memory.MoveLeft m r x = moved_stays (memory_of memory.MoveLeft) (memory_of memory.MoveLeft (m, r)) moved_up m (at_ipc r x) (λ n sp. refl)
memory_stays memory.MoveRight m r x = moved_stays (memory_of memory.MoveRight) (memory_of memory.MoveRight (m, r)) moved_down m (at_ipc r x) (λ n sp. refl)
memory_stays memory.Fill m r x =
    let of = memory_of memory.Fill in
    let v = of (m, r) in
    then of v (pop m r.sp) _ (λ ch. then of v (pop m ch.above) _ (λ n. then of v (pop_place m n.above) _ (λ p.
    then of v (filled_with m p.word n.word (ch.word % 256)) _ (λ k. refl))))
memory_stays memory.Scan m r x =
    let of = memory_of memory.Scan in
    let v = of (m, r) in
    then of v (pop m r.sp) _ (λ mask. then of v (pop_place m mask.above) _ (λ p. then of v (pop m p.above) _ (λ ch. then of v (pop m ch.above) _ (λ kind.
    then of v (pop m kind.above) _ (λ limit. then of v (passed_by m p.word limit.word (ch.word % 256) (kind.word % 2 == 0)) _ (λ k.
    then of v (push m limit.above r.np k) _ (λ n. refl)))))))
memory_stays memory.Mark m r x =
    let of = memory_of memory.Mark in
    let v = of (m, r) in
    then of v (pop m r.sp) _ (λ a. then of v (store m a.word r.np) _ (λ n. refl))
memory_stays memory.Release m r x =
    let of = memory_of memory.Release in
    let v = of (m, r) in
    then of v (pop m r.sp) _ (λ a. then of v (load m a.word) _ (λ w. then of v (demand (is_even w) InvalidMemory) _ (λ h.
    then of v (demand (nat_le w a.above) StackOverflow) _ (λ k. refl))))
memory_stays memory.IoResult m r x = then (memory_of memory.IoResult) (memory_of memory.IoResult (m, r)) (push m r.sp r.np r.ioresult) _ (λ n. refl)
memory_stays memory.Halt m r x = tt
memory_stays memory.FreeMemory m r x = then (memory_of memory.FreeMemory) (memory_of memory.FreeMemory (m, r)) (push m r.sp r.np ((r.sp - r.np) / 2)) _
    (λ n. refl)

-- ---- the standard procedures on units

record OfUnits : Type 0 where
  pub memory : List ℕ
  pub registers : Registers
  pub devices : Devices

abbrev units_blank : Writes → Bool → Bool → Served → OfUnits
units_blank w mem dsk s = record { memory = cond mem [] s.memory; registers = blank_registers w s.registers; devices = blank_devices w dsk s.devices }

abbrev on_memory_too : OnUnits → Bool
on_memory_too units.Read = true
on_memory_too units.Write = false
on_memory_too units.Time = true
on_memory_too units.Busy = true
on_memory_too units.Wait = false
on_memory_too units.Clear = false

abbrev on_disks_too : OnUnits → Bool
on_disks_too units.Read = false
on_disks_too units.Write = true
on_disks_too units.Time = false
on_disks_too units.Busy = false
on_disks_too units.Wait = false
on_disks_too units.Clear = false

abbrev units_of : OnUnits → State → Served → OfUnits
units_of o z s = units_blank (unit_writes o z) (on_memory_too o) (on_disks_too o) s

abbrev read_devices : Devices → Devices
read_devices d = record d { queue = []; console = [] }

abbrev of_moved : Moved → Devices
of_moved t = read_devices t.devices

queue_stays : (echo : Bool) (t : Transfer) (m : List ℕ) (d : Devices) → Stays of_moved (read_devices d) (from_queue echo t m d)
queue_stays echo t m d = elim (cases_Bool (nat_lt (length d.queue) t.count)) [ inl e ↦ rw e tt | inr e ↦ rw e refl ]

disk_stays : (o : Option (List ℕ)) (t : Transfer) (m : List ℕ) (d : Devices) → read_devices (from_disk o t m d).devices ≡ read_devices d
disk_stays None t m d = refl
disk_stays (Some image) t m d = elim (cases_Bool (can_move image t)) [ inl e ↦ rw e refl | inr e ↦ rw e refl ]

read_stays : (p : Port) (t : Transfer) (m : List ℕ) (d : Devices) → Stays of_moved (read_devices d) (unit_read p t m d)
unfolding unit_read
read_stays Unknown t m d = refl
read_stays Absent t m d = refl
read_stays Printer t m d = refl
read_stays Console t m d = queue_stays true t m d
read_stays Terminal t m d = queue_stays false t m d
read_stays (Disk k) t m d = disk_stays (image_at d k) t m d

record OfWritten : Type 0 where
  pub memory : List ℕ
  pub devices : Devices

abbrev of_written : Moved → OfWritten
of_written t = record { memory = t.memory; devices = record t.devices { disks = []; console = []; printer = [] } }

to_disk_stays : (k : ℕ) (o : Option (List ℕ)) (t : Transfer) (m : List ℕ) (d : Devices)
    → of_written (to_disk k o t m d) ≡ record { memory = m; devices = record d { disks = []; console = []; printer = [] } }
to_disk_stays k None t m d = refl
to_disk_stays k (Some image) t m d = elim (cases_Bool (can_move image t)) [ inl e ↦ rw e refl | inr e ↦ rw e refl ]

written_stays : (p : Port) (t : Transfer) (m : List ℕ) (d : Devices)
    → of_written (unit_written p t m d) ≡ record { memory = m; devices = record d { disks = []; console = []; printer = [] } }
unfolding unit_written
written_stays Unknown t m d = refl
written_stays Absent t m d = refl
written_stays Printer t m d = refl
written_stays Console t m d = refl
written_stays Terminal t m d = refl
written_stays (Disk k) t m d = to_disk_stays k (image_at d k) t m d

units_stay : (o : OnUnits) (z : State) (m : List ℕ) (r : Registers) (x : ℕ) (d : Devices)
    → Stays (units_of o z) (units_of o z (served m r d)) (units_row o (served m (at_ipc r x) d))
unfolding units_row read_row write_row time_row busy_row wait_row clear_row
units_stay units.Read z m r x d =
    let of = units_of units.Read z in
    let v = of (served m r d) in
    then of v (or_fails (ordered m r.sp)) _ (λ o.
    after of_moved (read_devices d) of v (unit_read (unit_of o.unit) o.transfer m d) _ (read_stays (unit_of o.unit) o.transfer m d)
    (λ t e. ap (λ (k : Devices). record { memory = []; registers = blank_registers (unit_writes units.Read z) r; devices = k }) e))
units_stay units.Write z m r x d =
    let of = units_of units.Write z in
    let v = of (served m r d) in
    then of v (or_fails (ordered m r.sp)) _ (λ o.
    ap (λ (k : OfWritten). record { memory = k.memory; registers = blank_registers (unit_writes units.Write z) r; devices = k.devices })
    (written_stays (unit_of o.unit) o.transfer m d))
units_stay units.Time z m r x d =
    let of = units_of units.Time z in
    let v = of (served m r d) in
    lifted of v _ (then of v (pop m r.sp) _ (λ b. then of v (pop m b.above) _ (λ a. then of v (demand (is_even a.word && is_even b.word) InvalidMemory) _
    (λ h. refl))))
units_stay units.Busy z m r x d =
    let of = units_of units.Busy z in
    let v = of (served m r d) in
    lifted of v _ (then of v (pop m r.sp) _ (λ unit. then of v (push m unit.above r.np 0) _ (λ n. refl)))
units_stay units.Wait z m r x d =
    let of = units_of units.Wait z in
    let v = of (served m r d) in
    lifted of v _ (then of v (pop m r.sp) _ (λ unit. refl))
units_stay units.Clear z m r x d =
    let of = units_of units.Clear z in
    let v = of (served m r d) in
    lifted of v _ (then of v (pop m r.sp) _ (λ unit.
    ap (λ (k : Devices). record { memory = m; registers = blank_registers (unit_writes units.Clear z) r; devices = k }) (clear_stays (unit_of unit.word))))
  where
    clear_stays : (p : Port) → record ((cleared p d).1) { queue = [] } ≡ record d { queue = [] }
    clear_stays Unknown = refl
    clear_stays Absent = refl
    clear_stays Printer = refl
    clear_stays Console = refl
    clear_stays Terminal = refl
    clear_stays (Disk k) = refl

-- If UNITWRITE writes to disk `k`, then each other disk `n` is unchanged.
written_disk : (k : ℕ) (o : Option (List ℕ)) (t : Transfer) (m : List ℕ) (d : Devices) (n : ℕ) → (n == k) ≡ false
    → image_at (to_disk k o t m d).devices n ≡ image_at d n
written_disk k None t m d n h = refl
written_disk k (Some image) t m d n h = elim (cases_Bool (can_move image t)) [
  | inl e ↦ rw e (get_or-set_other d.disks k n _ None (λ same. absurd (other n k h same)))
  | inr e ↦ rw e refl
]
  where
    other : (n k : ℕ) → (n == k) ≡ false → n ≡ k → ⊥
    other n k h same = grind (arith, nat_tests)

written_disks : (p : Port) (t : Transfer) (m : List ℕ) (d : Devices) (n : ℕ) → is_disk p n ≡ false → image_at (unit_written p t m d).devices n ≡ image_at d n
unfolding unit_written
written_disks Unknown t m d n h = refl
written_disks Absent t m d n h = refl
written_disks Printer t m d n h = refl
written_disks Console t m d n h = refl
written_disks Terminal t m d n h = refl
written_disks (Disk k) t m d n h = written_disk k (image_at d k) t m d n h

abbrev KeepsDisks : Result Order ExecError → Devices → Devices → Type 0
KeepsDisks r d e = (k : ℕ) → disk_named r k ≡ false → image_at e k ≡ image_at d k

named_disks : (r : Result Order ExecError) (m : List ℕ) (g : Registers) (d : Devices)
    → Gives (λ (t : Served). KeepsDisks r d t.devices)
    (or_fails r >>= λ o. Ok (after_transfer (served m g d) o.sp (unit_written (unit_of o.unit) o.transfer m d)))
named_disks (Ok o) m g d = λ k h. written_disks (unit_of o.unit) o.transfer m d k h
named_disks (Err e) m g d = tt

-- ---- instructions that succeed

-- Returns the state `s` with the IPC `x`.
abbrev with_ipc : State → ℕ → State
with_ipc s x = record s { registers = at_ipc s.registers x }

both : {A : Type 0} (b : Bool) (z x y : A) → b ≡ true → cond b z x ≡ cond b z y
both true z x y h = refl
both false z x y h = cc

counted_blank : (w : Writes) (mem dsk : Bool) (t : State) → w.steps ≡ true → blanked w mem dsk (step_counted t) ≡ blanked w mem dsk t
counted_blank w mem dsk t h = ap (λ (n : ℕ). record {
  memory = cond mem [] t.memory;
  registers = blank_registers w t.registers;
  steps = n;
  status = cond w.status status.Running t.status;
  places = cond w.places [] t.places;
  rows = t.rows;
  devices = blank_devices w dsk t.devices;
}) (both w.steps 0 (step_counted t).steps t.steps h)

abbrev Goes : Writes → State → Result State Pause → Type 0
Goes w s r = Gives (λ (t : State). LeavesTheRest w s (step_counted t)) r

goes_all : (w : Writes) (s : State) (r : Result State Pause) → Stays (blanked w true false) (blanked w true false s) r → w.steps ≡ true
    → ((x : ℕ) → w.words x ≡ true) → Goes w s r
goes_all w s (Ok t) h steps all = left_all w s (step_counted t) (counted_blank w true false t steps ∙ h) all
goes_all w s (Err e) h steps all = tt

goes_on : (w : Writes) (s : State) (r : Result State Pause) → Stays (blanked w false false) (blanked w false false s) r → w.steps ≡ true → Goes w s r
goes_on w s (Ok t) h steps = left_words w s (step_counted t) (counted_blank w false false t steps ∙ h)
goes_on w s (Err e) h steps = tt

goes_disks : (w : Writes) (s : State) (r : Result State Pause) → Stays (blanked w false true) (blanked w false true s) r
    → Gives (λ (t : State). (k : ℕ) → w.disks k ≡ false → image_at t.devices k ≡ image_at s.devices k) r → w.steps ≡ true → Goes w s r
goes_disks w s (Ok t) h disks steps = left_disks w s (step_counted t) (counted_blank w false true t steps ∙ h) disks
goes_disks w s (Err e) h disks steps = tt

-- ---- the rows of the table

stack_goes : (s : State) (x : ℕ) (r : Result (List ℕ × ℕ) ExecError) → Goes stack_row s (or_fails (on_stack (with_ipc s x) r))
stack_goes s x r =
    let of = blanked stack_row true false in
    goes_all stack_row s _ (lifted of (of s) (on_stack (with_ipc s x) r) (then of (of s) r _ (λ t. refl))) refl (λ y. refl)

jumped_stays : (b : Bool) (m : List ℕ) (r : Registers) (offset : ℕ) (v : Registers) → other_registers r ≡ v → Stays other_registers v (jumped b m r offset)
jumped_stays true m r offset v h = then other_registers v (target m r offset) _ (λ ipc. h)
jumped_stays false m r offset v h = h

jump_stays : (o : Jump) (m : List ℕ) (r : Registers) → Stays other_registers (other_registers r) (jump_row o m r)
unfolding jump_row short_row case_row
jump_stays (jump.Short Always offset) m r = jumped_stays true m r offset (other_registers r) refl
jump_stays (jump.Short IfFalse offset) m r = then other_registers (other_registers r) (pop m r.sp) _ (λ a. jumped_stays _ m _ offset (other_registers r) refl)
jump_stays (jump.Short IfDifferent offset) m r = then other_registers (other_registers r) (pop m r.sp) _ (λ b.
    then other_registers (other_registers r) (pop m b.above) _ (λ a. jumped_stays _ m _ offset (other_registers r) refl))
jump_stays (jump.Short IfEqual offset) m r = then other_registers (other_registers r) (pop m r.sp) _ (λ b.
    then other_registers (other_registers r) (pop m b.above) _ (λ a. jumped_stays _ m _ offset (other_registers r) refl))
jump_stays (jump.Case low high table) m r = then other_registers (other_registers r) (pop m r.sp) _ (λ a.
    then other_registers (other_registers r) (case_target low high table m a.word) _ (λ ipc. refl))

jump_goes : (s : State) (x : ℕ) (o : Jump) → Goes taking_row s (or_fails (on_registers (with_ipc s x) (jump_row o s.memory (at_ipc s.registers x))))
jump_goes s x o =
    let of = blanked taking_row false false in
    goes_on taking_row s _ (lifted of (of s) (on_registers (with_ipc s x) (jump_row o s.memory (at_ipc s.registers x)))
    (after other_registers (other_registers s.registers) of (of s) (jump_row o s.memory (at_ipc s.registers x)) _ (jump_stays o s.memory (at_ipc s.registers x))
    (λ r e. ap (λ (k : Registers). record {
      memory = s.memory;
      registers = k;
      steps = 0;
      status = s.status;
      places = s.places;
      rows = s.rows;
      devices = s.devices;
    }) e))) refl

abbrev rest_of : Status → State → Rest → State
rest_of a s k = record {
  memory = [];
  registers = record { sp = 0; ipc = 0; seg = 0; jtab = 0; mp = 0; base = 0; np = k.np; ioresult = k.ioresult };
  steps = 0;
  status = a;
  places = [];
  rows = s.rows;
  devices = s.devices;
}

call_goes : (s : State) (x : ℕ) (c : Call) → Goes frame_row s (or_fails (call_row c (with_ipc s x)))
unfolding call_row
call_goes s x c =
    let of = blanked frame_row true false in
    goes_all frame_row s _ (lifted of (of s) _ (then of (of s) (code_needed c s.places s.rows s.devices) _ (λ code.
    after of_parts (of_parts (parts (with_ipc s x))) of (of s) (called (parts (with_ipc s x)) c code) _ (called_stays (parts (with_ipc s x)) c code)
    (λ p e. ap (rest_of s.status s) e)))) refl (λ y. refl)

return_goes : (s : State) (x : ℕ) (r : Return) → Goes (operation_writes (operation.Return r) s) s (or_fails (return_row r (with_ipc s x)))
return_goes s x r =
    let w = operation_writes (operation.Return r) s in
    let of = blanked w true false in
    goes_all w s _ (lifted of (of s) _ (
    after of_parts (of_parts (parts (with_ipc s x))) of (of s) (returned (parts (with_ipc s x)) (words_of_return r) (is_base_return r)) _
    (returned_stays (parts (with_ipc s x)) (words_of_return r) (is_base_return r)) (λ p e. ap (rest_of status.Running s) e))) refl (λ y. refl)

-- ---- standard procedures

-- Returns the result of the standard procedure `p` in the state `s`.
abbrev stood : Procedure → State → Result State Pause
stood p s = procedure_row p (reach s) >>= λ t. Ok (with_reach t s)

memory_blanks : (o : OnMemory) (s : State) (x : ℕ)
    → Stays (blanked (memory_writes o) (in_memory o) false) (blanked (memory_writes o) (in_memory o) false s) (stood (procedure.OnMemory o) (with_ipc s x))
unfolding procedure_row
memory_blanks o s x =
    let w = memory_writes o in
    let of = blanked w (in_memory o) false in
    let of_reach = λ (t : Reach). of (with_reach t (with_ipc s x)) in
    after of_reach (of s) of (of s) (or_fails (on_memory (reach (with_ipc s x)) (memory_row o s.memory (at_ipc s.registers x)))) _
    (lifted of_reach (of s) (on_memory (reach (with_ipc s x)) (memory_row o s.memory (at_ipc s.registers x)))
    (after (memory_of o) (memory_of o (s.memory, s.registers)) of_reach (of s) (memory_row o s.memory (at_ipc s.registers x)) _
    (memory_stays o s.memory s.registers x)
    (λ t e. ap (λ (k : OfMemory). record {
      memory = k.memory;
      registers = k.registers;
      steps = cond w.steps 0 s.steps;
      status = cond w.status status.Running s.status;
      places = cond w.places [] s.places;
      rows = s.rows;
      devices = blank_devices w false s.devices;
    }) e)))
    (λ t e. e)

memory_goes : (o : OnMemory) (s : State) (x : ℕ) → Goes (memory_writes o) s (stood (procedure.OnMemory o) (with_ipc s x))
unfolding procedure_row memory_row
memory_goes memory.CheckIo s x = goes_on (memory_writes memory.CheckIo) s _ (memory_blanks memory.CheckIo s x) refl
memory_goes memory.New s x = goes_all (memory_writes memory.New) s _ (memory_blanks memory.New s x) refl (λ y. refl)
memory_goes memory.MoveLeft s x = goes_all (memory_writes memory.MoveLeft) s _ (memory_blanks memory.MoveLeft s x) refl (λ y. refl)
memory_goes memory.MoveRight s x = goes_all (memory_writes memory.MoveRight) s _ (memory_blanks memory.MoveRight s x) refl (λ y. refl)
memory_goes memory.Fill s x = goes_all (memory_writes memory.Fill) s _ (memory_blanks memory.Fill s x) refl (λ y. refl)
memory_goes memory.Scan s x = goes_all (memory_writes memory.Scan) s _ (memory_blanks memory.Scan s x) refl (λ y. refl)
memory_goes memory.Mark s x = goes_all (memory_writes memory.Mark) s _ (memory_blanks memory.Mark s x) refl (λ y. refl)
memory_goes memory.Release s x = goes_on (memory_writes memory.Release) s _ (memory_blanks memory.Release s x) refl
memory_goes memory.IoResult s x = goes_all (memory_writes memory.IoResult) s _ (memory_blanks memory.IoResult s x) refl (λ y. refl)
memory_goes memory.Halt s x = tt
memory_goes memory.FreeMemory s x = goes_all (memory_writes memory.FreeMemory) s _ (memory_blanks memory.FreeMemory s x) refl (λ y. refl)

unit_blanks : (o : OnUnits) (s : State) (x : ℕ)
    → Stays (blanked (unit_writes o s) (on_memory_too o) (on_disks_too o)) (blanked (unit_writes o s) (on_memory_too o) (on_disks_too o) s)
    (stood (procedure.OnUnits o) (with_ipc s x))
unfolding procedure_row
unit_blanks o s x =
    let w = unit_writes o s in
    let of = blanked w (on_memory_too o) (on_disks_too o) in
    let of_reach = λ (t : Reach). of (with_reach t (with_ipc s x)) in
    after of_reach (of s) of (of s) (standard.on_units (reach (with_ipc s x)) (units_row o (served s.memory (at_ipc s.registers x) s.devices))) _
    (after (units_of o s) (units_of o s (served s.memory s.registers s.devices)) of_reach (of s) (units_row o (served s.memory
    (at_ipc s.registers x) s.devices)) _
    (units_stay o s s.memory s.registers x s.devices)
    (λ t e. ap (λ (k : OfUnits). record {
      memory = k.memory;
      registers = k.registers;
      steps = cond w.steps 0 s.steps;
      status = cond w.status status.Running s.status;
      places = cond w.places [] s.places;
      rows = s.rows;
      devices = k.devices;
    }) e))
    (λ t e. e)

passes : {A B E : Type 0} (p : A → Type 0) (q : B → Type 0) (r : Result A E) (f : A → Result B E) → Gives p r → ((x : A) → p x → Gives q (f x))
    → Gives q (r >>= f)
passes p q (Ok x) f h k = k x h
passes p q (Err e) f h k = tt

write_disks : (s : State) (x : ℕ)
    → Gives (λ (t : State). KeepsDisks (ordered s.memory s.registers.sp) s.devices t.devices) (stood (procedure.OnUnits units.Write) (with_ipc s x))
unfolding procedure_row units_row write_row
write_disks s x =
    let order = ordered s.memory s.registers.sp in
    passes (λ (t : Reach). KeepsDisks order s.devices t.devices) (λ (t : State). KeepsDisks order s.devices t.devices)
    (standard.on_units (reach (with_ipc s x)) (units_row units.Write (served s.memory (at_ipc s.registers x) s.devices))) _
    (passes (λ (t : Served). KeepsDisks order s.devices t.devices) (λ (t : Reach). KeepsDisks order s.devices t.devices)
    (units_row units.Write (served s.memory (at_ipc s.registers x) s.devices)) _ (named_disks order s.memory (at_ipc s.registers x) s.devices) (λ t h. h))
    (λ t h. h)

unit_goes : (o : OnUnits) (s : State) (x : ℕ) → Goes (unit_writes o s) s (stood (procedure.OnUnits o) (with_ipc s x))
unit_goes units.Read s x = goes_all (unit_writes units.Read s) s _ (unit_blanks units.Read s x) refl (λ y. refl)
unit_goes units.Write s x = goes_disks (unit_writes units.Write s) s _ (unit_blanks units.Write s x) (write_disks s x) refl
unit_goes units.Time s x = goes_all (unit_writes units.Time s) s _ (unit_blanks units.Time s x) refl (λ y. refl)
unit_goes units.Busy s x = goes_all (unit_writes units.Busy s) s _ (unit_blanks units.Busy s x) refl (λ y. refl)
unit_goes units.Wait s x = goes_on (unit_writes units.Wait s) s _ (unit_blanks units.Wait s x) refl
unit_goes units.Clear s x = goes_on (unit_writes units.Clear s) s _ (unit_blanks units.Clear s x) refl

exit_goes : (s : State) (x : ℕ) → Goes stack_row s (stood procedure.Exit (with_ipc s x))
unfolding procedure_row exit_row
exit_goes s x =
    let of = blanked stack_row true false in
    let of_reach = λ (t : Reach). of (with_reach t (with_ipc s x)) in
    goes_all stack_row s _ (after of_reach (of s) of (of s) (or_fails (exit_row (reach (with_ipc s x)))) _
    (lifted of_reach (of s) (exit_row (reach (with_ipc s x))) (then of_reach (of s) (pop s.memory s.registers.sp) _ (λ p.
    then of_reach (of s) (pop s.memory p.above) _ (λ n.
    let c = standard.reach_parts (reach (with_ipc s x)) (record (at_ipc s.registers x) { sp = n.above }) in
    let named : Wanted = record { segment = n.word; procedure = p.word } in
    after of_exited (of_exited c) of_reach (of s) (exited c named) _ (exited_stays c named)
    (λ l e. ap (λ (k : Exited). record {
      memory = [];
      registers = k.registers;
      steps = 0;
      status = s.status;
      places = k.places;
      rows = s.rows;
      devices = s.devices;
    }) e)))))
    (λ t e. e)) refl (λ y. refl)

keep_goes : (s : State) (x : ℕ) → Goes (procedure_writes procedure.Keep s) s (stood procedure.Keep (with_ipc s x))
unfolding procedure_row keep_row segment_kept
keep_goes s x =
    let w = procedure_writes procedure.Keep s in
    let of = blanked w true false in
    let of_reach = λ (t : Reach). of (with_reach t (with_ipc s x)) in
    goes_all w s _ (after of_reach (of s) of (of s) (or_fails (keep_row (reach (with_ipc s x)))) _
    (lifted of_reach (of s) (keep_row (reach (with_ipc s x))) (then of_reach (of s) (pop s.memory s.registers.sp) _ (λ n.
    then of_reach (of s) (slot_code n.word s.places s.rows s.devices) _ (λ code.
    let c = standard.reach_parts (reach (with_ipc s x)) (record (at_ipc s.registers x) { sp = n.above }) in
    after of_kept (of_kept c) of_reach (of s) (segment_kept c n.word code) _ (kept_stays c n.word code (slice_get c.places n.word))
    (λ l e. ap (λ (k : Registers). record { memory = []; registers = k; steps = 0; status = s.status; places = []; rows = s.rows; devices = s.devices }) e)))))
    (λ t e. e)) refl (λ y. refl)

unkeep_goes : (s : State) (x : ℕ) → Goes (procedure_writes procedure.Unkeep s) s (stood procedure.Unkeep (with_ipc s x))
unfolding procedure_row unkeep_row segment_unkept
unkeep_goes s x =
    let w = procedure_writes procedure.Unkeep s in
    let of = blanked w false false in
    let of_reach = λ (t : Reach). of (with_reach t (with_ipc s x)) in
    goes_on w s _ (after of_reach (of s) of (of s) (or_fails (unkeep_row (reach (with_ipc s x)))) _
    (lifted of_reach (of s) (unkeep_row (reach (with_ipc s x))) (then of_reach (of s) (pop s.memory s.registers.sp) _ (λ n.
    let size = length_of (slice_get s.rows n.word) in
    let c = standard.reach_parts (reach (with_ipc s x)) (record (at_ipc s.registers x) { sp = n.above }) in
    after of_unkept (of_unkept c) of_reach (of s) (segment_unkept c n.word size) _ (unkept_stays c n.word size (slice_get c.places n.word))
    (λ l e. ap (λ (k : Unkept). record {
      memory = k.memory;
      registers = k.registers;
      steps = 0;
      status = s.status;
      places = [];
      rows = s.rows;
      devices = s.devices;
    }) e))))
    (λ t e. e)) refl

procedure_goes : (p : Procedure) (s : State) (x : ℕ) → Goes (procedure_writes p s) s (stood p (with_ipc s x))
unfolding procedure_row
procedure_goes (procedure.OnMemory o) s x = memory_goes o s x
procedure_goes (procedure.OnUnits o) s x = unit_goes o s x
procedure_goes procedure.Exit s x = exit_goes s x
procedure_goes procedure.Keep s x = keep_goes s x
procedure_goes procedure.Unkeep s x = unkeep_goes s x
procedure_goes procedure.Unimplemented s x = tt

-- ---- a step

operation_goes : (o : Operation) (s : State) (x : ℕ) → Goes (operation_writes o s) s (performed o (with_ipc s x))
operation_goes (operation.Arithmetic o) s x = stack_goes s x (arithmetic_row o s.memory s.registers.sp s.registers.np)
operation_goes (operation.Variable o) s x = stack_goes s x (variable_row o s.memory (at_ipc s.registers x))
operation_goes (operation.Pointer o) s x = stack_goes s x (pointer_row o s.memory s.registers.sp s.registers.np)
operation_goes (operation.Value o) s x = stack_goes s x (value_row o s.memory s.registers.sp s.registers.np)
operation_goes (operation.Literal o) s x = stack_goes s x (literal_row o s.memory s.registers.sp s.registers.np)
operation_goes (operation.Jump o) s x = jump_goes s x o
operation_goes (operation.Call o) s x = call_goes s x o
operation_goes (operation.Return o) s x = return_goes s x o
operation_goes (operation.Standard n) s x = procedure_goes (procedure_numbered n) s x
operation_goes operation.Nothing s x = left_words step_alone s (step_counted (with_ipc s x)) refl
operation_goes operation.End s x = left_words (operation_writes operation.End s) s (step_counted (record (with_ipc s x) { status = status.Ended })) refl
operation_goes operation.Unimplemented s x = tt

fetched_goes : (s : State) (r : Result Instr ExecError) → Goes (instruction_writes r s) s (or_fails r >>= λ i. row i s)
unfolding row
fetched_goes s (Ok i) = operation_goes (operation_of i) s ((s.registers.ipc + i.len) % 65536)
fetched_goes s (Err e) = tt

settled_leaves : (s : State) (r : Result State Pause) → Goes (instruction_writes (fetched s.memory s.registers.ipc) s) s r
    → LeavesTheRest (outcome_writes r s) s (settled s r).0
settled_leaves s (Ok t) h = h
settled_leaves s (Err (Fails e)) h = left_words (record nothing { status = true }) s (record s { status = status.Halted e }) refl
settled_leaves s (Err Waits) h = left_words nothing s s refl

status_leaves : (a : Status) (s : State) → LeavesTheRest (step_writes a s) s (at_status a s).0
unfolding executed
status_leaves status.Running s = settled_leaves s (executed s) (fetched_goes s (fetched s.memory s.registers.ipc))
status_leaves status.Ended s = left_words nothing s s refl
status_leaves (status.Halted e) s = left_words nothing s s refl

step_leaves : (s : State) → LeavesTheRest (step_writes s.status s) s (stepped s).0
unfolding stepped
step_leaves s = status_leaves s.status s

-- ---- the events of the operator

poke_leaves : (s : State) (a w : ℕ) → LeavesTheRest (event_writes s (Poke a w)) s (next s (Poke a w))
poke_leaves s a w = elim (cases_Bool (is_even a)) [
  | inl e ↦ rw e (left (event_writes s (Poke a w)) true false s (record s { memory = with_word s.memory a w }) refl
      (λ x even h. word_at-with_word_other s.memory a x w (evenly a e) even (differs x a h)) (λ k h. refl))
  | inr e ↦ rw e (left_words (event_writes s (Poke a w)) s s refl)
]
  where
    evenly : (a : ℕ) → is_even a ≡ true → a % 2 ≡ 0
    evenly a e = grind (arith, nat_tests)

    differs : (x a : ℕ) → (x == a) ≡ false → x ≡ a → ⊥
    differs x a h same = grind (arith, nat_tests)

disk_set : (s : State) (k : ℕ) (o : Option (List ℕ))
    → LeavesTheRest (record nothing { disks = is_disk (Disk k) }) s (record s { devices = record s.devices { disks = slice_set s.devices.disks k o } })
disk_set s k o =
    left (record nothing { disks = is_disk (Disk k) }) false true s _ refl (λ x even h. refl)
    (λ n h. get_or-set_other s.devices.disks k n o None (differs n k h))
  where
    differs : (x a : ℕ) → (x == a) ≡ false → x ≡ a → ⊥
    differs x a h same = grind (arith, nat_tests)

mount_leaves : (p : Port) (image : List ℕ) (s : State) → LeavesTheRest (record nothing { disks = is_disk p }) s (or_same s (mounted_at p image s.devices))
mount_leaves Console image s = left_words _ s s refl
mount_leaves Terminal image s = left_words _ s s refl
mount_leaves Absent image s = left_words _ s s refl
mount_leaves Printer image s = left_words _ s s refl
mount_leaves Unknown image s = left_words _ s s refl
mount_leaves (Disk k) image s = elim (cases_Bool (is_none (image_at s.devices k))) [
  | inl e ↦ rw e (disk_set s k (Some image))
  | inr e ↦ rw e (left_words _ s s refl)
]

eject_leaves : (p : Port) (s : State) → LeavesTheRest (record nothing { disks = is_disk p }) s (record s { devices = ejected_at p s.devices })
eject_leaves Console s = left_words _ s s refl
eject_leaves Terminal s = left_words _ s s refl
eject_leaves Absent s = left_words _ s s refl
eject_leaves Printer s = left_words _ s s refl
eject_leaves Unknown s = left_words _ s s refl
eject_leaves (Disk k) s = disk_set s k None

pub events_leave_the_rest : EventsLeaveTheRest
unfolding mounted ejected
events_leave_the_rest s Step = step_leaves s
events_leave_the_rest s (Key b) = left_words (event_writes s (Key b)) s (next s (Key b)) refl
events_leave_the_rest s (Poke a w) = poke_leaves s a w
events_leave_the_rest s (Mount unit image) = mount_leaves (unit_of unit) image s
events_leave_the_rest s (Eject unit) = eject_leaves (unit_of unit) s
