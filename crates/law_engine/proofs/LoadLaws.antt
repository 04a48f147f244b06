-- Lemmas for the memory in which loaded code is stored.
use Rattle.std.proofs.Common.{◌≡◌, ◌<◌, ℕ, List, Option, Some, None, Result, Ok, Err, refl, sym, ap, ◌∙◌, subst, arith}
use Rattle.std.specs.Prelude.{slice_get}
use Rattle.std.proofs.lemmas.List.{length-replicate}
use Rattle.std.proofs.lemmas.List.Elements.{All-replicate}
use Rattle.pm_words.specs.declared.error.ExecError.{ExecError}
use Rattle.pm_words.specs.Words.{IsMemory, zero_words}
use Rattle.pm_words.specs.Stack.{◌>>=◌}
use Rattle.pm_words.proofs.Laws.{IsMemory-with_word}
use Rattle.pm_opcode.specs.declared.instr.Instr.{Instr}
use Rattle.pm_opcode.specs.declared.operation.Operation.{Operation}
use Rattle.pm_opcode.specs.declared.operation.Operation.TheVariants.{Call}
use Rattle.pm_opcode.specs.Operations.{operation_of}
use Rattle.pm_families.specs.declared.families.Call as calls
use Rattle.pm_families.specs.declared.families.Call.TheVariants.{Cxp}
use Rattle.pm_calls.specs.declared.frames.SegmentPlace.{SegmentPlace}
use Rattle.pm_calls.specs.Places.{Parts, place_in, placed}
use Rattle.pm_calls.specs.Calls.{called, called_slot}
use Rattle.pm_calls.specs.Laws.{IsCode}
use Rattle.pm_calls.proofs.LoadLaws.{loaded_code_stands}
use Rattle.pm_volume.specs.declared.entry.Entry.{Entry}
use Rattle.pm_codefile.specs.Dictionary.{segment_in}
use Rattle.pm_units.specs.Traps.{or_fails}
use Rattle.pm_machine.specs.declared.state.BootFault.{BootFault}
use Rattle.pm_stdproc.specs.declared.loads.SlotRow.{SlotRow}
use Rattle.pm_machine.specs.declared.state.Status.TheVariants.{Running}
use Rattle.pm_machine.specs.declared.state.Stop.TheVariants.{Went}
use Rattle.pm_machine.specs.State.{State}
use Rattle.pm_machine.specs.Boot.{begun, boot_start, code_file, first_parts, or_exec, rows_below}
use Rattle.pm_machine.specs.Events.{Event, after_all}
use Rattle.pm_stdproc.specs.Loads.{code_needed}
use Rattle.pm_machine.specs.Procedures.{call_row, parts, with_parts}
use Rattle.pm_machine.specs.Rows.{fetched, past_instruction, performed, row}
use Rattle.pm_machine.specs.Start.{with_system_frame}
use Rattle.pm_machine.specs.Steps.{at_status, executed, settled, stepped}
use Rattle.law_engine.proofs.LoadedSegments.{found, loads_give_segments}
use Rattle.law_engine.specs.Loads.{BootsLoadSegment, StandsBelow, StepsLoadSegments}
use Rattle.law_engine.proofs.Bytes.{end_fits, file_fits, segment_fits}
use Rattle.law_engine.proofs.ShapeLaws.{booted, bound, events_keep_shape, ok_same, parts_there}

abbrev okay : Option (List ℕ) → Result (Option (List ℕ)) ExecError
okay x = Ok x

abbrev done : State → Result State ExecError
done x = Ok x

same_entry : (r : Result (Entry × List ℕ) BootFault) (x y : Entry × List ℕ) → r ≡ Ok x → r ≡ Ok y → x ≡ y
same_entry r x y h k = ok_same x y (sym h ∙ k)

-- The rows of the dictionary of a machine that was booted from `file` are the same after any events.
pub booted_rows : (images : List (Option (List ℕ))) (unit : ℕ) (name : List ℕ) (clock : ℕ) (s t : State) (es : List Event) (entry : Entry) (file : List ℕ) →
    boot_start images unit name clock ≡ Ok s → code_file images unit name ≡ Ok (entry, file) → t ≡ after_all s es → t.rows ≡ rows_below unit entry.first file 16
booted_rows images unit name clock s t es entry file h found now =
    let is = booted images unit name clock s h in
    let same = same_entry (code_file images unit name) (is.entry, is.file) (entry, file) is.found found in
    ap (λ (k : State). k.rows) now ∙ (events_keep_shape s es).rows ∙ is.rows ∙ ap (λ (k : Entry × List ℕ). rows_below unit k.0.first k.1 16) same

-- If a call must load a segment and no code exists for it, then the call fails.
none_fails : (c d : Parts) (call : calls.Call) (n : ℕ) (slot : Option (Option SegmentPlace)) → place_in slot ≡ None → called_slot c call n None slot ≡ Ok d → ⊥
none_fails c d call n None none h = cc
none_fails c d call n (Some (Some p)) none h = cc
none_fails c d call n (Some None) none h = cc

stands_below : (c d : Parts) (n p : ℕ) (file : List ℕ) (segment : Option (List ℕ)) → segment_in file n ≡ segment → IsMemory c.memory → IsCode segment
    → placed c.places n ≡ None →
    called c (Cxp n p) segment ≡ Ok d → StandsBelow file n c.registers.sp d.memory
unfolding called
stands_below c d n p file None is memory bytes none h = absurd (none_fails c d (Cxp n p) n (slice_get c.places n) none h)
stands_below c d n p file (Some code) is memory bytes none h = record {
  code = code;
  segment = is;
  stands = loaded_code_stands c d n p code memory bytes none h;
}

-- ---- a step

pub needed_same : (r : Result (Option (List ℕ)) ExecError) (a b : Option (List ℕ)) → r ≡ Ok a → r ≡ Ok b → a ≡ b
needed_same r a b h k = let e : okay a ≡ okay b = sym h ∙ k in cc

pub after_same : (d : Parts) (t u : State) → done (with_parts d t) ≡ Ok u → d.memory ≡ u.memory
after_same d t u h = let same : with_parts d t ≡ u = cc h in ap (λ (k : State). k.memory) same

-- If the code that a CXP needs is the segment of the file, and the CXP succeeds, then the segment is below the SP
-- before the call.
row_loads : (file : List ℕ) (n p : ℕ) (t u : State) → IsMemory t.memory → IsCode (segment_in file n) → placed t.places n ≡ None →
    code_needed (Cxp n p) t.places t.rows t.devices ≡ Ok (segment_in file n) → call_row (Cxp n p) t ≡ Ok u → StandsBelow file n t.registers.sp u.memory
unfolding call_row
row_loads file n p t u memory code none needed made =
    let x = bound (code_needed (Cxp n p) t.places t.rows t.devices) _ u made in
    let y = bound (called (parts t) (Cxp n p) x.0) _ u x.2 in
    let is : x.0 ≡ segment_in file n = needed_same _ x.0 (segment_in file n) x.1 needed in
    let call : called (parts t) (Cxp n p) (segment_in file n) ≡ Ok y.0 = ap (called (parts t) (Cxp n p)) (sym is) ∙ y.1 in
    subst (StandsBelow file n t.registers.sp) (after_same y.0 t u y.2) (stands_below (parts t) y.0 n p file (segment_in file n) refl memory code none call)

-- If a step succeeds, then it has the memory that its rule returned.
pub went : (s : State) (r : Result State ExecError) (P : List ℕ → Type 0) → (settled s (or_fails r)).1 ≡ Went → ((u : State) → r ≡ Ok u → P u.memory)
    → P (settled s (or_fails r)).0.memory
went s (Ok u) P h k = k u refl
went s (Err e) P h k = cc

pub stepped_runs : (s : State) → s.status ≡ Running → stepped s ≡ settled s (executed s)
unfolding stepped
stepped_runs s h = ap (λ a. at_status a s) h

pub executes : (s : State) (i : Instr) (o : Operation) → fetched s.memory s.registers.ipc ≡ Ok i → operation_of i ≡ o
    → executed s ≡ performed o (past_instruction i s)
unfolding executed row
executes s i o h k = ap (λ r. or_fails r >>= λ j. row j s) h ∙ ap (λ o. performed o (past_instruction i s)) k

pub steps_load : (s : State) → IsMemory s.memory → StepsLoadSegments s
steps_load s memory image file unit n p is from there none at goes =
    let f = found from.images image from.name file from.entry unit from.mounted from.found in
    let rows = booted_rows from.images unit from.name from.clock from.start s from.events from.entry file from.booted from.found from.now in
    let needed : code_needed (Cxp n p) s.places s.rows s.devices ≡ Ok (segment_in file n) =
    ap (λ k. code_needed (Cxp n p) s.places k s.devices) rows
    ∙ loads_give_segments from.images image from.name file from.entry s.devices s.places unit n p is.volume from.mounted from.found
    (end_fits image from.name from.entry file is f) there none in
    let code = segment_fits file n (file_fits image file from.entry is.bytes f.bytes) in
    let same : stepped s ≡ settled s (or_fails (call_row (Cxp n p) (past_instruction at.instr s))) =
    stepped_runs s at.running ∙ ap (settled s) (executes s at.instr (Call (Cxp n p)) at.there at.calls) in
    rw same (went s (call_row (Cxp n p) (past_instruction at.instr s)) (StandsBelow file n s.registers.sp) (rw same at goes)
    (λ u made. row_loads file n p (past_instruction at.instr s) u memory code none needed made))

-- ---- the first call

zeros_are : IsMemory zero_words
unfolding zero_words
zeros_are = record { size = length-replicate {A = ℕ} 32768 0; fits = All-replicate (λ w. w < 65536) 32768 0 (omega arith) }

system_frame_is : (m : List ℕ) → IsMemory m → IsMemory (with_system_frame m)
unfolding with_system_frame
system_frame_is m h =
    IsMemory-with_word _ 65502 65504 (IsMemory-with_word _ 65500 0 (IsMemory-with_word _ 65498 0 (IsMemory-with_word _ 65496 0 (
    IsMemory-with_word _ 65494 65492 (IsMemory-with_word m 65492 65492 h (omega arith)) (omega arith)) (omega arith)) (omega arith)) (omega arith))
    (omega arith)

first_stands : (d : Parts) (file : List ℕ) → IsCode (segment_in file 1) → called first_parts (Cxp 1 1) (segment_in file 1) ≡ Ok d
    → StandsBelow file 1 65492 d.memory
unfolding first_parts
first_stands d file code h = stands_below first_parts d 1 1 file (segment_in file 1) refl (system_frame_is zero_words zeros_are) code refl h

pub boots_load_segment : BootsLoadSegment
unfolding boot_start begun
boots_load_segment images image name file entry unit clock s is on there h =
    let f = found images image name file entry unit on there in
    let code = segment_fits file 1 (file_fits image file entry is.bytes f.bytes) in
    let b = bound (begun images unit name) _ s h in
    let g = bound (code_file images unit name) _ b.0 b.1 in
    let p = bound (or_exec (called first_parts (Cxp 1 1) (segment_in g.0.1 1))) _ b.0 g.2 in
    let pair = ok_same _ b.0 p.2 in
    let same = ok_same _ s b.2 in
    let file_is : g.0.1 ≡ file = ap (λ (k : Entry × List ℕ). k.1) (same_entry (code_file images unit name) g.0 (entry, file) g.1 there) in
    let start = parts_there p.0 (called first_parts (Cxp 1 1) (segment_in g.0.1 1)) p.1 in
    let memory : p.0.memory ≡ s.memory = ap (λ (k : Parts × List SlotRow). k.0.memory) pair ∙ ap (λ (k : State). k.memory) same in
    subst (StandsBelow file 1 65492) memory (first_stands p.0 file code (ap (λ k. called first_parts (Cxp 1 1) (segment_in k 1)) (sym file_is) ∙ start))
