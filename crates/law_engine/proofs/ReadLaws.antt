-- Lemmas: a step depends only on the bytes that its instruction reads.
use Rattle.std.proofs.Common.{◌≡◌, ℕ, ◌+◌, ◌*◌, ◌%◌, true, List, ◌∷◌, ◌++◌, Option, Result, Ok, Err, refl, sym, ap, ◌∙◌, subst, arith}
use Rattle.std.specs.Prelude.{IfOk, slice_get, length}
use Rattle.std.proofs.lemmas.Bool.{and_parts}
use Rattle.pm_words.specs.declared.error.ExecError.{ExecError}
use Rattle.pm_words.specs.Words.{AreMemoryBytes, IsMemory, bytes_of, word_at}
use Rattle.pm_words.specs.Stack.{◌>>=◌, pop}
use Rattle.pm_words.proofs.Laws.{AreMemoryBytes-bytes_of}
use Rattle.pm_families.specs.declared.families.Jump.{Jump}
use Rattle.pm_families.specs.declared.families.Jump.TheVariants as jump
use Rattle.pm_opcode.specs.declared.instr.Instr.{Instr}
use Rattle.pm_opcode.specs.declared.instr.Decode.{Decode}
use Rattle.pm_opcode.specs.declared.operation.Operation.{Operation}
use Rattle.pm_opcode.specs.declared.operation.Operation.TheVariants as operation
use Rattle.pm_opcode.specs.Operations.{operation_of}
use Rattle.pm_opcode.specs.Reading.{reading}
use Rattle.pm_opcode.specs.Spelling.{in_range, lies_within}
use Rattle.pm_opcode.specs.Standing.{IsSpelledAt}
use Rattle.pm_opcode.proofs.ReadTakes.{IsBytes-from_index, reading_takes}
use Rattle.pm_opcode.proofs.Takes.{IsBytes}
use Rattle.std.proofs.Common.{get_or, ⊎_elim}
use Rattle.std.proofs.lemmas.Bool.{cases_lt}
use Rattle.std.proofs.lemmas.List.{get_or_past}
use Rattle.pm_calls.proofs.ReturnLaws.{ok_same}
use Rattle.pm_opcode.specs.Table.{form_of}
use Rattle.pm_calls.specs.declared.exits.Wanted.{Wanted}
use Rattle.pm_calls.specs.declared.registers.Registers.{Registers}
use Rattle.pm_calls.specs.Keeps.{segment_kept, segment_unkept}
use Rattle.pm_calls.specs.Exits.{exited}
use Rattle.pm_calls.specs.Laws.{IsCode}
use Rattle.pm_calls.specs.Places.{Parts}
use Rattle.pm_units.specs.Traps.{Pause, or_fails}
use Rattle.pm_rows.specs.Arithmetic.{arithmetic_row}
use Rattle.pm_rows.specs.Jumps.{jump_row}
use Rattle.pm_rows.specs.Literals.{literal_row}
use Rattle.pm_rows.specs.Pointers.{pointer_row}
use Rattle.pm_rows.specs.Values.{value_row}
use Rattle.pm_rows.specs.Variables.{variable_row}
use Rattle.pm_stdproc.specs.declared.procedures.Procedure.{Procedure}
use Rattle.pm_stdproc.specs.declared.procedures.Procedure.TheVariants as procedure
use Rattle.pm_stdproc.specs.Loads.{length_of, slot_code}
use Rattle.pm_stdproc.specs.MemoryRows.{memory_row}
use Rattle.pm_stdproc.specs.Procedures.{Reach, exit_row, keep_row, procedure_numbered, procedure_row, reach_parts, unkeep_row}
use Rattle.pm_stdproc.specs.Procedures as standard
use Rattle.pm_stdproc.specs.UnitRows.{Served, served, units_row}
use Rattle.pm_machine.specs.Procedures.{reach, with_reach}
use Rattle.pm_machine.specs.Rows.{fetched, performed, read_as, row}
use Rattle.pm_machine.specs.State.{State}
use Rattle.pm_machine.specs.Steps.{executed}
use Rattle.pm_machine.specs.Written.{left_by_exit, wanted_at}
use Rattle.pm_machine.specs.ReadStretches.{asked_read, exit_read, frames_left_read, instruction_read, jump_read}
use Rattle.pm_machine.specs.ReadStretches.{operation_read, procedure_leads, read, taken_if}
use Rattle.pm_effects.specs.Effects.{standard_effect}
use Rattle.law_engine.specs.ReadLaws.{ChangeAlike, GoesAlike, HoldsWhatIsRead, StepsDependOnWhatTheyRead, in_memory}
use Rattle.law_engine.specs.WrittenLaws.{IsPlain}
use Rattle.law_engine.proofs.StoreRows.{word_below}
use Rattle.law_engine.proofs.StoredWords.{popped}
use Rattle.law_engine.proofs.Stretches.{IfMade}
use Rattle.law_engine.proofs.WrittenProcedures.{slot_code_fits}
use Rattle.law_engine.proofs.WrittenUnits.{HoldsBytes}
use Rattle.law_engine.proofs.ReadSteps.{Agree, Both, RowsAlike, Same, both, pop_same, right_agree, unchanged}
use Rattle.law_engine.proofs.ReadRows.{arithmetic_alike, next_same, pointer_alike}
use Rattle.law_engine.proofs.ReadOthers.{Equal, literal_alike, variable_alike}
use Rattle.law_engine.proofs.ReadNamed.{CodeSame, named_same}
use Rattle.law_engine.proofs.ReadSets.{value_alike}
use Rattle.law_engine.proofs.ReadMemory.{memory_alike}
use Rattle.law_engine.proofs.ReadUnits.{ServedAlike, failing, standard_fits, taken_by, units_alike}
use Rattle.law_engine.proofs.ReadCalls.{PartsAlike, parts_in}
use Rattle.law_engine.proofs.ReadReturns.{kept_alike, unkept_alike}
use Rattle.law_engine.proofs.ReadExits.{exited_alike}
use Rattle.law_engine.proofs.ReadStates.{StepAlike, at_ipc, call_alike, holds, jump_alike, jump_rows, return_alike, same_reads, stack_alike, with_ipc}
use Rattle.pm_machine.specs.Written.{written}
use Rattle.law_engine.proofs.Stretches.{Kept}
use Rattle.law_engine.proofs.WrittenLaws.{executed_step}
use Rattle.law_engine.proofs.ReadSame.{row_names}

-- ---- standard procedures

-- `u` equals `t` except for the memory, and both memories changed alike.
record ReachAlike (m n : List ℕ) (t u : Reach) : Type 0 where
  pub memory : List ℕ
  pub same : u ≡ record t { memory = memory }
  pub alike : ChangeAlike m t.memory n memory

-- Returns `c`, the part of the state that a standard procedure changes, with the memory `n`.
abbrev reach_in : Reach → List ℕ → Reach
reach_in c n = record c { memory = n }

abbrev stood : Procedure → State → Result State Pause
stood p s = procedure_row p (reach s) >>= λ t. Ok (with_reach t s)

reached : (s : State) (n : List ℕ) (x : ℕ) (r u : Result Reach Pause) → Both (ReachAlike s.memory n) r u
    → StepAlike s n (r >>= λ t. Ok (with_reach t (with_ipc s x))) (u >>= λ t. Ok (with_reach t (with_ipc (in_memory s n) x)))
reached s n x (Err e) u h = tt
reached s n x (Ok t) u h = rw (h.made, h.like.same) (record {
  other = _;
  made = refl;
  like = record { memory = h.like.memory; same = refl; alike = h.like.alike };
})

on_memory : (c : Reach) (n : List ℕ) (r u : Result (List ℕ × Registers) ExecError) → RowsAlike c.memory n r u
    → Both (ReachAlike c.memory n) (or_fails (standard.on_memory c r)) (or_fails (standard.on_memory (reach_in c n) u))
on_memory c n (Err e) u h = tt
on_memory c n (Ok t) u h =
    let q = h.other.0 in
    rw h.made (record {
      other = _;
      made = refl;
      like = record {
        memory = q;
        same = ap (λ (r : Registers). record c { memory = q; registers = r }) h.like.0;
        alike = h.like.1;
      };
    })

on_units : (c : Reach) (n : List ℕ) (r u : Result Served Pause) → Both (ServedAlike c.memory n) r u
    → Both (ReachAlike c.memory n) (standard.on_units c r) (standard.on_units (reach_in c n) u)
on_units c n (Err e) u h = tt
on_units c n (Ok t) u h =
    let q = h.other.memory in
    rw h.made (record {
      other = _;
      made = refl;
      like = record {
        memory = q;
        same = ap (λ (v : Served). record c { memory = q; registers = v.registers; devices = v.devices }) h.like.0;
        alike = h.like.1;
      };
    })

-- The parts that a standard procedure reaches.
from_parts : (c : Reach) (n : List ℕ) (r u : Result Parts ExecError) → Both (PartsAlike c.memory n) r u
    → Both (ReachAlike c.memory n) (r >>= λ p. Ok (record c { memory = p.memory; registers = p.registers; places = p.places }))
    (u >>= λ p. Ok (record (reach_in c n) { memory = p.memory; registers = p.registers; places = p.places }))
from_parts c n (Err e) u h = tt
from_parts c n (Ok d) u h = rw (h.made, h.like.same) (record {
  other = _;
  made = refl;
  like = record { memory = h.like.memory; same = refl; alike = h.like.alike };
})

exit_alike : (c : Reach) (n : List ℕ) → IsMemory c.memory → IsMemory n → Same c.memory n c.registers.sp 4
    → Agree (exit_read c.registers.jtab ∷ (asked_read c.registers.seg c.registers.jtab
    ++ frames_left_read c.memory c.registers.mp (left_by_exit (reach_parts c c.registers) (wanted_at c.memory c.registers.sp)))) c.memory n
    → Both (ReachAlike c.memory n) (exit_row c) (exit_row (reach_in c n))
unfolding exit_row
exit_alike c n memory other same agree =
    let m = c.memory in
    let sp = c.registers.sp in
    both (ReachAlike m n) (pop m sp) (pop n sp) _ _ (pop_same m n sp 4 sp same (omega arith) (omega arith)) (λ p h.
    both (ReachAlike m n) (pop m p.above) (pop n p.above) _ _ (next_same m n sp 4 sp p same h (omega arith) (omega arith)) (λ g k.
    let d : Parts = reach_parts c (record c.registers { sp = g.above }) in
    let w : Wanted = record { segment = g.word; procedure = p.word } in
    let named : wanted_at m sp ≡ w =
    ap (λ (i : ℕ). record { segment = word_at m (sp + 2); procedure = i }) (sym (popped m sp p h).word)
    ∙ ap (λ (i : ℕ). record { segment = i; procedure = p.word }) (sym (word_below m sp p g h k).0) in
    from_parts c n (exited d w) (exited (parts_in d n) w) (exited_alike d n w memory other
    (subst (λ (q : Wanted). Agree (exit_read c.registers.jtab ∷ (asked_read c.registers.seg c.registers.jtab
    ++ frames_left_read m c.registers.mp (left_by_exit (reach_parts c c.registers) q))) m n) named agree))))

code_is : (r : Result (Option (List ℕ)) ExecError) (code : Option (List ℕ)) → IfMade IsCode r → r ≡ Ok code → IsCode code
code_is (Ok x) code h e = subst IsCode (ok_same x code e) h
code_is (Err e) code h f = cc

keep_alike : (c : Reach) (n : List ℕ) → IsMemory c.memory → IsMemory n → HoldsBytes c.devices → Same c.memory n c.registers.sp 2
    → Both (ReachAlike c.memory n) (keep_row c) (keep_row (reach_in c n))
unfolding keep_row
keep_alike c n memory other has same =
    let m = c.memory in
    let sp = c.registers.sp in
    both (ReachAlike m n) (pop m sp) (pop n sp) _ _ (pop_same m n sp 2 sp same (omega arith) (omega arith)) (λ g h.
    let above = (popped m sp g h).above in
    let room = (popped m sp g h).room in
    both (ReachAlike m n) (slot_code g.word c.places c.rows c.devices) (slot_code g.word c.places c.rows c.devices) _ _ refl (λ code k.
    let d : Parts = reach_parts c (record c.registers { sp = g.above }) in
    from_parts c n (segment_kept d g.word code) (segment_kept (parts_in d n) g.word code)
    (kept_alike d n g.word code memory other (omega (arith, above, room))
    (code_is (slot_code g.word c.places c.rows c.devices) code (slot_code_fits g.word c.places c.rows c.devices has) k))))

unkeep_alike : (c : Reach) (n : List ℕ) → Same c.memory n c.registers.sp 2 → Both (ReachAlike c.memory n) (unkeep_row c) (unkeep_row (reach_in c n))
unfolding unkeep_row
unkeep_alike c n same =
    let m = c.memory in
    let sp = c.registers.sp in
    both (ReachAlike m n) (pop m sp) (pop n sp) _ _ (pop_same m n sp 2 sp same (omega arith) (omega arith)) (λ g h.
    let d : Parts = reach_parts c (record c.registers { sp = g.above }) in
    let size = length_of (slice_get c.rows g.word) in
    from_parts c n (segment_unkept d g.word size) (segment_unkept (parts_in d n) g.word size) (unkept_alike d n g.word size))

procedure_alike : (p : Procedure) (s : State) (n : List ℕ) (x : ℕ) → IsPlain s → IsMemory n → Same s.memory n s.registers.sp (2 * taken_by p)
    → Agree (procedure_leads p s) s.memory n → StepAlike s n (stood p (with_ipc s x)) (stood p (with_ipc (in_memory s n) x))
unfolding procedure_row
procedure_alike (procedure.OnMemory o) s n x plain other same agree =
    reached s n x (procedure_row (procedure.OnMemory o) (reach (with_ipc s x))) (procedure_row (procedure.OnMemory o) (reach (with_ipc (in_memory s n) x)))
    (on_memory (reach (with_ipc s x)) n (memory_row o s.memory (at_ipc s.registers x)) (memory_row o n (at_ipc s.registers x))
    (memory_alike o s.memory n (at_ipc s.registers x) plain.memory other same agree))
procedure_alike (procedure.OnUnits o) s n x plain other same agree =
    let u = served s.memory (at_ipc s.registers x) s.devices in
    let v = served n (at_ipc s.registers x) s.devices in
    reached s n x (procedure_row (procedure.OnUnits o) (reach (with_ipc s x))) (procedure_row (procedure.OnUnits o) (reach (with_ipc (in_memory s n) x)))
    (on_units (reach (with_ipc s x)) n (units_row o u) (units_row o v) (units_alike o u n plain.memory other (holds s plain) same agree))
procedure_alike procedure.Exit s n x plain other same agree =
    reached s n x (procedure_row procedure.Exit (reach (with_ipc s x))) (procedure_row procedure.Exit (reach (with_ipc (in_memory s n) x)))
    (failing (ReachAlike s.memory n) (exit_row (reach (with_ipc s x))) (exit_row (reach_in (reach (with_ipc s x)) n))
    (exit_alike (reach (with_ipc s x)) n plain.memory other same agree))
procedure_alike procedure.Keep s n x plain other same agree =
    reached s n x (procedure_row procedure.Keep (reach (with_ipc s x))) (procedure_row procedure.Keep (reach (with_ipc (in_memory s n) x)))
    (failing (ReachAlike s.memory n) (keep_row (reach (with_ipc s x))) (keep_row (reach_in (reach (with_ipc s x)) n))
    (keep_alike (reach (with_ipc s x)) n plain.memory other (holds s plain) same))
procedure_alike procedure.Unkeep s n x plain other same agree =
    reached s n x (procedure_row procedure.Unkeep (reach (with_ipc s x))) (procedure_row procedure.Unkeep (reach (with_ipc (in_memory s n) x)))
    (failing (ReachAlike s.memory n) (unkeep_row (reach (with_ipc s x))) (unkeep_row (reach_in (reach (with_ipc s x)) n))
    (unkeep_alike (reach (with_ipc s x)) n same))
procedure_alike procedure.Unimplemented s n x plain other same agree = tt

-- ---- a step

operation_alike : (o : Operation) (s : State) (n : List ℕ) (x : ℕ) → IsPlain s → IsMemory n → Agree (operation_read o s) s.memory n → CodeSame o s.memory n
    → StepAlike s n (performed o (with_ipc s x)) (performed o (with_ipc (in_memory s n) x))
operation_alike (operation.Arithmetic o) s n x plain other agree code =
    stack_alike s n x (arithmetic_row o s.memory s.registers.sp s.registers.np) (arithmetic_row o n s.registers.sp s.registers.np)
    (arithmetic_alike o s.memory n s.registers.sp s.registers.np plain.memory other agree)
operation_alike (operation.Variable o) s n x plain other agree code =
    stack_alike s n x (variable_row o s.memory (at_ipc s.registers x)) (variable_row o n (at_ipc s.registers x))
    (variable_alike o s.memory n (at_ipc s.registers x) plain.memory other (subst (λ ss. Agree ss s.memory n) (same_reads o s x) agree))
operation_alike (operation.Pointer o) s n x plain other agree code =
    stack_alike s n x (pointer_row o s.memory s.registers.sp s.registers.np) (pointer_row o n s.registers.sp s.registers.np)
    (pointer_alike o s.memory n s.registers.sp s.registers.np plain.memory other agree)
operation_alike (operation.Literal o) s n x plain other agree code =
    stack_alike s n x (literal_row o s.memory s.registers.sp s.registers.np) (literal_row o n s.registers.sp s.registers.np)
    (literal_alike o s.memory n s.registers.sp s.registers.np plain.memory other plain.stack.below code)
operation_alike (operation.Value o) s n x plain other agree code =
    stack_alike s n x (value_row o s.memory s.registers.sp s.registers.np) (value_row o n s.registers.sp s.registers.np)
    (value_alike o s.memory n s.registers.sp s.registers.np plain.memory other agree)
operation_alike (operation.Jump o) s n x plain other agree code =
    jump_alike s n x (jump_row o s.memory (at_ipc s.registers x)) (jump_row o n (at_ipc s.registers x)) (jump_step o agree code)
  where
    jump_step : (o : Jump) → Agree (jump_read o s.memory s.registers) s.memory n → CodeSame (operation.Jump o) s.memory n
        → Both Equal (jump_row o s.memory (at_ipc s.registers x)) (jump_row o n (at_ipc s.registers x))
    jump_step (jump.Short c offset) h code = jump_rows (jump.Short c offset) s.memory n (at_ipc s.registers x) h code
    jump_step (jump.Case low high table) h code = jump_rows (jump.Case low high table) s.memory n (at_ipc s.registers x) h code
operation_alike (operation.Call o) s n x plain other agree code = call_alike o s n x plain other agree
operation_alike (operation.Return o) s n x plain other agree code = return_alike o s n x plain other agree
operation_alike (operation.Standard k) s n x plain other agree code =
    let p = procedure_numbered k in
    procedure_alike p s n x plain other (standard_fits k s.memory n s.registers.sp (procedure_leads p s) agree)
    (right_agree (taken_if (standard_effect k) s.memory s.registers.sp) (procedure_leads p s) s.memory n agree)
operation_alike operation.Nothing s n x plain other agree code =
    record { other = with_ipc (in_memory s n) x; made = refl; like = record { memory = n; same = refl; alike = unchanged s.memory n } }
operation_alike operation.End s n x plain other agree code =
    record { other = _; made = refl; like = record { memory = n; same = refl; alike = unchanged s.memory n } }
operation_alike operation.Unimplemented s n x plain other agree code = tt

-- A fetched instruction has operands in range, and its bytes are in memory.
record IsRanged (i : Instr) : Type 0 where
  pub ranges : in_range (form_of i.op) i ≡ true
  pub lies : lies_within (form_of i.op) i 65536 ≡ true

was_read : (r : Result Instr Decode) (i : Instr) → read_as r ≡ Ok i → r ≡ Ok i
was_read (Ok j) i h = ap (λ (k : Instr). Ok k) (ok_same j i h)
was_read (Err e) i h = cc

all_bytes : (m : List ℕ) → IsMemory m → IsBytes (bytes_of m)
all_bytes m memory = IsBytes-from_index (bytes_of m) (λ i. ⊎_elim (λ l. bytes.fits i 0 l)
    (λ l. let past : get_or (bytes_of m) i 0 ≡ 0 = get_or_past (bytes_of m) i 0 l in omega (arith, past)) (cases_lt i (length (bytes_of m))))
  where
    bytes : AreMemoryBytes (bytes_of m)
    bytes = AreMemoryBytes-bytes_of m memory

fetched_ranged : (m : List ℕ) (at : ℕ) (i : Instr) → IsMemory m → fetched m at ≡ Ok i → IsRanged i
unfolding fetched
fetched_ranged m at i memory h =
    let bytes = AreMemoryBytes-bytes_of m memory in
    let is : IsSpelledAt (bytes_of m) at i =
    subst (λ r. IfOk r (IsSpelledAt (bytes_of m) at)) (was_read (reading (bytes_of m) at) i h) (reading_takes (bytes_of m) at (all_bytes m memory)) in
    let both = and_parts (in_range (form_of i.op) i) (lies_within (form_of i.op) i (length (bytes_of m))) is.ranges in
    record { ranges = both.0; lies = subst (λ k. lies_within (form_of i.op) i k ≡ true) bytes.size both.1 }

row_alike : (s : State) (n : List ℕ) (r u : Result Instr ExecError) → IsPlain s → IsMemory n → u ≡ r → ((i : Instr) → r ≡ Ok i → IsRanged i)
    → ((i : Instr) → r ≡ Ok i → Same s.memory n i.start i.count) → Agree (instruction_read r s) s.memory n
    → StepAlike s n (or_fails r >>= λ i. row i s) (or_fails u >>= λ i. row i (in_memory s n))
unfolding row
row_alike s n (Err e) u plain other same ranged named agree = tt
row_alike s n (Ok i) u plain other same ranged named agree =
    let is = ranged i refl in
    rw same (operation_alike (operation_of i) s n ((s.registers.ipc + i.len) % 65536) plain other agree
    (named_same i s.memory n is.ranges is.lies (named i refl)))

executed_alike : (s : State) (n : List ℕ) → IsPlain s → IsMemory n → HoldsWhatIsRead s n → StepAlike s n (executed s) (executed (in_memory s n))
unfolding executed read
executed_alike s n plain other has =
    row_alike s n (fetched s.memory s.registers.ipc) (fetched n s.registers.ipc) plain other has.instruction
    (λ i h. fetched_ranged s.memory s.registers.ipc i plain.memory h) (λ i h x low high. has.named i x h low high) has.bytes

-- Words that the instruction does not write are unchanged in the other memory too.
rest_kept : (s t : State) (n : List ℕ) → IsPlain s → IsPlain (in_memory s n) → HoldsWhatIsRead s n → executed s ≡ Ok t
    → IfMade (λ (v : State). Kept (written s) n v.memory) (executed (in_memory s n))
unfolding executed read written
rest_kept s t n plain other has h =
    subst (λ ss. IfMade (λ (v : State). Kept ss n v.memory) (executed (in_memory s n)))
    (row_names s t n (fetched s.memory s.registers.ipc) (fetched n s.registers.ipc) plain other.memory has.instruction has.bytes h)
    (executed_step (in_memory s n) other)

goes : (s t : State) (n : List ℕ) (r u : Result State Pause) → r ≡ Ok t → StepAlike s n r u → IfMade (λ (v : State). Kept (written s) n v.memory) u
    → GoesAlike s t n u
goes s t n (Err e) u h alike kept = cc
goes s t n (Ok v) u h alike kept = of t (state_same v t h)
  where
    state_same : (v t : State) → (let r : Result State Pause = Ok v in r ≡ Ok t) → v ≡ t
    state_same v t h = cc

    made : u ≡ Ok (in_memory v alike.like.memory)
    made = alike.made ∙ ap (λ (w : State). Ok w) alike.like.same

    of : (t : State) → v ≡ t → GoesAlike s t n u
    of t e = subst (λ w. GoesAlike s w n u) e (record {
      memory = alike.like.memory;
      goes = made;
      alike = alike.like.alike;
      rest = subst (λ r. IfMade (λ (w : State). Kept (written s) n w.memory) r) made kept;
    })

pub steps_depend_on_what_they_read : StepsDependOnWhatTheyRead
steps_depend_on_what_they_read s t n plain other has h =
    goes s t n (executed s) (executed (in_memory s n)) h (executed_alike s n plain other.memory has) (rest_kept s t n plain other has h)
