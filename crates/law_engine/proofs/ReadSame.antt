-- Lemmas: a successful step writes the same ranges of bytes in two memories that agree on the bytes that the step
-- reads.
use Rattle.std.proofs.Common.{◌≡◌, ℕ, ◌+◌, ◌*◌, ◌%◌, List, Option, Result, Ok, Err, refl, sym, ap, ◌∙◌, subst}
use Rattle.std.proofs.Common.{arith}
use Rattle.std.specs.Prelude.{slice_get}
use Rattle.pm_words.specs.declared.error.ExecError.{ExecError}
use Rattle.pm_words.specs.Words.{IsMemory}
use Rattle.pm_words.specs.Stack.{◌>>=◌}
use Rattle.pm_opcode.specs.declared.instr.Instr.{Instr}
use Rattle.pm_opcode.specs.declared.operation.Operation.{Operation}
use Rattle.pm_opcode.specs.declared.operation.Operation.TheVariants as operation
use Rattle.pm_opcode.specs.Operations.{operation_of}
use Rattle.pm_calls.proofs.ReturnLaws.{bound}
use Rattle.pm_calls.specs.Laws.{IsCode}
use Rattle.pm_units.specs.Traps.{Pause, or_fails}
use Rattle.pm_stdproc.specs.declared.procedures.Procedure.{Procedure}
use Rattle.pm_stdproc.specs.declared.procedures.Procedure.TheVariants as procedure
use Rattle.pm_stdproc.specs.Loads.{slot_code, code_needed}
use Rattle.pm_stdproc.specs.Procedures.{exit_row, procedure_numbered, procedure_row}
use Rattle.pm_machine.specs.Procedures.{reach, with_reach, call_row, is_base_return, parts, with_parts, words_of_return}
use Rattle.pm_machine.specs.Rows.{performed, row}
use Rattle.pm_machine.specs.State.{State}
use Rattle.pm_machine.specs.Written.{call_written, instruction_written, kept_written, operation_written}
use Rattle.pm_machine.specs.Written.{procedure_written, reached_written, slot_reached, variable_written, word_stretch, stretch}
use Rattle.pm_machine.specs.ReadStretches.{instruction_read, operation_read}
use Rattle.pm_machine.specs.ReadStretches.{procedure_leads, taken_if, call_read, frame_read, reached_read, variable_read}
use Rattle.pm_effects.specs.Effects.{standard_effect}
use Rattle.law_engine.specs.ReadLaws.{in_memory}
use Rattle.law_engine.specs.WrittenLaws.{IsPlain}
use Rattle.law_engine.proofs.Stretches.{IfMade}
use Rattle.law_engine.proofs.WrittenProcedures.{slot_code_fits}
use Rattle.law_engine.proofs.ReadSteps.{Agree, Same, right_agree, rest_agree}
use Rattle.law_engine.proofs.ReadOthers.{variable_same}
use Rattle.law_engine.proofs.ReadUnits.{standard_fits, taken_by}
use Rattle.law_engine.proofs.ReadCalls.{parts_in, here_alike}
use Rattle.law_engine.proofs.ReadStates.{holds}
use Rattle.law_engine.proofs.ReadStates.{with_ipc, same_reached, same_slot}
use Rattle.pm_calls.specs.Calls.{called_at, called_slot, called, here}
use Rattle.law_engine.proofs.WrittenLaws.{same_slot as written_slot}
use Rattle.law_engine.proofs.ReadNames.{exit_names, reached_names, return_names, slot_names}
use Rattle.law_engine.proofs.ReadWritten.{arithmetic_names, at_top, literal_names, memory_names, pointer_names, units_names, value_names}
use Rattle.pm_families.specs.declared.families.Variable.{Variable}
use Rattle.pm_families.specs.declared.families.Variable.TheVariants as variable
use Rattle.pm_families.specs.declared.families.Call.{Call}
use Rattle.pm_families.specs.declared.families.Call.TheVariants.{Clp, Cgp, Cbp, Cip, Cxp}
use Rattle.pm_calls.specs.Returns.{returned}

-- ---- successful steps

-- If `or_fails r` succeeds, then `r` succeeds with the same value.
went : {A : Type 0} (r : Result A ExecError) (x : A) → or_fails r ≡ Ok x → r ≡ Ok x
went (Ok y) x h = of y x h
  where
    of : {A : Type 0} (y x : A) → (let r : Result A Pause = Ok y in r ≡ Ok x) → (let r : Result A ExecError = Ok y in r ≡ Ok x)
    of y x h = cc
went (Err e) x h = cc

-- The result `r` is a success with the value `made`. If a sequence succeeds, then its first result is a success.
record Goes {A : Type 0} (r : Result A ExecError) : Type 0 where
  pub made : A
  pub is : r ≡ Ok made

first_goes : {A B : Type 0} (r : Result A ExecError) (f : A → Result B Pause) (y : B) → (or_fails r >>= f) ≡ Ok y → Goes r
first_goes (Ok x) f y h = record { made = x; is = refl }
first_goes (Err e) f y h = cc

-- ---- operations

same_names : (o : Variable) (s : State) (n : List ℕ) → Agree (variable_read o s) s.memory n → variable_written o (in_memory s n) ≡ variable_written o s
same_names (variable.Address scope b) s n agree = refl
same_names (variable.Load scope b) s n agree = refl
same_names (variable.Store scope b) s n agree =
    ap (λ a. word_stretch a) (variable_same scope b s.memory n s.registers (rest_agree (stretch s.registers.sp 2)
    (frame_read scope s.memory s.registers.mp) s.memory n agree))

far_names : (s t : State) (n : List ℕ) (x k p : ℕ) (code : Result (Option (List ℕ)) ExecError) → IsPlain s → IsMemory n → IfMade IsCode code
    → Agree (reached_read (Cxp k p) s.registers (slot_reached k (parts s) (slice_get s.places k) code)) s.memory n
    → or_fails (code >>= λ c. (called (parts (with_ipc s x)) (Cxp k p) c >>= λ q. Ok (with_parts q (with_ipc s x)))) ≡ Ok t
    → reached_written (Cxp k p) s.registers.sp (slot_reached k (parts (in_memory s n)) (slice_get s.places k) code)
    ≡ reached_written (Cxp k p) s.registers.sp (slot_reached k (parts s) (slice_get s.places k) code)
unfolding called
far_names s t n x k p (Err e) plain other bytes agree h = cc
far_names s t n x k p (Ok code) plain other bytes agree h =
    let c = parts (with_ipc s x) in
    let slot = slice_get s.places k in
    let q = bound (called_slot c (Cxp k p) k code slot) _ t (went _ t h) in
    sym (written_slot (in_memory s n) x (Cxp k p) k slot (Ok code))
    ∙ slot_names c q.0 n (Cxp k p) k code slot plain.memory other plain.stack.below bytes
    (subst (λ ss. Agree ss s.memory n) (same_slot s x (Cxp k p) k slot (Ok code)) agree) q.1
    ∙ written_slot s x (Cxp k p) k slot (Ok code)

near_names : (call : Call) (s t : State) (n : List ℕ) (x : ℕ) → IsPlain s → IsMemory n
    → Agree (reached_read call s.registers (Ok (here (parts s)))) s.memory n
    → or_fails (called_at (parts (with_ipc s x)) call (here (parts (with_ipc s x))) >>= λ q. Ok (with_parts q (with_ipc s x))) ≡ Ok t
    → reached_written call s.registers.sp (Ok (here (parts (in_memory s n)))) ≡ reached_written call s.registers.sp (Ok (here (parts s)))
near_names call s t n x plain other agree h =
    let c = parts (with_ipc s x) in
    let q = bound (called_at c call (here c)) _ t (went _ t h) in
    reached_names c q.0 n call (Ok (here c)) (Ok (here (parts_in c n)))
    (record { other = here (parts_in c n); made = refl; like = here_alike c n plain.memory other })
    (subst (λ ss. Agree ss s.memory n) (same_reached call s.registers x (Ok (here (parts s)))) agree) q.1

call_names : (o : Call) (s t : State) (n : List ℕ) (x : ℕ) → IsPlain s → IsMemory n → Agree (call_read o s) s.memory n
    → performed (operation.Call o) (with_ipc s x) ≡ Ok t → call_written o (in_memory s n) ≡ call_written o s
unfolding call_row code_needed called
call_names (Cxp k p) s t n x plain other agree h =
    far_names s t n x k p (slot_code k s.places s.rows s.devices) plain other (slot_code_fits k s.places s.rows s.devices (holds s plain)) agree h
call_names (Clp p) s t n x plain other agree h = near_names (Clp p) s t n x plain other agree h
call_names (Cgp p) s t n x plain other agree h = near_names (Cgp p) s t n x plain other agree h
call_names (Cbp p) s t n x plain other agree h = near_names (Cbp p) s t n x plain other agree h
call_names (Cip p) s t n x plain other agree h = near_names (Cip p) s t n x plain other agree h

procedure_names : (p : Procedure) (s t : State) (n : List ℕ) (x : ℕ) → IsPlain s → Same s.memory n s.registers.sp (2 * taken_by p)
    → Agree (procedure_leads p s) s.memory n → (procedure_row p (reach (with_ipc s x)) >>= λ u. Ok (with_reach u (with_ipc s x))) ≡ Ok t
    → procedure_written p (in_memory s n) ≡ procedure_written p s
unfolding procedure_row
procedure_names (procedure.OnMemory o) s t n x plain same agree h = memory_names o s.memory n s.registers.sp plain.stack.even_sp same
procedure_names (procedure.OnUnits o) s t n x plain same agree h = units_names o s.memory n s.registers.sp plain.stack.even_sp same
procedure_names procedure.Exit s t n x plain same agree h =
    let row = first_goes (exit_row (reach (with_ipc s x))) _ t h in
    exit_names (reach (with_ipc s x)) row.made n row.is plain.stack.even_sp same agree
procedure_names procedure.Keep s t n x plain same agree h =
    ap (λ i. kept_written s.registers.sp (slot_code i s.places s.rows s.devices))
    (at_top s.memory n s.registers.sp 2 same plain.stack.even_sp (omega arith))
procedure_names procedure.Unkeep s t n x plain same agree h = refl
procedure_names procedure.Unimplemented s t n x plain same agree h = refl

operation_names : (o : Operation) (s t : State) (n : List ℕ) (x : ℕ) → IsPlain s → IsMemory n → Agree (operation_read o s) s.memory n
    → performed o (with_ipc s x) ≡ Ok t → operation_written o (in_memory s n) ≡ operation_written o s
operation_names (operation.Arithmetic o) s t n x plain other agree h = arithmetic_names o s.memory n s.registers.sp
operation_names (operation.Variable o) s t n x plain other agree h = same_names o s n agree
operation_names (operation.Pointer o) s t n x plain other agree h = pointer_names o s.memory n s.registers.sp plain.stack.even_sp agree
operation_names (operation.Literal o) s t n x plain other agree h = literal_names o s.memory n s.registers.sp
operation_names (operation.Value o) s t n x plain other agree h = value_names o s.memory n s.registers.sp plain.stack.even_sp agree
operation_names (operation.Jump o) s t n x plain other agree h = refl
operation_names (operation.Call o) s t n x plain other agree h = call_names o s t n x plain other agree h
operation_names (operation.Return o) s t n x plain other agree h =
    let d = bound (returned (parts (with_ipc s x)) (words_of_return o) (is_base_return o)) _ t (went _ t h) in
    return_names (parts (with_ipc s x)) d.0 n (words_of_return o) (is_base_return o) d.1 agree
operation_names (operation.Standard k) s t n x plain other agree h =
    let p = procedure_numbered k in
    procedure_names p s t n x plain (standard_fits k s.memory n s.registers.sp (procedure_leads p s) agree)
    (right_agree (taken_if (standard_effect k) s.memory s.registers.sp) (procedure_leads p s) s.memory n agree) h
operation_names operation.Nothing s t n x plain other agree h = refl
operation_names operation.End s t n x plain other agree h = refl
operation_names operation.Unimplemented s t n x plain other agree h = refl

-- ---- a step

pub row_names : (s t : State) (n : List ℕ) (r u : Result Instr ExecError) → IsPlain s → IsMemory n → u ≡ r → Agree (instruction_read r s) s.memory n
    → (or_fails r >>= λ i. row i s) ≡ Ok t → instruction_written u (in_memory s n) ≡ instruction_written r s
unfolding row
row_names s t n (Err e) u plain other same agree h = rw same refl
row_names s t n (Ok i) u plain other same agree h =
    rw same (operation_names (operation_of i) s t n ((s.registers.ipc + i.len) % 65536) plain other agree h)
