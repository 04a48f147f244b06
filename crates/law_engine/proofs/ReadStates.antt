-- Lemmas for the whole state after rows, calls and returns, in two states that agree on the bytes that the operations
-- read.
use Rattle.std.proofs.Common.{◌≡◌, ℕ, List, [], ◌∷◌, ◌++◌, Option, Some, None, Result, Ok, Err, refl, ap, subst}
use Rattle.std.specs.Prelude.{ℤ, slice_get}
use Rattle.pm_words.specs.declared.error.ExecError.{ExecError}
use Rattle.pm_words.specs.Words.{IsMemory}
use Rattle.pm_words.specs.Stack.{◌>>=◌}
use Rattle.pm_families.specs.declared.families.Scope.{Scope}
use Rattle.pm_families.specs.declared.families.Scope.TheVariants.{Global, Local, Intermediate}
use Rattle.pm_families.specs.declared.families.Variable.{Variable}
use Rattle.pm_families.specs.declared.families.Variable.TheVariants as variable
use Rattle.pm_families.specs.declared.families.Jump.{Jump}
use Rattle.pm_families.specs.declared.families.Jump.TheVariants as jump
use Rattle.pm_families.specs.declared.families.Call.{Call}
use Rattle.pm_families.specs.declared.families.Call.TheVariants.{Clp, Cgp, Cbp, Cip, Cxp}
use Rattle.pm_families.specs.declared.families.Return.{Return}
use Rattle.pm_opcode.specs.declared.operation.Operation.TheVariants as operation
use Rattle.pm_calls.specs.declared.frames.SegmentPlace.{SegmentPlace}
use Rattle.pm_calls.specs.declared.frames.Table.{Table}
use Rattle.pm_calls.specs.declared.registers.Registers.{Registers}
use Rattle.pm_calls.specs.Calls.{Reached, called, here, procedure_called, reach_loading, reach_standing}
use Rattle.pm_calls.specs.Laws.{IsCode}
use Rattle.pm_calls.specs.Places.{Parts}
use Rattle.pm_calls.specs.Returns.{returned}
use Rattle.pm_calls.specs.Tables.{attributes}
use Rattle.pm_units.specs.Traps.{Pause, or_fails}
use Rattle.pm_rows.specs.Jumps.{jump_row}
use Rattle.pm_rows.specs.Variables.{variable_at}
use Rattle.pm_stdproc.specs.Loads.{code_needed, slot_code}
use Rattle.pm_machine.specs.Procedures.{call_row, is_base_return, parts, status_after, with_parts, words_of_return}
use Rattle.pm_machine.specs.Rows.{on_registers, on_stack, performed}
use Rattle.pm_machine.specs.State.{State}
use Rattle.pm_machine.specs.Written.{slot_reached, stretch, word_stretch}
use Rattle.pm_machine.specs.ReadStretches.{call_read, entry_words, frame_read, jump_read}
use Rattle.pm_machine.specs.ReadStretches.{reached_read, return_read, static_link_read, table_read}
use Rattle.pm_machine.specs.ReadStretches.{variable_read}
use Rattle.law_engine.specs.ReadLaws.{ChangeAlike, in_memory}
use Rattle.law_engine.specs.WrittenLaws.{IsPlain}
use Rattle.law_engine.proofs.Stretches.{IfMade}
use Rattle.law_engine.proofs.WrittenProcedures.{slot_code_fits}
use Rattle.law_engine.proofs.WrittenUnits.{HoldsBytes}
use Rattle.law_engine.proofs.ReadSteps.{Agree, Both, RowsAlike, first_same, unchanged}
use Rattle.law_engine.proofs.ReadOthers.{Equal, short_alike, variable_reads}
use Rattle.law_engine.proofs.ReadNamed.{CodeSame, case_alike}
use Rattle.law_engine.proofs.ReadCalls.{PartsAlike, called_alike, called_read}
use Rattle.law_engine.proofs.ReadReturns.{returned_alike}

-- Returns the registers `r` with the IPC `x`.
abbrev pub at_ipc : Registers → ℕ → Registers
at_ipc r x = record r { ipc = x }

abbrev pub with_ipc : State → ℕ → State
with_ipc s x = record s { registers = at_ipc s.registers x }

-- The states `t` and `u` are equal except for their memories, and both memories changed alike from `m` and `n`.
pub record StateAlike (m n : List ℕ) (t u : State) : Type 0 where
  pub memory : List ℕ
  pub same : u ≡ in_memory t memory
  pub alike : ChangeAlike m t.memory n memory

abbrev pub StepAlike : State → List ℕ → Result State Pause → Result State Pause → Type 0
StepAlike s n r u = Both (StateAlike s.memory n) r u

pub holds : (s : State) → IsPlain s → HoldsBytes s.devices
holds s plain = record { disks = plain.disks; queue = plain.queue }

-- ---- rows on the stack, and jumps

pub stack_alike : (s : State) (n : List ℕ) (x : ℕ) (r u : Result (List ℕ × ℕ) ExecError) → RowsAlike s.memory n r u
    → StepAlike s n (or_fails (on_stack (with_ipc s x) r)) (or_fails (on_stack (with_ipc (in_memory s n) x) u))
stack_alike s n x (Err e) u h = tt
stack_alike s n x (Ok t) u h =
    let q = h.other.0 in
    rw h.made (record {
      other = _;
      made = refl;
      like = record {
        memory = q;
        same = ap (λ (sp : ℕ). record (with_ipc s x) { memory = q; registers = record (at_ipc s.registers x) { sp = sp } }) h.like.0;
        alike = h.like.1;
      };
    })

pub jump_alike : (s : State) (n : List ℕ) (x : ℕ) (r u : Result Registers ExecError) → Both Equal r u
    → StepAlike s n (or_fails (on_registers (with_ipc s x) r)) (or_fails (on_registers (with_ipc (in_memory s n) x) u))
jump_alike s n x (Err e) u h = tt
jump_alike s n x (Ok r) u h = rw (h.made, h.like) (record {
  other = _;
  made = refl;
  like = record { memory = n; same = refl; alike = unchanged s.memory n };
})

pub jump_rows : (o : Jump) (m n : List ℕ) (r : Registers) → Agree (jump_read o m r) m n → CodeSame (operation.Jump o) m n
    → Both Equal (jump_row o m r) (jump_row o n r)
unfolding jump_row
jump_rows (jump.Short c offset) m n r agree code = short_alike c m n r offset agree
jump_rows (jump.Case low high table) m n r agree code = case_alike low high table m n r (first_same r.sp 2 [] m n agree) code

-- The address of a variable does not depend on IPC.
same_variable : (scope : Scope) (b : ℕ) (m : List ℕ) (r : Registers) (x : ℕ) → variable_at scope b m r ≡ variable_at scope b m (at_ipc r x)
same_variable Global b m r x = refl
same_variable Local b m r x = refl
same_variable (Intermediate k) b m r x = refl

pub same_reads : (o : Variable) (s : State) (x : ℕ) → variable_read o s ≡ variable_reads o s.memory (at_ipc s.registers x)
same_reads (variable.Address scope b) s x = refl
same_reads (variable.Load scope b) s x = ap (λ a. word_stretch a ++ frame_read scope s.memory s.registers.mp) (same_variable scope b s.memory s.registers x)
same_reads (variable.Store scope b) s x = refl

-- ---- calls and returns

parts_alike : (s : State) (n : List ℕ) (x : ℕ) (r u : Result Parts ExecError) → Both (PartsAlike s.memory n) r u
    → StepAlike s n (or_fails (r >>= λ p. Ok (with_parts p (with_ipc s x)))) (or_fails (u >>= λ p. Ok (with_parts p (with_ipc (in_memory s n) x))))
parts_alike s n x (Err e) u h = tt
parts_alike s n x (Ok d) u h = rw (h.made, h.like.same) (record {
  other = _;
  made = refl;
  like = record { memory = h.like.memory; same = refl; alike = h.like.alike };
})

-- The bytes that a call reads do not depend on IPC.
same_link : (call : Call) (m : List ℕ) (r : Registers) (x : ℕ) (level : ℤ) → static_link_read call m r level ≡ static_link_read call m (at_ipc r x) level
same_link (Clp p) m r x level = refl
same_link (Cgp p) m r x level = refl
same_link (Cbp p) m r x level = refl
same_link (Cip p) m r x level = refl
same_link (Cxp k p) m r x level = refl

same_entry : (call : Call) (m : List ℕ) (r : Registers) (x : ℕ) (t : Result Table ExecError) → entry_words call m r t ≡ entry_words call m (at_ipc r x) t
same_entry call m r x (Ok t) = ap (λ ss. stretch r.sp t.parameters ∷ ss) (same_link call m r x t.level)
same_entry call m r x (Err e) = refl

pub same_reached : (call : Call) (r : Registers) (x : ℕ) (at : Result Reached ExecError) → reached_read call r at ≡ reached_read call (at_ipc r x) at
same_reached call r x (Ok at) = ap (λ ss. table_read at.memory at.place (procedure_called call) ++ ss)
    (same_entry call at.memory r x (attributes at.memory at.place (procedure_called call)))
same_reached call r x (Err e) = refl

pub same_slot : (s : State) (x : ℕ) (call : Call) (k : ℕ) (slot : Option (Option SegmentPlace)) (code : Result (Option (List ℕ)) ExecError)
    → reached_read call s.registers (slot_reached k (parts s) slot code)
    ≡ reached_read call (at_ipc s.registers x) (slot_reached k (parts (with_ipc s x)) slot code)
unfolding reach_standing reach_loading
same_slot s x call k None code = refl
same_slot s x call k (Some (Some p)) code = same_reached call s.registers x (reach_standing (parts s) k p)
same_slot s x call k (Some None) (Ok (Some code)) = same_reached call s.registers x (reach_loading (parts s) k code)
same_slot s x call k (Some None) (Ok None) = refl
same_slot s x call k (Some None) (Err e) = refl

far_alike : (s : State) (n : List ℕ) (x k p : ℕ) (code : Result (Option (List ℕ)) ExecError) → IsPlain s → IsMemory n → IfMade IsCode code
    → Agree (reached_read (Cxp k p) s.registers (slot_reached k (parts s) (slice_get s.places k) code)) s.memory n
    → StepAlike s n (or_fails (code >>= λ c. (called (parts (with_ipc s x)) (Cxp k p) c >>= λ q. Ok (with_parts q (with_ipc s x)))))
    (or_fails (code >>= λ c. (called (parts (with_ipc (in_memory s n) x)) (Cxp k p) c >>= λ q. Ok (with_parts q (with_ipc (in_memory s n) x)))))
far_alike s n x k p (Err e) plain other bytes agree = tt
far_alike s n x k p (Ok code) plain other bytes agree =
    parts_alike s n x (called (parts (with_ipc s x)) (Cxp k p) code) (called (parts (with_ipc (in_memory s n) x)) (Cxp k p) code)
    (called_alike (Cxp k p) (parts (with_ipc s x)) n code plain.memory other plain.stack.below bytes
    (subst (λ ss. Agree ss s.memory n) (same_slot s x (Cxp k p) k (slice_get s.places k) (Ok code)) agree))

near_alike : (call : Call) (s : State) (n : List ℕ) (x : ℕ) → IsPlain s → IsMemory n → Agree (called_read (parts (with_ipc s x)) call None) s.memory n
    → StepAlike s n (or_fails (called (parts (with_ipc s x)) call None >>= λ q. Ok (with_parts q (with_ipc s x))))
    (or_fails (called (parts (with_ipc (in_memory s n) x)) call None >>= λ q. Ok (with_parts q (with_ipc (in_memory s n) x))))
near_alike call s n x plain other agree =
    parts_alike s n x (called (parts (with_ipc s x)) call None) (called (parts (with_ipc (in_memory s n) x)) call None)
    (called_alike call (parts (with_ipc s x)) n None plain.memory other plain.stack.below tt agree)

pub call_alike : (o : Call) (s : State) (n : List ℕ) (x : ℕ) → IsPlain s → IsMemory n → Agree (call_read o s) s.memory n
    → StepAlike s n (performed (operation.Call o) (with_ipc s x)) (performed (operation.Call o) (with_ipc (in_memory s n) x))
unfolding call_row code_needed
call_alike (Cxp k p) s n x plain other agree =
    far_alike s n x k p (slot_code k s.places s.rows s.devices) plain other (slot_code_fits k s.places s.rows s.devices (holds s plain)) agree
call_alike (Clp p) s n x plain other agree =
    near_alike (Clp p) s n x plain other (subst (λ ss. Agree ss s.memory n) (same_reached (Clp p) s.registers x (Ok (here (parts s)))) agree)
call_alike (Cgp p) s n x plain other agree =
    near_alike (Cgp p) s n x plain other (subst (λ ss. Agree ss s.memory n) (same_reached (Cgp p) s.registers x (Ok (here (parts s)))) agree)
call_alike (Cbp p) s n x plain other agree =
    near_alike (Cbp p) s n x plain other (subst (λ ss. Agree ss s.memory n) (same_reached (Cbp p) s.registers x (Ok (here (parts s)))) agree)
call_alike (Cip p) s n x plain other agree =
    near_alike (Cip p) s n x plain other (subst (λ ss. Agree ss s.memory n) (same_reached (Cip p) s.registers x (Ok (here (parts s)))) agree)

pub return_alike : (o : Return) (s : State) (n : List ℕ) (x : ℕ) → IsPlain s → IsMemory n
    → Agree (return_read (words_of_return o) (is_base_return o) s.registers.mp) s.memory n
    → StepAlike s n (performed (operation.Return o) (with_ipc s x)) (performed (operation.Return o) (with_ipc (in_memory s n) x))
return_alike o s n x plain other agree =
    of (returned (parts (with_ipc s x)) (words_of_return o) (is_base_return o)) (returned (parts (with_ipc (in_memory s n) x)) (words_of_return o)
    (is_base_return o))
    (returned_alike (parts (with_ipc s x)) n (words_of_return o) (is_base_return o) plain.memory other agree)
  where
    of : (r u : Result Parts ExecError) → Both (PartsAlike s.memory n) r u
        → StepAlike s n (or_fails (r >>= λ p. Ok (record (with_parts p (with_ipc s x)) { status = status_after p.registers.mp s.status })))
        (or_fails (u >>= λ p. Ok (record (with_parts p (with_ipc (in_memory s n) x)) { status = status_after p.registers.mp s.status })))
    of (Err e) u h = tt
    of (Ok d) u h = rw (h.made, h.like.same) (record {
      other = _;
      made = refl;
      like = record { memory = h.like.memory; same = refl; alike = h.like.alike };
    })
