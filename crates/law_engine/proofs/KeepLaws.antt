-- Lemmas for segments with keeps.
use Rattle.std.proofs.Common.{◌≡◌, ◌≢◌, ◌<◌, inl, inr, ℕ, ◌+◌, ◌-◌, ◌==◌, ◌||◌, Bool, true, false, cond, nat_lt, List, [], ◌∷◌, length, replicate}
use Rattle.std.proofs.Common.{Option, Some, None, Result, Ok, Err, refl, sym, ap, ◌∙◌, subst, arith, get_or}
use Rattle.std.specs.Prelude.{slice_get, slice_set, slice_index_or, option_and_then, position}
use Rattle.std.specs.List.{All}
use Rattle.std.proofs.lemmas.Bool.{cases_Bool}
use Rattle.std.proofs.lemmas.Bool.Decides.{nat_tests}
use Rattle.std.proofs.lemmas.List.{get_or-set_same, get_or-set_other, get_or_past}
use Rattle.std.proofs.lemmas.List.Elements.{All-get_or, All-replicate, All-set}
use Rattle.std.proofs.lemmas.Option.{get_or_from_slice_get}
use Rattle.pm_words.specs.declared.error.ExecError.{ExecError}
use Rattle.pm_words.specs.declared.error.ExecError.TheVariants.{StackOverflow}
use Rattle.pm_words.specs.Stack.{◌>>=◌, demand, minus, pop}
use Rattle.pm_opcode.specs.declared.instr.Instr.{Instr}
use Rattle.pm_opcode.specs.declared.operation.Operation.{Operation}
use Rattle.pm_opcode.specs.declared.operation.Operation.TheVariants as operation
use Rattle.pm_families.specs.declared.families.Return.{Return}
use Rattle.pm_opcode.specs.Operations.{operation_of}
use Rattle.pm_calls.specs.declared.frames.SegmentPlace.{SegmentPlace}
use Rattle.pm_calls.specs.Places.{Parts}
use Rattle.pm_calls.specs.Calls.{code_fits}
use Rattle.pm_calls.specs.Keeps.{keep_loading, keep_slot, keep_standing, segment_kept}
use Rattle.pm_calls.specs.Returns.{one_call_less, lessened, released, returned, stands_at}
use Rattle.law_engine.proofs.PlaceLaws.{return_places}
use Rattle.pm_units.specs.Traps.{or_fails}
use Rattle.pm_stdproc.specs.Loads.{slot_code}
use Rattle.pm_stdproc.specs.Procedures.{Reach, keep_row, procedure_numbered, procedure_row}
use Rattle.pm_stdproc.specs.Procedures as standard
use Rattle.pm_stdproc.specs.declared.procedures.Procedure.{Procedure}
use Rattle.pm_stdproc.specs.declared.procedures.Procedure.TheVariants as procedure
use Rattle.pm_machine.specs.declared.state.Status.{Status}
use Rattle.pm_machine.specs.declared.state.Status.TheVariants as status
use Rattle.pm_machine.specs.State.{State}
use Rattle.pm_machine.specs.Events.{Event, after_all, next}
use Rattle.pm_machine.specs.Events.Event.{Step, Key, Poke, Mount, Eject}
use Rattle.pm_machine.specs.Procedures.{is_base_return, parts, reach, return_row, status_after, with_parts, words_of_return}
use Rattle.pm_machine.specs.Rows.{fetched, past_instruction, performed, row}
use Rattle.pm_machine.specs.Steps.{at_status, executed, settled, stepped}
use Rattle.law_engine.specs.Keeping.{IsAtProcedure, IsNeverAt, IsPlainRun, IsUnkept, KeptSegmentsStand, StandsAs, UnkeptMachinesArePlain, plain_after_all}
use Rattle.law_engine.specs.Keeping.{plain_at_status, plain_executed, plain_less, plain_lessened, plain_next, plain_performed, plain_released}
use Rattle.law_engine.specs.Keeping.{plain_returned, plain_return_row}
use Rattle.law_engine.proofs.Places.{Holds, Places, after, boot_holds, lifted, next_holds, not_unkeep, of_parts, of_reach, other_holds}
use Rattle.law_engine.proofs.Places.{procedure_holds, raw_holds, standard_holds, then}

-- ---- a segment with a keep has its address

inside : (places : Places) (n : ℕ) (p : SegmentPlace) → get_or places n None ≡ Some p → n < length places
inside places n p is = elim (cases_Bool (nat_lt n (length places))) [
  | inl e ↦ grind (arith, nat_tests, e)
  | inr e ↦
      let none : get_or places n None ≡ None = get_or_past places n None (grind (arith, nat_tests, e)) in
      let no : Some p ≡ None = sym is ∙ none in
      absurd (cc)
]

-- If the slot `m` is set to `x`, then the slot `n` still has the segment `p`, provided that `x` has this segment if `m`
-- is `n`.
set_at : (places : Places) (m n : ℕ) (x : Option SegmentPlace) (p : SegmentPlace) → StandsAs p (get_or places n None) → (m ≡ n → StandsAs p x)
    → StandsAs p (get_or (slice_set places m x) n None)
set_at places m n x p h k = elim (cases_Bool (m == n)) [
  | inl e ↦
      let same : m ≡ n = grind (arith, nat_tests, e) in
      let there : get_or (slice_set places m x) n None ≡ x =
      subst (λ i. get_or (slice_set places i x) n None ≡ x) (sym same) (get_or-set_same places n x None (inside places n h.now h.there)) in
      rw there (k same)
  | inr e ↦
      let other : get_or (slice_set places m x) n None ≡ get_or places n None = get_or-set_other places m n x None (λ s. grind (arith, nat_tests, e, s)) in
      rw other h
]

-- If the slot that is set is the slot `n` of the segment `p`, then its old entry has the address and the keeps of `p`.
at_slot : (places : Places) (m n : ℕ) (q p : SegmentPlace) → get_or places m None ≡ Some q → StandsAs p (get_or places n None) → m ≡ n → StandsAs p (Some q)
at_slot places m n q p is h same = subst (StandsAs p) (subst (λ i. get_or places i None ≡ Some q) same is) h

some_same : (p q : SegmentPlace) → Some p ≡ Some q → p ≡ q
some_same p q h = cc

counted : (p q : SegmentPlace) (count : ℕ) → StandsAs p (Some q) → StandsAs p (Some (record q { count = count }))
counted p q count h =
    let same : q ≡ h.now = some_same q h.now h.there in
    record {
      now = record q { count = count };
      there = refl;
      place = ap (λ (x : SegmentPlace). x.place) same
          ∙ h.place;
      keeps = (let keeps : q.keeps ≡ h.now.keeps = ap (λ (x : SegmentPlace). x.keeps) same in let few = h.keeps in omega (arith, keeps, few));
    }

kept_more : (p q : SegmentPlace) → StandsAs p (Some q) → StandsAs p (Some (record q { keeps = q.keeps + 1 }))
kept_more p q h =
    let same : q ≡ h.now = some_same q h.now h.there in
    record {
      now = record q { keeps = q.keeps + 1 };
      there = refl;
      place = ap (λ (x : SegmentPlace). x.place) same
          ∙ h.place;
      keeps = (let keeps : q.keeps ≡ h.now.keeps = ap (λ (x : SegmentPlace). x.keeps) same in let few = h.keeps in omega (arith, keeps, few));
    }

-- A slot without an address is not the slot of a segment with an address.
apart : (places : Places) (m n : ℕ) (p : SegmentPlace) → get_or places m None ≡ None → StandsAs p (get_or places n None) → m ≡ n → ⊥
apart places m n p none h same =
    let no : None ≡ Some h.now = sym (subst (λ i. get_or places i None ≡ None) same none) ∙ h.there in cc

module _ (n : ℕ) (p : SegmentPlace) (kept : 0 < p.keeps) where
  abbrev Stands : Places → Type 0
  Stands places = StandsAs p (get_or places n None)

  more_stands : (places : Places) (m : ℕ) (q : SegmentPlace) → slice_get places m ≡ Some (Some q) → Stands places
      → Stands (slice_set places m (Some (record q { count = q.count + 1 })))
  more_stands places m q is h =
      let there = get_or_from_slice_get places m (Some q) None is in
      set_at places m n (Some (record q { count = q.count + 1 })) p h (λ same. counted p q (q.count + 1) (at_slot places m n q p there h same))

  load_stands : (places : Places) (m s : ℕ) → slice_get places m ≡ Some None → Stands places
      → Stands (slice_set places m (Some (record { place = s; count = 1; keeps = 0 })))
  load_stands places m s is h =
      let there = get_or_from_slice_get places m None None is in
      set_at places m n (Some (record { place = s; count = 1; keeps = 0 })) p h (λ same. absurd (apart places m n p there h same))

  less_stands : (o : Option SegmentPlace) → StandsAs p o → StandsAs p (option_and_then one_call_less o)
  less_stands None h = let no : None ≡ Some h.now = h.there in absurd (cc)
  less_stands (Some q) h =
      let same : q ≡ h.now = some_same q h.now h.there in
      let keeps : q.keeps ≡ h.now.keeps = ap (λ (x : SegmentPlace). x.keeps) same in
      let few = h.keeps in
      let test : (nat_lt 1 q.count || nat_lt 0 q.keeps) ≡ true = grind (arith, nat_tests, keeps, few, kept) in
      rw test (counted p q (q.count - 1) h)

  lessened_stands : (o : Option ℕ) (places : Places) → Stands places → Stands (lessened o places)
  lessened_stands None places h = h
  lessened_stands (Some m) places h = set_at places m n (option_and_then one_call_less (slice_index_or places m None)) p h
      (λ same. less_stands (get_or places m None) (subst (λ i. StandsAs p (get_or places i None)) (sym same) h))

  released_stands : (s : ℕ) (places : Places) → Stands places → Stands (released s places)
  unfolding released
  released_stands s places h = lessened_stands (position (stands_at s) places) places h

  keep_slot_stands : (c : Parts) (m : ℕ) (code : Option (List ℕ)) (slot : Option (Option SegmentPlace)) → slice_get c.places m ≡ slot → Stands c.places
      → Holds Stands of_parts (keep_slot c m code slot)
  unfolding keep_standing keep_loading
  keep_slot_stands c m code None is h = tt
  keep_slot_stands c m code (Some (Some q)) is h =
      let there = get_or_from_slice_get c.places m (Some q) None is in
      then Stands of_parts (demand (nat_lt q.keeps 65535) StackOverflow) _ (λ d. set_at c.places m n (Some (record q { keeps = q.keeps + 1 })) p h
      (λ same. kept_more p q (at_slot c.places m n q p there h same)))
  keep_slot_stands c m None (Some None) is h = tt
  keep_slot_stands c m (Some code) (Some None) is h =
      let there = get_or_from_slice_get c.places m None None is in
      then Stands of_parts (code_fits c.registers code) _ (λ d.
      set_at c.places m n (Some (record { place = minus c.registers.sp 2; count = 0; keeps = 1 })) p h (λ same. absurd (apart c.places m n p there h same)))

  kept_stands : (c : Parts) (m : ℕ) (code : Option (List ℕ)) → Stands c.places → Holds Stands of_parts (segment_kept c m code)
  unfolding segment_kept
  kept_stands c m code h = keep_slot_stands c m code (slice_get c.places m) refl h

  keep_row_stands : (s : Reach) → Stands s.places → Holds Stands of_reach (keep_row s)
  unfolding keep_row
  keep_row_stands s h = then Stands of_reach (pop s.memory s.registers.sp) _ (λ m.
      then Stands of_reach (slot_code m.word s.places s.rows s.devices) _ (λ code.
      after Stands of_parts of_reach (segment_kept (standard.reach_parts s (record s.registers { sp = m.above })) m.word code) _
      (kept_stands (standard.reach_parts s (record s.registers { sp = m.above })) m.word code h) (λ left k. k)))

  procedure_stands : (o : Procedure) (s : Reach) → o ≢ procedure.Unkeep → Stands s.places → Holds Stands of_reach (procedure_row o s)
  unfolding procedure_row
  procedure_stands (procedure.OnMemory o) s other h = procedure_holds Stands (procedure.OnMemory o) s (λ e. cc) (λ e. cc) h
  procedure_stands (procedure.OnUnits o) s other h = procedure_holds Stands (procedure.OnUnits o) s (λ e. cc) (λ e. cc) h
  procedure_stands procedure.Exit s other h = procedure_holds Stands procedure.Exit s (λ e. cc) (λ e. cc) h
  procedure_stands procedure.Keep s other h = lifted Stands of_reach (keep_row s) (keep_row_stands s h)
  procedure_stands procedure.Unkeep s other h = absurd (other refl)
  procedure_stands procedure.Unimplemented s other h = tt

  next_stands : (s : State) (e : Event) → Stands s.places → (e ≡ Step → IsAtProcedure 22 s → ⊥) → Stands (next s e).places
  next_stands s e h never = next_holds Stands more_stands load_stands released_stands s e h
      (λ step running i m there is.
      standard_holds Stands m (past_instruction i s) (procedure_stands (procedure_numbered m) (reach (past_instruction i s))
      (not_unkeep m (λ k. never step (record { running = running; instr = i; there = there; calls = is ∙ ap operation.Standard k }))) h))

  pub all_stand : (s : State) (es : List Event) → Stands s.places → IsNeverAt 22 s es → Stands (after_all s es).places
  unfolding IsNeverAt
  all_stand s [] h never = h
  all_stand s (e ∷ es) h never = all_stand (next s e) es (next_stands s e h never.0) never.1

pub kept_segments_stand : KeptSegmentsStand
kept_segments_stand s es n p is kept never =
    all_stand n p kept s es (record { now = p; there = is; place = refl; keeps = omega arith }) never

-- ---- the machine without keeps

abbrev AreUnkept : Places → Type 0
AreUnkept places = All IsUnkept places

slot_unkept : (places : Places) (n : ℕ) → AreUnkept places → IsUnkept (get_or places n None)
slot_unkept places n h = elim (cases_Bool (nat_lt n (length places))) [
  | inl e ↦ All-get_or IsUnkept places n None (grind (arith, nat_tests, e)) h
  | inr e ↦
      let none : get_or places n None ≡ None = get_or_past places n None (grind (arith, nat_tests, e)) in
      rw none tt
]

more_unkept : (places : Places) (n : ℕ) (p : SegmentPlace) → slice_get places n ≡ Some (Some p) → AreUnkept places
    → AreUnkept (slice_set places n (Some (record p { count = p.count + 1 })))
more_unkept places n p is h =
    let there = get_or_from_slice_get places n (Some p) None is in
    All-set IsUnkept places n (Some (record p { count = p.count + 1 })) (subst IsUnkept there (slot_unkept places n h)) h

load_unkept : (places : Places) (n s : ℕ) → slice_get places n ≡ Some None → AreUnkept places
    → AreUnkept (slice_set places n (Some (record { place = s; count = 1; keeps = 0 })))
load_unkept places n s is h = All-set IsUnkept places n (Some (record { place = s; count = 1; keeps = 0 })) refl h

less_unkept : (o : Option SegmentPlace) → IsUnkept o → IsUnkept (option_and_then one_call_less o)
less_unkept None h = tt
less_unkept (Some p) h = elim (cases_Bool (nat_lt 1 p.count || nat_lt 0 p.keeps)) [ inl e ↦ rw e h | inr e ↦ rw e tt ]

lessened_unkept : (o : Option ℕ) (places : Places) → AreUnkept places → AreUnkept (lessened o places)
lessened_unkept None places h = h
lessened_unkept (Some n) places h = All-set IsUnkept places n (option_and_then one_call_less (slice_index_or places n None))
    (less_unkept (slice_index_or places n None) (slot_unkept places n h)) h

released_unkept : (s : ℕ) (places : Places) → AreUnkept places → AreUnkept (released s places)
unfolding released
released_unkept s places h = lessened_unkept (position (stands_at s) places) places h

no_places : AreUnkept (replicate 16 None)
no_places = All-replicate IsUnkept 16 None tt

-- If a segment has no keep, then a return removes the same as in the machine without keeps.
less_same : (o : Option SegmentPlace) → IsUnkept o → option_and_then one_call_less o ≡ option_and_then plain_less o
less_same None h = refl
less_same (Some p) h = elim (cases_Bool (nat_lt 1 p.count)) [
  | inl e ↦ let test : (nat_lt 1 p.count || nat_lt 0 p.keeps) ≡ true = grind (arith, nat_tests, e) in rw (test, e) refl
  | inr e ↦ let test : (nat_lt 1 p.count || nat_lt 0 p.keeps) ≡ false = grind (arith, nat_tests, e, h) in rw (test, e) refl
]

lessened_same : (o : Option ℕ) (places : Places) → AreUnkept places → lessened o places ≡ plain_lessened o places
lessened_same None places h = refl
lessened_same (Some n) places h = ap (λ x. slice_set places n x) (less_same (slice_index_or places n None) (slot_unkept places n h))

released_same : (s : ℕ) (places : Places) → AreUnkept places → released s places ≡ plain_released s places
unfolding released
released_same s places h = lessened_same (position (stands_at s) places) places h

returned_same : (c : Parts) (words : ℕ) (base : Bool) → AreUnkept c.places → returned c words base ≡ plain_returned c words base
returned_same c words base h = by (returned c words base) refl
  where
    by : (r : Result Parts ExecError) → returned c words base ≡ r
        → r ≡ (r >>= λ p. Ok (record p { places = cond (p.registers.seg == c.registers.seg) c.places (plain_released c.registers.seg c.places) }))
    by (Err e) is = refl
    by (Ok p) is =
        let places = return_places c p words base is in
        let same = released_same c.registers.seg c.places h in
        ap (λ k. Ok (record p { places = k })) (places ∙ ap (λ k. cond (p.registers.seg == c.registers.seg) c.places k) same)

return_same : (r : Return) (s : State) → AreUnkept s.places → return_row r s ≡ plain_return_row r s
return_same r s h =
    ap (λ k. k >>= λ p. Ok (record (with_parts p s) { status = status_after p.registers.mp s.status }))
    (returned_same (parts s) (words_of_return r) (is_base_return r) h)

performed_same : (o : Operation) (s : State) → AreUnkept s.places → o ≢ operation.Standard 21 → o ≢ operation.Standard 22 → performed o s ≡ plain_performed o s
performed_same (operation.Arithmetic o) s h a b = refl
performed_same (operation.Variable o) s h a b = refl
performed_same (operation.Pointer o) s h a b = refl
performed_same (operation.Value o) s h a b = refl
performed_same (operation.Literal o) s h a b = refl
performed_same (operation.Jump o) s h a b = refl
performed_same (operation.Call o) s h a b = refl
performed_same (operation.Return o) s h a b = ap or_fails (return_same o s h)
performed_same (operation.Standard n) s h a b =
    let test : (n == 21 || n == 22) ≡ false = neither n (λ e. a (ap operation.Standard e)) (λ e. b (ap operation.Standard e)) in
    rw test refl
  where
    neither : (n : ℕ) → n ≢ 21 → n ≢ 22 → (n == 21 || n == 22) ≡ false
    neither n a b = grind (arith, nat_tests)
performed_same operation.Nothing s h a b = refl
performed_same operation.End s h a b = refl
performed_same operation.Unimplemented s h a b = refl

executed_same : (s : State) (r : Result Instr ExecError) → AreUnkept s.places
    → ((i : Instr) → r ≡ Ok i → operation_of i ≢ operation.Standard 21) → ((i : Instr) → r ≡ Ok i → operation_of i ≢ operation.Standard 22)
    → (or_fails r >>= λ i. row i s) ≡ (or_fails r >>= λ i. plain_performed (operation_of i) (past_instruction i s))
unfolding row
executed_same s (Err e) h a b = refl
executed_same s (Ok i) h a b = performed_same (operation_of i) (past_instruction i s) h (a i refl) (b i refl)

status_same : (k : Status) (s : State) → AreUnkept s.places
    → (k ≡ status.Running → (i : Instr) → fetched s.memory s.registers.ipc ≡ Ok i → operation_of i ≢ operation.Standard 21)
    → (k ≡ status.Running → (i : Instr) → fetched s.memory s.registers.ipc ≡ Ok i → operation_of i ≢ operation.Standard 22)
    → at_status k s ≡ plain_at_status k s
unfolding executed plain_executed
status_same status.Running s h a b = ap (settled s) (executed_same s (fetched s.memory s.registers.ipc) h (a refl) (b refl))
status_same status.Ended s h a b = refl
status_same (status.Halted e) s h a b = refl

next_same : (s : State) (e : Event) → AreUnkept s.places → (e ≡ Step → IsAtProcedure 21 s → ⊥) → (e ≡ Step → IsAtProcedure 22 s → ⊥) → next s e ≡ plain_next s e
unfolding stepped
next_same s Step h a b = ap (λ k. k.0) (status_same s.status s h
    (λ running i there is. a refl (record { running = running; instr = i; there = there; calls = is }))
    (λ running i there is. b refl (record { running = running; instr = i; there = there; calls = is })))
next_same s (Key byte) h a b = refl
next_same s (Poke address w) h a b = refl
next_same s (Mount unit image) h a b = refl
next_same s (Eject unit) h a b = refl

next_unkept : (s : State) (e : Event) → AreUnkept s.places → (e ≡ Step → IsAtProcedure 21 s → ⊥) → (e ≡ Step → IsAtProcedure 22 s → ⊥)
    → AreUnkept (next s e).places
next_unkept s e h a b = next_holds AreUnkept more_unkept load_unkept released_unkept s e h
    (λ step running i n there is. other_holds AreUnkept n (past_instruction i s)
    (λ k. a step (record { running = running; instr = i; there = there; calls = is ∙ ap operation.Standard k }))
    (λ k. b step (record { running = running; instr = i; there = there; calls = is ∙ ap operation.Standard k })) h)

plain_all : (s : State) (es : List Event) → AreUnkept s.places → IsNeverAt 21 s es → IsNeverAt 22 s es → IsPlainRun s es
unfolding IsNeverAt plain_after_all
plain_all s [] h a b = record { same = refl; unkept = h }
plain_all s (e ∷ es) h a b =
    let rest = plain_all (next s e) es (next_unkept s e h a.0 b.0) a.1 b.1 in
    record { same = rest.same ∙ ap (λ t. plain_after_all t es) (next_same s e h a.0 b.0); unkept = rest.unkept }

pub unkept_machines_are_plain : UnkeptMachinesArePlain
unkept_machines_are_plain = record {
  raw = λ bytes s es h. plain_all s es (raw_holds AreUnkept more_unkept load_unkept released_unkept bytes s no_places h);
  booted = λ images unit name clock s es h. plain_all s es (boot_holds AreUnkept more_unkept load_unkept released_unkept images unit name clock s no_places h);
  later = plain_all;
}
