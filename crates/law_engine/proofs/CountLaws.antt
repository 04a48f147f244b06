-- Lemmas: each segment with an address has at least one call or keep.
use Rattle.std.proofs.Common.{◌≡◌, ◌<◌, inl, inr, ℕ, ◌+◌, ◌-◌, ◌||◌, nat_lt, List, [], ◌∷◌, replicate, Option, Some, None, arith}
use Rattle.std.specs.Prelude.{slice_get, slice_set, slice_index_or, option_and_then, position}
use Rattle.std.specs.List.{All}
use Rattle.std.proofs.lemmas.Bool.Decides.{nat_tests}
use Rattle.std.proofs.lemmas.List.Elements.{All-replicate, All-set}
use Rattle.std.proofs.lemmas.Bool.{cases_Bool}
use Rattle.pm_words.specs.declared.error.ExecError.TheVariants.{NoSegment, StackOverflow}
use Rattle.pm_words.specs.Stack.{demand, minus, pop}
use Rattle.pm_calls.specs.declared.frames.SegmentPlace.{SegmentPlace}
use Rattle.pm_calls.specs.Places.{Parts}
use Rattle.pm_calls.specs.Calls.{code_fits}
use Rattle.pm_calls.specs.Keeps.{keep_loading, keep_slot, keep_standing, less_kept, segment_kept, segment_unkept, unkeep_slot, unkeep_standing}
use Rattle.pm_stdproc.specs.Loads.{length_of, slot_code}
use Rattle.pm_calls.specs.Returns.{one_call_less, lessened, released, stands_at}
use Rattle.pm_stdproc.specs.Procedures.{Reach, keep_row, procedure_numbered, procedure_row, unkeep_row}
use Rattle.pm_stdproc.specs.Procedures as standard
use Rattle.pm_stdproc.specs.declared.procedures.Procedure.{Procedure}
use Rattle.pm_stdproc.specs.declared.procedures.Procedure.TheVariants as procedure
use Rattle.pm_machine.specs.State.{State}
use Rattle.pm_machine.specs.Events.{Event, after_all, next}
use Rattle.pm_machine.specs.Procedures.{reach}
use Rattle.pm_machine.specs.Rows.{past_instruction}
use Rattle.law_engine.specs.Shapes.{IsCounted, MachinesCountCalls}
use Rattle.law_engine.proofs.Places.{Holds, Places, after, boot_holds, raw_holds, lifted, next_holds, of_parts, of_reach, procedure_holds, standard_holds, then}

abbrev AreCounted : Places → Type 0
AreCounted places = All IsCounted places

-- ---- calls and returns

one_more : (p : SegmentPlace) → IsCounted (Some (record p { count = p.count + 1 }))
one_more p = omega arith

more_counts : (places : Places) (n : ℕ) (p : SegmentPlace) → slice_get places n ≡ Some (Some p) → AreCounted places
    → AreCounted (slice_set places n (Some (record p { count = p.count + 1 })))
more_counts places n p is h = All-set IsCounted places n (Some (record p { count = p.count + 1 })) (one_more p) h

first_one : (s : ℕ) → IsCounted (Some (record { place = s; count = 1; keeps = 0 }))
first_one s = omega arith

load_counts : (places : Places) (n s : ℕ) → slice_get places n ≡ Some None → AreCounted places
    → AreCounted (slice_set places n (Some (record { place = s; count = 1; keeps = 0 })))
load_counts places n s is h = All-set IsCounted places n (Some (record { place = s; count = 1; keeps = 0 })) (first_one s) h

-- If a segment still has an address after it lost one call, then it has a call or a keep.
less_counts : (o : Option SegmentPlace) → IsCounted (option_and_then one_call_less o)
less_counts None = tt
less_counts (Some p) = elim (cases_Bool (nat_lt 1 p.count || nat_lt 0 p.keeps)) [
  | inl e ↦ let left : 0 < p.count - 1 + p.keeps = grind (arith, nat_tests, e) in rw e left
  | inr e ↦ rw e tt
]

lessened_counts : (o : Option ℕ) (places : Places) → AreCounted places → AreCounted (lessened o places)
lessened_counts None places h = h
lessened_counts (Some n) places h = All-set IsCounted places n (option_and_then one_call_less (slice_index_or places n None))
    (less_counts (slice_index_or places n None)) h

released_counts : (s : ℕ) (places : Places) → AreCounted places → AreCounted (released s places)
unfolding released
released_counts s places h = lessened_counts (position (stands_at s) places) places h

-- ---- keeps

one_kept : (p : SegmentPlace) → IsCounted (Some (record p { keeps = p.keeps + 1 }))
one_kept p = omega arith

first_kept : (s : ℕ) → IsCounted (Some (record { place = s; count = 0; keeps = 1 }))
first_kept s = omega arith

keep_slot_counts : (c : Parts) (n : ℕ) (code : Option (List ℕ)) (slot : Option (Option SegmentPlace)) → AreCounted c.places
    → Holds AreCounted of_parts (keep_slot c n code slot)
unfolding keep_standing keep_loading
keep_slot_counts c n code None h = tt
keep_slot_counts c n code (Some (Some p)) h =
    then AreCounted of_parts (demand (nat_lt p.keeps 65535) StackOverflow) _ (λ d. All-set IsCounted c.places n (Some (record p { keeps = p.keeps + 1 }))
    (one_kept p) h)
keep_slot_counts c n None (Some None) h = tt
keep_slot_counts c n (Some code) (Some None) h =
    then AreCounted of_parts (code_fits c.registers code) _ (λ d.
    All-set IsCounted c.places n (Some (record { place = minus c.registers.sp 2; count = 0; keeps = 1 })) (first_kept (minus c.registers.sp 2)) h)

kept_counts : (c : Parts) (n : ℕ) (code : Option (List ℕ)) → AreCounted c.places → Holds AreCounted of_parts (segment_kept c n code)
unfolding segment_kept
kept_counts c n code h = keep_slot_counts c n code (slice_get c.places n) h

-- If a segment still has an address after it lost one keep, then it has a call or a keep.
less_kept_counts : (p : SegmentPlace) → IsCounted (less_kept p)
less_kept_counts p = elim (cases_Bool (nat_lt 1 p.keeps || nat_lt 0 p.count)) [
  | inl e ↦ let left : 0 < p.count + (p.keeps - 1) = grind (arith, nat_tests, e) in rw e left
  | inr e ↦ rw e tt
]

unkeep_slot_counts : (c : Parts) (n size : ℕ) (slot : Option (Option SegmentPlace)) → AreCounted c.places
    → Holds AreCounted of_parts (unkeep_slot c n size slot)
unfolding unkeep_standing
unkeep_slot_counts c n size None h = tt
unkeep_slot_counts c n size (Some None) h = tt
unkeep_slot_counts c n size (Some (Some p)) h =
    then AreCounted of_parts (demand (nat_lt 0 p.keeps) NoSegment) _ (λ d. All-set IsCounted c.places n (less_kept p) (less_kept_counts p) h)

unkept_counts : (c : Parts) (n size : ℕ) → AreCounted c.places → Holds AreCounted of_parts (segment_unkept c n size)
unfolding segment_unkept
unkept_counts c n size h = unkeep_slot_counts c n size (slice_get c.places n) h

keep_counts : (s : Reach) → AreCounted s.places → Holds AreCounted of_reach (keep_row s)
unfolding keep_row
keep_counts s h = then AreCounted of_reach (pop s.memory s.registers.sp) _ (λ n.
    then AreCounted of_reach (slot_code n.word s.places s.rows s.devices) _ (λ code.
    after AreCounted of_parts of_reach (segment_kept (standard.reach_parts s (record s.registers { sp = n.above })) n.word code) _
    (kept_counts (standard.reach_parts s (record s.registers { sp = n.above })) n.word code h) (λ left k. k)))

unkeep_counts : (s : Reach) → AreCounted s.places → Holds AreCounted of_reach (unkeep_row s)
unfolding unkeep_row
unkeep_counts s h = then AreCounted of_reach (pop s.memory s.registers.sp) _ (λ n.
    let size = length_of (slice_get s.rows n.word) in
    after AreCounted of_parts of_reach (segment_unkept (standard.reach_parts s (record s.registers { sp = n.above })) n.word size) _
    (unkept_counts (standard.reach_parts s (record s.registers { sp = n.above })) n.word size h) (λ left k. k))

procedure_counts : (p : Procedure) (s : Reach) → AreCounted s.places → Holds AreCounted of_reach (procedure_row p s)
unfolding procedure_row
procedure_counts (procedure.OnMemory o) s h = procedure_holds AreCounted (procedure.OnMemory o) s (λ e. cc) (λ e. cc) h
procedure_counts (procedure.OnUnits o) s h = procedure_holds AreCounted (procedure.OnUnits o) s (λ e. cc) (λ e. cc) h
procedure_counts procedure.Exit s h = procedure_holds AreCounted procedure.Exit s (λ e. cc) (λ e. cc) h
procedure_counts procedure.Keep s h = lifted AreCounted of_reach (keep_row s) (keep_counts s h)
procedure_counts procedure.Unkeep s h = lifted AreCounted of_reach (unkeep_row s) (unkeep_counts s h)
procedure_counts procedure.Unimplemented s h = tt

-- ---- events

next_counts : (s : State) (e : Event) → AreCounted s.places → AreCounted (next s e).places
next_counts s e h = next_holds AreCounted more_counts load_counts released_counts s e h
    (λ step running i n there is. standard_holds AreCounted n (past_instruction i s) (procedure_counts (procedure_numbered n) (reach (past_instruction i s)) h))

all_count : (s : State) (es : List Event) → AreCounted s.places → AreCounted (after_all s es).places
all_count s [] h = h
all_count s (e ∷ es) h = all_count (next s e) es (next_counts s e h)

-- ---- the starts

no_places : AreCounted (replicate 16 None)
no_places = All-replicate IsCounted 16 None tt

pub machines_count_calls : MachinesCountCalls
machines_count_calls = record {
  raw = λ bytes s es h. all_count s es (raw_holds AreCounted more_counts load_counts released_counts bytes s no_places h);
  booted = λ images unit name clock s es h. all_count s es (boot_holds AreCounted more_counts load_counts released_counts images unit name clock s no_places h);
}
