-- Lemmas for the slots after a return that immediately follows its call.
use Rattle.std.proofs.Common.{◌≡◌, ◌≢◌, ◌<◌, ◌≤◌, inl, inr, ℕ, ◌+◌, ◌-◌, ◌*◌, ◌==◌, ◌&&◌, ◌||◌, Bool, true, false, cond}
use Rattle.std.proofs.Common.{nat_lt, nat_le, List, length, get_or, Option, Some, None, Ok, refl, sym, ap, ◌∙◌, arith}
use Rattle.std.specs.Prelude.{slice_get, slice_set, slice_index_or, position, option_and_then}
use Rattle.std.specs.List.{position_or_len}
use Rattle.std.proofs.lemmas.Bool.{cases_Bool}
use Rattle.std.proofs.lemmas.Bool.Decides.{nat_tests}
use Rattle.std.proofs.lemmas.List.{get_or-set_same, get_or-set_other, length-set, set-get_or, set-set}
use Rattle.std.proofs.lemmas.List.Sums.{position_or_len_is}
use Rattle.std.proofs.lemmas.Option.{get_or_from_slice_get, slice_get_within}
use Rattle.pm_words.specs.declared.error.ExecError.TheVariants.{InvalidMemory, StackOverflow}
use Rattle.pm_words.specs.Words.{IsMemory, copied, word_at}
use Rattle.pm_words.specs.Stack.{is_even, minus}
use Rattle.pm_words.proofs.RangeLaws.{IsMemory-copied}
use Rattle.pm_calls.specs.declared.registers.Registers.{Registers}
use Rattle.pm_calls.specs.declared.frames.Table.{Table}
use Rattle.pm_families.specs.declared.families.Call.{Call}
use Rattle.pm_families.specs.declared.families.Call.TheVariants.{Clp, Cgp, Cbp, Cip, Cxp}
use Rattle.pm_calls.specs.Links.{static_link}
use Rattle.pm_calls.specs.Tables.{attributes}
use Rattle.pm_calls.specs.Calls.{Reached, called, called_at, called_loading, called_slot, called_standing, entered, here, inside}
use Rattle.pm_calls.specs.Calls.{is_base, kept_below, reach_loading, procedure_called, reach_standing, with_frame, with_old_base}
use Rattle.pm_calls.specs.declared.frames.SegmentPlace.{SegmentPlace}
use Rattle.pm_calls.specs.Places.{Parts}
use Rattle.pm_calls.specs.Returns.{one_call_less, lessened, released, returned, stands_at}
use Rattle.pm_calls.specs.Laws.{IsCode, IsFirstAt, IsFoundAgain, ReturnGivesPlacesBack}
use Rattle.pm_calls.proofs.ReturnLaws.{IsFramed, bound, control_kept, control_written, frame_made, has_room}
use Rattle.pm_calls.proofs.ReturnLaws.{loading_memory, low_before, ok_same, passed, return_read}

-- ---- the slot that a return finds

stands_there : (s count keeps : ℕ) → 0 < count → stands_at s (Some (record { place = s; count = count; keeps = keeps })) ≡ true
stands_there s count keeps h = grind (arith, nat_tests)

found_again : (places : List (Option SegmentPlace)) (s n count keeps : ℕ) → n < length places → 0 < count → IsFirstAt s n places →
    position (stands_at s) (slice_set places n (Some (record { place = s; count = count; keeps = keeps }))) ≡ Some n
found_again places s n count keeps low some first =
    let new = slice_set places n (Some (record { place = s; count = count; keeps = keeps })) in
    let size : length new ≡ length places = length-set places n (Some (record { place = s; count = count; keeps = keeps })) in
    let inside : n < length new = omega (arith, low, size) in
    let is : position_or_len (stands_at s) new ≡ n = position_or_len_is (stands_at s) new n None (omega (arith, inside))
    (λ k l. ap (stands_at s) (get_or-set_other places n k (Some (record { place = s; count = count; keeps = keeps })) None (λ e. omega (arith, e, l)))
    ∙ first k l)
    (λ l. ap (stands_at s) (get_or-set_same places n (Some (record { place = s; count = count; keeps = keeps })) None low) ∙ stands_there s count keeps some) in
    let test : nat_lt (position_or_len (stands_at s) new) (length new) ≡ true = grind (arith, nat_tests, is, inside) in
    rw test (ap Some is)

-- If a slot gets one more call and then loses one call, then its entry is the old one.
slot_back : (places : List (Option SegmentPlace)) (s n count keeps : ℕ) (old : Option SegmentPlace) → n < length places → 0 < count → IsFirstAt s n places
    → get_or places n None ≡ old →
    one_call_less (record { place = s; count = count; keeps = keeps }) ≡ old
    → released s (slice_set places n (Some (record { place = s; count = count; keeps = keeps }))) ≡ places
unfolding released
slot_back places s n count keeps old low some first was gives =
    let new = Some (record { place = s; count = count; keeps = keeps }) in
    let there = found_again places s n count keeps low some first in
    let here : slice_index_or (slice_set places n new) n None ≡ new = get_or-set_same places n new None low in
    ap (λ k. lessened k (slice_set places n new)) there
    ∙ ap (λ k. slice_set (slice_set places n new) n (option_and_then one_call_less k)) here
    ∙ set-set places n new (one_call_less (record { place = s; count = count; keeps = keeps }))
    ∙ ap (λ k. slice_set places n k) (gives ∙ sym was)
    ∙ set-get_or places n None

-- ---- a return

pub return_places : (c e : Parts) (words : ℕ) (base : Bool) → returned c words base ≡ Ok e →
    e.places ≡ cond (e.registers.seg == c.registers.seg) c.places (released c.registers.seg c.places)
unfolding returned
return_places c e words base h =
    let f = c.registers.mp in
    let above = word_at c.memory (f + 10) in
    let first = passed (is_even f && nat_le (f + 12 + 2 * words) 65536) InvalidMemory _ _ h in
    let second = passed (is_even above && nat_le above 65504) InvalidMemory _ _ first.1 in
    let third = passed (nat_le (c.registers.np + 2 * words) above) StackOverflow _ _ second.1 in
    let same = ok_same _ _ third.1 in
    sym (ap (λ (p : Parts). p.places) same)
    ∙ ap (λ k. cond (k == c.registers.seg) c.places (released c.registers.seg c.places)) (ap (λ (p : Parts). p.registers.seg) same)

-- If a return follows its call, then the running segment is the segment of the caller again.
frame_segment : (m : List ℕ) (s f static words : ℕ) (r : Registers) (base back : Bool) (t : Table) (places : List (Option SegmentPlace)) (e : Parts) →
    IsMemory m → r.sp + t.parameters ≤ 65504 → f + 12 + t.parameters ≤ 65504 → kept_below base ≤ f →
    returned (record {
      memory = with_old_base base (with_frame m f static r t.parameters) f r.base;
      registers = inside base r s t f;
      places = places;
    }) words back ≡ Ok e →
    e.registers.seg ≡ r.seg
frame_segment m s f static words r base back t places e h fits room below done =
    let n = with_old_base base (with_frame m f static r t.parameters) f r.base in
    let left = return_read (record { memory = n; registers = inside base r s t f; places = places }) e words back done in
    let moved = copied m r.sp (f + 12) t.parameters in
    let size : length moved ≡ 32768 = (IsMemory-copied m r.sp (f + 12) t.parameters h (omega (arith, fits)) (omega (arith, room))).size in
    let control = control_written moved f static r (r.sp + t.parameters) size left.even left.room in
    let kept = control_kept base (with_frame m f static r t.parameters) f r.base r (r.sp + t.parameters) left.even below control in
    ap (λ (k : Registers). k.seg) left.registers ∙ kept.seg

made_segment : (m n : List ℕ) (s loaded static words f : ℕ) (r inner : Registers) (base back : Bool) (t : Table) (places : List (Option SegmentPlace))
    (e : Parts) →
    IsMemory m → IsFramed m s loaded r base t static n inner f →
    returned (record { memory = n; registers = inner; places = places }) words back ≡ Ok e → e.registers.seg ≡ r.seg
made_segment m n s loaded static words f r inner base back t places e h x done =
    frame_segment m s f static words r base back t places e h x.inside_memory x.room x.below (rw (x.memory, x.registers) at done)

-- ---- a call in a segment that was reached

at_places : (c d e : Parts) (call : Call) (at : Reached) (words : ℕ) (base : Bool) → IsMemory at.memory → called_at c call at ≡ Ok d
    → returned d words base ≡ Ok e →
    e.places ≡ cond (c.registers.seg == at.place) at.places (released at.place at.places)
unfolding called_at entered
at_places c d e call at words base h made done =
    let x = bound (entered at.memory at.place at.loaded c.registers call) _ _ made in
    let t = bound (attributes at.memory at.place (procedure_called call)) _ _ x.1 in
    let l = bound (static_link call at.memory c.registers t.0.level) _ _ t.2 in
    let same = ok_same _ _ x.2 in
    let left = rw (sym same) at done in
    let f = frame_made at.memory x.0.0 at.place at.loaded l.0 c.registers x.0.1 (is_base call t.0.level) t.0 l.2 in
    let segment = made_segment at.memory x.0.0 at.place at.loaded l.0 words f.0 c.registers x.0.1 (is_base call t.0.level) base t.0 at.places e h f.1 left in
    let inner : x.0.1.seg ≡ at.place = ap (λ (k : Registers). k.seg) f.1.registers in
    return_places (record { memory = x.0.0; registers = x.0.1; places = at.places }) e words base left
    ∙ ap (λ k. cond (k == x.0.1.seg) at.places (released x.0.1.seg at.places)) segment
    ∙ ap (λ k. cond (c.registers.seg == k) at.places (released k at.places)) inner

is_itself : (n : ℕ) → (n == n) ≡ true
is_itself n = grind (arith, nat_tests)

here_places : (c d e : Parts) (call : Call) (words : ℕ) (base : Bool) → IsMemory c.memory → called_at c call (here c) ≡ Ok d → returned d words base ≡ Ok e
    → e.places ≡ c.places
here_places c d e call words base h made done =
    at_places c d e call (here c) words base h made done ∙ ap (λ b. cond b c.places (released c.registers.seg c.places)) (is_itself c.registers.seg)

is_other : (a b : ℕ) → a ≢ b → (a == b) ≡ false
is_other a b h = grind (arith, nat_tests)

one_less : (p : SegmentPlace) → 0 < p.count + p.keeps → one_call_less (record { place = p.place; count = p.count + 1; keeps = p.keeps }) ≡ Some p
one_less p h =
    let test : (nat_lt 1 (p.count + 1) || nat_lt 0 p.keeps) ≡ true = grind (arith, nat_tests) in
    let count : p.count + 1 - 1 ≡ p.count = omega arith in
    rw (test, count) refl

standing_places : (c d e : Parts) (call : Call) (n : ℕ) (p : SegmentPlace) (at : Reached) (words : ℕ) (base : Bool) → IsMemory c.memory →
    n < length c.places → get_or c.places n None ≡ Some p → IsFoundAgain c n (Some (Some p)) →
    reach_standing c n p ≡ Ok at → called_at c call at ≡ Ok d → returned d words base ≡ Ok e → e.places ≡ c.places
unfolding reach_standing
standing_places c d e call n p at words base h low was again is made done = elim (cases_Bool (p.place == c.registers.seg)) [
  | inl here ↦
      let same = ok_same _ at (rw here at is) in
      here_places c d e call words base h (rw (sym same) at made) done
  | inr other ↦
      let differ : p.place ≢ c.registers.seg = λ e. grind (arith, nat_tests, other, e) in
      let k = passed (nat_lt p.count 65535) StackOverflow _ at (rw other at is) in
      let same = ok_same _ at k.1 in
      let found = again differ in
      let new : List (Option SegmentPlace) = slice_set c.places n (Some (record p { count = p.count + 1 })) in
      at_places c d e call (record { memory = c.memory; places = new; place = p.place; loaded = 0 }) words base h (rw (sym same) at made) done
      ∙ ap (λ b. cond b new (released p.place new)) (is_other c.registers.seg p.place (λ e. differ (sym e)))
      ∙ slot_back c.places p.place n (p.count + 1) p.keeps (Some p) low (omega arith) found.1 was (one_less p found.0)
]

loading_places : (c d e : Parts) (call : Call) (n : ℕ) (code : List ℕ) (at : Reached) (words : ℕ) (base : Bool) → IsMemory at.memory →
    n < length c.places → get_or c.places n None ≡ None → IsFoundAgain c n (Some None) →
    reach_loading c n code ≡ Ok at → called_at c call at ≡ Ok d → returned d words base ≡ Ok e → e.places ≡ c.places
unfolding reach_loading
loading_places c d e call n code at words base h low was again is made done =
    let same = ok_same _ at (has_room c.registers code _ at is).made in
    let s = minus c.registers.sp 2 in
    let new : List (Option SegmentPlace) = slice_set c.places n (Some (record { place = s; count = 1; keeps = 0 })) in
    let place : at.place ≡ s = sym (ap (λ (x : Reached). x.place) same) in
    let places : at.places ≡ new = sym (ap (λ (x : Reached). x.places) same) in
    at_places c d e call at words base h made done
    ∙ ap (λ k. cond (c.registers.seg == k) at.places (released k at.places)) place
    ∙ ap (λ k. cond (c.registers.seg == s) k (released s k)) places
    ∙ ap (λ b. cond b new (released s new)) (is_other c.registers.seg s again.0)
    ∙ slot_back c.places s n 1 0 None low (omega arith) again.1 was refl

slot_places : (c d e : Parts) (call : Call) (n : ℕ) (code : Option (List ℕ)) (slot : Option (Option SegmentPlace)) (words : ℕ) (base : Bool) →
    slice_get c.places n ≡ slot → IsFoundAgain c n slot → IsMemory c.memory → IsCode code →
    called_slot c call n code slot ≡ Ok d → returned d words base ≡ Ok e → e.places ≡ c.places
unfolding called_standing called_loading
slot_places c d e call n code None words base is again m bytes made done = absurd (cc)
slot_places c d e call n code (Some (Some p)) words base is again m bytes made done =
    let x = bound (reach_standing c n p) _ _ made in
    standing_places c d e call n p x.0 words base m (slice_get_within c.places n (Some p) is)
    (get_or_from_slice_get c.places n (Some p) None is) again x.1 x.2 done
slot_places c d e call n None (Some None) words base is again m bytes made done = absurd (cc)
slot_places c d e call n (Some code) (Some None) words base is again m bytes made done =
    let x = bound (reach_loading c n code) _ _ made in
    loading_places c d e call n code x.0 words base (loading_memory c n code x.0 m bytes (low_before c d call x.0 x.2) x.1)
    (slice_get_within c.places n None is) (get_or_from_slice_get c.places n None None is) again x.1 x.2 done

pub return_gives_places_back : ReturnGivesPlacesBack
unfolding called
return_gives_places_back c d e (Clp p) code words base m bytes again made done = here_places c d e (Clp p) words base m made done
return_gives_places_back c d e (Cgp p) code words base m bytes again made done = here_places c d e (Cgp p) words base m made done
return_gives_places_back c d e (Cbp p) code words base m bytes again made done = here_places c d e (Cbp p) words base m made done
return_gives_places_back c d e (Cip p) code words base m bytes again made done = here_places c d e (Cip p) words base m made done
return_gives_places_back c d e (Cxp n p) code words base m bytes again made done =
    slot_places c d e (Cxp n p) n code (slice_get c.places n) words base refl again m bytes made done
