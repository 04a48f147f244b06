-- Lemmas for the SP after a call and its return.
use Rattle.std.proofs.Common.{◌≡◌, ◌≤◌, ℕ, ◌+◌, ◌-◌, ◌*◌, ◌/◌, ◌%◌, ◌==◌, ◌&&◌, Bool, not, nat_lt, nat_le}
use Rattle.std.proofs.Common.{List, length, Option, Some, None, Ok, refl, sym, ap, ◌∙◌, arith}
use Rattle.std.specs.Prelude.{slice_get}
use Rattle.std.proofs.lemmas.Bool.{and_parts}
use Rattle.std.proofs.lemmas.Bool.Decides.{nat_tests}
use Rattle.pm_words.specs.declared.error.ExecError.TheVariants.{InvalidMemory, NoSegment, StackOverflow, Unimplemented}
use Rattle.pm_words.specs.Words.{IsMemory, copied, word_at}
use Rattle.pm_words.specs.Stack.{is_even, load, minus}
use Rattle.pm_words.proofs.RangeLaws.{IsMemory-copied}
use Rattle.pm_families.specs.declared.families.Call.{Call}
use Rattle.pm_families.specs.declared.families.Call.TheVariants.{Clp, Cgp, Cbp, Cip, Cxp}
use Rattle.pm_calls.specs.declared.registers.Registers.{Registers}
use Rattle.pm_calls.specs.declared.frames.Table.{Table}
use Rattle.pm_calls.specs.declared.frames.SegmentPlace.{SegmentPlace}
use Rattle.pm_calls.specs.Places.{Parts}
use Rattle.pm_calls.specs.Links.{static_link}
use Rattle.pm_calls.specs.Tables.{attributes, self_relative, table_at}
use Rattle.pm_calls.specs.Calls.{Reached, called, called_at, called_loading, called_slot, called_standing, entered, framed, here, is_base}
use Rattle.pm_calls.specs.Calls.{procedure_called, reach_loading, reach_standing, with_frame, with_old_base}
use Rattle.pm_calls.specs.Returns.{returned}
use Rattle.pm_calls.specs.Laws.{IsCode, Reaches, ReachesSlot}
use Rattle.pm_calls.proofs.ReturnLaws.{bound, control_kept, control_written, frame_made, loading_memory, low_before, ok_same, passed}
use Rattle.pm_calls.proofs.ReturnLaws.{return_read, standing_memory}
use Rattle.law_engine.specs.CallEffects.{CallsAreTheMachines, MovesByTable, kept_sp}

-- If an attribute table is found, then its size of parameters is even.
even_parameters : (m : List ℕ) (s p : ℕ) (t : Table) → attributes m s p ≡ Ok t → t.parameters % 2 ≡ 0
unfolding attributes
even_parameters m s p t h =
    let top = bound (load m s) _ t h in
    let counted = passed (nat_lt 0 p && nat_le p (top.0 / 256)) NoSegment _ t top.2 in
    let j = self_relative m (minus s (2 * p)) in
    let even = passed (is_even j) NoSegment _ t counted.1 in
    let numbered = passed (not (word_at m j % 256 == 0)) Unimplemented _ t even.1 in
    let u = table_at m j in
    let sizes = passed (is_even u.parameters && is_even u.locals) NoSegment _ t numbered.1 in
    let parts = and_parts (is_even u.parameters) (is_even u.locals) sizes.0 in
    let is_so : u.parameters % 2 ≡ 0 = grind (arith, nat_tests, parts.0) in
    let same : u.parameters ≡ t.parameters = ap (λ (x : Table). x.parameters) (ok_same u t sizes.1) in
    rw (sym same) is_so

-- If a return of `results` words succeeds, then these words end at the SP that the frame has saved.
leaves_below : (c e : Parts) (results : ℕ) (base : Bool) → returned c results base ≡ Ok e → e.registers.sp + 2 * results ≡ kept_sp c
unfolding returned
leaves_below c e results base h =
    let f = c.registers.mp in
    let above = word_at c.memory (f + 10) in
    let first = passed (is_even f && nat_le (f + 12 + 2 * results) 65536) InvalidMemory _ _ h in
    let second = passed (is_even above && nat_le above 65504) InvalidMemory _ _ first.1 in
    let third = passed (nat_le (c.registers.np + 2 * results) above) StackOverflow _ _ second.1 in
    let room : c.registers.np + 2 * results ≤ above = grind (arith, nat_tests, third.0) in
    let at : above - 2 * results ≡ e.registers.sp = ap (λ (p : Parts). p.registers.sp) (ok_same _ _ third.1) in
    omega (arith, room, at)

-- If a call creates a frame, then the frame saves the SP above the parameters.
frame_stays : (m n : List ℕ) (s loaded static : ℕ) (r inner : Registers) (base : Bool) (t : Table) → IsMemory m → inner.mp % 2 ≡ 0
    → framed m s loaded r base t static ≡ Ok (n, inner) → word_at n (inner.mp + 10) ≡ r.sp + t.parameters
frame_stays m n s loaded static r inner base t is even made =
    let x = frame_made m n s loaded static r inner base t made in
    let f = x.0 in
    let fits = x.1.inside_memory in
    let room = x.1.room in
    let at : inner.mp ≡ f = ap (λ (i : Registers). i.mp) x.1.registers in
    let even_f : f % 2 ≡ 0 = rw at at even in
    let moved = copied m r.sp (f + 12) t.parameters in
    let size : length moved ≡ 32768 = (IsMemory-copied m r.sp (f + 12) t.parameters is (omega (arith, fits)) (omega (arith, room))).size in
    let control = control_written moved f static r (r.sp + t.parameters) size even_f (omega (arith, room)) in
    let kept = control_kept base (with_frame m f static r t.parameters) f r.base r (r.sp + t.parameters) even_f x.1.below control in
    ap (λ ws. word_at ws (inner.mp + 10)) x.1.memory
    ∙ ap (λ a. word_at (with_old_base base (with_frame m f static r t.parameters) f r.base) (a + 10)) at ∙ kept.sp

-- If a call of a procedure in the reached segment `at` and a later return succeed, then SP moves by the effect of the
-- procedure.
at_moves : (c d b e : Parts) (call : Call) (code : Option (List ℕ)) (at : Reached) (results : ℕ) (base : Bool) → Reaches c call code at
    → IsMemory at.memory → called_at c call at ≡ Ok d → b.registers.mp ≡ d.registers.mp → kept_sp b ≡ kept_sp d
    → returned b results base ≡ Ok e → MovesByTable c call code results e
unfolding called_at entered
at_moves c d b e call code at results base is h made mp sp done =
    let x = bound (entered at.memory at.place at.loaded c.registers call) _ _ made in
    let t = bound (attributes at.memory at.place (procedure_called call)) _ _ x.1 in
    let l = bound (static_link call at.memory c.registers t.0.level) _ _ t.2 in
    let same = ok_same _ _ x.2 in
    let back = return_read b e results base done in
    let even_sizes = even_parameters at.memory at.place (procedure_called call) t.0 t.1 in
    let mp_is : x.0.1.mp ≡ d.registers.mp = ap (λ (p : Parts). p.registers.mp) same in
    let even : x.0.1.mp % 2 ≡ 0 = rw (mp_is, sym mp) back.even in
    let keeps = frame_stays at.memory x.0.0 at.place at.loaded l.0 c.registers x.0.1 (is_base call t.0.level) t.0 h even l.2 in
    let at_d : kept_sp d ≡ c.registers.sp + t.0.parameters = sym (ap (λ (p : Parts). kept_sp p) same) ∙ keeps in
    let below = leaves_below b e results base done in
    record {
      at = at;
      reached = is;
      table = t.0;
      found = t.1;
      moves = omega (arith, below, sp, at_d, even_sizes);
    }

slot_moves : (c d b e : Parts) (call : Call) (n : ℕ) (code : Option (List ℕ)) (slot : Option (Option SegmentPlace)) (results : ℕ) (base : Bool)
    → ((at : Reached) → ReachesSlot c n code slot at → Reaches c call code at) → IsMemory c.memory → IsCode code
    → called_slot c call n code slot ≡ Ok d → b.registers.mp ≡ d.registers.mp → kept_sp b ≡ kept_sp d
    → returned b results base ≡ Ok e → MovesByTable c call code results e
unfolding called_standing called_loading
slot_moves c d b e call n code None results base k m bytes made mp sp done = absurd (cc)
slot_moves c d b e call n code (Some (Some p)) results base k m bytes made mp sp done =
    let x = bound (reach_standing c n p) _ _ made in
    at_moves c d b e call code x.0 results base (k x.0 x.1) (rw (standing_memory c n p x.0 x.1) m) x.2 mp sp done
slot_moves c d b e call n None (Some None) results base k m bytes made mp sp done = absurd (cc)
slot_moves c d b e call n (Some code) (Some None) results base k m bytes made mp sp done =
    let x = bound (reach_loading c n code) _ _ made in
    at_moves c d b e call (Some code) x.0 results base (k x.0 x.1) (loading_memory c n code x.0 m bytes (low_before c d call x.0 x.2) x.1) x.2 mp sp done

pub calls_are_the_machines : CallsAreTheMachines
unfolding called
calls_are_the_machines c d b e (Clp p) code n base m bytes made mp sp done = at_moves c d b e (Clp p) code (here c) n base refl m made mp sp done
calls_are_the_machines c d b e (Cgp p) code n base m bytes made mp sp done = at_moves c d b e (Cgp p) code (here c) n base refl m made mp sp done
calls_are_the_machines c d b e (Cbp p) code n base m bytes made mp sp done = at_moves c d b e (Cbp p) code (here c) n base refl m made mp sp done
calls_are_the_machines c d b e (Cip p) code n base m bytes made mp sp done = at_moves c d b e (Cip p) code (here c) n base refl m made mp sp done
calls_are_the_machines c d b e (Cxp s p) code n base m bytes made mp sp done =
    slot_moves c d b e (Cxp s p) s code (slice_get c.places s) n base (λ at r. r) m bytes made mp sp done
