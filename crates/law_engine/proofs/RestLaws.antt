-- Lemmas for the bytes of memory that a call and its return leave unchanged.
use Rattle.std.proofs.Common.{◌≡◌, ◌<◌, ◌≤◌, ◌⊎◌, inl, inr, ℕ, ◌+◌, ◌-◌, ◌*◌, ◌%◌, ◌&&◌, Bool, true, false}
use Rattle.std.proofs.Common.{nat_lt, nat_le, List, length, Option, Some, None, Ok, refl, sym, ap, ◌∙◌, arith}
use Rattle.std.specs.Prelude.{slice_get}
use Rattle.std.specs.List.{All}
use Rattle.std.proofs.lemmas.Bool.{and_parts, cases_Bool}
use Rattle.std.proofs.lemmas.Bool.Decides.{nat_tests}
use Rattle.pm_words.specs.declared.error.ExecError.TheVariants.{InvalidMemory, StackOverflow}
use Rattle.pm_words.specs.Words.{IsMemory, byte_at, copied, with_bytes, word_at}
use Rattle.pm_words.specs.Stack.{is_even}
use Rattle.pm_words.proofs.Laws.{byte_at-with_bytes_other}
use Rattle.pm_words.proofs.RangeLaws.{byte_at-copied_other, byte_at-with_word_other}
use Rattle.pm_calls.specs.declared.registers.Registers.{Registers}
use Rattle.pm_calls.specs.declared.frames.Table.{Table}
use Rattle.pm_calls.specs.declared.frames.SegmentPlace.{SegmentPlace}
use Rattle.pm_families.specs.declared.families.Call.{Call}
use Rattle.pm_families.specs.declared.families.Call.TheVariants.{Clp, Cgp, Cbp, Cip, Cxp}
use Rattle.pm_calls.specs.Places.{Parts}
use Rattle.pm_calls.specs.Links.{static_link}
use Rattle.pm_calls.specs.Tables.{attributes}
use Rattle.pm_calls.specs.Calls.{Reached, called, called_at, called_loading, called_slot, called_standing, entered, framed, frame_top, here, inside}
use Rattle.pm_calls.specs.Calls.{is_base, kept_below, reach_loading, procedure_called, reach_standing, with_control, with_frame, with_old_base}
use Rattle.pm_calls.specs.Returns.{returned}
use Rattle.pm_calls.specs.Laws.{IsCode, Reaches, ReachesSlot}
use Rattle.law_engine.specs.MemoryLaws.{CallAndReturnLeaveTheRest, LeavesTheRest, LiesOutside}
use Rattle.pm_calls.proofs.ReturnLaws.{bound, has_room, loading_memory, low_before, ok_same, passed, standing_memory}

-- ---- bytes outside a frame

-- If the address `x` is before or after the control words at `f`, then writing these words leaves the byte at `x`
-- unchanged.
control_leaves : (m : List ℕ) (f static : ℕ) (r : Registers) (above x : ℕ) → f % 2 ≡ 0 → LiesOutside f 12 x →
    byte_at (with_control m f static r above) x ≡ byte_at m x
unfolding with_control
control_leaves m f static r above x even (inl low) =
    byte_at-with_word_other _ (f + 10) x above (omega (arith, even)) (inl (omega (arith, low)))
    ∙ byte_at-with_word_other _ (f + 8) x r.ipc (omega (arith, even)) (inl (omega (arith, low)))
    ∙ byte_at-with_word_other _ (f + 6) x r.seg (omega (arith, even)) (inl (omega (arith, low)))
    ∙ byte_at-with_word_other _ (f + 4) x r.jtab (omega (arith, even)) (inl (omega (arith, low)))
    ∙ byte_at-with_word_other _ (f + 2) x r.mp (omega (arith, even)) (inl (omega (arith, low)))
    ∙ byte_at-with_word_other m f x static even (inl low)
control_leaves m f static r above x even (inr high) =
    byte_at-with_word_other _ (f + 10) x above (omega (arith, even)) (inr (omega (arith, high)))
    ∙ byte_at-with_word_other _ (f + 8) x r.ipc (omega (arith, even)) (inr (omega (arith, high)))
    ∙ byte_at-with_word_other _ (f + 6) x r.seg (omega (arith, even)) (inr (omega (arith, high)))
    ∙ byte_at-with_word_other _ (f + 4) x r.jtab (omega (arith, even)) (inr (omega (arith, high)))
    ∙ byte_at-with_word_other _ (f + 2) x r.mp (omega (arith, even)) (inr (omega (arith, high)))
    ∙ byte_at-with_word_other m f x static even (inr (omega (arith, high)))

base_leaves : (base : Bool) (m : List ℕ) (f old x : ℕ) → f % 2 ≡ 0 → kept_below base ≤ f → (x < f - kept_below base) ⊎ (f ≤ x) →
    byte_at (with_old_base base m f old) x ≡ byte_at m x
base_leaves false m f old x even room out = refl
base_leaves true m f old x even room (inl low) = byte_at-with_word_other m (f - 2) x old (omega (arith, even, room)) (inl low)
base_leaves true m f old x even room (inr high) = byte_at-with_word_other m (f - 2) x old (omega (arith, even, room)) (inr (omega (arith, room, high)))

frame_leaves : (base : Bool) (m : List ℕ) (f static : ℕ) (r : Registers) (n x : ℕ) → IsMemory m → r.sp + n ≤ 65536 → f + 12 + n ≤ 65536 →
    f % 2 ≡ 0 → kept_below base ≤ f → (x < f - kept_below base) ⊎ (f + (12 + n) ≤ x) →
    byte_at (with_old_base base (with_frame m f static r n) f r.base) x ≡ byte_at m x
frame_leaves base m f static r n x memory source target even room (inl low) =
    let under : x < f = omega (arith, low) in
    base_leaves base (with_frame m f static r n) f r.base x even room (inl low)
    ∙ control_leaves (copied m r.sp (f + 12) n) f static r (r.sp + n) x even (inl under)
    ∙ byte_at-copied_other m r.sp (f + 12) n x memory source target (inl (omega (arith, under)))
frame_leaves base m f static r n x memory source target even room (inr high) =
    base_leaves base (with_frame m f static r n) f r.base x even room (inr (omega (arith, high)))
    ∙ control_leaves (copied m r.sp (f + 12) n) f static r (r.sp + n) x even (inr (omega (arith, high)))
    ∙ byte_at-copied_other m r.sp (f + 12) n x memory source target (inr (omega (arith, high)))

-- ---- a frame that was made, with its whole size

pub record IsWhole (m n : List ℕ) (s loaded : ℕ) (r inner : Registers) (base : Bool) (t : Table) (static f : ℕ) : Type 0 where
  pub place : f ≡ frame_top loaded r.sp t.parameters - (t.locals + t.parameters + 12)
  pub source : r.sp + t.parameters ≤ 65504
  pub target : f + 12 + t.parameters ≤ 65504
  pub room : kept_below base ≤ f
  pub whole : kept_below base + (t.locals + t.parameters + 12) ≤ frame_top loaded r.sp t.parameters
  pub memory : n ≡ with_old_base base (with_frame m f static r t.parameters) f r.base
  pub registers : inner ≡ inside base r s t f

top_low : (loaded sp parameters : ℕ) → sp + parameters ≤ 65504 → frame_top loaded sp parameters ≤ 65504
top_low loaded sp parameters h = elim (cases_Bool (nat_lt 0 loaded)) [ inl e ↦ rw e (omega (arith, h)) | inr e ↦ rw e h ]

pub whole_frame : (m n : List ℕ) (s loaded static : ℕ) (r inner : Registers) (base : Bool) (t : Table) →
    framed m s loaded r base t static ≡ Ok (n, inner) → (f : ℕ) × IsWhole m n s loaded r inner base t static f
unfolding framed
whole_frame m n s loaded static r inner base t h =
    let size = t.locals + t.parameters + 12 in
    let top = frame_top loaded r.sp t.parameters in
    let f = top - size in
    let first = passed (nat_le (r.sp + t.parameters) 65504) InvalidMemory _ _ h in
    let second = passed (nat_le (r.np + kept_below base + size) top) StackOverflow _ _ first.1 in
    let both = ok_same _ _ second.1 in
    let fits : r.sp + t.parameters ≤ 65504 = grind (arith, nat_tests, first.0) in
    let low : top ≤ 65504 = top_low loaded r.sp t.parameters fits in
    let room : r.np + kept_below base + size ≤ top = grind (arith, nat_tests, second.0) in (
      f,
      record {
        place = refl;
        source = fits;
        target = omega (arith, room, low);
        room = omega (arith, room, low);
        whole = omega (arith, room);
        memory = sym (ap (λ (p : List ℕ × Registers). p.0) both);
        registers = sym (ap (λ (p : List ℕ × Registers). p.1) both);
      },
    )

-- ---- a return

pub record IsReturned (d e : Parts) (words : ℕ) : Type 0 where
  pub even : d.registers.mp % 2 ≡ 0
  pub source : d.registers.mp + 12 + 2 * words ≤ 65536
  pub target : word_at d.memory (d.registers.mp + 10) ≤ 65504
  pub room : 2 * words ≤ word_at d.memory (d.registers.mp + 10)
  pub sp : e.registers.sp ≡ word_at d.memory (d.registers.mp + 10) - 2 * words
  pub memory : e.memory ≡ copied d.memory ((d.registers.mp + 12) % 65536) (word_at d.memory (d.registers.mp + 10) - 2 * words) (2 * words)

pub return_made : (d e : Parts) (words : ℕ) (base : Bool) → returned d words base ≡ Ok e → IsReturned d e words
unfolding returned
return_made d e words base h =
    let f = d.registers.mp in
    let above = word_at d.memory (f + 10) in
    let first = passed (is_even f && nat_le (f + 12 + 2 * words) 65536) InvalidMemory _ _ h in
    let second = passed (is_even above && nat_le above 65504) InvalidMemory _ _ first.1 in
    let third = passed (nat_le (d.registers.np + 2 * words) above) StackOverflow _ _ second.1 in
    let parts = and_parts (is_even f) (nat_le (f + 12 + 2 * words) 65536) first.0 in
    let uppers = and_parts (is_even above) (nat_le above 65504) second.0 in
    let same = ok_same _ _ third.1 in
    let fits : d.registers.np + 2 * words ≤ above = grind (arith, nat_tests, third.0) in
    record {
      even = grind (arith, nat_tests, parts.0);
      source = grind (arith, nat_tests, parts.1);
      target = grind (arith, nat_tests, uppers.1);
      room = omega (arith, fits);
      sp = sym (ap (λ (p : Parts). p.registers.sp) same);
      memory = sym (ap (λ (p : Parts). p.memory) same);
    }

-- If a return succeeds, then it leaves all bytes unchanged, except the words that it returns.
pub return_leaves : (d e : Parts) (words x : ℕ) (base : Bool) → IsMemory d.memory → returned d words base ≡ Ok e →
    LiesOutside e.registers.sp (2 * words) x → byte_at e.memory x ≡ byte_at d.memory x
return_leaves d e words x base memory h out =
    let back = return_made d e words base h in
    let above = word_at d.memory (d.registers.mp + 10) in
    let source = back.source in
    let target = back.target in
    let room = back.room in
    ap (λ k. byte_at k x) back.memory
    ∙ byte_at-copied_other d.memory ((d.registers.mp + 12) % 65536) (above - 2 * words) (2 * words) x memory
    (omega (arith, source)) (omega (arith, target, room)) (rw back.sp at out)

-- ---- a call in a segment that was reached

-- The memory of `at` is valid, and equals the memory of `c` except for the bytes of the loaded code.
record HoldsTheRest (c : Parts) (at : Reached) : Type 0 where
  pub memory : IsMemory at.memory
  pub rest : (x : ℕ) → LiesOutside (c.registers.sp - at.loaded) at.loaded x → byte_at at.memory x ≡ byte_at c.memory x

outside_frame : (mp sp f k parameters locals x : ℕ) → mp ≡ f → sp ≡ f - k → (x < sp) ⊎ (mp + (12 + parameters + locals) ≤ x) →
    (x < f - k) ⊎ (f + (12 + parameters) ≤ x)
outside_frame mp sp f k parameters locals x there low (inl under) = inl (omega (arith, low, under))
outside_frame mp sp f k parameters locals x there low (inr above) = inr (omega (arith, there, above))

at_leaves : (c d e : Parts) (call : Call) (code : Option (List ℕ)) (at : Reached) (words : ℕ) (base : Bool) →
    Reaches c call code at → HoldsTheRest c at → IsMemory d.memory →
    called_at c call at ≡ Ok d → returned d words base ≡ Ok e → LeavesTheRest c d e call code words
unfolding called_at entered
at_leaves c d e call code at words base is holds memory made done =
    let x = bound (entered at.memory at.place at.loaded c.registers call) _ _ made in
    let t = bound (attributes at.memory at.place (procedure_called call)) _ _ x.1 in
    let l = bound (static_link call at.memory c.registers t.0.level) _ _ t.2 in
    let same = ok_same _ d x.2 in
    let kind = is_base call t.0.level in
    let made = whole_frame at.memory x.0.0 at.place at.loaded l.0 c.registers x.0.1 kind t.0 l.2 in
    let f = made.0 in
    let w = made.1 in
    let new : d.memory ≡ with_old_base kind (with_frame at.memory f l.0 c.registers t.0.parameters) f c.registers.base =
    sym (ap (λ (p : Parts). p.memory) same) ∙ w.memory in
    let inner : d.registers ≡ inside kind c.registers at.place t.0 f = sym (ap (λ (p : Parts). p.registers) same) ∙ w.registers in
    let mp : d.registers.mp ≡ f = ap (λ (r : Registers). r.mp) inner in
    let sp : d.registers.sp ≡ f - kept_below kind = ap (λ (r : Registers). r.sp) inner in
    let even : f % 2 ≡ 0 = rw mp at (return_made d e words base done).even in
    let source = w.source in
    let target = w.target in
    record {
      at = at;
      reached = is;
      table = t.0;
      found = t.1;
      rest = λ a out.
          return_leaves d e words a base memory done out.result
          ∙ ap (λ k. byte_at k a) new
          ∙ frame_leaves kind at.memory f l.0 c.registers t.0.parameters a holds.memory (omega (arith, source)) (omega (arith, target))
          even w.room (outside_frame d.registers.mp d.registers.sp f (kept_below kind) t.0.parameters t.0.locals a mp sp out.frame)
          ∙ holds.rest a out.code;
    }

standing_holds : (c : Parts) (n : ℕ) (p : SegmentPlace) (at : Reached) → IsMemory c.memory → reach_standing c n p ≡ Ok at → HoldsTheRest c at
standing_holds c n p at memory h =
    let same = standing_memory c n p at h in
    record { memory = rw same memory; rest = λ x out. ap (λ k. byte_at k x) same }

loading_holds : (c d : Parts) (call : Call) (n : ℕ) (code : List ℕ) (at : Reached) → IsMemory c.memory → All (λ b. b < 256) code →
    reach_loading c n code ≡ Ok at → called_at c call at ≡ Ok d → HoldsTheRest c at
unfolding reach_loading
loading_holds c d call n code at memory bytes h made =
    let low = low_before c d call at made in
    let has = has_room c.registers code _ at h in
    let room = has.room in
    let same = ok_same _ at has.made in
    let is : at.memory ≡ with_bytes c.memory (c.registers.sp - length code) code = sym (ap (λ (x : Reached). x.memory) same) in
    let many : at.loaded ≡ length code = sym (ap (λ (x : Reached). x.loaded) same) in
    record {
      memory = loading_memory c n code at memory bytes low h;
      rest = λ x out. ap (λ k. byte_at k x) is
          ∙ byte_at-with_bytes_other c.memory code (c.registers.sp - length code) x memory (omega (arith, room, low)) bytes (rw many at out);
    }

slot_leaves : (c d e : Parts) (call : Call) (n : ℕ) (code : Option (List ℕ)) (slot : Option (Option SegmentPlace)) (words : ℕ) (base : Bool) →
    ((at : Reached) → ReachesSlot c n code slot at → Reaches c call code at) →
    IsMemory c.memory → IsMemory d.memory → IsCode code →
    called_slot c call n code slot ≡ Ok d → returned d words base ≡ Ok e → LeavesTheRest c d e call code words
unfolding called_standing called_loading
slot_leaves c d e call n code None words base k m o bytes made done = absurd (cc)
slot_leaves c d e call n code (Some (Some p)) words base k m o bytes made done =
    let x = bound (reach_standing c n p) _ _ made in
    at_leaves c d e call code x.0 words base (k x.0 x.1) (standing_holds c n p x.0 m x.1) o x.2 done
slot_leaves c d e call n None (Some None) words base k m o bytes made done = absurd (cc)
slot_leaves c d e call n (Some code) (Some None) words base k m o bytes made done =
    let x = bound (reach_loading c n code) _ _ made in
    at_leaves c d e call (Some code) x.0 words base (k x.0 x.1) (loading_holds c d call n code x.0 m bytes x.1 x.2) o x.2 done

here_holds : (c : Parts) → IsMemory c.memory → HoldsTheRest c (here c)
here_holds c m = record { memory = m; rest = λ x out. refl }

pub call_and_return_leave_the_rest : CallAndReturnLeaveTheRest
unfolding called
call_and_return_leave_the_rest c d e (Clp p) code words base m o bytes made done =
    at_leaves c d e (Clp p) code (here c) words base refl (here_holds c m) o made done
call_and_return_leave_the_rest c d e (Cgp p) code words base m o bytes made done =
    at_leaves c d e (Cgp p) code (here c) words base refl (here_holds c m) o made done
call_and_return_leave_the_rest c d e (Cbp p) code words base m o bytes made done =
    at_leaves c d e (Cbp p) code (here c) words base refl (here_holds c m) o made done
call_and_return_leave_the_rest c d e (Cip p) code words base m o bytes made done =
    at_leaves c d e (Cip p) code (here c) words base refl (here_holds c m) o made done
call_and_return_leave_the_rest c d e (Cxp n p) code words base m o bytes made done =
    slot_leaves c d e (Cxp n p) n code (slice_get c.places n) words base (λ at r. r) m o bytes made done
