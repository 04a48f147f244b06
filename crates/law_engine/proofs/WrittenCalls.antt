-- Lemmas: calls and returns write only words that share a byte with the ranges that `pm_machine` defines for them.
use Rattle.std.proofs.Common.{◌≡◌, ◌<◌, ◌≤◌, ◌⊎◌, inl, inr, ⊎_elim, ℕ, ◌+◌, ◌-◌, ◌*◌, ◌%◌, Bool, true, false}
use Rattle.std.proofs.Common.{List, [], ◌∷◌, length, Option, Some, None, Result, Ok, Err, refl, sym, ap, ◌∙◌, subst, arith}
use Rattle.std.specs.Prelude.{slice_get}
use Rattle.std.specs.List.{All}
use Rattle.pm_words.specs.declared.error.ExecError.{ExecError}
use Rattle.pm_words.specs.Words.{IsMemory, byte_at, copied, with_bytes, word_at}
use Rattle.pm_words.specs.Stack.{◌>>=◌}
use Rattle.pm_words.proofs.Laws.{byte_at-with_bytes_other}
use Rattle.pm_words.proofs.RangeLaws.{word_at-copied_other}
use Rattle.pm_families.specs.declared.families.Call.{Call}
use Rattle.pm_families.specs.declared.families.Call.TheVariants.{Clp, Cgp, Cbp, Cip, Cxp}
use Rattle.pm_calls.specs.declared.registers.Registers.{Registers}
use Rattle.pm_calls.specs.declared.frames.SegmentPlace.{SegmentPlace}
use Rattle.pm_calls.specs.Places.{Parts}
use Rattle.pm_calls.specs.Links.{static_link}
use Rattle.pm_calls.specs.Tables.{attributes}
use Rattle.pm_calls.specs.Calls.{Reached, called, called_at, called_loading, called_slot, called_standing, entered, frame_top, here, is_base}
use Rattle.pm_calls.specs.Calls.{kept_below, procedure_called, reach_loading, reach_standing, with_control, with_frame, with_old_base}
use Rattle.pm_calls.specs.Laws.{IsCode}
use Rattle.pm_calls.specs.Returns.{returned}
use Rattle.pm_calls.proofs.ReturnLaws.{bound, has_room, loading_memory, low_before, ok_same, standing_memory}
use Rattle.pm_machine.specs.Written.{Stretch, frame_stretch, frame_written, reached_written, return_written, slot_reached, stretch, stretch_to}
use Rattle.law_engine.proofs.RestLaws.{return_leaves, return_made, whole_frame}
use Rattle.law_engine.proofs.Stretches.{IfMade, Kept, all_kept, both_kept, bytes_kept, kept_to, made, word_kept, words_kept}

-- ---- words outside a frame, which may be at an odd address

-- If the word at `x` is before or after the control words at `f`, then writing the control words leaves this word
-- unchanged.
control_keeps : (m : List ℕ) (f static : ℕ) (r : Registers) (above x : ℕ) → x % 2 ≡ 0 → (x + 1 < f) ⊎ (f + 12 ≤ x)
    → word_at (with_control m f static r above) x ≡ word_at m x
unfolding with_control
control_keeps m f static r above x even (inl low) =
    word_kept _ (f + 10) above x even (inl (omega (arith, low)))
    ∙ word_kept _ (f + 8) r.ipc x even (inl (omega (arith, low)))
    ∙ word_kept _ (f + 6) r.seg x even (inl (omega (arith, low)))
    ∙ word_kept _ (f + 4) r.jtab x even (inl (omega (arith, low)))
    ∙ word_kept _ (f + 2) r.mp x even (inl (omega (arith, low)))
    ∙ word_kept m f static x even (inl low)
control_keeps m f static r above x even (inr high) =
    word_kept _ (f + 10) above x even (inr (omega (arith, high)))
    ∙ word_kept _ (f + 8) r.ipc x even (inr (omega (arith, high)))
    ∙ word_kept _ (f + 6) r.seg x even (inr (omega (arith, high)))
    ∙ word_kept _ (f + 4) r.jtab x even (inr (omega (arith, high)))
    ∙ word_kept _ (f + 2) r.mp x even (inr (omega (arith, high)))
    ∙ word_kept m f static x even (inr (omega (arith, high)))

base_keeps : (base : Bool) (m : List ℕ) (f old x : ℕ) → x % 2 ≡ 0 → kept_below base ≤ f → (x + 1 < f - kept_below base) ⊎ (f ≤ x)
    → word_at (with_old_base base m f old) x ≡ word_at m x
base_keeps false m f old x even room far = refl
base_keeps true m f old x even room (inl low) = word_kept m (f - 2) old x even (inl low)
base_keeps true m f old x even room (inr high) = word_kept m (f - 2) old x even (inr (omega (arith, room, high)))

frame_keeps : (base : Bool) (m : List ℕ) (f static : ℕ) (r : Registers) (n : ℕ) → IsMemory m → r.sp + n ≤ 65536 → f + 12 + n ≤ 65536 → kept_below base ≤ f
    → Kept (stretch (f - kept_below base) (kept_below base + (12 + n)) ∷ []) m (with_old_base base (with_frame m f static r n) f r.base)
frame_keeps base m f static r n memory source target room =
    words_kept m (with_old_base base (with_frame m f static r n) f r.base) (f - kept_below base) (kept_below base + (12 + n)) (omega arith) (λ x even far.
    base_keeps base (with_frame m f static r n) f r.base x even room (⊎_elim (λ l. inl l) (λ l. inr (omega (arith, l, room))) far)
    ∙ control_keeps (copied m r.sp (f + 12) n) f static r (r.sp + n) x even (⊎_elim (λ l. inl (omega (arith, l))) (λ l. inr (omega (arith, l, room))) far)
    ∙ word_at-copied_other m r.sp (f + 12) n x memory source target even (⊎_elim (λ l. inl (omega (arith, l))) (λ l. inr (omega (arith, l, room))) far))

-- ---- a call in a segment that was reached

-- The memory of `at` is valid, and its words equal those of `c`, except the words that the loaded code touches.
record HoldsTheRest (c : Parts) (at : Reached) : Type 0 where
  memory : IsMemory at.memory
  rest : Kept (stretch_to c.registers.sp at.loaded ∷ []) c.memory at.memory

at_keeps : (c d : Parts) (call : Call) (at : Reached) → HoldsTheRest c at → called_at c call at ≡ Ok d
    → Kept (reached_written call c.registers.sp (Ok at)) c.memory d.memory
unfolding called_at entered
at_keeps c d call at holds made =
    let x = bound (entered at.memory at.place at.loaded c.registers call) _ _ made in
    let t = bound (attributes at.memory at.place (procedure_called call)) _ _ x.1 in
    let l = bound (static_link call at.memory c.registers t.0.level) _ _ t.2 in
    let same = ok_same _ d x.2 in
    let kind = is_base call t.0.level in
    let frame = whole_frame at.memory x.0.0 at.place at.loaded l.0 c.registers x.0.1 kind t.0 l.2 in
    let f = frame.0 in
    let w = frame.1 in
    let source = w.source in
    let target = w.target in
    let new : with_old_base kind (with_frame at.memory f l.0 c.registers t.0.parameters) f c.registers.base ≡ d.memory =
    sym w.memory ∙ ap (λ (p : Parts). p.memory) same in
    let above = frame_top at.loaded c.registers.sp t.0.parameters in
    let size = kept_below kind + (12 + t.0.parameters) in
    let place : f ≡ above - (t.0.locals + t.0.parameters + 12) = w.place in
    let whole : kept_below kind + (t.0.locals + t.0.parameters + 12) ≤ above = w.whole in
    let here : f - kept_below kind ≡ above - t.0.locals - size = omega (arith, place, whole) in
    let top = frame_keeps kind at.memory f l.0 c.registers t.0.parameters holds.memory (omega (arith, source)) (omega (arith, target)) w.room in
    let framed = with_old_base kind (with_frame at.memory f l.0 c.registers t.0.parameters) f c.registers.base in
    let named : Kept (frame_written call at.loaded c.registers.sp (attributes at.memory at.place (procedure_called call))) at.memory d.memory =
    rw t.1 (subst (λ n. Kept (frame_stretch kind at.loaded c.registers.sp t.0 ∷ []) at.memory n) new
    (kept_to (above - t.0.locals) size at.memory framed (omega (arith, whole))
    (subst (λ (g : ℕ). Kept (stretch g size ∷ []) at.memory framed) here top))) in
    both_kept (stretch_to c.registers.sp at.loaded)
    (frame_written call at.loaded c.registers.sp (attributes at.memory at.place (procedure_called call))) c.memory at.memory d.memory holds.rest named

here_holds : (c : Parts) → IsMemory c.memory → HoldsTheRest c (here c)
here_holds c m = record { memory = m; rest = all_kept (stretch_to c.registers.sp 0 ∷ []) c.memory }

standing_holds : (c : Parts) (n : ℕ) (p : SegmentPlace) (at : Reached) → IsMemory c.memory → reach_standing c n p ≡ Ok at → HoldsTheRest c at
standing_holds c n p at memory h =
    let same = standing_memory c n p at h in
    record { memory = rw same memory; rest = λ x even none. ap (λ k. word_at k x) same }

loading_holds : (c d : Parts) (call : Call) (n : ℕ) (code : List ℕ) (at : Reached) → IsMemory c.memory → All (λ b. b < 256) code →
    reach_loading c n code ≡ Ok at → called_at c call at ≡ Ok d → HoldsTheRest c at
unfolding reach_loading
loading_holds c d call n code at memory bytes h made =
    let low = low_before c d call at made in
    let has = has_room c.registers code _ at h in
    let room = has.room in
    let same = ok_same _ at has.made in
    let is : at.memory ≡ with_bytes c.memory (c.registers.sp - length code) code = sym (ap (λ (x : Reached). x.memory) same) in
    let many : at.loaded ≡ length code = sym (ap (λ (x : Reached). x.loaded) same) in
    record {
      memory = loading_memory c n code at memory bytes low h;
      rest = kept_to c.registers.sp at.loaded c.memory at.memory (omega (arith, room, many))
          (bytes_kept c.memory at.memory (c.registers.sp - at.loaded) at.loaded (λ x out. ap (λ k. byte_at k x) is
          ∙ byte_at-with_bytes_other c.memory code (c.registers.sp - length code) x memory (omega (arith, room, low)) bytes (rw many at out)));
    }

-- ---- calls

abbrev CallKeeps : List Stretch → Parts → Result Parts ExecError → Type 0
CallKeeps ss c made = IfMade (λ (d : Parts). Kept ss c.memory d.memory) made

standing_keeps : (c : Parts) (call : Call) (n : ℕ) (p : SegmentPlace) → IsMemory c.memory
    → CallKeeps (reached_written call c.registers.sp (reach_standing c n p)) c (called_standing c call n p)
unfolding called_standing
standing_keeps c call n p memory = of (reach_standing c n p) refl
  where
    of : (at : Result Reached ExecError) → reach_standing c n p ≡ at → CallKeeps (reached_written call c.registers.sp at) c (at >>= called_at c call)
    of (Ok at) found = of_call (called_at c call at) refl
      where
        of_call : (d : Result Parts ExecError) → called_at c call at ≡ d → CallKeeps (reached_written call c.registers.sp (Ok at)) c d
        of_call (Ok d) h = at_keeps c d call at (standing_holds c n p at memory found) h
        of_call (Err e) h = tt
    of (Err e) found = tt

loading_keeps : (c : Parts) (call : Call) (n : ℕ) (code : List ℕ) → IsMemory c.memory → All (λ b. b < 256) code
    → CallKeeps (reached_written call c.registers.sp (reach_loading c n code)) c (called_loading c call n code)
unfolding called_loading
loading_keeps c call n code memory bytes = of (reach_loading c n code) refl
  where
    of : (at : Result Reached ExecError) → reach_loading c n code ≡ at → CallKeeps (reached_written call c.registers.sp at) c (at >>= called_at c call)
    of (Ok at) found = of_call (called_at c call at) refl
      where
        of_call : (d : Result Parts ExecError) → called_at c call at ≡ d → CallKeeps (reached_written call c.registers.sp (Ok at)) c d
        of_call (Ok d) h = at_keeps c d call at (loading_holds c d call n code at memory bytes found h) h
        of_call (Err e) h = tt
    of (Err e) found = tt

here_keeps : (c : Parts) (call : Call) → IsMemory c.memory → CallKeeps (reached_written call c.registers.sp (Ok (here c))) c (called_at c call (here c))
here_keeps c call memory = of (called_at c call (here c)) refl
  where
    of : (d : Result Parts ExecError) → called_at c call (here c) ≡ d → CallKeeps (reached_written call c.registers.sp (Ok (here c))) c d
    of (Ok d) h = at_keeps c d call (here c) (here_holds c memory) h
    of (Err e) h = tt

slot_keeps : (c : Parts) (call : Call) (n : ℕ) (code : Option (List ℕ)) (slot : Option (Option SegmentPlace)) → IsMemory c.memory → IsCode code
    → CallKeeps (reached_written call c.registers.sp (slot_reached n c slot (Ok code))) c (called_slot c call n code slot)
slot_keeps c call n code None memory bytes = tt
slot_keeps c call n code (Some (Some p)) memory bytes = standing_keeps c call n p memory
slot_keeps c call n None (Some None) memory bytes = tt
slot_keeps c call n (Some code) (Some None) memory bytes = loading_keeps c call n code memory bytes

-- Returns the segment that a call reaches. If the call loads the segment, then `code` is the code of the segment.
abbrev pub called_reached : Call → Parts → Option (List ℕ) → Result Reached ExecError
called_reached (Cxp n p) c code = slot_reached n c (slice_get c.places n) (Ok code)
called_reached call c code = Ok (here c)

-- Returns the ranges of bytes that the call writes.
abbrev pub called_written : Call → Parts → Option (List ℕ) → List Stretch
called_written call c code = reached_written call c.registers.sp (called_reached call c code)

pub called_keeps : (call : Call) (c : Parts) (code : Option (List ℕ)) → IsMemory c.memory → IsCode code
    → IfMade (λ (d : Parts). Kept (called_written call c code) c.memory d.memory) (called c call code)
unfolding called
called_keeps (Cxp n p) c code memory bytes = slot_keeps c (Cxp n p) n code (slice_get c.places n) memory bytes
called_keeps (Clp p) c code memory bytes = here_keeps c (Clp p) memory
called_keeps (Cgp p) c code memory bytes = here_keeps c (Cgp p) memory
called_keeps (Cbp p) c code memory bytes = here_keeps c (Cbp p) memory
called_keeps (Cip p) c code memory bytes = here_keeps c (Cip p) memory

-- ---- returns

pub returned_keeps : (c : Parts) (words : ℕ) (base : Bool) → IsMemory c.memory
    → IfMade (λ (e : Parts). Kept (return_written words c.memory c.registers.mp) c.memory e.memory) (returned c words base)
returned_keeps c words base memory = of (returned c words base) refl
  where
    of : (e : Result Parts ExecError) → returned c words base ≡ e
        → IfMade (λ (e : Parts). Kept (return_written words c.memory c.registers.mp) c.memory e.memory) e
    of (Ok e) h =
        let is = return_made c e words base h in
        kept_to (word_at c.memory (c.registers.mp + 10)) (2 * words) c.memory e.memory is.room
        (subst (λ a. Kept (stretch a (2 * words) ∷ []) c.memory e.memory) is.sp
        (bytes_kept c.memory e.memory e.registers.sp (2 * words) (λ y far. return_leaves c e words y base memory h far)))
    of (Err e) h = tt
