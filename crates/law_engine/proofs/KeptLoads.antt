-- Lemmas for the code that standard procedure 21 loads, from the code file and from the present bytes of the disks.
use Rattle.std.proofs.Common.{◌≡◌, ◌==◌, ◌<◌, ◌≤◌, ℕ, ◌+◌, ◌-◌, false, List, length, drop, get_or, Option, Some, None, Result, Ok, Err, refl, sym, ap, ◌∙◌}
use Rattle.std.proofs.Common.{subst, arith}
use Rattle.std.specs.Prelude.{slice_get}
use Rattle.std.specs.List.{All}
use Rattle.std.proofs.lemmas.Bool.Decides.{nat_tests}
use Rattle.std.proofs.lemmas.List.{ext_get_or, get_or-drop, get_or-take, length-drop, length-take-le}
use Rattle.pm_words.specs.declared.error.ExecError.{ExecError}
use Rattle.pm_words.specs.Words.{IsMemory, byte_at, bytes_at, bytes_of, with_bytes, word_at}
use Rattle.pm_words.specs.Stack.{◌>>=◌, pop}
use Rattle.pm_words.proofs.Laws.{IsMemory-with_bytes, byte_at-with_bytes}
use Rattle.pm_words.proofs.Pairs.{length-bytes_of}
use Rattle.pm_families.specs.declared.families.Call.TheVariants.{Cxp}
use Rattle.pm_opcode.specs.declared.operation.Operation.TheVariants as operation
use Rattle.law_engine.proofs.StoredWords.{popped}
use Rattle.pm_calls.specs.declared.frames.SegmentPlace.{SegmentPlace}
use Rattle.pm_calls.specs.Places.{Parts, place_in, placed}
use Rattle.pm_calls.specs.Calls.{called}
use Rattle.pm_calls.specs.Keeps.{keep_loading, keep_slot, segment_kept}
use Rattle.pm_calls.specs.Laws.{IsCode}
use Rattle.pm_calls.proofs.LoadLaws.{loaded_code_stands}
use Rattle.pm_calls.proofs.ReturnLaws.{has_room, ok_same}
use Rattle.pm_codefile.specs.Dictionary.{segment_in}
use Rattle.pm_units.specs.Devices.{code_on}
use Rattle.pm_stdproc.specs.Loads.{code_needed, slot_code}
use Rattle.pm_stdproc.specs.Procedures.{Reach, keep_row, procedure_numbered, procedure_row, reach_parts}
use Rattle.pm_units.specs.Traps.{or_fails}
use Rattle.pm_stdproc.specs.declared.loads.SlotRow.{SlotRow}
use Rattle.pm_machine.specs.declared.state.Stop.TheVariants.{Went}
use Rattle.pm_machine.specs.Procedures.{call_row, parts, reach, standard_row, with_reach}
use Rattle.pm_machine.specs.Rows.{past_instruction}
use Rattle.pm_machine.specs.State.{State}
use Rattle.pm_machine.specs.Steps.{settled, stepped}
use Rattle.law_engine.proofs.LoadedSegments.{found, loads_give_segments}
use Rattle.law_engine.specs.Loads.{IsAtKeep, StandsBelow, StepsKeepSegments, StepsLoadWhatIsThere}
use Rattle.law_engine.proofs.Bytes.{end_fits, file_fits, segment_fits}
use Rattle.law_engine.proofs.LoadLaws.{after_same, booted_rows, executes, needed_same, stepped_runs, went}
use Rattle.law_engine.proofs.ShapeLaws.{bound}

-- ---- bytes that were written

count_of_bytes : (ws : List ℕ) (a n : ℕ) → length ws ≡ 32768 → a + n ≤ 65536 → length (bytes_at ws a n) ≡ n
unfolding bytes_at
count_of_bytes ws a n size room =
    length-take-le n (drop a (bytes_of ws)) (omega (arith, length-drop a (bytes_of ws), length-bytes_of ws, size, room))

byte_of_bytes : (ws : List ℕ) (a n k : ℕ) → k < n → get_or (bytes_at ws a n) k 0 ≡ byte_at ws (a + k)
unfolding bytes_at byte_at
byte_of_bytes ws a n k h = get_or-take n (drop a (bytes_of ws)) k 0 h ∙ get_or-drop a (bytes_of ws) k 0

written_stands : (ws code : List ℕ) (a : ℕ) → IsMemory ws → a + length code ≤ 65536 → All (λ b. b < 256) code
    → bytes_at (with_bytes ws a code) a (length code) ≡ code
written_stands ws code a memory room bytes =
    let after = IsMemory-with_bytes ws code a memory room bytes in
    let size = count_of_bytes (with_bytes ws a code) a (length code) after.size room in
    ext_get_or 0 (bytes_at (with_bytes ws a code) a (length code)) code size (λ i l.
    let below : i < length code = omega (arith, l, size) in
    let away : a + i - a ≡ i = omega arith in
    byte_of_bytes (with_bytes ws a code) a (length code) i below
    ∙ byte_at-with_bytes ws code a (a + i) memory room bytes (omega arith) (omega (arith, below))
    ∙ ap (λ k. get_or code k 0) away)

-- ---- a segment that procedure 21 loads

loading_stands : (c d : Parts) (n : ℕ) (code : List ℕ) → IsMemory c.memory → All (λ b. b < 256) code → c.registers.sp ≤ 65504
    → keep_loading c n code ≡ Ok d → bytes_at d.memory (c.registers.sp - length code) (length code) ≡ code
unfolding keep_loading
loading_stands c d n code memory bytes low made =
    let k = has_room c.registers code _ d made in
    let fits = k.room in
    let room : c.registers.sp - length code + length code ≤ 65536 = omega (arith, fits, low) in
    ap (λ (p : Parts). bytes_at p.memory (c.registers.sp - length code) (length code)) (sym (ok_same _ d k.made))
    ∙ written_stands c.memory code (c.registers.sp - length code) memory room bytes

slot_stands : (c d : Parts) (n : ℕ) (code : List ℕ) (slot : Option (Option SegmentPlace)) → place_in slot ≡ None → IsMemory c.memory
    → All (λ b. b < 256) code → c.registers.sp ≤ 65504 → keep_slot c n (Some code) slot ≡ Ok d
    → bytes_at d.memory (c.registers.sp - length code) (length code) ≡ code
slot_stands c d n code None none memory bytes low made = absurd (cc)
slot_stands c d n code (Some (Some p)) none memory bytes low made = absurd (cc)
slot_stands c d n code (Some None) none memory bytes low made = loading_stands c d n code memory bytes low made

-- If the code of the slot `n` exists and procedure 21 succeeds, then the code is in memory below the SP after the pop.
row_stays : (n : ℕ) (code : List ℕ) (s u : Reach) → IsMemory s.memory → word_at s.memory s.registers.sp ≡ n → placed s.places n ≡ None
    → slot_code n s.places s.rows s.devices ≡ Ok (Some code) → All (λ b. b < 256) code → keep_row s ≡ Ok u
    → bytes_at u.memory (s.registers.sp + 2 - length code) (length code) ≡ code
unfolding keep_row segment_kept
row_stays n code s u memory slot none needed bytes made =
    let x = bound (pop s.memory s.registers.sp) _ u made in
    let p = popped s.memory s.registers.sp x.0 x.1 in
    let number : x.0.word ≡ n = p.word ∙ slot in
    let above = p.above in
    let room = p.room in
    let y = bound (slot_code x.0.word s.places s.rows s.devices) _ u x.2 in
    let is : y.0 ≡ Some code = needed_same _ y.0 (Some code) y.1 (ap (λ k. slot_code k s.places s.rows s.devices) number ∙ needed) in
    let c : Parts = reach_parts s (record s.registers { sp = x.0.above }) in
    let z = bound (segment_kept c x.0.word y.0) _ u y.2 in
    let kept : keep_slot c n (Some code) (slice_get s.places n) ≡ Ok z.0 =
    sym (ap (λ k. keep_slot c k (Some code) (slice_get s.places k)) number)
    ∙ sym (ap (λ k. keep_slot c x.0.word k (slice_get s.places x.0.word)) is) ∙ z.1 in
    let stands = slot_stands c z.0 n code (slice_get s.places n) none memory bytes (omega (arith, above, room)) kept in
    let new : u.memory ≡ z.0.memory = sym (ap (λ (k : Reach). k.memory) (ok_same _ u z.2)) in
    rw new (subst (λ k. bytes_at z.0.memory (k - length code) (length code) ≡ code) above stands)

-- ---- a step

-- If a step of procedure 21 succeeds, then it has the memory that its rule returned.
went_keeping : (s t : State) (r : Result Reach ExecError) (P : List ℕ → Type 0) → (settled s (or_fails r >>= λ u. Ok (with_reach u t))).1 ≡ Went
    → ((u : Reach) → r ≡ Ok u → P u.memory) → P (settled s (or_fails r >>= λ u. Ok (with_reach u t))).0.memory
went_keeping s t (Ok u) P h k = k u refl
went_keeping s t (Err e) P h k = cc

keeps_21 : (t : State) → standard_row 21 t ≡ (or_fails (keep_row (reach t)) >>= λ u. Ok (with_reach u t))
unfolding procedure_numbered procedure_row
keeps_21 t = refl

step_stays : (s : State) (n : ℕ) (code : List ℕ) → IsMemory s.memory → placed s.places n ≡ None → IsAtKeep n s → (stepped s).1 ≡ Went
    → slot_code n s.places s.rows s.devices ≡ Ok (Some code) → All (λ b. b < 256) code
    → bytes_at (stepped s).0.memory (s.registers.sp + 2 - length code) (length code) ≡ code
step_stays s n code memory none h goes needed bytes =
    let at = h.at in
    let t = past_instruction at.instr s in
    let same : stepped s ≡ settled s (or_fails (keep_row (reach t)) >>= λ u. Ok (with_reach u t)) =
    stepped_runs s at.running ∙ ap (settled s) (executes s at.instr (operation.Standard 21) at.there at.calls ∙ keeps_21 t) in
    rw same (went_keeping s t (keep_row (reach t)) (λ m. bytes_at m (s.registers.sp + 2 - length code) (length code) ≡ code) (rw same at goes)
    (λ u made. row_stays n code (reach t) u memory h.slot none needed bytes made))

-- If the slot `n` has no code to load, then procedure 21 does not succeed.
row_fails : (n : ℕ) (s u : Reach) → word_at s.memory s.registers.sp ≡ n → placed s.places n ≡ None → slot_code n s.places s.rows s.devices ≡ Ok None
    → keep_row s ≡ Ok u → ⊥
unfolding keep_row segment_kept
row_fails n s u slot none needed made =
    let x = bound (pop s.memory s.registers.sp) _ u made in
    let number : x.0.word ≡ n = (popped s.memory s.registers.sp x.0 x.1).word ∙ slot in
    let y = bound (slot_code x.0.word s.places s.rows s.devices) _ u x.2 in
    let is : y.0 ≡ None = needed_same _ y.0 None y.1 (ap (λ k. slot_code k s.places s.rows s.devices) number ∙ needed) in
    let c : Parts = reach_parts s (record s.registers { sp = x.0.above }) in
    let z = bound (segment_kept c x.0.word y.0) _ u y.2 in
    let kept : keep_slot c n None (slice_get s.places n) ≡ Ok z.0 =
    sym (ap (λ k. keep_slot c k None (slice_get s.places k)) number) ∙ sym (ap (λ k. keep_slot c x.0.word k (slice_get s.places x.0.word)) is) ∙ z.1 in
    no_code c z.0 n (slice_get s.places n) none kept
  where
    no_code : (c d : Parts) (n : ℕ) (slot : Option (Option SegmentPlace)) → place_in slot ≡ None → keep_slot c n None slot ≡ Ok d → ⊥
    no_code c d n None none h = cc
    no_code c d n (Some (Some p)) none h = cc
    no_code c d n (Some None) none h = cc

step_fails : (s : State) (n : ℕ) → IsMemory s.memory → placed s.places n ≡ None → IsAtKeep n s → (stepped s).1 ≡ Went
    → slot_code n s.places s.rows s.devices ≡ Ok None → ⊥
step_fails s n memory none h goes needed =
    let at = h.at in
    let t = past_instruction at.instr s in
    let same : stepped s ≡ settled s (or_fails (keep_row (reach t)) >>= λ u. Ok (with_reach u t)) =
    stepped_runs s at.running ∙ ap (settled s) (executes s at.instr (operation.Standard 21) at.there at.calls ∙ keeps_21 t) in
    went_keeping s t (keep_row (reach t)) (λ m. ⊥) (rw same at goes) (λ u made. row_fails n (reach t) u h.slot none needed made)

-- ---- the segment of the code file

file_needed : (file : List ℕ) (n : ℕ) (segment : Option (List ℕ)) (s : State) → segment_in file n ≡ segment → IsMemory s.memory → placed s.places n ≡ None
    → IsAtKeep n s → (stepped s).1 ≡ Went → slot_code n s.places s.rows s.devices ≡ Ok segment → IsCode segment
    → StandsBelow file n (s.registers.sp + 2) (stepped s).0.memory
file_needed file n None s is memory none h goes needed bytes = absurd (step_fails s n memory none h goes needed)
file_needed file n (Some code) s is memory none h goes needed bytes = record {
  code = code;
  segment = is;
  stands = step_stays s n code memory none h goes needed bytes;
}

pub steps_keep : (s : State) → IsMemory s.memory → StepsKeepSegments s
unfolding code_needed
steps_keep s memory image file unit n is from there none at goes =
    let f = found from.images image from.name file from.entry unit from.mounted from.found in
    let rows = booted_rows from.images unit from.name from.clock from.start s from.events from.entry file from.booted from.found from.now in
    let needed : slot_code n s.places s.rows s.devices ≡ Ok (segment_in file n) =
    ap (λ k. slot_code n s.places k s.devices) rows
    ∙ loads_give_segments from.images image from.name file from.entry s.devices s.places unit n 0 is.volume from.mounted from.found
    (end_fits image from.name from.entry file is f) there none in
    file_needed file n (segment_in file n) s refl memory none at goes needed (segment_fits file n (file_fits image file from.entry is.bytes f.bytes))

-- ---- the bytes on the disk now

row_code : (s : State) (n : ℕ) (row : SlotRow) (code : List ℕ) → slice_get s.rows n ≡ Some row → 0 < row.length → placed s.places n ≡ None
    → code_on s.devices row.unit row.block row.length ≡ Some code → slot_code n s.places s.rows s.devices ≡ Ok (Some code)
row_code s n row code there some none on =
    let long : (row.length == 0) ≡ false = grind (arith, nat_tests, some) in
    rw (none, there, long, on) refl

call_loads : (n p : ℕ) (code : List ℕ) (t u : State) → IsMemory t.memory → All (λ b. b < 256) code → placed t.places n ≡ None
    → code_needed (Cxp n p) t.places t.rows t.devices ≡ Ok (Some code) → call_row (Cxp n p) t ≡ Ok u
    → bytes_at u.memory (t.registers.sp - length code) (length code) ≡ code
unfolding call_row
call_loads n p code t u memory bytes none needed made =
    let x = bound (code_needed (Cxp n p) t.places t.rows t.devices) _ u made in
    let y = bound (called (parts t) (Cxp n p) x.0) _ u x.2 in
    let is : x.0 ≡ Some code = needed_same _ x.0 (Some code) x.1 needed in
    let call : called (parts t) (Cxp n p) (Some code) ≡ Ok y.0 = ap (called (parts t) (Cxp n p)) (sym is) ∙ y.1 in
    subst (λ m. bytes_at m (t.registers.sp - length code) (length code) ≡ code) (after_same y.0 t u y.2)
    (loaded_code_stands (parts t) y.0 n p code memory bytes none call)

pub steps_load_what_is_there : (s : State) → IsMemory s.memory → StepsLoadWhatIsThere s
unfolding code_needed
steps_load_what_is_there s memory n row code there some none on bytes =
    let needed = row_code s n row code there some none on in record {
      called = λ p at goes.
          let t = past_instruction at.instr s in
          let same : stepped s ≡ settled s (or_fails (call_row (Cxp n p) t)) =
          stepped_runs s at.running ∙ ap (settled s) (executes s at.instr (operation.Call (Cxp n p)) at.there at.calls) in
          rw same (went s (call_row (Cxp n p) t) (λ m. bytes_at m (s.registers.sp - length code) (length code) ≡ code) (rw same at goes)
          (λ u made. call_loads n p code t u memory bytes none needed made));
      kept = λ at goes. step_stays s n code memory none at goes needed bytes;
    }
