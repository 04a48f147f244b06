-- Laws of the code of a loaded segment after its call.
use Rattle.std.proofs.Common.{◌≡◌, ◌<◌, ◌≤◌, inl, inr, ℕ, ◌+◌, ◌-◌, ◌*◌, ◌/◌, ◌%◌, Bool, true, false, nat_lt}
use Rattle.std.proofs.Common.{List, length, drop, get_or, Option, Some, None, Ok, refl, sym, ap, ◌∙◌, arith}
use Rattle.std.specs.Prelude.{slice_get}
use Rattle.std.specs.List.{All}
use Rattle.std.proofs.lemmas.Bool.{cases_lt}
use Rattle.std.proofs.lemmas.Bool.Decides.{nat_tests}
use Rattle.std.proofs.lemmas.List.{ext_get_or, get_or-drop, get_or-take, length-drop, length-take-le}
use Rattle.pm_words.specs.Words.{IsMemory, byte_at, bytes_at, bytes_of, copied, with_bytes, with_word}
use Rattle.pm_words.proofs.Pairs.{length-bytes_of}
use Rattle.pm_words.proofs.Laws.{IsMemory-with_bytes, byte_at-with_bytes, byte_at-with_bytes_other}
use Rattle.pm_words.proofs.RangeLaws.{All-bytes_at, byte_at-copied_other, byte_at-with_word_other, IsMemory-copied, length-bytes_at, same_memories}
use Rattle.pm_calls.specs.declared.registers.Registers.{Registers}
use Rattle.pm_calls.specs.declared.frames.Table.{Table}
use Rattle.pm_calls.specs.declared.frames.SegmentPlace.{SegmentPlace}
use Rattle.pm_families.specs.declared.families.Call.{Call}
use Rattle.pm_families.specs.declared.families.Call.TheVariants.{Cxp}
use Rattle.pm_calls.specs.Places.{Parts, place_in}
use Rattle.pm_calls.specs.Links.{static_link}
use Rattle.pm_calls.specs.Tables.{attributes}
use Rattle.pm_calls.specs.Calls.{Reached, called, called_at, called_loading, called_slot, entered, frame_top, is_base}
use Rattle.pm_calls.specs.Calls.{kept_below, reach_loading, procedure_called, with_control, with_frame, with_old_base}
use Rattle.pm_calls.specs.Laws.{LoadedCodeStands}
use Rattle.pm_calls.proofs.ReturnLaws.{IsFramed, bound, frame_made, has_room, loading_memory, low_before, ok_same, size_kept, size_of_control}

-- ---- ranges of bytes

count_of_bytes : (ws : List ℕ) (a n : ℕ) → length ws ≡ 32768 → a + n ≤ 65536 → length (bytes_at ws a n) ≡ n
unfolding bytes_at
count_of_bytes ws a n size room =
    length-take-le n (drop a (bytes_of ws)) (omega (arith, length-drop a (bytes_of ws), length-bytes_of ws, size, room))

byte_of_bytes : (ws : List ℕ) (a n k : ℕ) → k < n → get_or (bytes_at ws a n) k 0 ≡ byte_at ws (a + k)
unfolding bytes_at byte_at
byte_of_bytes ws a n k h = get_or-take n (drop a (bytes_of ws)) k 0 h ∙ get_or-drop a (bytes_of ws) k 0

-- If bytes are saved in a second memory, then they can be read there.
pub kept_bytes : (m s : List ℕ) (a n : ℕ) → IsMemory m → IsMemory s → a + n ≤ 65536
    → bytes_at (with_bytes s a (bytes_at m a n)) a n ≡ bytes_at m a n
kept_bytes m s a n h g room =
    let size : length (bytes_at m a n) ≡ n = length-bytes_at m a n h room in
    let fits = All-bytes_at m a n h in
    let made : IsMemory (with_bytes s a (bytes_at m a n)) = IsMemory-with_bytes s (bytes_at m a n) a g (omega (arith, size, room)) fits in
    ext_get_or 0 _ _ (length-bytes_at _ a n made room ∙ sym size)
    (λ k l. let low : k < n = omega (arith, l, length-bytes_at _ a n made room) in
    let place : a + k - a ≡ k = omega arith in
    byte_of_bytes _ a n k low ∙ byte_at-with_bytes s (bytes_at m a n) a (a + k) g (omega (arith, size, room)) fits (omega arith) (omega (arith, size, low))
    ∙ ap (λ i. get_or (bytes_at m a n) i 0) place)

pub bytes_put_back : (m s ys : List ℕ) (a n : ℕ) → IsMemory m → IsMemory s → length ys ≡ n → All (λ b. b < 256) ys → a + n ≤ 65536
    → with_bytes (with_bytes m a ys) a (bytes_at (with_bytes s a (bytes_at m a n)) a n) ≡ m
bytes_put_back m s ys a n h g count bytes room =
    let size : length (bytes_at m a n) ≡ n = length-bytes_at m a n h room in
    let fits = All-bytes_at m a n h in
    let over : IsMemory (with_bytes m a ys) = IsMemory-with_bytes m ys a h (omega (arith, count, room)) bytes in
    let back : IsMemory (with_bytes (with_bytes m a ys) a (bytes_at m a n))
    = IsMemory-with_bytes (with_bytes m a ys) (bytes_at m a n) a over (omega (arith, size, room)) fits in
    ap (λ xs. with_bytes (with_bytes m a ys) a xs) (kept_bytes m s a n h g room)
    ∙ same_memories _ m back h (λ x below. elim (cases_lt x a) [
      | inl low ↦
          byte_at-with_bytes_other (with_bytes m a ys) (bytes_at m a n) a x over (omega (arith, size, room)) fits (inl low)
          ∙ byte_at-with_bytes_other m ys a x h (omega (arith, count, room)) bytes (inl low)
      | inr from ↦ elim (cases_lt x (a + n)) [
        | inl inside ↦
            let place : a + (x - a) ≡ x = omega (arith, from) in
            byte_at-with_bytes (with_bytes m a ys) (bytes_at m a n) a x over (omega (arith, size, room)) fits from (omega (arith, size, inside))
            ∙ byte_of_bytes m a n (x - a) (omega (arith, from, inside)) ∙ ap (λ i. byte_at m i) place
        | inr above ↦
            byte_at-with_bytes_other (with_bytes m a ys) (bytes_at m a n) a x over (omega (arith, size, room)) fits (inr (omega (arith, size, above)))
            ∙ byte_at-with_bytes_other m ys a x h (omega (arith, count, room)) bytes (inr (omega (arith, count, above)))
      ]
    ])

-- If the bytes below an address are saved in a second memory, overwritten, and then restored, then the memory is as
-- before.
pub below_put_back : (m s ys kept back : List ℕ) (sp : ℕ) → IsMemory m → IsMemory s → All (λ b. b < 256) ys → length ys ≤ sp → sp ≤ 65536
    → kept ≡ bytes_at m (sp - length ys) (length ys) → back ≡ bytes_at (with_bytes s (sp - length kept) kept) (sp - length ys) (length ys)
    → with_bytes (with_bytes m (sp - length ys) ys) (sp - length back) back ≡ m
below_put_back m s ys kept back sp h g bytes fits low kept_is back_is =
    let inside : sp - length ys + length ys ≤ 65536 = omega (arith, fits, low) in
    let count : length kept ≡ length ys = ap length kept_is ∙ length-bytes_at m (sp - length ys) (length ys) h inside in
    let again : back ≡ bytes_at (with_bytes s (sp - length ys) (bytes_at m (sp - length ys) (length ys))) (sp - length ys) (length ys)
    = rw (count, kept_is) at back_is in
    let same : back ≡ bytes_at m (sp - length ys) (length ys) = again ∙ kept_bytes m s (sp - length ys) (length ys) h g inside in
    let size : length back ≡ length ys = ap length same ∙ length-bytes_at m (sp - length ys) (length ys) h inside in
    rw (size, again) (bytes_put_back m s ys (sp - length ys) (length ys) h g refl bytes inside)

-- ---- bytes above a frame

-- If a word is written at any address, even or odd, then each byte above this word is unchanged.
byte_above : (m : List ℕ) (a w x : ℕ) → a + 1 < x → byte_at (with_word m a w) x ≡ byte_at m x
unfolding with_word
byte_above m a w x h =
    let even : 2 * (a / 2) % 2 ≡ 0 = omega arith in
    let same : 2 * (a / 2) / 2 ≡ a / 2 = omega arith in
    rw same at (byte_at-with_word_other m (2 * (a / 2)) x w even (inr (omega (arith, h))))

control_above : (m : List ℕ) (f static : ℕ) (r : Registers) (above x : ℕ) → f + 12 ≤ x → byte_at (with_control m f static r above) x ≡ byte_at m x
unfolding with_control
control_above m f static r above x h =
    byte_above _ (f + 10) above x (omega arith) ∙ byte_above _ (f + 8) r.ipc x (omega arith) ∙ byte_above _ (f + 6) r.seg x (omega arith)
    ∙ byte_above _ (f + 4) r.jtab x (omega arith) ∙ byte_above _ (f + 2) r.mp x (omega arith) ∙ byte_above m f static x (omega arith)

base_above : (base : Bool) (m : List ℕ) (f old x : ℕ) → kept_below base ≤ f → f ≤ x → byte_at (with_old_base base m f old) x ≡ byte_at m x
base_above false m f old x room h = refl
base_above true m f old x room h = byte_above m (f - 2) old x (omega arith)

base_size : (base : Bool) (m : List ℕ) (f old : ℕ) → length m ≡ 32768 → length (with_old_base base m f old) ≡ 32768
base_size false m f old h = h
base_size true m f old h = size_kept m (f - 2) old h

frame_size : (m n : List ℕ) (s loaded static : ℕ) (r inner : Registers) (base : Bool) (t : Table) (f : ℕ) → IsMemory m →
    IsFramed m s loaded r base t static n inner f → length n ≡ 32768
frame_size m n s loaded static r inner base t f memory made =
    let fits = made.inside_memory in
    let room = made.room in
    let moved = copied m r.sp (f + 12) t.parameters in
    let size = (IsMemory-copied m r.sp (f + 12) t.parameters memory (omega (arith, fits)) (omega (arith, room))).size in
    ap length made.memory ∙ base_size base (with_frame m f static r t.parameters) f r.base (size_of_control moved f static r (r.sp + t.parameters) size)

-- If a frame is created, then each byte above its variables is unchanged.
frame_above : (m n : List ℕ) (s loaded static : ℕ) (r inner : Registers) (base : Bool) (t : Table) (f x : ℕ) → IsMemory m →
    IsFramed m s loaded r base t static n inner f → frame_top loaded r.sp t.parameters ≤ x → byte_at n x ≡ byte_at m x
frame_above m n s loaded static r inner base t f x memory made high =
    let moved = copied m r.sp (f + 12) t.parameters in
    let fits = made.inside_memory in
    let room = made.room in
    let under = made.under in
    let above : f + 12 + t.parameters ≤ x = omega (arith, under, high) in
    ap (λ k. byte_at k x) made.memory
    ∙ base_above base (with_frame m f static r t.parameters) f r.base x made.below (omega (arith, above))
    ∙ control_above moved f static r (r.sp + t.parameters) x (omega (arith, above))
    ∙ byte_at-copied_other m r.sp (f + 12) t.parameters x memory (omega (arith, fits)) (omega (arith, room)) (inr above)

-- ---- the code

record IsLoaded (c : Parts) (code : List ℕ) (at : Reached) : Type 0 where
  pub memory : at.memory ≡ with_bytes c.memory (c.registers.sp - length code) code
  pub loaded : at.loaded ≡ length code
  pub some : 0 < length code
  pub room : length code ≤ c.registers.sp

loaded_there : (c : Parts) (n : ℕ) (code : List ℕ) (at : Reached) → reach_loading c n code ≡ Ok at → IsLoaded c code at
unfolding reach_loading
loaded_there c n code at h =
    let has = has_room c.registers code _ at h in
    let same = ok_same _ at has.made in
    let room = has.room in
    record {
      memory = sym (ap (λ (x : Reached). x.memory) same);
      loaded = sym (ap (λ (x : Reached). x.loaded) same);
      some = has.some;
      room = omega (arith, room);
    }

top_of_loaded : (loaded sp parameters : ℕ) → 0 < loaded → frame_top loaded sp parameters ≡ sp - loaded
top_of_loaded loaded sp parameters h = let test : nat_lt 0 loaded ≡ true = grind (arith, nat_tests) in rw test refl

-- A call keeps the size of the memory, and does not change the bytes from the end of its frame on.
record KeepsAbove (c : Parts) (at : Reached) (d : Parts) : Type 0 where
  pub size : length d.memory ≡ 32768
  pub bytes : (x : ℕ) → c.registers.sp - at.loaded ≤ x → byte_at d.memory x ≡ byte_at at.memory x

entered_above : (c : Parts) (call : Call) (at : Reached) (d : Parts) → IsMemory at.memory → 0 < at.loaded → called_at c call at ≡ Ok d → KeepsAbove c at d
unfolding called_at entered
entered_above c call at d memory some made =
    let e = bound (entered at.memory at.place at.loaded c.registers call) _ _ made in
    let t = bound (attributes at.memory at.place (procedure_called call)) _ _ e.1 in
    let l = bound (static_link call at.memory c.registers t.0.level) _ _ t.2 in
    let new : e.0.0 ≡ d.memory = ap (λ (p : Parts). p.memory) (ok_same _ d e.2) in
    let f = frame_made at.memory e.0.0 at.place at.loaded l.0 c.registers e.0.1 (is_base call t.0.level) t.0 l.2 in
    let top = top_of_loaded at.loaded c.registers.sp t.0.parameters some in
    record {
      size = ap length (sym new) ∙ frame_size at.memory e.0.0 at.place at.loaded l.0 c.registers e.0.1 (is_base call t.0.level) t.0 f.0 memory f.1;
      bytes = λ x high.
          ap (λ k. byte_at k x) (sym new)
          ∙ frame_above at.memory e.0.0 at.place at.loaded l.0 c.registers e.0.1 (is_base call t.0.level) t.0 f.0 x memory f.1 (rw top high);
    }

code_stands : (c d : Parts) (call : Call) (n : ℕ) (code : List ℕ) (at : Reached) → IsMemory c.memory → All (λ b. b < 256) code →
    reach_loading c n code ≡ Ok at → called_at c call at ≡ Ok d → bytes_at d.memory (c.registers.sp - length code) (length code) ≡ code
code_stands c d call n code at memory bytes h made =
    let low = low_before c d call at made in
    let is = loaded_there c n code at h in
    let start = c.registers.sp - length code in
    let room = is.room in
    let inside : start + length code ≤ 65536 = omega (arith, room, low) in
    let kept = entered_above c call at d (loading_memory c n code at memory bytes low h) (rw is.loaded is.some) made in
    let size = count_of_bytes d.memory start (length code) kept.size inside in
    ext_get_or 0 (bytes_at d.memory start (length code)) code size (λ i l.
    let below : i < length code = omega (arith, l, size) in
    let away : start + i - start ≡ i = omega arith in
    byte_of_bytes d.memory start (length code) i below
    ∙ kept.bytes (start + i) (rw is.loaded (omega arith))
    ∙ ap (λ k. byte_at k (start + i)) is.memory
    ∙ byte_at-with_bytes c.memory code start (start + i) memory inside bytes (omega arith) (omega (arith, below))
    ∙ ap (λ k. get_or code k 0) away)

slot_stands : (c d : Parts) (call : Call) (n : ℕ) (code : List ℕ) (slot : Option (Option SegmentPlace)) → place_in slot ≡ None →
    IsMemory c.memory → All (λ b. b < 256) code → called_slot c call n (Some code) slot ≡ Ok d →
    bytes_at d.memory (c.registers.sp - length code) (length code) ≡ code
unfolding called_loading
slot_stands c d call n code None none memory bytes made = absurd (cc)
slot_stands c d call n code (Some (Some p)) none memory bytes made = absurd (cc)
slot_stands c d call n code (Some None) none memory bytes made =
    let x = bound (reach_loading c n code) _ _ made in
    code_stands c d call n code x.0 memory bytes x.1 x.2

pub loaded_code_stands : LoadedCodeStands
unfolding called
loaded_code_stands c d n p code memory bytes none made = slot_stands c d (Cxp n p) n code (slice_get c.places n) none memory bytes made
