-- Lemmas for the static link of a call, for a unit that is cleared, and for a move of bytes.
use Rattle.std.proofs.Common.{◌≡◌, ◌≤◌, ◌⊎◌, inl, inr, ℕ, ◌+◌, ◌-◌, ◌*◌, ◌%◌, ◌&&◌, Bool, true, false, cond, nat_lt, nat_le}
use Rattle.std.proofs.Common.{List, Option, Some, None, Ok, Err, refl, sym, ap, subst, ◌∙◌, arith}
use Rattle.std.specs.Prelude.{zero, suc, ℤ, pos, negsuc, ◌+ℤ◌, ◌-ℤ◌, int_le, slice_get}
use Rattle.std.proofs.lemmas.Bool.{and_parts}
use Rattle.std.proofs.lemmas.Bool.Decides.{nat_tests}
use Rattle.pm_words.specs.declared.error.ExecError.TheVariants.{NoSegment, InvalidMemory}
use Rattle.pm_words.specs.Words.{IsMemory, copied, word_at}
use Rattle.pm_words.specs.Stack.{is_even, load, pop, words_lie_in_memory}
use Rattle.pm_words.proofs.RangeLaws.{IsMemory-copied, word_at-copied, word_at-copied_other}
use Rattle.pm_families.specs.declared.families.Call.{Call}
use Rattle.pm_families.specs.declared.families.Call.TheVariants.{Clp, Cgp, Cbp, Cip, Cxp}
use Rattle.pm_calls.specs.declared.registers.Registers.{Registers}
use Rattle.pm_calls.specs.declared.frames.Table.{Table}
use Rattle.pm_calls.specs.declared.frames.SegmentPlace.{SegmentPlace}
use Rattle.pm_calls.specs.Places.{Parts}
use Rattle.pm_calls.specs.Links.{base_link, base_or_inner, inner_link, level_of, link, link_by, static_link, up}
use Rattle.pm_calls.specs.Tables.{attributes}
use Rattle.pm_calls.specs.Calls.{Reached, called, called_at, called_loading, called_slot, called_standing, entered, here, is_base, kept_below}
use Rattle.pm_calls.specs.Calls.{procedure_called, reach_loading, reach_standing, with_frame, with_old_base}
use Rattle.pm_calls.specs.Laws.{IsCode, Reaches, ReachesSlot}
use Rattle.pm_calls.proofs.FrameLaws.{below-link, with_control-link}
use Rattle.pm_calls.proofs.ReturnLaws.{IsFramed, bound, frame_made, loading_memory, low_before, ok_same, passed, standing_memory}
use Rattle.pm_units.specs.Devices.{unit_of}
use Rattle.pm_rows.specs.Pointers.{move_row}
use Rattle.law_engine.proofs.StoredWords.{popped}
use Rattle.law_engine.specs.Rows.{CallsAreLinked, ClearingForgetsKeys, IsLinked, IsMoved, LinksAsProgram, LinksOutward, LinksTo, MovesReadFirst}

-- ---- the static link of a call

record IsCounted (m : List ℕ) (mp : ℕ) (z : ℤ) (to : ℕ) : Type 0 where
  pub links : ℕ
  pub levels : z ≡ pos links
  pub few : links ≤ 127
  pub link : up m mp links ≡ Ok to

few_links : (m : List ℕ) (mp n to : ℕ) (b : Bool) → nat_lt 127 n ≡ b → cond b (Err NoSegment) (up m mp n) ≡ Ok to → (n ≤ 127) × (up m mp n ≡ Ok to)
few_links m mp n to true e h = cc
few_links m mp n to false e h = (grind (arith, nat_tests, e), h)

counted : (m : List ℕ) (mp : ℕ) (z : ℤ) (to : ℕ) → link_by m mp z ≡ Ok to → IsCounted m mp z to
unfolding link
counted m mp (pos n) to h =
    let k = few_links m mp n to (nat_lt 127 n) refl h in
    record { links = n; levels = refl; few = k.0; link = k.1 }
counted m mp (negsuc n) to h = cc

outward : (m : List ℕ) (r : Registers) (level : ℤ) (to : ℕ) → inner_link m r level ≡ Ok to → LinksOutward m r level to
outward m r level to h =
    let own = bound (load m r.jtab) _ to h in
    let k = counted m r.mp (level_of own.0 -ℤ level +ℤ pos 1) to own.2 in
    record { own = own.0; table = own.1; links = k.links; levels = k.levels; few = k.few; frame = k.link }

main_level : (level : ℤ) → (int_le (negsuc 0) level && int_le level (pos 0)) ≡ true → (level ≡ pos 0) ⊎ (level ≡ negsuc 0)
main_level (pos zero) h = inl refl
main_level (pos (suc n)) h =
    let parts = and_parts (int_le (negsuc 0) (pos (suc n))) (int_le (pos (suc n)) (pos 0)) h in
    let low : suc n ≤ 0 = grind (arith, nat_tests, parts.1) in
    absurd (omega (arith, low))
main_level (negsuc zero) h = inr refl
main_level (negsuc (suc n)) h =
    let parts = and_parts (int_le (negsuc 0) (negsuc (suc n))) (int_le (negsuc (suc n)) (pos 0)) h in
    let low : suc n ≤ 0 = grind (arith, nat_tests, parts.0) in
    absurd (omega (arith, low))

as_program : (m : List ℕ) (r : Registers) (level : ℤ) (to : ℕ) → base_link m r level ≡ Ok to → LinksAsProgram m r level to
as_program m r level to h =
    let k = passed (int_le (negsuc 0) level && int_le level (pos 0)) NoSegment (load m r.base) to h in
    record { main = main_level level k.0; word = k.1 }

by_level : (main : Bool) (m : List ℕ) (r : Registers) (level : ℤ) (to : ℕ) → base_or_inner main m r level ≡ Ok to
    → (main ≡ true → LinksAsProgram m r level to) × (main ≡ false → LinksOutward m r level to)
by_level true m r level to h = (λ e. as_program m r level to h, λ e. absurd (cc))
by_level false m r level to h = (λ e. absurd (cc), λ e. outward m r level to h)

links_to : (call : Call) (m : List ℕ) (r : Registers) (level : ℤ) (to : ℕ) → static_link call m r level ≡ Ok to → LinksTo call m r level to
unfolding static_link
links_to (Clp p) m r level to h = sym (ok_same r.mp to h)
links_to (Cgp p) m r level to h = sym (ok_same r.base to h)
links_to (Cbp p) m r level to h = as_program m r level to h
links_to (Cip p) m r level to h = outward m r level to h
links_to (Cxp n p) m r level to h =
    by_level (int_le level (pos 0)) m r level to h

base_link_stays : (base : Bool) (m : List ℕ) (f old to : ℕ) → f % 2 ≡ 0 → kept_below base ≤ f → word_at m f ≡ to → word_at (with_old_base base m f old) f ≡ to
base_link_stays false m f old to even room h = h
base_link_stays true m f old to even room h = below-link m f old to even room h

-- If a call creates a frame at `f`, then the first word of the frame is the static link `static`.
first_word : (m n : List ℕ) (s loaded static f : ℕ) (r inner : Registers) (base : Bool) (t : Table) → IsMemory m → IsFramed m s loaded r base t static n inner f
    → f % 2 ≡ 0 → word_at n f ≡ static
first_word m n s loaded static f r inner base t memory made even =
    let fits = made.inside_memory in
    let room = made.room in
    let moved = IsMemory-copied m r.sp (f + 12) t.parameters memory (omega (arith, fits)) (omega (arith, room)) in
    let linked = with_control-link (copied m r.sp (f + 12) t.parameters) f static (r.sp + t.parameters) r moved even (omega (arith, room)) in
    ap (λ k. word_at k f) made.memory ∙ base_link_stays base (with_frame m f static r t.parameters) f r.base static even made.below linked

word_there : (m n : List ℕ) (a b w : ℕ) → m ≡ n → a ≡ b → word_at n b ≡ w → word_at m a ≡ w
word_there m n a b w same place h = ap (λ k. word_at k a) same ∙ (ap (word_at n) place ∙ h)

even_there : (a b : ℕ) → a ≡ b → a % 2 ≡ 0 → b % 2 ≡ 0
even_there a b same h = sym (ap (λ k. k % 2) same) ∙ h

at_linked : (c d : Parts) (call : Call) (code : Option (List ℕ)) (at : Reached) → Reaches c call code at → IsMemory at.memory →
    called_at c call at ≡ Ok d → d.registers.mp % 2 ≡ 0 → IsLinked c call code d
unfolding called_at entered
at_linked c d call code at is memory made even =
    let x = bound (entered at.memory at.place at.loaded c.registers call) _ _ made in
    let t = bound (attributes at.memory at.place (procedure_called call)) _ _ x.1 in
    let l = bound (static_link call at.memory c.registers t.0.level) _ _ t.2 in
    let same = ok_same _ d x.2 in
    let f = frame_made at.memory x.0.0 at.place at.loaded l.0 c.registers x.0.1 (is_base call t.0.level) t.0 l.2 in
    let frame : d.registers.mp ≡ f.0 = sym (ap (λ (p : Parts). p.registers.mp) same) ∙ ap (λ (k : Registers). k.mp) f.1.registers in
    let new : d.memory ≡ x.0.0 = sym (ap (λ (p : Parts). p.memory) same) in
    let first = first_word at.memory x.0.0 at.place at.loaded l.0 f.0 c.registers x.0.1 (is_base call t.0.level) t.0 memory f.1
    (even_there d.registers.mp f.0 frame even) in
    let word = word_there d.memory x.0.0 d.registers.mp f.0 l.0 new frame first in
    record {
      at = at;
      reached = is;
      table = t.0;
      found = t.1;
      link = subst (λ k. LinksTo call at.memory c.registers t.0.level k) (sym word) (links_to call at.memory c.registers t.0.level l.0 l.1);
    }

slot_linked : (c d : Parts) (call : Call) (n : ℕ) (code : Option (List ℕ)) (slot : Option (Option SegmentPlace)) →
    ((at : Reached) → ReachesSlot c n code slot at → Reaches c call code at) →
    IsMemory c.memory → IsCode code → called_slot c call n code slot ≡ Ok d → d.registers.mp % 2 ≡ 0 → IsLinked c call code d
unfolding called_standing called_loading
slot_linked c d call n code None k m bytes made even = absurd (cc)
slot_linked c d call n code (Some (Some p)) k m bytes made even =
    let x = bound (reach_standing c n p) _ _ made in
    at_linked c d call code x.0 (k x.0 x.1) (rw (standing_memory c n p x.0 x.1) m) x.2 even
slot_linked c d call n None (Some None) k m bytes made even = absurd (cc)
slot_linked c d call n (Some code) (Some None) k m bytes made even =
    let x = bound (reach_loading c n code) _ _ made in
    at_linked c d call (Some code) x.0 (k x.0 x.1) (loading_memory c n code x.0 m bytes (low_before c d call x.0 x.2) x.1) x.2 even

pub calls_are_linked : CallsAreLinked
unfolding called
calls_are_linked c d (Clp p) code m bytes made even = at_linked c d (Clp p) code (here c) refl m made even
calls_are_linked c d (Cgp p) code m bytes made even = at_linked c d (Cgp p) code (here c) refl m made even
calls_are_linked c d (Cbp p) code m bytes made even = at_linked c d (Cbp p) code (here c) refl m made even
calls_are_linked c d (Cip p) code m bytes made even = at_linked c d (Cip p) code (here c) refl m made even
calls_are_linked c d (Cxp n p) code m bytes made even = slot_linked c d (Cxp n p) n code (slice_get c.places n) (λ at r. r) m bytes made even

-- ---- cleared units

pub clearing_forgets_keys : ClearingForgetsKeys
unfolding unit_of
clearing_forgets_keys unit d = record {
  forgets = λ one. grind (arith, nat_tests, one);
  stays = λ a b. grind (arith, nat_tests, a, b);
}

-- ---- moves

is_moved : (m : List ℕ) (from to words : ℕ) → IsMemory m → from % 2 ≡ 0 → to % 2 ≡ 0 → from + 2 * words ≤ 65536 → to + 2 * words ≤ 65536
    → IsMoved m (copied m from to (2 * words)) from to words
is_moved m from to words memory even even2 source room = record {
  there = λ i l.
      let place : from + (to + 2 * i - to) ≡ from + 2 * i = omega arith in
      word_at-copied m from to (2 * words) (to + 2 * i) memory source room even even2 (omega (arith, even2)) (omega arith) (omega (arith, l))
      ∙ ap (word_at m) place;
  elsewhere = λ x e away. word_at-copied_other m from to (2 * words) x memory source room e away;
}

moved_there : (m n : List ℕ) (from to a b words : ℕ) → n ≡ copied m from to (2 * words) → from ≡ a → to ≡ b
    → IsMoved m (copied m from to (2 * words)) from to words → IsMoved m n a b words
moved_there m n from to a b words new fa tb h =
    subst (λ k. IsMoved m k a b words) (sym new)
    (subst (λ k. IsMoved m (copied m from to (2 * words)) a k words) tb
    (subst (λ k. IsMoved m (copied m from to (2 * words)) k to words) fa h))

pub moves_read_first : MovesReadFirst
unfolding move_row
moves_read_first words m n sp np above memory done =
    let x = bound (pop m sp) _ (n, above) done in
    let y = bound (pop m x.0.above) _ (n, above) x.2 in
    let p = popped m sp x.0 x.1 in
    let q = popped m x.0.above y.0 y.1 in
    let short = passed (nat_lt words 32768) InvalidMemory _ (n, above) y.2 in
    let read = passed (words_lie_in_memory x.0.word words) InvalidMemory _ (n, above) short.1 in
    let written = passed (words_lie_in_memory y.0.word words) InvalidMemory _ (n, above) read.1 in
    let same = ok_same _ (n, above) written.1 in
    let read_parts = and_parts (is_even x.0.word) (nat_le (x.0.word + 2 * words) 65536) read.0 in
    let written_parts = and_parts (is_even y.0.word) (nat_le (y.0.word + 2 * words) 65536) written.0 in
    let even : x.0.word % 2 ≡ 0 = grind (arith, nat_tests, read_parts.0) in
    let source : x.0.word + 2 * words ≤ 65536 = grind (arith, nat_tests, read_parts.1) in
    let even2 : y.0.word % 2 ≡ 0 = grind (arith, nat_tests, written_parts.0) in
    let room : y.0.word + 2 * words ≤ 65536 = grind (arith, nat_tests, written_parts.1) in
    let to : y.0.word ≡ word_at m (sp + 2) = q.word ∙ ap (word_at m) p.above in
    let new : n ≡ copied m x.0.word y.0.word (2 * words) = sym (ap (λ (k : List ℕ × ℕ). k.0) same) in
    let top : y.0.above ≡ above = ap (λ (k : List ℕ × ℕ). k.1) same in
    let first = p.above in
    let second = q.above in (
      omega (arith, first, second, top),
      moved_there m n x.0.word y.0.word (word_at m sp) (word_at m (sp + 2)) words new p.word to
          (is_moved m x.0.word y.0.word words memory even even2 source room),
    )
