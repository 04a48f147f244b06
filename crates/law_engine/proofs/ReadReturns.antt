-- Lemmas for returns, and for segments that procedure 21 loads, in two memories that agree on the bytes that are read.
use Rattle.std.proofs.Common.{◌≡◌, ◌<◌, ◌≤◌, ℕ, ◌+◌, ◌-◌, ◌*◌, ◌%◌, ◌&&◌, Bool, true, false, nat_le, nat_lt}
use Rattle.std.proofs.Common.{List, [], ◌∷◌, length, Option, Some, None, refl, arith}
use Rattle.std.specs.List.{All}
use Rattle.std.specs.Prelude.{if◌then◌else◌, slice_get}
use Rattle.std.proofs.lemmas.Bool.{and_parts}
use Rattle.std.proofs.lemmas.Bool.Decides.{nat_tests}
use Rattle.pm_words.specs.declared.error.ExecError.TheVariants.{InvalidMemory, NoSegment, StackOverflow}
use Rattle.pm_words.specs.Words.{IsMemory, copied, with_bytes, word_at}
use Rattle.pm_words.specs.Stack.{is_even, minus}
use Rattle.pm_calls.specs.declared.frames.SegmentPlace.{SegmentPlace}
use Rattle.pm_calls.specs.Calls.{code_fits}
use Rattle.pm_calls.specs.Keeps.{keep_loading, keep_slot, keep_standing, segment_kept, segment_unkept, unkeep_slot, unkeep_standing}
use Rattle.pm_calls.specs.Laws.{IsCode}
use Rattle.pm_calls.specs.Places.{Parts}
use Rattle.pm_calls.specs.Returns.{returned}
use Rattle.pm_machine.specs.Written.{stretch}
use Rattle.pm_machine.specs.ReadStretches.{return_read}
use Rattle.law_engine.proofs.ReadSteps.{Agree, Both, Same, both, bytes_alike, copy_alike, demanded, first_same, rest_agree, unchanged, word_same}
use Rattle.law_engine.proofs.ReadCalls.{PartsAlike, here_same, code_room, parts_in}

-- ---- returns

evenly : (a : ℕ) → is_even a ≡ true → a % 2 ≡ 0
evenly a e = grind (arith, nat_tests)

pub returned_alike : (c : Parts) (n : List ℕ) (k : ℕ) (base : Bool) → IsMemory c.memory → IsMemory n
    → Agree (return_read k base c.registers.mp) c.memory n → Both (PartsAlike c.memory n) (returned c k base) (returned (parts_in c n) k base)
unfolding returned
returned_alike c n k base memory other agree =
    let m = c.memory in
    let f = c.registers.mp in
    let old = if base then stretch (minus f 2) 2 ∷ [] else [] in
    let control = first_same (f + 2) 10 (stretch (f + 12) (2 * k) ∷ old) m n agree in
    let rest = rest_agree (stretch (f + 2) 10) (stretch (f + 12) (2 * k) ∷ old) m n agree in
    let result = first_same (f + 12) (2 * k) old m n rest in
    let kept = rest_agree (stretch (f + 12) (2 * k)) old m n rest in
    demanded (PartsAlike m n) (is_even f && nat_le (f + 12 + 2 * k) 65536) InvalidMemory _ _ (λ g.
    let parts = and_parts (is_even f) (nat_le (f + 12 + 2 * k) 65536) g in
    let even = evenly f parts.0 in
    let room : f + 12 + 2 * k ≤ 65536 = grind (arith, nat_tests, parts.1) in
    let at_2 = word_same m n (f + 2) 10 (f + 2) control (omega (arith, even)) (omega arith) (omega arith) in
    let at_4 = word_same m n (f + 2) 10 (f + 4) control (omega (arith, even)) (omega arith) (omega arith) in
    let at_6 = word_same m n (f + 2) 10 (f + 6) control (omega (arith, even)) (omega arith) (omega arith) in
    let at_8 = word_same m n (f + 2) 10 (f + 8) control (omega (arith, even)) (omega arith) (omega arith) in
    let at_10 = word_same m n (f + 2) 10 (f + 10) control (omega (arith, even)) (omega arith) (omega arith) in
    let above = word_at m (f + 10) in
    rw at_10 (demanded (PartsAlike m n) (is_even above && nat_le above 65504) InvalidMemory _ _ (λ h.
    demanded (PartsAlike m n) (nat_le (c.registers.np + 2 * k) above) StackOverflow _ _ (λ l.
    let low = and_parts (is_even above) (nat_le above 65504) h in
    let top : above ≤ 65504 = grind (arith, nat_tests, low.1) in
    let fit = order (c.registers.np + 2 * k) above l in
    let before : (if base then word_at n (minus f 2) else c.registers.base) ≡ (if base then word_at m (minus f 2) else c.registers.base) =
    old_base base f m c.registers.base (lower f even) kept in
    let from : (f + 12) % 65536 + 2 * k ≤ 65536 = around f k room in
    rw (at_2, at_4, at_6, at_8, before) (record {
      other = _;
      made = refl;
      like = record {
        memory = copied n ((f + 12) % 65536) (above - 2 * k) (2 * k);
        same = refl;
        alike = copy_alike m n ((f + 12) % 65536) (above - 2 * k) (2 * k) (wrapped f k m room result) memory other from (omega (arith, top, fit));
      };
    })))))
  where
    order : (a b : ℕ) → nat_le a b ≡ true → a ≤ b
    order a b h = grind (arith, nat_tests)

    lower : (f : ℕ) → f % 2 ≡ 0 → minus f 2 % 2 ≡ 0
    lower f e = omega (arith, e)

    around : (f k : ℕ) → f + 12 + 2 * k ≤ 65536 → (f + 12) % 65536 + 2 * k ≤ 65536
    around f k h = omega (arith, h)

    wrapped : (f k : ℕ) (m : List ℕ) → f + 12 + 2 * k ≤ 65536 → Same m n (f + 12) (2 * k) → Same m n ((f + 12) % 65536) (2 * k)
    wrapped f k m room same = λ x low high. same x (omega (arith, room, low, high)) (omega (arith, room, low, high))

    old_base : (b : Bool) (f : ℕ) (m : List ℕ) (base : ℕ) → minus f 2 % 2 ≡ 0 → Agree (if b then stretch (minus f 2) 2 ∷ [] else []) m n
        → (if b then word_at n (minus f 2) else base) ≡ (if b then word_at m (minus f 2) else base)
    old_base true f m base e h = here_same m n (minus f 2) (first_same (minus f 2) 2 [] m n h) e
    old_base false f m base e h = refl

-- ---- segments that procedure 21 loads

kept_loading_alike : (c : Parts) (n : List ℕ) (k : ℕ) (code : List ℕ) → IsMemory c.memory → IsMemory n → c.registers.sp ≤ 65504 → All (λ b. b < 256) code
    → Both (PartsAlike c.memory n) (keep_loading c k code) (keep_loading (parts_in c n) k code)
unfolding keep_loading
kept_loading_alike c n k code memory other top bytes =
    both (PartsAlike c.memory n) (code_fits c.registers code) (code_fits c.registers code) _ _ refl (λ u h.
    let sp = c.registers.sp in
    record {
      other = _;
      made = refl;
      like = record {
        memory = with_bytes n (sp - length code) code;
        same = refl;
        alike = bytes_alike c.memory n code (sp - length code) memory other (code_room c.registers code u top h) bytes;
      };
    })

kept_slot_alike : (c : Parts) (n : List ℕ) (k : ℕ) (code : Option (List ℕ)) (slot : Option (Option SegmentPlace)) → IsMemory c.memory → IsMemory n
    → c.registers.sp ≤ 65504 → IsCode code → Both (PartsAlike c.memory n) (keep_slot c k code slot) (keep_slot (parts_in c n) k code slot)
unfolding keep_standing
kept_slot_alike c n k code None memory other top bytes = tt
kept_slot_alike c n k code (Some (Some p)) memory other top bytes =
    demanded (PartsAlike c.memory n) (nat_lt p.keeps 65535) StackOverflow _ _ (λ g.
    record { other = _; made = refl; like = record { memory = n; same = refl; alike = unchanged c.memory n } })
kept_slot_alike c n k None (Some None) memory other top bytes = tt
kept_slot_alike c n k (Some code) (Some None) memory other top bytes = kept_loading_alike c n k code memory other top bytes

pub kept_alike : (c : Parts) (n : List ℕ) (k : ℕ) (code : Option (List ℕ)) → IsMemory c.memory → IsMemory n → c.registers.sp ≤ 65504 → IsCode code
    → Both (PartsAlike c.memory n) (segment_kept c k code) (segment_kept (parts_in c n) k code)
unfolding segment_kept
kept_alike c n k code memory other top bytes = kept_slot_alike c n k code (slice_get c.places k) memory other top bytes

unkept_slot_alike : (c : Parts) (n : List ℕ) (k size : ℕ) (slot : Option (Option SegmentPlace))
    → Both (PartsAlike c.memory n) (unkeep_slot c k size slot) (unkeep_slot (parts_in c n) k size slot)
unfolding unkeep_standing
unkept_slot_alike c n k size None = tt
unkept_slot_alike c n k size (Some None) = tt
unkept_slot_alike c n k size (Some (Some p)) =
    demanded (PartsAlike c.memory n) (nat_lt 0 p.keeps) NoSegment _ _ (λ g.
    record { other = _; made = refl; like = record { memory = n; same = refl; alike = unchanged c.memory n } })

pub unkept_alike : (c : Parts) (n : List ℕ) (k size : ℕ) → Both (PartsAlike c.memory n) (segment_unkept c k size) (segment_unkept (parts_in c n) k size)
unfolding segment_unkept
unkept_alike c n k size = unkept_slot_alike c n k size (slice_get c.places k)
