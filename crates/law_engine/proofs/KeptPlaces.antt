-- Lemmas for standard procedure 22 immediately after standard procedure 21.
use Rattle.std.proofs.Common.{◌≡◌, ◌<◌, ◌≤◌, ℕ, ◌+◌, ◌-◌, ◌%◌, ◌==◌, ◌||◌, true, nat_lt}
use Rattle.std.proofs.Common.{List, length, get_or, Option, Some, None, Ok, refl, sym, ap, ◌∙◌, subst, arith}
use Rattle.std.specs.Prelude.{slice_get, slice_set}
use Rattle.std.proofs.lemmas.Bool.Decides.{nat_tests}
use Rattle.std.proofs.lemmas.List.{get_or-set_same, length-set, set-get_or, set-set}
use Rattle.std.proofs.lemmas.Option.{get_or_from_slice_get, slice_get-get_or, slice_get_within}
use Rattle.pm_words.specs.declared.error.ExecError.TheVariants.{StackOverflow}
use Rattle.pm_words.specs.Words.{with_bytes}
use Rattle.pm_words.specs.Stack.{minus}
use Rattle.pm_calls.specs.declared.frames.SegmentPlace.{SegmentPlace}
use Rattle.pm_calls.specs.Places.{Parts}
use Rattle.pm_calls.specs.Keeps.{keep_loading, keep_slot, keep_standing, segment_kept, segment_unkept, unkeep_standing}
use Rattle.pm_calls.specs.Laws.{IsUsed, UnkeepGivesBack}
use Rattle.pm_calls.proofs.ReturnLaws.{has_room, ok_same, passed}

-- If the slot `n` is set to `x`, then it is `x`.
set_slot : (places : List (Option SegmentPlace)) (n : ℕ) (x : Option SegmentPlace) → n < length places → slice_get (slice_set places n x) n ≡ Some x
set_slot places n x low =
    let size : length (slice_set places n x) ≡ length places = length-set places n x in
    slice_get-get_or (slice_set places n x) n None (omega (arith, low, size)) ∙ ap Some (get_or-set_same places n x None low)

-- If a slot is set to `x` and then to its old entry, then the slots are the old ones.
set_back : (places : List (Option SegmentPlace)) (n : ℕ) (x old : Option SegmentPlace) → get_or places n None ≡ old
    → slice_set (slice_set places n x) n old ≡ places
set_back places n x old was = set-set places n x old ∙ ap (slice_set places n) (sym was) ∙ set-get_or places n None

standing_back : (c d : Parts) (n size : ℕ) (p : SegmentPlace) → slice_get c.places n ≡ Some (Some p) → 0 < p.count + p.keeps →
    keep_standing c n p ≡ Ok d → segment_unkept d n size ≡ Ok (record c { memory = d.memory })
unfolding keep_standing segment_unkept unkeep_standing
standing_back c d n size p is used kept =
    let first = passed (nat_lt p.keeps 65535) StackOverflow _ d kept in
    let same = ok_same _ d first.1 in
    let new : Option SegmentPlace = Some (record p { keeps = p.keeps + 1 }) in
    let there : slice_get (slice_set c.places n new) n ≡ Some new = set_slot c.places n new (slice_get_within c.places n (Some p) is) in
    let some : nat_lt 0 (p.keeps + 1) ≡ true = grind (arith, nat_tests) in
    let more : (nat_lt 1 (p.keeps + 1) || nat_lt 0 p.count) ≡ true = grind (arith, nat_tests, used) in
    let less : p.keeps + 1 - 1 ≡ p.keeps = omega arith in
    let back = set_back c.places n new (Some p) (get_or_from_slice_get c.places n (Some p) None is) in
    subst (λ (k : Parts). segment_unkept k n size ≡ Ok (record c { memory = k.memory })) same
    (rw (there, some, more, less) (ap (λ places. Ok (record c { places = places })) back))

loading_back : (c d : Parts) (n : ℕ) (code : List ℕ) → slice_get c.places n ≡ Some None → c.registers.sp % 2 ≡ 0 → c.registers.sp ≤ 65504 →
    keep_loading c n code ≡ Ok d → segment_unkept d n (length code) ≡ Ok (record c { memory = d.memory })
unfolding keep_loading segment_unkept unkeep_standing
loading_back c d n code is even top kept =
    let sp = c.registers.sp in
    let has = has_room c.registers code _ d kept in
    let room = has.room in
    let same = ok_same _ d has.made in
    let new : Option SegmentPlace = Some (record { place = minus sp 2; count = 0; keeps = 1 }) in
    let there : slice_get (slice_set c.places n new) n ≡ Some new = set_slot c.places n new (slice_get_within c.places n None is) in
    let some = has.some in
    let fits : length code ≤ sp = omega (arith, room) in
    let below : minus sp 2 + 2 ≡ sp = omega arith in
    let whole : sp - length code + length code ≡ sp = omega arith in
    let test : (sp - length code + length code == minus sp 2 + 2) ≡ true = grind (arith, nat_tests, below, whole) in
    let back = set_back c.places n new None (get_or_from_slice_get c.places n None None is) in
    subst (λ (k : Parts). segment_unkept k n (length code) ≡ Ok (record c { memory = k.memory })) same
    (rw (there, test, below) (ap (λ places. Ok (record c { memory = with_bytes c.memory (sp - length code) code; places = places })) back))

slot_back : (c d : Parts) (n : ℕ) (code : List ℕ) (slot : Option (Option SegmentPlace)) → slice_get c.places n ≡ slot → c.registers.sp % 2 ≡ 0
    → c.registers.sp ≤ 65504 → IsUsed slot →
    keep_slot c n (Some code) slot ≡ Ok d → segment_unkept d n (length code) ≡ Ok (record c { memory = d.memory })
slot_back c d n code None is even top used kept = absurd (cc)
slot_back c d n code (Some (Some p)) is even top used kept = standing_back c d n (length code) p is used kept
slot_back c d n code (Some None) is even top used kept = loading_back c d n code is even top kept

pub unkeep_gives_back : UnkeepGivesBack
unfolding segment_kept
unkeep_gives_back c d n code even top used kept = slot_back c d n code (slice_get c.places n) refl even top used kept
