-- Lemmas: the code file of a program contains the program.
use Rattle.std.proofs.Common.{◌≡◌, ◌<◌, ◌≤◌, ℕ, zero, suc, ◌+◌, ◌-◌, ◌%◌, Bool, true, false, All, List, [], ◌∷◌, length, map}
use Rattle.std.proofs.Common.{take, replicate, get_or, refl, sym, ap, subst, ◌∙◌, arith, length-append, Option, Some, None}
use Rattle.std.specs.Prelude.{◌==◌, ◌&&◌, nat_le, if◌then◌else◌, option_map, slice_range, sum}
use Rattle.std.specs.List.{AllByRecursion, list_all}
use Rattle.std.proofs.lemmas.Bool.{and_parts, eq-eqb, eqb-true, leb-true}
use Rattle.std.proofs.lemmas.Bool.Decides.{nat_tests}
use Rattle.std.proofs.lemmas.List as lists
use Rattle.std.proofs.lemmas.List.{length-map, length-replicate, take_at}
use Rattle.std.proofs.lemmas.List.Elements.{All-from_get_or}
use Rattle.std.proofs.lemmas.List.Sums.{sum_by-cons}
use Rattle.std.proofs.Math.ListN.{get_or-map}
use Rattle.pm_codefile.specs.Layout.{layout, name_for}
use Rattle.pm_codefile.specs.ReadBack.{ReadsBack, begin_of}
use Rattle.pm_codefile.proofs.ReadBack.{layout-reads_back}
use Rattle.pm_codefile.proofs.Written.{slice_range-right}
use Rattle.pm_code.specs.Laws.{Holds}
use Rattle.pm_code.specs.Program.{segment_numbered, Procedure, Segment, IsProcedure, IsSegment, FitSlots, is_name_character, jtab_of, procedures_end}
use Rattle.pm_code.specs.Program.{segment_bytes}
use Rattle.pm_code.specs.Laws.{name_of}
use Rattle.pm_code.proofs.Laid.{length-segment}
use Rattle.pm_code.specs.Image.{bytes_of_segment, file_of, joined_bytes, name_of_segment, slots_of}
use Rattle.pm_codefile.specs.Dictionary.{file_fault}
use Rattle.pm_code.specs.Program.{IsProgram}
use Rattle.pm_code.specs.Laws.{FileHoldsProgram, FileIsAccepted}

-- The slot has no segment, or a valid segment that is short enough.
abbrev IsSlot : Option Segment → Type 0
IsSlot None = Unit {0}
IsSlot (Some s) = IsSegment s × (length (segment_bytes s) ≤ 65534)

numbered_slot : (n : ℕ) (ss : List Segment) → AllByRecursion IsSegment ss → FitSlots ss → IsSlot (segment_numbered n ss)
numbered_slot n [] h short = tt
numbered_slot n (s ∷ ss) h short = by (s.number == n) (numbered_slot n ss h.1 short.1)
  where
    by : (b : Bool) → IsSlot (segment_numbered n ss) → IsSlot (if b then Some s else segment_numbered n ss)
    by true more = (h.0, short.0)
    by false more = more

slots_sound : (n count : ℕ) (ss : List Segment) → AllByRecursion IsSegment ss → FitSlots ss → AllByRecursion IsSlot (slots_of n count ss)
slots_sound n zero ss h short = tt
slots_sound n (suc count) ss h short = (numbered_slot n ss h short, slots_sound (n + 1) count ss h short)

slots_count : (n count : ℕ) (ss : List Segment) → length (slots_of n count ss) ≡ count
slots_count n zero ss = refl
slots_count n (suc count) ss = ap suc (slots_count (n + 1) count ss)

-- Slot `n + i` of a program has the segment with this number.
slot_there : (n count i : ℕ) (ss : List Segment) → i < count → get_or (slots_of n count ss) i None ≡ segment_numbered (n + i) ss
slot_there n zero i ss l = absurd (omega arith)
slot_there n (suc count) zero ss l = let e : n ≡ n + 0 = omega arith in ap (λ k. segment_numbered k ss) e
slot_there n (suc count) (suc i) ss l =
    let e : (n + 1) + i ≡ n + suc i = omega arith in
    slot_there (n + 1) count i ss (omega arith) ∙ ap (λ k. segment_numbered k ss) e

-- A segment that is found has a number below 16.
numbered_below : (n : ℕ) (ss : List Segment) (t : Segment) → AllByRecursion IsSegment ss → segment_numbered n ss ≡ Some t → n < 16
numbered_below n [] t h e = absurd (cc)
numbered_below n (s ∷ ss) t h e = by (s.number == n) refl (numbered_below n ss t h.1) e
  where
    by : (b : Bool) → (s.number == n) ≡ b → (segment_numbered n ss ≡ Some t → n < 16) → (if b then Some s else segment_numbered n ss) ≡ Some t → n < 16
    by true f more e = omega (arith, eqb-true s.number n f, h.0.number)
    by false f more e = more e

-- The names have 8 bytes.
name_eight : (slot : Option Segment) → IsSlot slot → length (name_of_segment slot) ≡ 8
name_eight None h = refl
name_eight (Some s) h =
    let parts = and_parts (nat_le 1 (length s.name) && nat_le (length s.name) 8) (list_all is_name_character s.name) h.0.name in
    let few : length s.name ≤ 8 = leb-true _ _ (and_parts (nat_le 1 (length s.name)) (nat_le (length s.name) 8) parts.0).1 in
    omega (arith, length-append s.name (replicate (8 - length s.name) 32), length-replicate {A = ℕ} (8 - length s.name) 32)

-- Returns the length of the segment of a slot, which is even and fits a word.
abbrev slot_length : Option Segment → ℕ
slot_length slot = length (bytes_of_segment slot)

length_small : (slot : Option Segment) → IsSlot slot → slot_length slot < 65536
length_small None h = omega arith
length_small (Some s) h = omega (arith, h.1)

ends_even : (at : ℕ) (ps : List Procedure) → at % 2 ≡ 0 → AllByRecursion IsProcedure ps → procedures_end at ps % 2 ≡ 0
ends_even at [] e h = e
ends_even at (p ∷ ps) e h = ends_even (jtab_of p + 2) ps (omega (arith, h.0.ends)) h.1

length_even : (slot : Option Segment) → IsSlot slot → slot_length slot % 2 ≡ 0
length_even None h = refl
length_even (Some s) h = omega (arith, length-segment s h.0, ends_even 0 s.procedures refl h.0.procedures)

length_some : (s : Segment) → IsSegment s → 0 < length (segment_bytes s)
length_some s h = omega (arith, length-segment s h)

-- A fact about all elements of a list holds for each element that is read.
all_get : {A : Type 0} (P : A → Type 0) (d : A) (xs : List A) → P d → AllByRecursion P xs → (k : ℕ) → P (get_or xs k d)
all_get P d [] none h k = none
all_get P d (x ∷ xs) none h zero = h.0
all_get P d (x ∷ xs) none h (suc k) = all_get P d xs none h.1 k

-- The sum of the lengths of the slots is the length of their joined bytes.
lengths_joined : (slots : List (Option Segment)) → sum (map slot_length slots) ≡ length (joined_bytes slots)
lengths_joined [] = refl
lengths_joined (s ∷ slots) =
    omega (arith, sum_by-cons (λ x. x) (slot_length s) (map slot_length slots), length-append (bytes_of_segment s) (joined_bytes slots), lengths_joined slots)

joined_part : (slots : List (Option Segment)) (i : ℕ) → i < length slots
    → slice_range (joined_bytes slots) (begin_of (map slot_length slots) i) (begin_of (map slot_length slots) i + slot_length (get_or slots i None))
    ≡ bytes_of_segment (get_or slots i None)
joined_part [] i l = absurd (omega arith)
joined_part (s ∷ slots) zero l =
    let e : (0 + slot_length s) - 0 ≡ slot_length s = omega arith in
    rw e (take_at (bytes_of_segment s) (joined_bytes slots) (slot_length s) refl)
joined_part (s ∷ slots) (suc i) l =
    let b = begin_of (map slot_length slots) i in
    let n = slot_length s in
    let m = slot_length (get_or slots i None) in
    let e : begin_of (map slot_length (s ∷ slots)) (suc i) ≡ n + b = sum_by-cons (λ x. x) n (take i (map slot_length slots)) in
    let f : (n + b) + m ≡ n + (b + m) = omega arith in
    ap (λ k. slice_range (joined_bytes (s ∷ slots)) k (k + m)) e
    ∙ ap (λ k. slice_range (joined_bytes (s ∷ slots)) (n + b) k) f
    ∙ slice_range-right (bytes_of_segment s) (joined_bytes slots) n b (b + m) refl
    ∙ joined_part slots i (omega arith)

not_zero : (n : ℕ) → 0 < n → (n == 0) ≡ false
not_zero n h = grind (arith, nat_tests)

-- What is read from a slot is its segment.
chosen : (slot : Option Segment) (n : ℕ) (part : List ℕ) → IsSlot slot → n ≡ slot_length slot → part ≡ bytes_of_segment slot
    → (if n == 0 then None else Some part) ≡ option_map segment_bytes slot
chosen None n part h e f = let t : (n == 0) ≡ true = eq-eqb n 0 e in rw t refl
chosen (Some s) n part h e f =
    let some = length_some s h.0 in
    let t : (n == 0) ≡ false = not_zero n (omega (arith, some, e)) in
    rw t (ap Some f)

named : (name : List ℕ) (n : ℕ) → 0 < n → name_for name n ≡ name
named name n h = let t : (n == 0) ≡ false = not_zero n h in rw t refl

-- If sixteen slots have the segments of the program `ss`, then the file of these slots contains the program.
slots_hold : (ss : List Segment) (slots : List (Option Segment)) → AllByRecursion IsSegment ss → length slots ≡ 16 → AllByRecursion IsSlot slots
    → ((i : ℕ) → i < 16 → get_or slots i None ≡ segment_numbered i ss)
    → Holds (layout (map name_of_segment slots) (map slot_length slots) (joined_bytes slots)) ss
    × (file_fault (layout (map name_of_segment slots) (map slot_length slots) (joined_bytes slots)) ≡ None)
slots_hold ss slots segments sixteen sound there =
    let names : List (List ℕ) = map name_of_segment slots in
    let ns : List ℕ = map slot_length slots in
    let bytes : List ℕ = joined_bytes slots in
    let length_is : (k : ℕ) → get_or ns k 0 ≡ slot_length (get_or slots k None) = λ k. get_or-map slot_length slots k None in
    let slot_is : (k : ℕ) → IsSlot (get_or slots k None) = λ k. all_get IsSlot None slots tt sound k in
    let name_is : (k : ℕ) → k < 16 → get_or names k [] ≡ name_of_segment (get_or slots k None) =
    λ k l. lists.get_or-map name_of_segment slots k None [] (omega (arith, l, sixteen)) in
    let many : length names ≡ 16 = length-map slots name_of_segment ∙ sixteen in
    let count : length ns ≡ 16 = length-map slots slot_length ∙ sixteen in
    let each : (k : ℕ) → k < length names → length (get_or names k []) ≡ 8 =
    λ k l. ap length (name_is k (omega (arith, l, many))) ∙ name_eight (get_or slots k None) (slot_is k) in
    let small : (k : ℕ) → get_or ns k 0 < 65536 = λ k. subst (λ n. n < 65536) (sym (length_is k)) (length_small (get_or slots k None) (slot_is k)) in
    let even : All (λ n. n % 2 ≡ 0) ns = All-from_get_or (λ n. n % 2 ≡ 0) ns 0
    (λ k l. subst (λ n. n % 2 ≡ 0) (sym (length_is k)) (length_even (get_or slots k None) (slot_is k))) in
    let r : ReadsBack names ns bytes (layout names ns bytes) = layout-reads_back names ns bytes many count each small (lengths_joined slots) even in (
      record {
        segments = λ n l. (
            let slot : Option Segment = get_or slots n None in
            let part : slice_range bytes (begin_of ns n) (begin_of ns n + get_or ns n 0) ≡ bytes_of_segment slot =
            ap (λ k. slice_range bytes (begin_of ns n) (begin_of ns n + k)) (length_is n) ∙ joined_part slots n (omega (arith, l, sixteen)) in
            r.parts n l ∙ chosen slot (get_or ns n 0) _ (slot_is n) (length_is n) part ∙ ap (option_map segment_bytes) (there n l)
            );
        names = λ n s e. (
            let l : n < 16 = numbered_below n ss s segments e in
            let here : get_or slots n None ≡ Some s = there n l ∙ e in
            let slot : IsSlot (Some s) = subst IsSlot here (slot_is n) in
            let long : get_or ns n 0 ≡ length (segment_bytes s) = length_is n ∙ ap slot_length here in
            ap name_of (r.slots n l)
            ∙ named (get_or names n []) (get_or ns n 0) (omega (arith, long, length_some s slot.0))
            ∙ name_is n l
            ∙ ap name_of_segment here
            );
      },
      r.accepted,
    )

both : (ss : List Segment) → IsProgram ss → FitSlots ss → Holds (file_of ss) ss × (file_fault (file_of ss) ≡ None)
unfolding file_of
both ss h short =
    slots_hold ss (slots_of 0 16 ss) h.segments (slots_count 0 16 ss) (slots_sound 0 16 ss h.segments short) (λ i l. slot_there 0 16 i ss l ∙ zero_plus i)
  where
    zero_plus : (i : ℕ) → segment_numbered (0 + i) ss ≡ segment_numbered i ss
    zero_plus i = let e : 0 + i ≡ i = omega arith in ap (λ k. segment_numbered k ss) e

pub file_holds_program : FileHoldsProgram
file_holds_program ss h short = (both ss h short).0

pub file_is_accepted : FileIsAccepted
file_is_accepted ss h short = (both ss h short).1
