-- Lemmas: a code file that contains a program is shown as a program with the same bytes.
use Rattle.std.proofs.Common.{◌≡◌, ◌<◌, ◌≤◌, ℕ, zero, suc, ◌+◌, ◌-◌, true, false, cond, eqb, List, [], ◌∷◌, ◌++◌}
use Rattle.std.proofs.Common.{length, map, replicate, reverse, refl, sym, ap, ◌∙◌, subst, arith, inl, inr, Some, None}
use Rattle.std.specs.Prelude.{◌&&◌, ◌||◌, not, nat_le, ◌==◌, option_map}
use Rattle.std.specs.List.{AllByRecursion, AllZip, list_all}
use Rattle.std.proofs.lemmas.List.{reverse-append, reverse-reverse}
use Rattle.std.proofs.lemmas.Bool.{and_parts, cases_lt, eq-eqb, leb-true}
use Rattle.std.proofs.lemmas.Bool.Decides.{nat_tests}
use Rattle.pm_codefile.specs.Dictionary.{segment_in, slot_in}
use Rattle.pm_code.specs.Program.{Segment, IsSegment, FitSlots, AscendFrom, is_name_character, is_segment_name, segment_bytes}
use Rattle.pm_disasm.specs.Shown.{cut, file_text, or_mark}
use Rattle.pm_code.specs.Shown.{joined, procedures_lines, program_text, segment_line}
use Rattle.pm_code.specs.Laws.{name_of}
use Rattle.pm_code.specs.Shown.{segment_lines, segments_lines}
use Rattle.pm_disasm.specs.Shown.{shown_name, slot_lines, slots_lines}
use Rattle.pm_code.specs.Laws.{Holds, IsSameSegment}
use Rattle.pm_disasm.specs.Laws.{ProgramIsShown}
use Rattle.pm_code.specs.Program.{segment_numbered}
use Rattle.pm_code.proofs.ItemBytes.{all-append}
use Rattle.law_text.proofs.ShownSegment.{ShownWell, shown_segment, shown_well}

all-reverse : (P : ℕ → Type 0) (xs : List ℕ) → AllByRecursion P xs → AllByRecursion P (reverse xs)
all-reverse P [] h = tt
all-reverse P (x ∷ xs) h = subst (AllByRecursion P) (sym (reverse-append (x ∷ []) xs)) (all-append P (reverse xs) (x ∷ []) (all-reverse P xs h.1) (h.0, tt))

-- Spaces at the beginning are removed.
cut-spaces : (xs ys : List ℕ) → AllByRecursion (λ c. c ≡ 32) xs → cut (xs ++ ys) ≡ cut ys
cut-spaces [] ys h = refl
cut-spaces (x ∷ xs) ys h = let t : eqb x 32 ≡ true = eq-eqb x 32 h.0 in rw t (cut-spaces xs ys h.1)

cut-none : (xs : List ℕ) → AllByRecursion (λ c. is_name_character c ≡ true) xs → cut xs ≡ xs
cut-none [] h = refl
cut-none (x ∷ xs) h = let t : eqb x 32 ≡ false = no_space x h.0 in rw t refl
  where
    no_space : (c : ℕ) → is_name_character c ≡ true → eqb c 32 ≡ false
    no_space c e = let low : 33 ≤ c = leb-true 33 c (and_parts (nat_le 33 c) (nat_le c 126)
        (and_parts (nat_le 33 c && nat_le c 126) (not ((c == 59) || (c == 44) || (c == 34))) e).0).0 in grind (arith, nat_tests)

all-replicate : (n : ℕ) → AllByRecursion (λ (c : ℕ). c ≡ 32) (replicate n 32)
all-replicate zero = tt
all-replicate (suc n) = (refl, all-replicate n)

all_characters : (xs : List ℕ) → list_all is_name_character xs ≡ true → AllByRecursion (λ c. is_name_character c ≡ true) xs
all_characters [] h = tt
all_characters (x ∷ xs) h = let both = and_parts (is_name_character x) (list_all is_name_character xs) h in (both.0, all_characters xs both.1)

same_characters : (xs : List ℕ) → AllByRecursion (λ c. is_name_character c ≡ true) xs → map (λ c. cond (is_name_character c) c 63) xs ≡ xs
same_characters [] h = refl
same_characters (x ∷ xs) h = ap (λ b. cond b x 63 ∷ map (λ c. cond (is_name_character c) c 63) xs) h.0 ∙ ap (λ cs. x ∷ cs) (same_characters xs h.1)

marked : (xs : List ℕ) → 1 ≤ length xs → or_mark xs ≡ xs
marked [] h = absurd (omega arith)
marked (x ∷ xs) h = refl

-- The name of a segment of a program is shown as it is.
name_shown : (name : List ℕ) (n : ℕ) → is_segment_name name ≡ true → shown_name (name ++ replicate n 32) ≡ name
name_shown name n h =
    let parts = and_parts (nat_le 1 (length name) && nat_le (length name) 8) (list_all is_name_character name) h in
    let some : 1 ≤ length name = leb-true _ _ (and_parts (nat_le 1 (length name)) (nat_le (length name) 8) parts.0).0 in
    let good = all_characters name parts.1 in
    let spaces : List ℕ = replicate n 32 in
    let turned : cut (reverse (name ++ spaces)) ≡ reverse name =
    ap cut (reverse-append name spaces) ∙ cut-spaces (reverse spaces) (reverse name) (all-reverse (λ c. c ≡ 32) spaces (all-replicate n))
    ∙ cut-none (reverse name) (all-reverse (λ c. is_name_character c ≡ true) name good) in
    ap (λ cs. or_mark (map (λ c. cond (is_name_character c) c 63) (reverse cs))) turned
    ∙ ap (λ cs. or_mark (map (λ c. cond (is_name_character c) c 63) cs)) (reverse-reverse name)
    ∙ ap or_mark (same_characters name good)
    ∙ marked name some

-- A program has no segment below its first.
none_below : (n least : ℕ) (ss : List Segment) → n < least → AscendFrom least ss → segment_numbered n ss ≡ None
none_below n least [] l h = refl
none_below n least (s ∷ ss) l h =
    let t : eqb s.number n ≡ false = grind (arith, nat_tests, h.0) in
    rw t (none_below n (s.number + 1) ss (omega (arith, h.0)) h.1)

later_numbered : (n m : ℕ) (s : Segment) (ss : List Segment) → s.number ≡ n → n < m → segment_numbered m (s ∷ ss) ≡ segment_numbered m ss
later_numbered n m s ss e l = let t : eqb s.number m ≡ false = grind (arith, nat_tests, e) in rw t refl

-- The segments that remain are those of all slots from slot `n` on.
record Left (file : List ℕ) (ss left : List Segment) (n : ℕ) : Type 0 where
  well : AllByRecursion ShownWell left
  sound : AllByRecursion IsSegment left
  ascend : AscendFrom n left
  same : (m : ℕ) → n ≤ m → segment_numbered m ss ≡ segment_numbered m left

slots_shown : (file : List ℕ) (ss : List Segment) → Holds file ss → (left : List Segment) (n count : ℕ) → n + count ≡ 16 → Left file ss left n
    → slots_lines file n count ≡ segments_lines (map shown_segment left)
slots_shown file ss h [] n zero e k = refl
slots_shown file ss h (s ∷ left) n zero e k = absurd (omega (arith, k.ascend.0, k.sound.0.number))
slots_shown file ss h [] n (suc count) e k =
    let none : segment_in file n ≡ None = h.segments n (omega arith) ∙ ap (option_map segment_bytes) (k.same n (omega arith)) in
    ap (λ o. slot_lines n (name_of (slot_in file n)) o ++ slots_lines file (n + 1) count) none
    ∙ slots_shown file ss h [] (n + 1) count (omega arith) (record { well = tt; sound = tt; ascend = tt; same = λ m l. k.same m (omega arith) })
slots_shown file ss h (s ∷ left) n (suc count) e k = elim (cases_lt n s.number) [
  | inl less ↦ (
      let next : AscendFrom (n + 1) (s ∷ left) = (omega (arith, less), k.ascend.1) in
      let none : segment_in file n ≡ None = h.segments n (omega arith)
      ∙ ap (option_map segment_bytes) (k.same n (omega arith) ∙ none_below n (n + 1) (s ∷ left) (omega arith) next) in
      ap (λ o. slot_lines n (name_of (slot_in file n)) o ++ slots_lines file (n + 1) count) none
      ∙ slots_shown file ss h (s ∷ left) (n + 1) count (omega arith)
      (record { well = k.well; sound = k.sound; ascend = next; same = λ m l. k.same m (omega arith) })
      )
  | inr more ↦ (
      let here : s.number ≡ n = omega (arith, more, k.ascend.0) in
      let t : eqb s.number n ≡ true = eq-eqb s.number n here in
      let numbered : segment_numbered n ss ≡ Some s = k.same n (omega arith) ∙ ap (λ b. cond b (Some s) (segment_numbered n left)) t in
      let there : segment_in file n ≡ Some (segment_bytes s) = h.segments n (omega arith) ∙ ap (option_map segment_bytes) numbered in
      let name : shown_name (name_of (slot_in file n)) ≡ s.name = ap shown_name (h.names n s numbered) ∙ name_shown s.name (8 - length s.name) k.sound.0.name in
      ap (λ o. slot_lines n (name_of (slot_in file n)) o ++ slots_lines file (n + 1) count) there
      ∙ ap (λ ls. (segment_line n (shown_name (name_of (slot_in file n))) ∷ ls) ++ slots_lines file (n + 1) count) k.well.0.lines
      ∙ ap (λ name. (segment_line n name ∷ procedures_lines 1 (shown_segment s).procedures) ++ slots_lines file (n + 1) count) name
      ∙ ap (λ number. (segment_line number s.name ∷ procedures_lines 1 (shown_segment s).procedures) ++ slots_lines file (n + 1) count) (sym here)
      ∙ ap (λ ls. segment_lines (shown_segment s) ++ ls) (slots_shown file ss h left (n + 1) count (omega arith)
      (record {
        well = k.well.1;
        sound = k.sound.1;
        ascend = subst (λ n. AscendFrom (n + 1) left) here k.ascend.1;
        same = λ m l. k.same m (omega arith) ∙ later_numbered n m s left here (omega arith);
      }))
      )
]

all_well : (ss : List Segment) → AllByRecursion IsSegment ss → FitSlots ss → AllByRecursion ShownWell ss
all_well [] h k = tt
all_well (s ∷ ss) h k = (shown_well s h.0 k.0, all_well ss h.1 k.1)

all_segments : (ss : List Segment) → AllByRecursion ShownWell ss → AllByRecursion IsSegment (map shown_segment ss)
all_segments [] h = tt
all_segments (s ∷ ss) h = (h.0.segment, all_segments ss h.1)

all_ascend : (least : ℕ) (ss : List Segment) → AscendFrom least ss → AscendFrom least (map shown_segment ss)
all_ascend least [] h = tt
all_ascend least (s ∷ ss) h = (h.0, all_ascend (s.number + 1) ss h.1)

all_same : (ss : List Segment) → AllByRecursion ShownWell ss → AllZip IsSameSegment ss (map shown_segment ss)
all_same [] h = tt
all_same (s ∷ ss) h = (h.0.same, all_same ss h.1)

pub program_is_shown : ProgramIsShown
unfolding file_text program_text
program_is_shown file ss h short holds =
    let well = all_well ss h.segments short in (
      map shown_segment ss,
      record { segments = all_segments ss well; ascend = all_ascend 0 ss h.ascend },
      all_same ss well,
      ap joined (slots_shown file ss holds ss 0 16 refl (record { well = well; sound = h.segments; ascend = h.ascend; same = λ m l. refl })),
    )
