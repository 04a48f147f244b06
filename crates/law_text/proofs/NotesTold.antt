-- Lemmas for the notes on the segments and procedures of programs.
use Rattle.std.proofs.Common.{◌≡◌, ◌<◌, ◌≤◌, ℕ, zero, suc, ◌+◌, ◌-◌, ◌*◌, Bool, true, false, List, [], ◌∷◌, ◌++◌, length, map}
use Rattle.std.proofs.Common.{replicate, get_or, refl, sym, ap, subst, ◌∙◌, arith, append_assoc, length-append, Option, Some, None}
use Rattle.std.specs.Prelude.{◌==◌, ◌&&◌, nat_le, nat_lt, if◌then◌else◌, codes, option_map, slice_index, not, reverse}
use Rattle.std.specs.Fmt.{decimal, digits}
use Rattle.std.specs.List.{AllByRecursion, list_all}
use Rattle.std.specs.Option.{option_and_then}
use Rattle.std.proofs.lemmas.Bool.{and_parts, eq-eqb, eqb-true, le-ltb}
use Rattle.std.proofs.lemmas.Bool.Decides.{nat_tests}
use Rattle.std.proofs.lemmas.Fmt.{decimal_digit, first_decimal}
use Rattle.std.proofs.lemmas.List.{length-map, length-replicate, get_or-replicate}
use Rattle.pm_codefile.specs.Dictionary.{segment_in, slot_in, word_in}
use Rattle.pm_codefile.specs.Layout.{in_blocks, layout, names_for, pairs}
use Rattle.pm_codefile.specs.Segments.{◌>>=◌, demanded}
use Rattle.pm_codefile.proofs.Written.{length-names, length-pairs, word_in-left, word_in-right}
use Rattle.pm_code.specs.Image.{bytes_of_segment, file_of, joined_bytes, name_of_segment, slots_of}
use Rattle.pm_code.specs.Program.{FitSlots, IsProgram, IsSegment, Segment, dictionary_bytes, is_name_character, is_segment_name}
use Rattle.pm_code.specs.Program.{procedures_bytes, procedures_end, segment_bytes, segment_numbered}
use Rattle.pm_code.specs.Shown.{level_text, segment_line, words_text}
use Rattle.law_text.proofs.Held.{file_holds_program}
use Rattle.pm_code.proofs.Slotted.{name_short}
use Rattle.law_text.specs.NotesLaws.{NativeCodeIsTold, OtherNumbersAreTold, OwnSegmentsAreUntold}
use Rattle.pm_notes.specs.Marks.{is_native, is_unquoted, kind_name, kind_names, kind_told, note_on, other_number, slot_note, slot_said}
use Rattle.pm_notes.specs.Names.{name_called, standard_called, system_called}
use Rattle.law_text.proofs.Unquoted.{decimal_unquoted, level_unquoted, name_unquoted, unquoted_append}

-- ---- the line of a segment

below_sixteen : (P : ℕ → Type 0) → P 0 → P 1 → P 2 → P 3 → P 4 → P 5 → P 6 → P 7 → P 8 → P 9 → P 10 → P 11 → P 12 → P 13 → P 14 → P 15
    → (n : ℕ) → n < 16 → P n
below_sixteen P a b c d e f g h i j k l m o p q zero s = a
below_sixteen P a b c d e f g h i j k l m o p q (suc zero) s = b
below_sixteen P a b c d e f g h i j k l m o p q (suc (suc zero)) s = c
below_sixteen P a b c d e f g h i j k l m o p q (suc (suc (suc zero))) s = d
below_sixteen P a b c d e f g h i j k l m o p q (suc (suc (suc (suc zero)))) s = e
below_sixteen P a b c d e f g h i j k l m o p q (suc (suc (suc (suc (suc zero))))) s = f
below_sixteen P a b c d e f g h i j k l m o p q (suc (suc (suc (suc (suc (suc zero)))))) s = g
below_sixteen P a b c d e f g h i j k l m o p q (suc (suc (suc (suc (suc (suc (suc zero))))))) s = h
below_sixteen P a b c d e f g h i j k l m o p q (suc (suc (suc (suc (suc (suc (suc (suc n)))))))) s =
    upper n (omega arith)
  where
    upper : (n : ℕ) → n < 8 → P (suc (suc (suc (suc (suc (suc (suc (suc n))))))))
    upper zero s = i
    upper (suc zero) s = j
    upper (suc (suc zero)) s = k
    upper (suc (suc (suc zero))) s = l
    upper (suc (suc (suc (suc zero)))) s = m
    upper (suc (suc (suc (suc (suc zero))))) s = o
    upper (suc (suc (suc (suc (suc (suc zero)))))) s = p
    upper (suc (suc (suc (suc (suc (suc (suc zero))))))) s = q
    upper (suc (suc (suc (suc (suc (suc (suc (suc n)))))))) s = absurd (omega arith)

-- The line of segment `n` names no called procedure and is not native code. It states the slot `n` if it is unquoted,
-- and else no slot.
record IsSegmentLine (n : ℕ) (name : List ℕ) : Type 0 where
  calls : name_called (segment_line n name) ≡ None
  native : is_native (segment_line n name) ≡ false
  said : slot_said (segment_line n name) ≡ (if is_unquoted (segment_line n name) then Some n else None)

segment_said : (n : ℕ) (name : List ℕ) → n < 16 → IsSegmentLine n name
unfolding name_called standard_called system_called is_native slot_said digits
segment_said n name low = below_sixteen (λ n. IsSegmentLine n name)
    (record { calls = refl; native = refl; said = refl }) (record { calls = refl; native = refl; said = refl })
    (record { calls = refl; native = refl; said = refl }) (record { calls = refl; native = refl; said = refl })
    (record { calls = refl; native = refl; said = refl }) (record { calls = refl; native = refl; said = refl })
    (record { calls = refl; native = refl; said = refl }) (record { calls = refl; native = refl; said = refl })
    (record { calls = refl; native = refl; said = refl }) (record { calls = refl; native = refl; said = refl })
    (record { calls = refl; native = refl; said = refl }) (record { calls = refl; native = refl; said = refl })
    (record { calls = refl; native = refl; said = refl }) (record { calls = refl; native = refl; said = refl })
    (record { calls = refl; native = refl; said = refl }) (record { calls = refl; native = refl; said = refl })
    n low

noted : (file : List ℕ) (n : ℕ) (name : List ℕ) → n < 16
    → note_on file (segment_line n name) ≡ (if is_unquoted (segment_line n name) then slot_note file n else None)
unfolding note_on
noted file n name low =
    let l : IsSegmentLine n name = segment_said n name low in
    let calls = l.calls in
    let native = l.native in
    let said = l.said in
    rw (calls, native, said) (by (is_unquoted (segment_line n name)))
  where
    by : (b : Bool) → option_and_then (slot_note file) (if b then Some n else None) ≡ (if b then slot_note file n else None)
    by true = refl
    by false = refl

line_unquoted : (n : ℕ) (name : List ℕ) → is_segment_name name ≡ true → is_unquoted (segment_line n name) ≡ true
line_unquoted n name h =
    let parts = and_parts (nat_le 1 (length name) && nat_le (length name) 8) (list_all is_name_character name) h in
    unquoted_append (codes ".SEG") (words_text (decimal n ∷ name ∷ [])) refl
    (unquoted_append (32 ∷ []) (decimal n ++ (32 ∷ name ++ [])) refl
    (unquoted_append (decimal n) (32 ∷ name ++ []) (decimal_unquoted n)
    (unquoted_append (32 ∷ []) (name ++ []) refl (unquoted_append name [] (name_unquoted name parts.1) refl))))

-- ---- the number of a segment

number_there : (front : List ℕ) (m c : ℕ) → slice_index (front ++ m ∷ c ∷ []) (length front) ≡ m
number_there [] m c = refl
number_there (x ∷ front) m c = number_there front m c

number_of : (file front : List ℕ) (n m c : ℕ) → segment_in file n ≡ Some (front ++ m ∷ c ∷ [])
    → other_number file n ≡ (if m == n then None else Some m)
unfolding other_number
number_of file front n m c e =
    let long : length (front ++ m ∷ c ∷ []) ≡ length front + 2 = length-append front (m ∷ c ∷ []) in
    let enough : nat_le 2 (length (front ++ m ∷ c ∷ [])) ≡ true = grind (arith, nat_tests) in
    let at : length (front ++ m ∷ c ∷ []) - 2 ≡ length front = omega (arith, long) in
    rw e (rw enough (rw at (rw (number_there front m c) (by (m == n)))))
  where
    by : (b : Bool) → (demanded (not b) >>= λ passed. Some m) ≡ (if b then None else Some m)
    by true = refl
    by false = refl

-- ---- the kind of a slot

kind_of : (file : List ℕ) (n : ℕ) → n < 16 → word_in file (192 + 2 * n) ≡ 0 → kind_told file n ≡ None
unfolding kind_told slot_in kind_name kind_names
kind_of file n low e =
    let above : nat_lt 15 n ≡ false = le-ltb 15 n (omega arith) in
    rw (above, e) refl

zero_word : (n p : ℕ) → p + 2 ≤ n → word_in (replicate n 0) p ≡ 0
unfolding word_in
zero_word n p h = rw (get_or-replicate {A = ℕ} n p 0 0 (omega arith), get_or-replicate {A = ℕ} n (p + 1) 0 0 (omega arith)) refl

layout_kind : (names : List (List ℕ)) (ns segments : List ℕ) (n : ℕ) → length names ≡ 16 → length ns ≡ 16
    → ((k : ℕ) → k < length names → length (get_or names k []) ≡ 8) → n < 16 → word_in (layout names ns segments) (192 + 2 * n) ≡ 0
unfolding layout
layout_kind names ns segments n named sixteen each low =
    let front : List ℕ = pairs 1 ns ++ names_for names ns in
    let long : length front ≡ 192 =
    omega (arith, length-append (pairs 1 ns) (names_for names ns), length-pairs ns 1, length-names names ns (named ∙ sym sixteen) each) in
    word_in-left (front ++ replicate 320 0) (in_blocks ns segments) (192 + 2 * n)
    (omega (arith, length-append front (replicate 320 0), long, length-replicate {A = ℕ} 320 0))
    ∙ word_in-right front (replicate 320 0) 192 (2 * n) long
    ∙ zero_word 320 (2 * n) (omega arith)

-- The names of the slots of a program have 8 bytes.
numbered_eight : (n : ℕ) (ss : List Segment) → AllByRecursion IsSegment ss → length (name_of_segment (segment_numbered n ss)) ≡ 8
numbered_eight n [] h = refl
numbered_eight n (s ∷ ss) h = by (s.number == n) (numbered_eight n ss h.1)
  where
    by : (b : Bool) → length (name_of_segment (segment_numbered n ss)) ≡ 8
        → length (name_of_segment (if b then Some s else segment_numbered n ss)) ≡ 8
    by true more = omega (
      arith,
      name_short s.name h.0.name,
      length-append s.name (replicate (8 - length s.name) 32),
      length-replicate {A = ℕ} (8 - length s.name) 32,
    )
    by false more = more

slots_eight : (n count : ℕ) (ss : List Segment) → AllByRecursion IsSegment ss → (k : ℕ) → k < count
    → length (get_or (map name_of_segment (slots_of n count ss)) k []) ≡ 8
slots_eight n zero ss h k l = absurd (omega arith)
slots_eight n (suc count) ss h zero l = numbered_eight n ss h
slots_eight n (suc count) ss h (suc k) l = slots_eight (n + 1) count ss h k (omega arith)

slots_count : (n count : ℕ) (ss : List Segment) → length (slots_of n count ss) ≡ count
slots_count n zero ss = refl
slots_count n (suc count) ss = ap suc (slots_count (n + 1) count ss)

own_kind : (ss : List Segment) → IsProgram ss → (n : ℕ) → n < 16 → word_in (file_of ss) (192 + 2 * n) ≡ 0
unfolding file_of
own_kind ss h n low =
    let slots : List (Option Segment) = slots_of 0 16 ss in
    let count : length slots ≡ 16 = slots_count 0 16 ss in
    let named : length (map name_of_segment slots) ≡ 16 = length-map slots name_of_segment ∙ count in
    layout_kind (map name_of_segment slots) (map (λ s. length (bytes_of_segment s)) slots) (joined_bytes slots) n named
    (length-map slots (λ s. length (bytes_of_segment s)) ∙ count) (λ k l. slots_eight 0 16 ss h.segments k (omega (arith, l, named))) low

-- ---- the segments of a program

number_is : (n : ℕ) (ss : List Segment) (t : Segment) → segment_numbered n ss ≡ Some t → t.number ≡ n
number_is n [] t e = absurd (cc)
number_is n (s ∷ ss) t e = by (s.number == n) refl (number_is n ss t) e
  where
    by : (b : Bool) → (s.number == n) ≡ b → (segment_numbered n ss ≡ Some t → t.number ≡ n)
        → (if b then Some s else segment_numbered n ss) ≡ Some t → t.number ≡ n
    by true f more e = let same : s ≡ t = cc in subst (λ u. u.number ≡ n) same (eqb-true s.number n f)
    by false f more e = more e

no_number : (file : List ℕ) (n : ℕ) → segment_in file n ≡ None → other_number file n ≡ None
unfolding other_number
no_number file n e = rw e refl

own_number : (ss : List Segment) → IsProgram ss → FitSlots ss → (n : ℕ) → n < 16 → other_number (file_of ss) n ≡ None
own_number ss h short n low = by (segment_numbered n ss) refl
  where
    by : (o : Option Segment) → segment_numbered n ss ≡ o → other_number (file_of ss) n ≡ None
    by None e = no_number (file_of ss) n ((file_holds_program ss h short).segments n low ∙ ap (option_map segment_bytes) e)
    by (Some s) e =
        let front : List ℕ = procedures_bytes 1 s.procedures in
        let dictionary : List ℕ = dictionary_bytes (procedures_end 0 s.procedures) (reverse s.procedures) in
        let there : segment_in (file_of ss) n ≡ Some (segment_bytes s) =
        (file_holds_program ss h short).segments n low ∙ ap (option_map segment_bytes) e in
        let ends : segment_bytes s ≡ (front ++ dictionary) ++ s.number ∷ length s.procedures ∷ [] =
        sym (append_assoc front dictionary (s.number ∷ length s.procedures ∷ [])) in
        let own : (s.number == n) ≡ true = eq-eqb s.number n (number_is n ss s e) in
        number_of (file_of ss) (front ++ dictionary) n s.number (length s.procedures) (there ∙ ap Some ends) ∙ rw own refl

pub own_segments_are_untold : OwnSegmentsAreUntold
own_segments_are_untold ss h short n name low =
    noted (file_of ss) n name low ∙ by (is_unquoted (segment_line n name))
  where
    none : slot_note (file_of ss) n ≡ None
    none = let number = own_number ss h short n low in let kind = kind_of (file_of ss) n low (own_kind ss h n low) in rw (number, kind) refl

    by : (b : Bool) → (if b then slot_note (file_of ss) n else None) ≡ None
    by true = none
    by false = refl

pub other_numbers_are_told : OtherNumbersAreTold
other_numbers_are_told file front name n number count low named kind there other =
    let line = line_unquoted n name named in
    let told : other_number file n ≡ Some number = number_of file front n number count there ∙ rw other refl in
    let no_kind : kind_told file n ≡ None = kind_of file n low kind in
    noted file n name low ∙ rw line (rw (told, no_kind) refl)

-- ---- native code

zero_told : (file rest : List ℕ) → is_unquoted (codes ".PROC 0 " ++ rest) ≡ true
    → note_on file (codes ".PROC 0 " ++ rest) ≡ Some (codes "native code")
unfolding note_on name_called standard_called system_called is_native
zero_told file rest h = rw h refl

others_told : (file ds rest : List ℕ) → 48 < get_or ds 0 0 → note_on file (codes ".PROC " ++ (ds ++ rest)) ≡ None
unfolding note_on name_called standard_called system_called is_native slot_said
others_told file [] rest h = absurd (omega arith)
others_told file (d ∷ ds) rest h = let no : (d == 48) ≡ false = not_zero d h in rw no refl
  where
    not_zero : (d : ℕ) → 48 < d → (d == 48) ≡ false
    not_zero d h = grind (arith, nat_tests)

-- Returns the text after the number of a procedure.
abbrev behind_number : ℕ → ℕ → ℕ → List ℕ
behind_number level parameters locals = words_text (level_text level ∷ decimal parameters ∷ decimal locals ∷ [])

behind_unquoted : (level parameters locals : ℕ) → is_unquoted (behind_number level parameters locals) ≡ true
behind_unquoted level parameters locals =
    let last : is_unquoted (32 ∷ decimal locals ++ []) ≡ true = unquoted_append (decimal locals) [] (decimal_unquoted locals) refl in
    let middle : is_unquoted (32 ∷ decimal parameters ++ (32 ∷ decimal locals ++ [])) ≡ true =
    unquoted_append (decimal parameters) (32 ∷ decimal locals ++ []) (decimal_unquoted parameters) last in
    unquoted_append (level_text level) (32 ∷ decimal parameters ++ (32 ∷ decimal locals ++ [])) (level_unquoted level) middle

pub native_code_is_told : NativeCodeIsTold
native_code_is_told = record {
  zero = λ file level parameters locals. (
      let rest : List ℕ = level_text level ++ words_text (decimal parameters ∷ decimal locals ∷ []) in
      let digit : decimal 0 ≡ 48 ∷ [] = decimal_digit 0 (omega arith) in
      ap (λ ds. note_on file (codes ".PROC " ++ (ds ++ behind_number level parameters locals))) digit
      ∙ zero_told file rest (behind_unquoted level parameters locals)
      );
  others = λ file number level parameters locals some small.
      others_told file (decimal number) (behind_number level parameters locals) (first_decimal number some (omega arith));
}
