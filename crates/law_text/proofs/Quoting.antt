-- Lemmas: marked numbers, targets and quoted text are read again.
use Rattle.std.proofs.Common.{◌≡◌, ◌<◌, ℕ, zero, suc, ◌^◌, ◌+◌, ◌-◌, ◌*◌, ◌/◌, ◌%◌, Bool, true, false, not, List}
use Rattle.std.proofs.Common.{[], ◌∷◌, ◌++◌, length, take, reverse, map, refl, sym, ap, ◌∙◌, arith, Some, append_assoc}
use Rattle.std.specs.Prelude.{◌&&◌, ◌==◌, nat_le, nat_lt, slice_index, if◌then◌else◌, codes}
use Rattle.std.specs.List.{list_all, onto_first, AllByRecursion, flat_map}
use Rattle.std.specs.Char.{is_ascii_digit}
use Rattle.std.specs.Fmt.{decimal}
use Rattle.std.proofs.lemmas.List.{reverse-reverse, reverse-append}
use Rattle.std.proofs.lemmas.List.Folds.{list_all-append}
use Rattle.std.proofs.lemmas.Bool.Decides.{nat_tests}
use Rattle.std.proofs.lemmas.Grind.{common_steps}
use Rattle.pm_code.specs.Item.{Target, IsByte}
use Rattle.pm_code.specs.Item.Target.{To, Through}
use Rattle.pm_code.specs.Program.{is_name_character}
use Rattle.pm_code.specs.Text as text
use Rattle.pm_code.specs.Text.{number_text, hex_digit, escaped, quoted}
use Rattle.pm_code.specs.Shown.{label_text, target_text}
use Rattle.pm_source.specs.Words.{is_empty, unindented}
use Rattle.pm_source.specs.Source.{Name}
use Rattle.pm_source.specs.Line.{is_character, uncommented, pieces, number_operand, jump_operand, label_operand, all_operands}
use Rattle.pm_source.specs.Line.{word_operand, is_marked, unescaped, lower_hex, is_plain, text_operand, unquoted}
use Rattle.law_text.proofs.Cutting.{and_parts, and_turned}
use Rattle.law_text.proofs.Operanded.{IsOperand, IsWord, of_word, append_nil, solid_front}
use Rattle.law_text.proofs.Numbers.{IsShown, shown, number_shown, word_shown, decimal_word, label_word, label_name}

digit_unmarked : (ds : List ℕ) (i : ℕ) → list_all is_ascii_digit ds ≡ true → (slice_index ds i == 33) ≡ false
digit_unmarked [] i h = refl
digit_unmarked (d ∷ ds) zero h = one d (and_parts _ _ h).0
  where
    one : (d : ℕ) → is_ascii_digit d ≡ true → (d == 33) ≡ false
    one d h = grind (arith, nat_tests)
digit_unmarked (d ∷ ds) (suc i) h = digit_unmarked ds i (and_parts _ _ h).1

and_not : (a b : Bool) → b ≡ false → (a && b) ≡ false
and_not true b e = e
and_not false b e = refl

unmarked : (n : ℕ) → n < 2 ^ 64 → is_marked (decimal n) ≡ false
unmarked n h = let s : IsShown n (decimal n) = shown n h in and_not _ _ (digit_unmarked (decimal n) (length (decimal n) - 1) s.digits)

last_index : (ds : List ℕ) (c : ℕ) → slice_index (ds ++ c ∷ []) (length ds) ≡ c
last_index [] c = refl
last_index (d ∷ ds) c = last_index ds c

pub all_but_last : (ds : List ℕ) (c : ℕ) → take (length ds) (ds ++ c ∷ []) ≡ ds
all_but_last [] c = refl
all_but_last (d ∷ ds) c = ap (λ cs. d ∷ cs) (all_but_last ds c)

pub one_less : (ds : List ℕ) (c : ℕ) → length (ds ++ c ∷ []) - 1 ≡ length ds
one_less ds c = grind (arith, common_steps)

pub marked : (ds : List ℕ) → is_marked (ds ++ 33 ∷ []) ≡ true
marked ds =
    let less = one_less ds 33 in
    let last = last_index ds 33 in
    let some : nat_le 1 (length (ds ++ 33 ∷ [])) ≡ true = grind (arith, common_steps, nat_tests) in
    rw (some, less, last) refl

-- Returns the text of a number, with the mark `!` if `marked` is true.
abbrev mark_if : ℕ → Bool → List ℕ
mark_if n marked = decimal n ++ (if marked then codes "!" else [])

mark_shown : (n : ℕ) (long : Bool) → n < 32768 → (long ≡ true → n < 128) → number_operand (mark_if n long) ≡ Some ((n, long), true)
mark_shown n true h k =
    let less = one_less (decimal n) 33 in
    let front = all_but_last (decimal n) 33 in
    let mark = marked (decimal n) in
    let small : n < 128 = k refl in
    let read = number_shown n (omega arith) in
    let kept : n % 65536 ≡ n = omega arith in
    let range : nat_le n 127 ≡ true = grind (arith, nat_tests) in
    rw (mark, less, front, read, kept, range) refl
mark_shown n false h k =
    let plain = append_nil (decimal n) in
    let mark = unmarked n (omega arith) in
    let read = number_shown n (omega arith) in
    let kept : n % 65536 ≡ n = omega arith in
    let range : nat_le n 32767 ≡ true = grind (arith, nat_tests) in
    rw (plain, mark, read, kept, range) refl

mark_word : (n : ℕ) (long : Bool) → n < 2 ^ 64 → IsWord (mark_if n long)
mark_word n true h =
    let w : IsWord (decimal n) = decimal_word n h in
    record { some = more (decimal n); plain = list_all-append is_name_character (decimal n) (33 ∷ []) ∙ and_turned _ _ w.plain refl }
  where
    more : (xs : List ℕ) → is_empty (xs ++ 33 ∷ []) ≡ false
    more [] = refl
    more (x ∷ xs) = refl
mark_word n false h =
    let w : IsWord (decimal n) = decimal_word n h in
    record { some = ap is_empty (append_nil (decimal n)) ∙ w.some; plain = ap (list_all is_name_character) (append_nil (decimal n)) ∙ w.plain }

small_if : (n : ℕ) (long : Bool) → (long && nat_lt n 128) ≡ true → n < 128
small_if n true e = grind (arith, nat_tests)
small_if n false e = absurd (cc)

-- A number has its mark if it has two bytes and one byte would be enough.
pub number_text_shown : (n : ℕ) (long : Bool) → n < 32768 → number_operand (number_text n long) ≡ Some ((n, long && nat_lt n 128), true)
number_text_shown n long h = mark_shown n (long && nat_lt n 128) h (small_if n long)

pub marked_word : (n : ℕ) (long : Bool) → n < 2 ^ 64 → IsWord (number_text n long)
marked_word n long h = mark_word n (long && nat_lt n 128) h

-- Returns a target as a text spells it.
abbrev pub shown_target : Target ℕ → Target Name
shown_target (To place) = To (label_text place)
shown_target (Through k) = Through k

abbrev pub IsWritable : Target ℕ → Type 0
IsWritable (To place) = place < 100000
IsWritable (Through k) = k < 60

pub target_shown : (t : Target ℕ) → IsWritable t → jump_operand (target_text t) ≡ Some (shown_target t, true)
target_shown (To place) h = let name = label_name place h in rw name refl
target_shown (Through k) h =
    let read = number_shown k (omega arith) in
    let kept : k % 256 ≡ k = omega arith in
    let range : nat_le k 59 ≡ true = grind (arith, nat_tests) in
    rw (read, kept, range) refl

pub target_word : (t : Target ℕ) → IsWritable t → IsWord (target_text t)
target_word (To place) h = label_word place (omega arith)
target_word (Through k) h = let w : IsWord (decimal k) = decimal_word k (omega arith) in record { some = refl; plain = w.plain }

-- If words are shown in decimal, then they are read again as the same words.
pub words_again : (ws : List ℕ) → AllByRecursion (λ w. w < 65536) ws → all_operands word_operand (map decimal ws) ≡ Some (ws, true)
words_again [] h = refl
words_again (w ∷ ws) h =
    let read = word_shown w h.0 in
    let more = words_again ws h.1 in
    rw (read, more) refl

pub words_operands : (ws : List ℕ) → AllByRecursion (λ w. w < 65536) ws → AllByRecursion IsOperand (map decimal ws)
words_operands [] h = tt
words_operands (w ∷ ws) h = (of_word (decimal w) (decimal_word w (omega (arith, h.0))), words_operands ws h.1)

pub labels_again : (places : List ℕ) → AllByRecursion (λ p. p < 100000) places
    → all_operands label_operand (map label_text places) ≡ Some (map label_text places, true)
labels_again [] h = refl
labels_again (p ∷ places) h = let name = label_name p h.0 in let more = labels_again places h.1 in rw name (rw more refl)

pub labels_operands : (places : List ℕ) → AllByRecursion (λ p. p < 100000) places → AllByRecursion IsOperand (map label_text places)
labels_operands [] h = tt
labels_operands (p ∷ places) h = (of_word (label_text p) (label_word p (omega (arith, h.0))), labels_operands places h.1)

pub same_count : (places : List ℕ) → length (map label_text places) ≡ length places
same_count [] = refl
same_count (p ∷ places) = omega (arith, same_count places)

-- If a hexadecimal digit is written in quoted text, then it is read again as its value.
unhex : (d : ℕ) → d < 16 → lower_hex (hex_digit d) ≡ Some d
unhex d h = grind (arith, nat_tests)

plain_again : (c : ℕ) (rest bytes : List ℕ) → is_plain c ≡ true → unescaped rest ≡ Some bytes → unescaped (c ∷ rest) ≡ Some (c ∷ bytes)
plain_again c [] bytes p e = let none : bytes ≡ [] = cc in rw (p, none) refl
plain_again c (d ∷ []) bytes p e = rw (p, e) refl
plain_again c (d ∷ f ∷ rest) bytes p e = let other = unslashed c p in rw (p, other, e) refl
  where
    unslashed : (c : ℕ) → is_plain c ≡ true → (c == 92) ≡ false
    unslashed c p = grind (arith, nat_tests)

same_plain : (c : ℕ) → text.is_plain c ≡ true → is_plain c ≡ true
same_plain c p = grind (arith, nat_tests)

escaped_again : (c : ℕ) (rest bytes : List ℕ) → c < 256 → unescaped rest ≡ Some bytes → unescaped (escaped c ++ rest) ≡ Some (c ∷ bytes)
escaped_again c rest bytes h e = go (text.is_plain c) refl
  where
    go : (b : Bool) → text.is_plain c ≡ b → unescaped (escaped c ++ rest) ≡ Some (c ∷ bytes)
    go true p = rw p (plain_again c rest bytes (same_plain c p) e)
    go false p =
        let high : lower_hex (hex_digit (c / 16)) ≡ Some (c / 16) = unhex (c / 16) (omega arith) in
        let low : lower_hex (hex_digit (c % 16)) ≡ Some (c % 16) = unhex (c % 16) (omega arith) in
        let whole : 16 * (c / 16) + c % 16 ≡ c = omega arith in
        rw p (rw (high, low, e, whole) refl)

all_again : (bytes : List ℕ) → AllByRecursion IsByte bytes → unescaped (flat_map escaped bytes) ≡ Some bytes
all_again [] h = refl
all_again (c ∷ bytes) h = escaped_again c (flat_map escaped bytes) bytes h.0 (all_again bytes h.1)

-- Returns whether the character can be between quotes: a valid character except a quote.
abbrev is_inner : ℕ → Bool
is_inner c = is_character c && not (c == 34)

inner_escaped : (c : ℕ) → c < 256 → list_all is_inner (escaped c) ≡ true
inner_escaped c h = go (text.is_plain c) refl
  where
    plain : (c : ℕ) → text.is_plain c ≡ true → is_inner c ≡ true
    plain c p = grind (arith, nat_tests)

    digit : (d : ℕ) → d < 16 → is_inner (hex_digit d) ≡ true
    digit d h = grind (arith, nat_tests)

    go : (b : Bool) → text.is_plain c ≡ b → list_all is_inner (escaped c) ≡ true
    go true p = let i = plain c p in rw p (rw i refl)
    go false p = let high = digit (c / 16) (omega arith) in let low = digit (c % 16) (omega arith) in rw p (rw (high, low) refl)

all_inner : (bytes : List ℕ) → AllByRecursion IsByte bytes → list_all is_inner (flat_map escaped bytes) ≡ true
all_inner [] h = refl
all_inner (c ∷ bytes) h = list_all-append is_inner (escaped c) (flat_map escaped bytes) ∙ and_turned _ _ (inner_escaped c h.0) (all_inner bytes h.1)

record IsInner (c : ℕ) : Type 0 where
  character : is_character c ≡ true
  quote : (c == 34) ≡ false

inner : (c : ℕ) → is_inner c ≡ true → IsInner c
inner c h = record { character = (and_parts _ _ h).0; quote = negated _ (and_parts _ _ h).1 }
  where
    negated : (b : Bool) → not b ≡ true → b ≡ false
    negated false e = refl
    negated true e = absurd (cc)

inner_characters : (w : List ℕ) → list_all is_inner w ≡ true → list_all is_character w ≡ true
inner_characters [] h = refl
inner_characters (c ∷ w) h = let parts = and_parts _ _ h in and_turned _ _ (inner c parts.0).character (inner_characters w parts.1)

and_false : (a : Bool) → (a && false) ≡ false
and_false true = refl
and_false false = refl

inner_passes : (w rest : List ℕ) → list_all is_inner w ≡ true → uncommented true (w ++ 34 ∷ rest) ≡ w ++ 34 ∷ uncommented false rest
inner_passes [] rest h = refl
inner_passes (c ∷ w) rest h =
    let parts = and_parts _ _ h in
    let quote = (inner c parts.0).quote in
    let comment = and_false (c == 59) in
    rw (comment, quote) (ap (λ cs. c ∷ cs) (inner_passes w rest parts.1))

inner_pieces : (w rest p : List ℕ) (ps : List (List ℕ)) → list_all is_inner w ≡ true → pieces false rest ≡ p ∷ ps
    → pieces true (w ++ 34 ∷ rest) ≡ (w ++ 34 ∷ p) ∷ ps
inner_pieces [] rest p ps h e = ap (onto_first 34) e
inner_pieces (c ∷ w) rest p ps h e =
    let parts = and_parts _ _ h in
    let quote = (inner c parts.0).quote in
    let comma = and_false (c == 44) in
    rw (comma, quote) (ap (onto_first c) (inner_pieces w rest p ps parts.1 e))

pub quoted_operand : (bytes : List ℕ) → AllByRecursion IsByte bytes → IsOperand (quoted bytes)
quoted_operand bytes h =
    let w : List ℕ = flat_map escaped bytes in
    let all : list_all is_inner w ≡ true = all_inner bytes h in
    record {
      characters = list_all-append is_character (34 ∷ w) (34 ∷ []) ∙ and_turned _ _ (inner_characters w all) refl;
      passes = λ rest. ap (uncommented false) (append_assoc (34 ∷ w) (34 ∷ []) rest) ∙ ap (λ cs. 34 ∷ cs) (inner_passes w rest all)
          ∙ sym (append_assoc (34 ∷ w) (34 ∷ []) (uncommented false rest));
      piece = λ rest p ps e. ap (pieces false) (append_assoc (34 ∷ w) (34 ∷ []) rest) ∙ ap (onto_first 34) (inner_pieces w rest p ps all e)
          ∙ ap (λ u. u ∷ ps) (sym (append_assoc (34 ∷ w) (34 ∷ []) p));
      front = λ rest. refl;
      back = λ rest. ap (λ u. unindented (u ++ rest)) (reverse-append (34 ∷ w) (34 ∷ [])) ∙ solid_front 34 (reverse (34 ∷ w) ++ rest) refl
          ∙ ap (λ u. u ++ rest) (sym (reverse-append (34 ∷ w) (34 ∷ [])));
      some = refl;
    }

pub text_shown : (bytes : List ℕ) → AllByRecursion IsByte bytes → text_operand (quoted bytes) ≡ Some bytes
text_shown bytes h =
    let w : List ℕ = flat_map escaped bytes in
    let turned : reverse (w ++ 34 ∷ []) ≡ 34 ∷ reverse w = reverse-append w (34 ∷ []) in
    ap (unquoted 34) turned ∙ ap unescaped (reverse-reverse w) ∙ all_again bytes h
