-- Lemmas: numbers that are shown in decimal are read again.
use Rattle.std.proofs.Common.{◌≡◌, ◌<◌, ◌≤◌, ℕ, zero, suc, ◌^◌, ◌+◌, ◌-◌, ◌%◌, Bool, true, false, min}
use Rattle.std.proofs.Common.{List, [], ◌∷◌, ◌++◌, length, replicate, refl, sym, ap, ◌∙◌, arith, Some}
use Rattle.std.specs.Prelude.{◌==◌, nat_le, nat_lt}
use Rattle.std.specs.List.{list_all}
use Rattle.std.specs.Char.{is_ascii_digit}
use Rattle.std.specs.Fmt.{decimal}
use Rattle.std.specs.Str.Parse.{digits_value}
use Rattle.std.proofs.lemmas.Fmt.{decimal_is_IsNumeral, decimal_by_steps, length-decimal-le}
use Rattle.std.proofs.lemmas.List.Folds.{list_all-append}
use Rattle.std.proofs.lemmas.Bool.{ltb-false}
use Rattle.std.proofs.lemmas.Bool.Decides.{nat_tests}
use Rattle.std.proofs.lemmas.Grind.{common_steps}
use Rattle.pm_code.specs.Program.{is_name_character}
use Rattle.pm_code.specs.Text.{signed_text}
use Rattle.pm_code.specs.Shown.{padded, label_text, level_text}
use Rattle.pm_source.specs.Words.{number, decimal_number, is_empty, is_name, continues_name}
use Rattle.pm_source.specs.Line.{byte_operand, slot_operand, word_operand, bound_operand, numeral_operand, size_operand, is_even}
use Rattle.law_text.proofs.Cutting.{and_parts, and_turned}
use Rattle.law_text.proofs.Operanded.{IsWord}

-- The list `ds` is not empty and consists of decimal digits.
pub record IsShown (n : ℕ) (ds : List ℕ) : Type 0 where
  pub some : is_empty ds ≡ false
  pub digits : list_all is_ascii_digit ds ≡ true

digit_passes : (n : ℕ) → n < 10 → is_ascii_digit (48 + n) ≡ true
digit_passes n h = grind (arith, nat_tests)

some_more : (xs : List ℕ) (x : ℕ) → is_empty (xs ++ x ∷ []) ≡ false
some_more [] x = refl
some_more (y ∷ xs) x = refl

one_digit : (m : ℕ) → m < 10 → list_all is_ascii_digit ((48 + m) ∷ []) ≡ true
one_digit m h = let t = digit_passes m h in rw t refl

pub shown : (n : ℕ) → n < 2 ^ 64 → IsShown n (decimal n)
shown n h = decimal_by_steps IsShown
    (λ m k. record { some = refl; digits = one_digit m k })
    (λ m ds k s. record {
      some = some_more ds (48 + m % 10);
      digits = list_all-append is_ascii_digit ds ((48 + m % 10) ∷ [])
          ∙ and_turned _ _ s.digits (one_digit (m % 10) (omega arith));
    }) n h

pub unsigned_again : (n : ℕ) → n < 1000000 → (negative : Bool) → decimal_number negative (decimal n) ≡ Some (record { negative = negative; magnitude = n })
unsigned_again n h negative =
    let s : IsShown n (decimal n) = shown n (omega arith) in
    let v : digits_value 10 (decimal n) ≡ n = (decimal_is_IsNumeral n (omega arith)).1 in
    let m : min 1000000 n ≡ n = omega arith in
    let some = s.some in
    let digits = s.digits in
    rw (some, digits, v, m) refl

-- If the first character is a digit, no sign is read.
no_sign : (ds : List ℕ) → is_empty ds ≡ false → list_all is_ascii_digit ds ≡ true → number ds ≡ decimal_number false ds
no_sign [] e h = absurd (cc)
no_sign (c ∷ cs) e h =
    let digit = (and_parts (is_ascii_digit c) (list_all is_ascii_digit cs) h).0 in
    let minus = no_minus c digit in
    let dollar = no_dollar c digit in
    rw minus (rw dollar refl)
  where
    no_minus : (c : ℕ) → is_ascii_digit c ≡ true → (c == 45) ≡ false
    no_minus c h = grind (arith, nat_tests)

    no_dollar : (c : ℕ) → is_ascii_digit c ≡ true → (c == 36) ≡ false
    no_dollar c h = grind (arith, nat_tests)

pub number_shown : (n : ℕ) → n < 1000000 → number (decimal n) ≡ Some (record { negative = false; magnitude = n })
number_shown n h = let s : IsShown n (decimal n) = shown n (omega arith) in no_sign (decimal n) s.some s.digits ∙ unsigned_again n h false

digit_names : (ds : List ℕ) → list_all is_ascii_digit ds ≡ true → list_all is_name_character ds ≡ true
digit_names [] h = refl
digit_names (d ∷ ds) h = let parts = and_parts _ _ h in and_turned _ _ (one d parts.0) (digit_names ds parts.1)
  where
    one : (d : ℕ) → is_ascii_digit d ≡ true → is_name_character d ≡ true
    one d h = grind (arith, nat_tests)

digit_continues : (ds : List ℕ) → list_all is_ascii_digit ds ≡ true → list_all continues_name ds ≡ true
digit_continues [] h = refl
digit_continues (d ∷ ds) h = let parts = and_parts _ _ h in and_turned _ _ (one d parts.0) (digit_continues ds parts.1)
  where
    one : (d : ℕ) → is_ascii_digit d ≡ true → continues_name d ≡ true
    one d h = grind (arith, nat_tests)

pub decimal_word : (n : ℕ) → n < 2 ^ 64 → IsWord (decimal n)
decimal_word n h = let s : IsShown n (decimal n) = shown n h in record { some = s.some; plain = digit_names (decimal n) s.digits }

minus_word : (n : ℕ) → n < 2 ^ 64 → IsWord (45 ∷ decimal n)
minus_word n h = let w : IsWord (decimal n) = decimal_word n h in record { some = refl; plain = w.plain }

zeros : (k : ℕ) → list_all is_ascii_digit (replicate k 48) ≡ true
zeros zero = refl
zeros (suc k) = zeros k

padded_digits : (width n : ℕ) → n < 2 ^ 64 → list_all is_ascii_digit (padded width n) ≡ true
unfolding padded
padded_digits width n h =
    let s : IsShown n (decimal n) = shown n h in
    list_all-append is_ascii_digit (replicate (width - length (decimal n)) 48) (decimal n) ∙ and_turned _ _ (zeros (width - length (decimal n))) s.digits

zeros_value : (k : ℕ) (ds : List ℕ) → digits_value 10 (replicate k 48 ++ ds) ≡ digits_value 10 ds
zeros_value zero ds = refl
zeros_value (suc k) ds = zeros_value k ds

pub padded_value : (width n : ℕ) → n < 2 ^ 64 → digits_value 10 (padded width n) ≡ n
unfolding padded
padded_value width n h = zeros_value (width - length (decimal n)) (decimal n) ∙ (decimal_is_IsNumeral n h).1

-- If a number is shown with zeros before it, then its text is one word.
pub padded_word : (width n : ℕ) → n < 2 ^ 64 → IsWord (padded width n)
unfolding padded
padded_word width n h = record { some = behind (width - length (decimal n)); plain = digit_names (padded width n) (padded_digits width n h) }
  where
    behind : (k : ℕ) → is_empty (replicate k 48 ++ decimal n) ≡ false
    behind zero = let s : IsShown n (decimal n) = shown n h in s.some
    behind (suc k) = refl

-- If the labels of two offsets are equal, then the offsets are equal.
pub same_label : (m n : ℕ) → m < 2 ^ 64 → n < 2 ^ 64 → label_text m ≡ label_text n → m ≡ n
same_label m n h k e = sym (padded_value 5 m h) ∙ ap tail_value e ∙ padded_value 5 n k
  where
    tail_value : List ℕ → ℕ
    tail_value [] = 0
    tail_value (_ ∷ ds) = digits_value 10 ds

padded_length : (n : ℕ) → n < 100000 → length (padded 5 n) ≡ 5
unfolding padded
padded_length n h = let l : length (decimal n) ≤ 5 = length-decimal-le 5 n (omega arith) (omega arith) (omega arith) in grind (arith, common_steps)

pub label_word : (n : ℕ) → n < 2 ^ 64 → IsWord (label_text n)
label_word n h = record { some = refl; plain = digit_names (padded 5 n) (padded_digits 5 n h) }

pub label_name : (n : ℕ) → n < 100000 → is_name (label_text n) ≡ true
label_name n h =
    let five : length (padded 5 n) ≡ 5 = padded_length n h in
    let digits = digit_continues (padded 5 n) (padded_digits 5 n (omega arith)) in
    rw (five, digits) refl

-- If a byte is shown in decimal, then it is read again as an operand with the same value.
pub byte_shown : (b : ℕ) → b < 256 → byte_operand (decimal b) ≡ Some (b, true)
byte_shown b h =
    let read = number_shown b (omega arith) in
    let kept : b % 256 ≡ b = omega arith in
    let range : nat_le b 255 ≡ true = grind (arith, nat_tests) in
    rw (read, kept, range) refl

pub slot_shown : (b : ℕ) → b < 16 → slot_operand (decimal b) ≡ Some (b, true)
slot_shown b h =
    let read = number_shown b (omega arith) in
    let range : nat_le b 15 ≡ true = grind (arith, nat_tests) in
    rw (read, range) refl

pub word_shown : (w : ℕ) → w < 65536 → word_operand (decimal w) ≡ Some (w, true)
word_shown w h =
    let read = number_shown w (omega arith) in
    let kept : w % 65536 ≡ w = omega arith in
    let range : nat_le w 65535 ≡ true = grind (arith, nat_tests) in
    rw (read, kept, range) refl

pub size_shown : (w : ℕ) → w < 65536 → w % 2 ≡ 0 → size_operand (decimal w) ≡ Some (w, true)
size_shown w h e =
    let read = number_shown w (omega arith) in
    let kept : w % 65536 ≡ w = omega arith in
    let range : nat_le w 65534 ≡ true = grind (arith, nat_tests) in
    let even : is_even w ≡ true = rw e refl in
    rw (read, kept, range, even) refl

pub level_word : (l : ℕ) → l < 256 → IsWord (level_text l)
level_word l h = go (nat_lt l 128) refl
  where
    go : (b : Bool) → nat_lt l 128 ≡ b → IsWord (level_text l)
    go true e = rw e (decimal_word l (omega arith))
    go false e = rw e (minus_word (256 - l) (omega arith))

pub level_shown : (l : ℕ) → l < 256 → numeral_operand 128 127 256 (level_text l) ≡ Some (l, true)
level_shown l h = go (nat_lt l 128) refl
  where
    go : (b : Bool) → nat_lt l 128 ≡ b → numeral_operand 128 127 256 (level_text l) ≡ Some (l, true)
    go true e =
        let below : l < 128 = grind (arith, nat_tests) in
        let read = number_shown l (omega arith) in
        let kept : l % 256 ≡ l = omega arith in
        let range : nat_le l 127 ≡ true = grind (arith, nat_tests) in
        rw e (rw (read, kept, range) refl)
    go false e =
        let above : 128 ≤ l = ltb-false _ _ e in
        let read = unsigned_again (256 - l) (omega arith) true in
        let kept : (256 - (256 - l)) % 256 ≡ l = omega arith in
        let range : nat_le (256 - l) 128 ≡ true = grind (arith, nat_tests) in
        rw e (rw (read, kept, range) refl)

pub bound_word : (w : ℕ) → w < 65536 → IsWord (signed_text w)
bound_word w h = go (nat_lt w 32768) refl
  where
    go : (b : Bool) → nat_lt w 32768 ≡ b → IsWord (signed_text w)
    go true e = rw e (decimal_word w (omega arith))
    go false e = rw e (minus_word (65536 - w) (omega arith))

pub bound_shown : (w : ℕ) → w < 65536 → bound_operand (signed_text w) ≡ Some (w, true)
bound_shown w h = go (nat_lt w 32768) refl
  where
    go : (b : Bool) → nat_lt w 32768 ≡ b → bound_operand (signed_text w) ≡ Some (w, true)
    go true e =
        let below : w < 32768 = grind (arith, nat_tests) in
        let read = number_shown w (omega arith) in
        let kept : w % 65536 ≡ w = omega arith in
        let range : nat_le w 32767 ≡ true = grind (arith, nat_tests) in
        rw e (rw (read, kept, range) refl)
    go false e =
        let above : 32768 ≤ w = ltb-false _ _ e in
        let read = unsigned_again (65536 - w) (omega arith) true in
        let kept : (65536 - (65536 - w)) % 65536 ≡ w = omega arith in
        let range : nat_le (65536 - w) 32768 ≡ true = grind (arith, nat_tests) in
        rw e (rw (read, kept, range) refl)
