-- Lemmas for words as signed numbers.
use Rattle.std.proofs.Common.{◌≡◌, ◌≢◌, ◌<◌, ◌≤◌, ◌⊎◌, inl, inr, ℕ, zero, suc, ◌+◌, ◌-◌, ◌*◌, ◌%◌, ◌/◌, ◌==◌, ◌&&◌, Bool, true, false, cond, nat_lt, nat_le}
use Rattle.std.proofs.Common.{List, Ok, refl, sym, ap, ◌∙◌, arith}
use Rattle.std.specs.Prelude.{ℤ, pos, negsuc, ◌+ℤ◌, ◌-ℤ◌, neg_ℤ, int_le, int_lt, int_div, int_rem, unsigned_abs}
use Rattle.std.specs.Int.{w16, cast_unsigned}
use Rattle.std.proofs.lemmas.Bool.{cases_eq, cases_lt}
use Rattle.std.proofs.lemmas.Bool.Decides.{nat_tests}
use Rattle.std.proofs.Math.Nat.{div-le_of_le-mul, div-le_self}
use Rattle.std.proofs.lemmas.Int.{ints, of_z-to_z, quot-rem, rem_below}
use Rattle.pm_words.specs.Stack.{minus}
use Rattle.pm_opcode.specs.Spelling.{rank}
use Rattle.pm_words.specs.Signed.{signed, word}
use Rattle.pm_rows.specs.Jumps.{entry_target}
use Rattle.pm_rows.specs.Integers.{divided}
use Rattle.law_engine.specs.Numbers.{CaseJumpsBySigned, DivisionIsWhole, RanksFollowSigned}

-- ---- the two halves

signed_low : (a : ℕ) → a < 32768 → signed a ≡ pos a
signed_low a h = let test : nat_lt a 32768 ≡ true = grind (arith, nat_tests) in rw test refl

signed_high : (a : ℕ) → 32768 ≤ a → signed a ≡ negsuc (65536 - suc a)
signed_high a h = let test : nat_lt a 32768 ≡ false = grind (arith, nat_tests) in rw test refl

-- ---- ranks

sum_high : (r k a : ℕ) → k + a ≡ 65535 → r + 32768 ≡ a → pos r ≡ negsuc k +ℤ pos 32768
sum_high r k a h l = omega (arith, ints)

rank_is : (a : ℕ) → a < 65536 → pos (rank a) ≡ signed a +ℤ pos 32768
rank_is a h = elim (cases_lt a 32768) [
  | inl low ↦
      let is : rank a ≡ a + 32768 = omega arith in
      ap pos is ∙ sym (ap (λ z. z +ℤ pos 32768) (signed_low a low))
  | inr high ↦
      let wrapped : rank a + 32768 ≡ a = omega arith in
      sum_high (rank a) (65536 - suc a) a (omega arith) wrapped ∙ sym (ap (λ z. z +ℤ pos 32768) (signed_high a high))
]

order_is : (x y : ℕ) (a b : ℤ) → pos x ≡ a +ℤ pos 32768 → pos y ≡ b +ℤ pos 32768 → nat_le x y ≡ int_le a b
order_is x y a b h k = grind (arith, ints, nat_tests)

distance_is : (x y : ℕ) (a b : ℤ) → pos x ≡ a +ℤ pos 32768 → pos y ≡ b +ℤ pos 32768 → nat_le x y ≡ true → pos (y + 1 - x) ≡ b -ℤ a +ℤ pos 1
distance_is x y a b h k l = let le : x ≤ y = grind (arith, nat_tests) in omega (arith, ints)

pub ranks_follow_signed : RanksFollowSigned
ranks_follow_signed a b h k =
    let order = order_is (rank a) (rank b) (signed a) (signed b) (rank_is a h) (rank_is b k) in
    record {
      number = rank_is a h;
      order = order;
      distance = λ l. distance_is (rank a) (rank b) (signed a) (signed b) (rank_is a h) (rank_is b k) (order ∙ l);
    }

number_is : (x y : ℕ) (a b : ℤ) → pos x ≡ a +ℤ pos 32768 → pos y ≡ b +ℤ pos 32768 → nat_le x y ≡ true → y - x ≡ unsigned_abs (b -ℤ a)
number_is x y a b h k l =
    let le : x ≤ y = grind (arith, nat_tests) in
    let difference : pos (y - x) ≡ b -ℤ a = omega (arith, ints) in
    ap unsigned_abs difference

case_by : (b : Bool) (low value high table : ℕ) (m : List ℕ) → nat_le (rank low) (rank value) ≡ b → low < 65536 → value < 65536 →
    cond (b && nat_le (rank value) (rank high)) (entry_target m ((table + 2 * (rank value - rank low)) % 65536)) (Ok (minus (table % 65536) 2))
    ≡ cond (b && nat_le (rank value) (rank high)) (entry_target m ((table + 2 * unsigned_abs (signed value -ℤ signed low)) % 65536))
    (Ok (minus (table % 65536) 2))
case_by false low value high table m is h k = refl
case_by true low value high table m is h k =
    ap (λ n. cond (nat_le (rank value) (rank high)) (entry_target m ((table + 2 * n) % 65536)) (Ok (minus (table % 65536) 2)))
    (number_is (rank low) (rank value) (signed low) (signed value) (rank_is low h) (rank_is value k) is)

pub case_jumps_by_signed : CaseJumpsBySigned
case_jumps_by_signed low high table value m h k l =
    let first = (ranks_follow_signed low value h l).order in
    let second = (ranks_follow_signed value high l k).order in
    case_by (nat_le (rank low) (rank value)) low value high table m refl h l
    ∙ ap (λ b. cond (b && nat_le (rank value) (rank high)) (entry_target m ((table + 2 * unsigned_abs (signed value -ℤ signed low)) % 65536))
    (Ok (minus (table % 65536) 2))) first
    ∙ ap (λ b. cond (int_le (signed low) (signed value) && b) (entry_target m ((table + 2 * unsigned_abs (signed value -ℤ signed low)) % 65536))
    (Ok (minus (table % 65536) 2))) second

-- ---- division

divided_is : (f : ℤ → ℤ → ℤ) (a b : ℕ) → b ≢ 0 → divided f a b ≡ Ok (word (f (signed a) (signed b)))
divided_is f a b h = let test : (b == 0) ≡ false = grind (arith, nat_tests) in rw test refl

not_zero : (b : ℕ) → b < 65536 → b ≢ 0 → 0 < unsigned_abs (signed b)
not_zero b h n = elim (cases_lt b 32768) [
  | inl low ↦ rw (signed_low b low) (omega arith)
  | inr high ↦ rw (signed_high b high) (omega arith)
]

abs_within : (b : ℕ) → b < 65536 → unsigned_abs (signed b) ≤ 32768
abs_within b h = elim (cases_lt b 32768) [
  | inl low ↦ rw (signed_low b low) (omega arith)
  | inr high ↦ rw (signed_high b high) (omega arith)
]

none_below : (n : ℕ) → nat_lt n 0 ≡ false
none_below n = grind (arith, nat_tests)

sign_is : (a d : ℤ) → (int_rem a d ≡ pos 0) ⊎ (int_lt (int_rem a d) (pos 0) ≡ int_lt a (pos 0))
sign_is (pos a) d = inr (none_below (a % unsigned_abs d) ∙ sym (none_below a))
sign_is (negsuc a) d = negative (suc a % unsigned_abs d)
  where
    negative : (r : ℕ) → (neg_ℤ (pos r) ≡ pos 0) ⊎ (int_lt (neg_ℤ (pos r)) (pos 0) ≡ true)
    negative zero = inl refl
    negative (suc r) = inr refl

-- If a number is at least -32,768 and less than 32,768, then it is the signed number of its word.
word_up : (n : ℕ) → n < 32768 → signed (word (pos n)) ≡ pos n
word_up n h = let same : n % 65536 ≡ n = omega arith in ap signed same ∙ signed_low n h

word_down : (n : ℕ) → n ≤ 32768 → signed (word (neg_ℤ (pos n))) ≡ neg_ℤ (pos n)
word_down zero h = refl
word_down (suc n) h =
    let same : 65535 - n % 65536 ≡ 65535 - n = omega arith in
    let back : 65536 - suc (65535 - n) ≡ n = omega arith in
    ap signed same ∙ signed_high (65535 - n) (omega arith) ∙ ap negsuc back

word_within : (z : ℤ) → unsigned_abs z < 32768 → signed (word z) ≡ z
word_within (pos n) h = word_up n h
word_within (negsuc n) h = word_down (suc n) (omega (arith, h))

-- A quotient of signed words is in this range, except that of -32,768 divided by -1.
quotient_both : (a b : ℕ) → suc a ≤ 32768 → (a ≡ 32767 → b ≡ 0 → ⊥) → suc a / suc b < 32768
quotient_both a zero h other = let whole : suc a / 1 ≡ suc a = omega arith in rw whole (elim (cases_eq a 32767)
    [ inl e ↦ absurd (other e refl) | inr n ↦ omega (arith, h, n) ])
quotient_both a (suc b) h other = let less : suc a / suc (suc b) ≤ 16384 = div-le_of_le-mul (suc (suc b)) (omega (arith, h)) in omega (arith, less)

quotient_within : (x y : ℤ) → unsigned_abs x ≤ 32768 → (x ≢ pos 32768) → (x ≡ negsuc 32767 → y ≡ negsuc 0 → ⊥) → signed (word (int_div x y)) ≡ int_div x y
quotient_within (pos a) (pos b) h up other = let le = div-le_self a b in let no : a ≢ 32768 = λ e. up (ap pos e) in word_up (a / b) (omega (arith, le, h, no))
quotient_within (pos a) (negsuc b) h up other = let le = div-le_self a (suc b) in word_down (a / suc b) (omega (arith, le, h))
quotient_within (negsuc a) (pos b) h up other = let le = div-le_self (suc a) b in word_down (suc a / b) (omega (arith, le, h))
quotient_within (negsuc a) (negsuc b) h up other = word_up (suc a / suc b) (quotient_both a b h (λ e f. other (ap negsuc e) (ap negsuc f)))

not_up : (a : ℕ) → a < 65536 → signed a ≢ pos 32768
not_up a h e = elim (cases_lt a 32768) [
  | inl low ↦ let is : pos a ≡ pos 32768 = sym (signed_low a low) ∙ e in let same : a ≡ 32768 = cc is in omega arith
  | inr high ↦ let is : negsuc (65536 - suc a) ≡ pos 32768 = sym (signed_high a high) ∙ e in absurd (cc is)
]

only_word : (a n : ℕ) (z : ℤ) → a < 65536 → cast_unsigned w16 z ≡ n → signed a ≡ z → a ≡ n
only_word a n z h is e = sym (of_z-to_z w16 a h) ∙ ap (cast_unsigned w16) e ∙ is

apart : (a b : ℕ) → a < 65536 → b < 65536 → (a ≢ 32768) ⊎ (b ≢ 65535) → signed a ≡ negsuc 32767 → signed b ≡ negsuc 0 → ⊥
apart a b h k (inl other) e f = other (only_word a 32768 (negsuc 32767) h refl e)
apart a b h k (inr other) e f = other (only_word b 65535 (negsuc 0) k refl f)

pub division_is_whole : DivisionIsWhole
division_is_whole a b h k n =
    let less = rem_below (signed a) (signed b) (not_zero b k n) in
    let within = abs_within b k in
    record {
      quotient = int_div (signed a) (signed b);
      remainder = int_rem (signed a) (signed b);
      divide = divided_is int_div a b n;
      modulo = divided_is int_rem a b n;
      whole = quot-rem (signed a) (signed b);
      less = less;
      sign = sign_is (signed a) (signed b);
      remainder_fits = word_within (int_rem (signed a) (signed b)) (omega (arith, less, within));
      quotient_fits = λ other. quotient_within (signed a) (signed b) (abs_within a h) (not_up a h) (apart a b h k other);
    }
