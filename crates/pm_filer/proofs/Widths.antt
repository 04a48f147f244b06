-- Laws of numbers that are printed in columns.
use Rattle.std.proofs.Common.{◌≡◌, ℕ, zero, suc, ◌-◌, ◌^◌, List, [], ◌∷◌, ◌++◌, false, length, replicate, refl, ap, arith, append-nil}
use Rattle.std.specs.List.{repeat}
use Rattle.std.specs.Fmt.{decimal, padded_integral, format_spec, char_count}
use Rattle.std.proofs.Math.Utf8.{encode}
use Rattle.std.proofs.lemmas.Str.{encode_ascii}
use Rattle.pm_filer.specs.Listing.{at_right, padded, spaces}

repeat_one : (c n : ℕ) → repeat n (c ∷ []) ≡ replicate n c
repeat_one c zero = refl
repeat_one c (suc n) = ap (λ t. c ∷ t) (repeat_one c n)

repeat_space : (n : ℕ) → repeat n (encode 32) ≡ replicate n 32
repeat_space n = rw (encode_ascii 32 (omega arith)) (repeat_one 32 n)

filled : (padding width : ℕ) (numeral : List ℕ) → padding ≡ width →
    repeat padding (encode 32) ++ (numeral ++ repeat (padding - padding) (encode 32)) ≡ replicate width 32 ++ numeral
filled padding width numeral e =
    let none : padding - padding ≡ 0 = omega arith in
    rw (none, append-nil, repeat_space, e) refl

-- The formats `{n:2}`, `{n:3}`, `{n:4}` and `{n:5}` print a number right-aligned in that many characters.
pub right_in_two : (n : ℕ) → padded_integral (format_spec 32 0 0 2 (2 ^ 64 - 1)) false [] (decimal n) ≡ at_right 2 n
unfolding padded_integral at_right spaces char_count
right_in_two n = simp append-nil (filled (2 - length (decimal n) - 0 - 0) (2 - length (decimal n)) (decimal n) (omega arith))

pub right_in_three : (n : ℕ) → padded_integral (format_spec 32 0 0 3 (2 ^ 64 - 1)) false [] (decimal n) ≡ at_right 3 n
unfolding padded_integral at_right spaces char_count
right_in_three n = simp append-nil (filled (3 - length (decimal n) - 0 - 0) (3 - length (decimal n)) (decimal n) (omega arith))

pub right_in_four : (n : ℕ) → padded_integral (format_spec 32 0 0 4 (2 ^ 64 - 1)) false [] (decimal n) ≡ at_right 4 n
unfolding padded_integral at_right spaces char_count
right_in_four n = simp append-nil (filled (4 - length (decimal n) - 0 - 0) (4 - length (decimal n)) (decimal n) (omega arith))

pub right_in_five : (n : ℕ) → padded_integral (format_spec 32 0 0 5 (2 ^ 64 - 1)) false [] (decimal n) ≡ at_right 5 n
unfolding padded_integral at_right spaces char_count
right_in_five n = simp append-nil (filled (5 - length (decimal n) - 0 - 0) (5 - length (decimal n)) (decimal n) (omega arith))

-- The formats `{n:02}` and `{n:03}` print a number with at least that many digits.
pub padded_two : (n : ℕ) → padded_integral (format_spec 32 0 4 2 (2 ^ 64 - 1)) false [] (decimal n) ≡ padded 2 n
unfolding padded_integral padded char_count
padded_two n = simp append-nil (ap (λ k. replicate k 48 ++ decimal n) (omega arith))

pub padded_three : (n : ℕ) → padded_integral (format_spec 32 0 4 3 (2 ^ 64 - 1)) false [] (decimal n) ≡ padded 3 n
unfolding padded_integral padded char_count
padded_three n = simp append-nil (ap (λ k. replicate k 48 ++ decimal n) (omega arith))

pub ruleset date_digits = (padded_two, padded_three)
