-- Lemmas for texts after which a comment can follow.
use Rattle.std.proofs.Common.{◌≡◌, ℕ, zero, suc, ◌/◌, ◌%◌, ◌<◌, Bool, true, false, List, [], ◌∷◌, ◌++◌, refl, ◌∙◌, arith}
use Rattle.std.specs.Prelude.{◌==◌, ◌&&◌, if◌then◌else◌, nat_le, nat_lt, not, ◌-◌}
use Rattle.std.specs.Fmt.{decimal, digit_glyph, digits, digits_onto}
use Rattle.std.specs.List.{list_all}
use Rattle.std.proofs.lemmas.Bool.{and_parts}
use Rattle.std.proofs.lemmas.Bool.Decides.{nat_tests}
use Rattle.std.proofs.lemmas.List.Folds.{list_all-append}
use Rattle.pm_code.specs.Program.{is_name_character}
use Rattle.pm_code.specs.Shown.{level_text}
use Rattle.pm_notes.specs.Marks.{is_unquoted}

abbrev pub may_stand : ℕ → Bool
may_stand c = nat_le 32 c && nat_le c 126 && not (c == 34)

digit_stands : (d : ℕ) → d < 10 → may_stand (digit_glyph false d) ≡ true
digit_stands d h = grind (arith, nat_tests)

more_digits : (k n : ℕ) (acc : List ℕ) → is_unquoted acc ≡ true → is_unquoted (digits_onto k 10 false n acc) ≡ true
more_digits zero n acc h = h
more_digits (suc k) n acc h = by (n / 10 == 0) (more_digits k (n / 10) (digit_glyph false (n % 10) ∷ acc) first)
  where
    first : is_unquoted (digit_glyph false (n % 10) ∷ acc) ≡ true
    first = let t : may_stand (digit_glyph false (n % 10)) ≡ true = digit_stands (n % 10) (omega arith) in rw t h

    by : (b : Bool) → is_unquoted (digits_onto k 10 false (n / 10) (digit_glyph false (n % 10) ∷ acc)) ≡ true
        → is_unquoted (if b then digit_glyph false (n % 10) ∷ acc else digits_onto k 10 false (n / 10) (digit_glyph false (n % 10) ∷ acc)) ≡ true
    by true more = first
    by false more = more

pub decimal_unquoted : (n : ℕ) → is_unquoted (decimal n) ≡ true
unfolding digits
decimal_unquoted n = more_digits 64 n [] refl

pub unquoted_append : (xs ys : List ℕ) → is_unquoted xs ≡ true → is_unquoted ys ≡ true → is_unquoted (xs ++ ys) ≡ true
unquoted_append xs ys h k = list_all-append may_stand xs ys ∙ rw (h, k) refl

pub level_unquoted : (level : ℕ) → is_unquoted (level_text level) ≡ true
level_unquoted level = by (nat_lt level 128)
  where
    by : (b : Bool) → is_unquoted (if b then decimal level else 45 ∷ decimal (256 - level)) ≡ true
    by true = decimal_unquoted level
    by false = decimal_unquoted (256 - level)

name_stands : (c : ℕ) → is_name_character c ≡ true → may_stand c ≡ true
name_stands c h = grind (arith, nat_tests)

pub name_unquoted : (name : List ℕ) → list_all is_name_character name ≡ true → is_unquoted name ≡ true
name_unquoted [] h = refl
name_unquoted (c ∷ name) h =
    let parts = and_parts (is_name_character c) (list_all is_name_character name) h in
    let first : may_stand c ≡ true = name_stands c parts.0 in
    rw first (name_unquoted name parts.1)
