-- Laws of names, processed byte by byte, and of the numbers after them.
use Rattle.std.proofs.Common.{◌≡◌, ◌<◌, ◌≤◌, ℕ, zero, suc, ◌+◌, ◌-◌, ◌^◌, List, [], ◌∷◌, ◌++◌, false, length, drop, get_or, replicate, map}
use Rattle.std.proofs.Common.{refl, ap, sym, subst, ◌∙◌, arith, add-one, append_assoc, append-nil}
use Rattle.std.proofs.Math.Seq.{drop-cons}
use Rattle.std.specs.Option.{is_none}
use Rattle.std.specs.Prelude.{Bool, true, nat_le, ◌&&◌, ◌==◌, not, if◌then◌else◌}
use Rattle.std.specs.Char.{to_ascii_uppercase}
use Rattle.std.specs.Fmt.{decimal, padded_integral, format_spec, char_count}
use Rattle.std.proofs.lemmas.Bool.Decides.{nat_tests}
use Rattle.std.proofs.lemmas.Str.{encode_ascii}
use Rattle.std.proofs.Math.Utf8.{encode}
use Rattle.pm_bytes.specs.Decimals.{padded}
use Rattle.pm_volume.specs.Files.{file_named}
use Rattle.pm_check.specs.Naming.{free_from, good_character, good_name, numbered}

-- The format `{n:02}` writes the number `n` with at least two digits.
pub padded_two : (n : ℕ) → padded_integral (format_spec 32 0 4 2 (2 ^ 64 - 1)) false [] (decimal n) ≡ padded 2 n
unfolding padded_integral padded char_count
padded_two n = simp append-nil (ap (λ k. replicate k 48 ++ decimal n) (omega arith))

-- If one more byte of the name is converted and appended, the complete text is the same.
pub good-more : (text name : List ℕ) (i : ℕ) → i < length name
    → (text ++ good_character (get_or name i 0) ∷ []) ++ good_name (drop (i + 1) name) ≡ text ++ good_name (drop i name)
unfolding good_name
good-more text name i h =
    rw (add-one, drop-cons name i 0 h) (append_assoc text (good_character (get_or name i 0) ∷ []) (map good_character (drop (suc i) name)))

pub good-done : (name : List ℕ) (i : ℕ) → length name ≤ i → good_name (drop i name) ≡ []
unfolding good_name
good-done [] zero h = refl
good-done [] (suc i) h = refl
good-done (c ∷ name) zero h = absurd (omega arith)
good-done (c ∷ name) (suc i) h = good-done name i (omega arith)

-- A converted character is one byte in UTF-8.
pub good_ascii : (c : ℕ) → encode (good_character c) ≡ good_character c ∷ []
good_ascii c = encode_ascii (good_character c) (below (nat_le 33 c && nat_le c 126 && not (c == 58)) refl)
  where
    raised : (c : ℕ) → c ≤ 126 → to_ascii_uppercase c < 128
    raised c h = grind (arith, nat_tests)

    below : (b : Bool) → (nat_le 33 c && nat_le c 126 && not (c == 58)) ≡ b → (if b then to_ascii_uppercase c else 45) < 128
    below true e = raised c (grind (arith, nat_tests))
    below false e = omega arith

module _ (volume name : List ℕ) (n end : ℕ) where
  -- If no file has the name with the number `n`, this name is the result.
  pub free_from-found : n < end → is_none (file_named volume (numbered name n)) ≡ true → free_from volume name n (end - n) ≡ numbered name n
  unfolding free_from
  free_from-found below free =
      let e : end - n ≡ suc (end - (n + 1)) = omega arith in
      rw (e, free)

  -- If a file has the name with the number `n`, the search continues with the next number.
  pub free_from-more : n < end → is_none (file_named volume (numbered name n)) ≡ false
      → free_from volume name n (end - n) ≡ free_from volume name (n + 1) (end - (n + 1))
  unfolding free_from
  free_from-more below taken =
      let e : end - n ≡ suc (end - (n + 1)) = omega arith in
      rw (e, taken)

  -- If no number remains, the result is the name with the number `n`.
  pub free_from-done : end ≤ n → free_from volume name n (end - n) ≡ numbered name n
  unfolding free_from
  free_from-done over =
      let e : end - n ≡ 0 = omega arith in
      rw e

pub free_none : (volume name : List ℕ) (n : ℕ) → 77 ≤ n → n ≤ 77 → free_from volume name n (77 - n) ≡ free_from volume name 0 77
    → numbered name 77 ≡ free_from volume name 0 77
free_none volume name n over within h =
    let is : n ≡ 77 = omega arith in
    let done : free_from volume name n (77 - n) ≡ numbered name n = free_from-done volume name n 77 over in
    let last : numbered name n ≡ free_from volume name 0 77 = sym done ∙ h in
    subst (λ m. numbered name m ≡ free_from volume name 0 77) is last
