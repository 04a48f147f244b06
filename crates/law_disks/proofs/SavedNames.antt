-- Lemmas for the names of the files that `salvage` saves.
use Rattle.std.proofs.Common.{◌≡◌, ◌<◌, ◌≤◌, ℕ, zero, suc, ◌+◌, ◌-◌, ◌^◌, Bool, true, false, List, [], ◌∷◌, ◌++◌, ◌∙◌, ap, subst, refl, inl, inr}
use Rattle.std.proofs.Common.{length, map, take, replicate, Option, Some, None, is_some, arith}
use Rattle.std.specs.Prelude.{◌==◌, if◌then◌else◌}
use Rattle.std.specs.Char.{to_ascii_uppercase}
use Rattle.std.specs.Fmt.{decimal}
use Rattle.std.specs.Int.Digits.{AllBelowBase, digits_of}
use Rattle.std.specs.Option.{is_none}
use Rattle.std.proofs.lemmas.Bool.{cases_Bool, cases_lt}
use Rattle.std.proofs.lemmas.Bool.Decides.{nat_tests}
use Rattle.std.proofs.lemmas.Fmt.{decimal-digits_of}
use Rattle.std.proofs.lemmas.Int.Digits.{all_below_base_digits_of}
use Rattle.std.proofs.lemmas.List.{map-append}
use Rattle.std.proofs.lemmas.Str.Ascii.{uppercase-uppercase}
use Rattle.pm_bytes.specs.Decimals.{padded}
use Rattle.pm_volume.specs.Files.{file_named}
use Rattle.pm_volume.specs.Names.{is_new_name_character}
use Rattle.pm_volume.specs.declared.entry.Entry.{Entry}
use Rattle.pm_check.specs.Naming.{free_from, good_character, good_name, numbered}
use Rattle.law_disks.proofs.SameNames.{upper}

-- ---- they are in upper case

upper-character : (c : ℕ) → to_ascii_uppercase (good_character c) ≡ good_character c
upper-character c = by (is_new_name_character c)
  where
    by : (b : Bool) → to_ascii_uppercase (if b then to_ascii_uppercase c else 45) ≡ (if b then to_ascii_uppercase c else 45)
    by true = uppercase-uppercase c
    by false = refl

pub upper-good : (name : List ℕ) → upper (good_name name) ≡ good_name name
unfolding upper good_name
upper-good [] = refl
upper-good (c ∷ name) =
    let first = upper-character c in
    let rest : map to_ascii_uppercase (map good_character name) ≡ map good_character name = upper-good name in
    rw (first, rest) refl

upper-digit : (d : ℕ) → d < 10 → to_ascii_uppercase (48 + d) ≡ 48 + d
upper-digit d h = grind (arith, nat_tests)

upper-digits : (ds : List ℕ) → AllBelowBase 10 ds → map to_ascii_uppercase (map (λ d. 48 + d) ds) ≡ map (λ d. 48 + d) ds
upper-digits [] h = refl
upper-digits (d ∷ ds) h =
    let first = upper-digit d h.0 in
    rw (first, upper-digits ds h.1) refl

upper-decimal : (n : ℕ) → 0 < n → n < 2 ^ 64 → map to_ascii_uppercase (decimal n) ≡ decimal n
upper-decimal n some fits =
    let digits = decimal-digits_of n some fits in
    rw digits (upper-digits (digits_of 10 n) (all_below_base_digits_of 10 n (omega arith)))

upper-zeros : (n : ℕ) → map to_ascii_uppercase (replicate n 48) ≡ replicate n 48
upper-zeros zero = refl
upper-zeros (suc n) = ap (λ cs. 48 ∷ cs) (upper-zeros n)

upper-padded : (n : ℕ) → 0 < n → n < 2 ^ 64 → map to_ascii_uppercase (padded 2 n) ≡ padded 2 n
unfolding padded
upper-padded n some fits =
    let whole = map-append to_ascii_uppercase (replicate (2 - length (decimal n)) 48) (decimal n) in
    whole ∙ ap (λ cs. cs ++ map to_ascii_uppercase (decimal n)) (upper-zeros (2 - length (decimal n)))
    ∙ ap (λ cs. replicate (2 - length (decimal n)) 48 ++ cs) (upper-decimal n some fits)

pub upper-numbered : (name : List ℕ) (n : ℕ) → n < 2 ^ 64 → upper (numbered name n) ≡ numbered name n
unfolding numbered upper
upper-numbered name zero fits = upper-good name
upper-numbered name (suc n) fits =
    let good : map to_ascii_uppercase (good_name (take 12 name)) ≡ good_name (take 12 name) = upper-good (take 12 name) in
    let some : (suc n == 0) ≡ false = grind (arith, nat_tests) in
    rw some (map-append to_ascii_uppercase (good_name (take 12 name)) (46 ∷ padded 2 (suc n))
    ∙ ap (λ cs. cs ++ map to_ascii_uppercase (46 ∷ padded 2 (suc n))) good
    ∙ ap (λ cs. good_name (take 12 name) ++ 46 ∷ cs) (upper-padded (suc n) (omega arith) fits))

-- ---- the lowest number that is free

-- `found` is the name with the lowest number that no file has: with each lower number, a file of `volume` has the name.
pub record IsLowestNumber (volume name : List ℕ) (found : List ℕ) : Type 0 where
  pub number : ℕ
  pub small : number ≤ 77
  pub is : found ≡ numbered name number
  pub lowest : (other : ℕ) → other < number → is_some (file_named volume (numbered name other)) ≡ true

some_from_test : (o : Option Entry) → is_none o ≡ false → is_some o ≡ true
some_from_test None h = cc
some_from_test (Some e) h = refl

lowest_from : (volume name : List ℕ) (n left : ℕ) → n + left ≤ 77 → ((other : ℕ) → other < n → is_some (file_named volume (numbered name other)) ≡ true)
    → IsLowestNumber volume name (free_from volume name n left)
unfolding free_from
lowest_from volume name n zero fits below = record { number = n; small = omega arith; is = refl; lowest = below }
lowest_from volume name n (suc left) fits below = elim (cases_Bool (is_none (file_named volume (numbered name n)))) [
  | inl free ↦ rw free (record { number = n; small = omega arith; is = refl; lowest = below })
  | inr held ↦ rw held (lowest_from volume name (n + 1) left (omega arith) (λ other less. more other less (some_from_test _ held)))
]
  where
    more : (other : ℕ) → other < n + 1 → is_some (file_named volume (numbered name n)) ≡ true → is_some (file_named volume (numbered name other)) ≡ true
    more other less held = elim (cases_lt other n) [
      | inl under ↦ below other under
      | inr over ↦ let same : n ≡ other = omega arith in subst (λ m. is_some (file_named volume (numbered name m)) ≡ true) same held
    ]

pub lowest_number : (volume name : List ℕ) → IsLowestNumber volume name (free_from volume name 0 77)
lowest_number volume name = lowest_from volume name 0 77 (omega arith) (λ other less. absurd (omega arith))

-- If no file of `volume` has the name `name`, made valid, then this name is used without a number.
pub own_free : (volume name : List ℕ) → file_named volume (good_name name) ≡ None → free_from volume name 0 77 ≡ good_name name
unfolding free_from numbered
own_free volume name none = rw none refl
