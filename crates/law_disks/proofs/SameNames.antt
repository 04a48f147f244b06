-- Lemmas for names that are equal if upper and lower case are considered equal.
use Rattle.std.proofs.Common.{◌≡◌, ◌==◌, ℕ, ◌-◌, true, List, [], ◌∷◌, ◌∙◌, ap, sym, refl, inl, inr, length, map, replicate, arith}
use Rattle.std.proofs.lemmas.Bool.{and_parts, cases_Bool, eqb-true}
use Rattle.std.proofs.lemmas.Bool.Decides.{nat_tests}
use Rattle.std.proofs.lemmas.List.{length-map, take_at}
use Rattle.std.proofs.lemmas.Str.Ascii.{uppercase-uppercase}
use Rattle.std.specs.Char.{to_ascii_uppercase}
use Rattle.std.specs.List.{list_all, zip}
use Rattle.pm_volume.specs.Names.{characters_of, is_same_name, name_field}

unfoldable pub upper : List ℕ → List ℕ
upper name = map to_ascii_uppercase name

pairs_same : (a b : List ℕ) → length a ≡ length b → list_all (λ (p : ℕ × ℕ). to_ascii_uppercase p.0 == to_ascii_uppercase p.1) (zip a b) ≡ true →
    upper a ≡ upper b
unfolding upper
pairs_same [] [] size all = refl
pairs_same [] (y ∷ b) size all = absurd (omega arith)
pairs_same (x ∷ a) [] size all = absurd (omega arith)
pairs_same (x ∷ a) (y ∷ b) size all =
    let parts =
    and_parts (to_ascii_uppercase x == to_ascii_uppercase y) (list_all (λ (p : ℕ × ℕ). to_ascii_uppercase p.0 == to_ascii_uppercase p.1) (zip a b)) all in
    let first : to_ascii_uppercase x ≡ to_ascii_uppercase y = eqb-true _ _ parts.0 in
    let rest : upper a ≡ upper b = pairs_same a b (omega arith) parts.1 in
    rw (first, rest) refl

same_pairs : (a b : List ℕ) → upper a ≡ upper b → list_all (λ (p : ℕ × ℕ). to_ascii_uppercase p.0 == to_ascii_uppercase p.1) (zip a b) ≡ true
unfolding upper
same_pairs [] b same = refl
same_pairs (x ∷ a) [] same = cc
same_pairs (x ∷ a) (y ∷ b) same =
    let first : to_ascii_uppercase x ≡ to_ascii_uppercase y = cc in
    let rest : upper a ≡ upper b = cc in
    let here : (to_ascii_uppercase x == to_ascii_uppercase y) ≡ true = grind (arith, nat_tests, first) in
    rw (here, same_pairs a b rest) refl

pub upper-from_same : (a b : List ℕ) → is_same_name a b ≡ true → upper a ≡ upper b
unfolding is_same_name
upper-from_same a b same =
    let parts = and_parts (length a == length b) (list_all (λ (p : ℕ × ℕ). to_ascii_uppercase p.0 == to_ascii_uppercase p.1) (zip a b)) same in
    pairs_same a b (eqb-true _ _ parts.0) parts.1

pub same-from_upper : (a b : List ℕ) → upper a ≡ upper b → is_same_name a b ≡ true
unfolding is_same_name upper
same-from_upper a b same =
    let sizes : length a ≡ length b = sym (size a) ∙ ap length same ∙ size b in
    let here : (length a == length b) ≡ true = grind (arith, nat_tests, sizes) in
    rw (here, same_pairs a b same) refl
  where
    size : (c : List ℕ) → length (upper c) ≡ length c
    size c = length-map c to_ascii_uppercase

-- If two names have the same upper case, then they equal the same names.
pub same-left : (a a' b : List ℕ) → upper a ≡ upper a' → is_same_name a b ≡ is_same_name a' b
same-left a a' b same = elim (cases_Bool (is_same_name a b)) [
  | inl yes' ↦ yes' ∙ sym (same-from_upper a' b (sym same ∙ upper-from_same a b yes'))
  | inr no' ↦
      elim (cases_Bool (is_same_name a' b)) [
        | inl other ↦ let both = same-from_upper a b (same ∙ upper-from_same a' b other) in cc
        | inr other ↦ no' ∙ sym other
      ]
]

pub same-right : (a b b' : List ℕ) → upper b ≡ upper b' → is_same_name a b ≡ is_same_name a b'
same-right a b b' same = elim (cases_Bool (is_same_name a b)) [
  | inl yes' ↦ yes' ∙ sym (same-from_upper a b' (upper-from_same a b yes' ∙ same))
  | inr no' ↦
      elim (cases_Bool (is_same_name a b')) [
        | inl other ↦ let both = same-from_upper a b (upper-from_same a b' other ∙ sym same) in cc
        | inr other ↦ no' ∙ sym other
      ]
]

pub upper-upper : (name : List ℕ) → upper (upper name) ≡ upper name
unfolding upper
upper-upper [] = refl
upper-upper (c ∷ cs) =
    let first = uppercase-uppercase c in
    let rest : upper (upper cs) ≡ upper cs = upper-upper cs in
    rw (first, rest) refl

-- The characters in the field of a new name are the name in upper case.
pub characters-field : (most : ℕ) (name : List ℕ) → characters_of (name_field most name) ≡ upper name
unfolding characters_of name_field upper
characters-field most name = take_at (map to_ascii_uppercase name) (replicate (most - length name) 0) (length name) (length-map name to_ascii_uppercase)

-- A file with the new name `name` has the name `other` if and only if both are equal in upper or lower case.
pub named-new : (most : ℕ) (name other : List ℕ) → is_same_name (characters_of (name_field most name)) other ≡ is_same_name name other
named-new most name other =
    let own = characters-field most name in
    rw own (same-left (upper name) name other (upper-upper name))
