-- Names that are equal if upper and lower case are the same.
use Rattle.std.proofs.Common.{◌≡◌, ◌==◌, ℕ, Bool, true, false, List, [], ◌∷◌, ◌∙◌, ap, sym, refl, length, map, arith}
use Rattle.std.proofs.lemmas.Bool.{and_parts, eqb-true, false_from_ne_true, both_ways}
use Rattle.std.proofs.lemmas.Bool.Decides.{nat_tests}
use Rattle.std.proofs.lemmas.List.{length-map}
use Rattle.std.specs.Char.{to_ascii_uppercase}
use Rattle.std.specs.List.{list_all, zip}
use Rattle.pm_volume.specs.Names.{is_same_name}

unfoldable pub upper : List ℕ → List ℕ
upper name = map to_ascii_uppercase name

pairs_same : (a b : List ℕ) → length a ≡ length b → list_all (λ (p : ℕ × ℕ). to_ascii_uppercase p.0 == to_ascii_uppercase p.1) (zip a b) ≡ true →
    upper a ≡ upper b
unfolding upper
pairs_same [] [] size all = refl
pairs_same [] (y ∷ b) size all = absurd (omega arith)
pairs_same (x ∷ a) [] size all = absurd (omega arith)
pairs_same (x ∷ a) (y ∷ b) size all =
    let parts =
    and_parts (to_ascii_uppercase x == to_ascii_uppercase y) (list_all (λ (p : ℕ × ℕ). to_ascii_uppercase p.0 == to_ascii_uppercase p.1) (zip a b)) all in
    let first : to_ascii_uppercase x ≡ to_ascii_uppercase y = eqb-true _ _ parts.0 in
    let rest : upper a ≡ upper b = pairs_same a b (omega arith) parts.1 in
    rw (first, rest) refl

same_pairs : (a b : List ℕ) → upper a ≡ upper b → list_all (λ (p : ℕ × ℕ). to_ascii_uppercase p.0 == to_ascii_uppercase p.1) (zip a b) ≡ true
unfolding upper
same_pairs [] b same = refl
same_pairs (x ∷ a) [] same = cc
same_pairs (x ∷ a) (y ∷ b) same =
    let first : to_ascii_uppercase x ≡ to_ascii_uppercase y = cc in
    let rest : upper a ≡ upper b = cc in
    let here : (to_ascii_uppercase x == to_ascii_uppercase y) ≡ true = grind (arith, nat_tests, first) in
    rw (here, same_pairs a b rest) refl

pub upper-from_same : (a b : List ℕ) → is_same_name a b ≡ true → upper a ≡ upper b
unfolding is_same_name
upper-from_same a b same =
    let parts = and_parts (length a == length b) (list_all (λ (p : ℕ × ℕ). to_ascii_uppercase p.0 == to_ascii_uppercase p.1) (zip a b)) same in
    pairs_same a b (eqb-true _ _ parts.0) parts.1

pub same-from_upper : (a b : List ℕ) → upper a ≡ upper b → is_same_name a b ≡ true
unfolding is_same_name upper
same-from_upper a b same =
    let sizes : length a ≡ length b = sym (size a) ∙ ap length same ∙ size b in
    let here : (length a == length b) ≡ true = grind (arith, nat_tests, sizes) in
    rw (here, same_pairs a b same) refl
  where
    size : (c : List ℕ) → length (upper c) ≡ length c
    size c = length-map c to_ascii_uppercase

-- A name is the same as itself.
pub itself : (name : List ℕ) → is_same_name name name ≡ true
itself name = same-from_upper name name refl

pub other_way : (a b : List ℕ) → is_same_name a b ≡ true → is_same_name b a ≡ true
other_way a b same = same-from_upper b a (sym (upper-from_same a b same))

pub joined : (a b c : List ℕ) → is_same_name a b ≡ true → is_same_name b c ≡ true → is_same_name a c ≡ true
joined a b c first second = same-from_upper a c (upper-from_same a b first ∙ upper-from_same b c second)

-- If two names are not the same, then a third one is not the same as both.
pub apart : (a b c : List ℕ) → is_same_name b c ≡ false → is_same_name a b ≡ true → is_same_name a c ≡ false
apart a b c other same =
    false_from_ne_true (is_same_name a c) (λ is. both_ways (is_same_name b c) other (joined b a c (other_way a b same) is))

-- If two names are the same, then each name is the same as both or as none.
pub agree : (a b c : List ℕ) → is_same_name b c ≡ true → is_same_name a b ≡ is_same_name a c
agree a b c same = by (is_same_name a b) refl
  where
    by : (r : Bool) → is_same_name a b ≡ r → r ≡ is_same_name a c
    by true is = sym (joined a b c is same)
    by false is = sym (false_from_ne_true (is_same_name a c) (λ yes. both_ways (is_same_name a b) is (joined a c b yes (other_way b c same))))
