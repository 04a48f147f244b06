-- The lengths of names and of the fields that store them.
use Rattle.std.proofs.Common.{◌≡◌, ◌∙◌, ap, ◌&&◌, ◌≤◌, ℕ, ◌+◌, ◌-◌, true, leb, List, ◌∷◌, ◌++◌, length, map, take, replicate, arith, length-append}
use Rattle.std.proofs.Math.Seq.{take-append-add}
use Rattle.std.proofs.lemmas.Bool.{and_parts, leb-true}
use Rattle.std.proofs.lemmas.List.{length-map, length-replicate, take-replicate}
use Rattle.std.specs.Char.{to_ascii_uppercase}
use Rattle.std.specs.List.{list_all}
use Rattle.pm_volume.specs.Names.{is_new_name_character, is_new_name, name_field}

-- If `name` has at most `most` characters, then its field has `most + 1` bytes.
pub length-name_field : (most : ℕ) (name : List ℕ) → length name ≤ most → length (name_field most name) ≡ most + 1
unfolding name_field
length-name_field most name short =
    let upper = map to_ascii_uppercase name in
    let zeros = replicate {A = ℕ} (most - length name) 0 in
    let whole : length (upper ++ zeros) ≡ length upper + length zeros = length-append upper zeros in
    omega (arith, length-map name to_ascii_uppercase, length-replicate {A = ℕ} (most - length name) 0)

-- If `name` has at most 7 characters, then the first 8 bytes of its field as a file's name are its field as a volume's
-- name.
pub cut-name_field : (name : List ℕ) → length name ≤ 7 → take 8 (name_field 15 name) ≡ name_field 7 name
unfolding name_field
cut-name_field name short =
    let upper = map to_ascii_uppercase name in
    let count = length name in
    let zeros = replicate {A = ℕ} (15 - count) 0 in
    let whole : 7 ≡ length upper + (7 - count) = omega (arith, short, length-map name to_ascii_uppercase) in
    ap (λ (t : List ℕ). count ∷ t)
    (ap (λ (k : ℕ). take k (upper ++ zeros)) whole
    ∙ take-append-add upper zeros (7 - count)
    ∙ ap (λ (t : List ℕ). upper ++ t) (take-replicate {X = ℕ} (7 - count) (15 - count) 0 (omega (arith, short))))

-- If `name` can be a new name, then it has 1 to `most` characters.
pub length-new_name : (most : ℕ) (name : List ℕ) → is_new_name most name ≡ true → (1 ≤ length name) × (length name ≤ most)
unfolding is_new_name
length-new_name most name new =
    let parts = and_parts (leb 1 (length name) && leb (length name) most) (list_all is_new_name_character name) new in
    let both = and_parts (leb 1 (length name)) (leb (length name) most) parts.0 in
    (leb-true 1 (length name) both.0, leb-true (length name) most both.1)
