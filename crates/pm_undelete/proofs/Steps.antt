-- The steps of the definitions by recursion.
use Rattle.std.proofs.Common.{◌≡◌, ◌<◌, ◌≤◌, ◌+◌, ◌-◌, ◌++◌, ℕ, zero, suc, true, false, List, [], nat_le, max, refl, arith}
use Rattle.std.proofs.lemmas.Bool.Decides.{nat_tests}
use Rattle.pm_codefile.specs.Dictionary.{slot_in}
use Rattle.pm_undelete.specs.Codes.{are_likely, end_of_slot, is_slot_likely, last_end}
use Rattle.pm_undelete.specs.Found.{found_from, listed, look_at}
use Rattle.pm_undelete.specs.Texts.{is_page, is_zero_block, pages}

pub likely-more : (file : List ℕ) (n left : ℕ) → n < left → is_slot_likely (slot_in file n) ≡ true
    → are_likely file n (left - n) ≡ are_likely file (n + 1) (left - (n + 1))
unfolding are_likely
likely-more file n left l e =
    let step : left - n ≡ suc (left - (n + 1)) = omega arith in
    rw (step, e) refl

pub likely-not : (file : List ℕ) (n left : ℕ) → n < left → is_slot_likely (slot_in file n) ≡ false
    → are_likely file n (left - n) ≡ false
unfolding are_likely
likely-not file n left l e =
    let step : left - n ≡ suc (left - (n + 1)) = omega arith in
    rw (step, e) refl

pub likely-end : (file : List ℕ) (n left : ℕ) → left ≤ n → are_likely file n (left - n) ≡ true
unfolding are_likely
likely-end file n left l =
    let none : left - n ≡ zero = omega arith in
    rw none refl

pub last-more : (file : List ℕ) (n left : ℕ) → n < left
    → last_end file n (left - n) ≡ max (end_of_slot (slot_in file n)) (last_end file (n + 1) (left - (n + 1)))
unfolding last_end
last-more file n left l =
    let step : left - n ≡ suc (left - (n + 1)) = omega arith in
    rw step refl

pub last-end : (file : List ℕ) (n left : ℕ) → left ≤ n → last_end file n (left - n) ≡ zero
unfolding last_end
last-end file n left l =
    let none : left - n ≡ zero = omega arith in
    rw none refl

pub max-exchange : (a b c : ℕ) → max a (max b c) ≡ max (max b a) c
max-exchange a b c = omega arith

pub max-zero : (a : ℕ) → max a zero ≡ a
max-zero a = omega arith

pub pages-none : (image : List ℕ) (n left : ℕ) → 4 ≤ left → is_page image n ≡ false → pages image n left ≡ zero
unfolding pages
pages-none image n zero l p = absurd (omega arith)
pages-none image n (suc zero) l p = absurd (omega arith)
pages-none image n (suc (suc left)) l p =
    let room : nat_le 2 left ≡ true = grind (arith, nat_tests) in
    rw (room, p) refl

pub pages-last : (image : List ℕ) (n left : ℕ) → 4 ≤ left → is_page image n ≡ true → is_zero_block image (n + 3) ≡ true
    → pages image n left ≡ 1
unfolding pages
pages-last image n zero l p z = absurd (omega arith)
pages-last image n (suc zero) l p z = absurd (omega arith)
pages-last image n (suc (suc left)) l p z =
    let room : nat_le 2 left ≡ true = grind (arith, nat_tests) in
    rw (room, p, z) refl

pub pages-more : (image : List ℕ) (n left : ℕ) → 4 ≤ left → is_page image n ≡ true → is_zero_block image (n + 3) ≡ false
    → pages image n left ≡ 1 + pages image (n + 2) (left - 2)
unfolding pages
pages-more image n zero l p z = absurd (omega arith)
pages-more image n (suc zero) l p z = absurd (omega arith)
pages-more image n (suc (suc left)) l p z =
    let room : nat_le 2 left ≡ true = grind (arith, nat_tests) in
    let same : suc (suc left) - 2 ≡ left = omega arith in
    rw (room, p, z, same) refl

pub pages-short : (image : List ℕ) (n left : ℕ) → left < 4 → pages image n left ≡ zero
unfolding pages
pages-short image n zero l = refl
pages-short image n (suc zero) l = refl
pages-short image n (suc (suc left)) l =
    let room : nat_le 2 left ≡ false = grind (arith, nat_tests) in
    rw room refl

pub found-more : (image : List ℕ) (n end : ℕ) → n < end
    → found_from image n (end - n) ≡ listed (look_at image n (end - n)) ++ found_from image (n + 1) (end - (n + 1))
unfolding found_from
found-more image n end l =
    let step : end - n ≡ suc (end - (n + 1)) = omega arith in
    rw step refl

pub found-end : (image : List ℕ) (n end : ℕ) → end ≤ n → found_from image n (end - n) ≡ []
unfolding found_from
found-end image n end l =
    let none : end - n ≡ zero = omega arith in
    rw none refl
