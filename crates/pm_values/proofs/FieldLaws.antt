-- Laws of fields: after a field of a word is replaced, the result is a word, the field has the new value, and other
-- fields are unchanged.
use Rattle.std.proofs.Common.{◌≡◌, ◌⊎◌, ℕ, ◌+◌, ◌-◌, ◌*◌, ◌/◌, ◌%◌, ◌^◌, ◌<◌, ◌≤◌, inl, inr, sym, ap, ◌∙◌, arith}
use Rattle.std.proofs.Math.Nat.{add-mul-div_right, add-mul-mod_self_right, div-div-eq-div-mul, div-le_self, mod-le, div-add-mod', mod-lt, mul-le-mul_right}
use Rattle.std.proofs.lemmas.Bool.{cases_lt}
use Rattle.std.specs.Int.{bit_at}
use Rattle.std.proofs.lemmas.Nat.Bits.{bit_at_cat_high, bit_at_cat_low}
use Rattle.std.proofs.lemmas.Nat.{div-mul-add, mod-mul-add, pow-add, pow_pos}
use Rattle.pm_values.specs.Laws.{OtherBitsStay, StoredIsLoaded}
use Rattle.pm_values.specs.Fields.{field_of, with_field}

replaced-below : (place size above w v : ℕ) → 0 < place → 0 < size → above * (size * place) ≡ 65536 → w < 65536
    → (w - (w / place) % size * place) + (v % size) * place < 65536
replaced-below place size above w v p s whole fit =
    let q = w / place in
    let h = q / size in
    let outer = div-add-mod' w place in
    let inner = div-add-mod' q size in
    let split : (h * size + q % size) * place ≡ q * place = ap (λ x. x * place) inner in
    let low = mod-lt w p in
    let new = mod-lt v s in
    let room : (v % size + 1) * place ≤ size * place = mul-le-mul_right place (omega arith) in
    elim (cases_lt h above) [
      | inl less ↦ let top : (h + 1) * (size * place) ≤ above * (size * place) = mul-le-mul_right (size * place) (omega arith) in omega arith
      | inr more ↦ let top : above * (size * place) ≤ h * (size * place) = mul-le-mul_right (size * place) more in omega arith
    ]

pub with_field-below : (w r k v : ℕ) → r + k ≤ 16 → w < 65536 → with_field w r k v < 65536
unfolding with_field field_of
with_field-below w r k v h fit =
    let sixteen : 16 - (r + k) + (k + r) ≡ 16 = omega arith in
    let whole : 2 ^ (16 - (r + k)) * (2 ^ k * 2 ^ r) ≡ 65536 =
    ap (λ x. 2 ^ (16 - (r + k)) * x) (sym (pow-add 2 k r)) ∙ (sym (pow-add 2 (16 - (r + k)) (k + r)) ∙ ap (λ n. 2 ^ n) sixteen) in
    replaced-below (2 ^ r) (2 ^ k) (2 ^ (16 - (r + k))) w v (pow_pos r) (pow_pos k) whole fit

-- If `w` is below 65,536, then each field of `w` is below 65,536.
pub field_of-below : (w r k : ℕ) → w < 65536 → field_of w r k < 65536
unfolding field_of
field_of-below w r k fit =
    let quotient = div-le_self w (2 ^ r) in
    let rest = mod-le (w / 2 ^ r) (2 ^ k) in
    omega arith

-- If a field is replaced by `u`, then the word consists of the bits above the field, `u`, and the bits below the field.
word_parts : (w P S u : ℕ) → (w - (w / P) % S * P) + u * P ≡ (w / P / S * S + u) * P + w % P
word_parts w P S u =
    let outer = div-add-mod' w P in
    let inner = div-add-mod' (w / P) S in
    let split : (w / P / S * S + (w / P) % S) * P ≡ w / P * P = ap (λ x. x * P) inner in
    omega arith

with_field-parts : (w r k v : ℕ) → with_field w r k v ≡ (w / 2 ^ r / 2 ^ k * 2 ^ k + v % 2 ^ k) * 2 ^ r + w % 2 ^ r
unfolding with_field field_of
with_field-parts w r k v = word_parts w (2 ^ r) (2 ^ k) (v % 2 ^ k)

pub stored_is_loaded : StoredIsLoaded
unfolding field_of
stored_is_loaded w r k v =
    let low : w % 2 ^ r < 2 ^ r = mod-lt w (pow_pos r) in
    let new : v % 2 ^ k < 2 ^ k = mod-lt v (pow_pos k) in
    rw (with_field-parts w r k v, div-mul-add (w / 2 ^ r / 2 ^ k * 2 ^ k + v % 2 ^ k) (2 ^ r) (w % 2 ^ r) low)
    (mod-mul-add (w / 2 ^ r / 2 ^ k) (2 ^ k) (v % 2 ^ k) new)

bit_above : (h u l r k i : ℕ) → u < 2 ^ k → l < 2 ^ r → r + k ≤ i → bit_at ((h * 2 ^ k + u) * 2 ^ r + l) i ≡ bit_at h (i - r - k)
bit_above h u l r k i fit low place =
    bit_at_cat_high (h * 2 ^ k + u) r l i low (omega arith) ∙ bit_at_cat_high h k u (i - r) fit (omega arith)

pub other_bits_stay : OtherBitsStay
other_bits_stay w r k v i away =
    let whole : (w / 2 ^ r / 2 ^ k * 2 ^ k + (w / 2 ^ r) % 2 ^ k) * 2 ^ r + w % 2 ^ r ≡ w = ap (λ x. x * 2 ^ r + w % 2 ^ r) (div-add-mod' (w / 2 ^ r) (2 ^ k))
    ∙ div-add-mod' w (2 ^ r) in
    let low : w % 2 ^ r < 2 ^ r = mod-lt w (pow_pos r) in
    let new : v % 2 ^ k < 2 ^ k = mod-lt v (pow_pos k) in
    let old : (w / 2 ^ r) % 2 ^ k < 2 ^ k = mod-lt (w / 2 ^ r) (pow_pos k) in
    ap (λ x. bit_at x i) (with_field-parts w r k v) ∙ (elim away [
      | inl below ↦ bit_at_cat_low (w / 2 ^ r / 2 ^ k * 2 ^ k + v % 2 ^ k) r (w % 2 ^ r) i below
          ∙ sym (bit_at_cat_low (w / 2 ^ r / 2 ^ k * 2 ^ k + (w / 2 ^ r) % 2 ^ k) r (w % 2 ^ r) i below)
      | inr above ↦ bit_above _ _ _ r k i new low above ∙ sym (bit_above _ _ _ r k i old low above)
    ] ∙ ap (λ x. bit_at x i) whole)

-- ---- fields that were not replaced

-- If a field is below bit `r`, then it depends only on the bits below `r`.
field_below : (h l r s k : ℕ) → s + k ≤ r → field_of (h * 2 ^ r + l) s k ≡ field_of l s k
unfolding field_of
field_below h l r s k fit =
    let split : r ≡ (r - s - k) + (k + s) = omega arith in
    let whole : 2 ^ r ≡ 2 ^ (r - s - k) * (2 ^ k * 2 ^ s) = ap (λ n. 2 ^ n) split ∙ pow-add 2 (r - s - k) (k + s)
    ∙ ap (λ x. 2 ^ (r - s - k) * x) (pow-add 2 k s) in
    let turned : h * 2 ^ r + l ≡ l + h * 2 ^ (r - s - k) * 2 ^ k * 2 ^ s = ap (λ x. h * x + l) whole ∙ omega arith in
    ap (λ x. (x / 2 ^ s) % 2 ^ k) turned
    ∙ ap (λ x. x % 2 ^ k) (add-mul-div_right l (h * 2 ^ (r - s - k) * 2 ^ k) (pow_pos s))
    ∙ add-mul-mod_self_right (l / 2 ^ s) (h * 2 ^ (r - s - k)) (2 ^ k)

-- If a field begins at bit `t` or above, then it depends only on the bits from `t` on.
field_above : (h l t s k : ℕ) → l < 2 ^ t → t ≤ s → field_of (h * 2 ^ t + l) s k ≡ field_of h (s - t) k
unfolding field_of
field_above h l t s k low fit =
    let split : s ≡ t + (s - t) = omega arith in
    let whole : 2 ^ s ≡ 2 ^ t * 2 ^ (s - t) = ap (λ n. 2 ^ n) split ∙ pow-add 2 t (s - t) in
    ap (λ x. (h * 2 ^ t + l) / x % 2 ^ k) whole
    ∙ ap (λ x. x % 2 ^ k) (sym (div-div-eq-div-mul (h * 2 ^ t + l) (2 ^ t) (2 ^ (s - t))) ∙ ap (λ x. x / 2 ^ (s - t)) (div-mul-add h (2 ^ t) l low))

-- If two fields of `k` bits do not overlap, then replacing one of them does not change the other.
pub other_fields_stay : (w r k v s : ℕ) → (s + k ≤ r) ⊎ (r + k ≤ s) → field_of (with_field w r k v) s k ≡ field_of w s k
other_fields_stay w r k v s away =
    let outer : w / 2 ^ r * 2 ^ r + w % 2 ^ r ≡ w = div-add-mod' w (2 ^ r) in
    let whole : (w / 2 ^ r / 2 ^ k * 2 ^ k + (w / 2 ^ r) % 2 ^ k) * 2 ^ r + w % 2 ^ r ≡ w = ap
    (λ x. x * 2 ^ r + w % 2 ^ r) (div-add-mod' (w / 2 ^ r) (2 ^ k)) ∙ outer in
    let low : w % 2 ^ r < 2 ^ r = mod-lt w (pow_pos r) in
    let new : v % 2 ^ k < 2 ^ k = mod-lt v (pow_pos k) in
    let old : (w / 2 ^ r) % 2 ^ k < 2 ^ k = mod-lt (w / 2 ^ r) (pow_pos k) in
    ap (λ x. field_of x s k) (with_field-parts w r k v) ∙ elim away [
      | inl below ↦ field_below (w / 2 ^ r / 2 ^ k * 2 ^ k + v % 2 ^ k) (w % 2 ^ r) r s k below
          ∙ sym (field_below (w / 2 ^ r) (w % 2 ^ r) r s k below) ∙ ap (λ x. field_of x s k) outer
      | inr above ↦ field_twice (w / 2 ^ r / 2 ^ k) (v % 2 ^ k) (w % 2 ^ r) r s k new low above
          ∙ sym (field_twice (w / 2 ^ r / 2 ^ k) ((w / 2 ^ r) % 2 ^ k) (w % 2 ^ r) r s k old low above) ∙ ap (λ x. field_of x s k) whole
    ]
  where
    field_twice : (h u l r s k : ℕ) → u < 2 ^ k → l < 2 ^ r → r + k ≤ s → field_of ((h * 2 ^ k + u) * 2 ^ r + l) s k ≡ field_of h (s - r - k) k
    field_twice h u l r s k fit low place =
        field_above (h * 2 ^ k + u) l r s k low (omega arith) ∙ field_above h u k (s - r) k fit (omega arith)
