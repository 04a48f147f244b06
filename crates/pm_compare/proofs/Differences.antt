-- Laws of the comparison of two files.
use Rattle.std.proofs.Common.{◌≡◌, ◌≢◌, ◌↔◌, ◌==◌, ◌+◌, ◌∙◌, ℕ, zero, suc, Bool, true, false, cond, List, [], ◌∷◌, None, Some, take, slice_get, refl, ap, ap₂, sym, subst, arith}
use Rattle.std.specs.Prelude.{if◌then◌else◌}
use Rattle.std.specs.Str.{bytes_eq}
use Rattle.std.proofs.lemmas.Bool.{eq-eqb, eqb-false, eqb-true, false_from_ne_true, ne_eqb}
use Rattle.std.proofs.lemmas.Bool.Decides.{not_from_Decides}
use Rattle.std.proofs.lemmas.Option.{none-some, same_Some}
use Rattle.std.proofs.lemmas.Slice.Eq.{bytes_eq-Decides}
use Rattle.pm_compare.specs.Verdicts.{agreeing, verdict_of}
use Rattle.pm_compare.specs.Worked.{IsFirstDifference}
use Rattle.pm_compare.specs.declared.verdicts.Verdict.{Verdict}
use Rattle.pm_compare.specs.declared.verdicts.Verdict.TheVariants as verdicts

-- ---- the first difference

one_more : (n : ℕ) → 1 + n ≡ suc n
one_more n = omega arith

before : (left right : List ℕ) → take (agreeing left right) left ≡ take (agreeing left right) right
before [] [] = refl
before [] (y ∷ right) = refl
before (x ∷ left) [] = refl
before (x ∷ left) (y ∷ right) = by (x == y) refl (before left right)
  where
    by : (b : Bool) → (x == y) ≡ b → take (agreeing left right) left ≡ take (agreeing left right) right
        → take (cond b (1 + agreeing left right) 0) (x ∷ left) ≡ take (cond b (1 + agreeing left right) 0) (y ∷ right)
    by true same rest =
        ap (λ (k : ℕ). take k (x ∷ left)) (one_more (agreeing left right))
        ∙ ap₂ (λ (z : ℕ) (zs : List ℕ). z ∷ zs) (eqb-true x y same) rest
        ∙ sym (ap (λ (k : ℕ). take k (y ∷ right)) (one_more (agreeing left right)))
    by false other rest = refl

apart : (left right : List ℕ) → left ≢ right → slice_get left (agreeing left right) ≢ slice_get right (agreeing left right)
apart [] [] other = λ e. other refl
apart [] (y ∷ right) other = λ e. none-some y e
apart (x ∷ left) [] other = λ e. none-some x (sym e)
apart (x ∷ left) (y ∷ right) other = by (x == y) refl (apart left right)
  where
    by : (b : Bool) → (x == y) ≡ b
        → (left ≢ right → slice_get left (agreeing left right) ≢ slice_get right (agreeing left right))
        → slice_get (x ∷ left) (cond b (1 + agreeing left right) 0) ≢ slice_get (y ∷ right) (cond b (1 + agreeing left right) 0)
    by true same later = λ e.
        later (λ rest. other (ap₂ (λ (z : ℕ) (zs : List ℕ). z ∷ zs) (eqb-true x y same) rest))
        (sym (ap (slice_get (x ∷ left)) (one_more (agreeing left right))) ∙ e ∙ ap (slice_get (y ∷ right)) (one_more (agreeing left right)))
    by false unlike later = λ e. eqb-false x y unlike (same_Some x y e)

place_is : (left right : List ℕ) (place : ℕ) → take place left ≡ take place right → slice_get left place ≢ slice_get right place
    → agreeing left right ≡ place
place_is [] [] place front other = absurd (other refl)
place_is [] (y ∷ right) zero front other = refl
place_is [] (y ∷ right) (suc place) front other = absurd (cc)
place_is (x ∷ left) [] zero front other = refl
place_is (x ∷ left) [] (suc place) front other = absurd (cc)
place_is (x ∷ left) (y ∷ right) zero front other =
    ap (λ b. cond b (1 + agreeing left right) 0) (ne_eqb x y (λ e. other (ap (λ (z : ℕ). Some z) e)))
place_is (x ∷ left) (y ∷ right) (suc place) front other =
    let same : x ≡ y = cc in
    let rest : take place left ≡ take place right = cc in
    ap (λ b. cond b (1 + agreeing left right) 0) (eq-eqb x y same)
    ∙ one_more (agreeing left right) ∙ ap (λ (n : ℕ). suc n) (place_is left right place rest other)

-- ---- verdicts

abbrev chosen : Bool → Bool → ℕ → Verdict
chosen bytes kinds place = if bytes then (if kinds then verdicts.Same else verdicts.Kind) else verdicts.Byte place

same_from : (left right : List ℕ) (kind other : ℕ) → verdict_of left kind right other ≡ verdicts.Same → (left ≡ right) × (kind ≡ other)
same_from left right kind other = by (bytes_eq left right) (kind == other) refl refl
  where
    by : (bytes kinds : Bool) → bytes_eq left right ≡ bytes → (kind == other) ≡ kinds
        → chosen bytes kinds (agreeing left right) ≡ verdicts.Same → (left ≡ right) × (kind ≡ other)
    by true true b k e = ((bytes_eq-Decides left right).0 b, eqb-true kind other k)
    by true false b k e = absurd (cc)
    by false kinds b k e = absurd (cc)

to_same : (left right : List ℕ) (kind other : ℕ) → (left ≡ right) × (kind ≡ other) → verdict_of left kind right other ≡ verdicts.Same
to_same left right kind other p =
    let b = (bytes_eq-Decides left right).1 p.0 in
    let k = eq-eqb kind other p.1 in
    rw (b, k) refl

kind_from : (left right : List ℕ) (kind other : ℕ) → verdict_of left kind right other ≡ verdicts.Kind → (left ≡ right) × (kind ≢ other)
kind_from left right kind other = by (bytes_eq left right) (kind == other) refl refl
  where
    by : (bytes kinds : Bool) → bytes_eq left right ≡ bytes → (kind == other) ≡ kinds
        → chosen bytes kinds (agreeing left right) ≡ verdicts.Kind → (left ≡ right) × (kind ≢ other)
    by true true b k e = absurd (cc)
    by true false b k e = ((bytes_eq-Decides left right).0 b, eqb-false kind other k)
    by false kinds b k e = absurd (cc)

to_kind : (left right : List ℕ) (kind other : ℕ) → (left ≡ right) × (kind ≢ other) → verdict_of left kind right other ≡ verdicts.Kind
to_kind left right kind other p =
    let b = (bytes_eq-Decides left right).1 p.0 in
    let k = ne_eqb kind other p.1 in
    rw (b, k) refl

byte_from : (left right : List ℕ) (kind other place : ℕ) → verdict_of left kind right other ≡ verdicts.Byte place
    → IsFirstDifference left right place
byte_from left right kind other place = by (bytes_eq left right) (kind == other) refl
  where
    by : (bytes kinds : Bool) → bytes_eq left right ≡ bytes → chosen bytes kinds (agreeing left right) ≡ verdicts.Byte place
        → IsFirstDifference left right place
    by true true b e = absurd (cc)
    by true false b e = absurd (cc)
    by false kinds b e =
        let is : agreeing left right ≡ place = cc in
        subst (IsFirstDifference left right) is (record {
          before = before left right;
          apart = apart left right (not_from_Decides (bytes_eq left right) (bytes_eq-Decides left right) b);
        })

to_byte : (left right : List ℕ) (kind other place : ℕ) → IsFirstDifference left right place
    → verdict_of left kind right other ≡ verdicts.Byte place
to_byte left right kind other place is =
    let b = false_from_ne_true (bytes_eq left right)
    (λ yes. is.apart (ap (λ (xs : List ℕ). slice_get xs place) ((bytes_eq-Decides left right).0 yes))) in
    rw b (ap (λ (n : ℕ). verdicts.Byte n) (place_is left right place is.before is.apart))

pub same_law : (left right : List ℕ) (kind other : ℕ) → (verdict_of left kind right other ≡ verdicts.Same) ↔ ((left ≡ right) × (kind ≡ other))
same_law left right kind other = (same_from left right kind other, to_same left right kind other)

pub kind_law : (left right : List ℕ) (kind other : ℕ) → (verdict_of left kind right other ≡ verdicts.Kind) ↔ ((left ≡ right) × (kind ≢ other))
kind_law left right kind other = (kind_from left right kind other, to_kind left right kind other)

pub byte_law : (left right : List ℕ) (kind other place : ℕ)
    → (verdict_of left kind right other ≡ verdicts.Byte place) ↔ IsFirstDifference left right place
byte_law left right kind other place = (byte_from left right kind other place, to_byte left right kind other place)
