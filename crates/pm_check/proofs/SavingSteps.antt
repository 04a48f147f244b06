-- Laws for one iteration of the loops over slots and files.
use Rattle.std.proofs.Common.{◌≡◌, ◌<◌, ◌≤◌, ℕ, zero, suc, ◌+◌, ◌-◌, true, false, ltb, List, [], ◌∷◌, ◌++◌, length, drop, take, get_or}
use Rattle.std.proofs.Common.{Option, None, Some, add-one, ap, append_assoc, arith, refl, inl, inr}
use Rattle.std.proofs.Math.Seq.{drop-cons}
use Rattle.std.proofs.lemmas.Bool.{cases_Bool, le-ltb, lt-ltb}
use Rattle.std.proofs.lemmas.List.{take_more}
use Rattle.pm_check.specs.declared.finding.SlotFinding.{SlotFinding}
use Rattle.pm_volume.specs.Directory.{entry_in}
use Rattle.pm_volume.specs.declared.entry.Entry.{Entry}
use Rattle.pm_check.specs.declared.believing.Taken.{Taken}
use Rattle.pm_check.specs.Believing.{blocks_of, is_empty, left_from, left_of, placed, taken_from, taken_with, why_left}

module _ (directory : List ℕ) (lowest blocks n end : ℕ) where
  pub left_from-more : n < end
      → left_from directory lowest blocks n (end - n)
      ≡ left_of n (is_empty (entry_in directory n)) (why_left lowest blocks (entry_in directory n))
      ++ left_from directory lowest blocks (n + 1) (end - (n + 1))
  unfolding left_from
  left_from-more below =
      let e : end - n ≡ suc (end - (n + 1)) = omega arith in
      rw e

  pub left_from-done : end ≤ n → left_from directory lowest blocks n (end - n) ≡ []
  unfolding left_from
  left_from-done over =
      let e : end - n ≡ 0 = omega arith in
      rw e

  pub taken_from-more : (taken : List Taken) → n < end
      → taken_from directory lowest blocks n (end - n) taken
      ≡ taken_from directory lowest blocks (n + 1) (end - (n + 1))
      (taken_with n (entry_in directory n) (why_left lowest blocks (entry_in directory n)) taken)
  unfolding taken_from
  taken_from-more taken below =
      let e : end - n ≡ suc (end - (n + 1)) = omega arith in
      rw e

  pub taken_from-done : (taken : List Taken) → end ≤ n → taken_from directory lowest blocks n (end - n) taken ≡ taken
  unfolding taken_from
  taken_from-done taken over =
      let e : end - n ≡ 0 = omega arith in
      rw e

placed_length : (t : Taken) (ts : List Taken) → length (placed t ts) ≡ length ts + 1
unfolding placed
placed_length t [] = refl
placed_length t (other ∷ others) = elim (cases_Bool (ltb t.entry.first other.entry.first)) [
  | inl before ↦ rw before (omega arith)
  | inr behind ↦ rw behind (omega (arith, placed_length t others))
]

pub taken_length : (n : ℕ) (e : Entry) (why : Option SlotFinding) (ts : List Taken) → length (taken_with n e why ts) ≤ length ts + 1
taken_length n e None ts = omega (arith, placed_length (record { slot = n; entry = e }) ts)
taken_length n e (Some finding) ts = omega arith

-- ---- inserting a file

pub placed-before : (t d : Taken) (ts : List Taken) (i : ℕ) → i < length ts → t.entry.first < (get_or ts i d).entry.first → placed t (drop i ts) ≡ t ∷ drop i ts
unfolding placed
placed-before t d ts i h below =
    let test : ltb t.entry.first (get_or ts i d).entry.first ≡ true = lt-ltb _ _ below in
    rw (drop-cons ts i d h) (rw test refl)

pub placed-behind : (t d : Taken) (ts : List Taken) (i : ℕ) → i < length ts → (get_or ts i d).entry.first ≤ t.entry.first
    → take i ts ++ placed t (drop i ts) ≡ take (i + 1) ts ++ placed t (drop (i + 1) ts)
unfolding placed
placed-behind t d ts i h above =
    let test : ltb t.entry.first (get_or ts i d).entry.first ≡ false = le-ltb _ _ above in
    let next : placed t (drop i ts) ≡ get_or ts i d ∷ placed t (drop (i + 1) ts) = rw (add-one, drop-cons ts i d h) (rw test refl) in
    rw (next, take_more ts i d h, append_assoc) refl

pub placed-last : (t : Taken) (ts : List Taken) (i : ℕ) → length ts ≤ i → take i ts ++ placed t (drop i ts) ≡ ts ++ t ∷ []
unfolding placed
placed-last t [] zero h = refl
placed-last t [] (suc i) h = refl
placed-last t (other ∷ others) zero h = absurd (omega arith)
placed-last t (other ∷ others) (suc i) h = ap (λ ts. other ∷ ts) (placed-last t others i (omega arith))

-- ---- blocks of files

pub blocks-more : (d : Taken) (ts : List Taken) (i : ℕ) → i < length ts
    → blocks_of (drop i ts) ≡ (get_or ts i d).entry.end - (get_or ts i d).entry.first + blocks_of (drop (i + 1) ts)
unfolding blocks_of
blocks-more d ts i h = rw (add-one, drop-cons ts i d h) refl

pub blocks-done : (ts : List Taken) (i : ℕ) → length ts ≤ i → blocks_of (drop i ts) ≡ 0
unfolding blocks_of
blocks-done [] zero h = refl
blocks-done [] (suc i) h = refl
blocks-done (t ∷ ts) zero h = absurd (omega arith)
blocks-done (t ∷ ts) (suc i) h = blocks-done ts i (omega arith)
