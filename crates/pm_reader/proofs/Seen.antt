-- Laws of tests of values of the code and of the definitions.
use Rattle.std.proofs.Common.{◌≡◌, ℕ, zero, suc, ◌-◌, Bool, List, [], ◌∷◌, length, map, refl, ap, arith}
use Rattle.std.specs.Prelude.{◌||◌, Some, slice_get}
use Rattle.pm_reader.specs.declared.source.LabelledSegment.{LabelledSegment}
use Rattle.pm_reader.specs.Views.{labelled_procedure, labelled_segments}
use Rattle.pm_source.specs.Faults.{procedure_count}
use Rattle.std.specs.List.{list_any}
use Rattle.std.proofs.lemmas.List.{length-map}

-- A test is true for one of the mapped values if and only if it is true, after the map, for one of the values.
pub any_of_views : {A B : Type 0} (p : B → Bool) (view : A → B) (xs : List A) → list_any p (map view xs) ≡ list_any (λ x. p (view x)) xs
any_of_views p view [] = refl
any_of_views p view (x ∷ xs) = ap (λ b. p (view x) || b) (any_of_views p view xs)

-- The number of procedures of the last segment in the code is the number in the definitions.
count_at : (ss : List LabelledSegment) (i : ℕ) (last : LabelledSegment) → suc i ≡ length ss → slice_get ss i ≡ Some last
    → length last.procedures.items ≡ procedure_count (labelled_segments ss)
count_at [] i last e h = absurd (omega (arith, e))
count_at (s ∷ []) zero last e h = cc (length-map last.procedures.items labelled_procedure)
count_at (s ∷ []) (suc i) last e h = absurd (omega (arith, e))
count_at (s ∷ t ∷ ss) zero last e h = absurd (omega (arith, e))
count_at (s ∷ t ∷ ss) (suc i) last e h = count_at (t ∷ ss) i last (omega (arith, e)) h

pub count_of_last : (ss : List LabelledSegment) (last : LabelledSegment) → slice_get ss (length ss - 1) ≡ Some last
    → length last.procedures.items ≡ procedure_count (labelled_segments ss)
count_of_last [] last h = absurd (cc)
count_of_last (s ∷ ss) last h = count_at (s ∷ ss) (length (s ∷ ss) - 1) last (omega arith) h
