-- Laws of reading operands one after the other, and pieces character by character.
use Rattle.std.proofs.Common.{◌≡◌, ℕ, Bool, true, false, List, [], ◌∷◌, ◌++◌, refl, ap, ◌∙◌, Some, None}
use Rattle.std.specs.Prelude.{◌&&◌}
use Rattle.std.specs.List.{onto_first}
use Rattle.std.proofs.lemmas.List.{append_assoc}
use Rattle.pm_codefile.specs.Segments.{◌>>=◌}
use Rattle.pm_source.specs.Line.{Operand, all_operands}
use Rattle.pm_line.specs.Views.{onto_operands, onto_piece}

and_assoc : (a b c : Bool) → ((a && b) && c) ≡ (a && (b && c))
and_assoc true b c = refl
and_assoc false b c = refl

onto_rest : {A : Type 0} (xs : List A) (good : Bool) (x : A) (b : Bool) (more : Operand (List A))
    → onto_operands (xs ++ (x ∷ [])) (good && b) more ≡ onto_operands xs good (more >>= λ m. Some (x ∷ m.0, b && m.1))
onto_rest xs good x b None = refl
onto_rest xs good x b (Some m) =
    ap (λ l. Some (l, (good && b) && m.1)) (append_assoc xs (x ∷ []) m.0) ∙ ap (λ g. Some (xs ++ (x ∷ m.0), g)) (and_assoc good b m.1)

-- If one more operand is read with the value `x`, then it is put after the operands `xs` that were read.
pub onto_more : {A : Type 0} (f : List ℕ → Operand A) (t : List ℕ) (ts : List (List ℕ)) (xs : List A) (good : Bool) (x : A) (b : Bool) → f t ≡ Some (x, b)
    → onto_operands (xs ++ (x ∷ [])) (good && b) (all_operands f ts) ≡ onto_operands xs good (all_operands f (t ∷ ts))
onto_more f t ts xs good x b e = onto_rest xs good x b (all_operands f ts) ∙ rw e refl

-- If one of the operands is malformed, then the whole list of operands is malformed.
pub onto_none : {A : Type 0} (f : List ℕ → Operand A) (t : List ℕ) (ts : List (List ℕ)) (xs : List A) (good : Bool) → f t ≡ None
    → onto_operands xs good (all_operands f (t ∷ ts)) ≡ None
onto_none f t ts xs good e = rw e refl

-- Putting the character `c` before the pieces, and then `cs`, has the same result as putting `cs` followed by `c`.
pub onto_next : (cs : List ℕ) (c : ℕ) (ps : List (List ℕ)) → onto_piece (cs ++ (c ∷ [])) ps ≡ onto_piece cs (onto_first c ps)
onto_next [] c ps = refl
onto_next (d ∷ cs) c ps = ap (onto_first d) (onto_next cs c ps)

-- If the characters `cs` are put before an empty piece, then `cs` is the first piece.
pub onto_end : (cs : List ℕ) (ps : List (List ℕ)) → onto_piece cs ([] ∷ ps) ≡ cs ∷ ps
onto_end [] ps = refl
onto_end (c ∷ cs) ps = ap (onto_first c) (onto_end cs ps)
