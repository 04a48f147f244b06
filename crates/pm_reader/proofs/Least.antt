-- Laws which state that the end of code is not before its beginning.
use Rattle.std.proofs.Common.{◌≡◌, ◌<◌, ◌≤◌, ℕ, List, [], ◌∷◌, map, arith}
use Rattle.pm_code.proofs.Counted.{end_after}
use Rattle.pm_code.specs.Program.{end_of}
use Rattle.pm_source.specs.Source.{Row, code_end, row_items}

pub code_after : (at : ℕ) (rows : List Row) → at ≤ code_end at rows
code_after at [] = omega arith
code_after at (row ∷ rows) = let a = end_after at (row_items row) in let b = code_after (end_of at (row_items row)) rows in omega arith

-- If the end of the first remaining row exceeds `most`, then the end of the code exceeds `most`.
pub too_long_row : {A : Type 0} (f : A → Row) (most at end : ℕ) (rows : List A) (row : A) (rest : List A) → rows ≡ row ∷ rest → code_end at (map f rows) ≡ end
    → most < end_of at (row_items (f row)) → most < end
too_long_row f most at end rows row rest e all h =
    let after = code_after (end_of at (row_items (f row))) (map f rest) in
    let whole = rw e at all in
    omega arith
