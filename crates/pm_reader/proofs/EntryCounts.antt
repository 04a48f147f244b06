-- Laws of the number of jump table entries that rows use, row by row.
use Rattle.std.proofs.Common.{◌≡◌, ℕ, List, [], ◌∷◌, ◌++◌, ◌∙◌, max, ap, sym, arith}
use Rattle.pm_code.specs.Item.{Item}
use Rattle.pm_code.specs.Program.{entries_needed}
use Rattle.pm_source.specs.Source.{Name, Row, row_items, items_of, entries_used}

needed-append : (xs ys : List (Item Name)) → entries_needed (xs ++ ys) ≡ max (entries_needed xs) (entries_needed ys)
needed-append [] ys = omega arith
needed-append (x ∷ xs) ys = omega (arith, needed-append xs ys)

-- The number of entries that some rows use is the maximum of the number for the first row and the number for the
-- others.
used-cons : (row : Row) (rows : List Row) → entries_used (row ∷ rows) ≡ max (entries_needed (row_items row)) (entries_used rows)
used-cons row rows = needed-append (row_items row) (items_of rows)

max-assoc : (a b c : ℕ) → max (max a b) c ≡ max a (max b c)
max-assoc a b c = omega arith

-- If the maximum so far is updated by one more row, then the maximum for all rows does not change.
pub used-more : (most : ℕ) (row : Row) (rows : List Row) → max (max most (entries_needed (row_items row))) (entries_used rows)
    ≡ max most (entries_used (row ∷ rows))
used-more most row rows = max-assoc most (entries_needed (row_items row)) (entries_used rows) ∙ ap (max most) (sym (used-cons row rows))
