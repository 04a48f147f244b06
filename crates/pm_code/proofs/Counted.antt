-- Bounds for the ends of items and procedures. They prove that code is too long if an addition of its sizes overflows.
use Rattle.std.proofs.Common.{◌≡◌, ◌+◌, ◌*◌, ◌<◌, ◌≤◌, ℕ, List, [], ◌∷◌, map, arith}
use Rattle.pm_code.specs.Item.{Item, size}
use Rattle.pm_code.specs.Program.{FollowFrom, Procedure, end_of, jtab_of, procedures_end}

pub end_after : {P : Type 0} (at : ℕ) (items : List (Item P)) → at ≤ end_of at items
end_after at [] = omega arith
end_after at (item ∷ items) = let h = end_after (at + size at item) items in omega arith

-- If the item that is next ends after `most`, then the end of all items is after `most`.
pub too_long_item : {A P : Type 0} (f : A → Item P) (most at end : ℕ) (items : List A) (item : A) (rest : List A) → items ≡ item ∷ rest
    → end_of at (map f items) ≡ end
    → most < at + size at (f item) → most < end
too_long_item f most at end items item rest e all h =
    let after = end_after (at + size at (f item)) (map f rest) in
    let whole = rw e at all in
    omega arith

-- Procedures that begin at offset `at` and follow one another end at `at` or later.
pub procedures_after : (at : ℕ) (ps : List Procedure) → FollowFrom at ps → at ≤ procedures_end at ps
procedures_after at [] h = omega arith
procedures_after at (p ∷ ps) h =
    let code = end_after p.start p.items in
    let rest = procedures_after (jtab_of p + 2) ps h.1 in
    omega (arith, h.0, code, rest)
