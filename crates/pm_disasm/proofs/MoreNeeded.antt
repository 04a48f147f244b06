-- Parts that use more jump table entries than the table has.
use Rattle.std.proofs.Common.{◌≡◌, ℕ, Bool, true, max, List, [], ◌∷◌, ◌++◌, arith}
use Rattle.pm_code.specs.Item.{Item}
use Rattle.pm_code.specs.Program.{entries_needed}
use Rattle.pm_disasm.specs.Split.{Part}
use Rattle.pm_disasm.specs.Follow.{item_led, items_or_bytes, written_by}

both_need : (xs ys : List (Item ℕ)) → entries_needed (xs ++ ys) ≡ max (entries_needed xs) (entries_needed ys)
both_need [] ys = omega arith
both_need (x ∷ xs) ys = omega (arith, both_need xs ys)

-- The number of entries that `p` and the parts `ps` after it need is the maximum of both numbers.
pub part_needs : (test : ℕ → Bool) (p : Part) (ps : List Part)
    → entries_needed (written_by test true (p ∷ ps))
    ≡ max (entries_needed (items_or_bytes p.bytes (item_led test true p.item))) (entries_needed (written_by test true ps))
part_needs test p ps = both_need (items_or_bytes p.bytes (item_led test true p.item)) (written_by test true ps)
