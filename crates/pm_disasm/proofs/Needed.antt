-- The number of entries that parts need, computed part by part.
use Rattle.std.proofs.Common.{◌≡◌, ℕ, Bool, true, max, List, [], ◌∷◌, ◌++◌, map, refl, sym, ap, ◌∙◌, arith, Option, Some, None}
use Rattle.pm_code.specs.Item.{Item}
use Rattle.pm_code.specs.Item.Item.{OneByte}
use Rattle.pm_code.specs.Program.{entries_needed, entries_used}
use Rattle.pm_disasm.specs.Split.{Part}
use Rattle.pm_disasm.specs.Follow.{item_led, items_or_bytes, written_by}

bytes_need : (bs : List ℕ) (rest : List (Item ℕ)) → entries_needed (map OneByte bs ++ rest) ≡ entries_needed rest
bytes_need [] rest = refl
bytes_need (b ∷ bs) rest = omega (arith, bytes_need bs rest)

abbrev pub used_by : Option (Item ℕ) → ℕ
used_by None = 0
used_by (Some item) = entries_used item

items_need : (bs : List ℕ) (o : Option (Item ℕ)) (rest : List (Item ℕ)) → entries_needed (items_or_bytes bs o ++ rest) ≡ max (used_by o) (entries_needed rest)
items_need bs None rest = omega (arith, bytes_need bs rest)
items_need bs (Some item) rest = refl

-- If the number for part `p` is included, then the maximum with the number for the remaining parts is unchanged.
pub needed_step : (test : ℕ → Bool) (p : Part) (ps : List Part) (n u whole : ℕ) (o : Option (Item ℕ)) → o ≡ item_led test true p.item → u ≡ used_by o
    → max n (entries_needed (written_by test true (p ∷ ps))) ≡ whole
    → max (max u n) (entries_needed (written_by test true ps)) ≡ whole
needed_step test p ps n u whole o e s h =
    let rest : List (Item ℕ) = written_by test true ps in
    let more : entries_needed (items_or_bytes p.bytes (item_led test true p.item) ++ rest) ≡ max (used_by o) (entries_needed rest) =
    ap (λ k. entries_needed (items_or_bytes p.bytes k ++ rest)) (sym e) ∙ items_need p.bytes o rest in
    omega (arith, s, more, h)
