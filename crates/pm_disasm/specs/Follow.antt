-- The items that are shown for parts of code. Here a test, and not a list, decides which offsets are boundaries.
use Rattle.std.specs.Prelude.{◌≡◌, ◌≤◌, ℕ, ◌+◌, Bool, ◌&&◌, ◌==◌, List, [], ◌∷◌, ◌++◌}
use Rattle.std.specs.Prelude.{length, map, if◌then◌else◌, codes, Option, Some, None, IfSome}
use Rattle.std.specs.List.{list_all}
use Rattle.pm_code.specs.Item.{Item, size}
use Rattle.pm_code.specs.Item.Item.{OneByte}
use Rattle.pm_code.specs.Program.{item_places}
use Rattle.pm_code.specs.Shown.{label_text, put_if, shown_item}
use Rattle.pm_disasm.specs.Split.{Part, is_allowed_item}

abbrev pub Items : Type 0
Items = List (Item ℕ)

-- Is true if the parts are adjacent from offset `at` to `end`, and each item has the size of the bytes of its part.
abbrev pub Follow : ℕ → ℕ → List Part → Type 0
Follow at end [] = at ≡ end
Follow at end (p ∷ ps) =
    (p.at ≡ at) × ((at + length p.bytes ≤ end) × (IfSome p.item (λ item. size at item ≡ length p.bytes)
    × Follow (at + length p.bytes) end ps))

-- Is true if the jumps of `item` can be shown: each one to an offset that passes `test`, or through an entry if
-- `allowed`.
abbrev pub leading : (ℕ → Bool) → Bool → Item ℕ → Bool
leading test allowed item = is_allowed_item allowed item && list_all test (item_places item)

abbrev pub item_led : (ℕ → Bool) → Bool → Option (Item ℕ) → Option (Item ℕ)
item_led test allowed None = None
item_led test allowed (Some item) = if leading test allowed item then Some item else None

abbrev pub items_or_bytes : List ℕ → Option (Item ℕ) → List (Item ℕ)
items_or_bytes bytes None = map OneByte bytes
items_or_bytes bytes (Some item) = item ∷ []

abbrev pub written_by : (ℕ → Bool) → Bool → List Part → List (Item ℕ)
written_by test allowed [] = []
written_by test allowed (p ∷ ps) = items_or_bytes p.bytes (item_led test allowed p.item) ++ written_by test allowed ps

-- The lines before offset `at`: its label if `test` holds for `at`, and `.EXIT` if the exit code begins at `at`.
abbrev pub lines_at_by : (ℕ → Bool) → ℕ → ℕ → List (List ℕ) → List (List ℕ)
lines_at_by test exit at rest = put_if (test at) (label_text at ++ 58 ∷ []) (put_if (exit == at) (codes ".EXIT") rest)

abbrev pub code_lines_by : (ℕ → Bool) → ℕ → ℕ → List (Item ℕ) → List (List ℕ)
code_lines_by test exit at [] = lines_at_by test exit at []
code_lines_by test exit at (item ∷ items) =
    lines_at_by test exit at ((32 ∷ 32 ∷ shown_item item) ∷ code_lines_by test exit (at + size at item) items)
