-- The models of the values of the code: how contracts describe sets of offsets, items, instructions and parts of src/.
use Rattle.std.specs.Prelude.{◌≡◌, ◌<◌, ◌≤◌, ℕ, ◌+◌, ◌-◌, length, Bool, false, nat_le, ◌&&◌, get_or, List, option_map}
use Rattle.pm_words.specs.Words.{words_of}
use Rattle.pm_disasm.specs.declared.found.Found.{Found}
use Rattle.pm_disasm.specs.declared.found.Found.TheVariants as kinds
use Rattle.pm_disasm.specs.declared.front.Front.{Front}
use Rattle.pm_disasm.specs.declared.parts.Part.{Part}
use Rattle.pm_disasm.specs.declared.places.PlaceSet.{PlaceSet}
use Rattle.pm_code.specs.Item as model
use Rattle.pm_code.specs.Item.Item.{Plain, Jump, Case}
use Rattle.pm_code.specs.Views.{placed_target}
use Rattle.pm_code.specs.Program.{is_among}
use Rattle.pm_disasm.specs.Split as split

abbrev pub found_seen : Found → model.Item ℕ
found_seen (kinds.Plain instr named) = Plain instr named.now
found_seen (kinds.Jump op target) = Jump op (placed_target target)
found_seen (kinds.Case low high otherwise table) =
    Case low high (placed_target otherwise) (split.table_places table.at (words_of table.words.now))

abbrev pub front_seen : Front → split.Front
front_seen f = record { size = f.size; item = option_map found_seen f.item }

abbrev pub part_seen : Part → split.Part
part_seen p = record { at = p.at; bytes = p.bytes.now; item = option_map found_seen p.item }

-- Is true if the offset `place` is in the set `s`.
abbrev pub has : PlaceSet → ℕ → Bool
has s place = nat_le s.begin place && get_or s.marks.items (place - s.begin) false

-- Is true if the set `s` contains exactly the offsets `places`.
abbrev pub IsSetOf : PlaceSet → List ℕ → Type 0
IsSetOf s places = (place : ℕ) → has s place ≡ is_among places place

-- Is true if the set `s` can contain the offset `place`.
abbrev pub IsInside : PlaceSet → ℕ → Type 0
IsInside s place = (s.begin ≤ place) × (place < s.begin + length s.marks.items)

-- Is true if the sets `s` and `t` can contain the same range of offsets.
abbrev pub IsAlike : PlaceSet → PlaceSet → Type 0
IsAlike s t = (s.begin ≡ t.begin) × (length s.marks.items ≡ length t.marks.items)
