-- The instruction at each offset of a segment.
use Rattle.std.specs.Prelude.{◌≡◌, true, ◌<◌, ◌≤◌, ℕ, ◌+◌, ◌-◌, ◌^◌, ◌&&◌, nat_lt, nat_le, List, [], ◌∷◌}
use Rattle.std.specs.Prelude.{length, map, drop, get_or, if◌then◌else◌, Option, Some, None, option_map}
use Rattle.std.specs.List.{list_any}
use Rattle.pm_disasm.specs.declared.decoded.Decoded.{Decoded}
use Rattle.pm_disasm.specs.declared.front.Front.{Front}
use Rattle.pm_disasm.specs.declared.places.PlaceSet.{PlaceSet}
use Rattle.pm_code.specs.Item.{Item}
use Rattle.pm_code.specs.Program.{entries_used}
use Rattle.pm_disasm.specs.Split as split
use Rattle.pm_disasm.specs.Views.{front_seen, has}

-- The instruction at each offset of `bytes`, the first of which has the offset `at`.
abbrev pub fronts_of : ℕ → List ℕ → List (Option split.Front)
fronts_of at [] = []
fronts_of at (b ∷ bytes) = split.front at (b ∷ bytes) ∷ fronts_of (at + 1) bytes

-- Is true if `fronts` contains the instruction at each offset of `segment`.
abbrev pub AreFronts : List (Option Front) → List ℕ → Type 0
AreFronts fronts segment = map (option_map front_seen) fronts ≡ fronts_of 0 segment

-- The given instruction if it has at most `n` bytes, else `None`.
abbrev pub up_to : ℕ → Option split.Front → Option split.Front
up_to n None = None
up_to n (Some f) = if nat_le f.size n then Some f else None

-- States that `fronts` determines the instruction at each offset of `bytes`: it is the element at this offset if that
-- instruction ends inside `bytes`, else `None`.
pub record TellFronts (fronts : List (Option Front)) (bytes : List ℕ) : Type 0 where
  pub long : length bytes ≤ length fronts
  pub each : (at : ℕ) → at < length bytes → up_to (length bytes - at) (option_map front_seen (get_or fronts at None))
      ≡ split.front at (drop at bytes)

-- Is true if `next` summarizes the offsets `forced` after `at`. For any `end`, an offset of `forced` is strictly
-- between `at` and `end` if and only if `next` is before `end`.
abbrev pub IsNextCut : List ℕ → ℕ → ℕ → Type 0
IsNextCut forced at next =
    (end : ℕ) → end < 2 ^ 64 → list_any (λ place. nat_lt at place && nat_lt place end) forced ≡ nat_lt next end

-- The number of entries that a jump table must have for an item, or 0 if no item is given.
abbrev pub item_count : Option (Item ℕ) → ℕ
item_count None = 0
item_count (Some item) = entries_used item

abbrev pub front_count : Option split.Front → ℕ
front_count None = 0
front_count (Some f) = item_count f.item

-- States that `counts` contains each number of entries up to 60 that an instruction before the offset `end` uses.
abbrev pub HasCounts : PlaceSet → List (Option Front) → ℕ → Type 0
HasCounts counts fronts end =
    (at : ℕ) → at < end → front_count (option_map front_seen (get_or fronts at None)) ≤ 60
    → has counts (front_count (option_map front_seen (get_or fronts at None))) ≡ true

-- States that `d` has the instructions of `segment`, and the numbers of entries that they use.
pub record IsDecoded (d : Decoded) (segment : List ℕ) : Type 0 where
  pub fronts : AreFronts d.fronts.items segment
  pub counts : HasCounts d.counts d.fronts.items (length d.fronts.items)
  pub none : has d.counts 0 ≡ true
