-- The addresses of loaded segments.
use Rattle.std.specs.Prelude.{ℕ, ◌≤◌, List, Option, Some, None, slice_get}
use Rattle.pm_calls.specs.declared.registers.Registers.{Registers}
use Rattle.pm_calls.specs.declared.frames.KeptTable.{KeptTable}
use Rattle.pm_calls.specs.declared.frames.SegmentPlace.{SegmentPlace}
use Rattle.pm_words.specs.declared.layout.TheConstants.{HIGHEST_WORD}

-- What contracts state about `Frames`: the entry of each of the 16 slots, the cached frames (bases), and the cached
-- tables.
pub record Standing : Type 0 where
  pub places : List (Option SegmentPlace)
  pub bases : List ℕ
  pub kept : List KeptTable

-- The part of the machine's state that calls and returns use.
pub record Parts : Type 0 where
  pub memory : List ℕ
  pub registers : Registers
  pub places : List (Option SegmentPlace)

-- The part of the state with the given memory, registers and entries of the slots.
abbrev pub seen : List ℕ → Registers → List (Option SegmentPlace) → Parts
seen memory registers places = record { memory = memory; registers = registers; places = places }

abbrev pub place_in : Option (Option SegmentPlace) → Option (ℕ × ℕ)
place_in None = None
place_in (Some None) = None
place_in (Some (Some p)) = Some (p.place, p.count)

-- The address of the segment of slot `n` and the number of its calls, or `None` if the segment is not loaded or `n` is
-- above 15.
abbrev pub placed : List (Option SegmentPlace) → ℕ → Option (ℕ × ℕ)
placed places n = place_in (slice_get places n)

abbrev pub keeps_in : Option (Option SegmentPlace) → Option ℕ
keeps_in None = None
keeps_in (Some None) = Some 0
keeps_in (Some (Some p)) = Some p.keeps

-- The number of keep requests for the segment of slot `n`: 0 if the segment is not loaded, and `None` if `n` is above
-- 15.
abbrev pub keeps_of : List (Option SegmentPlace) → ℕ → Option ℕ
keeps_of places n = keeps_in (slice_get places n)

-- If the slot has a segment, then its highest word is below the end of the stack.
abbrev pub IsLow : Option SegmentPlace → Type 0
IsLow None = Unit {0}
IsLow (Some p) = p.place ≤ HIGHEST_WORD
