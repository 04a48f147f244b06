-- Hints for a program that does not start.
use Rattle.std.specs.Prelude.{ℕ, ◌-◌, ◌==◌, ◌&&◌, nat_le, Bool, false, List, Option, None, Some, length, slice_index}

-- Is true if the slot has a segment whose number is `number`. The number of a segment is the low byte of its highest
-- word.
abbrev pub has_number : ℕ → Option (List ℕ) → Bool
has_number number None = false
has_number number (Some segment) = nat_le 2 (length segment) && slice_index segment (length segment - 2) == number
