-- Blocks that look like a code file.
use Rattle.std.specs.Prelude.{◌==◌, ◌+◌, ◌&&◌, ◌||◌, Bool, true, nat_le, ℕ, zero, suc, List, max, Option, Some, None}
use Rattle.std.specs.Prelude.{if◌then◌else◌}
use Rattle.std.specs.List.{list_all}
use Rattle.std.specs.Option.{is_none}
use Rattle.pm_bytes.specs.Blocks.{blocks_for}
use Rattle.pm_codefile.specs.Dictionary.{file_fault, slot_in}
use Rattle.pm_codefile.specs.declared.file.Slot.{Slot}

-- Is true for a printable character: 32 to 126.
abbrev pub is_printable : ℕ → Bool
is_printable byte = nat_le 32 byte && nat_le byte 126

-- Is true if a slot of a dictionary is likely: it has no segment, or its segment begins after the dictionary and the
-- eight characters of its name are printable.
abbrev pub is_likely : Slot → Bool
is_likely slot = (slot.length == 0) || (nat_le 1 slot.block && list_all is_printable slot.name)

-- The number of the first block after the segment of a slot. It is 0 if the slot has no segment.
abbrev pub end_of : Slot → ℕ
end_of slot = if slot.length == 0 then 0 else slot.block + blocks_for slot.length

-- The same for a slot that may not exist.
abbrev pub is_slot_likely : Option Slot → Bool
is_slot_likely None = true
is_slot_likely (Some slot) = is_likely slot

abbrev pub end_of_slot : Option Slot → ℕ
end_of_slot None = 0
end_of_slot (Some slot) = end_of slot

-- Is true if `left` slots of the dictionary of `file` are likely, from slot `n` on.
unfoldable pub are_likely : List ℕ → ℕ → ℕ → Bool
are_likely file n zero = true
are_likely file n (suc left) = is_slot_likely (slot_in file n) && are_likely file (n + 1) left

-- The number of the first block after all segments of `left` slots, from slot `n` on. It is 0 if they have no segment.
unfoldable pub last_end : List ℕ → ℕ → ℕ → ℕ
last_end file n zero = 0
last_end file n (suc left) = max (end_of_slot (slot_in file n)) (last_end file (n + 1) left)

-- The number of blocks of the code file with which the bytes `file` seem to begin: its dictionary has no fault, all of
-- its 16 slots are likely, and a slot has a segment. It is 0 if the bytes do not look like a code file. The segments
-- are within `file`, otherwise the dictionary has a fault.
abbrev pub code_size : List ℕ → ℕ
code_size file = if is_none (file_fault file) && are_likely file 0 16 then last_end file 0 16 else 0
