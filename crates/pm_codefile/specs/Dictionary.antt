-- The dictionary of a code file is its first block. Its bytes, by offset:
--     0 to 63     16 pairs of words: the block and the length in bytes of each slot
--    64 to 191    16 names of 8 bytes, padded with spaces
--   192 to 223    16 kinds, each a word
--   224 to 511    not read
-- Slot n has the n-th pair, name and kind, counted from 0. It contains the segment with number n. The low byte of a
-- word comes first.
use Rattle.std.specs.Prelude.{◌≡◌, ◌==◌, ◌≤◌, ◌<◌, ◌&&◌, not, nat_lt, ℕ, zero, suc, ◌+◌, ◌*◌, ◌%◌, List, length}
use Rattle.std.specs.Prelude.{slice_range, Option, Some, None, if◌then◌else◌}
use Rattle.std.specs.Option.{option_or}
use Rattle.pm_codefile.specs.declared.fault.CodeFault.{CodeFault}
use Rattle.pm_codefile.specs.declared.fault.CodeFault.TheVariants.{NoDictionary, SlotPastEnd, OddLength}
use Rattle.pm_codefile.specs.declared.file.Slot.{Slot}
use Rattle.pm_bytes.specs.declared.blocks.TheConstants.{BLOCK}
unfoldable pub use Rattle.pm_bytes.specs.Words.{word_in}

-- The number of the block at which the segment of slot `n` begins.
abbrev pub block_in : List ℕ → ℕ → ℕ
block_in file n = word_in file (4 * n)

-- The length of slot `n` in bytes.
abbrev pub length_in : List ℕ → ℕ → ℕ
length_in file n = word_in file (4 * n + 2)

-- The fault of slot `n`, or `None`. Its length is odd, or its length is not 0 and its segment extends past the end of
-- the file.
unfoldable pub slot_fault : List ℕ → ℕ → Option CodeFault
slot_fault file n =
    if not (length_in file n % 2 == 0) then Some (OddLength n)
    else (if nat_lt 0 (length_in file n) && nat_lt (length file) (BLOCK * block_in file n + length_in file n)
    then Some (SlotPastEnd n)
    else None)

-- The first fault of the `left` slots from slot `n` on, or `None` if none of them has a fault.
unfoldable pub first_slot_fault : List ℕ → ℕ → ℕ → Option CodeFault
first_slot_fault file n zero = None
first_slot_fault file n (suc left) = option_or (slot_fault file n) (first_slot_fault file (n + 1) left)

-- The first fault of the file, or `None` if it is a code file.
unfoldable pub file_fault : List ℕ → Option CodeFault
file_fault file = if nat_lt (length file) BLOCK then Some NoDictionary else first_slot_fault file 0 16

-- States that slot `n` has the fault `fault`, and that no slot before it has a fault.
pub record IsFaultOfSlot (file : List ℕ) (n : ℕ) (fault : CodeFault) : Type 0 where
  pub dictionary : BLOCK ≤ length file
  pub slot : n < 16
  pub before : (k : ℕ) → k < n → slot_fault file k ≡ None
  pub there : slot_fault file n ≡ Some fault

-- States that `fault` is the first fault of the file.
abbrev pub IsFirstCodeFault : List ℕ → CodeFault → Type 0
IsFirstCodeFault file NoDictionary = length file < BLOCK
IsFirstCodeFault file (SlotPastEnd n) = IsFaultOfSlot file n (SlotPastEnd n)
IsFirstCodeFault file (OddLength n) = IsFaultOfSlot file n (OddLength n)

-- States that `file` is a code file: it has a dictionary, and no slot has a fault.
pub record IsCodeFile (file : List ℕ) : Type 0 where
  pub dictionary : BLOCK ≤ length file
  pub sound : (n : ℕ) → n < 16 → slot_fault file n ≡ None

-- The contents of slot `n`, or `None` if `n` is above 15.
unfoldable pub slot_in : List ℕ → ℕ → Option Slot
slot_in file n =
    if nat_lt 15 n then None
    else Some (record {
      block = block_in file n;
      length = length_in file n;
      kind = word_in file (192 + 2 * n);
      name = slice_range file (64 + 8 * n) (64 + 8 * n + 8);
    })

-- The segment of slot `n`: its bytes begin at the block of the slot, and their number is the length of the slot. It is
-- `None` if `n` is above 15 or the length is 0.
unfoldable pub segment_in : List ℕ → ℕ → Option (List ℕ)
segment_in file n =
    if nat_lt 15 n then None
    else (if length_in file n == 0 then None
    else Some (slice_range file (BLOCK * block_in file n) (BLOCK * block_in file n + length_in file n)))
