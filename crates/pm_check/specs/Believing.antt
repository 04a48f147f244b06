-- The valid entries of a directory, each checked without regard to the others, and the order in which their files are
-- copied.
use Rattle.std.specs.Prelude.{ℕ, zero, suc, ◌+◌, ◌-◌, ◌==◌, ◌&&◌, ◌||◌, Bool, not, nat_lt, List, [], ◌∷◌, ◌++◌}
use Rattle.std.specs.Prelude.{Option, None, Some, slice_index, if◌then◌else◌}
use Rattle.std.specs.List.{find}
use Rattle.pm_volume.specs.Directory.{entry_in}
use Rattle.pm_volume.specs.declared.entry.Entry.{Entry}
use Rattle.pm_volume.specs.declared.fields.TheConstants.{LONGEST_NAME}
use Rattle.pm_check.specs.Notes.{shares}
use Rattle.pm_check.specs.Rules.{has_wrong_last}
use Rattle.pm_check.specs.declared.finding.SlotFinding.{SlotFinding}
use Rattle.pm_check.specs.declared.finding.SlotFinding.TheVariants as slots
use Rattle.pm_check.specs.declared.believing.Left.{Left}
use Rattle.pm_check.specs.declared.believing.Taken.{Taken}

-- ---- one entry

-- Is true if the slot of the entry `e` is empty: the name has no characters, and the block numbers are 0.
abbrev pub is_empty : Entry → Bool
is_empty e = (slice_index e.name 0 == 0) && (e.first == 0) && (e.end == 0)

-- The first rule that the entry `e` breaks without regard to other entries, or `None`. The image has `blocks` blocks,
-- and its files begin at block `lowest` or later.
unfoldable pub why_left : ℕ → ℕ → Entry → Option SlotFinding
why_left lowest blocks e =
    if nat_lt (slice_index e.name 0) 1 || nat_lt LONGEST_NAME (slice_index e.name 0)
    then Some (slots.Name (slice_index e.name 0))
    else (if nat_lt e.first lowest then Some (slots.First e.first lowest)
    else (if nat_lt e.end e.first then Some (slots.End e.end e.first)
    else (if nat_lt blocks e.end then Some (slots.PastVolume e.end blocks)
    else (if has_wrong_last e then Some (slots.LastBytes e.last_bytes) else None))))

-- ---- the slots

-- The entry in slot `n` as a list, if it breaks a rule and the slot is not empty (`empty` is false). Otherwise the
-- empty list.
abbrev pub left_of : ℕ → Bool → Option SlotFinding → List Left
left_of n empty None = []
left_of n empty (Some finding) = if empty then [] else record { slot = n; finding = finding } ∷ []

-- The invalid entries in the given number of slots of the directory `d`, from slot `n` on.
unfoldable pub left_from : List ℕ → ℕ → ℕ → ℕ → ℕ → List Left
left_from d lowest blocks n zero = []
left_from d lowest blocks n (suc left) =
    left_of n (is_empty (entry_in d n)) (why_left lowest blocks (entry_in d n))
    ++ left_from d lowest blocks (n + 1) left

-- The list with the file `t` inserted before the first file that begins at a higher block.
unfoldable pub placed : Taken → List Taken → List Taken
placed t [] = t ∷ []
placed t (other ∷ others) =
    if nat_lt t.entry.first other.entry.first then t ∷ other ∷ others else other ∷ placed t others

-- The list `taken` with the entry `e` of slot `n` inserted, if the entry breaks no rule.
abbrev pub taken_with : ℕ → Entry → Option SlotFinding → List Taken → List Taken
taken_with n e None taken = placed (record { slot = n; entry = e }) taken
taken_with n e (Some finding) taken = taken

-- The list `taken` with the valid entries of the given number of slots of the directory `d`, from slot `n` on,
-- inserted.
unfoldable pub taken_from : List ℕ → ℕ → ℕ → ℕ → ℕ → List Taken → List Taken
taken_from d lowest blocks n zero taken = taken
taken_from d lowest blocks n (suc left) taken =
    taken_from d lowest blocks (n + 1) left
    (taken_with n (entry_in d n) (why_left lowest blocks (entry_in d n)) taken)

-- The number of blocks of all files of the list.
unfoldable pub blocks_of : List Taken → ℕ
blocks_of [] = 0
blocks_of (t ∷ ts) = t.entry.end - t.entry.first + blocks_of ts

-- The first file of `taken` that is in another slot than `t` and has a block in common with `t`.
unfoldable pub sharing : Taken → List Taken → Option Taken
sharing t taken = find (λ other. not (other.slot == t.slot) && shares other.entry t.entry) taken
