-- Notes: facts about an image that break no rule.
use Rattle.std.specs.Prelude.{◌≤◌, ◌<◌, ℕ, zero, suc, ◌+◌, ◌-◌, ◌*◌, ◌/◌, ◌==◌, ◌&&◌, ◌||◌, Bool, not}
use Rattle.std.specs.Prelude.{nat_le, nat_lt, List, [], ◌∷◌, ◌++◌, length, min, slice_index, slice_range}
use Rattle.std.specs.Prelude.{if◌then◌else◌}
use Rattle.std.specs.List.{list_all}
use Rattle.std.specs.Str.{bytes_eq}
use Rattle.pm_volume.specs.Directory.{directory_of, entry_in, files_begin, second_of}
use Rattle.pm_volume.specs.Names.{characters_of, is_same_name}
use Rattle.pm_volume.specs.declared.entry.Entry.{Entry}
use Rattle.pm_volume.specs.declared.fields.TheConstants.{DIRECTORY_END, HEADER_NAME, LONGEST_VOLUME_NAME}
use Rattle.pm_volume.specs.declared.fields.TheConstants.{PAST_SECOND, SECOND_END, SLOT}
use Rattle.pm_bytes.specs.declared.blocks.TheConstants.{BLOCK}
use Rattle.pm_check.specs.declared.note.Note.{Note}
use Rattle.pm_check.specs.declared.note.Note.TheVariants as notes
use Rattle.pm_check.specs.Forms.{form_notes, note_if}
use Rattle.pm_check.specs.Rules.{directory_findings, slot_count}

-- ---- names and blocks

abbrev pub is_plain_character : ℕ → Bool
is_plain_character c = nat_le 33 c && nat_le c 126

-- Is true if each byte of `name` is from 33 to 126.
unfoldable pub is_plain : List ℕ → Bool
is_plain name = list_all is_plain_character name

-- The characters of the volume's name in the directory `d`, at most 7.
unfoldable pub header_name : List ℕ → List ℕ
header_name d =
    slice_range d (HEADER_NAME + 1) (HEADER_NAME + 1 + min (slice_index d HEADER_NAME) LONGEST_VOLUME_NAME)

-- Is true if the files of the entries `a` and `b` have a block in common.
abbrev pub shares : Entry → Entry → Bool
shares a b = nat_lt a.first a.end && nat_lt b.first b.end && nat_lt a.first b.end && nat_lt b.first a.end

-- The block `block` belongs to the file of the entry `a` and to the file of the entry `b`.
pub record HaveBlock (a b : Entry) : Type 0 where
  pub block : ℕ
  pub from : a.first ≤ block
  pub to : block < a.end
  pub other_from : b.first ≤ block
  pub other_to : block < b.end

-- The notes for the file in slot `n` and the file in slot `k`: a common block, and equal names.
unfoldable pub pair_notes : List ℕ → ℕ → ℕ → List Note
pair_notes d n k =
    note_if (shares (entry_in d n) (entry_in d k)) (notes.Shares n k)
    ++ note_if (is_same_name (characters_of (entry_in d n).name) (characters_of (entry_in d k).name))
    (notes.SameName n k)

-- The notes for the file in slot `n` and each file in the given number of slots from slot `k` on.
unfoldable pub pairs_from : List ℕ → ℕ → ℕ → ℕ → List Note
pairs_from d n k zero = []
pairs_from d n k (suc left) = pair_notes d n k ++ pairs_from d n (k + 1) left

-- The notes for the file in slot `n`: for its name, and for what it has in common with the files before it.
unfoldable pub slot_notes : List ℕ → ℕ → List Note
slot_notes d n =
    note_if (not (is_plain (characters_of (entry_in d n).name))) (notes.Name n) ++ pairs_from d n 1 (n - 1)

-- The notes for the files in the given number of slots from slot `n` on.
unfoldable pub notes_from : List ℕ → ℕ → ℕ → List Note
notes_from d n zero = []
notes_from d n (suc left) = slot_notes d n ++ notes_from d (n + 1) left

unfoldable pub directory_notes : List ℕ → List Note
directory_notes d =
    note_if (not (is_plain (header_name d))) notes.VolumeName ++ notes_from d 1 (slot_count d)

-- ---- the second copy

-- Is true if slot `n` has different bytes in the directories `d` and `other`.
unfoldable pub differs : List ℕ → List ℕ → ℕ → Bool
differs d other n =
    not (bytes_eq (slice_range d (SLOT * n) (SLOT * n + SLOT)) (slice_range other (SLOT * n) (SLOT * n + SLOT)))

-- The note which states that slot `n` differs. Slot 0 is the header.
abbrev pub differing : ℕ → Note
differing n = if n == 0 then notes.HeadersDiffer else notes.SlotsDiffer n

-- The notes for those of the given number of slots, from slot `n` on, that differ in the directories `d` and `other`.
unfoldable pub differing_from : List ℕ → List ℕ → ℕ → ℕ → List Note
differing_from d other n zero = []
differing_from d other n (suc left) =
    note_if (differs d other n) (differing n) ++ differing_from d other (n + 1) left

-- Is true if `second` breaks no rule as a directory of an image of `blocks` blocks, and states that files begin at
-- block 10.
unfoldable pub is_good_second : List ℕ → ℕ → Bool
is_good_second second blocks =
    (files_begin second == PAST_SECOND) && (length (directory_findings second blocks) == 0)

-- The note for a second copy that is good if `good` is true, and damaged otherwise.
abbrev pub copy_note : Bool → Note
copy_note good = if good then notes.SecondGood else notes.SecondDamaged

-- The note for the state of the second copy, and a note for each slot that differs. The list is empty if the first copy
-- `d` does not state that a second copy exists and `good` is false.
unfoldable pub second_notes : Bool → List ℕ → List ℕ → List Note
second_notes good d second =
    if (files_begin d == PAST_SECOND) || good then copy_note good ∷ differing_from d second 0 78 else []

-- The notes for the second copy of the directory of `image`, if `image` is long enough to have one.
unfoldable pub copies_notes : List ℕ → List Note
copies_notes image =
    if nat_lt (length image) SECOND_END then []
    else second_notes (is_good_second (second_of image) (length image / BLOCK)) (directory_of image) (second_of image)

-- ---- the image

-- All notes for `image`: for its other formats, and, if it has a directory, for the directory and its second copy.
unfoldable pub image_notes : List ℕ → List Note
image_notes image =
    form_notes image
    ++ (if nat_lt (length image) DIRECTORY_END then []
    else directory_notes (directory_of image) ++ copies_notes image)
