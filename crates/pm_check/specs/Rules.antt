-- The rules of a volume that an image breaks, each checked without regard to the others. A finding is a broken rule.
use Rattle.std.specs.Prelude.{ℕ, zero, suc, ◌+◌, ◌-◌, ◌/◌, ◌%◌, ◌==◌, ◌&&◌, ◌||◌, Bool, true, false, not, nat_lt}
use Rattle.std.specs.Prelude.{List, [], ◌∷◌, ◌++◌, length, min, slice_index, if◌then◌else◌}
use Rattle.pm_volume.specs.Directory.{block_count, directory_of, entry_in, file_count, files_begin}
use Rattle.pm_volume.specs.declared.entry.Entry.{Entry}
use Rattle.pm_volume.specs.declared.fields.TheConstants.{DIRECTORY_END, HEADER_NAME, LONGEST_NAME}
use Rattle.pm_volume.specs.declared.fields.TheConstants.{LONGEST_VOLUME_NAME, MOST_FILES, PAST_DIRECTORY, PAST_SECOND}
use Rattle.pm_bytes.specs.declared.blocks.TheConstants.{BLOCK}
use Rattle.pm_check.specs.declared.finding.Finding.{Finding}
use Rattle.pm_check.specs.declared.finding.Finding.TheVariants as findings
use Rattle.pm_check.specs.declared.finding.SlotFinding.TheVariants as slots

-- The list with `finding` if the condition is true, and otherwise the empty list.
abbrev pub found_if : Bool → Finding → List Finding
found_if true finding = finding ∷ []
found_if false finding = []

-- The findings for the header of the directory `d`: for its name, the block at which files begin, the number of blocks,
-- and the number of files.
unfoldable pub header_findings : List ℕ → ℕ → List Finding
header_findings d blocks =
    found_if (nat_lt (slice_index d HEADER_NAME) 1 || nat_lt LONGEST_VOLUME_NAME (slice_index d HEADER_NAME))
    (findings.VolumeName (slice_index d HEADER_NAME))
    ++ (found_if (not (files_begin d == PAST_DIRECTORY) && not (files_begin d == PAST_SECOND))
    (findings.FilesBegin (files_begin d))
    ++ (found_if (nat_lt (block_count d) (files_begin d)) (findings.FewBlocks (block_count d) (files_begin d))
    ++ (found_if (nat_lt blocks (block_count d)) (findings.PastImage (block_count d) blocks)
    ++ found_if (nat_lt MOST_FILES (file_count d)) (findings.ManyFiles (file_count d)))))

-- Is true if the file of the entry `e` has blocks, and the number of bytes in its last block is not from 1 to 512.
abbrev pub has_wrong_last : Entry → Bool
has_wrong_last e = nat_lt e.first e.end && (nat_lt e.last_bytes 1 || nat_lt BLOCK e.last_bytes)

-- Is true if the file in slot `n`, which begins at block `first`, begins before block `before`, the end of the file in
-- the slot before. Is false for slot 1.
abbrev pub is_out_of_order : ℕ → ℕ → ℕ → Bool
is_out_of_order n first before = nat_lt 1 n && nat_lt first before

-- The findings for the entry in slot `n` of the directory `d`: for its name, its first block, its end, the bytes of its
-- last block, and its order. An entry must not begin before the end of the entry before it.
unfoldable pub slot_findings : List ℕ → ℕ → List Finding
slot_findings d n =
    let e = entry_in d n in
    found_if (nat_lt (slice_index e.name 0) 1 || nat_lt LONGEST_NAME (slice_index e.name 0))
    (findings.Slot n (slots.Name (slice_index e.name 0)))
    ++ (found_if (nat_lt e.first (files_begin d)) (findings.Slot n (slots.First e.first (files_begin d)))
    ++ (found_if (nat_lt e.end e.first) (findings.Slot n (slots.End e.end e.first))
    ++ (found_if (nat_lt (block_count d) e.end) (findings.Slot n (slots.PastVolume e.end (block_count d)))
    ++ (found_if (has_wrong_last e) (findings.Slot n (slots.LastBytes e.last_bytes))
    ++ found_if (is_out_of_order n e.first (entry_in d (n - 1)).end)
    (findings.Slot n (slots.Order e.first (entry_in d (n - 1)).end))))))

-- The findings for the entries in the given number of slots from slot `n` on.
unfoldable pub findings_from : List ℕ → ℕ → ℕ → List Finding
findings_from d n zero = []
findings_from d n (suc left) = slot_findings d n ++ findings_from d (n + 1) left

-- The number of slots with files: the number that the header of `d` states, but at most 77.
abbrev pub slot_count : List ℕ → ℕ
slot_count d = min (file_count d) MOST_FILES

-- The findings for the directory `d` in an image of `blocks` blocks.
unfoldable pub directory_findings : List ℕ → ℕ → List Finding
directory_findings d blocks = header_findings d blocks ++ findings_from d 1 (slot_count d)

-- The findings for `image`: for its length, and for its directory if it has one.
unfoldable pub image_findings : List ℕ → List Finding
image_findings image =
    found_if (not (length image % BLOCK == 0)) (findings.NotBlocks (length image))
    ++ (if nat_lt (length image) DIRECTORY_END then findings.TooShort (length image) ∷ []
    else directory_findings (directory_of image) (length image / BLOCK))
