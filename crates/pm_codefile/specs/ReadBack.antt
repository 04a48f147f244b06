-- The result of reading a written code file.
use Rattle.std.specs.Prelude.{◌≡◌, ◌==◌, ◌<◌, ℕ, ◌+◌, List, [], slice_index, slice_index_or, slice_range, sum, take}
use Rattle.std.specs.Prelude.{None, Some, if◌then◌else◌}
use Rattle.std.specs.List.{sum_by}
use Rattle.pm_codefile.specs.Dictionary.{file_fault, segment_in, slot_in}
use Rattle.pm_codefile.specs.Layout.{blocks_for, name_for}

-- The offset of the segment of slot `n` in the joined bytes of all segments.
abbrev pub begin_of : List ℕ → ℕ → ℕ
begin_of lengths n = sum (take n lengths)

-- The block of slot `n`: the first block after the dictionary and the segments of lower slots. It is 0 if the length is
-- 0.
abbrev pub first_block_of : List ℕ → ℕ → ℕ
first_block_of lengths n = if slice_index lengths n == 0 then 0 else 1 + sum_by blocks_for (take n lengths)

-- States that `file` is accepted and that reading it returns what was written. Each slot has its length, its name and
-- kind 0. The segment of each slot is its range of the joined bytes. A slot with length 0 has no segment.
pub record ReadsBack (names : List (List ℕ)) (lengths segments file : List ℕ) : Type 0 where
  pub accepted : file_fault file ≡ None
  pub slots : (n : ℕ) → n < 16 → slot_in file n ≡ Some (record {
    block = first_block_of lengths n;
    length = slice_index lengths n;
    kind = 0;
    name = name_for (slice_index_or names n []) (slice_index lengths n);
  })
  pub parts : (n : ℕ) → n < 16 → segment_in file n ≡ (if slice_index lengths n == 0 then None
      else Some (slice_range segments (begin_of lengths n) (begin_of lengths n + slice_index lengths n)))
