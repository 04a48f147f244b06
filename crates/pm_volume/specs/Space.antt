-- The name of a volume, its gaps, and its free space.
use Rattle.std.specs.Prelude.{ℕ, ◌+◌, ◌-◌, List, max, slice_index, slice_range}
use Rattle.std.specs.List.{fold, sum_by}
use Rattle.pm_volume.specs.Changes.{gaps}
use Rattle.pm_volume.specs.Directory.{block_count, directory_of, files_begin, files_in}
use Rattle.pm_volume.specs.declared.gap.Gap.{Gap}
use Rattle.pm_volume.specs.declared.fields.TheConstants.{HEADER_NAME}

-- The characters of the name of the volume in `image`.
abbrev pub volume_name : List ℕ → List ℕ
volume_name image =
    slice_range (directory_of image) (HEADER_NAME + 1) (HEADER_NAME + 1 + slice_index (directory_of image) HEADER_NAME)

-- The number of blocks of `gap`.
abbrev pub gap_size : Gap → ℕ
gap_size gap = gap.end - gap.begin

-- All gaps of the volume with the directory `directory`, the lowest first.
abbrev pub gaps_in : List ℕ → List Gap
gaps_in directory = gaps (block_count directory) 1 (files_begin directory) (files_in directory)

-- The number of free blocks: the sum of the sizes of all gaps.
abbrev pub free_in : List ℕ → ℕ
free_in directory = sum_by gap_size (gaps_in directory)

-- The number of blocks of the largest gap. It is 0 if no block is free.
abbrev pub largest_in : List ℕ → ℕ
largest_in directory = fold (λ most gap. max most (gap_size gap)) 0 (gaps_in directory)

unfoldable pub free_blocks : List ℕ → ℕ
free_blocks image = free_in (directory_of image)

unfoldable pub largest_gap : List ℕ → ℕ
largest_gap image = largest_in (directory_of image)
