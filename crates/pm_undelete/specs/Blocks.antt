-- The blocks of a volume: their bytes, and which of them are free.
use Rattle.std.specs.Prelude.{◌&&◌, ◌||◌, Bool, nat_le, nat_lt, ℕ, List, replicate, Option, Some, None, if◌then◌else◌}
use Rattle.std.specs.List.{list_all}
use Rattle.pm_volume.specs.Directory.{block_count, directory_of, files_begin}
use Rattle.pm_volume.specs.Files.{bytes_of, files_of}
use Rattle.pm_volume.specs.declared.entry.Entry.{Entry}
use Rattle.pm_bytes.specs.declared.blocks.TheConstants.{BLOCK}

-- The entry of a file that fills the blocks from `first` up to, but not including, `end`.
abbrev pub span : ℕ → ℕ → Entry
span first end = record {
  name = replicate 16 0;
  kind = 0;
  first = first;
  end = end;
  last_bytes = BLOCK;
  date = 0;
}

-- The bytes of the blocks from `first` up to, but not including, `end` of the volume `image`: those that `files get`
-- writes for a file that fills these blocks.
abbrev pub blocks_of : List ℕ → ℕ → ℕ → List ℕ
blocks_of image first end = bytes_of image (span first end)

-- Is true if the file of the entry `e` has none of the blocks from `first` up to, but not including, `end`: the file
-- has no blocks, or it begins after these blocks, or it ends before them.
abbrev pub is_outside : ℕ → ℕ → Entry → Bool
is_outside first end e = nat_le e.end e.first || (nat_le end e.first || nat_le e.end first)

-- Is true if the blocks from `first` up to, but not including, `end` are at least one block, and all of them are free:
-- they are blocks of the volume after its directory, and no file has one of them.
abbrev pub are_free : List ℕ → ℕ → ℕ → Bool
are_free image first end =
    nat_lt first end && (nat_le (files_begin (directory_of image)) first
    && (nat_le end (block_count (directory_of image)) && list_all (is_outside first end) (files_of image)))

-- The bytes of these blocks, or `None` if they are not all free.
abbrev pub free_bytes : List ℕ → ℕ → ℕ → Option (List ℕ)
free_bytes image first end = if are_free image first end then Some (blocks_of image first end) else None
