-- The canonical layout of a code file. The file begins with the dictionary, in which all kinds are 0. The segments
-- follow in the order of their slots. Each segment begins at the next block, and is padded with zeros to whole blocks.
use Rattle.byteorder.specs.Endian.{little_bytes}
pub use Rattle.pm_bytes.specs.Blocks.{blocks_for}
use Rattle.pm_bytes.specs.declared.blocks.TheConstants.{BLOCK}
use Rattle.std.specs.Prelude.{◌==◌, ℕ, ◌+◌, ◌-◌, ◌*◌, List, [], ◌∷◌, ◌++◌, drop, replicate, take, if◌then◌else◌}

-- The bytes of the block and of the length `n` of a slot. If `n` is 0, the block is 0.
abbrev pub slot_pair : ℕ → ℕ → List ℕ
slot_pair block n = little_bytes 2 (if n == 0 then 0 else block) ++ little_bytes 2 n

-- The bytes of the blocks and lengths of the slots with these lengths. The first segment begins at block `block`.
unfoldable pub pairs : ℕ → List ℕ → List ℕ
pairs block [] = []
pairs block (n ∷ ns) = slot_pair block n ++ pairs (block + blocks_for n) ns

-- The name of a slot with the length `n`. If `n` is 0, the name is 8 spaces.
abbrev pub name_for : List ℕ → ℕ → List ℕ
name_for name n = if n == 0 then replicate 8 32 else name

-- The names of the slots with these names and lengths, joined.
unfoldable pub names_for : List (List ℕ) → List ℕ → List ℕ
names_for [] ns = []
names_for (name ∷ names) [] = []
names_for (name ∷ names) (n ∷ ns) = name_for name n ++ names_for names ns

-- The zeros that pad `n` bytes to whole blocks.
abbrev pub block_padding : ℕ → List ℕ
block_padding n = replicate (BLOCK * blocks_for n - n) 0

-- The segments with these lengths, each padded to whole blocks. `segments` has their joined bytes.
unfoldable pub in_blocks : List ℕ → List ℕ → List ℕ
in_blocks [] segments = []
in_blocks (n ∷ ns) segments = (take n segments ++ block_padding n) ++ in_blocks ns (drop n segments)

-- The bytes of a whole file: the dictionary, and then the segments. The dictionary has 64 bytes for blocks and lengths,
-- 128 for names, 32 for kinds, and 288 that are not used.
unfoldable pub layout : List (List ℕ) → List ℕ → List ℕ → List ℕ
layout names lengths segments =
    ((pairs 1 lengths ++ names_for names lengths) ++ replicate 320 0) ++ in_blocks lengths segments
