-- Segments. The last byte of a segment is the number of its procedures. The word at offset length - 2 - 2 p is the
-- distance from this word down to the attribute table of procedure p. A table at offset j has these words:
--   j        procedure number (low byte) and level (high byte, signed)
--   j - 2    distance from this word down to the first instruction
--   j - 4    distance from this word down to the exit code
--   j - 6    size of the parameters in bytes
--   j - 8    size of the local variables in bytes
use Rattle.std.specs.Prelude.{◌==◌, ◌&&◌, Bool, nat_le, ℕ, ◌+◌, ◌-◌, ◌*◌, ◌%◌, List, length, slice_index, Option, Some}
use Rattle.std.specs.Prelude.{None, if◌then◌else◌}
use Rattle.std.specs.Int.{w8, cast_signed}
use Rattle.pm_codefile.specs.declared.table.Attributes.{Attributes}
use Rattle.pm_codefile.specs.Dictionary.{word_in}

-- If the left side is `Some x`, then the result is `f x`. If it is `None`, then the result is `None`.
infixl 10 ◌>>=◌
abbrev pub ◌>>=◌ : {A B : Type 0} → Option A → (A → Option B) → Option B
(Some x) >>= f = f x
None >>= f = None

-- `Some` if `holds` is true, otherwise `None`. In a sequence, it ends the sequence with `None`.
abbrev pub demanded : Bool → Option (Unit {0})
demanded holds = if holds then Some tt else None

-- The difference `a - b`, or `None` if it is below 0.
abbrev pub less_or_none : ℕ → ℕ → Option ℕ
less_or_none a b = if nat_le b a then Some (a - b) else None

-- The number of procedures of a segment: its last byte, or 0 if the segment is empty.
abbrev pub procedures_in : List ℕ → ℕ
procedures_in segment = slice_index segment (length segment - 1)

-- The attribute table of procedure `p` of a segment, or `None`. `p` must be one of the procedures. The table, from j -
-- 8 to j + 1, must be inside the segment at an even offset. The offsets of the first instruction and of the exit code
-- must be from 0 to j - 8.
unfoldable pub attributes_in : List ℕ → ℕ → Option Attributes
attributes_in segment p = do
  _ ← demanded (nat_le 1 p && nat_le p (procedures_in segment))
  at ← less_or_none (length segment) (2 * p + 2)
  j ← less_or_none at (word_in segment at)
  last ← less_or_none j 8
  _ ← demanded (j % 2 == 0)
  enter ← less_or_none (j - 2) (word_in segment (j - 2))
  exit ← less_or_none (j - 4) (word_in segment (j - 4))
  _ ← demanded (nat_le enter last && nat_le exit last)
  Some (record {
    procedure = slice_index segment j;
    level = cast_signed w8 (slice_index segment (j + 1));
    enter = enter;
    exit = exit;
    parameters = word_in segment (j - 6);
    locals = word_in segment (j - 8);
    jtab = j;
  })
