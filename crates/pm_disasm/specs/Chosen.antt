-- The code of a procedure, decoded under the assumption that its jump table has a certain number of entries.
use Rattle.std.specs.Prelude.{◌≡◌, ◌<◌, ◌≤◌, ℕ, ◌+◌, ◌-◌, ◌*◌, Bool, ◌&&◌, nat_le, List, ◌∷◌, length, map, slice_index}
use Rattle.std.specs.Int.{w8, cast_unsigned}
use Rattle.std.specs.List.{AllByRecursion, list_all}
use Rattle.pm_codefile.specs.declared.table.Attributes.{Attributes}
use Rattle.pm_disasm.specs.declared.counts.Reading.{Reading}
use Rattle.pm_disasm.specs.Follow.{Follow}
use Rattle.pm_disasm.specs.Split.{Part, are_after, code_with, end_with, ends_of, entry_places, parts}
use Rattle.pm_disasm.specs.Views.{IsSetOf, part_seen}

-- States that `a` is an attribute table in `segment`. The offsets of its code are below the table. Its level is the
-- byte above its offset.
pub record IsTable (segment : List ℕ) (a : Attributes) : Type 0 where
  pub within : a.jtab + 2 ≤ length segment
  pub enter : a.enter + 8 ≤ a.jtab
  pub exit : a.exit + 8 ≤ a.jtab
  pub level : slice_index segment (a.jtab + 1) < 256 → cast_unsigned w8 a.level ≡ slice_index segment (a.jtab + 1)

-- The forced offsets of the procedure `a` if it has `t` entries: the offset of the exit code, followed by the targets
-- of the entries. No item extends over a forced offset.
abbrev pub forced_with : List ℕ → Attributes → ℕ → List ℕ
forced_with segment a t = a.exit ∷ entry_places segment a.jtab 0 t

abbrev pub parts_with : List ℕ → Attributes → ℕ → List Part
parts_with segment a t = parts (forced_with segment a t) 0 a.enter (code_with segment a t)

-- Is true if no target of the `count` entries from `k` on is before the code or after `end`.
abbrev pub are_inside : List ℕ → Attributes → ℕ → ℕ → ℕ → ℕ → Bool
are_inside segment a end jtab k count =
    are_after segment a.enter jtab k count && list_all (λ place. nat_le place end) (entry_places segment jtab k count)

-- Is true if the procedure `a` can be decoded with `t` entries. The number of entries that its items use is not
-- checked.
abbrev pub can_read : List ℕ → Attributes → ℕ → Bool
can_read segment a t =
    nat_le (a.enter + 8 + 2 * t) a.jtab && (nat_le a.exit (end_with a t)
    && are_inside segment a (end_with a t) a.jtab 0 t)

-- States that `r` is the code of the procedure `a`, decoded with `t` entries.
pub record IsReading (segment : List ℕ) (a : Attributes) (t : ℕ) (r : Reading) : Type 0 where
  pub forced : r.forced.items ≡ forced_with segment a t
  pub end : r.end ≡ end_with a t
  pub room : a.enter + 8 + 2 * t ≤ a.jtab
  pub order : a.enter ≤ r.end
  pub short : r.end < 65536
  pub parts : map part_seen r.code.parts.items ≡ parts_with segment a t
  pub boundaries : IsSetOf r.code.boundaries (ends_of (end_with a t) (parts_with segment a t))
  pub begin : r.code.boundaries.begin ≡ a.enter
  pub size : length r.code.boundaries.marks.items ≡ r.end - a.enter + 1
  pub follow : Follow a.enter r.end (map part_seen r.code.parts.items)
  pub inside : AllByRecursion (λ place. (a.enter ≤ place) × (place ≤ r.end)) (entry_places segment a.jtab 0 t)
