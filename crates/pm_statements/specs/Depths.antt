-- The nesting depth of statements, computed from the jumps around them.
use Rattle.std.specs.Prelude.{ℕ, ◌+◌, ◌-◌, Bool, false, ◌==◌, ◌&&◌, nat_le, nat_lt, if◌then◌else◌}
use Rattle.std.specs.Prelude.{List, [], ◌∷◌, ◌++◌, length, replicate, set, slice_get, slice_index_or}
use Rattle.std.specs.Prelude.{Option, Some, None}
use Rattle.pm_code.specs.Item.{Item, jump_opcode, size}
use Rattle.pm_code.specs.Item.Item.{Jump}
use Rattle.pm_code.specs.Item.Target.{To, Through}
use Rattle.pm_code.specs.Program.{Procedure, code_end}

-- Returns the target of an item that is a jump. Returns None if the item is no jump or the jump table `entries` lacks
-- its entry.
abbrev pub leads_to : List ℕ → Item ℕ → Option ℕ
leads_to entries (Jump op (To place)) = Some place
leads_to entries (Jump op (Through k)) = slice_get entries k
leads_to entries _ = None

-- Returns the target of an item that is a conditional jump, or None for any other item.
abbrev pub leads_by_condition : List ℕ → Item ℕ → Option ℕ
leads_by_condition entries (Jump op target) = if op == jump_opcode then None else leads_to entries (Jump op target)
leads_by_condition entries _ = None

-- A list with one number for each byte of code. The first number is for the byte at offset `start`.
pub record Depths : Type 0 where
  pub start : ℕ
  pub list : List ℕ

-- Returns the number for the offset `place`, or 0 if the list has no number for it.
abbrev pub at_place : Depths → ℕ → ℕ
at_place d place = slice_index_or d.list (place - d.start) 0

-- ---- loops: for each byte of code the end of the loop that begins there, or 0

-- Is true if a jump from the item at `at` to `place` leads back into the code. The code has `count` bytes from `start`
-- on.
abbrev pub is_back : ℕ → ℕ → ℕ → ℕ → Bool
is_back start count at place = nat_le start place && (nat_le place at && nat_lt (place - start) count)

-- Returns `ls` after the item from `at` to `end`. If this item is a jump back into the code, `end` is recorded for its
-- target, as the end of a loop.
abbrev pub with_loop : ℕ → ℕ → ℕ → Option ℕ → List ℕ → List ℕ
with_loop start at end None ls = ls
with_loop start at end (Some place) ls =
    if is_back start (length ls) at place then set ls (place - start) end else ls

-- Returns `ls` after all loops of the items from offset `at` on are recorded. If several loops begin at one offset, the
-- end of the last one is recorded.
unfoldable pub loops_from : List ℕ → ℕ → ℕ → List (Item ℕ) → List ℕ → List ℕ
loops_from entries start at [] ls = ls
loops_from entries start at (item ∷ items) ls = loops_from entries start (at + size at item) items
    (with_loop start at (at + size at item) (leads_by_condition entries item) ls)

abbrev pub loops : Procedure → Depths
loops p = record {
  start = p.start;
  list = loops_from p.entries p.start p.start p.items (replicate (code_end p - p.start) 0);
}

-- ---- open spans, represented by their ends, the innermost first

-- Returns the spans that are still open at `at`: the innermost spans that end at `at` or before are removed.
abbrev pub open_at : ℕ → List ℕ → List ℕ
open_at at [] = []
open_at at (end ∷ ends) = if nat_le end at then open_at at ends else end ∷ ends

-- Is true if the innermost span ends at `at` or before `at`.
abbrev pub has_ended : ℕ → List ℕ → Bool
has_ended at [] = false
has_ended at (end ∷ ends) = nat_le end at

-- Is true if the span from `at` to `end` is not empty and is inside the innermost open span.
abbrev pub lies_within : ℕ → ℕ → List ℕ → Bool
lies_within at end [] = nat_lt at end
lies_within at end (outer ∷ ends) = nat_lt at end && nat_le end outer

-- Adds the span from `at` to its end, if the end is given and the span is inside the innermost open span.
abbrev pub with_span : ℕ → Option ℕ → List ℕ → List ℕ
with_span at None ends = ends
with_span at (Some end) ends = if lies_within at end ends then end ∷ ends else ends

-- Returns the open spans at the item at `at`. Spans that have ended are closed. Then two spans are opened: from `at` to
-- `forward`, the target of the jump before the item, and from `at` to `again`, the end of the loop that begins at the
-- item.
abbrev pub opened : ℕ → Option ℕ → ℕ → List ℕ → List ℕ
opened at forward again ends = with_span at (Some again) (with_span at forward (open_at at ends))

-- ---- depths

-- Returns the depth of each byte of the items. It is the number of open spans at the beginning of the item with this
-- byte. `forward` is the target of the jump before the items, if such a jump exists.
unfoldable pub depths_from : List ℕ → Depths → ℕ → Option ℕ → List ℕ → List (Item ℕ) → List ℕ
depths_from entries ls at forward ends [] = []
depths_from entries ls at forward ends (item ∷ items) =
    replicate (size at item) (length (opened at forward (at_place ls at) ends))
    ++ depths_from entries ls (at + size at item) (leads_to entries item)
    (opened at forward (at_place ls at) ends) items

-- Returns the depth of each byte of the code of `p`. A jump forward has a span from the next item to its target. If
-- conditional jumps lead back to an offset, the last of them has a span from this offset to the end of the jump.
--
-- A span counts only if it is inside all counted spans that are open at its beginning.
unfoldable pub depths : Procedure → List ℕ
depths p = depths_from p.entries (loops p) p.start None [] p.items
