-- The nesting depth of statements, computed from the spans of jumps around them.
use Rattle.std.specs.Prelude.{◌≡◌, ℕ, suc, ◌+◌, Bool, true, not, ◌||◌, ◌&&◌, nat_le, nat_lt, if◌then◌else◌}
use Rattle.std.specs.Prelude.{List, [], ◌∷◌, ◌++◌, replicate, Option, None, Some}
use Rattle.pm_code.specs.Item.{Item, size}
use Rattle.pm_code.specs.Program.{Procedure}
use Rattle.pm_statements.specs.Depths.{Depths, at_place, depths, leads_to, loops}

-- The span of a jump: the offset at which it begins, and the offset after its end.
pub record JumpSpan : Type 0 where
  pub begin : ℕ
  pub behind : ℕ

-- Is true if the span `s` contains the offset `at`.
abbrev pub goes_on : ℕ → JumpSpan → Bool
goes_on at s = nat_le s.begin at && nat_lt at s.behind

-- Returns the number of spans that contain the offset `at`.
abbrev pub around : ℕ → List JumpSpan → ℕ
around at [] = 0
around at (s ∷ ss) = if goes_on at s then suc (around at ss) else around at ss

-- Is true if the span `s` is inside each span of `os` that contains the beginning of `s`.
abbrev pub lies_in : JumpSpan → List JumpSpan → Bool
lies_in s [] = true
lies_in s (o ∷ os) = (not (goes_on s.begin o) || nat_le s.behind o.behind) && lies_in s os

-- Is true if the span `s` counts in addition to `others`: `s` is not empty, and it is inside each span of `others` that
-- contains the beginning of `s`.
abbrev pub counts : JumpSpan → List JumpSpan → Bool
counts s others = nat_lt s.begin s.behind && lies_in s others

-- Returns the spans that count. `done` are the spans that already count, and `ss` are the other spans, in the order of
-- their beginnings.
abbrev pub counted : List JumpSpan → List JumpSpan → List JumpSpan
counted done [] = done
counted done (s ∷ ss) = counted (if counts s done then s ∷ done else done) ss

-- Adds the span from `at` to its end to `ss`, if an end is given.
abbrev pub span_to : ℕ → Option ℕ → List JumpSpan → List JumpSpan
span_to at None ss = ss
span_to at (Some end) ss = record { begin = at; behind = end } ∷ ss

-- Returns the spans of the items from offset `at` on, in the order of their beginnings. Each item begins up to two
-- spans. One span ends at the target of the jump before the item. The other span ends after the last conditional jump
-- back to the item, or at 0 if no such jump exists.
abbrev pub spans_from : List ℕ → Depths → ℕ → Option ℕ → List (Item ℕ) → List JumpSpan
spans_from entries ls at forward [] = []
spans_from entries ls at forward (item ∷ items) =
    span_to at forward (span_to at (Some (at_place ls at))
    (spans_from entries ls (at + size at item) (leads_to entries item) items))

abbrev pub spans : Procedure → List JumpSpan
spans p = spans_from p.entries (loops p) p.start None p.items

-- Returns a number for each byte of the items: how many spans contain the beginning of the item with this byte.
abbrev pub depths_by : List JumpSpan → ℕ → List (Item ℕ) → List ℕ
depths_by ss at [] = []
depths_by ss at (item ∷ items) = replicate (size at item) (around at ss) ++ depths_by ss (at + size at item) items

-- For each procedure `p`, the depth of a byte is the number of counted spans that contain the beginning of its item.
abbrev pub DepthsAreSpans : Type 0
DepthsAreSpans = (p : Procedure) → depths p ≡ depths_by (counted [] (spans p)) p.start p.items
