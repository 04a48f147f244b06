use Rattle.std.proofs.Common.{◌≡◌, ◌≤◌, ◌+◌, ◌-◌, ◌++◌, ℕ, drop, length, map}
use Rattle.std.specs.Prelude.{◌||◌}
use Rattle.pm_disasm.specs.Offsets.{IsNextCut}
use Rattle.pm_code.specs.Program.{is_among}
use Rattle.pm_disasm.specs.Split.{ends_of, parts}
use Rattle.pm_disasm.specs.Views.{has, part_seen}
use Rattle.pm_disasm.proofs.parts.split.Given as goal

-- The parts up to here, followed by those of the remaining bytes, are all parts. The same holds for the boundaries.
abbrev pub invariant-parts : goal.invariant-parts
invariant-parts l = record {
  inside : l.at ≤ length l.bytes;
  from : l.begin ≤ l.at;
  forced : l.cuts.forced.now ≡ l.forced;
  next : IsNextCut l.cuts.forced.now l.at l.cuts.next;
  split : map part_seen l.parts.items ++ parts l.forced 0 l.at (drop l.at l.bytes) ≡ parts l.forced 0 l.begin (drop l.begin l.bytes);
  begun : l.boundaries.begin ≡ l.begin;
  sized : length l.boundaries.marks.items ≡ length l.bytes - l.begin + 1;
  places : (place : ℕ) → (has l.boundaries place || is_among (ends_of (length l.bytes) (parts l.forced 0 l.at (drop l.at l.bytes))) place)
      ≡ is_among (ends_of (length l.bytes) (parts l.forced 0 l.begin (drop l.begin l.bytes))) place;
}

abbrev pub decreases-parts : goal.decreases-parts
decreases-parts l = length l.bytes - l.at
