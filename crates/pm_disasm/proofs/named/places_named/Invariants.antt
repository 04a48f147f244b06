use Rattle.std.proofs.Common.{◌≡◌, ℕ, drop, map}
use Rattle.std.specs.Prelude.{◌||◌}
use Rattle.pm_disasm.specs.Follow.{written_by}
use Rattle.pm_code.specs.Program.{is_among}
use Rattle.pm_code.specs.Shown.{named_places}
use Rattle.pm_disasm.specs.Views.{IsAlike, has, part_seen}
use Rattle.pm_disasm.proofs.named.places_named.Given as goal

-- The offsets up to here, and those of the remaining parts, are all offsets.
abbrev pub invariant-loop-part : goal.invariant-loop-part
invariant-loop-part l = record {
  alike : IsAlike l.named l.boundaries;
  places : (p : ℕ) → (has l.named p || is_among (named_places (written_by (has l.boundaries) l.allowed (map part_seen (drop l.part-index l.parts)))) p)
      ≡ is_among (named_places (written_by (has l.boundaries) l.allowed (map part_seen l.parts))) p;
}
