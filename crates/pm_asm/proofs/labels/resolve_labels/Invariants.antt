use Rattle.std.proofs.Common.{◌≡◌, ◌++◌, drop, map}
use Rattle.std.specs.List.{list_any}
use Rattle.pm_line.specs.Views.{texts_seen}
use Rattle.pm_source.specs.Faults.{is_unknown_label}
use Rattle.pm_source.specs.Meaning.{found_label}
use Rattle.pm_asm.specs.Firsts.{places_in}
use Rattle.pm_asm.proofs.labels.resolve_labels.Given as goal

-- An unknown label can only be among the remaining labels. The offsets up to here, followed by those of the remaining
-- labels, are all offsets.
abbrev pub invariant-loop-name : goal.invariant-loop-name
invariant-loop-name l = record {
  unknown : list_any (is_unknown_label (places_in l.code)) (texts_seen (drop l.name-index l.names))
      ≡ list_any (is_unknown_label (places_in l.code)) (texts_seen l.names);
  found : l.places.items ++ map (found_label (places_in l.code)) (texts_seen (drop l.name-index l.names))
      ≡ map (found_label (places_in l.code)) (texts_seen l.names);
}
