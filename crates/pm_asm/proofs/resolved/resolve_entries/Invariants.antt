use Rattle.std.proofs.Common.{◌≡◌, ◌++◌, drop, map}
use Rattle.pm_source.specs.Faults.{entries_faults}
use Rattle.pm_source.specs.Meaning.{found_label}
use Rattle.pm_reader.specs.Views.{entry_seen}
use Rattle.pm_asm.specs.Firsts.{places_in}
use Rattle.pm_asm.proofs.resolved.resolve_entries.Given as goal

-- Only the remaining entries can have faults. The offsets up to here, followed by those of the remaining entries, are
-- all offsets.
abbrev pub invariant-loop-entry : goal.invariant-loop-entry
invariant-loop-entry l = record {
  faults : entries_faults (places_in l.code) (map entry_seen (drop l.entry-index l.entries)) ≡ entries_faults (places_in l.code) (map entry_seen l.entries);
  found : l.places.items ++ map (λ e. found_label (places_in l.code) e.1) (map entry_seen (drop l.entry-index l.entries))
      ≡ map (λ e. found_label (places_in l.code) e.1) (map entry_seen l.entries);
}
