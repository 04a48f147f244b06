use Rattle.std.proofs.Common.{◌≡◌, ◌++◌, drop, map}
use Rattle.pm_source.specs.Faults.{entries_faults}
use Rattle.pm_reader.specs.Views.{entry_seen}
use Rattle.pm_asm.specs.Firsts.{places_in}
use Rattle.pm_asm.proofs.faults.note_entries.Given as goal

-- The faults up to here, followed by those of the remaining entries, are all faults.
abbrev pub invariant-loop-entry : goal.invariant-loop-entry
invariant-loop-entry l = record {
  noted : l.found.items ++ entries_faults (places_in l.code) (map entry_seen (drop l.entry-index l.entries))
      ≡ l.fn.found.items ++ entries_faults (places_in l.code) (map entry_seen l.entries);
}
