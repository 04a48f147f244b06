use Rattle.std.proofs.Common.{◌≡◌, ◌+◌, ◌-◌, ◌*◌, ◌++◌, List, length, reverse, take, string_bytes}
use Rattle.pm_code.specs.Image.{Listed, listed_entries, listed_lines}
use Rattle.pm_code.specs.Program.{entry_bytes}
use Rattle.pm_code.proofs.listing.list_entries.Given as goal

abbrev pub invariant-loop-done : goal.invariant-loop-done
invariant-loop-done l = record {
  whole : l.bytes.items ++ entry_bytes (length l.bytes.items) (reverse (take (l.count - l.done) l.entries))
      ≡ l.initial.bytes.items ++ entry_bytes (length l.initial.bytes.items) (reverse l.entries);
  room : length l.bytes.items ≡ length l.initial.bytes.items + 2 * l.done;
  written : (rest : List Listed) → string_bytes l.text ++ listed_lines l.place.segment
      (listed_entries l.place.procedure (length l.bytes.items) (reverse (take (l.count - l.done) l.entries)) ++ rest)
      ≡ string_bytes l.initial.text ++ listed_lines l.place.segment
      (listed_entries l.place.procedure (length l.initial.bytes.items) (reverse l.entries) ++ rest);
}
