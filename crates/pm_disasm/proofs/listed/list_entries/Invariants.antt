use Rattle.std.proofs.Common.{◌≡◌, ◌+◌, ◌-◌, ◌*◌, ◌++◌, reverse, take, string_bytes}
use Rattle.pm_code.specs.Image.{listed_lines}
use Rattle.pm_disasm.specs.Listing.{stored_entries}
use Rattle.pm_disasm.proofs.listed.list_entries.Given as goal

-- The written text, followed by the lines of the remaining entries, is the whole text.
abbrev pub invariant-loop-done : goal.invariant-loop-done
invariant-loop-done l = record {
  written : string_bytes l.text ++ listed_lines l.from.slot
      (stored_entries l.from.segment.now l.from.procedure (l.at + 2 * l.done) (reverse (take (l.count - l.done) l.entries)))
      ≡ string_bytes l.fn.text ++ listed_lines l.from.slot
      (stored_entries l.from.segment.now l.from.procedure l.at (reverse l.entries));
}
