use Rattle.std.proofs.Common.{◌≡◌, ◌++◌, ◌+◌, ◌≤◌, length, option_map, string_bytes}
use Rattle.pm_table.specs.Rows.{rows_from, rows_of}
use Rattle.pm_table.proofs.rows.rows_of.Given as goal

-- The listed files so far, followed by those of the remaining files, are all listed files.
abbrev pub invariant-files : goal.invariant-files
invariant-files l = record {
  whole : l.rows.items ++ rows_from (option_map string_bytes l.pattern) l.slot l.entries
      ≡ rows_of (option_map string_bytes l.pattern) l.volume;
  few : l.slot + length l.entries ≤ 78;
}

abbrev pub decreases-files : goal.decreases-files
decreases-files l = length l.entries
