use Rattle.std.proofs.Common.{◌≡◌, ◌≤◌, ◌+◌, ◌++◌, List, drop, length, map, string_bytes}
use Rattle.std.specs.List.{AllByRecursion}
use Rattle.pm_code.specs.Image.{Listed, listed_lines, listed_procedures}
use Rattle.pm_code.specs.Program.{FollowFrom, IsProcedure, jtab_of, procedures_bytes, procedures_end}
use Rattle.pm_code.specs.Views.{procedure_seen}
use Rattle.pm_code.proofs.listing.list_procedures.Given as goal

abbrev pub invariant-loop-done : goal.invariant-loop-done
invariant-loop-done l = record {
  whole : l.bytes.items ++ procedures_bytes (l.done + 1) (map procedure_seen (drop l.done l.procedures))
      ≡ l.initial.bytes.items ++ procedures_bytes 1 (map procedure_seen l.procedures);
  tables : l.tables.items ++ map jtab_of (map procedure_seen (drop l.done l.procedures)) ≡ map jtab_of (map procedure_seen l.procedures);
  good : AllByRecursion IsProcedure (map procedure_seen (drop l.done l.procedures));
  follow : FollowFrom (length l.bytes.items) (map procedure_seen (drop l.done l.procedures));
  short : procedures_end (length l.bytes.items) (map procedure_seen (drop l.done l.procedures)) ≤ 65534;
  written : (rest : List Listed) → string_bytes l.text ++ listed_lines l.segment
      (listed_procedures (l.done + 1) (map procedure_seen (drop l.done l.procedures)) rest)
      ≡ string_bytes l.initial.text ++ listed_lines l.segment (listed_procedures 1 (map procedure_seen l.procedures) rest);
}
