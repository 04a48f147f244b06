use Rattle.std.proofs.Common.{◌≡◌, ◌≤◌, ◌+◌, ◌++◌, drop, length, map}
use Rattle.std.specs.List.{AllByRecursion}
use Rattle.pm_code.specs.Program.{FollowFrom, IsProcedure, jtab_of, procedures_bytes, procedures_end}
use Rattle.pm_code.specs.Views.{procedure_seen}
use Rattle.pm_code.proofs.bytes.push_procedures.Given as goal

abbrev pub invariant-loop-done : goal.invariant-loop-done
invariant-loop-done l = record {
  whole : l.out.items ++ procedures_bytes (l.done + 1) (map procedure_seen (drop l.done l.procedures))
      ≡ l.initial.out.items ++ procedures_bytes 1 (map procedure_seen l.procedures);
  tables : l.tables.items ++ map jtab_of (map procedure_seen (drop l.done l.procedures)) ≡ map jtab_of (map procedure_seen l.procedures);
  good : AllByRecursion IsProcedure (map procedure_seen (drop l.done l.procedures));
  follow : FollowFrom (length l.out.items) (map procedure_seen (drop l.done l.procedures));
  short : procedures_end (length l.out.items) (map procedure_seen (drop l.done l.procedures)) ≤ 65534;
}
