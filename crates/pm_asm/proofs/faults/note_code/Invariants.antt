use Rattle.std.proofs.Common.{◌≡◌, ◌++◌, drop, map}
use Rattle.pm_line.specs.Views.{row_seen}
use Rattle.pm_asm.specs.Each.{code_firsts}
use Rattle.pm_asm.specs.Firsts.{places_in}
use Rattle.pm_asm.proofs.faults.note_code.Given as goal

-- The faults up to here, followed by those of the remaining rows, are all faults.
abbrev pub invariant-loop-row : goal.invariant-loop-row
invariant-loop-row l = record {
  noted : l.found.items ++ code_firsts (places_in l.code) l.at (map row_seen (drop l.row-index l.code.rows.now))
      ≡ l.fn.found.items ++ code_firsts (places_in l.code) l.code.start (map row_seen l.code.rows.now);
}
