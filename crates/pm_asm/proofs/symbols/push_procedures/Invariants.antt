use Rattle.std.proofs.Common.{◌≡◌, ◌+◌, ◌++◌, drop, map}
use Rattle.pm_reader.specs.Views.{labelled_procedure}
use Rattle.pm_asm.specs.SymbolViews.{symbols_seen}
use Rattle.pm_asm.specs.Symbols.{symbols_from}
use Rattle.pm_asm.proofs.symbols.push_procedures.Given as goal

-- The symbols up to here, followed by those of the remaining procedures, are all symbols.
abbrev pub invariant-loop-procedure : goal.invariant-loop-procedure
invariant-loop-procedure l = record {
  number : l.number ≡ l.procedure-index + 1;
  found : symbols_seen l.found.items ++ symbols_from l.segment l.number l.at (map labelled_procedure (drop l.procedure-index l.procedures))
      ≡ symbols_seen l.fn.found.items ++ symbols_from l.segment 1 0 (map labelled_procedure l.procedures);
}
