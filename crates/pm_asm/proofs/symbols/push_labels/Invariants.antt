use Rattle.std.proofs.Common.{◌≡◌, ◌++◌, drop, map}
use Rattle.pm_line.specs.Views.{row_seen}
use Rattle.pm_source.specs.Source.{labels_of}
use Rattle.pm_asm.specs.SymbolViews.{symbols_seen}
use Rattle.pm_asm.specs.Symbols.{label_symbol}
use Rattle.pm_asm.proofs.symbols.push_labels.Given as goal

-- The labels up to here, followed by those of the remaining rows, are all labels.
abbrev pub invariant-loop-row : goal.invariant-loop-row
invariant-loop-row l = record {
  found : symbols_seen l.found.items ++ map (label_symbol l.numbered.segment l.numbered.procedure l.numbered.code.start
      (map row_seen l.numbered.code.rows.now)) (labels_of (map row_seen (drop l.row-index l.numbered.code.rows.now)))
      ≡ symbols_seen l.fn.found.items ++ map (label_symbol l.numbered.segment l.numbered.procedure l.numbered.code.start
      (map row_seen l.numbered.code.rows.now)) (labels_of (map row_seen l.numbered.code.rows.now));
}
