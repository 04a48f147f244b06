use Rattle.std.proofs.Common.{◌≡◌, ◌++◌, drop}
use Rattle.pm_reader.specs.Views.{labelled_segments}
use Rattle.pm_asm.specs.SymbolViews.{symbols_seen}
use Rattle.pm_asm.specs.Symbols.{symbols}
use Rattle.pm_asm.proofs.symbols.symbols_of.Given as goal

-- The symbols up to here, followed by those of the remaining segments, are all symbols.
abbrev pub invariant-loop-segment : goal.invariant-loop-segment
invariant-loop-segment l = record {
  found : symbols_seen l.found.items ++ symbols (labelled_segments (drop l.segment-index l.segments)) ≡ symbols (labelled_segments l.segments);
}
