use Rattle.std.proofs.Common.{◌≡◌, ◌++◌, drop}
use Rattle.pm_asm.specs.SymbolViews.{symbols_seen}
use Rattle.pm_asm.specs.Symbols.{symbol_lines}
use Rattle.pm_asm.proofs.symbols.lines_of.Given as goal

-- The lines up to here, followed by those of the remaining symbols, are all lines.
abbrev pub invariant-loop-symbol : goal.invariant-loop-symbol
invariant-loop-symbol l = record {
  lines : l.lines.items ++ symbol_lines (symbols_seen (drop l.symbol-index l.symbols)) ≡ symbol_lines (symbols_seen l.symbols);
}
