-- The models of the symbols of src/: how contracts describe them.
use Rattle.std.specs.Prelude.{List, map, option_map}
use Rattle.pm_asm.specs.declared.symbols.Symbol as code
use Rattle.pm_asm.specs.Symbols.{Symbol}
use Rattle.pm_line.specs.Views.{text_seen}

abbrev pub symbol_seen : code.Symbol → Symbol
symbol_seen s = record {
  segment = s.segment;
  procedure = s.procedure;
  offset = s.offset;
  label = option_map text_seen s.label;
}

abbrev pub symbols_seen : List code.Symbol → List Symbol
symbols_seen symbols = map symbol_seen symbols
