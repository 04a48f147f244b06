-- Attribute tables of a segment with their texts.
use Rattle.std.specs.Prelude.{◌≡◌, ℕ, List, string_bytes}
use Rattle.pm_disasm.specs.declared.shown_tables.ShownTable.{ShownTable}
use Rattle.pm_code.specs.Shown.{joined}
use Rattle.pm_disasm.specs.Shown.{table_lines}

-- Is true if the text in `s` is the text of the procedure in `segment` that has the attribute table of `s`.
abbrev pub IsShownTable : List ℕ → ShownTable → Type 0
IsShownTable segment s = string_bytes s.text ≡ joined (table_lines segment s.table)
