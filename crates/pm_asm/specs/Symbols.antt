-- The positions of procedures and labels. Offsets are counted from the entry of the procedure, as in the debugger.
use Rattle.std.specs.Prelude.{◌≡◌, ℕ, ◌+◌, ◌-◌, List, [], ◌∷◌, ◌++◌, codes, map, Option, Some, None, Result, Ok, Err}
use Rattle.pm_code.specs.Shown.{padded}
use Rattle.pm_code.specs.Item.Target.{To}
use Rattle.pm_source.specs.declared.fault.AsmFault.{AsmFault}
use Rattle.pm_source.specs.Faults.{place_of, source_end, source_of}
use Rattle.pm_source.specs.Meaning.{LeadsTo, found_label}
use Rattle.pm_source.specs.Source.{Name, Row, Source, SourceSegment, labels_of}
use Rattle.pm_asm.specs.Assembled.{Outcome, assembled}

-- A symbol: a procedure, or a label of its code.
pub record Symbol : Type 0 where
  pub segment : ℕ
  pub procedure : ℕ
  -- The offset in bytes from the entry of the procedure.
  pub offset : ℕ
  -- `None` for the procedure itself.
  pub label : Option Name

-- The symbol of the label `name` in code that begins at offset `start` of its segment. The offset of the symbol is the
-- distance from `start` to the target of a jump to the label.
abbrev pub label_symbol : ℕ → ℕ → ℕ → List Row → Name → Symbol
label_symbol segment procedure start rows name = record {
  segment = segment;
  procedure = procedure;
  offset = found_label (place_of start rows) name - start;
  label = Some name;
}

-- The symbol of procedure `p`, which begins at offset `start`, followed by those of its labels in the order of the
-- text.
abbrev pub procedure_symbols : ℕ → ℕ → ℕ → Source → List Symbol
procedure_symbols segment procedure start p =
    record { segment = segment; procedure = procedure; offset = 0; label = None }
    ∷ map (label_symbol segment procedure start p.code) (labels_of p.code)

-- The symbols of the procedures of a segment, numbered from `n`, and of their labels. The first procedure begins at
-- offset `at`.
unfoldable pub symbols_from : ℕ → ℕ → ℕ → List Source → List Symbol
symbols_from segment n at [] = []
symbols_from segment n at (p ∷ ps) =
    procedure_symbols segment n at p ++ symbols_from segment (n + 1) (source_end at p) ps

-- The symbols of segments, in the order of the text.
unfoldable pub symbols : List SourceSegment → List Symbol
symbols [] = []
symbols (s ∷ ss) = symbols_from s.number 1 0 s.procedures ++ symbols ss

-- The name in the line of a symbol: its label, or `.PROC` for a procedure.
abbrev pub symbol_name : Option Name → List ℕ
symbol_name None = codes ".PROC"
symbol_name (Some label) = label

-- The line of a symbol: the segment and the procedure in three digits, the offset in five digits, and the label.
unfoldable pub symbol_line : Symbol → List ℕ
symbol_line s = padded 3 s.segment ++ 32 ∷ padded 3 s.procedure ++ 32 ∷ padded 5 s.offset
    ++ 32 ∷ symbol_name s.label ++ 10 ∷ []

abbrev pub symbol_lines : List Symbol → List ℕ
symbol_lines [] = []
symbol_lines (s ∷ ss) = symbol_line s ++ symbol_lines ss

abbrev pub symbols_by : List ℕ → Outcome → Result (List ℕ) AsmFault
symbols_by text (Ok made) = Ok (symbol_lines (symbols (source_of text)))
symbols_by text (Err fault) = Err fault

-- The symbol lines of `text`, or the fault of `text` if it cannot be assembled.
unfoldable pub symbol_text : List ℕ → Result (List ℕ) AsmFault
symbol_text text = symbols_by text (assembled text)

-- States that the target of a jump to a label is the beginning of its procedure plus the offset of the symbol of the
-- label.
abbrev pub JumpsLeadToSymbols : Type 0
JumpsLeadToSymbols = (segment procedure start : ℕ) (rows : List Row) (name : Name) (place : ℕ)
    → LeadsTo (place_of start rows) (To name) (To place)
    → start + (label_symbol segment procedure start rows name).offset ≡ place
