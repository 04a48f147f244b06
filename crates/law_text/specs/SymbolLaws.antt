-- Laws of the symbols of procedures and labels.
use Rattle.std.specs.Prelude.{◌≡◌, ◌↔◌, ℕ, ◌+◌, Bool, true, false, ◌&&◌, List, ◌∷◌, ◌++◌, length, map, nat_eq}
use Rattle.std.specs.Prelude.{Option, Some, None, Ok}
use Rattle.std.specs.List.{Contains, IsDistinct}
use Rattle.std.specs.Str.{bytes_eq}
use Rattle.pm_code.specs.Program.{Procedure}
use Rattle.pm_source.specs.Faults.{place_of, source_of}
use Rattle.pm_source.specs.Meaning.{Spells, ascending, found_segment}
use Rattle.pm_source.specs.Source.{Name, Source, SourceSegment}
use Rattle.pm_asm.specs.Symbols.{Symbol, symbol_lines, symbol_text, symbols}

-- States what is `offset` bytes after the beginning of a procedure. Without a label it is the procedure itself, at
-- offset 0. With a label it is the position of this label in the code of the procedure.
abbrev pub StandsBehind : ℕ → Source → ℕ → Option Name → Type 0
StandsBehind entered p offset None = offset ≡ 0
StandsBehind entered p offset (Some name) = place_of entered p.code name ≡ Some (entered + offset)

-- The symbol `x` belongs to the segment `s`. It has the number of the segment, and the number of one of its procedures.
-- This number is one more than the number of procedures before the procedure. The offset of `x` is counted from the
-- beginning of the procedure at the same position of the program.
pub record IsSymbolOf (s : SourceSegment) (x : Symbol) : Type 0 where
  pub before : List Source
  pub procedure : Source
  pub after : List Source
  pub there : s.procedures ≡ before ++ procedure ∷ after
  pub front : List Procedure
  pub found : Procedure
  pub back : List Procedure
  pub meant : (found_segment s).procedures ≡ front ++ found ∷ back
  pub as_many : length front ≡ length before
  pub segment : x.segment ≡ s.number
  pub number : x.procedure ≡ length before + 1
  pub stands : StandsBehind found.start procedure x.offset x.label

-- The symbols of segments are exactly the symbols of their procedures and labels.
abbrev pub SymbolsAreDefined : Type 0
SymbolsAreDefined =
    (ss : List SourceSegment) (x : Symbol)
    → Contains (symbols ss) x ↔ ((s : SourceSegment) × Contains ss s × IsSymbolOf s x)

-- Returns whether both are the same label, or both are no label.
abbrev pub is_same_label : Option Name → Option Name → Bool
is_same_label None None = true
is_same_label (Some name) (Some other) = bytes_eq name other
is_same_label _ _ = false

abbrev pub is_same_symbol : Symbol → Symbol → Bool
is_same_symbol x y =
    nat_eq x.segment y.segment && (nat_eq x.procedure y.procedure && is_same_label x.label y.label)

-- The lines that are printed for a text are the lines of the symbols of its segments. No symbol is among them twice.
-- The text spells the program of these segments.
pub record AreLinesOf (text lines : List ℕ) : Type 0 where
  pub told : lines ≡ symbol_lines (symbols (source_of text))
  pub once : IsDistinct is_same_symbol (symbols (source_of text))
  pub spelled : Spells text (map found_segment (ascending (source_of text)))

abbrev pub SymbolsAreOfTheProgram : Type 0
SymbolsAreOfTheProgram = (text lines : List ℕ) → symbol_text text ≡ Ok lines → AreLinesOf text lines
