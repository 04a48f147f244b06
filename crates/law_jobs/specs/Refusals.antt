-- Laws that state which fault is the first if a line, a jump or a text has several faults.
use Rattle.std.specs.Prelude.{◌≡◌, ◌⊎◌, ◌+◌, ℕ, true, false, List, [], ◌∷◌}
use Rattle.std.specs.List.{list_any}
use Rattle.pm_source.specs.Faults.{Reading, all_label_faults, ends, faults, faults_of_lines, is_again, is_begin, is_far}
use Rattle.pm_source.specs.Faults.{is_in_place, is_miscounted, is_out_of_range, is_unknown, is_unknown_target}
use Rattle.pm_source.specs.Faults.{item_faults, line_faults, source_of, Places}
use Rattle.pm_source.specs.Line.{Flaw, Line}
use Rattle.pm_source.specs.Line.Line.{Says}
use Rattle.pm_source.specs.Source.{Name, Statement}
use Rattle.pm_code.specs.Item.{Target}
use Rattle.pm_code.specs.Item.Item.{Jump}
use Rattle.pm_source.specs.declared.fault.AsmFault.{AsmFault}
use Rattle.pm_source.specs.declared.fault.AsmFault.TheVariants.{Syntax, Unknown, Range, NoLabel, Twice, Far}

-- The first fault of the list `faults` is `fault`.
abbrev pub BeginsWith : AsmFault → List AsmFault → Type 0
BeginsWith fault faults = (rest : List AsmFault) × (faults ≡ fault ∷ rest)

-- The statement `said` is in place. If it begins a procedure, then a later line ends a procedure.
pub record IsPlaced (r : Reading) (said : Statement) (rest : List Line) : Type 0 where
  pub placed : is_in_place r said ≡ true
  pub ended : is_begin said ≡ true → list_any ends rest ≡ true

-- States the first fault of a line with the statement `said`. The conditions are checked in this order: the line is out
-- of place or begins a procedure that never ends; its type word is unknown; it repeats a slot, a label or the exit
-- code; a number is invalid.
pub record LineTellsFirst (n : ℕ) (r : Reading) (said : Statement) (flaw : Flaw) (rest : List Line)
    (told : List AsmFault) : Type 0 where
  pub out_of_place : is_in_place r said ≡ false → BeginsWith (Syntax n) told
  pub never_ends : is_in_place r said ≡ true → is_begin said ≡ true → list_any ends rest ≡ false
      → BeginsWith (Syntax n) told
  pub unknown : IsPlaced r said rest → is_unknown flaw ≡ true → BeginsWith (Unknown n) told
  pub again : IsPlaced r said rest → is_unknown flaw ≡ false → is_again r said ≡ true → BeginsWith (Twice n) told
  pub range : IsPlaced r said rest → is_unknown flaw ≡ false → is_again r said ≡ false
      → (is_out_of_range flaw ≡ true) ⊎ (is_miscounted r said ≡ true) → BeginsWith (Range n) told
  pub none : IsPlaced r said rest → is_unknown flaw ≡ false → is_again r said ≡ false → is_out_of_range flaw ≡ false
      → is_miscounted r said ≡ false → told ≡ []

abbrev pub LinesTellFirst : Type 0
LinesTellFirst =
    (n : ℕ) (r : Reading) (said : Statement) (flaw : Flaw) (rest : List Line)
    → LineTellsFirst n r said flaw rest (line_faults n r (Says said flaw) rest)

-- States the first fault of a jump. The conditions are checked in this order: its procedure does not have its label;
-- the label is too far.
pub record JumpTellsFirst (places : Places) (line at op : ℕ) (target : Target Name) (told : List AsmFault)
    : Type 0 where
  pub no_label : is_unknown_target places target ≡ true → BeginsWith (NoLabel line) told
  pub far : is_unknown_target places target ≡ false → is_far places (at + 2) target ≡ true → told ≡ Far line ∷ []

abbrev pub JumpsTellFirst : Type 0
JumpsTellFirst =
    (places : Places) (line at op : ℕ) (target : Target Name)
    → JumpTellsFirst places line at op target (item_faults places line at (Jump op target))

-- The first fault of a text is the first fault of its lines. If no line has a fault, the faults of the text are those
-- of its labels.
pub record TextTellsFirst (text : List ℕ) : Type 0 where
  pub lines : (fault : AsmFault) → BeginsWith fault (faults_of_lines text) → BeginsWith fault (faults text)
  pub labels : faults_of_lines text ≡ [] → faults text ≡ all_label_faults (source_of text)

abbrev pub TextsTellFirst : Type 0
TextsTellFirst = (text : List ℕ) → TextTellsFirst text
