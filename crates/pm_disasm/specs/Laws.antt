-- Statements about the text of code and its bytes.
use Rattle.std.specs.Prelude.{◌≡◌, ℕ, ◌+◌, ◌<◌, ◌≤◌, Bool, true, false, List, ◌++◌, length, drop, Option, Some, None}
use Rattle.std.specs.Int.{w8, cast_signed}
use Rattle.std.specs.List.{AllByRecursion, AllZip}
use Rattle.pm_codefile.specs.declared.table.Attributes.{Attributes}
use Rattle.pm_code.specs.Item.{Item, IsItem, IsByte, item_bytes, size, is_instruction}
use Rattle.pm_code.specs.Program.{Procedure, Segment, AreItems, AreInstructions, FitSlots, IsIn, IsProcedure}
use Rattle.pm_code.specs.Program.{IsProgram, NamesWithin, boundaries, code_bytes, jtab_of, procedure_bytes}
use Rattle.pm_disasm.specs.Split.{Front, fits, front, items_in, procedure_of, procedure_with}
use Rattle.pm_code.specs.Laws.{Holds, IsSameSegment}
use Rattle.pm_disasm.specs.Shown.{file_text}
use Rattle.pm_code.specs.Shown.{program_text}

-- States that the bytes of an instruction are read as this instruction, for any bytes after it.
abbrev pub InstructionIsRead : Type 0
InstructionIsRead = (at : ℕ) (item : Item ℕ) (rest : List ℕ) → IsItem at item → is_instruction item ≡ true
    → front at (item_bytes at item ++ rest) ≡ Some (record { size = size at item; item = Some item })

-- States that `items` have the bytes of `code`, which begins at offset `at`, and that they jump only to boundaries of
-- these items. Each forced offset is a boundary.
pub record IsWritten (forced : List ℕ) (at : ℕ) (code : List ℕ) (items : List (Item ℕ)) : Type 0 where
  pub sound : AreItems at items
  pub bytes : code_bytes at items ≡ code
  pub jumps : AllByRecursion (NamesWithin (boundaries at items)) items
  pub places : (place : ℕ) → IsIn forced place → at ≤ place → place ≤ at + length code
      → IsIn (boundaries at items) place

-- States that the items that are shown for any code have the bytes of this code, for any forced offsets.
abbrev pub SplitKeepsBytes : Type 0
SplitKeepsBytes = (forced : List ℕ) (allowed : Bool) (at : ℕ) (code : List ℕ) → AllByRecursion IsByte code
    → IsWritten forced at code (items_in forced allowed at code)

-- The attribute table of procedure `p`, which has the number `number`.
abbrev pub attributes_of : ℕ → Procedure → Attributes
attributes_of number p =
    record {
      procedure = number;
      level = cast_signed w8 p.level;
      enter = p.start;
      exit = p.exit;
      parameters = p.parameters;
      locals = p.locals;
      jtab = jtab_of p;
    }

-- The item of an instruction, or `None` if no instruction is given.
abbrev pub item_in : Option Front → Option (Item ℕ)
item_in None = None
item_in (Some f) = f.item

unfoldable pub item_at : List ℕ → ℕ → Option (Item ℕ)
item_at segment at = item_in (front at (drop at segment))

-- States that `segment` contains the bytes of procedure `p`, which has the number `number`, at the offset of `p`.
pub record StandsIn (segment : List ℕ) (number : ℕ) (p : Procedure) : Type 0 where
  pub procedure : IsProcedure p
  pub rest : List ℕ
  pub there : drop p.start segment ≡ procedure_bytes number p ++ rest
  pub bytes : AllByRecursion IsByte segment

-- States that a procedure's own number of entries fits if all its items are instructions. The procedure that is decoded
-- with this number is the original procedure.
abbrev pub OwnCountFits : Type 0
OwnCountFits = (segment : List ℕ) (number : ℕ) (p : Procedure) → StandsIn segment number p → AreInstructions p.items
    → (procedure_with segment (attributes_of number p) true (length p.entries) ≡ p)
    × (fits segment (attributes_of number p) (length p.entries) ≡ true)

-- States that a number of entries below a procedure's own number does not fit, if all items of the procedure are
-- instructions.
abbrev pub SmallerCountFails : Type 0
SmallerCountFails =
    (segment : List ℕ) (number : ℕ) (p : Procedure) (t : ℕ) → StandsIn segment number p → AreInstructions p.items
    → t < length p.entries
    → fits segment (attributes_of number p) t ≡ false

-- States that the procedure `p` is shown as the procedure `q`, which has the same bytes at the same offset. If all
-- items of `p` are instructions, `q` is `p`.
pub record IsShownAs (number : ℕ) (p q : Procedure) : Type 0 where
  pub procedure : IsProcedure q
  pub start : q.start ≡ p.start
  pub jtab : jtab_of q ≡ jtab_of p
  pub bytes : procedure_bytes number q ≡ procedure_bytes number p
  pub same : AreInstructions p.items → q ≡ p

abbrev pub ProcedureIsShown : Type 0
ProcedureIsShown =
    (segment : List ℕ) (number : ℕ) (p : Procedure) → StandsIn segment number p
    → IsShownAs number p (procedure_of segment (attributes_of number p))

-- States that the text of a code file that contains a program is the text of a program with the same bytes.
abbrev pub ProgramIsShown : Type 0
ProgramIsShown = (file : List ℕ) (ss : List Segment) → IsProgram ss → FitSlots ss → Holds file ss
    → (ts : List Segment) × IsProgram ts × AllZip IsSameSegment ss ts × (file_text file ≡ program_text ts)
