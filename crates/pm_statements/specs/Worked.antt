-- Examples of statements whose results were worked out by hand.
use Rattle.std.specs.Prelude.{◌≡◌, ℕ, true, false, List, [], ◌∷◌, map, Some, None}
use Rattle.pm_code.specs.Item.{Item}
use Rattle.pm_code.specs.Item.Item.{Plain, Jump, Case}
use Rattle.pm_code.specs.Item.Target.{To, Through}
use Rattle.pm_code.specs.Program.{Procedure}
use Rattle.pm_trees.specs.declared.items.Layout.TheVariants as layout
use Rattle.pm_code.specs.declared.item.Target.TheVariants as targets
use Rattle.pm_families.specs.declared.families.Condition.TheVariants as condition
use Rattle.pm_trees.specs.declared.left.Left.{Left}
use Rattle.pm_trees.specs.declared.left.Role.{Role}
use Rattle.pm_trees.specs.declared.left.Role.TheVariants as role
use Rattle.pm_trees.specs.declared.line.Line.{Line}
use Rattle.pm_trees.specs.declared.line.Word.{Word}
use Rattle.pm_trees.specs.declared.line.Word.TheVariants as word
use Rattle.pm_trees.specs.declared.part.Leaves.TheVariants as leaves
use Rattle.pm_trees.specs.declared.statement.Leads.TheVariants as leads
use Rattle.pm_statements.specs.BlockLabels.{shown_places}
use Rattle.pm_statements.specs.Callees.{sized}
use Rattle.pm_trees.specs.Parts.{Known, procedure_parts}
use Rattle.pm_statements.specs.Depths.{at_place}
use Rattle.pm_statements.specs.Bodies.{depths_if}
use Rattle.pm_trees.specs.Trees.{lefts_of, statements}

-- Items with one instruction: `plain` has no operand, and `with_byte` has one byte as its operand.
abbrev pub plain : ℕ → Item ℕ
plain op = Plain (record { op = op; a = 0; b = 0; c = 0; long = false; start = 0; count = 0; len = 0 }) []

abbrev pub with_byte : ℕ → ℕ → Item ℕ
with_byte op a = Plain (record { op = op; a = a; b = 0; c = 0; long = false; start = 0; count = 0; len = 0 }) []

-- The instructions SLDL 1, SLDL 2, SLDL 3 and SBI. The instruction SLDC n has opcode n.
abbrev pub sldl1 : Item ℕ
sldl1 = plain 216

abbrev pub sldl2 : Item ℕ
sldl2 = plain 217

abbrev pub sldl3 : Item ℕ
sldl3 = plain 218

abbrev pub sbi : Item ℕ
sbi = plain 149

-- Procedure 2 of the program of the towers of Hanoi. Variable 3 is the number of disks, variable 2 is the source, and
-- variable 1 is the destination. The opcodes are GRTI 197, FJP 161, CGP 207, CLP 206, RNP 173 and NOP 215.
abbrev pub hanoi : Procedure
hanoi = record {
  level = 1;
  parameters = 6;
  locals = 0;
  start = 18;
  items =
      sldl3 ∷ plain 0 ∷ plain 197 ∷ Jump 161 (To 47)
      ∷ sldl3 ∷ plain 1 ∷ sbi ∷ sldl2 ∷ plain 6 ∷ sldl2 ∷ sbi ∷ sldl1 ∷ sbi ∷ with_byte 207 2
      ∷ with_byte 206 3
      ∷ sldl3 ∷ plain 1 ∷ sbi ∷ plain 6 ∷ sldl2 ∷ sbi ∷ sldl1 ∷ sbi ∷ sldl1 ∷ with_byte 207 2
      ∷ with_byte 173 0
      ∷ plain 215
      ∷ [];
  exit = 47;
  entries = [];
}

-- What is known about procedures 1 to 3 of segment 0 of this program.
abbrev pub hanoi_known : Known
hanoi_known = record {
  segment = 0;
  callees = None ∷ Some (sized 0 0) ∷ Some (sized 3 0) ∷ Some (sized 0 0) ∷ [];
  layout = layout.Flat;
}

abbrev pub hanoi_lefts : List Left
hanoi_lefts = lefts_of (statements (procedure_parts hanoi_known hanoi))

-- Code with IF and ELSE from 0 to 11, WHILE from 11 to 19 (by jump table entry 0), and REPEAT from 19 to 25 (by entry
-- 1). The jump at 26 leads to 35. The jump at 29 leads to 38, out of the block of the jump at 26. The opcodes are FJP
-- 161, UJP 185, SRO 171, SLDO 1 232 and SLDO 2 233.
abbrev pub sro : Item ℕ
sro = with_byte 171 1

abbrev pub sldo1 : Item ℕ
sldo1 = plain 232

abbrev pub nested : Procedure
nested = record {
  level = 0;
  parameters = 0;
  locals = 4;
  start = 0;
  items =
      sldo1 ∷ Jump 161 (To 8) ∷ plain 1 ∷ sro ∷ Jump 185 (To 11)
      ∷ plain 2 ∷ sro
      ∷ sldo1 ∷ Jump 161 (To 19) ∷ plain 3 ∷ sro ∷ Jump 185 (Through 0)
      ∷ plain 4 ∷ sro ∷ plain 233 ∷ Jump 161 (Through 1)
      ∷ sldo1 ∷ Jump 161 (To 35) ∷ plain 233 ∷ Jump 161 (To 38) ∷ plain 5 ∷ sro ∷ plain 215
      ∷ plain 6 ∷ sro
      ∷ with_byte 173 0
      ∷ [];
  exit = 38;
  entries = 11 ∷ 19 ∷ [];
}

abbrev pub nested_depth : ℕ → ℕ
nested_depth at = at_place (depths_if true nested) at

-- Code with a jump table, a case jump, a choice whose jump leads to 5, and a jump to 9 inside the choice.
abbrev pub tabled : Procedure
tabled = record {
  level = 0;
  parameters = 0;
  locals = 0;
  start = 0;
  items = Case 1 1 (To 7) (2 ∷ []) ∷ [];
  exit = 9;
  entries = 3 ∷ [];
}

abbrev pub line_with : Word → Line
line_with w = record { word = w; at = 0; behind = 0 }

abbrev pub left_with : Role → Left
left_with r = record {
  leaves = leaves.Words 0;
  place = record { offset = 0; has_label = true; is_exit = false };
  parts = 1;
  role = r;
}

-- The results for six statements, the last one first: NOP, RNP with a label at the exit code, a call, `CLP 3`, a call
-- with three operands at 23, and `IF NOT ..` at 18. The depths are those of the indented text.
pub record WorkedStatements : Type 0 where
  pub offsets : map (λ (l : Left). l.place.offset) hanoi_lefts ≡ 49 ∷ 47 ∷ 36 ∷ 34 ∷ 23 ∷ 18 ∷ []
  pub labels : map (λ (l : Left). l.place.has_label) hanoi_lefts ≡ false ∷ true ∷ false ∷ false ∷ false ∷ false ∷ []
  pub exits : map (λ (l : Left). l.place.is_exit) hanoi_lefts ≡ false ∷ true ∷ false ∷ false ∷ false ∷ false ∷ []
  pub parts : map (λ (l : Left). l.parts) hanoi_lefts ≡ 1 ∷ 1 ∷ 10 ∷ 1 ∷ 10 ∷ 4 ∷ []
  pub depths : map (λ (l : Left). at_place (depths_if true hanoi) l.place.offset) hanoi_lefts
      ≡ 0 ∷ 0 ∷ 1 ∷ 1 ∷ 1 ∷ 0 ∷ []
  pub choice : map nested_depth (0 ∷ 1 ∷ 3 ∷ 6 ∷ 8 ∷ []) ≡ 0 ∷ 0 ∷ 1 ∷ 1 ∷ 1 ∷ []
  pub loop : map nested_depth (11 ∷ 14 ∷ 17 ∷ []) ≡ 0 ∷ 1 ∷ 1 ∷ []
  pub back : map nested_depth (19 ∷ 22 ∷ 25 ∷ []) ≡ 1 ∷ 1 ∷ 0 ∷ []
  pub out : map nested_depth (28 ∷ 31 ∷ 34 ∷ 35 ∷ 38 ∷ []) ≡ 1 ∷ 1 ∷ 1 ∷ 0 ∷ 0 ∷ []
  pub named : shown_places tabled
      (line_with word.If ∷ line_with (word.Plain leads.Nowhere) ∷ line_with (word.Plain (leads.Always 9))
      ∷ line_with word.End ∷ line_with word.EndCase ∷ [])
      (left_with (role.Jump condition.IfFalse (targets.To 5)) ∷ left_with role.Other
      ∷ left_with (role.Jump condition.Always (targets.To 9)) ∷ left_with role.Case ∷ [])
      ≡ 7 ∷ 2 ∷ 3 ∷ 9 ∷ []
