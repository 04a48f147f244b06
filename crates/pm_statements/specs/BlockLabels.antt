-- The labels of statements that are shown in blocks. A statement has a label only if the text names its offset.
use Rattle.std.specs.Prelude.{ℕ, Bool, List, [], ◌∷◌, ◌++◌, drop}
use Rattle.pm_code.specs.Item.{Item}
use Rattle.pm_code.specs.Item.Item.{Case}
use Rattle.pm_code.specs.Program.{Procedure, target_places}
use Rattle.pm_code.specs.Views.{placed_target}
use Rattle.pm_trees.specs.declared.left.Left.{Left}
use Rattle.pm_trees.specs.declared.left.Role.{Role}
use Rattle.pm_trees.specs.declared.left.Role.TheVariants as role
use Rattle.pm_trees.specs.declared.line.Line.{Line}
use Rattle.pm_trees.specs.declared.line.Word.{Word}
use Rattle.pm_trees.specs.declared.line.Word.TheVariants as word
use Rattle.pm_statements.specs.BlockLines.{statements_at}

-- ---- the offsets that a text names

-- Returns the offsets that a case jump names. For any other item the list is empty.
abbrev pub case_places : Item ℕ → List ℕ
case_places (Case low high otherwise places) = target_places otherwise ++ places
case_places _ = []

abbrev pub table_places : List (Item ℕ) → List ℕ
table_places [] = []
table_places (item ∷ items) = case_places item ++ table_places items

-- Returns the target of a jump that is shown as a plain statement. The list is empty for any other keyword, because a
-- keyword of a block names no target.
abbrev pub jump_places : Word → Role → List ℕ
jump_places (word.Plain to) (role.Jump c target) = target_places (placed_target target)
jump_places _ _ = []

abbrev pub first_places : Word → List Left → List ℕ
first_places w [] = []
first_places w (l ∷ ls) = jump_places w l.role

-- Returns the offsets that the text of lines names, in the order of the lines. The second list has the statements of
-- these lines.
unfoldable pub line_places : List Line → List Left → List ℕ
line_places [] ls = []
line_places (x ∷ xs) ls = first_places x.word ls ++ line_places xs (drop (statements_at x.word) ls)

-- Returns the offsets that the text of the procedure `p` in blocks names. These are the offsets of each case jump, of
-- its jump table, and of each jump that is shown as a plain statement.
abbrev pub shown_places : Procedure → List Line → List Left → List ℕ
shown_places p xs ls = table_places p.items ++ (p.entries ++ line_places xs ls)

-- ---- a statement with new labels

abbrev pub relabelled : (ℕ → Bool) → Left → Left
relabelled labelled l = record {
  leaves = l.leaves;
  place = record { offset = l.place.offset; has_label = labelled l.place.offset; is_exit = l.place.is_exit };
  parts = l.parts;
  role = l.role;
}
