-- The text of statements in blocks.
use Rattle.std.specs.Prelude.{ℕ, Bool, false, ◌==◌, ◌-◌, ◌&&◌, if◌then◌else◌, codes}
use Rattle.std.specs.Prelude.{List, [], ◌∷◌, ◌++◌, drop, length, take}
use Rattle.std.specs.List.{ends_with, starts_with}
use Rattle.pm_trees.specs.Lines.{depth_at, depth_behind, is_extra}
use Rattle.pm_trees.specs.declared.line.Line.{Line}
use Rattle.pm_trees.specs.declared.line.Word.{Word}
use Rattle.pm_trees.specs.declared.line.Word.TheVariants as word
use Rattle.pm_code.specs.Shown.{target_text}
use Rattle.pm_code.specs.Views.{placed_target}
use Rattle.pm_families.specs.declared.families.Condition.TheVariants as condition
use Rattle.pm_phrases.specs.Shown.{Shown, value_text}
use Rattle.pm_trees.specs.declared.left.Left.{Left}
use Rattle.pm_trees.specs.declared.left.Role.{Role}
use Rattle.pm_trees.specs.declared.left.Role.TheVariants as role
use Rattle.pm_statements.specs.Texts.{blanks, front, is_call, is_check, push_text}

-- ---- the condition of a jump

abbrev pub without_front : List ℕ → List ℕ → List ℕ
without_front front text = if starts_with ◌==◌ text front then drop (length front) text else text

abbrev pub without_tail : List ℕ → List ℕ → List ℕ
without_tail tail text = if ends_with ◌==◌ text tail then take (length text - length tail) text else text

-- Returns the condition under which a jump is not taken, from the text of the jump. For `IF NOT (c) GOTO L` it is `c`.
-- For `IF a = b GOTO L` it is `NOT (a = b)`.
unfoldable pub condition_text : Role → List ℕ → List ℕ
condition_text (role.Jump condition.IfFalse target) text =
    without_tail (codes ") GOTO " ++ target_text (placed_target target)) (without_front (codes "IF NOT (") text)
condition_text (role.Jump c target) text =
    codes "NOT (" ++ (without_tail (codes " GOTO " ++ target_text (placed_target target))
    (without_front (codes "IF ") text) ++ codes ")")
condition_text _ text = text

-- ---- lines

unfoldable pub word_text : Word → Left → Shown → List ℕ
word_text (word.Plain to) l s = push_text l.leaves ++ value_text s 0
word_text word.If l s = codes "IF " ++ (condition_text l.role s.text ++ codes " THEN")
word_text word.While l s = codes "WHILE " ++ (condition_text l.role s.text ++ codes " DO")
word_text word.Until l s = codes "UNTIL " ++ condition_text l.role s.text
word_text word.Else l s = codes "ELSE"
word_text word.EndWhile l s = codes "END"
word_text word.Case l s = codes "CASE"
word_text word.Leave l s = codes "LEAVE"
word_text word.EndCase l s = codes "END " ++ value_text s 0
word_text word.Repeat l s = []
word_text word.End l s = []

-- Returns the line of the statement `l` with the text `s` and the keyword `w`. An I/O check after a call is appended to
-- the line of the call.
abbrev pub worded_line : ℕ → Bool → Word → Left → Shown → List ℕ
worded_line depth behind_call w l s =
    if behind_call && is_check l
    then 32 ∷ value_text s 0
    else front l.place ++ (blanks depth ++ word_text w l s)

-- Returns the line of the first statement of a list, or no text if the list is empty.
abbrev pub first_line : ℕ → Bool → Word → List Left → List Shown → List ℕ
first_line depth behind_call w [] ss = []
first_line depth behind_call w (l ∷ ls) [] = []
first_line depth behind_call w (l ∷ ls) (s ∷ ss) = worded_line depth behind_call w l s

-- Returns the text of a line that has a keyword but no statement. The line has spaces instead of an offset.
abbrev pub extra_text : Word → List ℕ
extra_text word.Repeat = codes "REPEAT"
extra_text word.End = codes "END"
extra_text _ = []

abbrev pub extra_line : ℕ → Word → List ℕ
extra_line depth w = (10 ∷ codes "      ") ++ (blanks depth ++ extra_text w)

abbrev pub block_line : ℕ → Bool → Word → List Left → List Shown → List ℕ
block_line depth behind_call w ls ss =
    if is_extra w then extra_line depth w else first_line depth behind_call w ls ss

-- Is true if the first statement of a list is a call.
abbrev pub first_calls : List Left → Bool
first_calls [] = false
first_calls (l ∷ ls) = is_call l

abbrev pub calls_at : Word → List Left → Bool
calls_at w ls = if is_extra w then false else first_calls ls

-- Returns the number of statements of a line with the keyword `w`: 0 or 1.
abbrev pub statements_at : Word → ℕ
statements_at w = if is_extra w then 0 else 1

-- Returns the text of lines with their statements, in this order. `depth` is the number of open blocks. `behind_call`
-- is true if a call precedes the first line.
unfoldable pub block_lines : ℕ → Bool → List Line → List Left → List Shown → List ℕ
block_lines depth behind_call [] ls ss = []
block_lines depth behind_call (x ∷ xs) ls ss =
    block_line (depth_at x.word depth) behind_call x.word ls ss
    ++ block_lines (depth_behind x.word depth) (calls_at x.word ls) xs
    (drop (statements_at x.word) ls) (drop (statements_at x.word) ss)
