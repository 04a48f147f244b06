-- Recovery of the statements from the lines that show them in blocks.
use Rattle.std.specs.Prelude.{ℕ, List, [], ◌∷◌, Option, Some, None, option_map}
use Rattle.pm_trees.specs.declared.line.Line.{Line}
use Rattle.pm_trees.specs.declared.line.Word.{Word}
use Rattle.pm_trees.specs.declared.line.Word.TheVariants as word
use Rattle.pm_trees.specs.declared.statement.Leads.{Leads}
use Rattle.pm_trees.specs.declared.statement.Leads.TheVariants as leads
use Rattle.pm_trees.specs.declared.statement.Statement.{Statement}

-- A block that a line has opened. For a loop, the field is the offset at which the loop begins.
pub data Bracket : Type 0 where
  AnIf : Bracket
  AnElse : Bracket
  AWhile : ℕ → Bracket
  ARepeat : ℕ → Bracket
  ACase : Bracket

-- The statements of the remaining lines, and offsets of the blocks that are open before these lines, the innermost
-- first.
--
-- The list `ends` has the end of each open IF, ELSE and WHILE block. For a CASE, it has the beginning of the last
-- statement of the CASE, and then its end. A REPEAT loop has no entry.
pub record Reading : Type 0 where
  pub statements : List Statement
  pub ends : List ℕ

-- The statement of the line `l`, with the jump `to`.
abbrev pub statement_of : Line → Leads → Statement
statement_of l to = record { at = l.at; behind = l.behind; leads = to }

-- The result `r` after the statement `s` is put before its statements.
abbrev pub said : Statement → Reading → Reading
said s r = record { statements = s ∷ r.statements; ends = r.ends }

-- The result `r` after the statement `s`, which closes a block that ends at `end`, is put before its statements.
abbrev pub ended : Statement → ℕ → Reading → Reading
ended s end r = record { statements = s ∷ r.statements; ends = end ∷ r.ends }

-- Reads a line with a condition (IF or WHILE). The condition jumps to the end of its block, the first item of the ends.
abbrev pub opened_to : Line → List Statement → List ℕ → Option Reading
opened_to l ss [] = None
opened_to l ss (end ∷ ends) =
    Some (record { statements = statement_of l (leads.ByCondition end) ∷ ss; ends = ends })

abbrev pub opened : Line → Option Reading → Option Reading
opened l None = None
opened l (Some r) = opened_to l r.statements r.ends

-- Reads an ELSE line. Its statement jumps to the end of the ELSE block, and is the end of the IF block.
abbrev pub turned_to : Line → List Statement → List ℕ → Option Reading
turned_to l ss [] = None
turned_to l ss (end ∷ ends) =
    Some (record { statements = statement_of l (leads.Always end) ∷ ss; ends = l.behind ∷ ends })

abbrev pub turned : Line → Option Reading → Option Reading
turned l None = None
turned l (Some r) = turned_to l r.statements r.ends

-- Reads a CASE line. Its statement jumps to the last statement of the CASE.
abbrev pub entered_to : Line → List Statement → List ℕ → Option Reading
entered_to l ss (last ∷ end ∷ ends) =
    Some (record { statements = statement_of l (leads.Always last) ∷ ss; ends = ends })
entered_to l ss _ = None

abbrev pub entered : Line → Option Reading → Option Reading
entered l None = None
entered l (Some r) = entered_to l r.statements r.ends

-- Reads a LEAVE line. Its statement jumps to the end of the CASE.
abbrev pub left_to : Line → List Statement → List ℕ → Option Reading
left_to l ss (last ∷ end ∷ ends) =
    Some (record { statements = statement_of l (leads.Always end) ∷ ss; ends = last ∷ end ∷ ends })
left_to l ss _ = None

abbrev pub left : Line → Option Reading → Option Reading
left l None = None
left l (Some r) = left_to l r.statements r.ends

-- Reads an END CASE line. Its statement is the last statement of the CASE.
abbrev pub decided : Line → Reading → Reading
decided l r = record { statements = statement_of l leads.ByValue ∷ r.statements; ends = l.at ∷ l.behind ∷ r.ends }

-- Reads an END line. Its offset is the end of an IF or ELSE block.
abbrev pub closed : Line → Reading → Reading
closed l r = record { statements = r.statements; ends = l.at ∷ r.ends }

-- Reads the line `l`, which is inside the open blocks `ks`. `rest` reads the lines after it.
abbrev pub read_line : Word → Line → List Bracket → (List Bracket → Option Reading) → Option Reading
read_line (word.Plain to) l ks rest = option_map (said (statement_of l to)) (rest ks)
read_line word.If l ks rest = opened l (rest (AnIf ∷ ks))
read_line word.While l ks rest = opened l (rest (AWhile l.at ∷ ks))
read_line word.Repeat l ks rest = rest (ARepeat l.at ∷ ks)
read_line word.Case l ks rest = entered l (rest (ACase ∷ ks))
read_line word.Leave l (ACase ∷ ks) rest = left l (rest (ACase ∷ ks))
read_line word.Else l (AnIf ∷ ks) rest = turned l (rest (AnElse ∷ ks))
read_line word.End l (AnIf ∷ ks) rest = option_map (closed l) (rest ks)
read_line word.End l (AnElse ∷ ks) rest = option_map (closed l) (rest ks)
read_line word.EndWhile l (AWhile place ∷ ks) rest =
    option_map (ended (statement_of l (leads.Always place)) l.behind) (rest ks)
read_line word.Until l (ARepeat place ∷ ks) rest =
    option_map (said (statement_of l (leads.ByCondition place))) (rest ks)
read_line word.EndCase l (ACase ∷ ks) rest = option_map (decided l) (rest ks)
read_line _ l ks rest = None

-- Reads the end of the lines. The result is `None` if a block is still open.
abbrev pub read_end : List Bracket → Option Reading
read_end [] = Some (record { statements = []; ends = [] })
read_end (k ∷ ks) = None

abbrev pub read : List Line → List Bracket → Option Reading
read [] ks = read_end ks
read (l ∷ ls) ks = read_line l.word l ks (read ls)

-- The statements that the lines `ls` show. The target of a jump that opens or closes a block follows from the blocks. A
-- plain line has the target of its jump itself.
unfoldable pub expanded : List Line → Option (List Statement)
expanded ls = option_map (λ (r : Reading). r.statements) (read ls [])
