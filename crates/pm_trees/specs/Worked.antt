-- Worked examples of blocks. Each example is a list of statements, numbered from 0, with the keywords of its lines.
use Rattle.std.specs.Prelude.{◌≡◌, ℕ, ◌+◌, List, [], ◌∷◌, map, Option, Some, None, option_map}
use Rattle.pm_trees.specs.declared.line.Line.{Line}
use Rattle.pm_trees.specs.declared.line.Word.{Word}
use Rattle.pm_trees.specs.declared.line.Word.TheVariants as word
use Rattle.pm_trees.specs.declared.statement.Leads.{Leads}
use Rattle.pm_trees.specs.declared.statement.Leads.TheVariants as leads
use Rattle.pm_trees.specs.declared.statement.Statement.{Statement}
use Rattle.pm_trees.specs.Blocks.{blocks}

-- Statements of one byte each, the first at offset `at`, with the given jumps.
abbrev pub statements_from : ℕ → List Leads → List Statement
statements_from at [] = []
statements_from at (l ∷ ls) = record { at = at; behind = at + 1; leads = l } ∷ statements_from (at + 1) ls

abbrev pub words_of : List Leads → Option (List Word)
words_of ls = option_map (map (λ (l : Line). l.word)) (blocks (statements_from 0 ls))

abbrev pub on : Leads
on = leads.Nowhere

abbrev pub when : ℕ → Leads
when place = leads.ByCondition place

abbrev pub to : ℕ → Leads
to place = leads.Always place

abbrev pub by : Leads
by = leads.ByValue

abbrev pub plain : Word
plain = word.Plain leads.Nowhere

pub record WorkedBlocks : Type 0 where
  pub straight : words_of (on ∷ on ∷ []) ≡ Some (plain ∷ plain ∷ [])
  -- Statement 0 jumps over statement 1.
  pub choice : words_of (when 2 ∷ on ∷ on ∷ []) ≡ Some (word.If ∷ plain ∷ word.End ∷ plain ∷ [])
  -- Statement 0 jumps to 3, and statement 2 jumps over 3.
  pub otherwise : words_of (when 3 ∷ on ∷ to 4 ∷ on ∷ on ∷ [])
      ≡ Some (word.If ∷ plain ∷ word.Else ∷ plain ∷ word.End ∷ plain ∷ [])
  -- Statement 1 jumps to the statement after 3, and statement 3 jumps back to 1.
  pub loop : words_of (on ∷ when 4 ∷ on ∷ to 1 ∷ on ∷ [])
      ≡ Some (plain ∷ word.While ∷ plain ∷ word.EndWhile ∷ plain ∷ [])
  -- Statement 2 jumps back to statement 1.
  pub until : words_of (on ∷ on ∷ when 1 ∷ on ∷ [])
      ≡ Some (plain ∷ word.Repeat ∷ plain ∷ word.Until ∷ plain ∷ [])
  -- Statement 0 jumps to itself.
  pub at_once : words_of (when 0 ∷ []) ≡ Some (word.Repeat ∷ word.Until ∷ [])
  -- An IF block in a WHILE loop in a REPEAT loop.
  pub nested : words_of (on ∷ when 5 ∷ when 4 ∷ on ∷ to 1 ∷ when 0 ∷ [])
      ≡ Some (word.Repeat ∷ plain ∷ word.While ∷ word.If ∷ plain ∷ word.End ∷ word.EndWhile ∷ word.Until ∷ [])
  -- Statement 2 jumps out of the loop, and statement 3 jumps to the end of the loop.
  pub out : words_of (on ∷ when 5 ∷ when 6 ∷ to 5 ∷ to 1 ∷ on ∷ on ∷ [])
      ≡ Some (plain ∷ word.While ∷ word.Plain (when 6) ∷ word.Plain (to 5) ∷ word.EndWhile ∷ plain ∷ plain ∷ [])
  -- Two conditions jump back to statement 0. The last one ends the loop.
  pub twice : words_of (on ∷ when 0 ∷ on ∷ when 0 ∷ [])
      ≡ Some (word.Repeat ∷ plain ∷ word.Plain (when 0) ∷ plain ∷ word.Until ∷ [])
  -- An IF block may end at the end of the code, but not after it.
  pub last : words_of (when 2 ∷ on ∷ []) ≡ Some (word.If ∷ plain ∷ word.End ∷ [])
  pub beyond : words_of (when 3 ∷ on ∷ []) ≡ Some (word.Plain (when 3) ∷ plain ∷ [])
  -- A block may not begin inside another block and end after it.
  pub crossing : words_of (when 3 ∷ when 4 ∷ on ∷ on ∷ on ∷ [])
      ≡ Some (word.If ∷ word.Plain (when 4) ∷ plain ∷ word.End ∷ plain ∷ plain ∷ [])
  -- Statement 1 jumps to 6, which jumps to 2 or 4 by a value. Statements 3 and 5 jump to the statement after 6.
  pub case : words_of (on ∷ to 6 ∷ on ∷ to 7 ∷ on ∷ to 7 ∷ by ∷ on ∷ [])
      ≡ Some (plain ∷ word.Case ∷ plain ∷ word.Leave ∷ plain ∷ word.Leave ∷ word.EndCase ∷ plain ∷ [])
  -- Two CASE blocks in a loop. The second one follows directly after the first.
  pub case_in_loop : words_of (when 8 ∷ to 3 ∷ to 4 ∷ by ∷ to 6 ∷ to 7 ∷ by ∷ to 0 ∷ on ∷ [])
      ≡ Some (word.While ∷ word.Case ∷ word.Leave ∷ word.EndCase ∷ word.Case ∷ word.Leave ∷ word.EndCase
      ∷ word.EndWhile ∷ plain ∷ [])
  -- An IF block in a CASE. Statement 2 jumps out of the IF block and the CASE. Statement 4 jumps beyond the end of the
  -- CASE.
  pub out_of_case : words_of (to 6 ∷ when 3 ∷ to 7 ∷ on ∷ to 8 ∷ to 7 ∷ by ∷ on ∷ on ∷ [])
      ≡ Some (word.Case ∷ word.If ∷ word.Plain (to 7) ∷ word.End ∷ plain ∷ word.Plain (to 8) ∷ word.Leave
      ∷ word.EndCase ∷ plain ∷ plain ∷ [])
  -- Statements 0 and 1 jump to the same statement, and only statement 0 opens a block. A CASE cannot be empty.
  pub twice_to_case : words_of (to 3 ∷ to 3 ∷ on ∷ by ∷ to 5 ∷ by ∷ [])
      ≡ Some (word.Case ∷ word.Plain (to 3) ∷ plain ∷ word.EndCase ∷ word.Plain (to 5) ∷ word.Plain by ∷ [])
  -- A CASE may not begin inside an IF block and end after it.
  pub crossing_case : words_of (when 3 ∷ to 4 ∷ on ∷ on ∷ by ∷ on ∷ [])
      ≡ Some (word.If ∷ word.Plain (to 4) ∷ plain ∷ word.End ∷ plain ∷ word.Plain by ∷ plain ∷ [])
  -- The jump at the end of an IF block is ELSE, for any target.
  pub else_to_case : words_of (when 2 ∷ to 3 ∷ on ∷ by ∷ on ∷ [])
      ≡ Some (word.If ∷ word.Else ∷ plain ∷ word.End ∷ word.Plain by ∷ plain ∷ [])
  -- No statement begins at offset 3, where an IF block would end.
  pub between : option_map (map (λ (l : Line). l.word)) (blocks (
      record { at = 0; behind = 1; leads = when 3 }
      ∷ record { at = 1; behind = 4; leads = on }
      ∷ record { at = 4; behind = 5; leads = on } ∷ [])) ≡ None
