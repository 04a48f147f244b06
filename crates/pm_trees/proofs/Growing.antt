-- Laws of the lines of statements, added one statement after the other.
use Rattle.std.proofs.Common.{◌≡◌, ℕ, Bool, true, List, [], ◌∷◌, ◌++◌, append_assoc, refl, sym, ap, ◌∙◌}
use Rattle.std.specs.Prelude.{◌&&◌}
use Rattle.pm_trees.specs.declared.backs.Loops.{Loops}
use Rattle.pm_trees.specs.declared.block.Block.{Block}
use Rattle.pm_trees.specs.declared.line.Line.{Line}
use Rattle.pm_trees.specs.declared.statement.Statement.{Statement}
use Rattle.pm_trees.specs.Backs.{loops_at}
use Rattle.pm_trees.specs.Blocks.{all_end, code_end, end_here, end_lines, is_empty, lines_from, open_after, open_at, statement_lines}
use Rattle.pm_trees.proofs.Closing.{and_assoc}

-- States the invariant of the loop over statements: the lines so far, followed by the lines of the remaining
-- statements, are the lines of all statements.
pub record Growing (all : List Statement) (so_far : Bool) (ls : List Line) (bs : List Block) (ss : List Statement) : Type 0 where
  pub lines : ls ++ lines_from (code_end all) all bs ss ≡ lines_from (code_end all) all [] all
  pub right : (so_far && all_end (code_end all) all bs ss) ≡ all_end (code_end all) all [] all

pub growing_none : (all : List Statement) → Growing all true [] [] all
growing_none all = record { lines = refl; right = refl }

-- If the lines of the statement `s` are appended, then the invariant is preserved.
pub growing_step : (all : List Statement) (right here next : Bool) (ls more : List Line) (bs new : List Block) (s : Statement) (ss now : List Statement)
    (loops : Loops) → Growing all right ls bs now → now ≡ s ∷ ss → loops ≡ loops_at all s
    → more ≡ ls ++ statement_lines (code_end all) loops s bs → new ≡ open_after (code_end all) loops s bs
    → here ≡ end_here s.at bs → next ≡ (right && here) → Growing all next more new ss
unfolding all_end lines_from
growing_step all right here next ls more bs new s ss now loops g e f m n h k =
    let limit : ℕ = code_end all in
    let own : List Line = statement_lines limit (loops_at all s) s bs in
    let after : List Block = open_after limit (loops_at all s) s bs in
    let there : new ≡ after = n ∙ ap (λ (l : Loops). open_after limit l s bs) f in
    record {
      lines =
          ap (λ l. l ++ lines_from limit all new ss) (m ∙ ap (λ (l : Loops). ls ++ statement_lines limit l s bs) f)
          ∙ ap (λ b. (ls ++ own) ++ lines_from limit all b ss) there
          ∙ append_assoc ls own (lines_from limit all after ss)
          ∙ ap (λ x. ls ++ lines_from limit all bs x) (sym e)
          ∙ g.lines;
      right =
          ap (λ x. x && all_end limit all new ss) k
          ∙ ap (λ x. (right && x) && all_end limit all new ss) h
          ∙ ap (λ b. (right && end_here s.at bs) && all_end limit all b ss) there
          ∙ and_assoc right (end_here s.at bs) (all_end limit all after ss)
          ∙ ap (λ x. right && all_end limit all bs x) (sym e)
          ∙ g.right;
    }

-- If no statement remains, and the END lines at the end of the code are appended, then the lines are the lines of all
-- statements.
pub growing_done : (all : List Statement) (right here empty next : Bool) (ls more : List Line) (bs new : List Block) (ss : List Statement)
    → Growing all right ls bs ss → ss ≡ [] → more ≡ ls ++ end_lines (code_end all) bs → new ≡ open_at (code_end all) bs
    → here ≡ end_here (code_end all) bs → empty ≡ is_empty new → next ≡ ((right && here) && empty)
    → (more ≡ lines_from (code_end all) all [] all) × (next ≡ all_end (code_end all) all [] all)
unfolding all_end lines_from
growing_done all right here empty next ls more bs new ss g e m n h k z =
    let limit : ℕ = code_end all in (
      m ∙ ap (λ x. ls ++ lines_from limit all bs x) (sym e) ∙ g.lines,
      z ∙ ap (λ x. (right && x) && empty) h
          ∙ ap (λ x. (right && end_here limit bs) && x) (k ∙ ap is_empty n)
          ∙ and_assoc right (end_here limit bs) (is_empty (open_at limit bs))
          ∙ ap (λ x. right && all_end limit all bs x) (sym e)
          ∙ g.right,
    )
