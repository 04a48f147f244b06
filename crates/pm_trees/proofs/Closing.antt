-- Laws of closing blocks one after the other.
use Rattle.std.proofs.Common.{◌≡◌, ℕ, Bool, true, false, List, ◌∷◌, ◌++◌, append_assoc, refl, sym, ap, ◌∙◌}
use Rattle.std.specs.Prelude.{◌&&◌}
use Rattle.std.proofs.lemmas.List.{append-nil}
use Rattle.pm_trees.specs.declared.block.Block.{Block}
use Rattle.pm_trees.specs.declared.line.Line.{Line}
use Rattle.pm_trees.specs.Blocks.{end_here, end_line, end_lines, ends_here, has_ended, open_at}
use Rattle.pm_trees.proofs.Lists.{none_here, none_lines, none_open}

-- States the invariant of closing. The lines so far and the END lines of the remaining blocks are all lines. The same
-- blocks remain open at the end. `here` is the result for the blocks that were closed.
pub record Closing (at : ℕ) (here : Bool) (now : List Line) (open_now : List Block) (old : List Line) (open_old : List Block) : Type 0 where
  pub lines : now ++ end_lines at open_now ≡ old ++ end_lines at open_old
  pub left : open_at at open_now ≡ open_at at open_old
  pub right : (here && end_here at open_now) ≡ end_here at open_old

pub closing_none : (at : ℕ) (ls : List Line) (bs : List Block) → Closing at true ls bs ls bs
closing_none at ls bs = record { lines = refl; left = refl; right = refl }

pub and_assoc : (a b c : Bool) → ((a && b) && c) ≡ (a && (b && c))
and_assoc true b c = refl
and_assoc false b c = refl

and_true : (a : Bool) → (a && true) ≡ a
and_true true = refl
and_true false = refl

-- If the innermost block `b` has ended, then closing it and appending its END line preserves the invariant.
pub closing_step : (at : ℕ) (here next : Bool) (now more old : List Line) (b : Block) (bs open_old : List Block)
    → Closing at here now (b ∷ bs) old open_old → has_ended at (b ∷ bs) ≡ true → more ≡ now ++ end_line at b.kind
    → next ≡ (here && ends_here at b) → Closing at next more bs old open_old
closing_step at here next now more old b bs open_old c e m n = record {
  lines =
      ap (λ l. l ++ end_lines at bs) m
      ∙ append_assoc now (end_line at b.kind) (end_lines at bs)
      ∙ ap (λ l. now ++ l) (rw e refl)
      ∙ c.lines;
  left = (rw e refl) ∙ c.left;
  right =
      ap (λ x. x && end_here at bs) n
      ∙ and_assoc here (ends_here at b) (end_here at bs)
      ∙ ap (λ x. here && x) (rw e refl)
      ∙ c.right;
}

-- If the innermost block has not ended, then the lines, the open blocks and the result are complete.
pub closing_done : (at : ℕ) (here : Bool) (now old : List Line) (open_now open_old : List Block)
    → Closing at here now open_now old open_old → has_ended at open_now ≡ false
    → (now ≡ old ++ end_lines at open_old) × (open_now ≡ open_at at open_old) × (here ≡ end_here at open_old)
closing_done at here now old open_now open_old c e = (
  sym (append-nil now) ∙ ap (λ l. now ++ l) (sym (none_lines at open_now e)) ∙ c.lines,
  sym (none_open at open_now e) ∙ c.left,
  sym (and_true here) ∙ ap (λ x. here && x) (sym (none_here at open_now e)) ∙ c.right,
)
