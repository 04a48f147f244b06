use Rattle.std.proofs.Common.{◌≡◌, ◌+◌, ◌∷◌, ◌∙◌, ℕ, List, drop, slice_index_or}
use Rattle.std.specs.Prelude.{◌||◌}
use Rattle.std.proofs.lemmas.List.{drop_all, drop_more}
use Rattle.pm_code.specs.Program.{is_among}
use Rattle.pm_trees.specs.declared.line.Line.{Line}
use Rattle.pm_trees.specs.declared.line.Word.TheVariants as word
use Rattle.pm_trees.specs.declared.statement.Leads.TheVariants as leads
use Rattle.pm_statements.specs.BlockLabels.{line_places}
use Rattle.pm_statements.specs.Marks.{has}
use Rattle.pm_statements.proofs.BlockLabelled.{line_step, lines_done}
use Rattle.pm_statements.proofs.block_labels.mark_lines.Goals as goal

-- An arbitrary value, used for the element at an index after the end of a list.
abbrev nothing : Line
nothing = record { word = word.Plain leads.Nowhere; at = 0; behind = 0 }

pub loop-line-preserved : goal.loop-line-preserved
loop-line-preserved c = λ p.
    let i : ℕ = c.loop-line.line-index in
    let all : List Line = c.args.lines.now in
    let x : Line = slice_index_or all i nothing in
    let front : drop i all ≡ x ∷ drop (i + 1) all = drop_more all i nothing c.loop-line-test.true in
    line_step x (drop (i + 1) all) (drop i all) c.loop-line.statements.now c.behind_word-statements.result.now p
    (has c.mark_first.new.marks p) (has c.loop-line.marks p) front (c.in_ok-mark_first.ensures.has p)
    c.behind_word-statements.ensures.rest
    ∙ c.loop-line.invariant p

pub returns : goal.returns
returns c = record {
  has = λ p.
      let i : ℕ = c.loop-line.line-index in
      let all : List Line = c.args.lines.now in
      lines_done (drop i all) c.loop-line.statements.now p (has c.loop-line.marks p)
      (has c.args.marks.now p || is_among (line_places all c.args.lefts.now) p)
      (drop_all i all c.loop-line-test.false) (c.loop-line.invariant p);
}
