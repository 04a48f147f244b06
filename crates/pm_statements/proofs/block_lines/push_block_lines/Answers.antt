use Rattle.std.proofs.Common.{◌≡◌, ◌+◌, ◌++◌, ◌∷◌, ◌∙◌, ℕ, List, ap, drop, map, slice_index_or, string_bytes, sym}
use Rattle.std.proofs.lemmas.List.{drop-map, drop_all, drop_more}
use Rattle.pm_trees.specs.declared.left.Left.{Left}
use Rattle.pm_trees.specs.declared.line.Line.{Line}
use Rattle.pm_trees.specs.declared.line.Word.TheVariants as word
use Rattle.pm_trees.specs.declared.statement.Leads.TheVariants as leads
use Rattle.pm_statements.specs.BlockLabels.{relabelled}
use Rattle.pm_statements.specs.BlockLines.{block_line, statements_at}
use Rattle.pm_statements.specs.Marks.{has}
use Rattle.pm_statements.proofs.BlockLabelled.{calls_labelled}
use Rattle.pm_statements.proofs.Blocked.{block_done, block_step}
use Rattle.pm_statements.proofs.block_lines.push_block_lines.Goals as goal

-- An arbitrary value, used for the element at an index after the end of a list.
abbrev nothing : Line
nothing = record { word = word.Plain leads.Nowhere; at = 0; behind = 0 }

pub loop-line-preserved : goal.loop-line-preserved
loop-line-preserved c =
    let i : ℕ = c.loop-line.line-index in
    let all : List Line = c.args.lines.now in
    let x : Line = slice_index_or all i nothing in
    let front : drop i all ≡ x ∷ drop (i + 1) all = drop_more all i nothing c.loop-line-test.true in
    let out = string_bytes c.loop-line.out in
    let shown : List Left → List Left = map (relabelled (has c.args.marks.now)) in
    let ls = shown c.loop-line.statements.now in
    let ss = c.loop-line.texts.now in
    block_step c.loop-line.depth c.in-Some.more c.loop-line.behind_call c.calls_at-behind_call.result x (drop (i + 1) all) (drop i all)
    ls (shown c.behind_word-statements.result.now) ss c.behind_word-texts.result.now out (string_bytes c.push_block_line.new.out)
    front
    (c.in_ok-push_block_line.ensures.text
    ∙ ap (λ (n : ℕ). out ++ block_line n c.loop-line.behind_call x.word ls ss) c.depth_at-own.ensures.depth)
    c.in-Some.ensures.depth
    (c.calls_at-behind_call.ensures.value ∙ calls_labelled (has c.args.marks.now) x.word c.loop-line.statements.now)
    (ap shown c.behind_word-statements.ensures.rest
    ∙ sym (drop-map (relabelled (has c.args.marks.now)) (statements_at x.word) c.loop-line.statements.now))
    c.behind_word-texts.ensures.rest
    ∙ c.loop-line.invariant

pub returns : goal.returns
returns c = record {
  text =
      let i : ℕ = c.loop-line.line-index in
      sym (block_done c.loop-line.depth c.loop-line.behind_call (drop i c.args.lines.now)
      (map (relabelled (has c.args.marks.now)) c.loop-line.statements.now) c.loop-line.texts.now
      (string_bytes c.loop-line.out) (drop_all i c.args.lines.now c.loop-line-test.false))
      ∙ c.loop-line.invariant;
}
