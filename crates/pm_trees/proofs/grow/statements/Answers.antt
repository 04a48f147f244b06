use Rattle.std.proofs.Common.{◌≤◌, ℕ, List, length, sym, ap, ◌∙◌, arith}
use Rattle.std.proofs.lemmas.Bool.Decides.{nat_tests}
use Rattle.pm_trees.specs.Parts.{Part}
use Rattle.pm_trees.specs.Piles.{Texts, closed_texts, texts_in}
use Rattle.pm_trees.proofs.Written.{added_none, both_parts, text_grows}
use Rattle.pm_trees.proofs.grow.statements.Goals as goal

-- After the last part of the code, no part remains to be added.
pub returns : goal.returns
returns c = record {
  statements =
      let ps : List Part = c.args.parts.now in
      let i : ℕ = c.loop-part.part-index in
      let k : ℕ = c.loop-part.pending in
      let t : Texts = texts_in c.loop-part.trees k in
      let test = c.loop-part-test.false in
      let high : length ps ≤ i = grind (arith, nat_tests, test) in
      sym (both_parts k c.loop-part.trees)
      ∙ ap (λ u. (closed_texts u).done) (sym (added_none c.args.around i ps t high) ∙ c.loop-part.invariant.0)
      ∙ text_grows c.args.around ps;
}
