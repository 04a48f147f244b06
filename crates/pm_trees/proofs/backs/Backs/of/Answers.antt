use Rattle.std.proofs.Common.{◌≡◌, ◌+◌, ◌∷◌, ℕ, List, drop, slice_index_or, sym, refl, ◌∙◌}
use Rattle.std.proofs.lemmas.List.{drop_all, drop_more}
use Rattle.pm_trees.specs.Backs.{back_place, written}
use Rattle.pm_trees.specs.Backs.Way.{Always, ByCondition, ByValue}
use Rattle.pm_trees.specs.declared.statement.Leads.TheVariants as leads
use Rattle.pm_trees.specs.declared.statement.Statement.{Statement}
use Rattle.pm_trees.proofs.BlockEnds.{ends_done, ends_step}
use Rattle.pm_trees.proofs.backs.Backs.of.Goals as goal

-- A statement that is returned for an index after the end of the list.
abbrev nothing : Statement
nothing = record { at = 0; behind = 0; leads = leads.Nowhere }

pub loop-statement-preserved : goal.loop-statement-preserved
loop-statement-preserved c =
    let i : ℕ = c.loop-statement.statement-index in
    let all : List Statement = c.args.statements.now in
    let s : Statement = slice_index_or all i nothing in
    let front : drop i all ≡ s ∷ drop (i + 1) all = drop_more all i nothing c.loop-statement-test.true in
    record {
      by_condition = λ p. ends_step ByCondition p s (drop (i + 1) all) (drop i all) _ _ (back_place ByCondition s.leads s.at) _ front refl
          (c.in_ok-add_statement.ensures.by_condition p) (c.loop-statement.invariant.by_condition p);
      always = λ p. ends_step Always p s (drop (i + 1) all) (drop i all) _ _ (back_place Always s.leads s.at) _ front refl
          (c.in_ok-add_statement.ensures.always p) (c.loop-statement.invariant.always p);
      by_value = λ p. ends_step ByValue p s (drop (i + 1) all) (drop i all) _ _ (back_place ByValue s.leads s.at) _ front refl
          (c.in_ok-add_statement.ensures.by_value p) (c.loop-statement.invariant.by_value p);
    }

pub returns : goal.returns
returns c = record {
  of =
      let i : ℕ = c.loop-statement.statement-index in
      let all : List Statement = c.args.statements.now in
      let none = drop_all i all c.loop-statement-test.false in
      let ends = c.loop-statement.ends in
      record {
        by_condition = λ p. sym (ends_done ByCondition p (written ends.by_condition.items p) (drop i all) none) ∙ c.loop-statement.invariant.by_condition p;
        always = λ p. sym (ends_done Always p (written ends.always.items p) (drop i all) none) ∙ c.loop-statement.invariant.always p;
        by_value = λ p. sym (ends_done ByValue p (written ends.by_value.items p) (drop i all) none) ∙ c.loop-statement.invariant.by_value p;
      };
}
