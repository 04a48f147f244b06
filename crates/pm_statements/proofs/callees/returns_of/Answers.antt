use Rattle.std.proofs.Common.{◌≡◌, ◌+◌, ◌∷◌, ℕ, drop, map, sym, ap, ◌∙◌}
use Rattle.std.proofs.lemmas.List.{drop_all, drop_more}
use Rattle.pm_code.specs.Views.{placed_item}
use Rattle.pm_statements.specs.Callees.{joined, returns_from}
use Rattle.pm_statements.proofs.Called.{returns_done, returns_step}
use Rattle.pm_statements.proofs.callees.returns_of.Goals as goal

pub loop-item-preserved : goal.loop-item-preserved
loop-item-preserved c =
    let items = c.args.items.now in
    let i : ℕ = c.loop-item.item-index in
    let r = c.loop-item.returns in
    let item = c.item-item.result in
    let rest = map placed_item (drop (i + 1) items) in
    let there : drop i items ≡ item ∷ drop (i + 1) items =
    drop_more items i item c.loop-item-test.true ∙ ap (λ x. x ∷ drop (i + 1) items) (sym c.item-item.is) in
    ap (λ q. returns_from q rest) (c.joined-returns.ensures.returns ∙ ap (joined r) c.words_returned.ensures.words)
    ∙ returns_step r (placed_item item) rest (map placed_item (drop i items)) (ap (map placed_item) there)
    ∙ c.loop-item.invariant

pub returns : goal.returns
returns c = record {
  returns =
      let items = c.args.items.now in
      let i : ℕ = c.loop-item.item-index in
      sym (returns_done c.loop-item.returns (map placed_item (drop i items)) (ap (map placed_item) (drop_all i items c.loop-item-test.false)))
      ∙ c.loop-item.invariant;
}
