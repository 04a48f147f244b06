use Rattle.std.proofs.Common.{◌≡◌, ◌≤◌, ◌+◌, ◌∷◌, ℕ, drop, length, map, sym, ap, subst, ◌∙◌}
use Rattle.std.proofs.lemmas.List.{drop_all, drop_more}
use Rattle.pm_code.specs.Views.{placed_item, procedure_seen}
use Rattle.pm_statements.specs.Depths.{leads_by_condition, with_loop}
use Rattle.pm_statements.proofs.Spanned.{loops_done, loops_step}
use Rattle.pm_statements.proofs.depths.loops_of.Goals as goal

pub loop-item-preserved : goal.loop-item-preserved
loop-item-preserved c =
    let p = procedure_seen c.args.procedure.now in
    let items = c.args.procedure.now.items.items in
    let lent = c.deref-item-items.result.now in
    let i : ℕ = c.loop-item.item-index in
    let item = c.item-item.result in
    let here : drop i lent ≡ item ∷ drop (i + 1) lent =
    drop_more lent i item c.loop-item-test.true ∙ ap (λ x. x ∷ drop (i + 1) lent) (sym c.item-item.is) in
    let there : drop i items ≡ item ∷ drop (i + 1) items =
    subst (λ l. drop i l ≡ item ∷ drop (i + 1) l) c.deref-item-items.ensures.value here in
    loops_step p.entries p.start c.loop-item.at c.in_ok-next.next (placed_item item) (map placed_item (drop (i + 1) items))
    (map placed_item (drop i items)) c.loop-item.loops.items c.add_loop.new.loops.items (ap (map placed_item) there)
    c.in_ok-next.ensures.behind
    (c.add_loop.ensures.loops ∙ ap (λ o. with_loop p.start c.loop-item.at c.in_ok-next.next o c.loop-item.loops.items)
    (c.leads_by_condition-place.ensures.value
    ∙ ap (λ es. leads_by_condition es (placed_item item)) c.deref.ensures.value))
    ∙ c.loop-item.invariant

pub returns : goal.returns
returns c = record {
  loops =
      let p = procedure_seen c.args.procedure.now in
      let items = c.args.procedure.now.items.items in
      let i : ℕ = c.loop-item.item-index in
      let high : length items ≤ i = subst (λ l. length l ≤ i) c.deref-item-items.ensures.value c.loop-item-test.false in
      ap (λ list. record { start = p.start; list = list }) (sym (loops_done p.entries p.start c.loop-item.at (map placed_item (drop i items))
      c.loop-item.loops.items (ap (map placed_item) (drop_all i items high)))
      ∙ c.loop-item.invariant);
}
