use Rattle.std.proofs.Common.{rules, Some, ◌≡◌, ◌≤◌, ◌+◌, ◌∷◌, ℕ, drop, length, map, reverse, sym, ap, subst, ◌∙◌}
use Rattle.std.proofs.lemmas.List.{drop_all, drop_more}
use Rattle.pm_code.specs.Views.{placed_item, procedure_seen}
use Rattle.pm_statements.specs.Depths.{at_place, leads_to, loops, with_span}
use Rattle.pm_statements.proofs.Spanned.{depths_done, depths_step}
use Rattle.pm_statements.proofs.depths.list_of.Goals as goal

pub loop-item-preserved : goal.loop-item-preserved
loop-item-preserved c =
    let p = procedure_seen c.args.procedure.now in
    let items = c.args.procedure.now.items.items in
    let lent = c.deref-item-items.result.now in
    let i : ℕ = c.loop-item.item-index in
    let item = c.item-item.result in
    let here : drop i lent ≡ item ∷ drop (i + 1) lent =
    drop_more lent i item c.loop-item-test.true ∙ ap (λ x. x ∷ drop (i + 1) lent) (sym c.item-item.is) in
    let there : drop i items ≡ item ∷ drop (i + 1) items =
    subst (λ l. drop i l ≡ item ∷ drop (i + 1) l) c.deref-item-items.ensures.value here in
    let many : c.len.result ≡ length c.open_span-in-loop-item.new.ends.items = search rules in
    let open_there = c.in_ok-open_span-2.ensures.ends ∙ ap (with_span c.loop-item.at (Some c.at_place.result))
    (c.in_ok-open_span.ensures.ends ∙ ap (with_span c.loop-item.at c.loop-item.forward) c.close_ended.ensures.ends) in
    depths_step p.entries (loops p) c.loop-item.at c.in_ok-next.next c.at_place.result c.loop-item.forward
    (reverse c.loop-item.ends.items) c.open_span-in-loop-item.new.ends.items (placed_item item) (map placed_item (drop (i + 1) items))
    (map placed_item (drop i items)) c.loop-item.depths.items c.push_depth.new.depths.items c.leads_to-forward.result _ _
    (ap (map placed_item) there) c.in_ok-next.ensures.behind
    (c.at_place.ensures.value ∙ ap (λ ls. at_place ls c.loop-item.at) c.in_ok-loops.ensures.loops)
    open_there
    (c.leads_to-forward.ensures.value ∙ ap (λ es. leads_to es (placed_item item)) c.deref.ensures.value)
    c.saturating_sub-in-loop-item.ensures many c.in_ok-push_depth.ensures.depths
    ∙ c.loop-item.invariant

pub returns : goal.returns
returns c = record {
  depths =
      let p = procedure_seen c.args.procedure.now in
      let items = c.args.procedure.now.items.items in
      let i : ℕ = c.loop-item.item-index in
      let high : length items ≤ i = subst (λ l. length l ≤ i) c.deref-item-items.ensures.value c.loop-item-test.false in
      sym (depths_done p.entries (loops p) c.loop-item.at c.loop-item.forward (reverse c.loop-item.ends.items)
      (map placed_item (drop i items)) c.loop-item.depths.items (ap (map placed_item) (drop_all i items high)))
      ∙ c.loop-item.invariant;
}
