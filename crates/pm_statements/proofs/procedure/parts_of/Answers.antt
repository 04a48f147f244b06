use Rattle.std.proofs.Common.{◌≡◌, ◌≤◌, ◌+◌, ◌++◌, ◌∷◌, ℕ, drop, length, map, sym, ap, subst, ◌∙◌}
use Rattle.std.proofs.lemmas.List.{drop_all, drop_more}
use Rattle.pm_code.specs.Views.{placed_item, procedure_seen}
use Rattle.pm_trees.specs.Parts.{labelled_places, part_of, parts}
use Rattle.pm_statements.proofs.Listed.{parts_done, parts_step}
use Rattle.pm_statements.proofs.procedure.parts_of.Goals as goal

pub loop-item-init : goal.loop-item-init
loop-item-init c =
    let p = procedure_seen c.args.procedure.now in
    ap (λ l. l ++ parts c.args.known.now (labelled_places p) p.exit p.start p.items) c.in_ok-parts.ensures.items

pub loop-item-preserved : goal.loop-item-preserved
loop-item-preserved c =
    let p = procedure_seen c.args.procedure.now in
    let items = c.args.procedure.now.items.items in
    let lent = c.deref-item-items.result.now in
    let i : ℕ = c.loop-item.item-index in
    let item = c.item-item.result in
    let here : drop i lent ≡ item ∷ drop (i + 1) lent =
    drop_more lent i item c.loop-item-test.true ∙ ap (λ x. x ∷ drop (i + 1) lent) (sym c.item-item.is) in
    let there : drop i items ≡ item ∷ drop (i + 1) items =
    subst (λ l. drop i l ≡ item ∷ drop (i + 1) l) c.deref-item-items.ensures.value here in
    parts_step c.args.known.now (labelled_places p) p.exit c.loop-item.at c.in_ok-at.at (placed_item item)
    (map placed_item (drop (i + 1) items)) (map placed_item (drop i items)) c.part_of.result c.loop-item.parts.items c.push.new.self.items
    (ap (map placed_item) there)
    (c.part_of.ensures.part ∙ ap (part_of c.args.known.now (placed_item item)) (c.place_at-place.ensures.place (labelled_places p) c.requires.labels))
    c.in_ok-at.ensures.behind
    c.in_ok-push.ensures.items
    ∙ c.loop-item.invariant

pub returns : goal.returns
returns c = record {
  parts =
      let p = procedure_seen c.args.procedure.now in
      let items = c.args.procedure.now.items.items in
      let i : ℕ = c.loop-item.item-index in
      let high : length items ≤ i = subst (λ l. length l ≤ i) c.deref-item-items.ensures.value c.loop-item-test.false in
      sym (parts_done c.args.known.now (labelled_places p) p.exit c.loop-item.at (map placed_item (drop i items)) c.loop-item.parts.items
      (ap (map placed_item) (drop_all i items high)))
      ∙ c.loop-item.invariant;
}
