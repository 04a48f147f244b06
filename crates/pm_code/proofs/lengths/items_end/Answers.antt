use Rattle.std.proofs.Common.{arith, refl}
use Rattle.pm_code.specs.Views.{item_seen}
use Rattle.pm_code.proofs.Counted.{too_long_item}
use Rattle.pm_code.proofs.Lists.{there}
use Rattle.pm_code.proofs.lengths.items_end.Goals as goal

pub returns-in_err-size-clause-too_long : goal.returns-in_err-size-clause-too_long
returns-in_err-size-clause-too_long g c =
    let next = there c.args.items.now c.loop-item.item-index c.item-item.result c.loop-item-test.true c.item-item.is in
    let long = c.in_err-size.ensures.too_long refl in
    λ none. too_long_item (item_seen (λ p. p)) _ c.loop-item.end _ _ c.item-item.result _ next c.loop-item.invariant (omega (arith, long))

pub returns-in_err-end-clause-too_long : goal.returns-in_err-end-clause-too_long
returns-in_err-end-clause-too_long g c =
    let next = there c.args.items.now c.loop-item.item-index c.item-item.result c.loop-item-test.true c.item-item.is in
    λ none. too_long_item (item_seen (λ p. p)) _ c.loop-item.end _ _ c.item-item.result _ next c.loop-item.invariant
    (omega (arith, c.in_err-end.ensures, c.in_ok-size.ensures.size))
