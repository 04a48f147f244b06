use Rattle.std.proofs.Common.{◌+◌, ◌++◌, ◌∙◌, List, ℕ, ap, drop, length, map, subst, sym}
use Rattle.pm_code.specs.Program.{AreItems, code_bytes}
use Rattle.pm_code.specs.Views.{placed_item}
use Rattle.pm_code.proofs.Lists.{there}
use Rattle.pm_code.proofs.Pushed.{item_good, item_more}
use Rattle.pm_code.proofs.bytes.push_code.Goals as goal

pub loop-item-preserved : goal.loop-item-preserved
loop-item-preserved c =
    let items = c.args.items.now in
    let k = c.loop-item.item-index in
    let item = c.item-item.result in
    let before : List ℕ = c.loop-item.out.items in
    let after : List ℕ = c.push_item.new.out.items in
    let next = there items k item c.loop-item-test.true c.item-item.is in
    let rest = map placed_item (drop (k + 1) items) in
    record {
      whole = item_more before after (placed_item item) rest c.in_ok-push_item.ensures.bytes
          ∙ ap (λ is. before ++ code_bytes (length before) (map placed_item is)) (sym next)
          ∙ c.loop-item.invariant.whole;
      good = item_good before after (placed_item item) rest c.in_ok-push_item.ensures.bytes
          (subst (λ is. AreItems (length before) (map placed_item is)) next c.loop-item.invariant.good);
    }
