use Rattle.std.proofs.Common.{◌+◌, ◌++◌, ◌∙◌, List, ℕ, ap, drop, length, map, subst, sym, string_bytes}
use Rattle.pm_code.specs.Image.{Listed, listed_items, listed_lines}
use Rattle.pm_code.specs.Item.{item_bytes, size}
use Rattle.pm_code.specs.Program.{AreItems, code_bytes}
use Rattle.pm_code.specs.Shown.{shown_item}
use Rattle.pm_code.specs.Views.{placed_item}
use Rattle.pm_code.proofs.ListedMore.{line_more}
use Rattle.pm_code.proofs.Lists.{there}
use Rattle.pm_code.proofs.Pushed.{item_good, item_long, item_more}
use Rattle.pm_code.proofs.listing.list_code.Goals as goal

pub loop-item-preserved : goal.loop-item-preserved
loop-item-preserved c =
    let items = c.args.items.now in
    let segment : ℕ = c.args.place.segment in
    let procedure : ℕ = c.args.place.procedure in
    let k = c.loop-item.item-index in
    let item = placed_item c.item-item.result in
    let before : List ℕ = c.loop-item.bytes.items in
    let after : List ℕ = c.list_item.new.bytes.items in
    let at : ℕ = length before in
    let next = there items k c.item-item.result c.loop-item-test.true c.item-item.is in
    let rest = map placed_item (drop (k + 1) items) in
    let added = c.in_ok-list_item.ensures.bytes in
    let line : Listed = record { procedure = procedure; at = at; bytes = item_bytes at item; what = shown_item item } in
    let first : List ℕ = string_bytes c.loop-item.text in
    let second : List ℕ = string_bytes c.list_item.new.text in
    record {
      whole = item_more before after item rest added
          ∙ ap (λ is. before ++ code_bytes at (map placed_item is)) (sym next)
          ∙ c.loop-item.invariant.whole;
      good = item_good before after item rest added (subst (λ is. AreItems at (map placed_item is)) next c.loop-item.invariant.good);
      written = λ more.
          ap (λ n. second ++ listed_lines segment (listed_items procedure n rest ++ more)) (item_long before after item added)
          ∙ line_more segment line first second (listed_items procedure (at + size at item) rest ++ more) c.in_ok-list_item.ensures.text
          ∙ ap (λ is. first ++ listed_lines segment (listed_items procedure at (map placed_item is) ++ more)) (sym next)
          ∙ c.loop-item.invariant.written more;
    }
