use Rattle.std.proofs.Common.{◌≡◌, ◌<◌, ◌≤◌, ◌∙◌, ◌++◌, List, length, take, get_or, sym, arith, ap}
use Rattle.std.proofs.lemmas.List.{get_or_read}
use Rattle.pm_check.specs.declared.believing.Taken.{Taken}
use Rattle.pm_check.specs.Believing.{placed}
use Rattle.pm_check.proofs.SavingSteps.{placed-before, placed-behind, placed-last}
use Rattle.pm_check.proofs.believing.place.Goals as goal

pub returns-then-file-index : goal.returns-then-file-index
returns-then-file-index c =
    let h : c.loop-i.i < length c.loop-i.taken.items = omega arith in
    let is : c.index.result.now ≡ get_or c.loop-i.taken.items c.loop-i.i c.args.file =
    get_or_read c.loop-i.taken.items c.loop-i.i c.index.result.now h c.index.ensures c.args.file in
    let below : c.args.file.entry.first < (get_or c.loop-i.taken.items c.loop-i.i c.args.file).entry.first = rw (← is) c.if-file-index.true in
    record {
      placed = c.in_ok-insert.ensures.items
          ∙ ap (λ (ts : List Taken). take c.loop-i.i c.loop-i.taken.items ++ ts)
          (sym (placed-before c.args.file c.args.file c.loop-i.taken.items c.loop-i.i h below))
          ∙ c.loop-i.invariant.place ∙ ap (λ (ts : List Taken). placed c.args.file ts) c.loop-i.invariant.same;
    }

pub loop-i-preserved : goal.loop-i-preserved
loop-i-preserved c =
    let h : c.loop-i.i < length c.loop-i.taken.items = omega arith in
    let is : c.index.result.now ≡ get_or c.loop-i.taken.items c.loop-i.i c.args.file =
    get_or_read c.loop-i.taken.items c.loop-i.i c.index.result.now h c.index.ensures c.args.file in
    let above : (get_or c.loop-i.taken.items c.loop-i.i c.args.file).entry.first ≤ c.args.file.entry.first = rw (← is) c.if-file-index.false in
    record {
      same = c.loop-i.invariant.same;
      place = sym (placed-behind c.args.file c.args.file c.loop-i.taken.items c.loop-i.i h above) ∙ c.loop-i.invariant.place;
    }

pub returns : goal.returns
returns c =
    let over : length c.loop-i.taken.items ≤ c.loop-i.i = omega arith in
    record {
      placed = c.in_ok-push.ensures.items ∙ sym (placed-last c.args.file c.loop-i.taken.items c.loop-i.i over) ∙ c.loop-i.invariant.place
          ∙ ap (λ (ts : List Taken). placed c.args.file ts) c.loop-i.invariant.same;
    }
