use Rattle.std.proofs.Common.{◌≡◌, ◌+◌, ◌<◌, ◌≤◌, ◌∙◌, true, false, ap, sym, subst, length, get_or, arith}
use Rattle.std.specs.Str.Iter.{lines_rest}
use Rattle.std.specs.Str.Lines.{lines}
use Rattle.std.proofs.lemmas.List.{length_push, take_all}
use Rattle.std.proofs.lemmas.Iterator.Consumers.{YieldsList-turn, YieldsList-end}
use Rattle.std.proofs.lemmas.Iterator.Splits.{YieldsList-from_lines}
use Rattle.pm_source.specs.Line.{line_of}
use Rattle.pm_source.specs.Faults.{ends, lines_from}
use Rattle.pm_reader.proofs.Ends.{IsUntil}
use Rattle.pm_reader.proofs.Numbering.{until_more}
use Rattle.pm_reader.proofs.reading.until_last_end.Goals as goal

pub loop-part-preserved-then-line_ends : goal.loop-part-preserved-then-line_ends
loop-part-preserved-then-line_ends c =
    let texts = lines c.args.text.now in
    let n = c.loop-part.number in
    let part = c.in-Some.part.now in
    let road = YieldsList-from_lines c.args.text.now (ap lines_rest c.into_iter-part-iterator.ensures.into_iter_gives ∙ c.lines-part-items.ensures.rest) in
    let turn = YieldsList-turn road c.loop-part.yielded c.loop-part.part-iterator c.loop-part.yielded_by c.next.result c.next.new.self c.in-Some.part
    c.in-Some.is c.next.ensures.steps in
    let here : (n < length texts) × (part ≡ get_or texts n part) = rw (c.loop-part.invariant.count) turn in
    let ended : ends (line_of (n + 1) part) ≡ true =
    ap (λ t. ends (line_of (n + 1) t)) (sym c.as_bytes.ensures.value) ∙ sym (c.if-line_ends.ensures.ends (n + 1)) in
    record {
      count = ap (λ k. k + 1) c.loop-part.invariant.count ∙ sym (length_push c.loop-part.yielded c.in-Some.part);
      within = omega arith;
      last = until_more texts n part c.loop-part.until true here ended c.loop-part.invariant.within c.loop-part.invariant.last;
    }

pub loop-part-preserved : goal.loop-part-preserved
loop-part-preserved c =
    let texts = lines c.args.text.now in
    let n = c.loop-part.number in
    let part = c.in-Some.part.now in
    let road = YieldsList-from_lines c.args.text.now (ap lines_rest c.into_iter-part-iterator.ensures.into_iter_gives ∙ c.lines-part-items.ensures.rest) in
    let turn = YieldsList-turn road c.loop-part.yielded c.loop-part.part-iterator c.loop-part.yielded_by c.next.result c.next.new.self c.in-Some.part
    c.in-Some.is c.next.ensures.steps in
    let here : (n < length texts) × (part ≡ get_or texts n part) = rw (c.loop-part.invariant.count) turn in
    let ended : ends (line_of (n + 1) part) ≡ false =
    ap (λ t. ends (line_of (n + 1) t)) (sym c.as_bytes.ensures.value) ∙ sym (c.if-line_ends.ensures.ends (n + 1)) in
    record {
      count = ap (λ k. k + 1) c.loop-part.invariant.count ∙ sym (length_push c.loop-part.yielded c.in-Some.part);
      within = omega (arith, c.loop-part.invariant.within);
      last = until_more texts n part c.loop-part.until false here ended c.loop-part.invariant.within c.loop-part.invariant.last;
    }

pub returns : goal.returns
returns c =
    let texts = lines c.args.text.now in
    let road = YieldsList-from_lines c.args.text.now (ap lines_rest c.into_iter-part-iterator.ensures.into_iter_gives ∙ c.lines-part-items.ensures.rest) in
    let end = YieldsList-end road c.loop-part.yielded c.loop-part.part-iterator c.loop-part.yielded_by c.next.result c.next.new.self c.in-None.is
    c.next.ensures.steps in
    let few : length texts ≤ c.loop-part.number = omega (arith, end.1, c.loop-part.invariant.count) in
    record {
      until = subst (λ ts. IsUntil (lines_from 1 ts) c.loop-part.until) (take_all c.loop-part.number texts few) c.loop-part.invariant.last;
    }
