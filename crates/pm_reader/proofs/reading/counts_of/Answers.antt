use Rattle.std.specs.Prelude.{IfSome}
use Rattle.std.proofs.Common.{◌≡◌, ◌+◌, ◌<◌, ◌≤◌, ◌∙◌, ap, sym, subst, length, get_or, arith}
use Rattle.std.specs.Str.Iter.{lines_rest}
use Rattle.std.specs.Str.Lines.{lines}
use Rattle.std.proofs.lemmas.List.{length_push}
use Rattle.std.proofs.lemmas.Iterator.Consumers.{YieldsList-turn, YieldsList-end}
use Rattle.std.proofs.lemmas.Iterator.Splits.{YieldsList-from_lines}
use Rattle.pm_source.specs.Line.{line_of}
use Rattle.pm_source.specs.Faults.{after_line, after_lines}
use Rattle.pm_reader.specs.Counts.{AreCounts}
use Rattle.pm_reader.specs.Reader.{reader_seen}
use Rattle.pm_reader.proofs.Numbering.{none_left}
use Rattle.pm_reader.proofs.Stepping.{said_behind}
use Rattle.pm_reader.proofs.reading.counts_of.Goals as goal

pub loop-part-preserved : goal.loop-part-preserved
loop-part-preserved c =
    let texts = lines c.args.text.now in
    let n = c.loop-part.number in
    let part = c.in-Some.part.now in
    let road = YieldsList-from_lines c.args.text.now (ap lines_rest c.into_iter-part-iterator.ensures.into_iter_gives ∙ c.lines-part-items.ensures.rest) in
    let turn = YieldsList-turn road c.loop-part.yielded c.loop-part.part-iterator c.loop-part.yielded_by c.next.result c.next.new.self c.in-Some.part
    c.in-Some.is c.next.ensures.steps in
    let here : (n < length texts) × (part ≡ get_or texts n part) = rw (c.loop-part.invariant.count) turn in
    let before = reader_seen c.loop-part.reader in
    let taken : reader_seen c.take_line.new.self ≡ after_line before (line_of (n + 1) part) =
    c.in_ok-take_line.ensures.taken ∙ ap (λ t. after_line before (line_of (n + 1) t)) c.as_bytes.ensures.value in
    record {
      count = ap (λ k. k + 1) c.loop-part.invariant.count ∙ sym (length_push c.loop-part.yielded c.in-Some.part);
      said = said_behind texts n part _ _ _ here taken c.loop-part.invariant.said;
    }

pub returns : goal.returns
returns c =
    let texts = lines c.args.text.now in
    let road = YieldsList-from_lines c.args.text.now (ap lines_rest c.into_iter-part-iterator.ensures.into_iter_gives ∙ c.lines-part-items.ensures.rest) in
    let end = YieldsList-end road c.loop-part.yielded c.loop-part.part-iterator c.loop-part.yielded_by c.next.result c.next.new.self c.in-None.is
    c.next.ensures.steps in
    let few : length texts ≤ c.loop-part.number = omega (arith, end.1, c.loop-part.invariant.count) in
    let said = sym (ap (after_lines (reader_seen c.loop-part.reader)) (none_left texts c.loop-part.number few)) ∙ c.loop-part.invariant.said in
    record { counts = subst (λ r. IfSome c.counts.result (AreCounts r)) said c.counts.ensures.counts }
