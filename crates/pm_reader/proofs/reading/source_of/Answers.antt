use Rattle.std.proofs.Common.{◌≡◌, ◌+◌, ◌<◌, ◌≤◌, ◌∙◌, [], ap, sym, subst, length, get_or, arith}
use Rattle.std.specs.Str.Iter.{lines_rest}
use Rattle.std.specs.Str.Lines.{lines}
use Rattle.std.proofs.lemmas.List.{length_push}
use Rattle.std.proofs.lemmas.Result.{err_from_is_err_and}
use Rattle.std.proofs.lemmas.Iterator.Consumers.{YieldsList-turn, YieldsList-end}
use Rattle.std.proofs.lemmas.Iterator.Splits.{YieldsList-from_lines}
use Rattle.pm_source.specs.Line.{line_of}
use Rattle.pm_source.specs.Faults.{Reading, after_line, after_lines, faults_from, line_faults, lines_of}
use Rattle.pm_reader.specs.Firsts.{IsFirstOf}
use Rattle.pm_reader.specs.Reader.{reader_seen}
use Rattle.pm_reader.proofs.Ends.{IsUntil}
use Rattle.pm_reader.proofs.Numbering.{later, none_left, seen_from}
use Rattle.pm_reader.proofs.Stepping.{faults_behind, said_behind, first_fault}
use Rattle.pm_reader.proofs.reading.source_of.Goals as goal

pub loop-part-preserved : goal.loop-part-preserved
loop-part-preserved c =
    let texts = lines c.args.text.now in
    let n = c.loop-part.number in
    let part = c.in-Some.part.now in
    let road = YieldsList-from_lines c.args.text.now (ap lines_rest c.into_iter-part-iterator.ensures.into_iter_gives ∙ c.lines-part-items.ensures.rest) in
    let turn = YieldsList-turn road c.loop-part.yielded c.loop-part.part-iterator c.loop-part.yielded_by c.next.result c.next.new.self c.in-Some.part
    c.in-Some.is c.next.ensures.steps in
    let here : (n < length texts) × (part ≡ get_or texts n part) = rw (c.loop-part.invariant.count) turn in
    let last : IsUntil (lines_of c.args.text.now) c.until_last_end-until.result = c.until_last_end-until.ensures.until in
    let before = reader_seen c.loop-part.reader in
    let same = c.as_bytes.ensures.value in
    let none : line_faults (n + 1) before (line_of (n + 1) part) (seen_from (n + 1) texts) ≡ [] =
    subst (λ t. line_faults (n + 1) before (line_of (n + 1) t) (seen_from (n + 1) texts) ≡ []) same
    (c.in_ok-read_line.ensures.faultless _ (later texts (n + 1) _ last)) in
    let taken : reader_seen c.read_line.new.self ≡ after_line before (line_of (n + 1) part) =
    c.in_ok-read_line.ensures.taken ∙ ap (λ t. after_line before (line_of (n + 1) t)) same in
    record {
      count = ap (λ k. k + 1) c.loop-part.invariant.count ∙ sym (length_push c.loop-part.yielded c.in-Some.part);
      faults = faults_behind texts n part _ _ _ here none taken c.loop-part.invariant.faults;
      said = said_behind texts n part _ _ _ here taken c.loop-part.invariant.said;
    }

pub returns-in_err-read_line-clause-refusal : goal.returns-in_err-read_line-clause-refusal
returns-in_err-read_line-clause-refusal c =
    let texts = lines c.args.text.now in
    let n = c.loop-part.number in
    let part = c.in-Some.part.now in
    let road = YieldsList-from_lines c.args.text.now (ap lines_rest c.into_iter-part-iterator.ensures.into_iter_gives ∙ c.lines-part-items.ensures.rest) in
    let turn = YieldsList-turn road c.loop-part.yielded c.loop-part.part-iterator c.loop-part.yielded_by c.next.result c.next.new.self c.in-Some.part
    c.in-Some.is c.next.ensures.steps in
    let here : (n < length texts) × (part ≡ get_or texts n part) = rw (c.loop-part.invariant.count) turn in
    let last : IsUntil (lines_of c.args.text.now) c.until_last_end-until.result = c.until_last_end-until.ensures.until in
    let before = reader_seen c.loop-part.reader in
    let same = c.as_bytes.ensures.value in
    let first : IsFirstOf c.in_err-read_line.field-0.0 (line_faults (n + 1) before (line_of (n + 1) part) (seen_from (n + 1) texts)) =
    subst (λ t. IsFirstOf c.in_err-read_line.field-0.0 (line_faults (n + 1) before (line_of (n + 1) t) (seen_from (n + 1) texts))) same
    (c.in_err-read_line.ensures.refusal _ (later texts (n + 1) _ last)) in
    let p = err_from_is_err_and c.from_residual.result c.from_residual.ensures.1 in
    rw (p.1, p.2) (first_fault texts n part _ _ _ here first c.loop-part.invariant.faults)

pub returns-clause-faultless : goal.returns-clause-faultless
returns-clause-faultless c =
    let texts = lines c.args.text.now in
    let road = YieldsList-from_lines c.args.text.now (ap lines_rest c.into_iter-part-iterator.ensures.into_iter_gives ∙ c.lines-part-items.ensures.rest) in
    let end = YieldsList-end road c.loop-part.yielded c.loop-part.part-iterator c.loop-part.yielded_by c.next.result c.next.new.self c.in-None.is
    c.next.ensures.steps in
    let few : length texts ≤ c.loop-part.number = omega (arith, end.1, c.loop-part.invariant.count) in
    sym c.loop-part.invariant.faults
    ∙ ap (faults_from (c.loop-part.number + 1) (reader_seen c.loop-part.reader)) (none_left texts c.loop-part.number few)

pub returns-clause-read : goal.returns-clause-read
returns-clause-read c =
    let texts = lines c.args.text.now in
    let road = YieldsList-from_lines c.args.text.now (ap lines_rest c.into_iter-part-iterator.ensures.into_iter_gives ∙ c.lines-part-items.ensures.rest) in
    let end = YieldsList-end road c.loop-part.yielded c.loop-part.part-iterator c.loop-part.yielded_by c.next.result c.next.new.self c.in-None.is
    c.next.ensures.steps in
    let few : length texts ≤ c.loop-part.number = omega (arith, end.1, c.loop-part.invariant.count) in
    let said = sym (ap (after_lines (reader_seen c.loop-part.reader)) (none_left texts c.loop-part.number few)) ∙ c.loop-part.invariant.said in
    c.into_segments.ensures.segments ∙ ap (λ (r : Reading). r.segments) said
