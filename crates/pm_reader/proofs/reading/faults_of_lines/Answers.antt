use Rattle.std.proofs.Common.{◌≡◌, ◌+◌, ◌<◌, ◌≤◌, ◌++◌, ◌∙◌, [], ap, sym, subst, length, get_or, arith, append-nil}
use Rattle.std.specs.Str.Iter.{lines_rest}
use Rattle.std.specs.Str.Lines.{lines}
use Rattle.std.proofs.lemmas.List.{length_push}
use Rattle.std.proofs.lemmas.Iterator.Consumers.{YieldsList-turn, YieldsList-end}
use Rattle.std.proofs.lemmas.Iterator.Splits.{YieldsList-from_lines}
use Rattle.pm_source.specs.Line.{line_of}
use Rattle.pm_source.specs.Faults.{after_line, line_faults, lines_of}
use Rattle.pm_reader.specs.Each.{first_in, firsts_from}
use Rattle.pm_reader.specs.Reader.{reader_seen}
use Rattle.pm_reader.proofs.Eachs.{firsts_behind}
use Rattle.pm_reader.proofs.Ends.{IsUntil}
use Rattle.pm_reader.proofs.Numbering.{later, none_left, seen_from}
use Rattle.pm_reader.proofs.reading.faults_of_lines.Goals as goal

pub loop-part-preserved : goal.loop-part-preserved
loop-part-preserved c =
    let texts = lines c.args.text.now in
    let n = c.loop-part.number in
    let part = c.in-Some.part.now in
    let road = YieldsList-from_lines c.args.text.now (ap lines_rest c.into_iter-part-iterator.ensures.into_iter_gives ∙ c.lines-part-items.ensures.rest) in
    let turn = YieldsList-turn road c.loop-part.yielded c.loop-part.part-iterator c.loop-part.yielded_by c.next.result c.next.new.self c.in-Some.part
    c.in-Some.is c.next.ensures.steps in
    let here : (n < length texts) × (part ≡ get_or texts n part) = rw (c.loop-part.invariant.count) turn in
    let last : IsUntil (lines_of c.args.text.now) c.until_last_end-until.result = c.until_last_end-until.ensures.until in
    let before = reader_seen c.loop-part.reader in
    let same = c.as_bytes.ensures.value in
    let old = c.loop-part.found.items in
    let rest = seen_from (n + 1) texts in
    let noted : c.note_line.new.found.items ≡ old ++ first_in (line_faults (n + 1) before (line_of (n + 1) part) rest) =
    subst (λ t. c.note_line.new.found.items ≡ old ++ first_in (line_faults (n + 1) before (line_of (n + 1) t) rest)) same
    (c.in_ok-note_line.ensures.noted _ (later texts (n + 1) _ last)) in
    let taken : reader_seen c.note_line.new.self ≡ after_line before (line_of (n + 1) part) =
    c.in_ok-note_line.ensures.taken ∙ ap (λ t. after_line before (line_of (n + 1) t)) same in
    record {
      count = ap (λ k. k + 1) c.loop-part.invariant.count ∙ sym (length_push c.loop-part.yielded c.in-Some.part);
      firsts = firsts_behind texts n part _ _ _ _ _ here noted taken c.loop-part.invariant.firsts;
    }

pub returns-clause-faults : goal.returns-clause-faults
unfolding firsts_from
returns-clause-faults c =
    let texts = lines c.args.text.now in
    let road = YieldsList-from_lines c.args.text.now (ap lines_rest c.into_iter-part-iterator.ensures.into_iter_gives ∙ c.lines-part-items.ensures.rest) in
    let end = YieldsList-end road c.loop-part.yielded c.loop-part.part-iterator c.loop-part.yielded_by c.next.result c.next.new.self c.in-None.is
    c.next.ensures.steps in
    let few : length texts ≤ c.loop-part.number = omega (arith, end.1, c.loop-part.invariant.count) in
    let n = c.loop-part.number in
    let old = c.loop-part.found.items in
    sym (append-nil old)
    ∙ (sym (ap (λ ls. old ++ firsts_from (n + 1) (reader_seen c.loop-part.reader) ls) (none_left texts n few))
    ∙ c.loop-part.invariant.firsts)
