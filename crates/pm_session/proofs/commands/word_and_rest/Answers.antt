use Rattle.std.proofs.Common.{rules, arith, ◌≡◌, ◌∷◌, length, suc, ap, sym}
use Rattle.pm_session.proofs.WordLaws.{in_word_none, in_word_more, words_at_end}
use Rattle.pm_session.proofs.commands.word_and_rest.Goals as goal

pub bytes-init : goal.bytes-init
bytes-init c = record { under_way = in_word_none _; size = omega arith }

pub bytes-preserved : goal.bytes-preserved
bytes-preserved c =
    let first : c.bytes.rest.now ≡ c.in-Some.field-0-0.now ∷ c.in-Some.tail.now = search rules in
    let size : length c.bytes.rest.now ≡ suc (length c.in-Some.tail.now) = ap length first in
    let whole = c.bytes.invariant.size in
    record {
      under_way = in_word_more _ _ _ c.in-Some.field-0-0.now c.in-Some.tail.now c.bytes.invariant.under_way first (search rules) (omega (arith, size, whole));
      size = omega (arith, size, whole);
    }

pub returns-clause-words : goal.returns-clause-words
returns-clause-words c = rw c.split_at.ensures.front (words_at_end _ _ _ c.bytes.invariant.under_way c.requires.begins (sym c.bytes-test.ensures.begins))
