use Rattle.std.proofs.Common.{rules, arith, ◌≡◌, ◌∷◌, ◌+◌, length, length-append, []}
use Rattle.pm_session.specs.Words.{words_of_line}
use Rattle.pm_session.proofs.CommandLaws.{numbers_are, numbers_too_many, numbers_none, numbers_next}
use Rattle.pm_session.proofs.commands.numbers.Goals as goal

pub returns-in_default-number-clause-none : goal.returns-in_default-number-clause-none
returns-in_default-number-clause-none c =
    numbers_none _ _ _ _ c.words.invariant.rest c.in-Some.word.now (words_of_line c.in-Some.tail.now) (search rules) (search rules)

pub returns-then-len-ge4-clause-none : goal.returns-then-len-ge4-clause-none
returns-then-len-ge4-clause-none c =
    numbers_too_many _ _ _ _ c.words.invariant.rest c.in-Some.word.now (words_of_line c.in-Some.tail.now) (search rules) (omega arith)

pub words-preserved : goal.words-preserved
words-preserved c =
    let size : length c.push.new.self.items ≡ length c.words.numbers.items + 1 = c.push.ensures.len in
    record {
      rest = rw c.push.ensures.items
          (numbers_next _ _ _ _ c.words.invariant.rest c.in-Some.word.now (words_of_line c.in-Some.tail.now) (search rules) c.in-Some-number.number _
          (omega (arith, length-append c.words.numbers.items (c.in-Some-number.number ∷ []))) (search rules));
      few = omega (arith, size);
    }

pub returns-clause-some : goal.returns-clause-some
returns-clause-some c = numbers_are _ _ _ _ c.words.invariant.rest (search rules)
