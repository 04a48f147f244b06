use Rattle.std.proofs.Common.{rules, arith, sym}
use Rattle.pm_session.proofs.CommandLaws.{number_is, number_none, number_next, number_too_large}
use Rattle.pm_session.proofs.commands.decimal.Goals as goal

pub returns-then-not-is_digit : goal.returns-then-not-is_digit
returns-then-not-is_digit c =
    record { number = sym (number_none _ _ _ c.digits.invariant.rest c.in-Some.byte.now c.in-Some.tail.now (search rules) (search rules)) }

pub returns-then-value-gt4294967295 : goal.returns-then-value-gt4294967295
returns-then-value-gt4294967295 c =
    record {
      number = sym
          (number_too_large _ c.digits.value _ c.digits.invariant.rest c.in-Some.byte.now c.in-Some.tail.now (search rules) (search rules)
          (omega (arith, c.from.ensures)));
    }

pub digits-preserved : goal.digits-preserved
digits-preserved c =
    record {
      rest = rw c.from.ensures
          (number_next _ c.digits.value _ c.digits.invariant.rest c.in-Some.byte.now c.in-Some.tail.now (search rules) (search rules));
      small = omega arith;
    }

pub returns : goal.returns
returns c = record { number = sym (number_is _ _ _ c.digits.invariant.rest (search rules) c.digits.invariant.small) }
