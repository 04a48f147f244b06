use Rattle.std.proofs.Common.{arith, ◌≡◌, ◌∙◌, ◌-◌, ◌+◌, false, true, sym}
use Rattle.std.specs.Prelude.{nat_lt}
use Rattle.std.proofs.lemmas.Bool.Decides.{nat_tests}
use Rattle.pm_words.specs.Words.{bytes_of}
use Rattle.pm_debug.specs.Ahead.{next_address}
use Rattle.pm_debug.proofs.AheadLaws.{ahead_ends, ahead_more, ahead_over}
use Rattle.pm_debug.proofs.ahead.addresses_from.Goals as goal

pub returns-then-next-gt65535-clause-addresses : goal.returns-then-next-gt65535-clause-addresses
returns-then-next-gt65535-clause-addresses c =
    let beyond : nat_lt (next_address (bytes_of c.args.memory.now.words) c.loop.address) 65536 ≡ false = grind (arith, nat_tests) in
    c.in_ok-push.ensures.items ∙ sym (ahead_ends _ _ _ _ (c.args.limit - c.loop.counter - 1) _ (omega arith) c.loop.invariant.rest beyond)

pub loop-preserved : goal.loop-preserved
loop-preserved c =
    let inside : nat_lt (next_address (bytes_of c.args.memory.now.words) c.loop.address) 65536 ≡ true = grind (arith, nat_tests) in
    record {
      rest = rw (c.in_ok-push.ensures.items, c.next_address-next.ensures.next)
          (ahead_more _ _ _ _ (c.args.limit - (c.loop.counter + 1)) _ (omega arith) c.loop.invariant.rest inside);
    }

pub returns-clause-addresses : goal.returns-clause-addresses
returns-clause-addresses c =
    let none : c.args.limit - c.loop.counter ≡ 0 = omega arith in sym (ahead_over _ _ _ _ (rw none at c.loop.invariant.rest))
