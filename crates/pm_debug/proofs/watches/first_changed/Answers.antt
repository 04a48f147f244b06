use Rattle.std.proofs.Common.{◌≡◌, sym, false, true, arith, get_or}
use Rattle.std.specs.Prelude.{◌==◌}
use Rattle.std.proofs.lemmas.Bool.Decides.{nat_tests}
use Rattle.std.proofs.lemmas.List.{drop_all}
use Rattle.pm_words.specs.Words.{word_at}
use Rattle.pm_debug.specs.declared.watches.WatchedWord.{WatchedWord}
use Rattle.pm_debug.proofs.WatchLaws.{first_here, first_later, first_none}
use Rattle.pm_debug.proofs.watches.first_changed.Goals as goal

pub returns-then-word_at-known : goal.returns-then-word_at-known
returns-then-word_at-known c =
    let known : WatchedWord = get_or c.args.watched.now c.loop-known.known-index (record { address = 0; word = 0 }) in
    let other : (word_at c.args.memory.now.words known.address == known.word) ≡ false = grind (arith, nat_tests, c.word_at.ensures.word) in
    record { first = sym (first_here _ _ _ _ (record { address = 0; word = 0 }) c.loop-known.invariant.rest c.loop-known-test.true other) }

pub loop-known-preserved : goal.loop-known-preserved
loop-known-preserved c =
    let known : WatchedWord = get_or c.args.watched.now c.loop-known.known-index (record { address = 0; word = 0 }) in
    let same : (word_at c.args.memory.now.words known.address == known.word) ≡ true = grind (arith, nat_tests, c.word_at.ensures.word) in
    record { rest = first_later _ _ _ _ (record { address = 0; word = 0 }) c.loop-known.invariant.rest c.loop-known-test.true same }

pub returns : goal.returns
returns c =
    record { first = sym (first_none _ _ _ c.loop-known.invariant.rest (drop_all c.loop-known.known-index c.args.watched.now (omega arith))) }
