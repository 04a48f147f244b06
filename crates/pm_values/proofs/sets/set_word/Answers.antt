use Rattle.std.proofs.Common.{◌+◌, ◌/◌, ◌<◌, ◌≤◌, length, sym, arith, rules}
use Rattle.pm_values.proofs.StackSets.{words_at-past, words_at-word}
use Rattle.pm_values.proofs.sets.set_word.Goals as goal

pub returns-then-index-from : goal.returns-then-index-from
returns-then-index-from c =
    let inside : c.args.set.address / 2 + c.args.set.count ≤ length c.args.memory.now.words = omega (arith, c.bytes.ensures.memory.size) in
    record { word = sym (words_at-past _ _ _ _ inside (omega arith)) }

pub returns : goal.returns
returns c =
    let inside : c.args.index < c.args.set.count = omega arith in
    record { word = search (rules, words_at-word) }
