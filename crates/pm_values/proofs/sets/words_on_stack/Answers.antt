use Rattle.std.proofs.Common.{◌+◌, ◌/◌, ◌<◌, length, arith, rules}
use Rattle.std.proofs.lemmas.Grind.{common_steps}
use Rattle.pm_words.proofs.Laws.{words_at-more, words_at-none}
use Rattle.pm_values.proofs.sets.words_on_stack.Goals as goal

pub loop-i-init : goal.loop-i-init
loop-i-init c = search (rules, words_at-none)

pub loop-i-preserved : goal.loop-i-preserved
loop-i-preserved c =
    let inside : c.args.address / 2 + c.loop-i.i < length c.args.memory.now.words = omega (arith, c.word-word.ensures.memory.size) in
    let more = words_at-more c.args.memory.now.words c.args.address c.loop-i.i c.requires.even inside in
    grind (arith, common_steps)
