use Rattle.std.proofs.Common.{◌≡◌, ◌∙◌, ◌+◌, ◌*◌, ◌<◌, ◌/◌, length, sym, rules, arith}
use Rattle.pm_words.specs.Words.{word_at}
use Rattle.pm_words.proofs.Laws.{words_at-none, words_at-more}
use Rattle.pm_rows.proofs.literals.words_in.Goals as goal

pub loop-i-init : goal.loop-i-init
loop-i-init c = record { words = search rules ∙ sym (words_at-none _ _); count = search rules }

pub loop-i-preserved : goal.loop-i-preserved
loop-i-preserved c =
    let size = c.word.ensures.memory.size in
    let inside : c.args.start / 2 + c.loop-i.i < length c.args.memory.now.words = omega arith in
    let word : c.unwrap_or.result ≡ word_at c.args.memory.now.words (c.args.start + 2 * c.loop-i.i) = search rules in
    record {
      words = c.push.ensures.items ∙ rw (c.loop-i.invariant.words, word) (sym (words_at-more _ _ _ c.requires.even inside));
      count = search rules;
    }
