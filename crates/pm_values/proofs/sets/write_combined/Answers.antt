use Rattle.std.proofs.Common.{sym, arith, rules, ap, ◌∙◌, ◌≡◌}
use Rattle.pm_words.specs.Words.{with_words}
use Rattle.pm_words.proofs.Laws.{with_words-none}
use Rattle.pm_words.proofs.WatchLaws.{WatchStays-refl, WatchStays-trans}
use Rattle.pm_values.proofs.SetLaws.{set_of-none}
use Rattle.pm_values.proofs.StackSets.{combined-more}
use Rattle.pm_values.proofs.sets.write_combined.Goals as goal

pub loop-i-init : goal.loop-i-init
loop-i-init c = record {
  words = sym (ap (with_words c.args.memory.now.words c.args.lower.address) (set_of-none _) ∙ with_words-none c.args.memory.now.words c.args.lower.address);
  watch = WatchStays-refl _;
}

pub loop-i-preserved : goal.loop-i-preserved
loop-i-preserved c =
    let i : c.from-place.result ≡ c.loop-i.i = c.from-place.ensures in
    let low = rw i at c.set_word-low.ensures.word in
    let high = rw i at c.set_word-high.ensures.word in
    record {
      words = combined-more c.args.combination c.args.memory.now.words c.loop-i.memory.words _ c.args.lower.address c.args.lower.count
          c.args.upper.address c.args.upper.count c.loop-i.i _ _ c.bytes.ensures.memory c.requires.lower_even c.requires.upper_even
          (omega arith) c.requires.upper_inside (omega arith) c.loop-i.invariant.words low high (rw (← c.combined_word.ensures.word) (search rules));
      watch = WatchStays-trans _ _ _ c.loop-i.invariant.watch c.set_word.ensures.watch;
    }
