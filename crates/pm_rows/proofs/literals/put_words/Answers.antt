use Rattle.std.proofs.Common.{◌≡◌, ◌∙◌, ◌-◌, ◌+◌, ◌<◌, ◌%◌, sym, rules, arith, get_or, length}
use Rattle.pm_words.specs.Words.{with_word}
use Rattle.pm_words.proofs.Laws.{with_words-none}
use Rattle.pm_rows.proofs.WordLists.{put_more}
use Rattle.pm_words.proofs.WatchLaws.{WatchStays-refl, WatchStays-trans}
use Rattle.pm_rows.proofs.literals.put_words.Goals as goal

pub loop-word-init : goal.loop-word-init
loop-word-init c = record { place = omega arith; written = sym (with_words-none _ _); watch = WatchStays-refl _ }

pub loop-word-preserved : goal.loop-word-preserved
loop-word-preserved c =
    let next : c.loop-word.word-index < length c.args.words.now = search rules in
    let place = c.loop-word.invariant.place in
    let even : c.loop-word.at % 2 ≡ 0 = omega arith in
    let below : c.loop-word.at - 2 + 2 ≡ c.loop-word.at = omega arith in
    let wrote : c.set_word.new.self.words ≡ with_word c.loop-word.memory.words (c.loop-word.at - 2) (get_or c.args.words.now c.loop-word.word-index 0) = search
    rules in
    record {
      place = omega arith;
      written = wrote ∙ rw c.loop-word.invariant.written (put_more _ _ _ _ _ c.bytes.ensures.memory.size even below (omega arith) next);
      watch = WatchStays-trans _ _ _ c.loop-word.invariant.watch c.set_word.ensures.watch;
    }
