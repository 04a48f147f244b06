use Rattle.std.proofs.Common.{◌≡◌, ◌+◌, ◌-◌, ◌*◌, ◌/◌, ◌%◌, ◌<◌, length, take, get_or, sym, arith}
use Rattle.std.proofs.lemmas.Grind.{common_steps}
use Rattle.std.proofs.lemmas.List.{length-take-le}
use Rattle.pm_words.proofs.Laws.{with_words-more, with_words-none}
use Rattle.pm_words.proofs.WatchLaws.{WatchStays-refl, WatchStays-trans}
use Rattle.pm_values.proofs.stack.push_words.Goals as goal

pub loop-word-init : goal.loop-word-init
loop-word-init c = record { place = omega arith; words = sym (with_words-none _ _); watch = WatchStays-refl _ }

pub loop-word-preserved : goal.loop-word-preserved
loop-word-preserved c =
    let top = c.args.sp - 2 * length c.args.words.now in
    let front = take c.loop-word.word-index c.args.words.now in
    let n : length front ≡ c.loop-word.word-index = length-take-le c.loop-word.word-index c.args.words.now (omega arith) in
    let inside : top / 2 + length front < length c.args.memory.now.words = omega (arith, c.bytes.ensures.memory.size) in
    let place : c.loop-word.place ≡ top + 2 * length front = omega (arith, c.loop-word.invariant.place) in
    let even : top % 2 ≡ 0 = omega arith in
    let more = with_words-more c.args.memory.now.words front top c.loop-word.place (get_or c.args.words.now c.loop-word.word-index 0) even place inside in
    record { place = omega arith; words = grind (arith, common_steps); watch = WatchStays-trans _ _ _ c.loop-word.invariant.watch c.set_word.ensures.watch }
