use Rattle.std.proofs.Common.{◌≡◌, ◌+◌, ◌-◌, ◌*◌, ◌≤◌, ◌<◌, ◌∷◌, ℕ, length, refl, arith, rules}
use Rattle.pm_words.specs.Words.{with_word, words_at}
use Rattle.pm_values.specs.Combinations.{test_of}
use Rattle.pm_values.specs.Sets.{is_member, set_of}
use Rattle.pm_values.proofs.SetLaws.{length-set_from}
use Rattle.pm_values.proofs.StackSets.{combined-pushed, refused-words}
use Rattle.pm_words.proofs.WatchLaws.{WatchStays-trans}
use Rattle.pm_values.proofs.sets.combine_in_place.Goals as goal

pub returns-then-from-clause-row : goal.returns-then-from-clause-row
returns-then-from-clause-row c =
    let m = c.args.memory.now.words in
    let n = c.args.lower.count in
    let p = λ (e : ℕ). test_of c.args.combination (is_member (words_at m c.args.lower.address n) e)
    (is_member (words_at m c.args.upper.address c.args.upper.count) e) in
    let size : length (set_of n p) ≡ n = length-set_from n 0 p in
    let more : length (n ∷ set_of n p) ≡ n + 1 = omega (arith, size) in
    let room : c.args.lower.above < c.args.np + 2 * (n + 1) = omega arith in
    (refused-words m (n ∷ set_of n p) c.args.lower.above c.args.np (n + 1) more room, refl)

pub returns-clause-row : goal.returns-clause-row
returns-clause-row c =
    let m = c.args.memory.now.words in
    let a = c.args.lower.address in
    let n = c.args.lower.count in
    let p = λ (e : ℕ). test_of c.args.combination (is_member (words_at m a n) e) (is_member (words_at m c.args.upper.address c.args.upper.count) e) in
    let size : length (set_of n p) ≡ n = length-set_from n 0 p in
    let room : c.args.np + 2 ≤ a = omega arith in
    let written : c.set_word.new.self.words ≡ with_word c.write_combined.new.memory.words (a - 2) n = search rules in (
      combined-pushed m (set_of n p) c.set_word.new.self.words a n c.args.np c.args.lower.above c.bytes.ensures.memory c.requires.lower_even
          (omega arith) size c.requires.lower_above room (rw c.write_combined.ensures.words at written),
      WatchStays-trans _ _ _ c.write_combined.ensures.watch c.set_word.ensures.watch,
    )
