use Rattle.std.proofs.Common.{◌≡◌, ◌+◌, ◌*◌, ◌≤◌, ◌<◌, refl, arith}
use Rattle.pm_words.specs.Words.{words_at}
use Rattle.pm_values.specs.Sets.{adjust_row, is_member}
use Rattle.pm_values.proofs.SetLaws.{length-set_from}
use Rattle.pm_values.proofs.StackSets.{pushed-words, refused-words}
use Rattle.pm_values.proofs.sets.adjust.Goals as goal

pub returns-then-from-clause-row : goal.returns-then-from-clause-row
unfolding adjust_row
returns-then-from-clause-row c =
    let m = c.args.memory.now.words in
    let set = c.in_ok-set.set in
    let size = length-set_from c.args.words 0 (λ e. is_member (words_at m set.address set.count) e) in
    let room : set.above < c.args.np + 2 * c.args.words = omega arith in
    (rw c.in_ok-set.ensures.set (refused-words m _ set.above c.args.np c.args.words size room), refl)

pub returns-clause-row : goal.returns-clause-row
unfolding adjust_row
returns-clause-row c =
    let m = c.args.memory.now.words in
    let set = c.in_ok-set.set in
    let size = length-set_from c.args.words 0 (λ e. is_member (words_at m set.address set.count) e) in
    let room : c.args.np + 2 * c.args.words ≤ set.above = omega arith in
    let bytes : c.from-size.result ≡ c.args.words = c.from-size.ensures in
    let count : c.from-4.result ≡ c.args.words = c.from-4.ensures in
    rw (c.in_ok-set.ensures.set, bytes) (
      pushed-words m _ c.resize.new.memory.words set.above c.args.np c.args.words size room (rw (bytes, count) at c.resize.ensures.words),
      c.resize.ensures.watch,
    )
