use Rattle.std.proofs.Common.{◌≡◌, ◌+◌, ◌/◌, ◌≤◌, length, arith, rules}
use Rattle.pm_values.specs.Combinations.{count_of, test_of}
use Rattle.pm_values.specs.Sets.{is_member}
use Rattle.pm_words.specs.Words.{words_at}
use Rattle.pm_values.proofs.SetLaws.{counted-set_of}
use Rattle.pm_words.proofs.Laws.{length-words_at}
use Rattle.pm_values.proofs.sets.combine.Goals as goal

pub returns-clause-row : goal.returns-clause-row
returns-clause-row c =
    let m = c.args.memory.now.words in
    let lower = c.in_ok-lower.lower in
    let upper = c.in_ok-upper.upper in
    let below : lower.address / 2 + lower.count ≤ length m = omega (arith, c.bytes.ensures.memory.size, c.in_ok-lower.ensures.inside) in
    let above : upper.address / 2 + upper.count ≤ length m = omega (arith, c.bytes.ensures.memory.size, c.in_ok-upper.ensures.inside) in
    let written = rw (c.deref.ensures.0, c.combined.ensures.words) at c.push_words.ensures.row in
    rw (
      c.in_ok-upper.ensures.set,
      c.in_ok-lower.ensures.set,
      length-words_at m lower.address lower.count below,
      length-words_at m upper.address upper.count above,
    ) written

pub returns-then-combined_count-from-clause-row : goal.returns-then-combined_count-from-clause-row
returns-then-combined_count-from-clause-row c =
    let m = c.args.memory.now.words in
    let lower = c.in_ok-lower.lower in
    let upper = c.in_ok-upper.upper in
    let below : lower.address / 2 + lower.count ≤ length m = omega (arith, c.bytes.ensures.memory.size, c.in_ok-lower.ensures.inside) in
    let above : upper.address / 2 + upper.count ≤ length m = omega (arith, c.bytes.ensures.memory.size, c.in_ok-upper.ensures.inside) in
    let count : count_of c.args.combination lower.count upper.count ≡ lower.count = search rules in
    rw (
      c.in_ok-upper.ensures.set,
      c.in_ok-lower.ensures.set,
      length-words_at m lower.address lower.count below,
      length-words_at m upper.address upper.count above,
      count,
    ) (rw (counted-set_of lower.count (λ e. test_of c.args.combination (is_member (words_at m lower.address lower.count) e)
    (is_member (words_at m upper.address upper.count) e))) at c.combine_in_place.ensures.row)
