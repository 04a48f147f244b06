use Rattle.std.proofs.Common.{◌≡◌, ◌∙◌, ◌*◌, ◌+◌, ◌-◌, ap, arith, get_or, length, sym}
use Rattle.pm_convert.specs.Sums.{with_word}
use Rattle.pm_convert.proofs.SumLaws.{sum_even, sum_odd}
use Rattle.pm_convert.proofs.disk_copy.checksum.Goals as goal

pub returns-then-bytes-eq1 : goal.returns-then-bytes-eq1
returns-then-bytes-eq1 c =
    let odd : length c.args.bytes.now ≡ 2 * c.loop-n.n + 1 = omega arith in
    let last : length c.args.bytes.now - 1 ≡ 2 * c.loop-n.n = omega arith in
    record {
      sum = c.with_word-sum-then-bytes-eq1.ensures.sum
          ∙ ap (λ byte. with_word c.loop-n.sum (256 * byte))
          (c.from-then-bytes-eq1.ensures ∙ ap (λ place. get_or c.args.bytes.now place 0) last)
          ∙ sym (sum_odd c.loop-n.sum c.args.bytes.now c.loop-n.n odd)
          ∙ c.loop-n.invariant.whole;
    }

pub returns-else-bytes-eq1 : goal.returns-else-bytes-eq1
returns-else-bytes-eq1 c =
    let even : length c.args.bytes.now ≡ 2 * c.loop-n.n = omega arith in
    record { sum = sym (sum_even c.loop-n.sum c.args.bytes.now c.loop-n.n even) ∙ c.loop-n.invariant.whole }
