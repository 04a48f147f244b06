use Rattle.std.proofs.Common.{◌≡◌, ◌*◌, ◌%◌, ◌^◌, ◌≤◌, sym, arith}
use Rattle.std.proofs.lemmas.Nat.{one_shl}
use Rattle.std.proofs.Math.Nat.{pow-le-pow_right}
use Rattle.pm_values.proofs.SetLaws.{interval-word}
use Rattle.pm_values.proofs.sets.interval_word.Goals as goal

pub returns : goal.returns
returns c =
    let place : (1 * 2 ^ c.min-from.result) % 2 ^ 32 ≡ 2 ^ c.min-from.result = one_shl c.min-from.result 32 (omega arith) in
    let size : (1 * 2 ^ c.min-to.result) % 2 ^ 32 ≡ 2 ^ c.min-to.result = one_shl c.min-to.result 32 (omega arith) in
    record {
      word = rw (place, size) (sym (interval-word c.args.low c.args.high c.args.first c.min-from.result c.min-to.result c.requires.order (omega arith)
          (omega arith)));
    }

pub overflow_sub-result : goal.overflow_sub-result
overflow_sub-result c =
    let place : (1 * 2 ^ c.min-from.result) % 2 ^ 32 ≡ 2 ^ c.min-from.result = one_shl c.min-from.result 32 (omega arith) in
    let size : (1 * 2 ^ c.min-to.result) % 2 ^ 32 ≡ 2 ^ c.min-to.result = one_shl c.min-to.result 32 (omega arith) in
    let order : c.min-from.result ≤ c.min-to.result = omega arith in
    rw (place, size) (pow-le-pow_right (omega arith) order)
