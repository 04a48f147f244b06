use Rattle.std.proofs.Common.{arith, ◌∙◌, ap, min, ◌*◌, ◌+◌}
use Rattle.std.specs.Str.Parse.{digits_value}
use Rattle.std.specs.Prelude.{take}
use Rattle.std.proofs.lemmas.Int.Digits.{digits_value_more}
use Rattle.pm_code.proofs.Capped.{capped}
use Rattle.pm_code.proofs.numbers.magnitude.Goals as goal

pub loop-digit-preserved : goal.loop-digit-preserved
loop-digit-preserved c =
    let more = digits_value_more c.args.radix c.args.digits.now c.loop-digit.digit-index c.loop-digit-test.true in
    let cut = capped c.args.radix (digits_value c.args.radix (take c.loop-digit.digit-index c.args.digits.now)) c.digit_value.result c.requires.radix.0 in
    let step = ap (λ m. min 1000000 (m * c.args.radix + c.digit_value.result)) c.loop-digit.invariant ∙ cut in
    rw more (omega (arith, step, c.min-magnitude.ensures, c.digit_value.ensures.value))
