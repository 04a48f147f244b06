use Rattle.std.proofs.Common.{◌/◌, refl, arith}
use Rattle.pm_trace.proofs.Zeros.{last_of_eight, seven_digits}
use Rattle.pm_trace.proofs.cached_digits.CachedTens.front.Goals as goal

pub returns : goal.returns
returns c = record {
  digits = rw (c.of.ensures.digits, last_of_eight c.args.count c.requires.few, seven_digits (c.args.count / 10) (omega (arith, c.requires.few))) refl;
}
