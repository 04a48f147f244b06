use Rattle.std.proofs.Common.{◌≡◌, min, take}
use Rattle.std.specs.Str.Parse.{digits_value}
use Rattle.pm_code.proofs.numbers.magnitude.Given as goal

-- `magnitude` is the value of the digits up to here, at most 1,000,000.
abbrev pub invariant-loop-digit : goal.invariant-loop-digit
invariant-loop-digit l = l.magnitude ≡ min 1000000 (digits_value l.radix (take l.digit-index l.digits))
