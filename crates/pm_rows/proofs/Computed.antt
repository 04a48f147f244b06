-- The worked examples of integer operations, computed by the checker.
use Rattle.std.proofs.Common.{refl}
use Rattle.pm_rows.specs.Worked.{WorkedResults}

pub worked_results : WorkedResults
worked_results = record {
  sum = refl;
  difference = refl;
  product = refl;
  quotient = refl;
  remainder = refl;
  wrapped = refl;
  by_zero = refl;
  absolute = refl;
  negative = refl;
  square = refl;
  complement = refl;
  below = refl;
  not_below = refl;
}
