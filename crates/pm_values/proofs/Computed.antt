-- The worked examples of fields and sets, computed by the checker.
use Rattle.std.proofs.Common.{refl}
use Rattle.pm_values.specs.Fields.{field_of, with_field}
use Rattle.pm_values.specs.Sets.{bits_from, is_member, set_from}
use Rattle.pm_values.specs.Worked.{WorkedValues}

pub worked_values : WorkedValues
unfolding field_of with_field bits_from is_member set_from
worked_values = record {
  field = refl;
  replaced = refl;
  low_bits = refl;
  greatest = refl;
  over_two_words = refl;
  inside = refl;
  outside = refl;
}
