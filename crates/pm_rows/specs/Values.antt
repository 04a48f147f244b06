-- The rules of the instructions on bytes, sets, strings and packed fields, and of the typed comparisons. Each rule is a
-- definition of pm_values.
use Rattle.pm_words.specs.Stack.{StackRow}
use Rattle.pm_families.specs.declared.families.Value.{Value}
use Rattle.pm_families.specs.declared.families.Value.TheVariants as value
use Rattle.pm_families.specs.declared.families.Byte.TheVariants as byte
use Rattle.pm_families.specs.declared.families.Set.{Set}
use Rattle.pm_families.specs.declared.families.Set.TheVariants as set
use Rattle.pm_families.specs.declared.families.Text.TheVariants as text
use Rattle.pm_families.specs.declared.families.Field.{Field}
use Rattle.pm_families.specs.declared.families.Field.TheVariants as field
use Rattle.pm_values.specs.Comparisons.{compare_row}
use Rattle.pm_values.specs.Fields.{load_byte_row, store_byte_row, index_field_row, load_field_row, store_field_row}
use Rattle.pm_values.specs.Sets.{in_set_row, intersect_row, union_row, difference_row, singleton_row, subrange_row}
use Rattle.pm_values.specs.Sets.{adjust_row}
use Rattle.pm_values.specs.Strings.{index_string_row, assign_row}

unfoldable pub set_row : Set → StackRow
set_row set.Member m sp np = in_set_row m sp np
set_row set.Intersection m sp np = intersect_row m sp np
set_row set.Union m sp np = union_row m sp np
set_row set.Difference m sp np = difference_row m sp np
set_row set.Singleton m sp np = singleton_row m sp np
set_row set.Subrange m sp np = subrange_row m sp np
set_row (set.Adjust n) m sp np = adjust_row n m sp np

unfoldable pub field_row : Field → StackRow
field_row (field.Index per_word width) m sp np = index_field_row per_word width m sp np
field_row field.Load m sp np = load_field_row m sp np
field_row field.Store m sp np = store_field_row m sp np

unfoldable pub value_row : Value → StackRow
value_row (value.Byte byte.Load) m sp np = load_byte_row m sp np
value_row (value.Byte byte.Store) m sp np = store_byte_row m sp np
value_row (value.Set o) m sp np = set_row o m sp np
value_row (value.Text text.Index) m sp np = index_string_row m sp np
value_row (value.Text (text.Assign n)) m sp np = assign_row n m sp np
value_row (value.Field o) m sp np = field_row o m sp np
value_row (value.Compare r k) m sp np = compare_row r k m sp np
