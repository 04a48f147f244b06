-- The labels of the rows of a procedure.
use Rattle.std.specs.Prelude.{◌≡◌, ℕ, List, Bool, false, Option, Some, None, is_some}
use Rattle.std.specs.Borrow.{Bor}
use Rattle.std.specs.BTreeMap.{BTreeMap, get_by}
use Rattle.std.specs.Cmp.Lexicographic.{slice_cmp}
use Rattle.std.specs.Ordering.{nat_cmp}
use Rattle.std.specs.Str.{bytes_eq}
use Rattle.pm_reader.specs.declared.source.LabelledProcedure.{LabelledProcedure}
use Rattle.pm_reader.specs.Views.{labelled_procedure}
use Rattle.pm_source.specs.Source.{Name, Row, has_label_in}
use Rattle.pm_source.specs.Source.Row.{Items, Exit}

-- Whether the label exists and is `name`, byte for byte.
abbrev pub is_name : Name → Option (Bor (List ℕ)) → Bool
is_name name None = false
is_name name (Some label) = bytes_eq label.now name

-- The label of a row, or `None` if the row has no label.
abbrev pub label_in : Row → Option Name
label_in (Items line label items) = label
label_in Exit = None

-- States that the table `labels` contains exactly the labels that the code of `p` defines.
abbrev pub HasLabelsOf : LabelledProcedure → BTreeMap (Bor (List ℕ)) ℕ → Type 0
HasLabelsOf p labels = (name : List ℕ)
    → is_some (get_by (λ key. slice_cmp nat_cmp name key.now) labels) ≡ has_label_in name (labelled_procedure p)
