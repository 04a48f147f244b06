-- Laws of the labels of a procedure after one more row is appended.
use Rattle.std.proofs.Common.{◌≡◌, ℕ, ◌∙◌, Bool, true, false, List, [], ◌∷◌, ◌++◌, map, ap, sym, Option, Some}
use Rattle.std.specs.Prelude.{◌||◌, if◌then◌else◌, is_some}
use Rattle.std.proofs.Math.Bool.{or-false, or-true}
use Rattle.std.specs.List.{list_any}
use Rattle.std.specs.Str.{bytes_eq}
use Rattle.std.proofs.lemmas.List.{map-append}
use Rattle.std.proofs.lemmas.List.Folds.{list_any-append}
use Rattle.pm_line.specs.declared.item.Row.{Row}
use Rattle.pm_line.specs.Views.{row_seen}
use Rattle.pm_source.specs.Source.{has_label}

abbrev has_in : List ℕ → List Row → Bool
has_in name rows = list_any (has_label name) (map row_seen rows)

-- If a row is appended to the code, then the code defines a label if and only if the old code or the new row defines
-- it.
one_more : (name : List ℕ) (rows more : List Row) (row : Row) → more ≡ rows ++ row ∷ []
    → has_in name more ≡ (has_in name rows || (has_label name (row_seen row) || false))
one_more name rows more row e =
    ap (has_in name) e ∙ (ap (list_any (has_label name)) (map-append row_seen rows (row ∷ []))
    ∙ list_any-append (has_label name) (map row_seen rows) (row_seen row ∷ []))

entered : (b has : Bool) (had : Option ℕ) (line : ℕ) → is_some had ≡ has → is_some (if b then Some line else had) ≡ (has || (b || false))
entered true has had line was = sym (or-true has)
entered false has had line was = was ∙ sym (or-false has)

-- If the label of the new row is added to the table, then the table contains the labels of all rows.
pub with_label : (name label : List ℕ) (rows more : List Row) (row : Row) (had now : Option ℕ) (line : ℕ) → more ≡ rows ++ row ∷ []
    → has_label name (row_seen row) ≡ bytes_eq label name → is_some had ≡ has_in name rows → now ≡ (if bytes_eq label name then Some line else had)
    → is_some now ≡ has_in name more
with_label name label rows more row had now line e labelled was is =
    ap is_some is ∙ (entered (bytes_eq label name) (has_in name rows) had line was
    ∙ (ap (λ b. has_in name rows || (b || false)) (sym labelled) ∙ sym (one_more name rows more row e)))

-- If the new row has no label, then the table still contains the labels of all rows.
pub without_label : (name : List ℕ) (rows more : List Row) (row : Row) (had : Option ℕ) → more ≡ rows ++ row ∷ []
    → has_label name (row_seen row) ≡ false → is_some had ≡ has_in name rows → is_some had ≡ has_in name more
without_label name rows more row had e labelled was =
    was ∙ (sym (or-false (has_in name rows)) ∙ (ap (λ b. has_in name rows || (b || false)) (sym labelled) ∙ sym (one_more name rows more row e)))
