-- Lemmas about lookups of labels.
use Rattle.std.proofs.Common.{◌≡◌, ℕ, ◌++◌, true, false, List, ◌∷◌, map, refl, sym, ap, ◌∙◌, append_assoc, Option, Some, None}
use Rattle.std.specs.Prelude.{is_none}
use Rattle.std.specs.Option.{unwrap_or}
use Rattle.std.proofs.lemmas.Bool.{true≢false}
use Rattle.std.proofs.lemmas.List.{map-append}
use Rattle.pm_code.specs.Item.{Target}
use Rattle.pm_code.specs.Item.Target.{To, Through}
use Rattle.pm_source.specs.Faults.{Places, is_far, is_far_place, is_unknown_target}
use Rattle.pm_source.specs.Meaning.{found_item, found_target}
use Rattle.pm_source.specs.Source.{Name, Row, items_of, row_items}
use Rattle.pm_asm.specs.Found.{is_far_target}

-- If the label of a jump is known, then the jump is too far if and only if the offset of the label is out of reach.
pub far_is : (places : Places) (next : ℕ) (target : Target Name) (found : Target ℕ) → is_unknown_target places target ≡ false
    → found ≡ found_target places target → is_far places next target ≡ is_far_target next found
far_is places next (Through k) found known e = sym (ap (is_far_target next) e)
far_is places next (To name) found known e = by (places name) refl
  where
    by : (o : Option ℕ) → places name ≡ o → is_far places next (To name) ≡ is_far_target next found
    by None h = absurd (let t : true ≡ false = sym (ap is_none h) ∙ known in true≢false t)
    by (Some place) h =
        let there : found ≡ To place = e ∙ ap (λ (o : Option ℕ). To (unwrap_or o 0)) h in
        ap (is_far_place next) h ∙ sym (ap (is_far_target next) there)

-- The converted items of lines are those of the first line, followed by those of the other lines.
pub rows_split : (places : Places) (row : Row) (rows : List Row)
    → map (found_item places) (items_of (row ∷ rows)) ≡ map (found_item places) (row_items row) ++ map (found_item places) (items_of rows)
rows_split places row rows = map-append (found_item places) (row_items row) (items_of rows)

-- If `some` is appended to `before`, then the list followed by `rest` is unchanged.
pub items_joined : {A : Type 0} (before after some rest whole : List A) → after ≡ before ++ some → before ++ (some ++ rest) ≡ whole → after ++ rest ≡ whole
items_joined before after some rest whole e h = ap (λ xs. xs ++ rest) e ∙ append_assoc before some rest ∙ h
