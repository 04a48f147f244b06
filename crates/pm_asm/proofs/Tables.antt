-- Lemmas about a table of labels to which the label of one more line is added.
use Rattle.std.proofs.Common.{◌≡◌, ℕ, ◌+◌, ◌∙◌, Bool, true, false, List, ◌∷◌, drop, map, refl, ap, sym, Option, Some, None}
use Rattle.std.specs.Prelude.{if◌then◌else◌, is_some}
use Rattle.pm_code.specs.Program.{end_of}
use Rattle.pm_line.specs.declared.item.Row.{Row}
use Rattle.pm_line.specs.Views.{row_seen}
use Rattle.pm_source.specs.Faults.{place_of}
use Rattle.pm_source.specs.Source.{has_label, row_items}

-- The first offset if it exists, else the second one.
abbrev pub or_else : Option ℕ → Option ℕ → Option ℕ
or_else None place = place
or_else (Some place) other = Some place

-- The offset of the label `name` in the lines from line `k` on, which begin at offset `at`.
abbrev pub left : ℕ → ℕ → List Row → List ℕ → Option ℕ
left at k rows name = place_of at (map row_seen (drop k rows)) name

left_one : (rows : List Row) (k at : ℕ) (row : Row) (name : List ℕ) → drop k rows ≡ row ∷ drop (k + 1) rows
    → left at k rows name ≡ (if has_label name (row_seen row) then Some at else left (end_of at (row_items (row_seen row))) (k + 1) rows name)
left_one rows k at row name next = ap (λ rs. place_of at (map row_seen rs) name) next

put : (b : Bool) (had now : Option ℕ) (at : ℕ) (rest : Option ℕ) → (b ≡ true → had ≡ None) → now ≡ (if b then Some at else had)
    → or_else now rest ≡ or_else had (if b then Some at else rest)
put true had now at rest none is = rw (is, none refl) refl
put false had now at rest none is = rw is refl

stay : (b : Bool) (had : Option ℕ) (at : ℕ) (rest : Option ℕ) → (b ≡ true → is_some had ≡ true) → or_else had rest ≡ or_else had (if b then Some at else rest)
stay b (Some x) at rest some = refl
stay true None at rest some = absurd (cc (some refl))
stay false None at rest some = refl

-- If the line `row` has a label that is not in the table, and it is added with its offset, then the combined result for
-- each name is unchanged. The combined result is the offset in the table, or else in the remaining lines.
pub put_row : (rows : List Row) (k at next : ℕ) (row : Row) (name : List ℕ) (b : Bool) (had now place : Option ℕ) → drop k rows ≡ row ∷ drop (k + 1) rows
    → next ≡ end_of at (row_items (row_seen row)) → has_label name (row_seen row) ≡ b → (b ≡ true → had ≡ None) → now ≡ (if b then Some at else had)
    → or_else had (left at k rows name) ≡ place → or_else now (left next (k + 1) rows name) ≡ place
put_row rows k at next row name b had now place there e labelled none is all =
    let rest = left (end_of at (row_items (row_seen row))) (k + 1) rows name in
    ap (λ n. or_else now (left n (k + 1) rows name)) e
    ∙ (put b had now at rest none is ∙ (ap (λ x. or_else had (if x then Some at else rest)) (sym labelled)
    ∙ (sym (ap (or_else had) (left_one rows k at row name there)) ∙ all)))

-- If the line `row` has no label, or a label that is already in the table, then the combined result for each name is
-- unchanged.
pub stay_row : (rows : List Row) (k at next : ℕ) (row : Row) (name : List ℕ) (b : Bool) (had place : Option ℕ) → drop k rows ≡ row ∷ drop (k + 1) rows
    → next ≡ end_of at (row_items (row_seen row)) → has_label name (row_seen row) ≡ b → (b ≡ true → is_some had ≡ true)
    → or_else had (left at k rows name) ≡ place → or_else had (left next (k + 1) rows name) ≡ place
stay_row rows k at next row name b had place there e labelled some all =
    let rest = left (end_of at (row_items (row_seen row))) (k + 1) rows name in
    ap (λ n. or_else had (left n (k + 1) rows name)) e
    ∙ (stay b had at rest some ∙ (ap (λ x. or_else had (if x then Some at else rest)) (sym labelled)
    ∙ (sym (ap (or_else had) (left_one rows k at row name there)) ∙ all)))
