-- Lemmas: the rows of shown code contain the exit once, at its offset, and no label twice.
use Rattle.std.proofs.Common.{◌≡◌, ◌<◌, ℕ, ◌^◌, ◌+◌, Bool, true, false, eqb, List, [], ◌∷◌, refl, sym, ap, ◌∙◌, arith, Some, None}
use Rattle.std.specs.Prelude.{◌==◌}
use Rattle.std.specs.List.{AllByRecursion, IsDistinct}
use Rattle.std.specs.Str.{bytes_eq}
use Rattle.std.proofs.lemmas.Bool.{eqb-true}
use Rattle.std.proofs.lemmas.Bool.Decides.{nat_tests}
use Rattle.pm_code.specs.Item.{Item, size}
use Rattle.pm_code.specs.Program.{is_among, IsIn, boundaries, end_of}
use Rattle.pm_code.specs.Shown.{label_text, put_if}
use Rattle.pm_source.specs.Source.{Name, Row, labels_of, exits_of}
use Rattle.pm_source.specs.Source.Row.{Items, Exit}
use Rattle.pm_source.specs.Meaning.{exit_place}
use Rattle.law_text.proofs.Mnemonics.{or_false}
use Rattle.law_text.proofs.SpokenLines.{labelled_item}
use Rattle.law_text.proofs.ShownRows.{rows_at, rows_of, line_behind, end_above, same_size, positive, other_label}

turned : (m n : ℕ) → (m == n) ≡ false → (n == m) ≡ false
turned m n e = grind (arith, nat_tests)

below : (m n : ℕ) → m < n → (m == n) ≡ false
below m n h = grind (arith, nat_tests)

here : (b : Bool) (n at : ℕ) (name : Name) (rows : List Row) → exit_place at (put_if b (Items n (Some name) []) (Exit ∷ rows)) ≡ at
here true n at name rows = refl
here false n at name rows = refl

there : (b : Bool) (n at : ℕ) (name : Name) (rows : List Row) → exit_place at (put_if b (Items n (Some name) []) rows) ≡ exit_place at rows
there true n at name rows = refl
there false n at name rows = refl

exit_here : (n : ℕ) (used : List ℕ) (exit at : ℕ) (rows : List Row) → (exit == at) ≡ true → exit_place at (rows_at n used exit at rows) ≡ exit
exit_here n used exit at rows e =
    ap (λ b. exit_place at (put_if (is_among used at) (Items n (Some (label_text at)) []) (put_if b Exit rows))) e
    ∙ here (is_among used at) n at (label_text at) rows ∙ sym (eqb-true _ _ e)

exit_passed : (n : ℕ) (used : List ℕ) (exit at : ℕ) (rows : List Row) → (exit == at) ≡ false → exit_place at (rows_at n used exit at rows) ≡ exit_place at rows
exit_passed n used exit at rows e =
    ap (λ b. exit_place at (put_if (is_among used at) (Items n (Some (label_text at)) []) (put_if b Exit rows))) e
    ∙ there (is_among used at) n at (label_text at) rows

-- If the exit is at a boundary of the items, then the rows have the exit at its offset.
pub exit_stands : (n : ℕ) (used : List ℕ) (exit at : ℕ) (items : List (Item ℕ)) → IsIn (boundaries at items) exit
    → exit_place at (rows_of n used exit at items) ≡ exit
exit_stands n used exit at [] i = go (eqb exit at) refl
  where
    go : (b : Bool) → eqb exit at ≡ b → exit_place at (rows_of n used exit at []) ≡ exit
    go true e = exit_here n used exit at [] e
    go false e = absurd (let f : false ≡ true = or_false (at == exit) false (turned exit at e) i in cc)
exit_stands n used exit at (item ∷ items) i = go (eqb exit at) refl (exit_stands (line_behind n used exit at + 1) used exit (at + size at item) items)
  where
    go : (b : Bool) → eqb exit at ≡ b
        → (IsIn (boundaries (at + size at item) items) exit → exit_place (at + size at item)
        (rows_of (line_behind n used exit at + 1) used exit (at + size at item) items) ≡ exit)
        → exit_place at (rows_of n used exit at (item ∷ items)) ≡ exit
    go true e f = exit_here n used exit at (Items (line_behind n used exit at) None (labelled_item item ∷ [])
        ∷ rows_of (line_behind n used exit at + 1) used exit (at + size at item) items) e
    go false e f =
        let m : ℕ = line_behind n used exit at in
        let more : List Row = rows_of (m + 1) used exit (at + size at item) items in
        exit_passed n used exit at (Items m None (labelled_item item ∷ []) ∷ more) e
        ∙ ap (λ k. exit_place (at + k) more) (same_size at item)
        ∙ f (or_false (at == exit) (is_among (boundaries (at + size at item) items) exit) (turned exit at e) i)

exits_if : (b c : Bool) (n : ℕ) (name : Name) (rows : List Row)
    → exits_of (put_if b (Items n (Some name) []) (put_if c Exit rows)) ≡ exits_of (put_if c Exit rows)
exits_if true c n name rows = refl
exits_if false c n name rows = refl

no_exit_at : (n : ℕ) (used : List ℕ) (exit at : ℕ) (rows : List Row) → (exit == at) ≡ false → exits_of (rows_at n used exit at rows) ≡ exits_of rows
no_exit_at n used exit at rows e = exits_if (is_among used at) (exit == at) n (label_text at) rows ∙ ap (λ c. exits_of (put_if c Exit rows)) e

an_exit_at : (n : ℕ) (used : List ℕ) (exit at : ℕ) (rows : List Row) → (exit == at) ≡ true → exits_of (rows_at n used exit at rows) ≡ 1 + exits_of rows
an_exit_at n used exit at rows e = exits_if (is_among used at) (exit == at) n (label_text at) rows ∙ ap (λ c. exits_of (put_if c Exit rows)) e

no_exits : (n : ℕ) (used : List ℕ) (exit at : ℕ) (items : List (Item ℕ)) → exit < at → exits_of (rows_of n used exit at items) ≡ 0
no_exits n used exit at [] h = no_exit_at n used exit at [] (below exit at h)
no_exits n used exit at (item ∷ items) h =
    let m : ℕ = line_behind n used exit at in
    let more : List Row = rows_of (m + 1) used exit (at + size at item) items in
    no_exit_at n used exit at (Items m None (labelled_item item ∷ []) ∷ more) (below exit at h)
    ∙ no_exits (m + 1) used exit (at + size at item) items (omega (arith, h))

-- If the exit is at a boundary of the items, then the rows contain one exit.
pub one_exit : (n : ℕ) (used : List ℕ) (exit at : ℕ) (items : List (Item ℕ)) → IsIn (boundaries at items) exit → exits_of (rows_of n used exit at items) ≡ 1
one_exit n used exit at [] i = go (eqb exit at) refl
  where
    go : (b : Bool) → eqb exit at ≡ b → exits_of (rows_of n used exit at []) ≡ 1
    go true e = an_exit_at n used exit at [] e
    go false e = absurd (let f : false ≡ true = or_false (at == exit) false (turned exit at e) i in cc)
one_exit n used exit at (item ∷ items) i = go (eqb exit at) refl (one_exit (line_behind n used exit at + 1) used exit (at + size at item) items)
  where
    go : (b : Bool) → eqb exit at ≡ b
        → (IsIn (boundaries (at + size at item) items) exit → exits_of (rows_of (line_behind n used exit at + 1) used exit (at + size at item) items) ≡ 1)
        → exits_of (rows_of n used exit at (item ∷ items)) ≡ 1
    go true e f =
        let m : ℕ = line_behind n used exit at in
        let more : List Row = rows_of (m + 1) used exit (at + size at item) items in
        let same : exit ≡ at = eqb-true _ _ e in
        let none : exits_of more ≡ 0 = no_exits (m + 1) used exit (at + size at item) items (omega (arith, positive at item, same)) in
        an_exit_at n used exit at (Items m None (labelled_item item ∷ []) ∷ more) e ∙ ap (λ k. 1 + k) none
    go false e f =
        let m : ℕ = line_behind n used exit at in
        let more : List Row = rows_of (m + 1) used exit (at + size at item) items in
        no_exit_at n used exit at (Items m None (labelled_item item ∷ []) ∷ more) e
        ∙ f (or_false (at == exit) (is_among (boundaries (at + size at item) items) exit) (turned exit at e) i)

-- The name is not one of the labels of the rows.
abbrev IsOther : Name → List Row → Type 0
IsOther name rows = AllByRecursion (λ label. bytes_eq name label ≡ false) (labels_of rows)

other_if : (b : Bool) (n at : ℕ) (rows : List Row) (name : Name) → bytes_eq name (label_text at) ≡ false → IsOther name rows
    → IsOther name (put_if b (Items n (Some (label_text at)) []) rows)
other_if true n at rows name e h = (e, h)
other_if false n at rows name e h = h

exit_if : (P : List Name → Type 0) (b : Bool) (rows : List Row) → P (labels_of rows) → P (labels_of (put_if b Exit rows))
exit_if P true rows h = h
exit_if P false rows h = h

other_rows : (n : ℕ) (used : List ℕ) (exit at : ℕ) (items : List (Item ℕ)) (q : ℕ) → q < at → end_of at items < 2 ^ 64
    → IsOther (label_text q) (rows_of n used exit at items)
other_rows n used exit at [] q h l =
    other_if (is_among used at) n at (put_if (exit == at) Exit []) (label_text q) (other_label q at (omega (arith, h, l)) l (below q at h))
    (exit_if (AllByRecursion (λ label. bytes_eq (label_text q) label ≡ false)) (exit == at) [] tt)
other_rows n used exit at (item ∷ items) q h l =
    let m : ℕ = line_behind n used exit at in
    let rows : List Row = Items m None (labelled_item item ∷ []) ∷ rows_of (m + 1) used exit (at + size at item) items in
    let room : at < 2 ^ 64 = omega (arith, end_above (at + size at item) items, l) in
    let rest : IsOther (label_text q) rows = other_rows (m + 1) used exit (at + size at item) items q (omega (arith, h)) l in
    other_if (is_among used at) n at (put_if (exit == at) Exit rows) (label_text q) (other_label q at (omega (arith, h, room)) room (below q at h))
    (exit_if (AllByRecursion (λ label. bytes_eq (label_text q) label ≡ false)) (exit == at) rows rest)

distinct_if : (b : Bool) (n at : ℕ) (rows : List Row) → IsOther (label_text at) rows → IsDistinct bytes_eq (labels_of rows)
    → IsDistinct bytes_eq (labels_of (put_if b (Items n (Some (label_text at)) []) rows))
unfolding IsDistinct
distinct_if true n at rows h d = (h, d)
distinct_if false n at rows h d = d

no_names : IsDistinct bytes_eq []
unfolding IsDistinct
no_names = tt

-- No label occurs twice in the rows.
pub labels_distinct : (n : ℕ) (used : List ℕ) (exit at : ℕ) (items : List (Item ℕ)) → end_of at items < 2 ^ 64
    → IsDistinct bytes_eq (labels_of (rows_of n used exit at items))
labels_distinct n used exit at [] l =
    distinct_if (is_among used at) n at (put_if (exit == at) Exit [])
    (exit_if (AllByRecursion (λ label. bytes_eq (label_text at) label ≡ false)) (exit == at) [] tt) (exit_if (IsDistinct bytes_eq) (exit == at) [] no_names)
labels_distinct n used exit at (item ∷ items) l =
    let m : ℕ = line_behind n used exit at in
    let rows : List Row = Items m None (labelled_item item ∷ []) ∷ rows_of (m + 1) used exit (at + size at item) items in
    let others : IsOther (label_text at) rows = other_rows (m + 1) used exit (at + size at item) items at (omega (arith, positive at item)) l in
    let rest : IsDistinct bytes_eq (labels_of rows) = labels_distinct (m + 1) used exit (at + size at item) items l in
    distinct_if (is_among used at) n at (put_if (exit == at) Exit rows)
    (exit_if (AllByRecursion (λ label. bytes_eq (label_text at) label ≡ false)) (exit == at) rows others)
    (exit_if (IsDistinct bytes_eq) (exit == at) rows rest)
