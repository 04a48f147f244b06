-- If segments are sound, then their statements have no faults, and reading these statements returns the segments.
use Rattle.std.proofs.Common.{◌≡◌, ◌≤◌, ℕ, ◌+◌, ◌%◌, Bool, true, false, eqb, not, List, [], ◌∷◌, ◌++◌}
use Rattle.std.proofs.Common.{length, map, refl, sym, ap, subst, ◌∙◌, arith, append_assoc, Some, None}
use Rattle.std.specs.Prelude.{◌&&◌, ◌||◌, nat_eq, nat_lt, ◌==◌}
use Rattle.std.specs.List.{list_any, AllByRecursion, IsDistinct}
use Rattle.std.specs.Option.{option_to_list}
use Rattle.std.specs.Str.{bytes_eq}
use Rattle.std.proofs.lemmas.Bool.{eq-eqb}
use Rattle.std.proofs.lemmas.Bool.Decides.{nat_tests}
use Rattle.std.proofs.lemmas.Grind.{common_steps}
use Rattle.pm_source.specs.Source.{Name, Row, Statement, Source, SourceSegment, head_statements, entry_statement, statements_from, segment_statements}
use Rattle.pm_source.specs.Source.{statements, labels_of, has_label, is_exit, exits_of, code_end, entries_used, IsSource, AreSources}
use Rattle.pm_source.specs.Source.Row.{Items, Exit}
use Rattle.pm_source.specs.Source.Statement.{Segment, Begin, Code, End}
use Rattle.pm_source.specs.Words.{is_empty}
use Rattle.pm_source.specs.Faults.{Reading, start, with_procedure, procedure_count, after}
use Rattle.pm_source.proofs.Fit.{IsFit, AreFit, after_all}

pub append_nil : {A : Type 0} (xs : List A) → xs ++ [] ≡ xs
append_nil [] = refl
append_nil (x ∷ xs) = ap (λ ys. x ∷ ys) (append_nil xs)

pub fit_append : (r : Reading) (xs ys : List Statement) → AreFit r xs → AreFit (after_all r xs) ys → AreFit r (xs ++ ys)
fit_append r [] ys h k = k
fit_append r (x ∷ xs) ys h k = (h.0, fit_append (after r x) xs ys h.1 k)

pub all_after : (r : Reading) (xs ys : List Statement) → after_all r (xs ++ ys) ≡ after_all (after_all r xs) ys
all_after r [] ys = refl
all_after r (x ∷ xs) ys = all_after (after r x) xs ys

pub statements_append : (xs ys : List SourceSegment) → statements (xs ++ ys) ≡ statements xs ++ statements ys
statements_append [] ys = refl
statements_append (x ∷ xs) ys =
    ap (λ zs. segment_statements x ++ zs) (statements_append xs ys) ∙ sym (append_assoc (segment_statements x) (statements xs) (statements ys))

pub labels_append : (xs ys : List Row) → labels_of (xs ++ ys) ≡ labels_of xs ++ labels_of ys
labels_append [] ys = refl
labels_append (Items line label items ∷ xs) ys =
    ap (λ zs. option_to_list label ++ zs) (labels_append xs ys) ∙ sym (append_assoc (option_to_list label) (labels_of xs) (labels_of ys))
labels_append (Exit ∷ xs) ys = labels_append xs ys

-- If the items of a list are distinct, then an item differs from all items before it.
pub new_among : {K : Type 0} (eq : K → K → Bool) (xs : List K) (y : K) (ys : List K) → IsDistinct eq (xs ++ y ∷ ys) → list_any (λ x. eq x y) xs ≡ false
unfolding IsDistinct
new_among eq [] y ys h = refl
new_among eq (x ∷ xs) y ys h = both (eq x y) (list_any (λ z. eq z y) xs) (at xs h.0) (new_among eq xs y ys h.1)
  where
    at : (zs : List _) → AllByRecursion (λ z. eq x z ≡ false) (zs ++ y ∷ ys) → eq x y ≡ false
    at [] a = a.0
    at (z ∷ zs) a = at zs a.1

    both : (a b : Bool) → a ≡ false → b ≡ false → (a || b) ≡ false
    both a b e f = cc

-- The state inside the procedure `p`, after the segments `segments`.
abbrev inside : List SourceSegment → Source → Reading
inside segments p = record { segments = segments; current = Some p }

abbrev with_code : Source → List Row → Source
with_code p rows = record p { code = p.code ++ rows }

abbrev outside : List SourceSegment → Reading
outside segments = record { segments = segments; current = None }

-- States that the rows `rows` may follow the rows of the procedure `p` that were read.
pub record RowsFit (p : Source) (rows : List Row) : Type 0 where
  pub labels : IsDistinct bytes_eq (labels_of (p.code ++ rows))
  pub exits : exits_of (p.code ++ rows) ≤ 1
  pub entries : p.entries ≡ []

pub exits_append : (xs ys : List Row) → exits_of (xs ++ ys) ≡ exits_of xs + exits_of ys
exits_append [] ys = omega arith
exits_append (Items line label items ∷ xs) ys = exits_append xs ys
exits_append (Exit ∷ xs) ys = omega (arith, exits_append xs ys)

not_zero : (n : ℕ) → not (eqb (1 + n) 0) ≡ true
not_zero n = grind (arith, nat_tests)

pub has_exit_is : (rows : List Row) → list_any is_exit rows ≡ not (eqb (exits_of rows) 0)
has_exit_is [] = refl
has_exit_is (Items line label items ∷ rows) = has_exit_is rows
has_exit_is (Exit ∷ rows) = sym (not_zero (exits_of rows))

pub has_label_is : (label : Name) (rows : List Row) → list_any (has_label label) rows ≡ list_any (λ mark. bytes_eq mark label) (labels_of rows)
has_label_is label [] = refl
has_label_is label (Items line None items ∷ rows) = has_label_is label rows
has_label_is label (Items line (Some mark) items ∷ rows) = ap (λ b. bytes_eq mark label || b) (has_label_is label rows)
has_label_is label (Exit ∷ rows) = has_label_is label rows

row_fits : (segments : List SourceSegment) (p : Source) (row : Row) (rows : List Row) → RowsFit p (row ∷ rows) → IsFit (inside segments p) (Code row)
row_fits segments p (Items line None items) rows h = record { in_place = rw h.entries refl; new = refl; counted = refl }
row_fits segments p (Items line (Some label) items) rows h =
    record {
      in_place = rw h.entries refl;
      new = has_label_is label p.code
          ∙ new_among bytes_eq (labels_of p.code) label (labels_of rows)
          (subst (IsDistinct bytes_eq) (labels_append p.code (Items line (Some label) items ∷ rows)) h.labels);
      counted = refl;
    }
row_fits segments p Exit rows h =
    let e : exits_of p.code ≡ 0 = omega (arith, h.exits, exits_append p.code (Exit ∷ rows)) in
    record { in_place = rw h.entries refl; new = has_exit_is p.code ∙ rw e refl; counted = refl }

next_rows : (p : Source) (row : Row) (rows : List Row) → RowsFit p (row ∷ rows) → RowsFit (with_code p (row ∷ [])) rows
next_rows p row rows h =
    let e : (p.code ++ row ∷ []) ++ rows ≡ p.code ++ row ∷ rows = append_assoc p.code (row ∷ []) rows in
    record { labels = rw e h.labels; exits = rw e h.exits; entries = h.entries }

pub rows_fit : (segments : List SourceSegment) (p : Source) (rows : List Row) → RowsFit p rows
    → AreFit (inside segments p) (map Code rows) × (after_all (inside segments p) (map Code rows) ≡ inside segments (with_code p rows))
rows_fit segments p [] h = (tt, ap (λ c. inside segments (record p { code = c })) (sym (append_nil p.code)))
rows_fit segments p (row ∷ rows) h =
    let more = rows_fit segments (with_code p (row ∷ [])) rows (next_rows p row rows h) in
    ((row_fits segments p row rows h, more.0), more.1 ∙ ap (λ c. inside segments (record p { code = c })) (append_assoc p.code (row ∷ []) rows))

-- After the code of a procedure, its jump entries have no faults and are appended to the procedure.
pub entries_fit : (segments : List SourceSegment) (p : Source) (entries : List (ℕ × Name))
    → AreFit (inside segments p) (map entry_statement entries) × (after_all (inside segments p) (map entry_statement entries)
    ≡ inside segments (record p { entries = p.entries ++ entries }))
entries_fit segments p [] = (tt, ap (λ es. inside segments (record p { entries = es })) (sym (append_nil p.entries)))
entries_fit segments p (e ∷ es) =
    let more = entries_fit segments (record p { entries = p.entries ++ e ∷ [] }) es in (
      (record { in_place = refl; new = refl; counted = refl }, more.0),
      more.1 ∙ ap (λ xs. inside segments (record p { entries = xs })) (append_assoc p.entries (e ∷ []) es),
    )

-- The procedure `p` after its first statement, without code and jump entries.
abbrev begun : Source → Source
begun p = record { level = p.level; parameters = p.parameters; locals = p.locals; code = []; entries = [] }

last_count : (done : List SourceSegment) (s : SourceSegment) → procedure_count (done ++ s ∷ []) ≡ length s.procedures
last_count [] s = refl
last_count (x ∷ []) s = refl
last_count (x ∷ y ∷ done) s = last_count (y ∷ done) s

last_with : (done : List SourceSegment) (s : SourceSegment) (p : Source)
    → with_procedure p (done ++ s ∷ []) ≡ done ++ record s { procedures = s.procedures ++ p ∷ [] } ∷ []
last_with [] s p = refl
last_with (x ∷ []) s p = refl
last_with (x ∷ y ∷ done) s p = ap (λ ss. x ∷ ss) (last_with (y ∷ done) s p)

some_last : (done : List SourceSegment) (s : SourceSegment) → is_empty (done ++ s ∷ []) ≡ false
some_last [] s = refl
some_last (x ∷ done) s = refl

pub procedure_fits : (done : List SourceSegment) (s : SourceSegment) (p : Source) (n : ℕ) → n ≡ length s.procedures + 1 → IsSource p
    → AreFit (outside (done ++ s ∷ [])) (head_statements n p ++ End ∷ [])
    × (after_all (outside (done ++ s ∷ [])) (head_statements n p ++ End ∷ []) ≡ outside (done ++ record s { procedures = s.procedures ++ p ∷ [] } ∷ []))
procedure_fits done s p n e h =
    let segments : List SourceSegment = done ++ s ∷ [] in
    let same : eqb n (procedure_count segments + 1) ≡ true = eq-eqb _ _ (omega (arith, e, last_count done s)) in
    let first : IsFit (outside segments) (Begin n p.level p.parameters p.locals) =
    record { in_place = rw (some_last done s) refl; new = refl; counted = rw same refl } in
    let code = rows_fit segments (begun p) p.code (record { labels = h.labels; exits = omega (arith, h.exit); entries = refl }) in
    let table = entries_fit segments (record p { entries = [] }) p.entries in
    let even : eqb (code_end 0 p.code % 2) 0 ≡ true = eq-eqb _ _ h.even in
    let used : eqb (length p.entries) (entries_used p.code) ≡ true = eq-eqb _ _ h.used in
    let last : IsFit (inside segments p) End = record { in_place = has_exit_is p.code ∙ rw h.exit refl; new = refl; counted = rw (even, used) refl } in
    let after_code : after_all (inside segments (begun p)) (map Code p.code ++ map entry_statement p.entries) ≡ inside segments p =
    all_after (inside segments (begun p)) (map Code p.code) (map entry_statement p.entries) ∙ ap (λ r. after_all r (map entry_statement p.entries)) code.1
    ∙ table.1 in
    let body : AreFit (inside segments (begun p)) (map Code p.code ++ map entry_statement p.entries) =
    fit_append (inside segments (begun p)) (map Code p.code) (map entry_statement p.entries) code.0 (rw code.1 table.0) in
    let whole : AreFit (inside segments (begun p)) ((map Code p.code ++ map entry_statement p.entries) ++ End ∷ []) =
    fit_append (inside segments (begun p)) (map Code p.code ++ map entry_statement p.entries) (End ∷ []) body (rw after_code (last, tt)) in (
      (first, whole),
      all_after (inside segments (begun p)) (map Code p.code ++ map entry_statement p.entries) (End ∷ []) ∙ ap (λ r. after r End) after_code
          ∙ ap outside (last_with done s p),
    )

procedures_fit : (done : List SourceSegment) (s : SourceSegment) (ps : List Source) (n : ℕ) → n ≡ length s.procedures + 1 → AllByRecursion IsSource ps
    → AreFit (outside (done ++ s ∷ [])) (statements_from n ps) × (after_all (outside (done ++ s ∷ [])) (statements_from n ps)
    ≡ outside (done ++ record s { procedures = s.procedures ++ ps } ∷ []))
procedures_fit done s [] n e h = (tt, ap (λ qs. outside (done ++ record s { procedures = qs } ∷ [])) (sym (append_nil s.procedures)))
procedures_fit done s (p ∷ ps) n e h =
    let longer : SourceSegment = record s { procedures = s.procedures ++ p ∷ [] } in
    let here = procedure_fits done s p n e h.0 in
    let more = procedures_fit done longer ps (n + 1) (grind (arith, common_steps)) h.1 in
    let r : Reading = outside (done ++ s ∷ []) in
    let regrouped : (head_statements n p ++ End ∷ []) ++ statements_from (n + 1) ps ≡ head_statements n p ++ End ∷ statements_from (n + 1) ps =
    append_assoc (head_statements n p) (End ∷ []) (statements_from (n + 1) ps) in (
      subst (AreFit r) regrouped (fit_append r (head_statements n p ++ End ∷ []) (statements_from (n + 1) ps) here.0
          (subst (λ q. AreFit q (statements_from (n + 1) ps)) (sym here.1) more.0)),
      ap (after_all r) (sym regrouped) ∙ all_after r (head_statements n p ++ End ∷ []) (statements_from (n + 1) ps)
          ∙ ap (λ q. after_all q (statements_from (n + 1) ps)) here.1 ∙ more.1
          ∙ ap (λ qs. outside (done ++ record s { procedures = qs } ∷ [])) (append_assoc s.procedures (p ∷ []) ps),
    )

pub any_number : (ss : List SourceSegment) (n : ℕ) → list_any (λ s. s.number == n) ss ≡ list_any (λ m. nat_eq m n) (map (λ s. s.number) ss)
any_number [] n = refl
any_number (s ∷ ss) n = ap (λ b. (s.number == n) || b) (any_number ss n)

pub map_append : {A B : Type 0} (f : A → B) (xs ys : List A) → map f (xs ++ ys) ≡ map f xs ++ map f ys
map_append f [] ys = refl
map_append f (x ∷ xs) ys = ap (λ zs. f x ∷ zs) (map_append f xs ys)

and_false : (a b : Bool) → b ≡ false → (a && b) ≡ false
and_false true b e = e
and_false false b e = refl

segments_fit : (done ss : List SourceSegment) → IsDistinct nat_eq (map (λ s. s.number) (done ++ ss))
    → AllByRecursion (λ s. AllByRecursion IsSource s.procedures) ss
    → AreFit (outside done) (statements ss) × (after_all (outside done) (statements ss) ≡ outside (done ++ ss))
segments_fit done [] d h = (tt, ap outside (sym (append_nil done)))
segments_fit done (s ∷ ss) d h =
    let empty : SourceSegment = record { number = s.number; name = s.name; procedures = [] } in
    let new : list_any (λ t. t.number == s.number) done ≡ false = any_number done s.number
    ∙ new_among nat_eq (map (λ t. t.number) done) s.number (map (λ t. t.number) ss)
    (subst (IsDistinct nat_eq) (map_append (λ t. t.number) done (s ∷ ss)) d) in
    let first : IsFit (outside done) (Segment s.number s.name) = record { in_place = refl; new = and_false (nat_lt s.number 16) _ new; counted = refl } in
    let inner = procedures_fit done empty s.procedures 1 (omega arith) h.0 in
    let regrouped : (done ++ s ∷ []) ++ ss ≡ done ++ s ∷ ss = append_assoc done (s ∷ []) ss in
    let more = segments_fit (done ++ s ∷ []) ss (rw regrouped d) h.1 in
    let front : List Statement = segment_statements s in
    let here : after_all (outside done) front ≡ outside (done ++ s ∷ []) = inner.1 in
    let fits : AreFit (outside done) front = (first, inner.0) in (
      fit_append (outside done) front (statements ss) fits (subst (λ q. AreFit q (statements ss)) (sym here) more.0),
      all_after (outside done) front (statements ss) ∙ ap (λ r. after_all r (statements ss)) here ∙ more.1 ∙ ap outside regrouped,
    )

-- If segments are sound, then reading their statements has no faults and returns these segments.
pub program_fits : (ss : List SourceSegment) → AreSources ss → AreFit start (statements ss)
    × (after_all start (statements ss) ≡ record { segments = ss; current = None })
program_fits ss h = segments_fit [] ss h.0 h.1
