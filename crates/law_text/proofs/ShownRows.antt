-- Lemmas for the rows that the shown lines of a procedure's code spell. A *row* is the items of a line with an optional
-- label, or the exit.
use Rattle.std.proofs.Common.{◌≡◌, ◌<◌, ◌≤◌, ℕ, ◌^◌, ◌+◌, ◌*◌, Bool, true, false, eqb, List, []}
use Rattle.std.proofs.Common.{◌∷◌, ◌++◌, length, map, refl, sym, ap, subst, ◌∙◌, arith, Some, None}
use Rattle.std.specs.Prelude.{◌==◌, codes, if◌then◌else◌}
use Rattle.std.specs.List.{AllByRecursion}
use Rattle.std.specs.Str.{bytes_eq}
use Rattle.std.proofs.lemmas.Slice.Eq.{bytes_eq-Decides}
use Rattle.std.proofs.lemmas.Bool.{eqb-true}
use Rattle.std.proofs.lemmas.Bool.Decides.{nat_tests}
use Rattle.pm_opcode.specs.Spelling.{pad_byte, flip, is_odd}
use Rattle.pm_code.specs.Item.{Item, size}
use Rattle.pm_code.specs.Item.Item.{Plain, Jump, Case, OneByte}
use Rattle.pm_code.specs.Program.{is_among, IsIn, boundaries, end_of, AreItems}
use Rattle.pm_code.specs.Shown.{label_text, shown_item, put_if, lines_at, code_lines}
use Rattle.pm_source.specs.Source.{Name, Row, Statement, code_end, items_of}
use Rattle.pm_source.specs.Source.Row.{Items, Exit}
use Rattle.pm_source.specs.Source.Statement.{Code}
use Rattle.pm_source.specs.Line.{line_of}
use Rattle.pm_source.specs.Line.Flaw.{NoFlaw}
use Rattle.pm_source.specs.Line.Line.{Says}
use Rattle.pm_source.specs.Faults.{lines_from, place_of}
use Rattle.pm_source.specs.Meaning.{AreSaid}
use Rattle.law_text.proofs.Numbers.{same_label}
use Rattle.law_text.proofs.Mnemonics.{or_false}
use Rattle.law_text.proofs.Quoting.{same_count}
use Rattle.law_text.proofs.SpokenLines.{labelled_item, IsWritableItem, item_line, label_line, exit_line}

abbrev pub next_if : Bool → ℕ → ℕ
next_if b n = if b then n + 1 else n

abbrev pub rows_at : ℕ → List ℕ → ℕ → ℕ → List Row → List Row
rows_at n used exit at rest = put_if (is_among used at) (Items n (Some (label_text at)) []) (put_if (exit == at) Exit rest)

-- Returns the number of the line after the lines for the label and the exit at an offset.
abbrev pub line_behind : ℕ → List ℕ → ℕ → ℕ → ℕ
line_behind n used exit at = next_if (exit == at) (next_if (is_among used at) n)

-- Returns the rows of the items, with lines numbered from `n` on.
abbrev pub rows_of : ℕ → List ℕ → ℕ → ℕ → List (Item ℕ) → List Row
rows_of n used exit at [] = rows_at n used exit at []
rows_of n used exit at (item ∷ items) =
    rows_at n used exit at (Items (line_behind n used exit at) None (labelled_item item ∷ [])
    ∷ rows_of (line_behind n used exit at + 1) used exit (at + size at item) items)

-- The texts spell the statements `said`, as lines numbered from `n` on.
abbrev pub Show : ℕ → List (List ℕ) → List Statement → Type 0
Show n texts said = AreSaid (lines_from n texts) said

pub shows : (n : ℕ) (text : List ℕ) (s : Statement) (texts : List (List ℕ)) (said : List Statement) → line_of n text ≡ Says s NoFlaw → Show (n + 1) texts said
    → Show n (text ∷ texts) (s ∷ said)
shows n text s texts said e h = subst (λ line. AreSaid (line ∷ lines_from (n + 1) texts) (s ∷ said)) (sym e) (refl, (refl, h))

shows_if : (b : Bool) (n : ℕ) (text : List ℕ) (row : Row) (texts : List (List ℕ)) (rows : List Row) (said : List Statement)
    → line_of n text ≡ Says (Code row) NoFlaw → Show (next_if b n) texts (map Code rows ++ said)
    → Show n (put_if b text texts) (map Code (put_if b row rows) ++ said)
shows_if true n text row texts rows said e h = shows n text (Code row) texts (map Code rows ++ said) e h
shows_if false n text row texts rows said e h = h

shows_at : (n : ℕ) (used : List ℕ) (exit at : ℕ) (texts : List (List ℕ)) (rows : List Row) (said : List Statement) → at < 100000
    → Show (line_behind n used exit at) texts (map Code rows ++ said) → Show n (lines_at used exit at texts) (map Code (rows_at n used exit at rows) ++ said)
shows_at n used exit at texts rows said l h =
    shows_if (is_among used at) n (label_text at ++ 58 ∷ []) (Items n (Some (label_text at)) []) (put_if (exit == at) (codes ".EXIT") texts)
    (put_if (exit == at) Exit rows) said (label_line n at l)
    (shows_if (exit == at) (next_if (is_among used at) n) (codes ".EXIT") Exit texts rows said (exit_line (next_if (is_among used at) n)) h)

-- Returns the number of the line after the code.
abbrev pub line_after : ℕ → List ℕ → ℕ → ℕ → List (Item ℕ) → ℕ
line_after n used exit at [] = line_behind n used exit at
line_after n used exit at (item ∷ items) = line_after (line_behind n used exit at + 1) used exit (at + size at item) items

-- Returns the shown lines of the items, followed by the lines `rest`.
abbrev pub lines_then : List ℕ → ℕ → ℕ → List (Item ℕ) → List (List ℕ) → List (List ℕ)
lines_then used exit at [] rest = lines_at used exit at rest
lines_then used exit at (item ∷ items) rest = lines_at used exit at ((32 ∷ 32 ∷ shown_item item) ∷ lines_then used exit (at + size at item) items rest)

pub end_above : (at : ℕ) (items : List (Item ℕ)) → at ≤ end_of at items
end_above at [] = omega arith
end_above at (item ∷ items) = omega (arith, end_above (at + size at item) items)

pub shows_code : (n : ℕ) (used : List ℕ) (exit at : ℕ) (items : List (Item ℕ)) (texts : List (List ℕ)) (said : List Statement) → AreItems at items
    → AllByRecursion IsWritableItem items → end_of at items < 100000
    → Show (line_after n used exit at items) texts said → Show n (lines_then used exit at items texts) (map Code (rows_of n used exit at items) ++ said)
shows_code n used exit at [] texts said h w l s = shows_at n used exit at texts [] said l s
shows_code n used exit at (item ∷ items) texts said h w l s =
    let m : ℕ = line_behind n used exit at in
    let more : List Row = rows_of (m + 1) used exit (at + size at item) items in
    let rest : Show (m + 1) (lines_then used exit (at + size at item) items texts) (map Code more ++ said) =
    shows_code (m + 1) used exit (at + size at item) items texts said h.1 w.1 l s in
    shows_at n used exit at ((32 ∷ 32 ∷ shown_item item) ∷ lines_then used exit (at + size at item) items texts)
    (Items m None (labelled_item item ∷ []) ∷ more) said (omega (arith, end_above (at + size at item) items, l))
    (shows m (32 ∷ 32 ∷ shown_item item) (Code (Items m None (labelled_item item ∷ []))) (lines_then used exit (at + size at item) items texts)
    (map Code more ++ said) (item_line m at item h.0 w.0) rest)

put_then : {A : Type 0} (b : Bool) (x : A) (xs ys : List A) → put_if b x xs ++ ys ≡ put_if b x (xs ++ ys)
put_then true x xs ys = refl
put_then false x xs ys = refl

at_then : (used : List ℕ) (exit at : ℕ) (xs ys : List (List ℕ)) → lines_at used exit at xs ++ ys ≡ lines_at used exit at (xs ++ ys)
at_then used exit at xs ys =
    put_then (is_among used at) (label_text at ++ 58 ∷ []) (put_if (exit == at) (codes ".EXIT") xs) ys
    ∙ ap (put_if (is_among used at) (label_text at ++ 58 ∷ [])) (put_then (exit == at) (codes ".EXIT") xs ys)

pub code_then : (used : List ℕ) (exit at : ℕ) (items : List (Item ℕ)) (texts : List (List ℕ))
    → code_lines used exit at items ++ texts ≡ lines_then used exit at items texts
code_then used exit at [] texts = at_then used exit at [] texts
code_then used exit at (item ∷ items) texts =
    at_then used exit at ((32 ∷ 32 ∷ shown_item item) ∷ code_lines used exit (at + size at item) items) texts
    ∙ ap (λ ls. lines_at used exit at ((32 ∷ 32 ∷ shown_item item) ∷ ls)) (code_then used exit (at + size at item) items texts)

-- Rows for a label or for the exit do not change the items of the rows after them.
same_items : (b c : Bool) (n : ℕ) (name : Name) (rows : List Row) → items_of (put_if b (Items n (Some name) []) (put_if c Exit rows)) ≡ items_of rows
same_items true true n name rows = refl
same_items true false n name rows = refl
same_items false true n name rows = refl
same_items false false n name rows = refl

pub rows_items : (n : ℕ) (used : List ℕ) (exit at : ℕ) (items : List (Item ℕ)) → items_of (rows_of n used exit at items) ≡ map labelled_item items
rows_items n used exit at [] = same_items (is_among used at) (exit == at) n (label_text at) []
rows_items n used exit at (item ∷ items) =
    let m : ℕ = line_behind n used exit at in
    let rest : List Row = Items m None (labelled_item item ∷ []) ∷ rows_of (m + 1) used exit (at + size at item) items in
    same_items (is_among used at) (exit == at) n (label_text at) rest
    ∙ ap (λ is. labelled_item item ∷ is) (rows_items (m + 1) used exit (at + size at item) items)

pub same_size : (at : ℕ) (item : Item ℕ) → size at (labelled_item item) ≡ size at item
same_size at (Plain i named) = refl
same_size at (Jump op target) = refl
same_size at (Case low high otherwise places) = ap (λ k. 7 + length (pad_byte (flip (is_odd at)) 0) + 2 * k) (same_count places)
same_size at (OneByte b) = refl

same_end : (b c : Bool) (n at : ℕ) (name : Name) (rows : List Row) → code_end at (put_if b (Items n (Some name) []) (put_if c Exit rows)) ≡ code_end at rows
same_end true true n at name rows = refl
same_end true false n at name rows = refl
same_end false true n at name rows = refl
same_end false false n at name rows = refl

-- The rows end where the items end, for any offset `from` at which the rows begin.
pub rows_end : (n : ℕ) (used : List ℕ) (exit at from : ℕ) (items : List (Item ℕ)) → code_end from (rows_of n used exit at items) ≡ end_of from items
rows_end n used exit at from [] = same_end (is_among used at) (exit == at) n from (label_text at) []
rows_end n used exit at from (item ∷ items) =
    let m : ℕ = line_behind n used exit at in
    let more : List Row = rows_of (m + 1) used exit (at + size at item) items in
    same_end (is_among used at) (exit == at) n from (label_text at) (Items m None (labelled_item item ∷ []) ∷ more)
    ∙ ap (λ k. code_end (from + k) more) (same_size from item)
    ∙ rows_end (m + 1) used exit (at + size at item) (from + size from item) items

pub positive : (at : ℕ) (item : Item ℕ) → 1 ≤ size at item
positive at (Plain i named) = omega arith
positive at (Jump op target) = omega arith
positive at (Case low high otherwise places) = omega arith
positive at (OneByte b) = omega arith

pub other_label : (m n : ℕ) → m < 2 ^ 64 → n < 2 ^ 64 → (m == n) ≡ false → bytes_eq (label_text m) (label_text n) ≡ false
other_label m n h k e = go (bytes_eq (label_text m) (label_text n)) refl
  where
    go : (b : Bool) → bytes_eq (label_text m) (label_text n) ≡ b → b ≡ false
    go false t = refl
    go true t = absurd (let same : m ≡ n = same_label m n h k ((bytes_eq-Decides (label_text m) (label_text n)).0 t) in differ same e)
      where
        differ : m ≡ n → (m == n) ≡ false → ⊥
        differ s e = grind (arith, nat_tests)

place_here : (n : ℕ) (used : List ℕ) (exit at : ℕ) (rows : List Row) (q : ℕ) → IsIn used q → at ≡ q
    → place_of at (rows_at n used exit at rows) (label_text q) ≡ Some q
place_here n used exit at rows q u e =
    let there : is_among used at ≡ true = ap (is_among used) e ∙ u in
    let same : bytes_eq (label_text at) (label_text q) ≡ true = (bytes_eq-Decides (label_text at) (label_text q)).1 (ap label_text e) in
    rw there (rw same (ap Some e))

-- If `label` and `name` are different, then a row with `label` does not change the offset of `name`.
passed : (b c : Bool) (n at : ℕ) (label name : Name) (rows : List Row) → bytes_eq label name ≡ false
    → place_of at (put_if b (Items n (Some label) []) (put_if c Exit rows)) name ≡ place_of at rows name
passed true true n at label name rows e = rw e refl
passed true false n at label name rows e = rw e refl
passed false true n at label name rows e = refl
passed false false n at label name rows e = refl

place_passed : (n : ℕ) (used : List ℕ) (exit at : ℕ) (rows : List Row) (q : ℕ) → at < 2 ^ 64 → q < 2 ^ 64 → (at == q) ≡ false
    → place_of at (rows_at n used exit at rows) (label_text q) ≡ place_of at rows (label_text q)
place_passed n used exit at rows q l k e = passed (is_among used at) (exit == at) n at (label_text at) (label_text q) rows (other_label at q l k e)

-- A label leads to its own offset.
pub place_of_label : (n : ℕ) (used : List ℕ) (exit at : ℕ) (items : List (Item ℕ)) (q : ℕ) → IsIn used q → IsIn (boundaries at items) q
    → end_of at items < 2 ^ 64 → q < 2 ^ 64 → place_of at (rows_of n used exit at items) (label_text q) ≡ Some q
place_of_label n used exit at [] q u i l k = go (eqb at q) refl
  where
    go : (b : Bool) → eqb at q ≡ b → place_of at (rows_of n used exit at []) (label_text q) ≡ Some q
    go true e = place_here n used exit at [] q u (eqb-true _ _ e)
    go false e = absurd (let f : false ≡ true = or_false (at == q) false e i in cc)
place_of_label n used exit at (item ∷ items) q u i l k =
    let m : ℕ = line_behind n used exit at in
    go (eqb at q) refl (λ rest. place_of_label (m + 1) used exit (at + size at item) items q u rest l k)
  where
    go : (b : Bool) → eqb at q ≡ b
        → (IsIn (boundaries (at + size at item) items) q → place_of (at + size at item)
        (rows_of (line_behind n used exit at + 1) used exit (at + size at item) items) (label_text q) ≡ Some q)
        → place_of at (rows_of n used exit at (item ∷ items)) (label_text q) ≡ Some q
    go true e f = place_here n used exit at (Items (line_behind n used exit at) None (labelled_item item ∷ [])
        ∷ rows_of (line_behind n used exit at + 1) used exit (at + size at item) items) q u (eqb-true _ _ e)
    go false e f =
        let m : ℕ = line_behind n used exit at in
        let more : List Row = rows_of (m + 1) used exit (at + size at item) items in
        place_passed n used exit at (Items m None (labelled_item item ∷ []) ∷ more) q (omega (arith, end_above (at + size at item) items, l)) k e
        ∙ ap (λ k. place_of (at + k) more (label_text q)) (same_size at item)
        ∙ f (or_false (at == q) (is_among (boundaries (at + size at item) items) q) e i)
