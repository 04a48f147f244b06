-- The labels of statements in blocks are marked item by item and line by line.
use Rattle.std.proofs.Common.{◌≡◌, ◌≤◌, ℕ, Bool, false, List, [], ◌∷◌, ◌++◌, append_assoc, drop, length, map, refl, sym, ap, ◌∙◌}
use Rattle.std.specs.Prelude.{◌||◌}
use Rattle.std.proofs.lemmas.List.{drop_all}
use Rattle.pm_code.specs.Item.{Item}
use Rattle.pm_code.specs.Program.{Procedure, code_end, is_among}
use Rattle.pm_phrases.specs.Shown.{Shown}
use Rattle.pm_trees.specs.declared.left.Left.{Left}
use Rattle.pm_trees.specs.declared.line.Line.{Line}
use Rattle.pm_trees.specs.declared.line.Word.{Word}
use Rattle.pm_trees.specs.Parts.{place_at}
use Rattle.pm_statements.specs.BlockLabels.{case_places, first_places, line_places, relabelled, shown_places, table_places}
use Rattle.pm_statements.specs.BlockLines.{block_lines, calls_at, statements_at}
use Rattle.pm_statements.specs.Bodies.{blocks_text}
use Rattle.pm_statements.specs.Marks.{AreMarked, Marks, has}
use Rattle.pm_statements.specs.Texts.{place_lines}
use Rattle.pm_statements.proofs.Marked.{among_joined, or_assoc, or_false}

-- If the offsets `first` were marked, then marking `others` gives the same set as marking `first ++ others` before.
more_places : (first others : List ℕ) (p : ℕ) (new old : Bool) → new ≡ (old || is_among first p)
    → (new || is_among others p) ≡ (old || is_among (first ++ others) p)
more_places first others p new old e =
    ap (λ b. b || is_among others p) e
    ∙ or_assoc old (is_among first p) (is_among others p)
    ∙ ap (λ b. old || b) (sym (among_joined first others p))

-- If the offsets of `item` were marked, then marking those of `items` gives the same set as marking those of `item ∷
-- items`.
pub table_step : (item : Item ℕ) (items : List (Item ℕ)) (p : ℕ) (new old : Bool) → new ≡ (old || is_among (case_places item) p)
    → (new || is_among (table_places items) p) ≡ (old || is_among (table_places (item ∷ items)) p)
table_step item items p new old e = more_places (case_places item) (table_places items) p new old e

pub tables_done : {A : Type 0} → (f : A → Item ℕ) (items : List A) (i p : ℕ) (now whole : Bool) → length items ≤ i
    → (now || is_among (table_places (map f (drop i items))) p) ≡ whole → now ≡ whole
tables_done f items i p now whole high e =
    sym (or_false now) ∙ sym (ap (λ l. now || is_among (table_places (map f l)) p) (drop_all i items high)) ∙ e

-- If the offsets of the line `x` were marked, then marking those of `xs` gives the same set as marking those of `x ∷
-- xs`.
pub line_step : (x : Line) (xs now : List Line) (ls rest : List Left) (p : ℕ) (new old : Bool) → now ≡ x ∷ xs
    → new ≡ (old || is_among (first_places x.word ls) p) → rest ≡ drop (statements_at x.word) ls
    → (new || is_among (line_places xs rest) p) ≡ (old || is_among (line_places now ls) p)
unfolding line_places
line_step x xs now ls rest p new old a e f =
    ap (λ r. new || is_among (line_places xs r) p) f
    ∙ more_places (first_places x.word ls) (line_places xs (drop (statements_at x.word) ls)) p new old e
    ∙ ap (λ l. old || is_among (line_places l ls) p) (sym a)

pub lines_done : (xs : List Line) (ls : List Left) (p : ℕ) (now whole : Bool) → xs ≡ []
    → (now || is_among (line_places xs ls) p) ≡ whole → now ≡ whole
unfolding line_places
lines_done xs ls p now whole a e = sym (or_false now) ∙ sym (ap (λ l. now || is_among (line_places l ls) p) a) ∙ e

-- If labels are added to or removed from statements, the line of a call remains the line of a call.
pub calls_labelled : (labelled : ℕ → Bool) (w : Word) (ls : List Left) → calls_at w ls ≡ calls_at w (map (relabelled labelled) ls)
calls_labelled labelled w [] = refl
calls_labelled labelled w (l ∷ ls) = refl

-- If `marks` has exactly the offsets `used`, then both give the statements the same labels.
pub labels_known : (marks : Marks) (used : List ℕ) (ls : List Left) → AreMarked marks used
    → map (relabelled (has marks)) ls ≡ map (relabelled (is_among used)) ls
labels_known marks used [] h = refl
labels_known marks used (l ∷ ls) h =
    ap (λ (b : Bool). record {
      leaves = l.leaves;
      place = record { offset = l.place.offset; has_label = b; is_exit = l.place.is_exit };
      parts = l.parts;
      role = l.role;
    } ∷ map (relabelled (has marks)) ls) (h l.place.offset)
    ∙ ap (λ x. relabelled (is_among used) l ∷ x) (labels_known marks used ls h)

-- If the lines of the blocks are appended to a text, and then the lines for the end of the code, then `blocks_text` is
-- appended.
pub text_known : (q : Procedure) (xs : List Line) (ls : List Left) (ss : List Shown) (marks : Marks) (end : ℕ) (old middle new : List ℕ)
    → AreMarked marks (shown_places q xs ls) → end ≡ code_end q
    → middle ≡ old ++ block_lines 0 false xs (map (relabelled (has marks)) ls) ss
    → new ≡ middle ++ place_lines (place_at (shown_places q xs ls) q.exit end) → new ≡ old ++ blocks_text q xs ls ss
text_known q xs ls ss marks end old middle new h a e f =
    let shown : List Left = map (relabelled (has marks)) ls in
    f
    ∙ ap (λ (n : ℕ). middle ++ place_lines (place_at (shown_places q xs ls) q.exit n)) a
    ∙ ap (λ t. t ++ place_lines (place_at (shown_places q xs ls) q.exit (code_end q))) e
    ∙ append_assoc old (block_lines 0 false xs shown ss) (place_lines (place_at (shown_places q xs ls) q.exit (code_end q)))
    ∙ ap (λ l. old ++ (block_lines 0 false xs l ss ++ place_lines (place_at (shown_places q xs ls) q.exit (code_end q))))
    (labels_known marks (shown_places q xs ls) ls h)
