-- Lemmas: the shown lines of a procedure spell a procedure with labels that means this procedure.
use Rattle.std.proofs.Common.{◌≡◌, ◌<◌, ◌≤◌, ℕ, ◌+◌, ◌*◌, ◌%◌, Bool, true, false, eqb, List, [], ◌∷◌}
use Rattle.std.proofs.Common.{◌++◌, length, map, refl, sym, ap, subst, ◌∙◌, arith, Some, append_assoc}
use Rattle.std.specs.Prelude.{◌||◌, ◌==◌, max, codes}
use Rattle.std.specs.List.{AllByRecursion, AllZip}
use Rattle.std.specs.Fmt.{decimal}
use Rattle.std.proofs.lemmas.Bool.{eqb-true}
use Rattle.std.proofs.lemmas.Bool.Decides.{nat_tests}
use Rattle.pm_opcode.specs.Spelling.{spelling, pad_byte, flip, is_odd}
use Rattle.pm_code.specs.Item.{Item, IsItem, size}
use Rattle.pm_code.specs.Item.Item.{Plain, Jump, Case, OneByte}
use Rattle.pm_code.specs.Item.Target.{To, Through}
use Rattle.pm_code.specs.Program.{Procedure, IsProcedure, is_among, IsIn, boundaries, end_of, code_end, AreItems}
use Rattle.pm_code.specs.Program.{NamesWithin, item_places, places_of, entries_needed, entries_used}
use Rattle.pm_code.specs.Shown.{label_text, level_text, words_text, named_places, code_lines, entry_line, procedure_lines}
use Rattle.pm_source.specs.Source as source
use Rattle.pm_source.specs.Source.{Name, Row, Source, Statement, IsSource, entry_statement, head_statements}
use Rattle.pm_source.specs.Source.Statement.{Begin, Code, Entry, End}
use Rattle.pm_source.specs.Faults.{Places, place_of}
use Rattle.pm_source.specs.Meaning.{Means, IsNearFrom, AreNear, MeansProcedure}
use Rattle.law_text.proofs.SpokenLines.{labelled_item, IsWritableItem, jump_entry_line, begin_line, end_line}
use Rattle.law_text.proofs.ShownRows.{rows_of, Show, shows, line_after, lines_then, shows_code, code_then, rows_items, rows_end, place_of_label, end_above}
use Rattle.law_text.proofs.ShownExits.{exit_stands, one_exit, labels_distinct}

-- The procedure `p` is valid, and its code ends before the offset 100,000.
pub record IsWhole (p : Procedure) : Type 0 where
  pub procedure : IsProcedure p
  pub short : code_end p < 100000

abbrev pub shown_entries : ℕ → List ℕ → List (ℕ × Name)
shown_entries n [] = []
shown_entries n (place ∷ places) = (n, label_text place) ∷ shown_entries (n + 1) places

abbrev pub entries_after : ℕ → List ℕ → ℕ
entries_after n [] = n
entries_after n (place ∷ places) = entries_after (n + 1) places

abbrev pub used_of : Procedure → List ℕ
used_of p = named_places p.items ++ p.entries

-- Returns the number of the line after the code of `p`, if the first line of `p` has the number `n`.
abbrev pub entries_at : ℕ → Procedure → ℕ
entries_at n p = line_after (n + 1) (used_of p) p.exit p.start p.items

abbrev pub shown_source : ℕ → Procedure → Source
shown_source n p =
    record {
      level = p.level;
      parameters = p.parameters;
      locals = p.locals;
      code = rows_of (n + 1) (used_of p) p.exit p.start p.items;
      entries = shown_entries (entries_at n p) p.entries;
    }

abbrev pub procedure_after : ℕ → Procedure → ℕ
procedure_after n p = entries_after (entries_at n p) p.entries + 1

abbrev pub IsLow : ℕ → Type 0
IsLow place = place < 100000

shows_entries : (n : ℕ) (places : List ℕ) (texts : List (List ℕ)) (said : List Statement) → AllByRecursion IsLow places
    → Show (entries_after n places) texts said → Show n (map entry_line places ++ texts) (map entry_statement (shown_entries n places) ++ said)
shows_entries n [] texts said h s = s
shows_entries n (place ∷ places) texts said h s =
    shows n (entry_line place) (Entry n (label_text place)) (map entry_line places ++ texts) (map entry_statement (shown_entries (n + 1) places) ++ said)
    (jump_entry_line n place h.0) (shows_entries (n + 1) places texts said h.1 s)

-- If `q` is a boundary of the items, then it is at most the offset at which the items end.
within : (at : ℕ) (items : List (Item ℕ)) (q : ℕ) → IsIn (boundaries at items) q → q ≤ end_of at items
within at [] q h = go (eqb at q) refl h
  where
    go : (b : Bool) → eqb at q ≡ b → (b || false) ≡ true → q ≤ at
    go true e k = omega (arith, eqb-true _ _ e)
    go false e k = absurd (cc)
within at (item ∷ items) q h = go (eqb at q) refl h (within (at + size at item) items q)
  where
    go : (b : Bool) → eqb at q ≡ b → (b || is_among (boundaries (at + size at item) items) q) ≡ true
        → (IsIn (boundaries (at + size at item) items) q → q ≤ end_of (at + size at item) items) → q ≤ end_of (at + size at item) items
    go true e k f = omega (arith, eqb-true _ _ e, end_above (at + size at item) items)
    go false e k f = f k

pub all_append : (P : ℕ → Type 0) (xs ys : List ℕ) → AllByRecursion P xs → AllByRecursion P ys → AllByRecursion P (xs ++ ys)
all_append P [] ys h k = k
all_append P (x ∷ xs) ys h k = (h.0, all_append P xs ys h.1 k)

pub all_front : (P : ℕ → Type 0) (xs ys : List ℕ) → AllByRecursion P (xs ++ ys) → AllByRecursion P xs
all_front P [] ys h = tt
all_front P (x ∷ xs) ys h = (h.0, all_front P xs ys h.1)

pub all_back : (P : ℕ → Type 0) (xs ys : List ℕ) → AllByRecursion P (xs ++ ys) → AllByRecursion P ys
all_back P [] ys h = h
all_back P (x ∷ xs) ys h = all_back P xs ys h.1

all_mapped : (P Q : ℕ → Type 0) (xs : List ℕ) → ((q : ℕ) → P q → Q q) → AllByRecursion P xs → AllByRecursion Q xs
all_mapped P Q [] f h = tt
all_mapped P Q (x ∷ xs) f h = (f x h.0, all_mapped P Q xs f h.1)

or_left : (a b : Bool) → a ≡ true → (a || b) ≡ true
or_left true b e = refl
or_left false b e = absurd (cc)

or_right : (a b : Bool) → b ≡ true → (a || b) ≡ true
or_right true b e = refl
or_right false b e = e

all_among : (xs : List ℕ) → AllByRecursion (IsIn xs) xs
all_among [] = tt
all_among (x ∷ xs) =
    (or_left (eqb x x) (is_among xs x) (same x), all_mapped (IsIn xs) (IsIn (x ∷ xs)) xs (λ q h. or_right (eqb x q) (is_among xs q) h) (all_among xs))
  where
    same : (x : ℕ) → eqb x x ≡ true
    same x = grind (arith, nat_tests)

all_both : (P Q : ℕ → Type 0) (xs : List ℕ) → AllByRecursion P xs → AllByRecursion Q xs → AllByRecursion (λ q. P q × Q q) xs
all_both P Q [] h k = tt
all_both P Q (x ∷ xs) h k = ((h.0, k.0), all_both P Q xs h.1 k.1)

named_within : (places : List ℕ) (items : List (Item ℕ)) → AllByRecursion (NamesWithin places) items → AllByRecursion (IsIn places) (named_places items)
named_within places [] h = tt
named_within places (item ∷ items) h = all_append (IsIn places) (item_places item) (named_places items) h.0 (named_within places items h.1)

-- The label of the offset `q` leads to `q`.
abbrev pub IsKnown : Places → ℕ → Type 0
IsKnown places q = places (label_text q) ≡ Some q

known_labels : (places : Places) (qs : List ℕ) → AllByRecursion (IsKnown places) qs → AllZip (λ label place. places label ≡ Some place) (map label_text qs) qs
known_labels places [] h = tt
known_labels places (q ∷ qs) h = (h.0, known_labels places qs h.1)

known_item : (places : Places) (item : Item ℕ) → AllByRecursion (IsKnown places) (item_places item) → Means places (labelled_item item) item
known_item places (Plain i named) h = (refl, refl)
known_item places (Jump op (To place)) h = (refl, h.0)
known_item places (Jump op (Through k)) h = (refl, refl)
known_item places (Case low high (To place) qs) h = (refl, (refl, (h.0, known_labels places qs h.1)))
known_item places (Case low high (Through k) qs) h = (refl, (refl, (refl, known_labels places qs h)))
known_item places (OneByte b) h = refl

known_items : (places : Places) (items : List (Item ℕ)) → AllByRecursion (IsKnown places) (named_places items)
    → AllZip (Means places) (map labelled_item items) items
known_items places [] h = tt
known_items places (item ∷ items) h = (
  known_item places item (all_front (IsKnown places) (item_places item) (named_places items) h),
  known_items places items (all_back (IsKnown places) (item_places item) (named_places items) h),
)

known_entries : (places : Places) (n : ℕ) (entries : List ℕ) → AllByRecursion (IsKnown places) entries
    → AllZip (λ e place. places e.1 ≡ Some place) (shown_entries n entries) entries
known_entries places n [] h = tt
known_entries places n (e ∷ entries) h = (h.0, known_entries places (n + 1) entries h.1)

near_item : (at : ℕ) (item : Item ℕ) → IsItem at item → IsNearFrom at item
near_item at (Plain i named) h = tt
near_item at (Jump op (To place)) h = h.2
near_item at (Jump op (Through k)) h = tt
near_item at (Case low high (To place) qs) h = h.near
near_item at (Case low high (Through k) qs) h = tt
near_item at (OneByte b) h = tt

are_near : (at : ℕ) (items : List (Item ℕ)) → AreItems at items → AreNear at items
are_near at [] h = tt
are_near at (item ∷ items) h = (near_item at item h.0, are_near (at + size at item) items h.1)

writable_item : (at : ℕ) (item : Item ℕ) → IsItem at item → AllByRecursion IsLow (item_places item) → IsWritableItem item
writable_item at (Plain i named) h s = tt
writable_item at (Jump op (To place)) h s = s.0
writable_item at (Jump op (Through k)) h s = h.2
writable_item at (Case low high (To place) qs) h s = (s.0, s.1)
writable_item at (Case low high (Through k) qs) h s = (h.near, s)
writable_item at (OneByte b) h s = tt

pub are_writable : (at : ℕ) (items : List (Item ℕ)) → AreItems at items → AllByRecursion IsLow (named_places items) → AllByRecursion IsWritableItem items
are_writable at [] h s = tt
are_writable at (item ∷ items) h s = (
  writable_item at item h.0 (all_front IsLow (item_places item) (named_places items) s),
  are_writable (at + size at item) items h.1 (all_back IsLow (item_places item) (named_places items) s),
)

same_needs : (items : List (Item ℕ)) → entries_needed (map labelled_item items) ≡ entries_needed items
same_needs [] = refl
same_needs (item ∷ items) = ap (λ k. max k (entries_needed (map labelled_item items))) (used item) ∙ ap (max (entries_used item)) (same_needs items)
  where
    used : (item : Item ℕ) → entries_used (labelled_item item) ≡ entries_used item
    used (Plain i named) = refl
    used (Jump op (To place)) = refl
    used (Jump op (Through k)) = refl
    used (Case low high (To place) qs) = refl
    used (Case low high (Through k) qs) = refl
    used (OneByte b) = refl

same_entries : (n : ℕ) (entries : List ℕ) → length (shown_entries n entries) ≡ length entries
same_entries n [] = refl
same_entries n (e ∷ entries) = omega (arith, same_entries (n + 1) entries)

-- If the offset of an item changes by an even number, then the size of the item does not change.
shifted_size : (d at : ℕ) (item : Item ℕ) → d % 2 ≡ 0 → size (d + at) item ≡ size at item
shifted_size d at item e = go item
  where
    parity : is_odd (d + at) ≡ is_odd at
    parity = ap (λ k. k == 1) (same d at e)
      where
        same : (d at : ℕ) → d % 2 ≡ 0 → (d + at) % 2 ≡ at % 2
        same d at e = omega (arith, e)

    go : (item : Item ℕ) → size (d + at) item ≡ size at item
    go (Plain i named) = ap (λ odd. length (spelling odd 0 i named)) parity
    go (Jump op target) = refl
    go (Case low high otherwise qs) = ap (λ odd. 7 + length (pad_byte (flip odd) 0) + 2 * length qs) parity
    go (OneByte b) = refl

shifted_end : (d at : ℕ) (items : List (Item ℕ)) → d % 2 ≡ 0 → end_of (d + at) items ≡ d + end_of at items
shifted_end d at [] e = refl
shifted_end d at (item ∷ items) e =
    ap (λ k. end_of k items) (next d at (size (d + at) item) (size at item) (shifted_size d at item e)) ∙ shifted_end d (at + size at item) items e
  where
    next : (d at m n : ℕ) → m ≡ n → d + at + m ≡ d + (at + n)
    next d at m n e = omega (arith, e)

-- Each offset that a label of `p` names is a boundary in the code of `p`.
used_within : (p : Procedure) → IsWhole p → AllByRecursion (IsIn (places_of p)) (used_of p)
used_within p w = all_append (IsIn (places_of p)) (named_places p.items) p.entries (named_within (places_of p) p.items w.procedure.jumps) w.procedure.entries

pub used_low : (p : Procedure) → IsWhole p → AllByRecursion IsLow (used_of p)
used_low p w = all_mapped (IsIn (places_of p)) IsLow (used_of p) (λ q h. omega (arith, within p.start p.items q h, w.short)) (used_within p w)

used_known : (n : ℕ) (p : Procedure) → IsWhole p → AllByRecursion (IsKnown (place_of p.start (shown_source n p).code)) (used_of p)
used_known n p w =
    all_mapped (λ q. IsIn (used_of p) q × IsIn (places_of p) q) (IsKnown (place_of p.start (shown_source n p).code)) (used_of p)
    (λ q h. place_of_label (n + 1) (used_of p) p.exit p.start p.items q h.0 h.1 (omega (arith, w.short)) (omega (arith, within p.start p.items q h.1, w.short)))
    (all_both (IsIn (used_of p)) (IsIn (places_of p)) (used_of p) (all_among (used_of p)) (used_within p w))

pub source_means : (n : ℕ) (p : Procedure) → IsWhole p → MeansProcedure (shown_source n p) p
source_means n p w =
    let places : Places = place_of p.start (shown_source n p).code in
    let known : AllByRecursion (IsKnown places) (used_of p) = used_known n p w in
    record {
      level = refl;
      parameters = refl;
      locals = refl;
      items = subst (λ is. AllZip (Means places) is p.items) (sym (rows_items (n + 1) (used_of p) p.exit p.start p.items))
          (known_items places p.items (all_front (IsKnown places) (named_places p.items) p.entries known));
      near = are_near p.start p.items w.procedure.items;
      exit = sym (exit_stands (n + 1) (used_of p) p.exit p.start p.items w.procedure.exit);
      entries = known_entries places (entries_at n p) p.entries (all_back (IsKnown places) (named_places p.items) p.entries known);
    }

even_end : (n : ℕ) (p : Procedure) → IsWhole p → source.code_end 0 (shown_source n p).code % 2 ≡ 0
even_end n p w =
    let rows = rows_end (n + 1) (used_of p) p.exit p.start 0 p.items in
    let moved = shifted_end p.start 0 p.items w.procedure.begins in
    ap (λ k. k % 2) rows ∙ even p.start (end_of 0 p.items) w.procedure.begins
    (ap (λ k. k % 2) (sym moved ∙ ap (λ k. end_of k p.items) (nothing p.start)) ∙ w.procedure.ends)
  where
    nothing : (k : ℕ) → k + 0 ≡ k
    nothing k = omega arith

    even : (a b : ℕ) → a % 2 ≡ 0 → (a + b) % 2 ≡ 0 → b % 2 ≡ 0
    even a b e f = omega (arith, e, f)

pub source_sound : (n : ℕ) (p : Procedure) → IsWhole p → IsSource (shown_source n p)
source_sound n p w = record {
  labels = labels_distinct (n + 1) (used_of p) p.exit p.start p.items (omega (arith, w.short));
  exit = one_exit (n + 1) (used_of p) p.exit p.start p.items w.procedure.exit;
  even = even_end n p w;
  used = same_entries (entries_at n p) p.entries ∙ w.procedure.used ∙ sym (same_needs p.items)
      ∙ ap entries_needed (sym (rows_items (n + 1) (used_of p) p.exit p.start p.items));
}

-- The lines of the procedure `p` spell the statements of its head and its code, followed by `End`.
pub shows_procedure : (n k : ℕ) (p : Procedure) (texts : List (List ℕ)) (said : List Statement) → IsWhole p → k < 256 → Show (procedure_after n p) texts said
    → Show n (procedure_lines k p ++ texts) (head_statements k (shown_source n p) ++ End ∷ said)
shows_procedure n k p texts said w l s =
    let used : List ℕ = used_of p in
    let code : List (List ℕ) = code_lines used p.exit p.start p.items in
    let entries : List (List ℕ) = map entry_line p.entries in
    let begin : List ℕ = codes ".PROC" ++ words_text (decimal k ∷ level_text p.level ∷ decimal p.parameters ∷ decimal p.locals ∷ []) in
    let rows : List Row = (shown_source n p).code in
    let m : ℕ = entries_at n p in
    let es : List Statement = map entry_statement (shown_entries m p.entries) in
    let low : AllByRecursion IsLow used = used_low p w in
    let ended : Show (entries_after m p.entries) (codes ".END" ∷ texts) (End ∷ said) =
    shows (entries_after m p.entries) (codes ".END") End texts said (end_line (entries_after m p.entries)) s in
    let tail : Show m (entries ++ codes ".END" ∷ texts) (es ++ End ∷ said) =
    shows_entries m p.entries (codes ".END" ∷ texts) (End ∷ said) (all_back IsLow (named_places p.items) p.entries low) ended in
    let body : Show (n + 1) (lines_then used p.exit p.start p.items (entries ++ codes ".END" ∷ texts)) (map Code rows ++ (es ++ End ∷ said)) =
    shows_code (n + 1) used p.exit p.start p.items (entries ++ codes ".END" ∷ texts) (es ++ End ∷ said) w.procedure.items
    (are_writable p.start p.items w.procedure.items (all_front IsLow (named_places p.items) p.entries low)) w.short tail in
    let texts_join : (code ++ (entries ++ codes ".END" ∷ [])) ++ texts ≡ lines_then used p.exit p.start p.items (entries ++ codes ".END" ∷ texts) =
    append_assoc code (entries ++ codes ".END" ∷ []) texts ∙ ap (λ ls. code ++ ls) (append_assoc entries (codes ".END" ∷ []) texts)
    ∙ code_then used p.exit p.start p.items (entries ++ codes ".END" ∷ texts) in
    let said_join : (map Code rows ++ es) ++ End ∷ said ≡ map Code rows ++ (es ++ End ∷ said) = append_assoc (map Code rows) es (End ∷ said) in
    let whole : Show (n + 1) ((code ++ (entries ++ codes ".END" ∷ [])) ++ texts) ((map Code rows ++ es) ++ End ∷ said) =
    subst (λ ls. Show (n + 1) ls ((map Code rows ++ es) ++ End ∷ said)) (sym texts_join)
    (subst (λ ss. Show (n + 1) (lines_then used p.exit p.start p.items (entries ++ codes ".END" ∷ texts)) ss) (sym said_join) body) in
    shows n begin (Begin k p.level p.parameters p.locals) ((code ++ (entries ++ codes ".END" ∷ [])) ++ texts) ((map Code rows ++ es) ++ End ∷ said)
    (begin_line n k p.level p.parameters p.locals l w.procedure.level w.procedure.parameters.0 w.procedure.parameters.1 w.procedure.locals.0
    w.procedure.locals.1) whole
