-- If all labels of a procedure are found, then the procedure is valid in a program: its labels are at boundaries
-- between its items, and its items are valid.
use Rattle.std.proofs.Common.{◌≡◌, ◌<◌, ◌≤◌, ℕ, ◌+◌, ◌%◌, Bool, true, false, List, [], ◌∷◌, ◌++◌, map, refl, sym, ap, subst, ◌∙◌, arith, Some}
use Rattle.std.specs.Prelude.{max, ◌||◌, ◌==◌, if◌then◌else◌}
use Rattle.std.specs.List.{AllByRecursion, AllZip}
use Rattle.std.proofs.lemmas.Bool.{eq-eqb, eqb-true}
use Rattle.pm_code.specs.Item.{Item, Target, size, table_place, IsItem, IsNear}
use Rattle.pm_code.specs.Item.Item.{Plain, Jump, Case, OneByte}
use Rattle.pm_code.specs.Item.Target.{To, Through}
use Rattle.pm_code.specs.Program.{AreItems, IsIn, IsProcedure, NamesWithin, boundaries, end_of}
use Rattle.pm_code.specs.Program.{entries_needed, entries_used, is_among, item_places, target_places}
use Rattle.pm_source.specs.Source.{Name, Row, Source, code_end, has_label, is_exit, items_of, row_items, IsSource}
use Rattle.pm_source.specs.Faults.{Places, place_of, label_faults}
use Rattle.pm_source.specs.Meaning.{AreNear, IsNearFrom, LeadsTo, Means, MeansProcedure, ReachesFrom}
use Rattle.pm_source.specs.Meaning.{exit_place, found_item, found_label, found_procedure, found_target}
use Rattle.pm_source.proofs.Ends.{found_code_end}
use Rattle.pm_source.proofs.Goods.{IsGood, IsGoodTarget}
use Rattle.pm_source.proofs.Labels.{found_size, labels_found, map_length}
use Rattle.pm_source.proofs.Numerals.{some_is}
use Rattle.pm_source.proofs.Ranged.{IsSize}
use Rattle.pm_source.proofs.Sizes.{code_parity}

or_right : (a b : Bool) → b ≡ true → (a || b) ≡ true
or_right true b e = refl
or_right false b e = e

first_among : (at : ℕ) (items : List (Item ℕ)) → IsIn (boundaries at items) at
first_among at [] = let same : (at == at) ≡ true = eq-eqb at at refl in rw same refl
first_among at (item ∷ items) = let same : (at == at) ≡ true = eq-eqb at at refl in rw same refl

later_among : (places : Places) (at : ℕ) (xs ys : List (Item Name)) (place : ℕ) → IsIn (boundaries (end_of at xs) (map (found_item places) ys)) place
    → IsIn (boundaries at (map (found_item places) (xs ++ ys))) place
later_among places at [] ys place h = h
later_among places at (x ∷ xs) ys place h =
    let rest : List (Item ℕ) = map (found_item places) (xs ++ ys) in
    let more : IsIn (boundaries (at + size at x) rest) place = later_among places (at + size at x) xs ys place h in
    let there : IsIn (boundaries (at + size at (found_item places x)) rest) place =
    subst (λ k. IsIn (boundaries (at + k) rest) place) (sym (found_size places at x)) more in
    or_right (at == place) (is_among (boundaries (at + size at (found_item places x)) rest) place) there

-- If a label has an offset, then the offset is a boundary between items.
place_among : (places : Places) (at : ℕ) (rows : List Row) (name : Name) (place : ℕ) → place_of at rows name ≡ Some place
    → IsIn (boundaries at (map (found_item places) (items_of rows))) place
place_among places at [] name place e = absurd (cc)
place_among places at (row ∷ rows) name place e = by (has_label name row) e (λ f. place_among places (end_of at (row_items row)) rows name place f)
  where
    by : (b : Bool) → (if b then Some at else place_of (end_of at (row_items row)) rows name) ≡ Some place
        → (place_of (end_of at (row_items row)) rows name ≡ Some place
        → IsIn (boundaries (end_of at (row_items row)) (map (found_item places) (items_of rows))) place)
        → IsIn (boundaries at (map (found_item places) (items_of (row ∷ rows)))) place
    by true e more = subst (IsIn (boundaries at (map (found_item places) (items_of (row ∷ rows))))) (some_is at place e)
        (first_among at (map (found_item places) (items_of (row ∷ rows))))
    by false e more = later_among places at (row_items row) (items_of rows) place (more e)

exit_among : (places : Places) (at : ℕ) (rows : List Row) → IsIn (boundaries at (map (found_item places) (items_of rows))) (exit_place at rows)
exit_among places at [] = first_among at []
exit_among places at (row ∷ rows) = by (is_exit row) (exit_among places (end_of at (row_items row)) rows)
  where
    by : (b : Bool) → IsIn (boundaries (end_of at (row_items row)) (map (found_item places) (items_of rows))) (exit_place (end_of at (row_items row)) rows)
        → IsIn (boundaries at (map (found_item places) (items_of (row ∷ rows)))) (if b then at else exit_place (end_of at (row_items row)) rows)
    by true more = first_among at (map (found_item places) (items_of (row ∷ rows)))
    by false more = later_among places at (row_items row) (items_of rows) (exit_place (end_of at (row_items row)) rows) more

end_after : (at : ℕ) (items : List (Item ℕ)) → at ≤ end_of at items
end_after at [] = omega arith
end_after at (item ∷ items) = omega (arith, end_after (at + size at item) items)

-- A boundary between items is not after the end of the items.
among_end : (at : ℕ) (items : List (Item ℕ)) (place : ℕ) → IsIn (boundaries at items) place → place ≤ end_of at items
among_end at [] place h = by (at == place) refl h
  where
    by : (b : Bool) → (at == place) ≡ b → (b || false) ≡ true → place ≤ at
    by true f h = omega (arith, eqb-true at place f)
    by false f h = absurd (cc)
among_end at (item ∷ items) place h = by (at == place) refl h (λ f. among_end (at + size at item) items place f)
  where
    by : (b : Bool) → (at == place) ≡ b → (b || is_among (boundaries (at + size at item) items) place) ≡ true
        → (IsIn (boundaries (at + size at item) items) place → place ≤ end_of (at + size at item) items) → place ≤ end_of (at + size at item) items
    by true f h more = omega (arith, eqb-true at place f, end_after (at + size at item) items)
    by false f h more = more h

-- States that the property `P` is true for the offset of each label.
abbrev EachPlace : Places → (ℕ → Type 0) → Type 0
EachPlace places P = (name : Name) (place : ℕ) → places name ≡ Some place → P place

labels_all : (places : Places) (P : ℕ → Type 0) (labels : List Name) (found : List ℕ) → EachPlace places P
    → AllZip (λ label place. places label ≡ Some place) labels found → AllByRecursion P found
labels_all places P [] [] h z = tt
labels_all places P [] (f ∷ found) h z = absurd z
labels_all places P (label ∷ labels) [] h z = absurd z
labels_all places P (label ∷ labels) (f ∷ found) h z = (h label f z.0, labels_all places P labels found h z.1)

entries_all : (places : Places) (P : ℕ → Type 0) (entries : List (ℕ × Name)) (found : List ℕ) → EachPlace places P
    → AllZip (λ e place. places e.1 ≡ Some place) entries found → AllByRecursion P found
entries_all places P [] [] h z = tt
entries_all places P [] (f ∷ found) h z = absurd z
entries_all places P (e ∷ entries) [] h z = absurd z
entries_all places P (e ∷ entries) (f ∷ found) h z = (h e.1 f z.0, entries_all places P entries found h z.1)

target_near : (places : Places) (next : ℕ) (target : Target Name) → IsGoodTarget target → ReachesFrom next (found_target places target)
    → IsNear next (found_target places target)
target_near places next (To name) g r = r
target_near places next (Through k) g r = g

item_is : (places : Places) (at : ℕ) (item : Item Name) → EachPlace places (λ place. place < 65536) → IsGood item → Means places item (found_item places item)
    → IsNearFrom at (found_item places item) → IsItem at (found_item places item)
item_is places at (Plain i named) h g m n = g
item_is places at (OneByte b) h g m n = g
item_is places at (Jump op target) h g m n = (g.0, g.1, target_near places (at + 2) target g.2 n)
item_is places at (Case low high otherwise labels) h g m n =
    let rest = m.1 in
    let both = rest.1 in
    record {
      least = g.0;
      greatest = g.1;
      near = target_near places (table_place at) otherwise g.2 n;
      within = labels_all places (λ place. place < 65536) labels (map (found_label places) labels) h both.1;
      count = map_length (found_label places) labels ∙ g.3;
    }

items_are : (places : Places) (at : ℕ) (items : List (Item Name)) → EachPlace places (λ place. place < 65536) → AllByRecursion IsGood items
    → AllZip (Means places) items (map (found_item places) items) → AreNear at (map (found_item places) items)
    → AreItems at (map (found_item places) items)
items_are places at [] h g m n = tt
items_are places at (x ∷ xs) h g m n = (item_is places at x h g.0 m.0 n.0, items_are places (at + size at (found_item places x)) xs h g.1 m.1 n.1)

target_all : (places : Places) (P : ℕ → Type 0) (target : Target Name) → EachPlace places P → LeadsTo places target (found_target places target)
    → AllByRecursion P (target_places (found_target places target))
target_all places P (To name) h l = (h name (found_label places name) l, tt)
target_all places P (Through k) h l = tt

all_join : (P : ℕ → Type 0) (xs ys : List ℕ) → AllByRecursion P xs → AllByRecursion P ys → AllByRecursion P (xs ++ ys)
all_join P [] ys h k = k
all_join P (x ∷ xs) ys h k = (h.0, all_join P xs ys h.1 k)

item_within : (places : Places) (P : ℕ → Type 0) (item : Item Name) → EachPlace places P → Means places item (found_item places item)
    → AllByRecursion P (item_places (found_item places item))
item_within places P (Plain i named) h m = tt
item_within places P (OneByte b) h m = tt
item_within places P (Jump op target) h m = target_all places P target h m.1
item_within places P (Case low high otherwise labels) h m =
    let rest = m.1 in
    let both = rest.1 in
    all_join P (target_places (found_target places otherwise)) (map (found_label places) labels) (target_all places P otherwise h both.0)
    (labels_all places P labels (map (found_label places) labels) h both.1)

items_within : (places : Places) (bounds : List ℕ) (items : List (Item Name)) → EachPlace places (IsIn bounds)
    → AllZip (Means places) items (map (found_item places) items) → AllByRecursion (NamesWithin bounds) (map (found_item places) items)
items_within places bounds [] h m = tt
items_within places bounds (x ∷ xs) h m = (item_within places (IsIn bounds) x h m.0, items_within places bounds xs h m.1)

one_used : (places : Places) (item : Item Name) → entries_used (found_item places item) ≡ entries_used item
one_used places (Plain i named) = refl
one_used places (OneByte b) = refl
one_used places (Jump op (To name)) = refl
one_used places (Jump op (Through k)) = refl
one_used places (Case low high (To name) labels) = refl
one_used places (Case low high (Through k) labels) = refl

all_used : (places : Places) (items : List (Item Name)) → entries_needed (map (found_item places) items) ≡ entries_needed items
all_used places [] = refl
all_used places (x ∷ xs) = ap (λ k. max k (entries_needed (map (found_item places) xs))) (one_used places x) ∙ ap (max (entries_used x)) (all_used places xs)

-- States that the values of the procedure `p` of a text are in their ranges.
pub record IsGoodSource (p : Source) : Type 0 where
  pub level : p.level < 256
  pub parameters : IsSize p.parameters
  pub locals : IsSize p.locals
  pub items : AllByRecursion IsGood (items_of p.code)

pub procedure_is : (at : ℕ) (p : Source) → label_faults at p ≡ [] → IsSource p → IsGoodSource p → at % 2 ≡ 0 → code_end at p.code < 65536
    → IsProcedure (found_procedure at p)
procedure_is at p h s g e b =
    let places : Places = place_of at p.code in
    let items : List (Item ℕ) = map (found_item places) (items_of p.code) in
    let m : MeansProcedure p (found_procedure at p) = labels_found at p h in
    let bounds : List ℕ = boundaries at items in
    let ends : end_of at items ≡ code_end at p.code = found_code_end at p in
    let there : EachPlace places (IsIn bounds) = λ name place f. place_among places at p.code name place f in
    let low : EachPlace places (λ place. place < 65536) = λ name place f.
    (let last : place ≤ end_of at items = among_end at items place (there name place f) in omega (arith, last, ends, b)) in
    let zero_even : at % 2 ≡ 0 % 2 = e in
    let even : code_end at p.code % 2 ≡ 0 = code_parity at 0 p.code zero_even ∙ s.even in
    record {
      level = g.level;
      parameters = g.parameters;
      locals = g.locals;
      items = items_are places at (items_of p.code) low g.items m.items m.near;
      jumps = items_within places bounds (items_of p.code) there m.items;
      exit = exit_among places at p.code;
      entries = entries_all places (IsIn bounds) p.entries (map (λ x. found_label places x.1) p.entries) there m.entries;
      used = map_length (λ x. found_label places x.1) p.entries ∙ s.used ∙ sym (all_used places (items_of p.code));
      begins = e;
      ends = ap (λ k. k % 2) ends ∙ even;
    }
