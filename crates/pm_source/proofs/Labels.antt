-- If the labels of a procedure have no faults, then the procedure means a procedure of a program.
use Rattle.std.proofs.Common.{◌≡◌, ℕ, ◌+◌, Bool, true, false, List, [], ◌∷◌, ◌++◌, length, map, refl, sym, ap, subst, ◌∙◌, Option, Some, None}
use Rattle.std.specs.Prelude.{suc, ◌||◌, nat_lt, is_none}
use Rattle.std.specs.List.{AllZip, list_any}
use Rattle.std.specs.Option.{unwrap_or}
use Rattle.std.proofs.lemmas.Bool.{ltb-false}
use Rattle.pm_code.specs.Item.{Item, Target, size, table_place}
use Rattle.pm_code.specs.Item.Item.{Plain, Jump, Case, OneByte}
use Rattle.pm_code.specs.Item.Target.{To, Through}
use Rattle.pm_code.specs.Program.{end_of}
use Rattle.pm_source.specs.declared.fault.AsmFault.{AsmFault}
use Rattle.pm_source.specs.declared.fault.AsmFault.TheVariants.{NoLabel, Far}
use Rattle.pm_source.specs.Source.{Name, Row, items_of}
use Rattle.pm_source.specs.Source.Row.{Items, Exit}
use Rattle.pm_source.specs.Faults.{Places, place_of, only_if, is_unknown_target, is_unknown_label, is_far_place}
use Rattle.pm_source.specs.Faults.{is_far, item_faults, items_faults, code_faults, entries_faults}
use Rattle.pm_source.specs.Meaning.{LeadsTo, Means, ReachesFrom, IsNearFrom, AreNear, found_target, found_label, found_item}
use Rattle.pm_source.specs.Laws.{LabelsFound}

pub both_empty : {A : Type 0} (xs ys : List A) → xs ++ ys ≡ [] → (xs ≡ []) × (ys ≡ [])
both_empty [] ys e = (refl, e)
both_empty (x ∷ xs) ys e = absurd (cc)

pub is_not : (b : Bool) (fault : AsmFault) → only_if b fault ≡ [] → b ≡ false
is_not false fault e = refl
is_not true fault e = absurd (cc)

pub neither : (a b : Bool) → (a || b) ≡ false → (a ≡ false) × (b ≡ false)
neither false b e = (refl, e)
neither true b e = absurd (cc)

-- If two tests report no fault, then both are false.
two_tests : (a b : Bool) (x y : AsmFault) → only_if a x ++ only_if b y ≡ [] → (a ≡ false) × (b ≡ false)
two_tests a b x y e = let parts = both_empty (only_if a x) (only_if b y) e in (is_not a x parts.0, is_not b y parts.1)

-- States that the target has an offset and that a short jump from `next` reaches it.
record FoundTarget (places : Places) (next : ℕ) (target : Target Name) : Type 0 where
  leads : LeadsTo places target (found_target places target)
  near : ReachesFrom next (found_target places target)

known : (places : Places) (name : Name) (found : Option ℕ) → places name ≡ found → is_none found ≡ false → places name ≡ Some (unwrap_or (places name) 0)
known places name None e h = absurd (cc)
known places name (Some place) e h = e ∙ ap (λ o. Some (unwrap_or o 0)) (sym e)

label_known : (places : Places) (name : Name) → is_none (places name) ≡ false → places name ≡ Some (found_label places name)
label_known places name h = known places name (places name) refl h

target_found : (places : Places) (next : ℕ) (target : Target Name) → is_unknown_target places target ≡ false → is_far places next target ≡ false
    → FoundTarget places next target
target_found places next (Through k) h f = record { leads = refl; near = tt }
target_found places next (To name) h f =
    record { leads = label_known places name h; near = reach (unwrap_or (places name) 0) (ap (is_far_place next) (sym (label_known places name h)) ∙ f) }
  where
    reach : (place : ℕ) → is_far_place next (Some place) ≡ false → ReachesFrom next (To place)
    reach place e = let tests = neither (nat_lt place next) (nat_lt (next + 127) place) e in (ltb-false _ _ tests.0, ltb-false _ _ tests.1)

labels_known : (places : Places) (labels : List Name) → list_any (is_unknown_label places) labels ≡ false
    → AllZip (λ label place. places label ≡ Some place) labels (map (found_label places) labels)
labels_known places [] h = tt
labels_known places (label ∷ labels) h =
    let parts = neither (is_unknown_label places label) (list_any (is_unknown_label places) labels) h in
    (label_known places label parts.0, labels_known places labels parts.1)

pub map_length : {A B : Type 0} (f : A → B) (xs : List A) → length (map f xs) ≡ length xs
map_length f [] = refl
map_length f (x ∷ xs) = ap suc (map_length f xs)

-- The size of an item does not depend on the offsets by which its labels are replaced.
pub found_size : (places : Places) (at : ℕ) (item : Item Name) → size at (found_item places item) ≡ size at item
found_size places at (Plain i named) = refl
found_size places at (Jump op target) = refl
found_size places at (Case low high otherwise labels) = rw (map_length (found_label places) labels) refl
found_size places at (OneByte b) = refl

record FoundItem (places : Places) (at : ℕ) (item : Item Name) : Type 0 where
  means : Means places item (found_item places item)
  near : IsNearFrom at (found_item places item)

one_found : (places : Places) (line at : ℕ) (item : Item Name) → item_faults places line at item ≡ [] → FoundItem places at item
one_found places line at (Plain i named) h = record { means = (refl, refl); near = tt }
one_found places line at (OneByte b) h = record { means = refl; near = tt }
one_found places line at (Jump op target) h =
    let tests = two_tests (is_unknown_target places target) (is_far places (at + 2) target) (NoLabel line) (Far line) h in
    let f : FoundTarget places (at + 2) target = target_found places (at + 2) target tests.0 tests.1 in
    record { means = (refl, f.leads); near = f.near }
one_found places line at (Case low high otherwise labels) h =
    let unknown : Bool = list_any (is_unknown_label places) labels in
    let tests = two_tests (is_unknown_target places otherwise || unknown) (is_far places (table_place at) otherwise) (NoLabel line) (Far line) h in
    let names = neither (is_unknown_target places otherwise) unknown tests.0 in
    let f : FoundTarget places (table_place at) otherwise = target_found places (table_place at) otherwise names.0 tests.1 in
    record { means = (refl, (refl, (f.leads, labels_known places labels names.1))); near = f.near }

record FoundItems (places : Places) (at : ℕ) (items : List (Item Name)) : Type 0 where
  mean : AllZip (Means places) items (map (found_item places) items)
  near : AreNear at (map (found_item places) items)

-- If jumps after an item reach their targets, then they do so after the labels of this item are replaced by offsets.
pub near_behind : (places : Places) (at : ℕ) (item : Item Name) (items : List (Item ℕ)) → AreNear (at + size at item) items
    → AreNear (at + size at (found_item places item)) items
near_behind places at item items n = subst (λ k. AreNear (at + k) items) (sym (found_size places at item)) n

some_found : (places : Places) (line at : ℕ) (items : List (Item Name)) → items_faults places line at items ≡ [] → FoundItems places at items
some_found places line at [] h = record { mean = tt; near = tt }
some_found places line at (item ∷ items) h =
    let next : ℕ = at + size at item in
    let parts = both_empty (item_faults places line at item) (items_faults places line next items) h in
    let one : FoundItem places at item = one_found places line at item parts.0 in
    let more : FoundItems places next items = some_found places line next items parts.1 in
    record { mean = (one.means, more.mean); near = (one.near, near_behind places at item (map (found_item places) items) more.near) }

join_found : (places : Places) (at : ℕ) (xs ys : List (Item Name)) → FoundItems places at xs → FoundItems places (end_of at xs) ys
    → FoundItems places at (xs ++ ys)
join_found places at [] ys f g = g
join_found places at (x ∷ xs) ys f g =
    let near : AreNear (at + size at x) (map (found_item places) xs) =
    subst (λ k. AreNear (at + k) (map (found_item places) xs)) (found_size places at x) f.near.1 in
    let more : FoundItems places (at + size at x) (xs ++ ys) = join_found places (at + size at x) xs ys (record { mean = f.mean.1; near = near }) g in
    record { mean = (f.mean.0, more.mean); near = (f.near.0, near_behind places at x (map (found_item places) (xs ++ ys)) more.near) }

code_found : (places : Places) (at : ℕ) (rows : List Row) → code_faults places at rows ≡ [] → FoundItems places at (items_of rows)
code_found places at [] h = record { mean = tt; near = tt }
code_found places at (Exit ∷ rows) h = code_found places at rows h
code_found places at (Items line label items ∷ rows) h =
    let parts = both_empty (items_faults places line at items) (code_faults places (end_of at items) rows) h in
    join_found places at items (items_of rows) (some_found places line at items parts.0) (code_found places (end_of at items) rows parts.1)

entries_found : (places : Places) (entries : List (ℕ × Name)) → entries_faults places entries ≡ []
    → AllZip (λ e place. places e.1 ≡ Some place) entries (map (λ e. found_label places e.1) entries)
entries_found places [] h = tt
entries_found places (e ∷ es) h =
    let parts = both_empty (only_if (is_unknown_label places e.1) (NoLabel e.0)) (entries_faults places es) h in
    (label_known places e.1 (is_not (is_unknown_label places e.1) (NoLabel e.0) parts.0), entries_found places es parts.1)

pub labels_found : LabelsFound
labels_found at p h =
    let places : Places = place_of at p.code in
    let parts = both_empty (code_faults places at p.code) (entries_faults places p.entries) h in
    let items : FoundItems places at (items_of p.code) = code_found places at p.code parts.0 in
    record {
      level = refl;
      parameters = refl;
      locals = refl;
      items = items.mean;
      near = items.near;
      exit = refl;
      entries = entries_found places p.entries parts.1;
    }
