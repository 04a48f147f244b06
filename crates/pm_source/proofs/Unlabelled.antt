-- If a procedure of a text means a procedure of a program, then its labels have no faults, and it means only this
-- procedure.
use Rattle.std.proofs.Common.{◌≡◌, ℕ, ◌+◌, false, ltb, List, [], ◌∷◌, ◌++◌, map, refl, sym, ap, subst, ◌∙◌, Some}
use Rattle.std.specs.Prelude.{◌||◌, is_none}
use Rattle.std.specs.List.{AllZip, list_any}
use Rattle.std.specs.Option.{unwrap_or}
use Rattle.std.proofs.lemmas.Bool.{le-ltb}
use Rattle.pm_code.specs.Item.{Item, Target, size, table_place}
use Rattle.pm_code.specs.Item.Item.{Plain, Jump, Case, OneByte}
use Rattle.pm_code.specs.Item.Target.{To, Through}
use Rattle.pm_code.specs.Program.{Procedure, end_of}
use Rattle.pm_source.specs.declared.fault.AsmFault.TheVariants.{NoLabel}
use Rattle.pm_source.specs.Source.{Name, Row, items_of}
use Rattle.pm_source.specs.Source.Row.{Items, Exit}
use Rattle.pm_source.specs.Faults.{Places, place_of, only_if, is_unknown_target, is_unknown_label, is_far_place}
use Rattle.pm_source.specs.Faults.{is_far, item_faults, items_faults, code_faults, entries_faults}
use Rattle.pm_source.specs.Meaning.{LeadsTo, Means, ReachesFrom, IsNearFrom, AreNear, found_target, found_label, found_item, found_procedure}
use Rattle.pm_source.specs.Laws.{FoundIsFaultless}
use Rattle.pm_source.proofs.Labels.{found_size}

leads_is : (places : Places) (target : Target Name) (found : Target ℕ) → LeadsTo places target found → found_target places target ≡ found
leads_is places (To name) (To place) h = ap (λ o. To (unwrap_or o 0)) h
leads_is places (To name) (Through k) h = absurd h
leads_is places (Through k) (To place) h = absurd h
leads_is places (Through k) (Through j) h = ap Through h

labels_are : (places : Places) (labels : List Name) (found : List ℕ) → AllZip (λ label place. places label ≡ Some place) labels found
    → map (found_label places) labels ≡ found
labels_are places [] [] h = refl
labels_are places [] (f ∷ found) h = absurd h
labels_are places (label ∷ labels) [] h = absurd h
labels_are places (label ∷ labels) (f ∷ found) h =
    let one : found_label places label ≡ f = ap (λ o. unwrap_or o 0) h.0 in let more = labels_are places labels found h.1 in cc

means_is : (places : Places) (item : Item Name) (found : Item ℕ) → Means places item found → found_item places item ≡ found
means_is places (Plain i named) (Plain j bytes) h = let one = h.0 in let more = h.1 in cc
means_is places (Plain i named) (Jump op target) h = absurd h
means_is places (Plain i named) (Case low high otherwise labels) h = absurd h
means_is places (Plain i named) (OneByte b) h = absurd h
means_is places (OneByte b) (OneByte c) h = ap OneByte h
means_is places (OneByte b) (Plain i named) h = absurd h
means_is places (OneByte b) (Jump op target) h = absurd h
means_is places (OneByte b) (Case low high otherwise labels) h = absurd h
means_is places (Jump op target) (Jump code found) h = let one = h.0 in let more = leads_is places target found h.1 in cc
means_is places (Jump op target) (Plain i named) h = absurd h
means_is places (Jump op target) (Case low high otherwise labels) h = absurd h
means_is places (Jump op target) (OneByte b) h = absurd h
means_is places (Case low high otherwise labels) (Case least greatest found places_found) h =
    let below = h.0 in
    let rest = h.1 in
    let above = rest.0 in
    let both = rest.1 in
    let one = leads_is places otherwise found both.0 in
    let more = labels_are places labels places_found both.1 in
    cc
means_is places (Case low high otherwise labels) (Plain i named) h = absurd h
means_is places (Case low high otherwise labels) (Jump op target) h = absurd h
means_is places (Case low high otherwise labels) (OneByte b) h = absurd h

all_is : (places : Places) (items : List (Item Name)) (found : List (Item ℕ)) → AllZip (Means places) items found → map (found_item places) items ≡ found
all_is places [] [] h = refl
all_is places [] (f ∷ found) h = absurd h
all_is places (item ∷ items) [] h = absurd h
all_is places (item ∷ items) (f ∷ found) h = let one = means_is places item f h.0 in let more = all_is places items found h.1 in cc

-- States that a target is defined and that a short jump from `next` reaches it.
record CleanTarget (places : Places) (next : ℕ) (target : Target Name) : Type 0 where
  known : is_unknown_target places target ≡ false
  near : is_far places next target ≡ false

target_clean : (places : Places) (next : ℕ) (target : Target Name) (found : Target ℕ) → LeadsTo places target found → ReachesFrom next found
    → CleanTarget places next target
target_clean places next (Through k) found h r = record { known = refl; near = refl }
target_clean places next (To name) (Through k) h r = absurd h
target_clean places next (To name) (To place) h r = record { known = ap is_none h; near = ap (is_far_place next) h ∙ reach }
  where
    reach : is_far_place next (Some place) ≡ false
    reach =
        let s : ltb place next ≡ false = le-ltb _ _ r.0 in
        let t : ltb (next + 127) place ≡ false = le-ltb _ _ r.1 in
        rw (s, t) refl

labels_clean : (places : Places) (labels : List Name) (found : List ℕ) → AllZip (λ label place. places label ≡ Some place) labels found
    → list_any (is_unknown_label places) labels ≡ false
labels_clean places [] found h = refl
labels_clean places (label ∷ labels) [] h = absurd h
labels_clean places (label ∷ labels) (f ∷ found) h = ap (λ o. is_none o || list_any (is_unknown_label places) labels) h.0 ∙ labels_clean places labels found h.1

item_clean : (places : Places) (line at : ℕ) (item : Item Name) → Means places item (found_item places item) → IsNearFrom at (found_item places item)
    → item_faults places line at item ≡ []
item_clean places line at (Plain i named) h n = refl
item_clean places line at (OneByte b) h n = refl
item_clean places line at (Jump op target) h n =
    let c : CleanTarget places (at + 2) target = target_clean places (at + 2) target (found_target places target) h.1 n in
    rw (c.known, c.near) refl
item_clean places line at (Case low high otherwise labels) h n =
    let rest = h.1 in
    let both = rest.1 in
    let c : CleanTarget places (table_place at) otherwise = target_clean places (table_place at) otherwise (found_target places otherwise) both.0 n in
    let known = labels_clean places labels (map (found_label places) labels) both.1 in
    rw (c.known, c.near, known) refl

record ItemsClean (places : Places) (line at : ℕ) (xs ys : List (Item Name)) : Type 0 where
  faults : items_faults places line at xs ≡ []
  mean : AllZip (Means places) ys (map (found_item places) ys)
  near : AreNear (end_of at xs) (map (found_item places) ys)

items_clean : (places : Places) (line at : ℕ) (xs ys : List (Item Name)) → AllZip (Means places) (xs ++ ys) (map (found_item places) (xs ++ ys))
    → AreNear at (map (found_item places) (xs ++ ys)) → ItemsClean places line at xs ys
items_clean places line at [] ys h n = record { faults = refl; mean = h; near = n }
items_clean places line at (x ∷ xs) ys h n =
    let next : ℕ = at + size at x in
    let near : AreNear next (map (found_item places) (xs ++ ys)) =
    subst (λ k. AreNear (at + k) (map (found_item places) (xs ++ ys))) (found_size places at x) n.1 in
    let more : ItemsClean places line next xs ys = items_clean places line next xs ys h.1 near in
    record {
      faults = ap (λ fs. fs ++ items_faults places line next xs) (item_clean places line at x h.0 n.0) ∙ more.faults;
      mean = more.mean;
      near = more.near;
    }

code_clean : (places : Places) (at : ℕ) (rows : List Row) → AllZip (Means places) (items_of rows) (map (found_item places) (items_of rows))
    → AreNear at (map (found_item places) (items_of rows)) → code_faults places at rows ≡ []
code_clean places at [] h n = refl
code_clean places at (Exit ∷ rows) h n = code_clean places at rows h n
code_clean places at (Items line label items ∷ rows) h n =
    let c : ItemsClean places line at items (items_of rows) = items_clean places line at items (items_of rows) h n in
    ap (λ fs. fs ++ code_faults places (end_of at items) rows) c.faults ∙ code_clean places (end_of at items) rows c.mean c.near

entries_are : (places : Places) (entries : List (ℕ × Name)) (found : List ℕ) → AllZip (λ e place. places e.1 ≡ Some place) entries found
    → map (λ e. found_label places e.1) entries ≡ found
entries_are places [] [] h = refl
entries_are places [] (f ∷ found) h = absurd h
entries_are places (e ∷ es) [] h = absurd h
entries_are places (e ∷ es) (f ∷ found) h =
    let one : found_label places e.1 ≡ f = ap (λ o. unwrap_or o 0) h.0 in let more = entries_are places es found h.1 in cc

entries_clean : (places : Places) (entries : List (ℕ × Name)) (found : List ℕ) → AllZip (λ e place. places e.1 ≡ Some place) entries found
    → entries_faults places entries ≡ []
entries_clean places [] found h = refl
entries_clean places (e ∷ es) [] h = absurd h
entries_clean places (e ∷ es) (f ∷ found) h = ap (λ o. only_if (is_none o) (NoLabel e.0) ++ entries_faults places es) h.0 ∙ entries_clean places es found h.1

-- If two procedures have equal fields, then they are equal.
procedure_same : (q r : Procedure) → q.level ≡ r.level → q.parameters ≡ r.parameters → q.locals ≡ r.locals → q.start ≡ r.start → q.items ≡ r.items
    → q.exit ≡ r.exit → q.entries ≡ r.entries → q ≡ r
procedure_same q r l p n s i x e =
    ap (λ v. record q { level = v }) l
    ∙ ap (λ v. record q { level = r.level; parameters = v }) p
    ∙ ap (λ v. record q { level = r.level; parameters = r.parameters; locals = v }) n
    ∙ ap (λ v. record q { level = r.level; parameters = r.parameters; locals = r.locals; start = v }) s
    ∙ ap (λ v. record r { items = v; exit = q.exit; entries = q.entries }) i
    ∙ ap (λ v. record r { exit = v; entries = q.entries }) x
    ∙ ap (λ v. record r { entries = v }) e

pub found_is_faultless : FoundIsFaultless
found_is_faultless p q h =
    let places : Places = place_of q.start p.code in
    let items : map (found_item places) (items_of p.code) ≡ q.items = all_is places (items_of p.code) q.items h.items in
    let mean : AllZip (Means places) (items_of p.code) (map (found_item places) (items_of p.code)) =
    subst (AllZip (Means places) (items_of p.code)) (sym items) h.items in
    let near : AreNear q.start (map (found_item places) (items_of p.code)) = subst (AreNear q.start) (sym items) h.near in
    let entries = entries_are places p.entries q.entries h.entries in (
      ap (λ fs. fs ++ entries_faults places p.entries) (code_clean places q.start p.code mean near) ∙ entries_clean places p.entries q.entries h.entries,
      procedure_same (found_procedure q.start p) q (sym h.level) (sym h.parameters) (sym h.locals) refl items (sym h.exit) entries,
    )
