-- Lemmas: a procedure of instructions is read with its own count of jump table entries, and with no smaller count.
use Rattle.std.proofs.Common.{◌≡◌, ◌<◌, ◌≤◌, ℕ, zero, suc, ◌+◌, ◌-◌, ◌*◌, Bool, true, false, List, [], ◌∷◌, ◌++◌, length}
use Rattle.std.proofs.Common.{take, drop, reverse, refl, sym, ap, ◌∙◌, subst, arith, append_assoc, append-nil, drop-drop}
use Rattle.std.specs.Prelude.{◌&&◌, nat_le, ◌==◌}
use Rattle.std.specs.List.{list_all, AllByRecursion}
use Rattle.std.specs.Int.{w8, cast_signed, cast_unsigned}
use Rattle.std.proofs.Math.Seq.{take-append-add, take-length, drop-append_seam}
use Rattle.std.proofs.lemmas.Int.{of_z-to_z}
use Rattle.std.proofs.lemmas.Bool.{and_from, le-leb, eq-eqb}
use Rattle.std.proofs.lemmas.Bool.Decides.{nat_tests}
use Rattle.pm_code.specs.Program.{Procedure, IsProcedure, IsIn, AreInstructions, code_of, code_end}
use Rattle.pm_code.specs.Program.{places_of, entry_bytes, attribute_bytes, jtab_of, entries_needed}
use Rattle.pm_disasm.specs.Split.{items_in, entry_places, are_after, end_with, code_with, procedure_with, fits}
use Rattle.pm_disasm.specs.Laws.{StandsIn, attributes_of, OwnCountFits, SmallerCountFails}
use Rattle.pm_code.proofs.Sizes.{length-code}
use Rattle.law_text.proofs.Boundaries.{all-map}
use Rattle.law_text.proofs.Again.{later, earlier}
use Rattle.law_text.proofs.Own.{items_again, at_least_as_many}
use Rattle.pm_disasm.proofs.Stored.{Table, entries_read, entries_after}

-- Returns the bytes after the code of a procedure.
abbrev pub behind_code : ℕ → Procedure → List ℕ → List ℕ
behind_code number p rest = entry_bytes (code_end p) (reverse p.entries) ++ (attribute_bytes number p ++ rest)

pub code_there : (segment : List ℕ) (number : ℕ) (p : Procedure) (s : StandsIn segment number p)
    → drop p.start segment ≡ code_of p ++ behind_code number p s.rest
code_there segment number p s =
    let entries : List ℕ = entry_bytes (code_end p) (reverse p.entries) in
    s.there ∙ append_assoc (code_of p) (entries ++ attribute_bytes number p) s.rest
    ∙ ap (λ bs. code_of p ++ bs) (append_assoc entries (attribute_bytes number p) s.rest)

-- The jump table of a procedure is in the segment after its code.
pub table_there : (segment : List ℕ) (number : ℕ) (p : Procedure) (s : StandsIn segment number p)
    → Table segment (code_end p) (jtab_of p) 0 p.entries (attribute_bytes number p ++ s.rest)
table_there segment number p s =
    let long : p.start + length (code_of p) ≡ code_end p = length-code p.start p.items in
    record {
      there = ap (λ n. drop n segment) (sym long) ∙ sym (drop-drop (length (code_of p)) p.start segment)
          ∙ ap (drop (length (code_of p))) (code_there segment number p s) ∙ drop-append_seam (code_of p) (behind_code number p s.rest);
      ends = omega arith;
    }

-- With the count `t`, the code is the code of the procedure, followed by the entries that `t` does not count.
pub code_taken : (segment : List ℕ) (number t : ℕ) (p : Procedure) (s : StandsIn segment number p) → t ≤ length p.entries
    → code_with segment (attributes_of number p) t ≡ code_of p ++ take (2 * (length p.entries - t)) (behind_code number p s.rest)
code_taken segment number t p s n =
    let count : end_with (attributes_of number p) t - p.start ≡ length (code_of p) + 2 * (length p.entries - t) = omega (arith, length-code p.start p.items) in
    ap (λ k. take k (drop p.start segment)) count ∙ ap (take (length (code_of p) + 2 * (length p.entries - t))) (code_there segment number p s)
    ∙ take-append-add (code_of p) (behind_code number p s.rest) (2 * (length p.entries - t))

-- The entries of the procedure are in its code.
pub entries_inside : (p : Procedure) → IsProcedure p → AllByRecursion (λ place. (p.start ≤ place) × (place ≤ code_end p)) p.entries
entries_inside p h =
    all-map (IsIn (places_of p)) (λ place. (p.start ≤ place) × (place ≤ code_end p)) p.entries
    (λ place i. (later p.start p.items place i, earlier p.start p.items place i)) h.entries

first_entries : (segment : List ℕ) (number t : ℕ) (p : Procedure) (s : StandsIn segment number p) → t ≤ length p.entries
    → entry_places segment (jtab_of p) 0 t ≡ take t p.entries
first_entries segment number t p s n =
    entries_read segment (code_end p) (jtab_of p) 0 t p.entries (attribute_bytes number p ++ s.rest) (table_there segment number p s) n
    (all-map (λ place. (p.start ≤ place) × (place ≤ code_end p)) (λ place. place ≤ code_end p) p.entries (λ place h. h.1) (entries_inside p s.procedure))

all_taken : {A : Type 0} (P : A → Type 0) (n : ℕ) (xs : List A) → AllByRecursion P xs → AllByRecursion P (take n xs)
all_taken P zero xs h = tt
all_taken P (suc n) [] h = tt
all_taken P (suc n) (x ∷ xs) h = (h.0, all_taken P n xs h.1)

pub level_again : (level : ℕ) → level < 256 → cast_unsigned w8 (cast_signed w8 level) ≡ level
level_again level h = of_z-to_z w8 level h

-- With its own count, a procedure of instructions is read as itself.
pub own_count : (segment : List ℕ) (number : ℕ) (p : Procedure) → StandsIn segment number p → AreInstructions p.items
    → procedure_with segment (attributes_of number p) true (length p.entries) ≡ p
own_count segment number p s i =
    let count = length p.entries in
    let a = attributes_of number p in
    let code : code_with segment a count ≡ code_of p =
    code_taken segment number count p s (omega arith)
    ∙ (let none : 2 * (count - count) ≡ 0 = omega arith in ap (λ n. code_of p ++ take n (behind_code number p s.rest)) none)
    ∙ append-nil (code_of p) in
    let entries : entry_places segment (jtab_of p) 0 count ≡ p.entries = first_entries segment number count p s (omega arith) ∙ take-length p.entries in
    ap (λ level. record (procedure_with segment a true count) { level = level }) (level_again p.level s.procedure.level)
    ∙ ap (λ es. record p { entries = es; items = items_in (p.exit ∷ es) true p.start (code_with segment a count) }) entries
    ∙ ap (λ bs. record p { items = items_in (p.exit ∷ p.entries) true p.start bs }) code
    ∙ ap (λ items. record p { items = items }) (items_again (p.exit ∷ p.entries) p.start p.items s.procedure.items i
    (s.procedure.exit, s.procedure.entries) s.procedure.jumps)

all_below : (end : ℕ) (places : List ℕ) → AllByRecursion (λ place. place ≤ end) places → list_all (λ place. nat_le place end) places ≡ true
all_below end [] h = refl
all_below end (place ∷ places) h = and_from _ _ (le-leb _ _ h.0) (all_below end places h.1)

-- The count of the procedure fits.
pub own_fits : (segment : List ℕ) (number : ℕ) (p : Procedure) → StandsIn segment number p → AreInstructions p.items
    → fits segment (attributes_of number p) (length p.entries) ≡ true
own_fits segment number p s i =
    let count = length p.entries in
    let a = attributes_of number p in
    let h = s.procedure in
    let ends : end_with a count ≡ code_end p = omega arith in
    let from : p.start ≤ code_end p = omega (arith, length-code p.start p.items) in
    ap (λ (q : Procedure). nat_le (p.start + 8 + 2 * count) (jtab_of p)
    && (nat_le p.start p.exit && (are_after segment p.start (jtab_of p) 0 count
    && (list_all (λ place. nat_le place (end_with a count)) (p.exit ∷ q.entries) && (count == entries_needed q.items))))) (own_count segment number p s i)
    ∙ and_from _ _ (le-leb _ _ (omega (arith, from)))
    (and_from _ _ (le-leb _ _ (later p.start p.items p.exit h.exit))
    (and_from _ _ (entries_after segment p.start (code_end p) (jtab_of p) 0 count p.entries (attribute_bytes number p ++ s.rest)
    (table_there segment number p s) (omega arith) (entries_inside p h))
    (and_from _ _ (ap (λ end. list_all (λ place. nat_le place end) (p.exit ∷ p.entries)) ends
    ∙ all_below (code_end p) (p.exit ∷ p.entries) (
      earlier p.start p.items p.exit h.exit,
      all-map (λ place. (p.start ≤ place) × (place ≤ code_end p)) (λ place. place ≤ code_end p) p.entries (λ place k. k.1) (entries_inside p h),
    ))
    (eq-eqb _ _ h.used))))

pub own_count_fits : OwnCountFits
own_count_fits segment number p s i = (own_count segment number p s i, own_fits segment number p s i)

none_true : (a : Bool) → (a && false) ≡ false
none_true true = refl
none_true false = refl

-- A smaller count does not fit.
pub smaller_count_fails : SmallerCountFails
smaller_count_fails segment number p t s i n =
    let a = attributes_of number p in
    let h = s.procedure in
    let behind : List ℕ = take (2 * (length p.entries - t)) (behind_code number p s.rest) in
    let forced : List ℕ = p.exit ∷ entry_places segment (jtab_of p) 0 t in
    let bounds : AllByRecursion (IsIn (places_of p)) forced = (
      h.exit,
      subst (AllByRecursion (IsIn (places_of p))) (sym (first_entries segment number t p s (omega arith)))
          (all_taken (IsIn (places_of p)) t p.entries h.entries),
    ) in
    let code : code_with segment a t ≡ code_of p ++ behind = code_taken segment number t p s (omega arith) in
    let more : entries_needed p.items ≤ entries_needed (procedure_with segment a true t).items =
    subst (λ bs. entries_needed p.items ≤ entries_needed (items_in forced true p.start bs)) (sym code)
    (at_least_as_many forced p.start p.items behind h.items i bounds h.jumps) in
    let wrong : (t == entries_needed (procedure_with segment a true t).items) ≡ false = grind (arith, nat_tests, more, h.used, n) in
    ap (λ b. nat_le (p.start + 8 + 2 * t) (jtab_of p) && (nat_le p.start p.exit
    && (are_after segment p.start (jtab_of p) 0 t && (list_all (λ place. nat_le place (end_with a t)) forced && b)))) wrong
    ∙ ap (λ b. nat_le (p.start + 8 + 2 * t) (jtab_of p) && (nat_le p.start p.exit && (are_after segment p.start (jtab_of p) 0 t && b))) (none_true _)
    ∙ ap (λ b. nat_le (p.start + 8 + 2 * t) (jtab_of p) && (nat_le p.start p.exit && b)) (none_true _)
    ∙ ap (λ b. nat_le (p.start + 8 + 2 * t) (jtab_of p) && b) (none_true _)
    ∙ none_true _
