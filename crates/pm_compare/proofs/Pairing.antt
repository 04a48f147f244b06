-- Laws of the files that are compared with each other.
use Rattle.std.proofs.Common.{◌≡◌, ◌↔◌, ◌==◌, ◌+◌, ◌-◌, ◌∙◌, ℕ, suc, Bool, true, false, not, cond, ◌||◌, List, [], ◌∷◌, ◌++◌, Option, None, Some, length, map, filter, find, slice_get, refl, ap, ap₂, sym, arith}
use Rattle.std.specs.List.{list_any}
use Rattle.std.specs.Str.{bytes_eq}
use Rattle.std.proofs.lemmas.Bool.{or_parts}
use Rattle.pm_volume.specs.Files.{bytes_of, file_named, files_of, is_named}
use Rattle.pm_volume.specs.Names.{characters_of, is_same_name}
use Rattle.pm_volume.specs.declared.entry.Entry.{Entry}
use Rattle.pm_compare.specs.Verdicts.{agreeing, compared, compared_from, differs, verdict_for, only_there, without_first}
use Rattle.pm_compare.specs.Worked.{has_name_of, left_over, same_file}
use Rattle.pm_compare.specs.declared.verdicts.Compared.{Compared}
use Rattle.pm_compare.specs.declared.verdicts.Verdict.{Verdict}
use Rattle.pm_compare.specs.declared.verdicts.Verdict.TheVariants as verdicts
use Rattle.pm_compare.proofs.Differences.{same_law}
use Rattle.pm_compare.proofs.SameNames.{agree, apart, itself, other_way}

-- ---- the list without the first element that passes

-- A search for what does not pass is not affected.
find_without : {X : Type 0} (p q : X → Bool) → ((x : X) → q x ≡ true → p x ≡ false) → (xs : List X)
    → find p (without_first q xs) ≡ find p xs
find_without p q other [] = refl
find_without p q other (x ∷ xs) = by (q x) refl (find_without p q other xs)
  where
    by : (b : Bool) → q x ≡ b → find p (without_first q xs) ≡ find p xs
        → find p (cond b xs (x ∷ without_first q xs)) ≡ find p (x ∷ xs)
    by true is rest = sym (ap (λ b. cond b (Some x) (find p xs)) (other x is))
    by false is rest = ap (cond (p x) (Some x)) rest

filter_without : {X : Type 0} (p q : X → Bool) → ((x : X) → q x ≡ true → p x ≡ false) → (xs : List X)
    → filter p (without_first q xs) ≡ filter p xs
filter_without p q other [] = refl
filter_without p q other (x ∷ xs) = by (q x) refl (filter_without p q other xs)
  where
    by : (b : Bool) → q x ≡ b → filter p (without_first q xs) ≡ filter p xs
        → filter p (cond b xs (x ∷ without_first q xs)) ≡ filter p (x ∷ xs)
    by true is rest = sym (ap (λ b. cond b (x ∷ filter p xs) (filter p xs)) (other x is))
    by false is rest = ap (λ ys. cond (p x) (x ∷ ys) ys) rest

-- One element less passes, if one passes at all.
count_without : {X : Type 0} (p q : X → Bool) → ((x : X) → q x ≡ p x) → (xs : List X)
    → length (filter p (without_first q xs)) ≡ length (filter p xs) - 1
count_without p q same [] = refl
count_without p q same (x ∷ xs) = by (q x) refl (count_without p q same xs)
  where
    one_less : (n : ℕ) → n ≡ suc n - 1
    one_less n = omega arith

    by : (b : Bool) → q x ≡ b → length (filter p (without_first q xs)) ≡ length (filter p xs) - 1
        → length (filter p (cond b xs (x ∷ without_first q xs))) ≡ length (filter p (x ∷ xs)) - 1
    by true is rest =
        one_less (length (filter p xs))
        ∙ sym (ap (λ b. length (cond b (x ∷ filter p xs) (filter p xs)) - 1) (sym (same x) ∙ is))
    by false is rest =
        ap (λ b. length (cond b (x ∷ filter p (without_first q xs)) (filter p (without_first q xs)))) (sym (same x) ∙ is)
        ∙ rest
        ∙ sym (ap (λ b. length (cond b (x ∷ filter p xs) (filter p xs)) - 1) (sym (same x) ∙ is))

-- ---- the order of the results

only_entries : (files : List Entry) → map (λ (file : Compared). file.entry) (map only_there files) ≡ files
only_entries [] = refl
only_entries (e ∷ files) = ap (λ (es : List Entry). e ∷ es) (only_entries files)

order_from : (here there : List ℕ) (files unpaired : List Entry)
    → map (λ (file : Compared). file.entry) (compared_from here there files unpaired) ≡ files ++ left_over files unpaired
order_from here there [] unpaired = only_entries unpaired
order_from here there (e ∷ files) unpaired =
    ap (λ (es : List Entry). e ∷ es) (order_from here there files (without_first (is_named (characters_of e.name)) unpaired))

pub order : (here there : List ℕ)
    → map (λ (file : Compared). file.entry) (compared here there) ≡ files_of here ++ left_over (files_of here) (files_of there)
order here there = order_from here there (files_of here) (files_of there)

-- ---- the file with which a file is compared

result_at : (here there : List ℕ) (before after unpaired : List Entry) (e : Entry)
    → slice_get (compared_from here there (before ++ e ∷ after) unpaired) (length before)
    ≡ Some (record { entry = e; verdict = verdict_for here there e (find (is_named (characters_of e.name)) (left_over before unpaired)) })
result_at here there [] after unpaired e = refl
result_at here there (b ∷ before) after unpaired e =
    result_at here there before after (without_first (is_named (characters_of b.name)) unpaired) e

-- A file before it with another name takes no file of this name.
find_left : (name : List ℕ) (before unpaired : List Entry) → list_any (is_named name) before ≡ false
    → find (is_named name) (left_over before unpaired) ≡ find (is_named name) unpaired
find_left name [] unpaired other = refl
find_left name (b ∷ before) unpaired other =
    let parts = or_parts (is_named name b) (list_any (is_named name) before) other in
    find_left name before (without_first (is_named (characters_of b.name)) unpaired) parts.1
    ∙ find_without (is_named name) (is_named (characters_of b.name))
    (λ x. apart (characters_of x.name) (characters_of b.name) name parts.0) unpaired

pub paired : (here there : List ℕ) (before after : List Entry) (e : Entry)
    → files_of here ≡ before ++ e ∷ after → has_name_of before e ≡ false
    → slice_get (compared here there) (length before)
    ≡ Some (record { entry = e; verdict = verdict_for here there e (file_named there (characters_of e.name)) })
paired here there before after e files other =
    ap (λ (es : List Entry). slice_get (compared_from here there es (files_of there)) (length before)) files
    ∙ result_at here there before after (files_of there) e
    ∙ ap (λ (o : Option Entry). Some (record { entry = e; verdict = verdict_for here there e o }))
    (find_left (characters_of e.name) before (files_of there) other)

only_from : (here there : List ℕ) (e : Entry) (other : Option Entry) → verdict_for here there e other ≡ verdicts.OnlyHere → other ≡ None
only_from here there e None is = refl
only_from here there e (Some other) is =
    by (bytes_eq (bytes_of here e) (bytes_of there other)) (e.kind == other.kind) (agreeing (bytes_of here e) (bytes_of there other)) is
  where
    by : (bytes kinds : Bool) (place : ℕ)
        → cond bytes (cond kinds verdicts.Same verdicts.Kind) (verdicts.Byte place) ≡ verdicts.OnlyHere → Some other ≡ None
    by true true place e = absurd (cc)
    by true false place e = absurd (cc)
    by false kinds place e = absurd (cc)

pub only_here : (here there : List ℕ) (e : Entry) (other : Option Entry)
    → (verdict_for here there e other ≡ verdicts.OnlyHere) ↔ (other ≡ None)
only_here here there e other = (only_from here there e other, λ none. ap (verdict_for here there e) none)

-- ---- the files that remain

-- Two tests, one after the other.
filter_both : {X : Type 0} (q r : X → Bool) (xs : List X)
    → filter (λ x. not (q x || r x)) xs ≡ filter (λ x. not (q x)) (filter (λ x. not (r x)) xs)
filter_both q r [] = refl
filter_both {X} q r (x ∷ xs) = by (q x) (r x) refl (filter_both q r xs)
  where
    by : (a b : Bool) → q x ≡ a
        → filter (λ x. not (q x || r x)) xs ≡ filter (λ x. not (q x)) (filter (λ x. not (r x)) xs)
        → cond (not (a || b)) (x ∷ filter (λ x. not (q x || r x)) xs) (filter (λ x. not (q x || r x)) xs)
        ≡ filter (λ x. not (q x)) (cond (not b) (x ∷ filter (λ x. not (r x)) xs) (filter (λ x. not (r x)) xs))
    by true true is rest = rest
    by true false is rest = rest
        ∙ sym (ap (λ c. cond (not c) (x ∷ filter (λ x. not (q x)) (filter (λ x. not (r x)) xs)) (filter (λ x. not (q x)) (filter (λ x. not (r x)) xs))) is)
    by false true is rest = rest
    by false false is rest = ap (λ (ys : List X). x ∷ ys) rest
        ∙ sym (ap (λ c. cond (not c) (x ∷ filter (λ x. not (q x)) (filter (λ x. not (r x)) xs)) (filter (λ x. not (q x)) (filter (λ x. not (r x)) xs))) is)

-- A file whose name no file of `here` has, is not compared.
pub missing : (here there : List Entry)
    → filter (λ e. not (has_name_of here e)) (left_over here there) ≡ filter (λ e. not (has_name_of here e)) there
missing [] there = refl
missing (b ∷ here) there =
    let rest = without_first (is_named (characters_of b.name)) there in
    filter_both (λ (e : Entry). is_named (characters_of e.name) b) (has_name_of here) (left_over here rest)
    ∙ ap (filter (λ (e : Entry). not (is_named (characters_of e.name) b))) (missing here rest)
    ∙ sym (filter_both (λ (e : Entry). is_named (characters_of e.name) b) (has_name_of here) rest)
    ∙ filter_without (λ (e : Entry). not (is_named (characters_of e.name) b || has_name_of here e)) (is_named (characters_of b.name))
    (λ e same. ap (λ c. not (c || has_name_of here e)) (other_way (characters_of e.name) (characters_of b.name) same)) there

pub counted : (here there : List Entry) (name : List ℕ) → length (filter (is_named name) (left_over here there))
    ≡ length (filter (is_named name) there) - length (filter (is_named name) here)
counted [] there name = omega arith
counted (b ∷ here) there name =
    by (is_named name b) refl (counted here (without_first (is_named (characters_of b.name)) there) name)
  where
    by : (r : Bool) → is_named name b ≡ r
        → length (filter (is_named name) (left_over here (without_first (is_named (characters_of b.name)) there)))
        ≡ length (filter (is_named name) (without_first (is_named (characters_of b.name)) there)) - length (filter (is_named name) here)
        → length (filter (is_named name) (left_over here (without_first (is_named (characters_of b.name)) there)))
        ≡ length (filter (is_named name) there) - length (cond r (b ∷ filter (is_named name) here) (filter (is_named name) here))
    by true is before =
        let less = count_without (is_named name) (is_named (characters_of b.name))
        (λ x. agree (characters_of x.name) (characters_of b.name) name is) there in
        omega (arith, less, before)
    by false is before =
        before
        ∙ ap (λ (es : List Entry). length es - length (filter (is_named name) here))
        (filter_without (is_named name) (is_named (characters_of b.name))
        (λ x. apart (characters_of x.name) (characters_of b.name) name is) there)

-- ---- a volume and itself

itself_from : (image : List ℕ) (files : List Entry) → compared_from image image files files ≡ map same_file files
itself_from image [] = refl
itself_from image (e ∷ files) =
    let own : is_named (characters_of e.name) e ≡ true = itself (characters_of e.name) in
    let first : find (is_named (characters_of e.name)) (e ∷ files) ≡ Some e = ap (λ b. cond b (Some e) (find (is_named (characters_of e.name)) files)) own in
    let rest : without_first (is_named (characters_of e.name)) (e ∷ files) ≡ files =
    ap (λ b. cond b files (e ∷ without_first (is_named (characters_of e.name)) files)) own in
    let same : verdict_for image image e (Some e) ≡ verdicts.Same = (same_law (bytes_of image e) (bytes_of image e) e.kind e.kind).1 (refl, refl) in
    ap₂ (λ (f : Verdict) (more : List Compared). record { entry = e; verdict = f } ∷ more)
    (ap (verdict_for image image e) first ∙ same)
    (ap (compared_from image image files) rest ∙ itself_from image files)

pub with_itself : (image : List ℕ) → compared image image ≡ map same_file (files_of image)
with_itself image = itself_from image (files_of image)

none_differs : (files : List Entry) → differs (map same_file files) ≡ false
none_differs [] = refl
none_differs (e ∷ files) = none_differs files

pub no_difference : (image : List ℕ) → differs (compared image image) ≡ false
no_difference image = ap differs (with_itself image) ∙ none_differs (files_of image)
