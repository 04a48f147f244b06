-- Laws of the listed files.
use Rattle.std.proofs.Common.{◌≡◌, ◌+◌, ◌∙◌, ℕ, suc, Bool, true, false, cond, List, [], ◌∷◌, ◌++◌, Option, None, Some, length, map, filter, refl, ap, sym, arith, append_assoc}
use Rattle.pm_filer.specs.Fitting.{fitting_files, is_fitting}
use Rattle.pm_volume.specs.Files.{files_of}
use Rattle.pm_volume.specs.declared.entry.Entry.{Entry}
use Rattle.pm_table.specs.Rows.{if_listed, is_listed, rows_from, rows_of}
use Rattle.pm_table.specs.declared.rows.TableRow.{TableRow}

rows_split : (pattern : Option (List ℕ)) (slot : ℕ) (before after : List Entry)
    → rows_from pattern slot (before ++ after) ≡ rows_from pattern slot before ++ rows_from pattern (slot + length before) after
rows_split pattern slot [] after = let same : slot ≡ slot + 0 = omega arith in ap (λ (k : ℕ). rows_from pattern k after) same
rows_split pattern slot (e ∷ before) after =
    let here = if_listed pattern slot e in
    let place : (slot + 1) + length before ≡ slot + suc (length before) = omega arith in
    ap (λ (rows : List TableRow). here ++ rows) (rows_split pattern (slot + 1) before after)
    ∙ sym (append_assoc here (rows_from pattern (slot + 1) before) (rows_from pattern ((slot + 1) + length before) after))
    ∙ ap (λ (k : ℕ). (here ++ rows_from pattern (slot + 1) before) ++ rows_from pattern k after) place

all_split : (image : List ℕ) (pattern : Option (List ℕ)) (before after : List Entry) (e : Entry) → files_of image ≡ before ++ e ∷ after
    → rows_of pattern image ≡ rows_from pattern 1 before
    ++ (if_listed pattern (length before + 1) e ++ rows_from pattern (length before + 2) after)
all_split image pattern before after e files =
    let place : 1 + length before ≡ length before + 1 = omega arith in
    let next : (length before + 1) + 1 ≡ length before + 2 = omega arith in
    ap (rows_from pattern 1) files ∙ rows_split pattern 1 before (e ∷ after)
    ∙ ap (λ (k : ℕ). rows_from pattern 1 before ++ rows_from pattern k (e ∷ after)) place
    ∙ ap (λ (k : ℕ). rows_from pattern 1 before ++ (if_listed pattern (length before + 1) e ++ rows_from pattern k after)) next

pub listed : (image : List ℕ) (pattern : Option (List ℕ)) (before after : List Entry) (e : Entry)
    → files_of image ≡ before ++ e ∷ after → is_listed pattern e ≡ true
    → rows_of pattern image ≡ rows_from pattern 1 before
    ++ (record { slot = length before + 1; entry = e } ∷ rows_from pattern (length before + 2) after)
listed image pattern before after e files is = all_split image pattern before after e files
    ∙ ap (λ (b : Bool). rows_from pattern 1 before ++ (cond b (record { slot = length before + 1; entry = e } ∷ []) [] ++ rows_from pattern (length before + 2) after)) is

pub left_out : (image : List ℕ) (pattern : Option (List ℕ)) (before after : List Entry) (e : Entry)
    → files_of image ≡ before ++ e ∷ after → is_listed pattern e ≡ false
    → rows_of pattern image ≡ rows_from pattern 1 before ++ rows_from pattern (length before + 2) after
left_out image pattern before after e files not = all_split image pattern before after e files
    ∙ ap (λ (b : Bool). rows_from pattern 1 before ++ (cond b (record { slot = length before + 1; entry = e } ∷ []) [] ++ rows_from pattern (length before + 2) after)) not

all_from : (slot : ℕ) (files : List Entry) → map (λ (row : TableRow). row.entry) (rows_from None slot files) ≡ files
all_from slot [] = refl
all_from slot (e ∷ files) = ap (λ (es : List Entry). e ∷ es) (all_from (slot + 1) files)

pub all : (image : List ℕ) → map (λ (row : TableRow). row.entry) (rows_of None image) ≡ files_of image
all image = all_from 1 (files_of image)

fitting_from : (pattern : List ℕ) (slot : ℕ) (files : List Entry)
    → map (λ (row : TableRow). row.entry) (rows_from (Some pattern) slot files) ≡ filter (is_fitting pattern) files
fitting_from pattern slot [] = refl
fitting_from pattern slot (e ∷ files) = by (is_fitting pattern e) (fitting_from pattern (slot + 1) files)
  where
    by : (b : Bool) → map (λ (row : TableRow). row.entry) (rows_from (Some pattern) (slot + 1) files) ≡ filter (is_fitting pattern) files
        → map (λ (row : TableRow). row.entry) (cond b (record { slot = slot; entry = e } ∷ []) [] ++ rows_from (Some pattern) (slot + 1) files)
        ≡ cond b (e ∷ filter (is_fitting pattern) files) (filter (is_fitting pattern) files)
    by true rest = ap (λ (es : List Entry). e ∷ es) rest
    by false rest = rest

pub fitting : (image pattern : List ℕ) → map (λ (row : TableRow). row.entry) (rows_of (Some pattern) image) ≡ fitting_files image pattern
fitting image pattern = fitting_from pattern 1 (files_of image)
