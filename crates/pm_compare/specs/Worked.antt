-- Laws of comparisons, and worked examples.
use Rattle.std.specs.Prelude.{◌≡◌, ◌≢◌, ◌↔◌, ◌-◌, ℕ, Bool, true, false, not, List, [], ◌∷◌, ◌++◌, length, map}
use Rattle.std.specs.Prelude.{Option, None, Some, codes, replicate, slice_get, take}
use Rattle.std.specs.Fmt.{decimal}
use Rattle.std.specs.List.{filter, list_any}
use Rattle.pm_volume.specs.Files.{file_named, files_of, is_named}
use Rattle.pm_volume.specs.Names.{characters_of}
use Rattle.pm_volume.specs.declared.entry.Entry.{Entry}
use Rattle.pm_compare.specs.Verdicts.{compared, differs, verdict_for, verdict_of, without_first}
use Rattle.pm_compare.specs.Lines.{line_of, lines_of}
use Rattle.pm_compare.specs.declared.verdicts.Compared.{Compared}
use Rattle.pm_compare.specs.declared.verdicts.Verdict.TheVariants as verdicts

-- `place` is the offset of the first byte that differs: the bytes before it are the same, and the bytes at it are not.
-- A list that ends at `place` has no byte there.
pub record IsFirstDifference (left right : List ℕ) (place : ℕ) : Type 0 where
  pub before : take place left ≡ take place right
  pub apart : slice_get left place ≢ slice_get right place

-- Two files are the same if and only if they have the same bytes and the same kind. The result is `Byte` with an offset
-- if and only if this is the offset of the first byte that differs. It is `Kind` if and only if the bytes are the same
-- and the kinds are not. If one file begins with all bytes of the other, the offset is the length of the shorter one.
pub record WorkedVerdicts : Type 0 where
  pub same : (left right : List ℕ) (kind other : ℕ)
      → (verdict_of left kind right other ≡ verdicts.Same) ↔ ((left ≡ right) × (kind ≡ other))
  pub kind : (left right : List ℕ) (kind other : ℕ)
      → (verdict_of left kind right other ≡ verdicts.Kind) ↔ ((left ≡ right) × (kind ≢ other))
  pub byte : (left right : List ℕ) (kind other place : ℕ)
      → (verdict_of left kind right other ≡ verdicts.Byte place) ↔ IsFirstDifference left right place
  pub longer : verdict_of (codes "abc") 5 (codes "abcd") 5 ≡ verdicts.Byte 3
  pub shorter : verdict_of (codes "abcd") 5 (codes "ab") 2 ≡ verdicts.Byte 2
  pub empty : verdict_of [] 5 (codes "a") 5 ≡ verdicts.Byte 0
  pub second : verdict_of (codes "abc") 5 (codes "axc") 5 ≡ verdicts.Byte 1
  pub other_kind : verdict_of (codes "abc") 5 (codes "abc") 2 ≡ verdicts.Kind

-- The result `Same` for a file.
abbrev pub same_file : Entry → Compared
same_file e = record { entry = e; verdict = verdicts.Same }

-- The files of the list `unpaired` that remain if each of `files` was compared with the first remaining file of its
-- name.
abbrev pub left_over : List Entry → List Entry → List Entry
left_over [] unpaired = unpaired
left_over (e ∷ files) unpaired = left_over files (without_first (is_named (characters_of e.name)) unpaired)

-- Is true if a file of `files` has the name of the file of the entry `e`. Case is ignored.
abbrev pub has_name_of : List Entry → Entry → Bool
has_name_of files e = list_any (is_named (characters_of e.name)) files

-- Each file of `here` has one result, in directory order. The files of `there` that were compared with none follow.
-- `paired`: a file is compared with the first file of `there` that has its name, unless a file before it on `here` has
-- its name too. `only_here`: it is only on `here` if and only if there is no such file.
-- `missing`: of the files that follow, those whose name no file of `here` has are the files of `there` whose name no
-- file of `here` has, in the same order.
-- `counted`: as many files of a name follow as `there` has more of them than `here`.
-- `itself`: if a volume is compared with itself, all files are the same, and nothing differs.
pub record WorkedPairs : Type 0 where
  pub order : (here there : List ℕ)
      → map (λ (file : Compared). file.entry) (compared here there)
      ≡ files_of here ++ left_over (files_of here) (files_of there)
  pub paired : (here there : List ℕ) (before after : List Entry) (e : Entry)
      → files_of here ≡ before ++ e ∷ after → has_name_of before e ≡ false
      → slice_get (compared here there) (length before)
      ≡ Some (record { entry = e; verdict = verdict_for here there e (file_named there (characters_of e.name)) })
  pub only_here : (here there : List ℕ) (e : Entry) (other : Option Entry)
      → (verdict_for here there e other ≡ verdicts.OnlyHere) ↔ (other ≡ None)
  pub missing : (here there : List Entry)
      → filter (λ e. not (has_name_of here e)) (left_over here there) ≡ filter (λ e. not (has_name_of here e)) there
  pub counted : (here there : List Entry) (name : List ℕ) → length (filter (is_named name) (left_over here there))
      ≡ length (filter (is_named name) there) - length (filter (is_named name) here)
  pub itself : (image : List ℕ) → compared image image ≡ map same_file (files_of image)
  pub no_difference : (image : List ℕ) → differs (compared image image) ≡ false

-- A file with this name.
abbrev pub named : List ℕ → Entry
named name = record {
  name = length name ∷ (name ++ replicate (15 - length name) 0);
  kind = 3;
  first = 6;
  end = 8;
  last_bytes = 512;
  date = 0;
}

-- Each result has its line. A byte of a name that is not printable becomes a question mark.
pub record WorkedLines : Type 0 where
  pub only_here : line_of (record { entry = named (codes "A.TEXT"); verdict = verdicts.OnlyHere })
      ≡ codes "only here: A.TEXT\n"
  pub only_there : line_of (record { entry = named (codes "A.TEXT"); verdict = verdicts.OnlyThere })
      ≡ codes "only there: A.TEXT\n"
  pub same : line_of (record { entry = named (codes "A.TEXT"); verdict = verdicts.Same }) ≡ codes "same: A.TEXT\n"
  pub byte : line_of (record { entry = named (codes "A.TEXT"); verdict = verdicts.Byte 7 })
      ≡ codes "differ: A.TEXT: byte " ++ (decimal 7 ++ codes "\n")
  pub kind : line_of (record { entry = named (codes "A.TEXT"); verdict = verdicts.Kind })
      ≡ codes "differ: A.TEXT: kind\n"
  pub shown : line_of (record { entry = named (65 ∷ 7 ∷ 200 ∷ []); verdict = verdicts.Same }) ≡ codes "same: A??\n"
  pub several : lines_of (same_file (named (codes "A")) ∷ same_file (named (codes "B")) ∷ [])
      ≡ codes "same: A\nsame: B\n"
  pub different : differs (same_file (named (codes "A"))
      ∷ record { entry = named (codes "B"); verdict = verdicts.OnlyThere } ∷ []) ≡ true
