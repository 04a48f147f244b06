-- The comparison of the files of two volumes.
use Rattle.std.specs.Prelude.{ℕ, ◌==◌, Bool, true, false, List, [], ◌∷◌, map, Option, None, Some, if◌then◌else◌}
use Rattle.std.specs.List.{find, list_any, prefix_len, zip}
use Rattle.std.specs.Str.{bytes_eq}
use Rattle.pm_volume.specs.Files.{bytes_of, files_of, is_named}
use Rattle.pm_volume.specs.Names.{characters_of}
use Rattle.pm_volume.specs.declared.entry.Entry.{Entry}
use Rattle.pm_compare.specs.declared.verdicts.Compared.{Compared}
use Rattle.pm_compare.specs.declared.verdicts.Verdict.{Verdict}
use Rattle.pm_compare.specs.declared.verdicts.Verdict.TheVariants as verdicts

-- ---- two files

-- The number of bytes before the first place at which `left` and `right` differ.
abbrev pub agreeing : List ℕ → List ℕ → ℕ
agreeing left right = prefix_len (λ p. p.0 == p.1) (zip left right)

-- The result for two files of the same name. They have the bytes `left` and `right`, and the kinds `kind` and `other`.
-- Their dates are not compared.
abbrev pub verdict_of : List ℕ → ℕ → List ℕ → ℕ → Verdict
verdict_of left kind right other =
    if bytes_eq left right then (if kind == other then verdicts.Same else verdicts.Kind)
    else verdicts.Byte (agreeing left right)

-- The result for the file of the entry `e` of the volume `here`. The last argument is the entry of the file of the
-- volume `there` with which it is compared, if there is such a file.
abbrev pub verdict_for : List ℕ → List ℕ → Entry → Option Entry → Verdict
verdict_for here there e None = verdicts.OnlyHere
verdict_for here there e (Some other) = verdict_of (bytes_of here e) e.kind (bytes_of there other) other.kind

-- ---- all files

-- A list without the first element that passes the test `p`.
abbrev pub without_first : {X : Type 0} → (X → Bool) → List X → List X
without_first p [] = []
without_first p (x ∷ xs) = if p x then xs else x ∷ without_first p xs

-- The result for a file of the second volume that was compared with no file.
abbrev pub only_there : Entry → Compared
only_there e = record { entry = e; verdict = verdicts.OnlyThere }

-- The results for the files `files` of the volume `here`, followed by those for the remaining files of `there`. The
-- last argument has the files of `there` that were not compared yet. A file is compared with the first of them that has
-- its name. Case is ignored.
abbrev pub compared_from : List ℕ → List ℕ → List Entry → List Entry → List Compared
compared_from here there [] unpaired = map only_there unpaired
compared_from here there (e ∷ files) unpaired =
    record { entry = e; verdict = verdict_for here there e (find (is_named (characters_of e.name)) unpaired) }
    ∷ compared_from here there files (without_first (is_named (characters_of e.name)) unpaired)

-- The results for all files of the volumes `here` and `there`.
abbrev pub compared : List ℕ → List ℕ → List Compared
compared here there = compared_from here there (files_of here) (files_of there)

-- ---- the end

-- Is true for each result except `Same`.
abbrev pub is_different : Verdict → Bool
is_different verdicts.OnlyHere = true
is_different verdicts.OnlyThere = true
is_different verdicts.Same = false
is_different (verdicts.Byte place) = true
is_different verdicts.Kind = true

-- Is true if one of the files differs, or is on one volume only.
abbrev pub differs : List Compared → Bool
differs files = list_any (λ (file : Compared). is_different file.verdict) files
