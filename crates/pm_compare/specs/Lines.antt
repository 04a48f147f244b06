-- The lines of a comparison.
use Rattle.std.specs.Prelude.{ℕ, List, [], ◌∷◌, ◌++◌, codes}
use Rattle.std.specs.Fmt.{decimal}
use Rattle.std.specs.List.{flat_map}
use Rattle.pm_filer.specs.Listing.{printable_name}
use Rattle.pm_volume.specs.Names.{characters_of}
use Rattle.pm_compare.specs.declared.verdicts.Compared.{Compared}
use Rattle.pm_compare.specs.declared.verdicts.Verdict.{Verdict}
use Rattle.pm_compare.specs.declared.verdicts.Verdict.TheVariants as verdicts

-- The words before the name of a file.
abbrev pub begin_of : Verdict → List ℕ
begin_of verdicts.OnlyHere = codes "only here: "
begin_of verdicts.OnlyThere = codes "only there: "
begin_of verdicts.Same = codes "same: "
begin_of (verdicts.Byte place) = codes "differ: "
begin_of verdicts.Kind = codes "differ: "

-- The end of the line after the name: what differs, and a line feed.
abbrev pub end_of : Verdict → List ℕ
end_of verdicts.OnlyHere = 10 ∷ []
end_of verdicts.OnlyThere = 10 ∷ []
end_of verdicts.Same = 10 ∷ []
end_of (verdicts.Byte place) = codes ": byte " ++ (decimal place ++ 10 ∷ [])
end_of verdicts.Kind = codes ": kind\n"

-- The line of a file. The name is printed as `files list` prints it.
abbrev pub line_of : Compared → List ℕ
line_of file = begin_of file.verdict ++ (printable_name (characters_of file.entry.name) ++ end_of file.verdict)

-- The lines of some files.
abbrev pub lines_of : List Compared → List ℕ
lines_of files = flat_map line_of files
