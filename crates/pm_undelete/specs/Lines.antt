-- The lines of the candidates.
use Rattle.std.specs.Prelude.{ℕ, List, ◌++◌, codes}
use Rattle.std.specs.Fmt.{decimal}
use Rattle.std.specs.List.{flat_map}
use Rattle.pm_undelete.specs.declared.finding.Candidate.{Candidate}
use Rattle.pm_undelete.specs.declared.finding.Looks.{Looks}
use Rattle.pm_undelete.specs.declared.finding.Looks.TheVariants as looks

-- The end of the line of a candidate: what its blocks look like, and a line feed.
abbrev pub word_of : Looks → List ℕ
word_of looks.Code = codes " code\n"
word_of looks.Text = codes " text\n"

-- The line of a candidate: its first block, its number of blocks, and what its blocks look like.
abbrev pub line_of : Candidate → List ℕ
line_of c = codes "block " ++ (decimal c.first ++ (codes " blocks " ++ (decimal c.blocks ++ word_of c.looks)))

-- The lines of some candidates.
abbrev pub lines_of : List Candidate → List ℕ
lines_of candidates = flat_map line_of candidates
