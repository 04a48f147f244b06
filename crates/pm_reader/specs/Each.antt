-- The first fault of each line of a text.
use Rattle.std.specs.Prelude.{ℕ, ◌+◌, List, [], ◌∷◌, ◌++◌}
use Rattle.pm_source.specs.declared.fault.AsmFault.{AsmFault}
use Rattle.pm_source.specs.Faults.{Reading, after_line, line_faults, lines_of, start}
use Rattle.pm_source.specs.Line.{Line}

-- The list with only the first of the faults, or the empty list.
abbrev pub first_in : List AsmFault → List AsmFault
first_in [] = []
first_in (fault ∷ faults) = fault ∷ []

-- The first faults of the lines, the first of which has the number `n`. `r` is the state after the lines before them.
unfoldable pub firsts_from : ℕ → Reading → List Line → List AsmFault
firsts_from n r [] = []
firsts_from n r (line ∷ rest) = first_in (line_faults n r line rest) ++ firsts_from (n + 1) (after_line r line) rest

-- The first fault of each line of `text` that has a fault.
unfoldable pub firsts_of_lines : List ℕ → List AsmFault
firsts_of_lines text = firsts_from 1 start (lines_of text)
