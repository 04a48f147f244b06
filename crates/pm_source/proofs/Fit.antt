-- Statements without faults that are read one after the other, and properties that remain true while they are read.
use Rattle.std.specs.Prelude.{◌≡◌, ℕ, ◌+◌, ◌≤◌, true, false, List, [], ◌∷◌, ◌++◌, Option, Some, None}
use Rattle.std.specs.List.{list_any, IsDistinct}
use Rattle.std.specs.Str.{bytes_eq}
use Rattle.pm_source.specs.Words.{is_empty}
use Rattle.pm_source.specs.Source.{Statement, Source, SourceSegment, head_statements, statements, labels_of, exits_of, AreSources}
use Rattle.pm_source.specs.Faults.{Reading, after, is_in_place, is_again, is_miscounted, is_begin, is_end, procedure_count}

-- States that the statement `s` has no fault in the state `r`.
pub record IsFit (r : Reading) (s : Statement) : Type 0 where
  pub in_place : is_in_place r s ≡ true
  pub new : is_again r s ≡ false
  pub counted : is_miscounted r s ≡ false

abbrev pub AreFit : Reading → List Statement → Type 0
AreFit r [] = Unit {0}
AreFit r (s ∷ said) = IsFit r s × AreFit (after r s) said

-- States that each procedure which a statement begins is ended by a later statement.
abbrev pub AllEnd : List Statement → Type 0
AllEnd [] = Unit {0}
AllEnd (s ∷ said) = (is_begin s ≡ true → list_any is_end said ≡ true) × AllEnd said

-- The state after all these statements are read in the state `r`.
abbrev pub after_all : Reading → List Statement → Reading
after_all r [] = r
after_all r (s ∷ said) = after_all (after r s) said

-- The statements of the procedure with the number `n` that has begun, as far as they were read.
abbrev pub open_statements : ℕ → Option Source → List Statement
open_statements n None = []
open_statements n (Some p) = head_statements n p

abbrev pub taken_in : Reading → List Statement
taken_in r = statements r.segments ++ open_statements (procedure_count r.segments + 1) r.current

-- States that the procedure which has begun and not ended, if any, has no faults so far.
abbrev pub IsBegun : List SourceSegment → Option Source → Type 0
IsBegun segments None = Unit {0}
IsBegun segments (Some p) = IsDistinct bytes_eq (labels_of p.code) × (exits_of p.code ≤ 1) × (is_empty segments ≡ false)

-- States that the state `r` results from statements without faults.
pub record IsSound (r : Reading) : Type 0 where
  pub finished : AreSources r.segments
  pub begun : IsBegun r.segments r.current
