-- The program that a text defines. In the text, jumps lead to labels; in the program, they lead to offsets.
use Rattle.std.specs.Prelude.{◌≡◌, ℕ, zero, suc, ◌+◌, ◌≤◌, List, [], ◌∷◌, ◌++◌}
use Rattle.std.specs.Prelude.{map, ◌==◌, if◌then◌else◌, Option, Some, None}
use Rattle.std.specs.List.{AllZip}
use Rattle.std.specs.Option.{option_to_list, unwrap_or}
use Rattle.pm_code.specs.Item.{Item, Target, size, table_place}
use Rattle.pm_code.specs.Item.Item.{Plain, Jump, Case, OneByte}
use Rattle.pm_code.specs.Item.Target.{To, Through}
use Rattle.pm_code.specs.Program as program
use Rattle.pm_source.specs.Source.{Name, Row, Statement, Source, SourceSegment, statements}
use Rattle.pm_source.specs.Source.{items_of, is_exit, row_items, AreSources}
use Rattle.pm_source.specs.Line.{Line}
use Rattle.pm_source.specs.Line.Flaw.{NoFlaw}
use Rattle.pm_source.specs.Line.Line.{Blank, Says}
use Rattle.pm_source.specs.Faults.{Places, place_of, lines_of, source_of, source_end}

abbrev pub exit_place : ℕ → List Row → ℕ
exit_place at [] = at
exit_place at (row ∷ rows) = if is_exit row then at else exit_place (program.end_of at (row_items row)) rows

-- States that a target of a text means a target of a program. A label means its offset, and entry k of the jump table
-- means entry k.
abbrev pub LeadsTo : Places → Target Name → Target ℕ → Type 0
LeadsTo places (To name) (To place) = places name ≡ Some place
LeadsTo places (Through k) (Through j) = k ≡ j
LeadsTo places _ _ = ⊥

-- States that an item of a text means an item of a program: both are the same, except that each label is replaced by
-- its offset.
abbrev pub Means : Places → Item Name → Item ℕ → Type 0
Means places (Plain i named) (Plain j bytes) = (i ≡ j) × (named ≡ bytes)
Means places (OneByte b) (OneByte c) = b ≡ c
Means places (Jump op target) (Jump code found) = (op ≡ code) × LeadsTo places target found
Means places (Case low high otherwise labels) (Case least greatest found places_found) =
    (low ≡ least) × ((high ≡ greatest) × (LeadsTo places otherwise found
    × AllZip (λ label place. places label ≡ Some place) labels places_found))
Means places _ _ = ⊥

-- States that a short jump reaches its target: an offset from `next` to `next + 127`, or an entry of the jump table.
abbrev pub ReachesFrom : ℕ → Target ℕ → Type 0
ReachesFrom next (To place) = (next ≤ place) × (place ≤ next + 127)
ReachesFrom next (Through k) = Unit {0}

abbrev pub IsNearFrom : ℕ → Item ℕ → Type 0
IsNearFrom at (Jump op target) = ReachesFrom (at + 2) target
IsNearFrom at (Case low high otherwise places) = ReachesFrom (table_place at) otherwise
IsNearFrom at _ = Unit {0}

abbrev pub AreNear : ℕ → List (Item ℕ) → Type 0
AreNear at [] = Unit {0}
AreNear at (i ∷ items) = IsNearFrom at i × AreNear (at + size at i) items

-- States that the procedure `p` of a text means the procedure `q` of a program.
pub record MeansProcedure (p : Source) (q : program.Procedure) : Type 0 where
  pub level : q.level ≡ p.level
  pub parameters : q.parameters ≡ p.parameters
  pub locals : q.locals ≡ p.locals
  pub items : AllZip (Means (place_of q.start p.code)) (items_of p.code) q.items
  pub near : AreNear q.start q.items
  pub exit : q.exit ≡ exit_place q.start p.code
  pub entries : AllZip (λ e place. place_of q.start p.code e.1 ≡ Some place) p.entries q.entries

pub record MeansSegment (s : SourceSegment) (t : program.Segment) : Type 0 where
  pub number : t.number ≡ s.number
  pub name : t.name ≡ s.name
  pub procedures : AllZip MeansProcedure s.procedures t.procedures
  pub follow : program.FollowFrom 0 t.procedures

-- The first segment of the list with the number `n`, or `None`.
abbrev pub segment_with : ℕ → List SourceSegment → Option SourceSegment
segment_with n [] = None
segment_with n (s ∷ ss) = if s.number == n then Some s else segment_with n ss

-- The segments of the list with the `count` numbers from `n` on, in ascending order of their numbers.
abbrev pub segments_from : ℕ → ℕ → List SourceSegment → List SourceSegment
segments_from n zero ss = []
segments_from n (suc count) ss = option_to_list (segment_with n ss) ++ segments_from (n + 1) count ss

abbrev pub ascending : List SourceSegment → List SourceSegment
ascending ss = segments_from 0 16 ss

-- States that the segments `ss` of a text mean the program `ts`: the same segments in ascending order of their numbers,
-- in whichever order the text has them.
abbrev pub MeansProgram : List SourceSegment → List program.Segment → Type 0
MeansProgram ss ts = AllZip MeansSegment (ascending ss) ts

-- States that the lines contain exactly the given statements: each line that is not blank contains the next statement,
-- well-formed and in range.
abbrev pub AreSaid : List Line → List Statement → Type 0
AreSaid [] said = said ≡ []
AreSaid (Blank ∷ lines) said = AreSaid lines said
AreSaid (Says s flaw ∷ lines) (t ∷ said) = (flaw ≡ NoFlaw) × ((s ≡ t) × AreSaid lines said)
AreSaid _ said = ⊥

-- States that `text` defines the program `p`: its lines contain the statements of sound segments, and these segments
-- mean `p`.
pub record Spells (text : List ℕ) (p : List program.Segment) : Type 0 where
  pub source : List SourceSegment
  pub said : AreSaid (lines_of text) (statements source)
  pub sound : AreSources source
  pub meant : MeansProgram source p

-- The target of a program that a target of a text means. A label that is not defined gets the offset 0.
abbrev pub found_target : Places → Target Name → Target ℕ
found_target places (To name) = To (unwrap_or (places name) 0)
found_target places (Through k) = Through k

abbrev pub found_label : Places → Name → ℕ
found_label places name = unwrap_or (places name) 0

abbrev pub found_item : Places → Item Name → Item ℕ
found_item places (Plain i named) = Plain i named
found_item places (Jump op target) = Jump op (found_target places target)
found_item places (Case low high otherwise labels) =
    Case low high (found_target places otherwise) (map (found_label places) labels)
found_item places (OneByte b) = OneByte b

abbrev pub found_procedure : ℕ → Source → program.Procedure
found_procedure start p =
    let places = place_of start p.code in
    record {
      level = p.level;
      parameters = p.parameters;
      locals = p.locals;
      start = start;
      items = map (found_item places) (items_of p.code);
      exit = exit_place start p.code;
      entries = map (λ e. found_label places e.1) p.entries;
    }

abbrev pub found_procedures : ℕ → List Source → List program.Procedure
found_procedures at [] = []
found_procedures at (p ∷ ps) = found_procedure at p ∷ found_procedures (source_end at p) ps

abbrev pub found_segment : SourceSegment → program.Segment
found_segment s = record { number = s.number; name = s.name; procedures = found_procedures 0 s.procedures }

-- The program that `text` defines, if it has no faults.
unfoldable pub program_of : List ℕ → List program.Segment
program_of text = map found_segment (ascending (source_of text))
