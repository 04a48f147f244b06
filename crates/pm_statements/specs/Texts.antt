-- The text of statements without blocks.
use Rattle.std.specs.Prelude.{ℕ, zero, suc, min, Bool, true, false, not, List, [], ◌∷◌, ◌++◌, reverse}
use Rattle.std.specs.Prelude.{◌&&◌, if◌then◌else◌, codes}
use Rattle.pm_code.specs.Shown.{label_text, padded}
use Rattle.pm_phrases.specs.Shown.{Shown, value_text}
use Rattle.pm_trees.specs.declared.left.Left.{Left}
use Rattle.pm_trees.specs.declared.left.Role.{Role}
use Rattle.pm_trees.specs.declared.left.Role.TheVariants as role
use Rattle.pm_trees.specs.declared.part.Leaves.{Leaves}
use Rattle.pm_trees.specs.declared.part.Place.{Place}
use Rattle.pm_statements.specs.Depths.{Depths, at_place}
use Rattle.pm_trees.specs.Parts.{is_reached}
use Rattle.pm_trees.specs.Piles.{Pile}
use Rattle.pm_trees.specs.Trees.{leaves_nothing}

-- ---- lines

-- Returns the prefix `PUSH ` for a statement that leaves words on the stack, and no text for any other statement.
abbrev pub push_text : Leaves → List ℕ
push_text l = if leaves_nothing l then [] else codes "PUSH "

-- Returns a line with a label if the place has a label, and a line `EXIT:` if the exit code begins there.
abbrev pub place_lines : Place → List ℕ
place_lines p =
    (if p.has_label then 10 ∷ label_text p.offset ++ codes ":" else [])
    ++ (if p.is_exit then 10 ∷ codes "EXIT:" else [])

-- Returns the lines for the place `p`, followed by a line feed, its offset, and a space.
abbrev pub front : Place → List ℕ
front p = place_lines p ++ (10 ∷ padded 5 p.offset ++ 32 ∷ [])

abbrev pub has_call_role : Role → Bool
has_call_role role.Call = true
has_call_role _ = false

abbrev pub has_check_role : Role → Bool
has_check_role role.Check = true
has_check_role _ = false

-- Is true if the statement `l` is a call that leaves nothing on the stack.
abbrev pub is_call : Left → Bool
is_call l = leaves_nothing l.leaves && has_call_role l.role

-- Is true if the statement `l` is an I/O check that has no label and does not begin the exit code.
abbrev pub is_check : Left → Bool
is_check l = not (is_reached l.place) && has_check_role l.role

-- The maximum depth that is shown. A greater depth is shown like this depth.
abbrev pub deepest : ℕ
deepest = 30

-- Returns two spaces for each level.
abbrev pub two_each : ℕ → List ℕ
two_each zero = []
two_each (suc n) = 32 ∷ 32 ∷ two_each n

abbrev pub blanks : ℕ → List ℕ
blanks depth = two_each (min depth deepest)

-- Returns the line of the statement `l` with the text `s`, after a line feed: its offset, its indentation, and its
-- text. An I/O check after a call is appended to the line of the call.
abbrev pub line : ℕ → Bool → Left → Shown → List ℕ
line depth behind_call l s =
    if behind_call && is_check l
    then 32 ∷ value_text s 0
    else front l.place ++ (blanks depth ++ (push_text l.leaves ++ value_text s 0))

-- Returns the text of statements, in their order. `behind_call` is true if a call precedes the first statement.
unfoldable pub lines : Depths → Bool → List Left → List Shown → List ℕ
lines d behind_call [] ss = []
lines d behind_call (l ∷ ls) [] = []
lines d behind_call (l ∷ ls) (s ∷ ss) = line (at_place d l.place.offset) behind_call l s ++ lines d (is_call l) ls ss

abbrev pub pile_lines : Depths → Pile → List ℕ
pile_lines d t = lines d false (reverse t.lefts) (reverse t.phrases)
