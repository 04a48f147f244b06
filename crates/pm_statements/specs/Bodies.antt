-- The text of the code of a procedure, for each layout of its statements.
use Rattle.std.specs.Prelude.{◌/◌, ℕ, Bool, true, false, List, [], ◌++◌, map, reverse, if◌then◌else◌}
use Rattle.std.specs.Prelude.{Option, Some, None}
use Rattle.pm_trees.specs.Blocks.{blocks}
use Rattle.pm_trees.specs.declared.left.Left.{Left}
use Rattle.pm_trees.specs.declared.line.Line.{Line}
use Rattle.pm_code.specs.Program.{Procedure, code_end, is_among}
use Rattle.pm_phrases.specs.declared.around.Around.{Around}
use Rattle.pm_phrases.specs.Shown.{Shown}
use Rattle.pm_statements.specs.BlockLabels.{relabelled, shown_places}
use Rattle.pm_statements.specs.BlockLines.{block_lines}
use Rattle.pm_statements.specs.Depths.{Depths, depths}
use Rattle.pm_statements.specs.Leading.{stretches}
use Rattle.pm_trees.specs.Parts.{Known, labelled_places, place_at, procedure_parts}
use Rattle.pm_trees.specs.Piles.{Pile, pile_of}
use Rattle.pm_statements.specs.Texts.{pile_lines, place_lines}
use Rattle.pm_trees.specs.Trees.{statements}
use Rattle.pm_trees.specs.declared.items.Layout.{Layout}
use Rattle.pm_trees.specs.declared.items.Layout.TheVariants as layout
use Rattle.pm_trees.specs.declared.part.Place.{Place}

-- The context in which the code of the procedure `p` is shown: the number of words of its parameters.
abbrev pub around_of : Procedure → Around
around_of p = record { parameters = p.parameters / 2 }

-- The place at the end of the code of `p`: its offset, whether it has a label, and whether the exit code begins there.
abbrev pub end_place : Procedure → Place
end_place p = place_at (labelled_places p) p.exit (code_end p)

-- The depths of `p` if `wanted` is true. Otherwise an empty list of depths.
abbrev pub depths_if : Bool → Procedure → Depths
depths_if wanted p = record { start = p.start; list = if wanted then depths p else [] }

-- The text of the statements `t` without blocks, followed by the lines for the end of the code. The statements are
-- indented by their depth if `indented` is true.
abbrev pub flat : Bool → Procedure → Pile → List ℕ
flat indented p t = pile_lines (depths_if indented p) t ++ place_lines (end_place p)

-- The text of the statements `ls` in blocks, followed by the lines for the end of the code. Only offsets that the text
-- names have a label.
abbrev pub blocks_text : Procedure → List Line → List Left → List Shown → List ℕ
blocks_text p xs ls ss =
    block_lines 0 false xs (map (relabelled (is_among (shown_places p xs ls))) ls) ss
    ++ place_lines (place_at (shown_places p xs ls) p.exit (code_end p))

-- The text of the statements `t` in the given blocks. If no blocks are given, the statements are not indented.
abbrev pub in_blocks : Procedure → Pile → Option (List Line) → List ℕ
in_blocks p t None = flat false p t
in_blocks p t (Some xs) = blocks_text p xs (reverse t.lefts) (reverse t.phrases)

-- The text of the statements `t` of the procedure `p` in a layout. Each statement has a line, which a line feed
-- precedes. The lines for the end of the code follow.
unfoldable pub body : Layout → Procedure → Pile → List ℕ
body layout.Flat p t = flat false p t
body layout.Indented p t = flat true p t
body layout.Blocks p t =
    in_blocks p t (blocks (stretches p.start p.entries (code_end p) (reverse t.lefts) (reverse t.phrases)))

-- The text of the code of the procedure `p`, in the layout of `k`.
abbrev pub procedure_statements : Known → Procedure → List ℕ
procedure_statements k p = body k.layout p (pile_of (around_of p) (statements (procedure_parts k p)))
