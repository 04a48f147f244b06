-- Laws about texts of the same statements.
use Rattle.std.specs.Prelude.{◌≡◌, ℕ, List}
use Rattle.std.specs.Prelude.{not, ◌==◌}
use Rattle.std.specs.List.{filter}
use Rattle.pm_statements.specs.Depths.{Depths}
use Rattle.pm_trees.specs.Piles.{Pile}
use Rattle.pm_statements.specs.Texts.{pile_lines}

-- ---- spaces

-- Returns a text without its spaces.
abbrev pub without_blanks : List ℕ → List ℕ
without_blanks = filter (λ (c : ℕ). not (c == 32))

-- If two texts show the same statements `t` with the depths `d` and `e`, then the texts differ only in spaces. So no
-- line and no other character of a statement depends on the depths.
abbrev pub DepthsAreBlanksAlone : Type 0
DepthsAreBlanksAlone = (d e : Depths) (t : Pile) → without_blanks (pile_lines d t) ≡ without_blanks (pile_lines e t)
