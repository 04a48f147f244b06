-- The depth of the lines that show statements in blocks.
use Rattle.std.specs.Prelude.{ℕ, ◌+◌, ◌-◌, Bool, true, false}
use Rattle.pm_trees.specs.declared.line.Word.{Word}
use Rattle.pm_trees.specs.declared.line.Word.TheVariants as word

-- Whether a line with this keyword has no statement.
abbrev pub is_extra : Word → Bool
is_extra word.Repeat = true
is_extra word.End = true
is_extra _ = false

-- The depth at which a line with this keyword is indented, if `blocks` blocks are open before the line.
abbrev pub depth_at : Word → ℕ → ℕ
depth_at word.Else blocks = blocks - 1
depth_at word.EndWhile blocks = blocks - 1
depth_at word.Until blocks = blocks - 1
depth_at word.EndCase blocks = blocks - 1
depth_at word.End blocks = blocks - 1
depth_at _ blocks = blocks

-- The number of open blocks after a line with this keyword, if `blocks` blocks are open before it.
abbrev pub depth_behind : Word → ℕ → ℕ
depth_behind word.If blocks = blocks + 1
depth_behind word.While blocks = blocks + 1
depth_behind word.Repeat blocks = blocks + 1
depth_behind word.Case blocks = blocks + 1
depth_behind word.EndWhile blocks = blocks - 1
depth_behind word.Until blocks = blocks - 1
depth_behind word.EndCase blocks = blocks - 1
depth_behind word.End blocks = blocks - 1
depth_behind _ blocks = blocks
