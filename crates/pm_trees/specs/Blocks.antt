-- The lines that show a list of statements in blocks. IF and ELSE blocks are closed by an END line. The other blocks
-- are closed by their own last statement.
use Rattle.std.specs.Prelude.{ℕ, Bool, true, false, not, ◌==◌, ◌&&◌, nat_le, nat_lt, if◌then◌else◌}
use Rattle.std.specs.Prelude.{List, [], ◌∷◌, ◌++◌, Option, Some, None}
use Rattle.pm_trees.specs.declared.backs.Loops.{Loops}
use Rattle.pm_trees.specs.declared.block.Block.{Block}
use Rattle.pm_trees.specs.declared.block.Kind.{Kind}
use Rattle.pm_trees.specs.declared.block.Kind.TheVariants as kind
use Rattle.pm_trees.specs.declared.line.Line.{Line}
use Rattle.pm_trees.specs.declared.line.Word.{Word}
use Rattle.pm_trees.specs.declared.line.Word.TheVariants as word
use Rattle.pm_trees.specs.declared.statement.Leads.{Leads}
use Rattle.pm_trees.specs.declared.statement.Leads.TheVariants as leads
use Rattle.pm_trees.specs.declared.statement.Statement.{Statement}
use Rattle.pm_trees.specs.Backs.{loops_at, place_of}

-- ---- open blocks, the innermost first

-- Whether a block of this kind is closed by its own last statement, and not by an END line.
abbrev pub closes_itself : Kind → Bool
closes_itself kind.If = false
closes_itself kind.Else = false
closes_itself (kind.While place) = true
closes_itself (kind.Repeat place) = true
closes_itself (kind.Case place) = true

-- Whether a block that ends at `end` is inside the innermost open block, or inside the code, which ends at `limit`, if
-- no block is open. The statement that closes a loop or a CASE is in no block inside it.
abbrev pub fits : ℕ → ℕ → List Block → Bool
fits limit end [] = nat_le end limit
fits limit end (b ∷ bs) = if closes_itself b.kind then nat_lt end b.end else nat_le end b.end

-- ---- closing of blocks that end at or before an offset

-- Whether the innermost block ends at or before `at`.
abbrev pub has_ended : ℕ → List Block → Bool
has_ended at [] = false
has_ended at (b ∷ bs) = nat_le b.end at

-- The blocks that are still open at `at`, after the blocks that end at or before `at` are removed.
abbrev pub open_at : ℕ → List Block → List Block
open_at at [] = []
open_at at (b ∷ bs) = if nat_le b.end at then open_at at bs else b ∷ bs

-- The END line for a block of the kind `k` that ends at `at`. Only IF and ELSE blocks have one.
abbrev pub end_line : ℕ → Kind → List Line
end_line at k = if closes_itself k then [] else record { word = word.End; at = at; behind = at } ∷ []

abbrev pub end_lines : ℕ → List Block → List Line
end_lines at [] = []
end_lines at (b ∷ bs) = if nat_le b.end at then end_line at b.kind ++ end_lines at bs else []

-- Whether a block ends exactly at `at` and is closed by an END line. A block that is closed by its own statement cannot
-- end there.
abbrev pub ends_here : ℕ → Block → Bool
ends_here at b = not (closes_itself b.kind) && b.end == at

-- Whether all blocks that end at or before `at` end exactly at `at`.
abbrev pub end_here : ℕ → List Block → Bool
end_here at [] = true
end_here at (b ∷ bs) = if nat_le b.end at then ends_here at b && end_here at bs else true

-- ---- loops that end with their condition

-- Whether a REPEAT loop from `at` to `end` is opened: `end` is after `at`, and the loop fits into the innermost block.
-- `end` is the end of the last statement that jumps back to `at` under a condition, or 0 if no such statement exists.
abbrev pub begins_loop : ℕ → ℕ → ℕ → List Block → Bool
begins_loop limit at end bs = nat_lt at end && fits limit end bs

abbrev pub repeat_lines : ℕ → ℕ → ℕ → List Block → List Line
repeat_lines limit at end bs =
    if begins_loop limit at end bs then record { word = word.Repeat; at = at; behind = at } ∷ [] else []

abbrev pub with_repeat : ℕ → ℕ → ℕ → List Block → List Block
with_repeat limit at end bs =
    if begins_loop limit at end bs then record { kind = kind.Repeat at; end = end } ∷ bs else bs

-- ---- the keyword of a statement

abbrev pub is_if : Kind → Bool
is_if kind.If = true
is_if _ = false

abbrev pub is_while_from : ℕ → Kind → Bool
is_while_from place (kind.While p) = p == place
is_while_from place _ = false

abbrev pub is_repeat_from : ℕ → Kind → Bool
is_repeat_from place (kind.Repeat p) = p == place
is_repeat_from place _ = false

abbrev pub is_case : Kind → Bool
is_case (kind.Case place) = true
is_case _ = false

abbrev pub is_case_to : ℕ → Kind → Bool
is_case_to place (kind.Case p) = p == place
is_case_to place _ = false

-- Whether the innermost block is the WHILE loop that begins at `place` and ends at `behind`.
abbrev pub ends_while : ℕ → ℕ → List Block → Bool
ends_while place behind [] = false
ends_while place behind (b ∷ bs) = is_while_from place b.kind && b.end == behind

abbrev pub ends_repeat : ℕ → ℕ → List Block → Bool
ends_repeat place behind [] = false
ends_repeat place behind (b ∷ bs) = is_repeat_from place b.kind && b.end == behind

-- Whether the innermost block is the CASE whose case jump is at `place`, and which ends at `behind`.
abbrev pub ends_case : ℕ → ℕ → List Block → Bool
ends_case place behind [] = false
ends_case place behind (b ∷ bs) = is_case_to place b.kind && b.end == behind

-- Whether the innermost block is a CASE that ends at `place`.
abbrev pub leaves_case : ℕ → List Block → Bool
leaves_case place [] = false
leaves_case place (b ∷ bs) = is_case b.kind && b.end == place

-- Whether the innermost block is an IF block that ends at `behind`, and an ELSE block up to `end` fits into the block
-- around it.
abbrev pub ends_if : ℕ → ℕ → ℕ → List Block → Bool
ends_if limit end behind [] = false
ends_if limit end behind (b ∷ bs) = (is_if b.kind && b.end == behind) && fits limit end bs

-- The keyword of a statement that ends at `behind` and jumps to `place` under a condition. A jump forward over
-- statements that fit into the innermost block is IF or WHILE. It is WHILE if the last statement that always jumps back
-- to this statement ends at `place`. A jump back to the beginning of the innermost REPEAT loop is UNTIL.
abbrev pub condition_word : ℕ → ℕ → ℕ → ℕ → List Block → Word
condition_word limit again behind place bs =
    if nat_lt behind place && fits limit place bs then (if again == place then word.While else word.If)
    else if ends_repeat place behind bs then word.Until
    else word.Plain (leads.ByCondition place)

-- Whether the statements between a jump and its target form a CASE block that fits into the innermost block. `end` is
-- the end of the case jump at the target, or 0 if the target is no case jump.
abbrev pub begins_case : ℕ → ℕ → ℕ → ℕ → List Block → Bool
begins_case limit end behind place bs = nat_lt behind place && (nat_lt place end && fits limit end bs)

-- The keyword of a statement that ends at `behind` and always jumps to `place`. It may jump back to the condition of
-- the innermost WHILE loop, forward from the end of an IF block, to the end of the innermost CASE, or to a case jump.
abbrev pub always_word : ℕ → ℕ → ℕ → ℕ → List Block → Word
always_word limit end behind place bs =
    if ends_while place behind bs then word.EndWhile
    else if nat_lt behind place && ends_if limit place behind bs then word.Else
    else if leaves_case place bs then word.Leave
    else if begins_case limit end behind place bs then word.Case
    else word.Plain (leads.Always place)

-- The keyword of a case jump from `at` to `behind`.
abbrev pub value_word : ℕ → ℕ → List Block → Word
value_word at behind bs = if ends_case at behind bs then word.EndCase else word.Plain leads.ByValue

abbrev pub word_by : ℕ → Loops → ℕ → ℕ → Leads → List Block → Word
word_by limit here at behind leads.Nowhere bs = word.Plain leads.Nowhere
word_by limit here at behind (leads.ByCondition place) bs = condition_word limit here.always behind place bs
word_by limit here at behind (leads.Always place) bs = always_word limit here.by_value behind place bs
word_by limit here at behind leads.ByValue bs = value_word at behind bs

abbrev pub without_first : List Block → List Block
without_first [] = []
without_first (b ∷ bs) = bs

-- Whether a statement with this keyword closes the innermost block.
abbrev pub closes_one : Word → Bool
closes_one word.Else = true
closes_one word.EndWhile = true
closes_one word.Until = true
closes_one word.EndCase = true
closes_one _ = false

-- The block that the statement `s` with this keyword opens, if it opens one. A CASE block ends at `end`.
abbrev pub opened_by : ℕ → Word → Statement → Option Block
opened_by end word.If s = Some (record { kind = kind.If; end = place_of s.leads })
opened_by end word.Else s = Some (record { kind = kind.Else; end = place_of s.leads })
opened_by end word.While s = Some (record { kind = kind.While s.at; end = place_of s.leads })
opened_by end word.Case s = Some (record { kind = kind.Case (place_of s.leads); end = end })
opened_by end _ s = None

abbrev pub with_opened : Option Block → List Block → List Block
with_opened None bs = bs
with_opened (Some b) bs = b ∷ bs

-- The open blocks after the statement `s` with the keyword `word`: without the block that it closes, and with the block
-- that it opens. A CASE block ends at `end`.
abbrev pub open_behind : ℕ → Word → Statement → List Block → List Block
open_behind end word s bs = with_opened (opened_by end word s) (if closes_one word then without_first bs else bs)

-- ---- lines

-- The open blocks at the beginning of the statement `s`, including a REPEAT loop that begins at `s`.
abbrev pub open_around : ℕ → Loops → Statement → List Block → List Block
open_around limit here s bs = with_repeat limit s.at here.by_condition (open_at s.at bs)

abbrev pub word_of : ℕ → Loops → Statement → List Block → Word
word_of limit here s bs = word_by limit here s.at s.behind s.leads (open_around limit here s bs)

abbrev pub line_of : Word → Statement → Line
line_of w s = record { word = w; at = s.at; behind = s.behind }

-- The lines of the statement `s`: the END lines of blocks before it, the line of a REPEAT loop that begins at it, and
-- the line of the statement itself.
abbrev pub statement_lines : ℕ → Loops → Statement → List Block → List Line
statement_lines limit here s bs = (end_lines s.at bs ++ repeat_lines limit s.at here.by_condition (open_at s.at bs))
    ++ line_of (word_of limit here s bs) s ∷ []

abbrev pub open_after : ℕ → Loops → Statement → List Block → List Block
open_after limit here s bs = open_behind here.by_value (word_of limit here s bs) s (open_around limit here s bs)

-- The lines of the remaining statements, if the blocks `bs` are open. `all` is the list of all statements, and `limit`
-- is the end of the code.
unfoldable pub lines_from : ℕ → List Statement → List Block → List Statement → List Line
lines_from limit all bs [] = end_lines limit bs
lines_from limit all bs (s ∷ ss) = statement_lines limit (loops_at all s) s bs
    ++ lines_from limit all (open_after limit (loops_at all s) s bs) ss

abbrev pub is_empty : List Block → Bool
is_empty [] = true
is_empty (b ∷ bs) = false

-- Whether each block is closed by its own statement, or ends exactly where a statement begins or where the code ends.
unfoldable pub all_end : ℕ → List Statement → List Block → List Statement → Bool
all_end limit all bs [] = end_here limit bs && is_empty (open_at limit bs)
all_end limit all bs (s ∷ ss) =
    end_here s.at bs && all_end limit all (open_after limit (loops_at all s) s bs) ss

-- The offset after the last of the statements, or `end` if the list is empty.
abbrev pub end_behind : ℕ → List Statement → ℕ
end_behind end [] = end
end_behind end (s ∷ ss) = end_behind s.behind ss

abbrev pub code_end : List Statement → ℕ
code_end ss = end_behind 0 ss

abbrev pub if_all : Bool → List Line → Option (List Line)
if_all b ls = if b then Some ls else None

-- The lines that show the statements `ss` in blocks. It is `None` if a block does not end at the target of its jump.
unfoldable pub blocks : List Statement → Option (List Line)
blocks ss = if_all (all_end (code_end ss) ss [] ss) (lines_from (code_end ss) ss [] ss)
