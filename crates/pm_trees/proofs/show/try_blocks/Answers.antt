use Rattle.std.proofs.Common.{◌≡◌, ◌+◌, ◌++◌, ◌∷◌, ◌∙◌, ℕ, List, ap, drop, reverse, slice_index_or}
use Rattle.std.specs.Prelude.{◌&&◌}
use Rattle.std.proofs.lemmas.List.{drop_all, drop_more}
use Rattle.pm_trees.specs.declared.backs.Loops.{Loops}
use Rattle.pm_trees.specs.declared.statement.Leads.TheVariants as leads
use Rattle.pm_trees.specs.declared.statement.Statement.{Statement}
use Rattle.pm_trees.specs.Blocks.{end_here, end_lines, is_empty, open_after, open_at, statement_lines}
use Rattle.pm_trees.proofs.Growing.{growing_done, growing_step}
use Rattle.pm_trees.proofs.show.try_blocks.Goals as goal

-- A statement that is returned for an index after the end of the list.
abbrev nothing : Statement
nothing = record { at = 0; behind = 0; leads = leads.Nowhere }

pub loop-statement-preserved : goal.loop-statement-preserved
loop-statement-preserved c =
    let i : ℕ = c.loop-statement.statement-index in
    let all : List Statement = c.args.statements.now in
    let s : Statement = slice_index_or all i nothing in
    let front : drop i all ≡ s ∷ drop (i + 1) all = drop_more all i nothing c.loop-statement-test.true in
    let ls = c.loop-statement.lines.items in
    let bs = reverse c.loop-statement.nest.items in
    let here : Loops = c.loops_at-here.result in
    growing_step all c.loop-statement.so_far c.in_ok-ends_right.ends_right c.both-so_far.result ls c.add.new.lines.items bs
    (reverse c.add.new.nest.items) s (drop (i + 1) all) (drop i all) here c.loop-statement.invariant front
    (c.loops_at-here.ensures.loops all c.in_ok-backs.ensures.of)
    (c.in_ok-ends_right.ensures.lines ∙ ap (λ (n : ℕ). ls ++ statement_lines n here s bs) c.code_end-limit.ensures.end)
    (c.in_ok-ends_right.ensures.nest ∙ ap (λ (n : ℕ). open_after n here s bs) c.code_end-limit.ensures.end)
    c.in_ok-ends_right.ensures.right c.both-so_far.ensures.value

pub returns : goal.returns
returns c =
    let i : ℕ = c.loop-statement.statement-index in
    let all : List Statement = c.args.statements.now in
    let ls = c.loop-statement.lines.items in
    let bs = reverse c.loop-statement.nest.items in
    let done = growing_done all c.loop-statement.so_far c.in_ok-last_right.last_right c.none_open-none.result c.both-right.result ls
    c.close_ended.new.lines.items bs (reverse c.close_ended.new.nest.items) (drop i all) c.loop-statement.invariant
    (drop_all i all c.loop-statement-test.false)
    (c.in_ok-last_right.ensures.lines ∙ ap (λ (n : ℕ). ls ++ end_lines n bs) c.code_end-limit.ensures.end)
    (c.in_ok-last_right.ensures.nest ∙ ap (λ (n : ℕ). open_at n bs) c.code_end-limit.ensures.end)
    (c.in_ok-last_right.ensures.here ∙ ap (λ (n : ℕ). end_here n bs) c.code_end-limit.ensures.end)
    (c.none_open-none.ensures.value ∙ ap (λ l. is_empty (reverse l)) c.deref.ensures.value)
    (c.both-right.ensures.value ∙ ap (λ x. x && c.none_open-none.result) c.both-all_right.ensures.value) in
    record { lines = done.0; right = done.1 }
