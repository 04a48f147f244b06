use Rattle.std.proofs.Common.{◌≡◌, ◌+◌, ◌∙◌, map, max, drop, get_or, ap, sym, rules}
use Rattle.std.proofs.lemmas.List.{at_drop_more}
use Rattle.pm_line.specs.Views.{row_seen}
use Rattle.pm_code.specs.Program.{entries_needed}
use Rattle.pm_source.specs.Source.{entries_used, row_items}
use Rattle.pm_reader.proofs.EntryCounts.{used-more}
use Rattle.pm_reader.proofs.entries.entries_taken.Goals as goal

pub loop-row-preserved : goal.loop-row-preserved
loop-row-preserved c =
    let rows = c.args.rows.now in
    let i = c.loop-row.row-index in
    let row = get_or rows i c.row-item.result in
    let rest = map row_seen (drop (i + 1) rows) in
    let here = at_drop_more (λ rs. entries_used (map row_seen rs)) rows i c.row-item.result c.loop-row-test.true in
    let needed = c.row_entries.ensures.entries ∙ ap (λ r. entries_needed (row_items (row_seen r))) c.row-item.is in
    let top : c.max-most.result ≡ max c.loop-row.most c.row_entries.result = search rules in
    ap (λ n. max n (entries_used rest)) (top ∙ ap (max c.loop-row.most) needed)
    ∙ (used-more c.loop-row.most (row_seen row) rest ∙ (ap (max c.loop-row.most) (sym here) ∙ c.loop-row.invariant))
