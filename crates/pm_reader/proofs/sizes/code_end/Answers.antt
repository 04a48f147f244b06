use Rattle.std.proofs.Common.{refl}
use Rattle.pm_line.specs.Views.{row_seen}
use Rattle.pm_code.proofs.Lists.{there}
use Rattle.pm_reader.proofs.Least.{too_long_row}
use Rattle.pm_reader.proofs.sizes.code_end.Goals as goal

pub returns-in_err-end-clause-too_long : goal.returns-in_err-end-clause-too_long
returns-in_err-end-clause-too_long c =
    let next = there c.args.rows.now c.loop-row.row-index c.row-item.result c.loop-row-test.true c.row-item.is in
    let long = c.in_err-end.ensures.too_long refl in
    λ none. too_long_row row_seen _ c.loop-row.end _ _ c.row-item.result _ next c.loop-row.invariant long
