use Rattle.std.proofs.Common.{◌<◌, ◌∙◌, rules}
use Rattle.pm_filer.proofs.FittingLaws.{last_first}
use Rattle.pm_filer.proofs.fitting.remove_first.Goals as goal

pub slots-preserved : goal.slots-preserved
slots-preserved c =
    let some : 0 < c.slots.before = search rules in (
      rw c.remove_if_fitting.ensures.removed (last_first _ c.slots.before c.slots.volume some ∙ c.slots.invariant.0),
      λ v. c.remove_if_fitting.ensures.volume (c.slots.invariant.1 v),
    )
