use Rattle.std.proofs.Common.{◌≡◌, Ok, ap, sym, rules, not, true}
use Rattle.arrayvec.proofs.ArrayVecLemmas.{filter-from_retain}
use Rattle.pm_debug.specs.Breaks.{is_same, is_set, without_break}
use Rattle.pm_debug.specs.declared.breaks.Breakpoint.{Breakpoint}
use Rattle.pm_debug.proofs.breaks.clear.Goals as goal

pub returns-clause-cleared : goal.returns-clause-cleared
unfolding without_break
returns-clause-cleared c =
    let there : is_set c.args.old c.args.breaks.now.items ≡ true = search rules in
    rw there (ap (λ xs. Ok xs) (sym (filter-from_retain _ (λ (known : Breakpoint). not (is_same c.args.old known.spot)) _
    (λ x b f' y k. search rules) _ _ c.retain.ensures.filtered)))
