use Rattle.std.proofs.Common.{◌≡◌, Ok, ap, sym, rules, not, true}
use Rattle.std.specs.Prelude.{◌==◌}
use Rattle.arrayvec.proofs.ArrayVecLemmas.{filter-from_retain}
use Rattle.pm_debug.specs.Watches.{is_watched, without_watch}
use Rattle.pm_debug.proofs.watches.clear.Goals as goal

pub returns-clause-cleared : goal.returns-clause-cleared
unfolding without_watch
returns-clause-cleared c =
    let there : is_watched c.args.old c.args.watches.now.items ≡ true = search rules in
    rw there (ap (λ xs. Ok xs) (sym (filter-from_retain _ (λ known. not (known == c.args.old)) _
    (λ x b f' y k. search rules) _ _ c.retain.ensures.filtered)))
