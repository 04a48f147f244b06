use Rattle.std.proofs.Common.{refl}
use Rattle.pm_runs.proofs.SavedLaws.{where_err, where_ok}
use Rattle.pm_runs.proofs.saved.save_images.Goals as goal

pub returns-in-Nothing-clause-saved : goal.returns-in-Nothing-clause-saved
returns-in-Nothing-clause-saved g c = rw c.in-Nothing.is
    (_, refl, (_, refl, (_, refl, (_, refl, (_, refl, (_, refl, refl))))))

pub returns-in-First-clause-saved : goal.returns-in-First-clause-saved
returns-in-First-clause-saved g c = rw c.in-First.is (where_ok c.save_image.result
    (λ saved. (_, saved, (_, refl, (_, refl, (_, refl, (_, refl, (_, refl, refl))))))) c.save_image.ensures.saved)
