use Rattle.std.proofs.Common.{inr}
use Rattle.pm_runs.proofs.SavedLaws.{where_err, where_ok}
use Rattle.pm_runs.proofs.saved.save_all.Goals as goal

pub returns-clause-saved : goal.returns-clause-saved
returns-clause-saved g c = where_ok c.save_others.result
    (λ saved. (_, c.in_ok-save_image.ensures.saved, saved)) c.save_others.ensures.saved

pub returns-clause-front : goal.returns-clause-front
returns-clause-front g c = where_err c.save_others.result
    (λ front. inr (_, c.in_ok-save_image.ensures.saved, front)) c.save_others.ensures.front
