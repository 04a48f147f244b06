use Rattle.pm_runs.proofs.SavedLaws.{printer_front, where_err, where_ok}
use Rattle.pm_runs.proofs.saved.save_run.Goals as goal

pub returns-clause-saved : goal.returns-clause-saved
returns-clause-saved g c = where_ok c.save_printer.result (λ prints. (_, c.in_ok-save_images.ensures.saved, prints))
    c.save_printer.ensures.saved

pub returns-clause-front : goal.returns-clause-front
returns-clause-front g c = where_err c.save_printer.result (printer_front _ _ _ _ _ c.in_ok-save_images.ensures.saved)
    c.save_printer.ensures.unchanged
