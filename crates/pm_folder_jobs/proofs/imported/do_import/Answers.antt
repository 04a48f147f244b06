use Rattle.std.proofs.Common.{rules, refl}
use Rattle.pm_folder_jobs.proofs.imported.do_import.Goals as goal

pub returns-in_ok-put-in-Ok-clause-imports : goal.returns-in_ok-put-in-Ok-clause-imports
returns-in_ok-put-in-Ok-clause-imports g c = (
  _,
  _,
  c.in_ok-left-in-Ok.field-0,
  search rules,
  search rules,
  search rules,
  c.in_ok-left-in-Ok.ensures.imports,
  refl,
  search rules,
  search rules,
)
