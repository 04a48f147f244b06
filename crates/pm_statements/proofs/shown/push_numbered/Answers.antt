use Rattle.pm_statements.proofs.shown.push_numbered.Goals as goal
