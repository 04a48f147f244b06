use Rattle.std.proofs.Common.{rules}
use Rattle.pm_verbs.proofs.compared.do_compare.Goals as goal

-- src/compared.rt:59:1
pub returns-clause-compares : goal.returns-clause-compares
returns-clause-compares g c =
    (c.in-Ok.volume, c.in-Ok-2.volume, search rules, search rules, c.in_ok-write_compared.ensures.writes)
