use Rattle.std.proofs.Common.{◌≡◌, subst, sym}
use Rattle.std.specs.List.{AllByRecursion}
use Rattle.pm_statements.specs.Files.{IsSizedTable, table_callee}
use Rattle.pm_statements.proofs.Filed.{given}
use Rattle.pm_statements.proofs.sized.table_callee_once.Goals as goal

pub returns-in-Some-clause-callee : goal.returns-in-Some-clause-callee
returns-in-Some-clause-callee c =
    let segment = c.args.segment.now in
    let sized = subst (AllByRecursion (IsSizedTable segment)) (sym c.deref.ensures.value) c.requires.sized in
    given (λ callee. callee ≡ table_callee segment c.args.a) c.sized_before.result c.in-Some.callee c.in-Some.is
    (c.sized_before.ensures.callee segment sized)
