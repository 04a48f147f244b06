-- The effect of lending the machine of a debugger.
use Rattle.std.specs.Borrow.{Lends, MutBor, Fml}
use Rattle.pm_machine.specs.State.{Whole}
use Rattle.pm_machine.specs.contracts.machine.Machine.{the_row as machine_row}
use Rattle.pm_debug.specs.Session.{Debugged}
use Rattle.pm_debug.specs.contracts.debugger.Debugger.{the_row}

-- States that after the loan the debugger has the machine as the borrower left it. All other parts are unchanged.
abbrev pub LendsMachine : MutBor Debugged → MutBor Whole → Fml
LendsMachine d m = Lends the_row machine_row d m (λ machine. record d.now { machine = machine })
