use Rattle.std.proofs.Common.{◌≡◌}
use Rattle.pm_debug.specs.Passes.{all_passed}
use Rattle.pm_session.specs.Answers.{ran_to}
use Rattle.pm_session.proofs.answers.pass.Given as goal

-- If the run that has passed over some breakpoints continues, then its outcome is that of the run from the beginning.
abbrev pub invariant-passes : goal.invariant-passes
invariant-passes l = record {
  passed : all_passed l.fn.debugger.breaks l.most l.fn.debugger.passes l.fn.debugger.left
      (ran_to l.fn.first.0 l.fn.first.1 l.fn.debugger.machine.state)
      ≡ all_passed l.debugger.breaks l.most l.debugger.passes l.debugger.left (ran_to l.ran.0 l.ran.1 l.debugger.machine.state);
  breaks : l.debugger.breaks ≡ l.fn.debugger.breaks;
  watches : l.debugger.watches ≡ l.fn.debugger.watches;
  shows : l.debugger.shows_console ≡ l.fn.debugger.shows_console;
}

abbrev pub decreases-passes : goal.decreases-passes
decreases-passes l = l.debugger.passes
