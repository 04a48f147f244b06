-- Lemmas for runs of a session that are continued by `on`.
use Rattle.std.proofs.Common.{◌≡◌, ◌≤◌, ℕ, ◌+◌, true, false, Option, Some, None, refl, ap}
use Rattle.pm_debug.specs.declared.run.Depth.{Depth}
use Rattle.pm_debug.specs.declared.run.Depth.TheVariants as depths
use Rattle.pm_debug.specs.Passes.{Passed}
use Rattle.pm_debug.specs.Runs.{Left, gone_on, gone_to, has_rest, is_there}
use Rattle.pm_debug.specs.Runs.Left.{AtBreak, Nothing, Rest}
use Rattle.pm_debug.specs.Session.{Session}
use Rattle.pm_machine.specs.CodePlaces.{code_place}
use Rattle.pm_session.specs.declared.commands.Command.TheVariants as commands
use Rattle.pm_session.specs.Answers.{after_command, after_on, after_passing, command_text, gone_text, on_text, passing, passing_on}
use Rattle.law_jobs.specs.OneRun.{GoesOnAsOne, NothingGoesOn}
use Rattle.law_jobs.proofs.PassRuns.{passing_goes_on}

module _ (depth : Depth) (a b : ℕ) (d : Session) (small : a + b ≤ 4294967295) where
  -- Returns the result of the run with at most `n` steps.
  abbrev pub past : ℕ → Passed
  past n = passing d depth n (gone_to d.breaks d.watches (is_there depth) n d.machine)

  -- Returns the result of continuing the run of `a` steps by `b` steps.
  abbrev pub rest : Option Passed
  rest = passing_on (after_passing d (past a)) b (gone_on d.breaks (past a).left b (past a).run.machine)

  module _ (some : has_rest (past a).left ≡ true) where
    pub same_session : after_on (after_passing d (past a)) rest ≡ after_passing d (past (a + b))
    same_session = ap (after_on (after_passing d (past a))) (passing_goes_on d depth a b small some)

    pub same_answer : on_text rest ≡ gone_text (past (a + b)).run.reason (past (a + b)).run.steps
    same_answer = ap on_text (passing_goes_on d depth a b small some)

pub go_goes_on : GoesOnAsOne commands.Go
unfolding after_command command_text
go_goes_on a b d small some = record {
  session = same_session depths.Any a b d small some;
  answer = ap Some (same_answer depths.Any a b d small some);
}

pub step_goes_on : GoesOnAsOne commands.Step
unfolding after_command command_text
step_goes_on a b d small some = record {
  session = same_session (depths.Back d.machine.registers.mp) a b d small some;
  answer = ap Some (same_answer (depths.Back d.machine.registers.mp) a b d small some);
}

pub finish_goes_on : GoesOnAsOne commands.Finish
unfolding after_command command_text
finish_goes_on a b d small some = record {
  session = same_session (depths.Left d.machine.registers.mp) a b d small some;
  answer = ap Some (same_answer (depths.Left d.machine.registers.mp) a b d small some);
}

pub until_goes_on : (s p o : ℕ) → GoesOnAsOne (commands.Until s p o)
unfolding after_command command_text
until_goes_on s p o a b d small some = record {
  session = same_session (depths.Place (code_place s p o)) a b d small some;
  answer = ap Some (same_answer (depths.Place (code_place s p o)) a b d small some);
}

pub nothing_goes_on : NothingGoesOn
unfolding after_command command_text
nothing_goes_on n d none = record {
  session = ap (λ g. after_on d (passing_on d n g)) (no_rest d.left none);
  answer = ap (λ g. Some (on_text (passing_on d n g))) (no_rest d.left none);
}
  where
    no_rest : (left : Left) → has_rest left ≡ false → gone_on d.breaks left n d.machine ≡ None
    no_rest Nothing h = refl
    no_rest (AtBreak depth made watched) h = refl
    no_rest (Rest depth made watched) h = absurd (cc)
