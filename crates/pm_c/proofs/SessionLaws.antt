-- Proofs of the laws about a session with a handle.
use Rattle.std.proofs.Common.{◌≡◌, ◌+◌, ℕ, List, [], ◌∷◌, ◌++◌, Bool, true, false, ap, refl, sym}
use Rattle.std.specs.Prelude.{if◌then◌else◌}
use Rattle.pm_debug.specs.Session.{Session}
use Rattle.pm_debug.specs.Breaks.{with_break}
use Rattle.pm_debug.specs.RunLaws.{AreOneRun}
use Rattle.pm_debug.specs.Runs.{gone, left_of}
use Rattle.pm_debug.specs.declared.run.Depth.TheVariants.{Any}
use Rattle.pm_debug.proofs.OnLaws.{runs_go_on_as_one}
use Rattle.pm_session.proofs.SessionLaws.{after_none}
use Rattle.pm_session.specs.Answers.{after_command, command_text, session_after}
use Rattle.pm_session.specs.Commands.{command_of, command_rows, number_behind, numbers}
use Rattle.pm_session.specs.Orders.{order_of, typed}
use Rattle.pm_session.specs.Words.{pieces_between, without_empty, without_return, words_of_line}
use Rattle.pm_session.specs.Sessions.{answer_line, answers, is_quit}
use Rattle.pm_c.specs.Laws.{CallsAreLines, LinesAreASession, SlicesAreOneRun, run_of}

parted : (quits : Bool) (text rest : List ℕ)
    → (if quits then [] else (text ++ rest)) ≡ (if quits then [] else text) ++ (if quits then [] else rest)
parted true text rest = refl
parted false text rest = refl

one_line : (line : List ℕ) (lines : List (List ℕ)) (d : Session)
    → answers (line ∷ lines) d ≡ (if is_quit (order_of line) then [] else answer_line (order_of line) d)
    ++ (if is_quit (order_of line) then [] else answers lines (session_after (order_of line) d))
unfolding answers
one_line line lines d =
    parted (is_quit (order_of line)) (answer_line (order_of line) d) (answers lines (session_after (order_of line) d))

pub lines_are_a_session : LinesAreASession
unfolding typed without_return command_of words_of_line without_empty pieces_between numbers command_rows number_behind
    command_text with_break
lines_are_a_session = record {
  answers = λ line lines d. one_line line lines d;
  no_command = λ s. refl;
  quits = λ s. refl;
  takes_a_break = λ s. refl;
}

pub calls_are_lines : CallsAreLines
unfolding after_command
calls_are_lines = record {
  sets = λ s p o d. refl;
  clears = λ s p o d. refl;
  watches = λ a d. refl;
  unwatches = λ a d. refl;
  goes = λ n d none. sym (after_none d Any n (gone d.breaks d.watches n d.machine) none);
}

pub slices_are_one_run : SlicesAreOneRun
slices_are_one_run d limit more small stopped =
    let one : AreOneRun d.breaks d.watches Any limit more d.machine (run_of d limit).machine
    (left_of Any d.watches d.machine (run_of d limit)) =
    runs_go_on_as_one d.breaks d.watches Any limit more d.machine small stopped in
    record {
      outcome = one.ran;
      session = ap (λ left. record d { machine = (run_of d (limit + more)).machine; left = left }) one.left;
    }
