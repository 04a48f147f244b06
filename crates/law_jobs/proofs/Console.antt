-- Lemmas for what a session shows of the console output, one command after the other.
use Rattle.std.proofs.Common.{◌≡◌, ℕ, Bool, true, false, List, [], ◌∷◌, ◌++◌, length, drop, Option, None, Some, Result, Ok, Err, refl, sym, ap, ◌∙◌}
use Rattle.std.proofs.Common.{append-nil, append_assoc}
use Rattle.std.specs.Prelude.{if◌then◌else◌}
use Rattle.std.proofs.Math.Seq.{drop-append_seam}
use Rattle.std.specs.List.{flat_map}
use Rattle.pm_machine.specs.State.{State}
use Rattle.law_engine.proofs.OutputLaws.{outputs_only_grow}
use Rattle.pm_debug.specs.declared.breaks.Breakpoint.{Breakpoint}
use Rattle.pm_debug.specs.declared.breaks.Spot.TheVariants.{Code}
use Rattle.pm_debug.specs.declared.refusal.DebugRefusal.{DebugRefusal}
use Rattle.pm_debug.specs.Breaks.{breakpoint, with_break, without_break}
use Rattle.pm_machine.specs.CodePlaces.{code_place}
use Rattle.pm_debug.specs.Passes.{Passed}
use Rattle.pm_debug.specs.Runs.{gone_on}
use Rattle.pm_debug.specs.Session.{Session}
use Rattle.pm_debug.specs.Watches.{with_watch, without_watch}
use Rattle.pm_session.specs.declared.commands.Command.TheVariants as commands
use Rattle.pm_session.specs.Answers.{after_command, after_keys, after_on, answer_text, passing_on, session_after, with_breaks, with_watches}
use Rattle.pm_session.specs.Orders.{Order, order_of}
use Rattle.pm_session.specs.Orders.Order.{Does, Types}
use Rattle.pm_session.specs.Sessions.{answers, console_added, console_line, is_quit, with_feed}
use Rattle.law_jobs.specs.Console.{ConsoleIsShown, stays_on, written_by}
use Rattle.law_jobs.proofs.Shown.{command_made}

-- The console output after a command is the output before it, followed by what the command shows.
written : (command : Option Order) (d : Session)
    → (session_after command d).machine.devices.console ≡ d.machine.devices.console ++ console_added command d
written command d =
    let made = command_made command d in
    let grown = (outputs_only_grow d.machine made.0).console in
    let all : (session_after command d).machine.devices.console ≡ d.machine.devices.console ++ grown.more =
    ap (λ (m : State). m.devices.console) made.2 ∙ grown.whole in
    all ∙ ap (λ more. d.machine.devices.console ++ more)
    (sym (ap (drop (length d.machine.devices.console)) all ∙ drop-append_seam d.machine.devices.console grown.more))

-- ---- `console on` remains in effect

breaks_keep : (d : Session) (r : Result (List Breakpoint) DebugRefusal) → (with_breaks d r).shows_console ≡ d.shows_console
breaks_keep d (Ok breaks) = refl
breaks_keep d (Err refusal) = refl

watches_keep : (d : Session) (r : Result (List ℕ) DebugRefusal) → (with_watches d r).shows_console ≡ d.shows_console
watches_keep d (Ok watches) = refl
watches_keep d (Err refusal) = refl

on_keeps : (d : Session) (p : Option Passed) → (after_on d p).shows_console ≡ d.shows_console
on_keeps d None = refl
on_keeps d (Some p) = refl

typed_keep : (bytes : List ℕ) (d : Session) → (after_keys bytes d).shows_console ≡ d.shows_console
unfolding after_command
typed_keep [] d = refl
typed_keep (b ∷ bytes) d = typed_keep bytes (after_command (commands.Key b) d)

still_on : (command : Option Order) (d : Session) → stays_on command ≡ true → d.shows_console ≡ true → (session_after command d).shows_console ≡ true
unfolding after_command
still_on None d stays on = on
still_on (Some (Does (commands.Break s p o condition))) d stays on = breaks_keep d (with_break (breakpoint (Code (code_place s p o)) condition) d.breaks) ∙ on
still_on (Some (Does (commands.Clear s p o))) d stays on = breaks_keep d (without_break (Code (code_place s p o)) d.breaks) ∙ on
still_on (Some (Does (commands.BreakOn spot condition))) d stays on = breaks_keep d (with_break (breakpoint spot condition) d.breaks) ∙ on
still_on (Some (Does (commands.ClearOn spot))) d stays on = breaks_keep d (without_break spot d.breaks) ∙ on
still_on (Some (Does (commands.Watch a))) d stays on = watches_keep d (with_watch a d.watches) ∙ on
still_on (Some (Does (commands.Unwatch a))) d stays on = watches_keep d (without_watch a d.watches) ∙ on
still_on (Some (Does (commands.Poke a w))) d stays on = on
still_on (Some (Does (commands.Key b))) d stays on = on
still_on (Some (Does (commands.ShowConsole shows))) d stays on = stays
still_on (Some (Does (commands.Go n))) d stays on = on
still_on (Some (Does (commands.Step n))) d stays on = on
still_on (Some (Does (commands.Finish n))) d stays on = on
still_on (Some (Does (commands.Until s p o n))) d stays on = on
still_on (Some (Does (commands.On n))) d stays on = on_keeps d (passing_on d n (gone_on d.breaks d.left n d.machine)) ∙ on
still_on (Some (Does command)) d stays on = on
still_on (Some (Types bytes)) d stays on = typed_keep bytes d ∙ on

goes_on : (command : Option Order) → stays_on command ≡ true → is_quit command ≡ false
goes_on (Some (Does commands.Quit)) stays = absurd (cc)
goes_on _ stays = refl

-- ---- lines

shown_where_on : (b : Bool) (text : List ℕ) → b ≡ true → (if b then text else []) ≡ text
shown_where_on true text on = refl
shown_where_on false text on = absurd (cc)

first_answered : (line : List ℕ) (lines : List (List ℕ)) (d : Session) (more : List ℕ) → d.shows_console ≡ true → is_quit (order_of line) ≡ false
    → answers lines (session_after (order_of line) d) ≡ more
    → answers (line ∷ lines) d ≡ (console_line (console_added (order_of line) d) ++ with_feed (answer_text (order_of line) d)) ++ more
unfolding answers
first_answered line lines d more on other e =
    let command = order_of line in
    let alone = with_feed (answer_text command d) in
    let shown = ap (λ u. u ++ alone) (shown_where_on d.shows_console (console_line (console_added command d)) on) in
    rw other (ap (λ u. u ++ answers lines (session_after command d)) shown ∙ ap (λ u. (console_line (console_added command d) ++ alone) ++ u) e)

no_lines : (d : Session) → answers [] d ≡ []
unfolding answers
no_lines d = refl

pub console_is_shown : ConsoleIsShown
console_is_shown [] d on stay = record { answered = no_lines d; whole = sym (append-nil d.machine.devices.console) }
console_is_shown (line ∷ lines) d on stay =
    let command = order_of line in
    let rest = console_is_shown lines (session_after command d) (still_on command d stay.0 on) stay.1 in
    record {
      answered = first_answered line lines d _ on (goes_on command stay.0) rest.answered;
      whole = rest.whole ∙ ap (λ u. u ++ flat_map (λ part. part) (written_by lines (session_after command d))) (written command d)
          ∙ append_assoc d.machine.devices.console (console_added command d) _;
    }
