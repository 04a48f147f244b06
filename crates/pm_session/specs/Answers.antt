-- The answers of a debugger to commands, and the effects of the commands.
use Rattle.std.specs.Prelude.{ℕ, List, [], ◌∷◌, ◌++◌, Option, Some, None, Result, Ok, Err, if◌then◌else◌, codes}
use Rattle.std.specs.Fmt.{decimal}
use Rattle.pm_words.specs.Stack.{is_even}
use Rattle.pm_calls.specs.declared.registers.Registers.{Registers}
use Rattle.pm_calls.specs.Places.{keeps_of, placed}
use Rattle.pm_machine.specs.Events.{Key, Poke, next}
use Rattle.pm_debug.specs.Breaks.{breakpoint, with_break, without_break}
use Rattle.pm_machine.specs.CodePlaces.{code_place}
use Rattle.pm_debug.specs.Refusals.{or_refused}
use Rattle.pm_debug.specs.Passes.{Passed, all_passed, most_on}
use Rattle.pm_debug.specs.Runs.{Gone, gone, gone_on, gone_out, gone_over, gone_until, left_after, left_of, left_on}
use Rattle.pm_debug.specs.Runs.Left.{Nothing}
use Rattle.pm_debug.specs.declared.run.Depth.{Depth}
use Rattle.pm_debug.specs.declared.run.Depth.TheVariants as depths
use Rattle.pm_machine.specs.State.{State}
use Rattle.pm_debug.specs.Session.{Session}
use Rattle.pm_trace.specs.Trace.{trace_line}
use Rattle.pm_debug.specs.Views.{dynamic_chain, local, stack_words, static_chain}
use Rattle.pm_debug.specs.Watches.{with_watch, without_watch}
use Rattle.pm_debug.specs.declared.breaks.Breakpoint.{Breakpoint}
use Rattle.pm_debug.specs.declared.breaks.Spot.TheVariants.{Code}
use Rattle.pm_debug.specs.declared.reason.BreakReason.{BreakReason}
use Rattle.pm_debug.specs.declared.reason.BreakReason.TheVariants as reasons
use Rattle.pm_debug.specs.declared.refusal.DebugRefusal.{DebugRefusal}
use Rattle.pm_debug.specs.declared.refusal.DebugRefusal.TheVariants.{NothingLeft, OddAddress}
use Rattle.pm_session.specs.declared.commands.Command.{Command}
use Rattle.pm_session.specs.declared.commands.Command.TheVariants as commands
use Rattle.pm_session.specs.declared.ending.Ending.TheVariants as endings
use Rattle.pm_session.specs.Endings.{last_line}
use Rattle.pm_session.specs.Orders.{Order}
use Rattle.pm_session.specs.Orders.Order.{Does, Types}
use Rattle.pm_session.specs.Texts.{chain_text, numbers_text, refused_text}
use Rattle.pm_session.specs.Views.{view_text}

-- The answer to a command that shows nothing: `ok`, or the refusal.
abbrev pub done_text : {A : Type 0} → Result A DebugRefusal → List ℕ
done_text (Ok x) = codes "ok"
done_text (Err refusal) = refused_text refusal

abbrev pub word_text : Result ℕ DebugRefusal → List ℕ
word_text (Ok word) = decimal word
word_text (Err refusal) = refused_text refusal

-- The answer for a segment: its address, the number of its calls, and how many times the program keeps it loaded. The
-- answer is `none` if the segment is not in memory.
abbrev pub place_text : Option (ℕ × ℕ) → Option ℕ → List ℕ
place_text (Some at) (Some keeps) = numbers_text (at.0 ∷ at.1 ∷ keeps ∷ [])
place_text (Some at) None = codes "none"
place_text None keeps = codes "none"

-- The answer to a run. It has the form of the last line of a trace, but counts only the steps of this run. If a watched
-- word has changed, the address of the word follows.
abbrev pub gone_text : BreakReason → ℕ → List ℕ
gone_text (reasons.Changed address) steps = codes "changed " ++ (decimal steps ++ (32 ∷ decimal address))
gone_text reasons.Break steps = codes "break " ++ decimal steps
gone_text reasons.There steps = codes "stop " ++ decimal steps
gone_text reasons.Limit steps = last_line endings.Limit steps
gone_text reasons.Waiting steps = last_line endings.Waiting steps
gone_text reasons.Ended steps = last_line endings.Ended steps
gone_text (reasons.Halted error) steps = last_line (endings.Error error) steps

-- The outcome of a run with these steps, this reason, and the last state `s`.
abbrev pub ran_to : ℕ → BreakReason → State → Gone
ran_to steps reason s = record { steps = steps; reason = reason; machine = s }

-- The outcome of a run to the destination `depth`, of at most `most` steps, after the breakpoints that it passes over.
abbrev pub passing : Session → Depth → ℕ → Gone → Passed
passing d depth most run = all_passed d.breaks most d.passes (left_of depth d.watches d.machine run) run

-- The outcome of the continuation of the last run, for at most `n` more steps, after the breakpoints that it passes
-- over.
abbrev pub passing_on : Session → ℕ → Option Gone → Option Passed
passing_on d n (Some run) =
    Some (all_passed d.breaks (most_on d.left n) d.passes (left_on d.breaks d.left n d.machine) run)
passing_on d n None = None

-- The answer to a run that has passed over breakpoints.
abbrev pub run_text : Passed → Option (List ℕ)
run_text p = Some (gone_text p.run.reason p.run.steps)

-- The answer to a continued run: the steps of the whole run, or the refusal if no run can be continued.
abbrev pub on_text : Option Passed → List ℕ
on_text (Some p) = gone_text p.run.reason p.run.steps
on_text None = refused_text NothingLeft

unfoldable pub registers_text : Registers → List ℕ
registers_text r =
    codes "IPC " ++ (decimal r.ipc ++ (codes " SP "
    ++ (decimal r.sp ++ (codes " SEG " ++ (decimal r.seg ++ (codes " JTAB " ++ (decimal r.jtab
    ++ (codes " MP " ++ (decimal r.mp ++ (codes " BASE "
    ++ (decimal r.base ++ (codes " NP " ++ (decimal r.np ++ (codes " IO " ++ decimal r.ioresult))))))))))))))

-- The answer to a command, without a line feed. `quit` ends the session and has no answer.
unfoldable pub command_text : Command → Session → Option (List ℕ)
command_text (commands.Break s p o condition) d =
    Some (done_text (with_break (breakpoint (Code (code_place s p o)) condition) d.breaks))
command_text (commands.Clear s p o) d = Some (done_text (without_break (Code (code_place s p o)) d.breaks))
command_text (commands.BreakOn spot condition) d = Some (done_text (with_break (breakpoint spot condition) d.breaks))
command_text (commands.ClearOn spot) d = Some (done_text (without_break spot d.breaks))
command_text (commands.Watch a) d = Some (done_text (with_watch a d.watches))
command_text (commands.Unwatch a) d = Some (done_text (without_watch a d.watches))
command_text (commands.Poke a w) d = Some (if is_even a then codes "ok" else refused_text OddAddress)
command_text (commands.Key b) d = Some (codes "ok")
command_text (commands.ShowConsole shows) d = Some (codes "ok")
command_text (commands.Go n) d = run_text (passing d depths.Any n (gone d.breaks d.watches n d.machine))
command_text (commands.Step n) d =
    run_text (passing d (depths.Back d.machine.registers.mp) n (gone_over d.breaks d.watches n d.machine))
command_text (commands.Finish n) d =
    run_text (passing d (depths.Left d.machine.registers.mp) n (gone_out d.breaks d.watches n d.machine))
command_text (commands.Until s p o n) d = run_text (passing d (depths.Place (code_place s p o)) n
    (gone_until d.breaks d.watches (code_place s p o) n d.machine))
command_text (commands.On n) d = Some (on_text (passing_on d n (gone_on d.breaks d.left n d.machine)))
command_text (commands.Ignore k) d = Some (codes "ok")
command_text (commands.Stack n) d = Some (numbers_text (stack_words d.machine n))
command_text (commands.Static n) d = Some (chain_text (static_chain d.machine n))
command_text (commands.Dynamic n) d = Some (chain_text (dynamic_chain d.machine n))
command_text (commands.Local depth b) d = Some (word_text (or_refused (local d.machine depth b)))
command_text commands.Registers d = Some (registers_text d.machine.registers)
command_text (commands.Place n) d =
    Some (place_text (placed d.machine.places n) (keeps_of d.machine.places n))
command_text commands.Trace d = Some (trace_line d.machine)
command_text (commands.Show view) d = Some (view_text view d)
command_text commands.Quit d = None

-- The session after a breakpoint was set or removed. A refusal leaves it unchanged.
abbrev pub with_breaks : Session → Result (List Breakpoint) DebugRefusal → Session
with_breaks d (Ok breaks) = record d { breaks = breaks }
with_breaks d (Err refusal) = d

-- The session after a watched word was set or removed. Afterwards the last run cannot be continued. A refusal leaves
-- the session unchanged.
abbrev pub with_watches : Session → Result (List ℕ) DebugRefusal → Session
with_watches d (Ok watches) = record d { watches = watches; left = Nothing }
with_watches d (Err refusal) = d

-- The session after a run to the destination `depth`.
abbrev pub after_run : Session → Depth → Gone → Session
after_run d depth run = record d {
  machine = run.machine;
  left = left_after depth d.watches d.machine run.steps run.reason;
}

-- The session after a run that has passed over breakpoints.
abbrev pub after_passing : Session → Passed → Session
after_passing d p = record d { machine = p.run.machine; left = p.left; passes = p.passes }

-- The session after a continued run. It is unchanged if no run can be continued.
abbrev pub after_on : Session → Option Passed → Session
after_on d (Some p) = after_passing d p
after_on d None = d

-- The session after a command. A command that is not listed here only shows the session, or ends it.
unfoldable pub after_command : Command → Session → Session
after_command (commands.Break s p o condition) d =
    with_breaks d (with_break (breakpoint (Code (code_place s p o)) condition) d.breaks)
after_command (commands.Clear s p o) d = with_breaks d (without_break (Code (code_place s p o)) d.breaks)
after_command (commands.BreakOn spot condition) d = with_breaks d (with_break (breakpoint spot condition) d.breaks)
after_command (commands.ClearOn spot) d = with_breaks d (without_break spot d.breaks)
after_command (commands.Watch a) d = with_watches d (with_watch a d.watches)
after_command (commands.Unwatch a) d = with_watches d (without_watch a d.watches)
after_command (commands.Poke a w) d = record d { machine = next d.machine (Poke a w) }
after_command (commands.Key b) d = record d { machine = next d.machine (Key b) }
after_command (commands.ShowConsole shows) d = record d { shows_console = shows }
after_command (commands.Go n) d =
    after_passing d (passing d depths.Any n (gone d.breaks d.watches n d.machine))
after_command (commands.Step n) d = after_passing d
    (passing d (depths.Back d.machine.registers.mp) n (gone_over d.breaks d.watches n d.machine))
after_command (commands.Finish n) d = after_passing d
    (passing d (depths.Left d.machine.registers.mp) n (gone_out d.breaks d.watches n d.machine))
after_command (commands.Until s p o n) d = after_passing d
    (passing d (depths.Place (code_place s p o)) n (gone_until d.breaks d.watches (code_place s p o) n d.machine))
after_command (commands.On n) d = after_on d (passing_on d n (gone_on d.breaks d.left n d.machine))
after_command (commands.Ignore k) d = record d { passes = k }
after_command other d = d

-- The session after bytes were appended to the console input queue, each as by `key`.
abbrev pub after_keys : List ℕ → Session → Session
after_keys [] d = d
after_keys (b ∷ bytes) d = after_keys bytes (after_command (commands.Key b) d)

-- The answer to a line, without a line feed. The answer to an invalid line is `?`.
abbrev pub answer_text : Option Order → Session → Option (List ℕ)
answer_text None d = Some (codes "?")
answer_text (Some (Does command)) d = command_text command d
answer_text (Some (Types bytes)) d = Some (codes "ok")

abbrev pub session_after : Option Order → Session → Session
session_after None d = d
session_after (Some (Does command)) d = after_command command d
session_after (Some (Types bytes)) d = after_keys bytes d
