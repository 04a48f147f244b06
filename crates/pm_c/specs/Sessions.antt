-- How calls on a handle change the session of its debugger.
use Rattle.std.specs.Prelude.{◌≡◌, ◌≢◌, ℕ, ◌+◌, Bool, List, [], Option, None, Some, Result, Ok, Err, if◌then◌else◌}
use Rattle.std.specs.Prelude.{string_bytes}
use Rattle.pm_words.specs.Errors.{number_of as error_number}
use Rattle.pm_machine.specs.Runs.{GaveUp}
use Rattle.pm_machine.specs.declared.code_place.CodePlace.{CodePlace}
use Rattle.pm_debug.specs.Breaks.{breakpoint, with_break, without_break}
use Rattle.pm_debug.specs.Refusals.{number_of}
use Rattle.pm_debug.specs.Runs.{GaveUpOn, Gone, gone, gone_on, left_on, nowhere, stops_after}
use Rattle.pm_debug.specs.Session.{Debugged, Session, session_of}
use Rattle.pm_debug.specs.Watches.{with_watch, without_watch}
use Rattle.pm_debug.specs.declared.breaks.Breakpoint.{Breakpoint}
use Rattle.pm_debug.specs.declared.breaks.Spot.TheVariants.{Code}
use Rattle.pm_debug.specs.declared.refusal.DebugRefusal.{DebugRefusal}
use Rattle.pm_debug.specs.declared.refusal.DebugRefusal.TheVariants.{NothingLeft}
use Rattle.pm_debug.specs.declared.reason.BreakReason.{BreakReason}
use Rattle.pm_debug.specs.declared.reason.BreakReason.TheVariants as reasons
use Rattle.pm_debug.specs.declared.run.Depth.TheVariants.{Any}
use Rattle.pm_session.specs.Answers.{after_run, session_after, with_breaks, with_watches}
use Rattle.pm_session.specs.Orders.{order_of}
use Rattle.pm_session.specs.Sessions.{answer_line, is_quit}
use Rattle.pm_c.specs.declared.held.Held.{Held}
use Rattle.pm_c.specs.declared.status.TheConstants.{AT_BREAK, CHANGED, DONE, NO_MACHINE, NO_MEMORY}

-- The effect of a call on a handle as in `Leads`, except that a handle with a machine can also become empty. Then the
-- status is `NO_MEMORY`.
abbrev pub LeadsOrEnds : ℕ → Option Held → Option Held → (Held → Held → Type 0) → Type 0
LeadsOrEnds status None new P = (status ≡ NO_MACHINE) × (new ≡ None)
LeadsOrEnds status (Some m) None P = status ≡ NO_MEMORY
LeadsOrEnds status (Some m) (Some n) P = P m n

-- Returns the answer to the line `line` in the session `d`. The answer to `quit` is empty.
abbrev pub line_answer : List ℕ → Session → List ℕ
line_answer line d = if is_quit (order_of line) then [] else answer_line (order_of line) d

-- The command in `line` was executed: the session is the session after this command, the answer is stored, and the
-- ejected disk is unchanged.
pub record Commands (line : List ℕ) (status : ℕ) (m n : Held) : Type 0 where
  pub done : status ≡ DONE
  pub session : session_of n.debugger ≡ session_after (order_of line) (session_of m.debugger)
  pub answer : string_bytes n.answer ≡ line_answer line (session_of m.debugger)
  pub ejected : n.ejected ≡ m.ejected

-- ---- breakpoints and watched words

-- Returns the status of a call that sets or clears a breakpoint or a watched word: 500 plus the number of the refusal.
abbrev pub set_code : {A : Type 0} → Result A DebugRefusal → ℕ
set_code (Ok after) = DONE
set_code (Err refusal) = 500 + number_of refusal

-- Returns the breakpoints after a breakpoint without a condition is set (`on` is true) or cleared, or the refusal.
abbrev pub breaks_after : Bool → CodePlace → List Breakpoint → Result (List Breakpoint) DebugRefusal
breaks_after on place breaks =
    if on then with_break (breakpoint (Code place) None) breaks else without_break (Code place) breaks

abbrev pub watches_after : Bool → ℕ → List ℕ → Result (List ℕ) DebugRefusal
watches_after on address watches = if on then with_watch address watches else without_watch address watches

-- The debugger changes from `d` to `e`. Its breakpoints are those of `after`; if `after` is a refusal, they are
-- unchanged. The machine is unchanged in both cases.
pub record SetsBreaks (after : Result (List Breakpoint) DebugRefusal) (status : ℕ) (d e : Debugged) : Type 0 where
  pub says : status ≡ set_code after
  pub session : session_of e ≡ with_breaks (session_of d) after
  pub machine : e.machine ≡ d.machine

-- The debugger changes from `d` to `e`. Its watched words are those of `after`; if `after` is a refusal, they are
-- unchanged. If a word was added or removed, the last run cannot be continued.
pub record SetsWatches (after : Result (List ℕ) DebugRefusal) (status : ℕ) (d e : Debugged) : Type 0 where
  pub says : status ≡ set_code after
  pub session : session_of e ≡ with_watches (session_of d) after
  pub machine : e.machine ≡ d.machine

-- ---- runs up to a breakpoint or a changed word

-- Returns the status of a run of `pmach_go` that ended for this reason. `There` does not occur, because such a run has
-- no destination.
abbrev pub go_code : BreakReason → ℕ
go_code reasons.Limit = 0
go_code reasons.There = 0
go_code reasons.Waiting = 1
go_code reasons.Ended = 2
go_code reasons.Break = AT_BREAK
go_code (reasons.Changed address) = CHANGED
go_code (reasons.Halted error) = 100 + error_number error

-- Returns the address of the word that has changed. If the run ended for another reason, returns the old value.
abbrev pub changed_at : BreakReason → ℕ → ℕ
changed_at (reasons.Changed address) old = address
changed_at reasons.Limit old = old
changed_at reasons.There old = old
changed_at reasons.Waiting old = old
changed_at reasons.Ended old = old
changed_at reasons.Break old = old
changed_at (reasons.Halted error) old = old

-- The values that the call reports, and the new session, are those of `run`.
pub record GoesSo (run : Gone) (steps status was address : ℕ) (d e : Debugged) : Type 0 where
  pub counts : steps ≡ run.steps
  pub says : status ≡ go_code run.reason
  pub word : address ≡ changed_at run.reason was
  pub session : session_of e ≡ after_run (session_of d) Any run

-- The run stopped because memory ran out, after the steps that succeeded. Only the machine and `left`, the rest of the
-- last run, have changed. `left` is not specified.
pub record GoesShort (limit : ℕ) (d e : Debugged) : Type 0 where
  pub gave_up : GaveUp (stops_after d.breaks d.watches nowhere d.machine.state) limit d.machine e.machine
  pub same : e ≡ record d { machine = e.machine; left = e.left }

-- The call executes a run of at most `limit` steps. If memory runs out, only a part of the run is executed.
pub record Goes (limit steps status was address : ℕ) (d e : Debugged) : Type 0 where
  pub went : status ≢ NO_MEMORY → GoesSo (gone d.breaks d.watches limit d.machine.state) steps status was address d e
  pub short : status ≡ NO_MEMORY → GoesShort limit d e
  pub none : status ≡ NO_MEMORY → (steps ≡ 0) × (address ≡ was)

-- ---- continued runs, and variables

-- The session after the continuation of the last run for at most `limit` more steps, if its outcome is `run`.
abbrev pub after_more : Session → ℕ → Gone → Session
after_more d limit run =
    record d { machine = run.machine; left = left_on d.breaks d.left limit d.machine }

-- The values that the call reports, and the new session, are those of the continuation `run` of the last run.
pub record MoreSo (run : Gone) (limit steps status was address : ℕ) (d e : Debugged) : Type 0 where
  pub counts : steps ≡ run.steps
  pub says : status ≡ go_code run.reason
  pub word : address ≡ changed_at run.reason was
  pub session : session_of e ≡ after_more (session_of d) limit run

-- The call was refused because no run can be continued: nothing has changed.
pub record NoMore (before steps status was address : ℕ) (d e : Debugged) : Type 0 where
  pub says : status ≡ 500 + number_of NothingLeft
  pub counts : steps ≡ before
  pub word : address ≡ was
  pub same : e ≡ d

-- The call continues the last run, or is refused if no run can be continued.
abbrev pub MoreOrNot : Option Gone → ℕ → ℕ → ℕ → ℕ → ℕ → ℕ → Debugged → Debugged → Type 0
MoreOrNot None limit before steps status was address d e = NoMore before steps status was address d e
MoreOrNot (Some run) limit before steps status was address d e = MoreSo run limit steps status was address d e

-- The continuation stopped because memory ran out, after the steps that succeeded. Only the machine and `left`, the
-- rest of the last run, have changed. `left` is not specified.
pub record MoreShort (limit : ℕ) (d e : Debugged) : Type 0 where
  pub gave_up : GaveUpOn d.breaks d.left limit d.machine e.machine
  pub same : e ≡ record d { machine = e.machine; left = e.left }

-- The call continues the last run for at most `limit` more steps. If memory runs out, only a part of them is executed.
pub record GoesOn (limit before steps status was address : ℕ) (d e : Debugged) : Type 0 where
  pub went : status ≢ NO_MEMORY
      → MoreOrNot (gone_on d.breaks d.left limit d.machine.state) limit before steps status was address d e
  pub short : status ≡ NO_MEMORY → MoreShort limit d e
  pub none : status ≡ NO_MEMORY → (steps ≡ 0) × (address ≡ was)

-- The call returns the value of a variable, or 500 plus the number of the refusal.
abbrev pub Finds : Result ℕ DebugRefusal → ℕ → ℕ → ℕ → Type 0
Finds (Ok word) status old new = (status ≡ DONE) × (new ≡ word)
Finds (Err refusal) status old new = (status ≡ 500 + number_of refusal) × (new ≡ old)
