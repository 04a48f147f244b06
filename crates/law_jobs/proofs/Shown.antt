-- Lemmas: each command of a session leaves the machine in the state after the events of the command.
use Rattle.std.proofs.Common.{◌≡◌, ◌≤◌, ℕ, zero, suc, ◌+◌, ◌-◌, Bool, true, false, List, [], ◌∷◌, ◌++◌, Option, Some, None, refl, sym, ap, subst, ◌∙◌, arith}
use Rattle.std.proofs.Common.{◌==◌, ◌&&◌, not, append_assoc}
use Rattle.std.proofs.lemmas.Bool.Decides.{nat_tests}
use Rattle.std.specs.Prelude.{◌≢◌, map, replicate, if◌then◌else◌, Result, Ok, Err}
use Rattle.pm_machine.specs.State.{State}
use Rattle.pm_machine.specs.Events.{Event, Step, Key, Poke, after_all}
use Rattle.pm_machine.specs.Runs.{Passes, RunOutcome, after_steps, run_from, run_until}
use Rattle.pm_machine.specs.RunLaws.{EndsSo}
use Rattle.pm_machine.specs.Steps.{stepped}
use Rattle.pm_machine.specs.declared.state.RunEnd.{RunEnd}
use Rattle.pm_machine.specs.declared.state.RunEnd.TheVariants as ends
use Rattle.pm_machine.specs.declared.state.Stop.{Stop}
use Rattle.pm_machine.specs.declared.state.Stop.TheVariants as stop
use Rattle.law_engine.proofs.EventLaws.{events_go_on}
use Rattle.pm_machine.proofs.UntilLaws.{after_more, after_none, runs_end_so}
use Rattle.pm_debug.specs.declared.breaks.Breakpoint.{Breakpoint}
use Rattle.pm_debug.specs.declared.breaks.Spot.TheVariants.{Code}
use Rattle.pm_debug.specs.declared.reason.BreakReason.TheVariants as reasons
use Rattle.pm_debug.specs.declared.refusal.DebugRefusal.{DebugRefusal}
use Rattle.pm_debug.specs.Breaks.{breakpoint, with_break, without_break}
use Rattle.pm_machine.specs.CodePlaces.{code_place}
use Rattle.pm_debug.specs.declared.run.Depth.{Depth}
use Rattle.pm_debug.specs.declared.run.Depth.TheVariants as depths
use Rattle.pm_debug.specs.declared.watches.WatchedWord.{WatchedWord}
use Rattle.pm_debug.specs.Passes.{all_passed, counted, gone_past, left_past}
use Rattle.pm_debug.specs.Runs.{Gone, Left, behind_steps, countable, gone_by, gone_from, gone_on, gone_to, has_ended, is_there, later, left_behind, stops_after}
use Rattle.pm_debug.specs.Runs.{stops_at}
use Rattle.pm_debug.specs.Runs.Left.{AtBreak, Nothing, Rest}
use Rattle.pm_debug.proofs.OnLaws.{goes_on_behind}
use Rattle.pm_debug.specs.Session.{Session}
use Rattle.pm_debug.specs.Watches.{watched_words, with_watch, without_watch}
use Rattle.pm_session.specs.declared.commands.Command.TheVariants as commands
use Rattle.pm_session.specs.Orders.{Order, order_of}
use Rattle.pm_session.specs.Orders.Order.{Does, Types}
use Rattle.pm_session.specs.Answers.{after_command, after_keys, after_on, passing, passing_on, session_after, with_breaks, with_watches}
use Rattle.pm_session.specs.Sessions.{answer_line, answers, is_quit, opened}
use Rattle.law_jobs.specs.Shown.{AreEventsOf, AreEventsOfLines, AreStepsBehind, AreStepsOfBegun, AreStepsOfRun, AreStepsOn, AreStepsPast, GoesOn, GoesOnAfter}
use Rattle.law_jobs.specs.Shown.{SessionsShowTheTable, StopsAfter, first_look}
use Rattle.law_jobs.specs.Shown.StopsAfter.{rests, all, breaks_there, stops}

-- ---- steps of a run

-- The state after `n` steps is the state after `n` events `Step`.
all_steps : (n : ℕ) (s : State) → after_steps n s ≡ after_all s (replicate n Step)
unfolding after_steps
all_steps zero s = refl
all_steps (suc n) s = sym (after_first n s) ∙ all_steps n (stepped s).0
  where
    after_first : (n : ℕ) (s : State) → after_steps n (stepped s).0 ≡ (stepped (after_steps n s)).0
    after_first zero s = refl
    after_first (suc n) s = ap (λ t. (stepped t).0) (after_first n s)

-- A run of at most `limit` steps leads from the state `s` to the state `t`.
abbrev Makes : (State → Bool) → ℕ → ℕ → State → State → Type 0
Makes test first limit s t = (steps : ℕ) × StopsAfter test first limit s steps × (t ≡ after_steps steps s)

-- Returns the test that a run applies after it has executed `made` steps.
abbrev Asked : ℕ → (State → Bool) → ℕ → State → Bool
Asked made test = behind_steps made (later test)

-- If a run tests before a step, and its test is false, then `test` is false.
free_there : (test : State → Bool) (made k : ℕ) (s : State) → first_look made ≤ k → Asked made test k s ≡ false → test s ≡ false
free_there test zero k s some h = behind (0 + k == 0) (test s) (grind (arith, nat_tests, some)) h
  where
    behind : (first at : Bool) → first ≡ false → (not first && at) ≡ false → at ≡ false
    behind true at e h = absurd (cc)
    behind false at e h = h
free_there test (suc made) k s some h = behind (suc made + k == 0) (test s) (grind (arith, nat_tests, some)) h
  where
    behind : (first at : Bool) → first ≡ false → (not first && at) ≡ false → at ≡ false
    behind true at e h = absurd (cc)
    behind false at e h = h

some_steps : (test : State → Bool) (made k : ℕ) (s : State) → Asked made test k s ≡ true → (first_look made ≤ k) × (test s ≡ true)
some_steps test zero k s h =
    let at = both (0 + k == 0) (test s) h in
    let some = at.0 in
    (grind (arith, nat_tests, some), at.1)
  where
    both : (first at : Bool) → (not first && at) ≡ true → (first ≡ false) × (at ≡ true)
    both true at h = absurd (cc)
    both false at h = (refl, h)
some_steps test (suc made) k s h = (omega arith, both (suc made + k == 0) (test s) h)
  where
    both : (first at : Bool) → (not first && at) ≡ true → at ≡ true
    both true at h = absurd (cc)
    both false at h = h

goes_on : (test : State → Bool) (made n : ℕ) (s : State) → Passes (Asked made test) n s → GoesOn test (first_look made) n s
goes_on test made n s p = record { went = p.went; free = λ k some below. free_there test made k (after_steps k s) some (p.free k below) }

made_by : (test : State → Bool) (made limit n : ℕ) (s : State) (end : RunEnd) (count : ℕ) (t : State) → Passes (Asked made test) n s
    → EndsSo (Asked made test) limit n s end count t → Makes test (first_look made) limit s t
made_by test made limit n s ends.Limit count t p h =
    (limit, all (subst (λ k. GoesOn test (first_look made) k s) h.0 (goes_on test made n s p)), h.2 ∙ ap (λ k. after_steps k s) h.0)
made_by test made limit n s ends.Stopped count t p h =
    let at = some_steps test made n t h.1 in
    (n, breaks_there n at.0 h.0 (goes_on test made n s p) (ap test (sym h.3) ∙ at.1), h.3)
made_by test made limit n s (ends.Answered answer) count t p h =
    let last = h.2 in
    let other : (stepped (after_steps n s)).1 ≢ stop.Went = λ e. h.0 (sym (ap (λ (q : State × Stop). q.1) last.last) ∙ e) in (
      n + 1,
      stops n last.within (goes_on test made n s p) (λ some. free_there test made n (after_steps n s) some h.1) other,
      after_more n s (after_steps n s) t answer refl last.last,
    )

run_steps : (test : State → Bool) (made n : ℕ) (s : State) → Makes test (first_look made) n s (run_from (later test) made n s).state
run_steps test made n s =
    let run = run_until (Asked made test) n s in
    let h = runs_end_so (Asked made test) n s in
    let same : (run_from (later test) made n s).state ≡ run.state = ap (λ (r : RunOutcome). r.state) (goes_on_behind (later test) made n s) in
    let steps = made_by test made n h.0 s run.end run.count run.state h.1 h.2 in
    (steps.0, steps.1, same ∙ steps.2)

-- Returns the test that stops a run that begins at `s`.
abbrev Stops : List Breakpoint → List ℕ → (State → Bool) → State → State → Bool
Stops breaks watches test s = stops_at (watched_words watches s.memory) breaks test

gone_steps : (breaks : List Breakpoint) (watches : List ℕ) (test : State → Bool) (n : ℕ) (s : State)
    → Makes (Stops breaks watches test s) 1 n s (gone_to breaks watches test n s).machine
unfolding gone_to
gone_steps breaks watches test n s = ended_steps (has_ended s.status) refl
  where
    ended_steps : (b : Bool) → has_ended s.status ≡ b → Makes (Stops breaks watches test s) 1 n s
        (if b then (record { steps = 0; reason = reasons.Ended; machine = s }) else gone_by (watched_words watches s.memory) breaks
        (run_until (stops_after breaks watches test s) n s)).machine
    ended_steps true e = (0, rests e, after_none s)
    ended_steps false e = run_steps (Stops breaks watches test s) 0 n s

-- ---- breakpoints that are ignored

-- The steps after an ignored breakpoint are events.
once_past : (breaks : List Breakpoint) (watched : List WatchedWord) (depth : Depth) (made most : ℕ) (s : State)
    → (events : List Event) × AreStepsPast (is_there depth s) (stops_at watched breaks (is_there depth)) (most - made) s events
    × ((gone_past breaks watched depth made most s).machine ≡ after_all s events)
once_past breaks watched depth made most s = by_place (is_there depth s)
  where
    by_place : (b : Bool) → (events : List Event) × AreStepsPast b (stops_at watched breaks (is_there depth)) (most - made) s events
        × ((if b then record { steps = made; reason = reasons.There; machine = s }
        else counted made (gone_from breaks watched (is_there depth) 0 (most - made) s)).machine ≡ after_all s events)
    by_place true = ([], refl, refl)
    by_place false =
        let steps = run_steps (stops_at watched breaks (is_there depth)) 0 (most - made) s in
        (replicate steps.0 Step, (steps.0, steps.1, refl), steps.2 ∙ all_steps steps.0 s)

all_past : (breaks : List Breakpoint) (most passes : ℕ) (left : Left) (run : Gone)
    → (events : List Event) × AreStepsBehind breaks most passes left run.machine events
    × ((all_passed breaks most passes left run).run.machine ≡ after_all run.machine events)
unfolding all_passed
all_past breaks most zero left run = ([], refl, refl)
all_past breaks most (suc passes) Nothing run = ([], refl, refl)
all_past breaks most (suc passes) (Rest depth made watched) run = ([], refl, refl)
all_past breaks most (suc passes) (AtBreak depth made watched) run =
    let one = once_past breaks watched depth made most run.machine in
    let rest = all_past breaks most passes (left_past breaks (AtBreak depth made watched) most run.machine)
    (gone_past breaks watched depth made most run.machine) in (
      one.0 ++ rest.0,
      (one.0, rest.0, one.1, rest.1, refl),
      rest.2 ∙ ap (λ m. after_all m rest.0) one.2 ∙ sym (events_go_on run.machine one.0 rest.0),
    )

-- A run and its continuations after ignored breakpoints consist of steps that are events.
abbrev MakesAll : Session → ℕ → Left → Gone → (List Event → Type 0) → Type 0
MakesAll d most left run Up =
    (events : List Event) × AreStepsOfRun d most left run Up events
    × ((all_passed d.breaks most d.passes left run).run.machine ≡ after_all d.machine events)

passing_events : (d : Session) (most : ℕ) (left : Left) (run : Gone) (Up : List Event → Type 0) (first : List Event) → Up first
    → run.machine ≡ after_all d.machine first → MakesAll d most left run Up
passing_events d most left run Up first up at =
    let behind = all_past d.breaks most d.passes left run in (
      first ++ behind.0,
      (first, behind.0, up, behind.1, refl),
      behind.2 ∙ ap (λ m. after_all m behind.0) at ∙ sym (events_go_on d.machine first behind.0),
    )

begun_events : (d : Session) (depth : Depth) (n : ℕ)
    → (events : List Event) × AreStepsOfBegun d depth n (gone_to d.breaks d.watches (is_there depth) n d.machine)
    (stops_at (watched_words d.watches d.machine.memory) d.breaks (is_there depth)) events
    × ((passing d depth n (gone_to d.breaks d.watches (is_there depth) n d.machine)).run.machine ≡ after_all d.machine events)
begun_events d depth n =
    let made = gone_steps d.breaks d.watches (is_there depth) n d.machine in
    passing_events d n _ (gone_to d.breaks d.watches (is_there depth) n d.machine) _ (replicate made.0 Step) (made.0, made.1, refl)
    (made.2 ∙ all_steps made.0 d.machine)

-- The steps of the rest of a run are events.
on_events : (d : Session) (left : Left) (n : ℕ) → d.left ≡ left
    → (events : List Event) × AreStepsOn d left n events
    × ((after_on d (passing_on d n (gone_on d.breaks d.left n d.machine))).machine ≡ after_all d.machine events)
unfolding passing_events
on_events d Nothing n e = ([], refl, rw e refl)
on_events d (AtBreak depth made watched) n e = ([], refl, rw e refl)
on_events d (Rest depth made watched) n e =
    let run = gone_from d.breaks watched (is_there depth) made (countable made n) d.machine in
    let steps = run_steps (stops_at watched d.breaks (is_there depth)) made (countable made n) d.machine in
    let all = passing_events d (made + countable made n) (left_behind depth watched run) run _ (replicate steps.0 Step) (steps.0, steps.1, refl)
    (steps.2 ∙ all_steps steps.0 d.machine) in
    (all.0, all.1, rw e all.2)

-- ---- commands

abbrev Made : Option Order → Session → Type 0
Made command d = (events : List Event) × AreEventsOf command d events × ((session_after command d).machine ≡ after_all d.machine events)

kept : (d : Session) (r : Result (List Breakpoint) DebugRefusal) → (with_breaks d r).machine ≡ d.machine
kept d (Ok breaks) = refl
kept d (Err refusal) = refl

kept_watching : (d : Session) (r : Result (List ℕ) DebugRefusal) → (with_watches d r).machine ≡ d.machine
kept_watching d (Ok watches) = refl
kept_watching d (Err refusal) = refl

-- The state after bytes are typed is the state after the keys of these bytes.
typed_events : (bytes : List ℕ) (d : Session) → (after_keys bytes d).machine ≡ after_all d.machine (map Key bytes)
unfolding after_command
typed_events [] d = refl
typed_events (b ∷ bytes) d = typed_events bytes (after_command (commands.Key b) d)

pub command_made : (command : Option Order) (d : Session) → Made command d
unfolding after_command
command_made None d = ([], refl, refl)
command_made (Some (Does (commands.Break s p o condition))) d = ([], refl, kept d (with_break (breakpoint (Code (code_place s p o)) condition) d.breaks))
command_made (Some (Does (commands.Clear s p o))) d = ([], refl, kept d (without_break (Code (code_place s p o)) d.breaks))
command_made (Some (Does (commands.BreakOn spot condition))) d = ([], refl, kept d (with_break (breakpoint spot condition) d.breaks))
command_made (Some (Does (commands.ClearOn spot))) d = ([], refl, kept d (without_break spot d.breaks))
command_made (Some (Does (commands.Watch a))) d = ([], refl, kept_watching d (with_watch a d.watches))
command_made (Some (Does (commands.Unwatch a))) d = ([], refl, kept_watching d (without_watch a d.watches))
command_made (Some (Does (commands.Poke a w))) d = (Poke a w ∷ [], refl, refl)
command_made (Some (Does (commands.Key b))) d = (Key b ∷ [], refl, refl)
command_made (Some (Does (commands.Go n))) d = begun_events d depths.Any n
command_made (Some (Does (commands.Step n))) d = begun_events d (depths.Back d.machine.registers.mp) n
command_made (Some (Does (commands.Finish n))) d = begun_events d (depths.Left d.machine.registers.mp) n
command_made (Some (Does (commands.Until s p o n))) d = begun_events d (depths.Place (code_place s p o)) n
command_made (Some (Does (commands.On n))) d = on_events d d.left n refl
command_made (Some (Does (commands.Ignore k))) d = ([], refl, refl)
command_made (Some (Does command)) d = ([], refl, refl)
command_made (Some (Types bytes)) d = (map Key bytes, refl, typed_events bytes d)

-- ---- lines

-- The state of the session after the lines is the state after their events.
record Shows (lines : List (List ℕ)) (d : Session) : Type 0 where
  events : List Event
  named : AreEventsOfLines lines d events
  session : Session
  state : session.machine ≡ after_all d.machine events
  answered : (more : List (List ℕ)) → answers (lines ++ more) d ≡ answers lines d ++ answers more session

answers_more : (line : List ℕ) (lines more : List (List ℕ)) (d t : Session) → is_quit (order_of line) ≡ false
    → answers (lines ++ more) (session_after (order_of line) d) ≡ answers lines (session_after (order_of line) d) ++ answers more t
    → answers (line ∷ lines ++ more) d ≡ answers (line ∷ lines) d ++ answers more t
unfolding answers
answers_more line lines more d t on e =
    let front = answer_line (order_of line) d in
    rw on (ap (λ l. front ++ l) e ∙ sym (append_assoc front _ _))

no_lines : (more : List (List ℕ)) (d : Session) → answers more d ≡ answers [] d ++ answers more d
unfolding answers
no_lines more d = refl

shows : (lines : List (List ℕ)) (d : Session) → GoesOnAfter lines → Shows lines d
shows [] d on = record { events = []; named = refl; session = d; state = refl; answered = λ more. no_lines more d }
shows (line ∷ lines) d on =
    let made = command_made (order_of line) d in
    let rest = shows lines (session_after (order_of line) d) on.1 in
    record {
      events = made.0 ++ rest.events;
      named = (made.0, rest.events, made.1, rest.named, refl);
      session = rest.session;
      state = rest.state ∙ ap (λ m. after_all m rest.events) made.2 ∙ sym (events_go_on d.machine made.0 rest.events);
      answered = λ more. answers_more line lines more d rest.session on.0 (rest.answered more);
    }

pub sessions_show_the_table : SessionsShowTheTable
sessions_show_the_table lines s on =
    let all = shows lines (opened s) on in
    record { events = all.events; named = all.named; session = all.session; state = all.state; answered = all.answered }
