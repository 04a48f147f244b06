-- Lemmas: each run is a list of events.
use Rattle.std.proofs.Common.{◌≡◌, ℕ, zero, suc, Bool, true, false, cond, List, [], ◌∷◌, refl, ap}
use Rattle.pm_machine.specs.State.{State}
use Rattle.pm_machine.specs.Steps.{stepped}
use Rattle.pm_machine.specs.Events.{Event, Step, Key, next}
use Rattle.pm_machine.specs.declared.state.Stop.{Stop}
use Rattle.pm_machine.specs.declared.state.Stop.TheVariants.{Went, Waiting, Ended, Halted}
use Rattle.law_jobs.specs.ToolLaws.{IsOfEvents, RunsAreEvents, AreAlike, ShowingChangesNothing}
use Rattle.pm_tool.specs.Run.{Run, follows, is_waiting, run_of, turn}

abbrev Made : Run → List ℕ → State → Type 0
Made run bytes m = (events : List Event) × IsOfEvents run bytes m events

-- If a run from the next state is a list of events, then so is the run that executes one step before.
step_before : (run : Run) (bytes : List ℕ) (m : State) → Made run bytes (next m Step) → Made run bytes m
step_before run bytes m e = (Step ∷ e.0, record { alone = e.1.alone; left = e.1.left; read = e.1.read })

-- If a run from the state after a key is a list of events, then so is the run that reads this byte before.
key_before : (run : Run) (byte : ℕ) (bytes : List ℕ) (m : State) → Made run bytes (next m (Key byte)) → Made run (byte ∷ bytes) m
key_before run byte bytes m e = (Key byte ∷ e.0, record { alone = e.1.alone; left = e.1.left; read = ap (λ l. byte ∷ l) e.1.read })

none_made : (run : Run) (m : State) → run.machine ≡ m → Made run run.unread m
none_made run m e = ([], record { alone = refl; left = e; read = refl })

follows_made : (show : _) (rest : List ℕ → State → Run) (m after : State) (stop : Stop) (bytes : List ℕ)
    → ((bytes' : List ℕ) (m' : State) → Made (rest bytes' m') bytes' m')
    → Made (follows show rest m after stop bytes) bytes after
follows_made show rest m after Went bytes made =
    ((made bytes after).0, record { alone = (made bytes after).1.alone; left = (made bytes after).1.left; read = (made bytes after).1.read })
follows_made show rest m after Waiting bytes made = none_made (follows show rest m after Waiting bytes) after refl
follows_made show rest m after Ended bytes made = none_made (follows show rest m after Ended bytes) after refl
follows_made show rest m after (Halted error) bytes made = none_made (follows show rest m after (Halted error) bytes) after refl

either_made : (waits : Bool) (run other : Run) (bytes : List ℕ) (m : State) → Made run bytes m → Made other bytes m → Made (cond waits run other) bytes m
either_made true run other bytes m a b = a
either_made false run other bytes m a b = b

turn_made : (show : _) (rest : List ℕ → State → Run) (bytes : List ℕ) (m : State) → ((bytes' : List ℕ) (m' : State) → Made (rest bytes' m') bytes' m')
    → Made (turn show rest bytes m) bytes m
unfolding turn
turn_made show rest [] m made = step_before _ [] m (follows_made show rest m (stepped m).0 (stepped m).1 [] made)
turn_made show rest (byte ∷ bytes) m made =
    step_before _ (byte ∷ bytes) m (either_made (is_waiting (stepped m).1) _ _ (byte ∷ bytes) (stepped m).0
    (key_before _ byte bytes (stepped m).0 (turn_made show rest bytes (next (stepped m).0 (Key byte)) made))
    (follows_made show rest m (stepped m).0 (stepped m).1 (byte ∷ bytes) made))

pub runs_are_events : RunsAreEvents
unfolding run_of
runs_are_events show zero bytes m = none_made (run_of show zero bytes m) m refl
runs_are_events show (suc n) bytes m = turn_made show (run_of show n) bytes m (λ bytes' m'. runs_are_events show n bytes' m')

-- ---- what is shown

follows_alike : (show other : _) (rest rest' : List ℕ → State → Run) (m after : State) (stop : Stop) (bytes : List ℕ)
    → ((bytes' : List ℕ) (m' : State) → AreAlike (rest bytes' m') (rest' bytes' m'))
    → AreAlike (follows show rest m after stop bytes) (follows other rest' m after stop bytes)
follows_alike show other rest rest' m after Went bytes alike =
    record { ending = (alike bytes after).ending; machine = (alike bytes after).machine; unread = (alike bytes after).unread }
follows_alike show other rest rest' m after Waiting bytes alike = record { ending = refl; machine = refl; unread = refl }
follows_alike show other rest rest' m after Ended bytes alike = record { ending = refl; machine = refl; unread = refl }
follows_alike show other rest rest' m after (Halted error) bytes alike = record { ending = refl; machine = refl; unread = refl }

either_alike : (waits : Bool) (run run' other other' : Run) → AreAlike run run' → AreAlike other other'
    → AreAlike (cond waits run other) (cond waits run' other')
either_alike true run run' other other' a b = a
either_alike false run run' other other' a b = b

turn_alike : (show other : _) (rest rest' : List ℕ → State → Run) (bytes : List ℕ) (m : State)
    → ((bytes' : List ℕ) (m' : State) → AreAlike (rest bytes' m') (rest' bytes' m'))
    → AreAlike (turn show rest bytes m) (turn other rest' bytes m)
unfolding turn
turn_alike show other rest rest' [] m alike = follows_alike show other rest rest' m (stepped m).0 (stepped m).1 [] alike
turn_alike show other rest rest' (byte ∷ bytes) m alike =
    either_alike (is_waiting (stepped m).1) _ _ _ _
    (turn_alike show other rest rest' bytes (next (stepped m).0 (Key byte)) alike)
    (follows_alike show other rest rest' m (stepped m).0 (stepped m).1 (byte ∷ bytes) alike)

pub showing_changes_nothing : ShowingChangesNothing
unfolding run_of
showing_changes_nothing show other zero bytes m = record { ending = refl; machine = refl; unread = refl }
showing_changes_nothing show other (suc n) bytes m =
    turn_alike show other (run_of show n) (run_of other n) bytes m (λ bytes' m'. showing_changes_nothing show other n bytes' m')
