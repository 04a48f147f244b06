-- Lemmas: a run of a job consists of runs of the machine without input.
use Rattle.std.proofs.Common.{◌≡◌, ℕ, zero, suc, ◌+◌, ◌-◌, List, [], ◌∷◌, refl, sym, ap, ◌∙◌, subst, arith}
use Rattle.pm_words.specs.declared.error.ExecError.{ExecError}
use Rattle.pm_machine.specs.State.{State}
use Rattle.pm_machine.specs.Steps.{stepped}
use Rattle.pm_machine.specs.Events.{Key, next}
use Rattle.pm_machine.specs.Runs.{after_steps, AllWent, StoppedAfter, last_counts}
use Rattle.pm_machine.specs.declared.state.Status.{Status}
use Rattle.pm_machine.specs.declared.state.Status.TheVariants as status
use Rattle.pm_machine.specs.declared.state.Stop.{Stop}
use Rattle.pm_machine.specs.declared.state.Stop.TheVariants.{Went, Waiting, Ended, Halted}
use Rattle.pm_session.specs.declared.ending.Ending.TheVariants as endings
use Rattle.law_jobs.specs.ToolLaws.{AreAlike, RunsGoByTheMachine}
use Rattle.pm_tool.specs.Run.{Run, ended_run, run_of, turn}

then_alike : (a b c : Run) → AreAlike a b → AreAlike b c → AreAlike a c
then_alike a b c h k = record { ending = h.ending ∙ k.ending; machine = h.machine ∙ k.machine; unread = h.unread ∙ k.unread }

-- ---- steps that succeeded

turn_went : (show : _) (rest : List ℕ → State → Run) (bytes : List ℕ) (m : State) → (stepped m).1 ≡ Went
    → AreAlike (turn show rest bytes m) (rest bytes (stepped m).0)
unfolding turn
turn_went show rest [] m e = rw e (record { ending = refl; machine = refl; unread = refl })
turn_went show rest (byte ∷ bytes) m e = rw e (record { ending = refl; machine = refl; unread = refl })

steps_first : (show : _) (n k : ℕ) (bytes : List ℕ) (m : State) → AllWent n m
    → AreAlike (run_of show (n + k) bytes m) (run_of show k bytes (after_steps n m))
unfolding after_steps run_of
steps_first show zero k bytes m went =
    let e : zero + k ≡ k = omega arith in
    rw e (record { ending = refl; machine = refl; unread = refl })
steps_first show (suc n) k bytes m went =
    let e : suc n + k ≡ n + suc k = omega arith in
    let first : AreAlike (run_of show (n + suc k) bytes m) (run_of show (suc k) bytes (after_steps n m)) =
    steps_first show n (suc k) bytes m (λ i l. went i (omega (arith, l))) in
    let last : AreAlike (run_of show (suc k) bytes (after_steps n m)) (run_of show k bytes (after_steps (suc n) m)) =
    turn_went show (run_of show k) bytes (after_steps n m) (went n (omega arith)) in
    rw e (then_alike _ _ _ first last)

-- ---- the last step

turn_ended : (show : _) (rest : List ℕ → State → Run) (bytes : List ℕ) (m t : State) → stepped m ≡ (t, Ended)
    → AreAlike (turn show rest bytes m) (ended_run [] endings.Ended t bytes)
unfolding turn
turn_ended show rest [] m t e = rw e (record { ending = refl; machine = refl; unread = refl })
turn_ended show rest (byte ∷ bytes) m t e = rw e (record { ending = refl; machine = refl; unread = refl })

turn_halted : (show : _) (rest : List ℕ → State → Run) (bytes : List ℕ) (m t : State) (error : ExecError) → stepped m ≡ (t, Halted error)
    → AreAlike (turn show rest bytes m) (ended_run [] (endings.Error error) t bytes)
unfolding turn
turn_halted show rest [] m t error e = rw e (record { ending = refl; machine = refl; unread = refl })
turn_halted show rest (byte ∷ bytes) m t error e = rw e (record { ending = refl; machine = refl; unread = refl })

turn_starved : (show : _) (rest : List ℕ → State → Run) (m t : State) → stepped m ≡ (t, Waiting)
    → AreAlike (turn show rest [] m) (ended_run [] endings.Waiting t [])
unfolding turn
turn_starved show rest m t e = rw e (record { ending = refl; machine = refl; unread = refl })

turn_keyed : (show : _) (rest : List ℕ → State → Run) (byte : ℕ) (bytes : List ℕ) (m t : State) → stepped m ≡ (t, Waiting)
    → turn show rest (byte ∷ bytes) m ≡ turn show rest bytes (next t (Key byte))
unfolding turn
turn_keyed show rest byte bytes m t e = rw e refl

-- If the last result is `Waiting`, then it does not count as a step.
waiting_counts : (a : Status) → last_counts a Waiting ≡ 0
waiting_counts status.Running = refl
waiting_counts status.Ended = refl
waiting_counts (status.Halted e) = refl

-- ---- a run that the last answer stopped

-- If the machine's run stops after `n` steps and one more, then the run of the job is the same as from the state after
-- the `n` steps, with the rest of the limit.
to_the_last : (show : _) (limit count n : ℕ) (bytes : List ℕ) (m t : State) (stop : Stop) → StoppedAfter n limit m count stop t
    → AreAlike (run_of show limit bytes m) (turn show (run_of show (limit - suc n)) bytes (after_steps n m))
unfolding run_of
to_the_last show limit count n bytes m t stop h =
    let e : limit ≡ n + suc (limit - suc n) = omega (arith, h.within) in
    let first : AreAlike (run_of show (n + suc (limit - suc n)) bytes m) (turn show (run_of show (limit - suc n)) bytes (after_steps n m)) =
    steps_first show n (suc (limit - suc n)) bytes m h.went in
    subst (λ l. AreAlike (run_of show l bytes m) (turn show (run_of show (limit - suc n)) bytes (after_steps n m))) (sym e) first

keyed_on : (show : _) (limit count n byte : ℕ) (bytes : List ℕ) (m t : State) → StoppedAfter n limit m count Waiting t
    → turn show (run_of show (limit - suc n)) (byte ∷ bytes) (after_steps n m) ≡ run_of show (limit - count) bytes (next t (Key byte))
unfolding run_of
keyed_on show limit count n byte bytes m t h =
    let same : count ≡ n = h.counted ∙ ap (λ c. n + c) (waiting_counts (after_steps n m).status) ∙ omega arith in
    let left : limit - count ≡ suc (limit - suc n) = omega (arith, h.within, same) in
    turn_keyed show (run_of show (limit - suc n)) byte bytes (after_steps n m) t h.last ∙ ap (λ l. run_of show l bytes (next t (Key byte))) (sym left)

pub runs_go_by_the_machine : RunsGoByTheMachine
unfolding run_of
runs_go_by_the_machine show limit count bytes m t Went h =
    let none : limit + zero ≡ limit = omega arith in
    rw h.left (rw none at (steps_first show limit zero bytes m h.went))
runs_go_by_the_machine show limit count bytes m t Ended h =
    then_alike _ _ _ (to_the_last show limit count h.0 bytes m t Ended h.1)
    (turn_ended show (run_of show (limit - suc h.0)) bytes (after_steps h.0 m) t h.1.last)
runs_go_by_the_machine show limit count bytes m t (Halted error) h =
    then_alike _ _ _ (to_the_last show limit count h.0 bytes m t (Halted error) h.1)
    (turn_halted show (run_of show (limit - suc h.0)) bytes (after_steps h.0 m) t error h.1.last)
runs_go_by_the_machine show limit count [] m t Waiting h =
    then_alike _ _ _ (to_the_last show limit count h.0 [] m t Waiting h.1) (turn_starved show (run_of show (limit - suc h.0)) (after_steps h.0 m) t h.1.last)
runs_go_by_the_machine show limit count (byte ∷ bytes) m t Waiting h =
    subst (λ r. AreAlike (run_of show limit (byte ∷ bytes) m) r) (keyed_on show limit count h.0 byte bytes m t h.1)
    (to_the_last show limit count h.0 (byte ∷ bytes) m t Waiting h.1)
