-- A run of the machine, step by step.
use Rattle.std.proofs.Common.{◌≡◌, ℕ, zero, suc, ◌-◌, ◌<◌, List, [], ◌∷◌, false, refl, arith}
use Rattle.pm_machine.specs.State.{State}
use Rattle.pm_machine.specs.Steps.{stepped}
use Rattle.pm_machine.specs.Events.{Key, next}
use Rattle.pm_machine.specs.declared.state.Stop.{Stop}
use Rattle.pm_machine.specs.declared.state.Stop.TheVariants.{Waiting}
use Rattle.pm_session.specs.declared.ending.Ending.TheVariants as endings
use Rattle.pm_tool.specs.declared.steps.Show.{Show}
use Rattle.pm_tool.specs.Run.{ended_run, is_waiting, follows, turn, run_of}

-- ---- the definitions, one turn at a time

pub run_of-goes : (show : Show) (n : ℕ) (keys : List ℕ) (m after : State) (stop : Stop) → 0 < n → stepped m ≡ (after, stop) → is_waiting stop ≡ false
    → run_of show n keys m ≡ follows show (run_of show (n - 1)) m after stop keys
unfolding run_of turn
run_of-goes show zero keys m after stop h e w = absurd (omega arith)
run_of-goes show (suc n) [] m after stop h e w =
    let k : suc n - 1 ≡ n = omega arith in
    rw (k, e) refl
run_of-goes show (suc n) (key ∷ keys) m after stop h e w =
    let k : suc n - 1 ≡ n = omega arith in
    rw (k, e, w) refl

pub run_of-waits : (show : Show) (n key : ℕ) (rest : List ℕ) (m after : State) → 0 < n → stepped m ≡ (after, Waiting)
    → run_of show n (key ∷ rest) m ≡ run_of show n rest (next after (Key key))
unfolding run_of turn
run_of-waits show zero key rest m after h e = absurd (omega arith)
run_of-waits show (suc n) key rest m after h e = rw e refl

pub run_of-stuck : (show : Show) (n : ℕ) (m after : State) → 0 < n → stepped m ≡ (after, Waiting) → run_of show n [] m ≡ ended_run [] endings.Waiting after []
unfolding run_of turn
run_of-stuck show zero m after h e = absurd (omega arith)
run_of-stuck show (suc n) m after h e = rw e refl

pub run_of-none : (show : Show) (keys : List ℕ) (m : State) → run_of show 0 keys m ≡ ended_run [] endings.Limit m keys
unfolding run_of
run_of-none show keys m = refl
