-- Runs that pass over breakpoints. A pass is the permission to pass over one breakpoint.
use Rattle.std.specs.Prelude.{ℕ, zero, suc, ◌+◌, ◌-◌, List, Option, Some, None, if◌then◌else◌}
use Rattle.pm_machine.specs.State.{State, Whole}
use Rattle.pm_machine.specs.Runs.{GaveUp}
use Rattle.pm_debug.specs.declared.breaks.Breakpoint.{Breakpoint}
use Rattle.pm_debug.specs.declared.reason.BreakReason.TheVariants as reasons
use Rattle.pm_debug.specs.declared.run.Depth.{Depth}
use Rattle.pm_debug.specs.declared.watches.WatchedWord.{WatchedWord}
use Rattle.pm_debug.specs.Runs.{Gone, Left, countable, gone_from, is_there, later, left_behind, stops_at}
use Rattle.pm_debug.specs.Runs.Left.{AtBreak, Nothing, Rest}

-- The outcome `run` if `made` steps were executed before: its count includes these steps.
abbrev pub counted : ℕ → Gone → Gone
counted made run = record run { steps = made + run.steps }

-- The continuation of a run that a breakpoint stopped after `made` steps. The run passes over this breakpoint. If the
-- machine is at the destination, the run stops. Otherwise it continues as a run that begins here, up to `most` steps of
-- the whole run. The count includes the `made` steps, and the watched words are those when the whole run began.
abbrev pub gone_past : List Breakpoint → List WatchedWord → Depth → ℕ → ℕ → State → Gone
gone_past breaks watched depth made most s =
    if is_there depth s then record { steps = made; reason = reasons.There; machine = s }
    else counted made (gone_from breaks watched (is_there depth) 0 (most - made) s)

-- The outcome of the last run after it has passed over the breakpoint that stopped it, up to `most` steps in all.
-- `None` if no pass remains, or if no breakpoint stopped the run.
abbrev pub passed : List Breakpoint → ℕ → Left → ℕ → State → Option Gone
passed breaks zero left most s = None
passed breaks (suc passes) Nothing most s = None
passed breaks (suc passes) (Rest depth made watched) most s = None
passed breaks (suc passes) (AtBreak depth made watched) most s = Some (gone_past breaks watched depth made most s)

-- The rest of the last run after it has passed over a breakpoint.
abbrev pub left_past : List Breakpoint → Left → ℕ → State → Left
left_past breaks Nothing most s = Nothing
left_past breaks (Rest depth made watched) most s = Rest depth made watched
left_past breaks (AtBreak depth made watched) most s =
    left_behind depth watched (gone_past breaks watched depth made most s)

-- States that the run, after it has passed over a breakpoint, stopped because it was out of memory.
abbrev pub GaveUpPast : List Breakpoint → Left → ℕ → Whole → Whole → Type 0
GaveUpPast breaks Nothing most m t = ⊥
GaveUpPast breaks (Rest depth made watched) most m t = ⊥
GaveUpPast breaks (AtBreak depth made watched) most m t =
    GaveUp (later (stops_at watched breaks (is_there depth))) (most - made) m t

-- The number of steps of the last run if it can be continued or a breakpoint stopped it, else 0.
abbrev pub made_of : Left → ℕ
made_of Nothing = 0
made_of (Rest depth made watched) = made
made_of (AtBreak depth made watched) = made

-- The maximum number of steps of the whole last run if it is continued for `limit` more steps.
abbrev pub most_on : Left → ℕ → ℕ
most_on left limit = made_of left + countable (made_of left) limit

-- ---- all passes

-- The outcome of a run that has passed over breakpoints, its rest, and the number of passes that remain.
pub record Passed : Type 0 where
  pub run : Gone
  pub left : Left
  pub passes : ℕ

-- The outcome of a run that may have at most `most` steps. While a breakpoint stops it and a pass remains, it passes
-- over this breakpoint.
unfoldable pub all_passed : List Breakpoint → ℕ → ℕ → Left → Gone → Passed
all_passed breaks most zero left run = record { run = run; left = left; passes = 0 }
all_passed breaks most (suc passes) Nothing run = record { run = run; left = Nothing; passes = suc passes }
all_passed breaks most (suc passes) (Rest depth made watched) run =
    record { run = run; left = Rest depth made watched; passes = suc passes }
all_passed breaks most (suc passes) (AtBreak depth made watched) run =
    all_passed breaks most passes (left_past breaks (AtBreak depth made watched) most run.machine)
    (gone_past breaks watched depth made most run.machine)
