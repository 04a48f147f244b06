-- Laws about the selected lines of a trace.
use Rattle.std.specs.Prelude.{◌≡◌, ◌⊎◌, ℕ, false, List, [], ◌∷◌, ◌++◌}
use Rattle.pm_machine.specs.State.{State}
use Rattle.pm_trace.specs.Trace.{trace_line}
use Rattle.pm_jobs.specs.declared.selection.Code.TheVariants as code
use Rattle.pm_jobs.specs.declared.selection.Selection.{Selection}
use Rattle.pm_trace.specs.Selected.{shown_line}

-- If all lines are selected, without `--calls` and `--places`, then the trace has for each step exactly its line and a
-- line feed.
abbrev pub AllIsTheTrace : Type 0
AllIsTheTrace =
    (s : State) → shown_line (record { from = 0; code = code.Anywhere; calls = false; places = false }) s
    ≡ trace_line s ++ 10 ∷ []

-- For any selection, the trace has for each step either nothing, or its line and a line feed, possibly after a prefix.
abbrev pub LinesStay : Type 0
LinesStay =
    (wanted : Selection) (s : State) → (shown_line wanted s ≡ [])
    ⊎ ((front : List ℕ) × (shown_line wanted s ≡ front ++ trace_line s ++ 10 ∷ []))
