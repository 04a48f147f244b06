-- Queries: whether one of the bytes of a query is in a list of ranges, and the ranges that a call writes.
use Rattle.std.specs.Prelude.{ℕ, Bool, List, ◌∷◌}
use Rattle.std.specs.List.{list_any}
use Rattle.pm_families.specs.declared.families.Call.{Call}
use Rattle.pm_calls.specs.Calls.{procedure_called}
use Rattle.pm_calls.specs.Tables.{attributes}
use Rattle.pm_machine.specs.Written.{Stretch, frame_written, stretch_to, touches}
use Rattle.pm_access.specs.declared.stretches.Bytes.{Bytes}
use Rattle.pm_access.specs.Reached.{Seen}

-- Is true if one of the ranges `stretches` contains one of the bytes `bytes`.
abbrev pub meets : Bytes → List Stretch → Bool
meets bytes stretches = list_any (touches bytes.address bytes.count) stretches

-- The ranges that `call` writes if it reaches the segment `at`: the code that is loaded for it, which ends at SP, and
-- the new frame.
abbrev pub frame_and_code : Call → ℕ → Seen → List Stretch
frame_and_code call sp at =
    stretch_to sp at.loaded
    ∷ frame_written call at.loaded sp (attributes at.memory at.place (procedure_called call))
