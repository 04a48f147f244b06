-- The code of segments on disks, and which code a call loads.
use Rattle.std.specs.Prelude.{ℕ, List, Option, Some, None, is_none, Result, Ok, Err, option_map, slice_get}
use Rattle.std.specs.Prelude.{if◌then◌else◌, ◌==◌}
use Rattle.std.specs.Borrow.{Bor}
use Rattle.pm_words.specs.declared.error.ExecError.{ExecError}
use Rattle.pm_words.specs.declared.error.ExecError.TheVariants.{SystemIo}
use Rattle.pm_calls.specs.declared.frames.SegmentPlace.{SegmentPlace}
use Rattle.pm_families.specs.declared.families.Call.{Call}
use Rattle.pm_families.specs.declared.families.Call.TheVariants.{Clp, Cgp, Cbp, Cip, Cxp}
use Rattle.pm_calls.specs.Places.{placed}
use Rattle.pm_units.specs.Devices.{Devices, code_on}
use Rattle.pm_stdproc.specs.declared.loads.SlotRow.{SlotRow}

-- The code that the disk contains, or `SystemIo` if it does not contain the code.
abbrev pub found_code : Option (List ℕ) → Result (Option (List ℕ)) ExecError
found_code None = Err SystemIo
found_code (Some code) = Ok (Some code)

-- The code of a slot with the given row, from the disk that is now in its unit. `None` if the slot does not exist or
-- its length is 0; a call then has an error of its own. `SystemIo` if the unit has no disk, or if the code extends past
-- the end of the disk.
abbrev pub code_of_row : Option SlotRow → Devices → Result (Option (List ℕ)) ExecError
code_of_row None d = Ok None
code_of_row (Some row) d = if row.length == 0 then Ok None else found_code (code_on d row.unit row.block row.length)

-- The code that must be loaded for slot `n`: the code of its row, if its segment is not loaded.
abbrev pub slot_code : ℕ → List (Option SegmentPlace) → List SlotRow → Devices → Result (Option (List ℕ)) ExecError
slot_code n places rows d = if is_none (placed places n) then code_of_row (slice_get rows n) d else Ok None

-- The number of bytes of the code of a slot, or 0 if the slot does not exist.
abbrev pub length_of : Option SlotRow → ℕ
length_of None = 0
length_of (Some row) = row.length

-- The code that a call must load. Only CXP loads code: that of its slot `n`, if its segment is not loaded.
unfoldable pub code_needed : Call → List (Option SegmentPlace) → List SlotRow → Devices
    → Result (Option (List ℕ)) ExecError
code_needed (Cxp n p) places rows d = slot_code n places rows d
code_needed (Clp p) places rows d = Ok None
code_needed (Cgp p) places rows d = Ok None
code_needed (Cbp p) places rows d = Ok None
code_needed (Cip p) places rows d = Ok None

-- The bytes of borrowed code.
abbrev pub code_lent : Result (Option (Bor (List ℕ))) ExecError → Result (Option (List ℕ)) ExecError
code_lent (Ok code) = Ok (option_map (λ c. c.now) code)
code_lent (Err e) = Err e
