-- Laws of lists of events, and of the code that calls load.
use Rattle.std.specs.Prelude.{◌≡◌, ◌<◌, ℕ, List, [], ◌∷◌, ◌++◌, Option, Some, None, Ok}
use Rattle.pm_families.specs.declared.families.Call.TheVariants.{Cxp}
use Rattle.pm_calls.specs.declared.frames.SegmentPlace.{SegmentPlace}
use Rattle.pm_calls.specs.Places.{placed}
use Rattle.pm_volume.specs.declared.entry.Entry.{Entry}
use Rattle.pm_volume.specs.Directory.{IsVolume}
use Rattle.pm_codefile.specs.Dictionary.{segment_in}
use Rattle.pm_units.specs.Devices.{Devices, image_on, unit_of}
use Rattle.pm_machine.specs.Boot.{code_file, image_of, rows_below}
use Rattle.pm_stdproc.specs.Loads.{code_needed}
use Rattle.pm_machine.specs.State.{State}
use Rattle.pm_machine.specs.Events.{Event, next, after_all}

-- The events, executed one after another, lead from the state `s` to the state `t`.
abbrev pub Goes : State → List Event → State → Type 0
Goes s [] t = t ≡ s
Goes s (e ∷ es) t = (between : State) × (between ≡ next s e) × Goes between es t

-- If the events lead from `s` to `t` one after another, then `t` is the state after the whole list.
abbrev pub CallsGiveAll : Type 0
CallsGiveAll = (s t : State) (es : List Event) → Goes s es t → t ≡ after_all s es

-- The state after two lists of events is the state after the second list, executed from the state after the first list.
abbrev pub EventsGoOn : Type 0
EventsGoOn = (s : State) (es more : List Event) → after_all s (es ++ more) ≡ after_all (after_all s es) more

-- If the disk of the unit is the volume from which a program was booted, and the slot `n` has no address, then a CXP to
-- the slot loads the segment of this slot of the code file, or nothing if the slot has no segment. Premise: the block
-- number after the last block of the file is less than 65,536.
abbrev pub LoadsGiveSegments : Type 0
LoadsGiveSegments =
    (images : List (Option (List ℕ))) (image name file : List ℕ) (entry : Entry) (d : Devices)
    (places : List (Option SegmentPlace)) (unit n p : ℕ) →
    IsVolume image → image_of images unit ≡ Some image → code_file images unit name ≡ Ok (entry, file)
    → entry.end < 65536 →
    image_on (unit_of unit) d ≡ Some image → placed places n ≡ None →
    code_needed (Cxp n p) places (rows_below unit entry.first file 16) d ≡ Ok (segment_in file n)
