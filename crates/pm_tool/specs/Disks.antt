-- The images of the disks of a program, and the machine that starts on them.
use Rattle.std.specs.Prelude.{◌≡◌, ℕ, ◌+◌, ◌==◌, List, [], ◌∷◌, Option, Some, None, Result, Ok, Err}
use Rattle.std.specs.Prelude.{IfSome, Vec, vec_items, option_map, map, string_bytes, if◌then◌else◌}
use Rattle.std.specs.Option.{option_or}
use Rattle.pm_volume.specs.Directory.{image_fault}
use Rattle.pm_volume.specs.declared.fault.VolumeFault.{VolumeFault}
use Rattle.pm_machine.specs.State.{State, Whole}
use Rattle.pm_machine.specs.Boot.{boot_start}
use Rattle.pm_machine.specs.Start.{raw_start}
use Rattle.pm_machine.specs.declared.state.BootFault.{BootFault}
use Rattle.pm_batch.specs.declared.refusal.Refusal.{Refusal}
use Rattle.pm_batch.specs.declared.refusal.Refusal.TheVariants as refusals
use Rattle.pm_tool.specs.declared.programs.Start.{Start}
use Rattle.pm_tool.specs.declared.programs.Start.TheVariants as starts
use Rattle.pm_filer.specs.SystemDisks.{image_with_system}
use Rattle.pm_filer.specs.declared.system_fault.SystemFault.{SystemFault}
use Rattle.pm_filer.specs.declared.system_fault.SystemFault.TheVariants as faults
use Rattle.pm_tool.specs.declared.outcome.About.{About}
use Rattle.pm_tool.specs.declared.outcome.About.TheVariants as abouts
use Rattle.pm_tool.specs.declared.outcome.Outcome.{Outcome}
use Rattle.pm_tool.specs.declared.programs.NoStart.{NoStart}
use Rattle.pm_tool.specs.declared.work.Work.{Work}
use Rattle.pm_tool.specs.declared.work.Work.TheVariants as works
use Rattle.pm_tool.specs.Hex.{hex_spelled}

-- The images of the disks as lists of bytes.
abbrev pub images_of : {Z : Type 0} → List (Option (Vec ℕ Z)) → List (Option (List ℕ))
images_of disks = map (option_map vec_items) disks

-- Returns the fault of an image that is no volume. Returns None if the image is a volume, or if the unit has no disk.
abbrev pub disk_fault : Option (List ℕ) → Option VolumeFault
disk_fault None = None
disk_fault (Some image) = image_fault image

-- Returns the first fault of the images, in the order of the list.
abbrev pub first_disk_fault : List (Option (List ℕ)) → Option VolumeFault
first_disk_fault [] = None
first_disk_fault (image ∷ images) = option_or (disk_fault image) (first_disk_fault images)

-- The machine that was started, or the refusal with the fault of the start.
abbrev pub started : Result State BootFault → Result State Refusal
started (Ok machine) = Ok machine
started (Err fault) = Err (refusals.Boot fault)

-- The image as a disk that exists, or the fault.
abbrev pub there : Result (List ℕ) SystemFault → Result (Option (List ℕ)) SystemFault
there (Ok image) = Ok (Some image)
there (Err fault) = Err fault

-- Returns the image of unit 4 for the run, or None if the unit has no disk. If `system` is given, it is a code file,
-- and its segment of slot 0 is added to the code file `name` of the image.
abbrev pub first_with : Option (List ℕ) → List ℕ → Option (List ℕ) → Result (Option (List ℕ)) SystemFault
first_with None name image = Ok image
first_with (Some system) name None = Ok None
first_with (Some system) name (Some image) = there (image_with_system image name system)

abbrev pub before : List (Option (List ℕ)) → Result (Option (List ℕ)) SystemFault
    → Result (List (Option (List ℕ))) Refusal
before others (Ok image) = Ok (image ∷ others)
before others (Err fault) = Err (refusals.System fault)

-- Returns the images on which the program `name` runs. The first image of the list is the image of unit 4, which
-- `first_with` computes.
abbrev pub images_with : Option (List ℕ) → List ℕ → List (Option (List ℕ)) → Result (List (Option (List ℕ))) Refusal
images_with system name [] = Ok []
images_with system name (image ∷ others) = before others (first_with system name image)

-- The machine that starts on the program `name` of unit 4, with the clock at 0. If the images were refused, the
-- refusal.
abbrev pub booted_on : List ℕ → Result (List (Option (List ℕ))) Refusal → Result State Refusal
booted_on name (Ok images) = started (boot_start images 4 name 0)
booted_on name (Err refusal) = Err refusal

-- The machine that starts on the program `name` of unit 4, if all images are volumes. Otherwise the first fault is the
-- refusal.
abbrev pub booted_unless : Option VolumeFault → List (Option (List ℕ)) → List ℕ → Option (List ℕ) → Result State Refusal
booted_unless None images name system = booted_on name (images_with system name images)
booted_unless (Some fault) images name system = Err (refusals.Volume fault)

abbrev pub booted : List (Option (List ℕ)) → List ℕ → Option (List ℕ) → Result State Refusal
booted images name system = booted_unless (first_disk_fault images) images name system

-- The machine that starts on a program of bare code. The argument is None if the text of the program is not
-- hexadecimal.
abbrev pub loaded : Option (List ℕ) → Result State Refusal
loaded None = Err refusals.Hex
loaded (Some program) = started (raw_start program)

-- The machine that starts on the program of a job, or the refusal.
abbrev pub machine_at : Start → Result State Refusal
machine_at (starts.Bare text) = loaded (hex_spelled text.items)
machine_at (starts.Booted disks name system) =
    booted (images_of disks) (string_bytes name) (option_map vec_items system)

-- The state of the machine that the code returned, or the refusal.
abbrev pub state_in : Result Whole NoStart → Result State Refusal
state_in (Ok m) = Ok m.state
state_in (Err none) = Err none.refusal

-- ---- the file that a refusal is about

-- Returns the unit of the disk at index `place`.
abbrev pub unit_at : ℕ → ℕ
unit_at place =
    if place == 0 then 4
    else (if place == 1 then 5
    else (if place == 2 then 9
    else (if place == 3 then 10
    else (if place == 4 then 11 else 12))))

abbrev pub here_or : ℕ → Option VolumeFault → Option ℕ → Option ℕ
here_or place None later = later
here_or place (Some fault) later = Some place

-- Returns the index of the first image that is no volume. The first image of the list has index `place`.
abbrev pub first_bad : ℕ → List (Option (List ℕ)) → Option ℕ
first_bad place [] = None
first_bad place (image ∷ images) = here_or place (disk_fault image) (first_bad (place + 1) images)

-- The file that a fault of the system segment is about. `NoCode` and `NoSegment` are about the code file of the system.
-- The other faults are about the program and its volume on unit 4.
abbrev pub system_about : SystemFault → About
system_about (faults.NoCode fault) = abouts.System
system_about faults.NoSegment = abouts.System
system_about (faults.NoProgram fault) = abouts.Unit 4
system_about faults.Taken = abouts.Unit 4
system_about (faults.Volume fault) = abouts.Unit 4
system_about faults.NoMemory = abouts.Unit 4

abbrev pub refusal_about : Refusal → About
refusal_about refusals.Hex = abouts.Unit 4
refusal_about (refusals.Boot fault) = abouts.Unit 4
refusal_about (refusals.Volume fault) = abouts.Unit 4
refusal_about (refusals.Filer fault) = abouts.Unit 4
refusal_about (refusals.Code fault) = abouts.Unit 4
refusal_about (refusals.Asm fault) = abouts.Unit 4
refusal_about (refusals.System fault) = system_about fault

-- Returns the file that the refusal of a program is about. If an image is no volume, it is the first such image.
-- Otherwise, if the code file of the system is refused, it is this code file. Otherwise it is the image of unit 4,
-- which contains the program.
abbrev pub booted_about : Option ℕ → Result (List (Option (List ℕ))) Refusal → About
booted_about (Some place) images = abouts.Unit (unit_at place)
booted_about None (Ok images) = abouts.Unit 4
booted_about None (Err refusal) = refusal_about refusal

-- Returns the file that a refusal of the program of `start` is about. For a program in the input it returns None: such
-- a refusal is about no file.
abbrev pub start_about : Start → Option About
start_about (starts.Bare text) = None
start_about (starts.Booted disks name system) = Some (booted_about (first_bad 0 (images_of disks))
    (images_with (option_map vec_items system) (string_bytes name) (images_of disks)))

-- If `outcome` is a refusal, it names the file that the refusal of `start` is about.
abbrev pub NamesFile : Start → Outcome → Type 0
NamesFile start outcome = IfSome outcome.refusal (λ refusal. outcome.about ≡ start_about start)

abbrev pub NamesFileIn : Work → Outcome → Type 0
NamesFileIn (works.Raw limit selection) outcome = Unit {0}
NamesFileIn (works.Talk start talk) outcome = NamesFile start outcome
NamesFileIn (works.Dis output) outcome = Unit {0}
NamesFileIn (works.Batch job) outcome = Unit {0}
