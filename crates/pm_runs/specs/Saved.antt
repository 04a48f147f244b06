-- The files after a job that saves images, a printer's output or a trace. `old` and `new` are the files before and
-- after.
use Rattle.std.specs.Prelude.{◌≡◌, ◌⊎◌, ◌++◌, ⊤, ℕ, Bool, true, false, List, [], ◌∷◌, Option, None, Some, Vec, option_map}
use Rattle.std.specs.Prelude.{if◌then◌else◌}
use Rattle.std.specs.Io.KnownBytes.{Appends}
use Rattle.std.specs.Prelude.{vec_items, string_bytes}
use Rattle.std.specs.declared.alloc.Global.{Global}
use Rattle.pm_files.specs.Held.{Files, HoldsFile, Saves, Locks, Puts}
use Rattle.pm_tool.specs.Disks.{images_of}
use Rattle.pm_tool.specs.Outcomes.{IsOutcome, Said, no_others}
use Rattle.pm_jobs.specs.Streams.{AppendsFront, Outgoing, Streams}
use Rattle.pm_tool.specs.Said.{Tells, job_said}
use Rattle.pm_tool.specs.declared.outcome.Exit.{Exit}
use Rattle.pm_tool.specs.declared.outcome.Exit.TheVariants as exits
use Rattle.pm_tool.specs.declared.outcome.Job.{Job}
use Rattle.pm_tool.specs.declared.outcome.Job.TheVariants as jobs
use Rattle.pm_tool.specs.declared.outcome.Outcome.{Outcome}
use Rattle.pm_jobs.specs.declared.saving.Saving.{Saving}
use Rattle.pm_jobs.specs.declared.saving.Saving.TheVariants as savings
use Rattle.pm_jobs.specs.declared.selection.Selection.{Selection}
use Rattle.pm_output.specs.Texts.{SavesText}
use Rattle.pm_runs.specs.declared.saved.SavedOfRun.{SavedOfRun}
use Rattle.pm_paths.specs.Locks.{held_at}
use Rattle.pm_plan.specs.Asked.{paths_in}
use Rattle.pm_runs.specs.declared.saved.Printing.{Printing}
use Rattle.pm_plan.specs.declared.run_words.Program.{Program}
use Rattle.pm_runs.specs.declared.saved.Printing.TheVariants as printings

-- Returns whether the exit states that a program has run: it ended, or it stopped at its limit of steps, at the end of
-- its input, or at an execution error.
abbrev pub has_run : Exit → Bool
has_run exits.Ended = true
has_run exits.Usage = false
has_run exits.Refused = false
has_run exits.ExecutionError = true
has_run exits.ReadFault = false
has_run exits.WriteFault = false
has_run exits.NoMemory = false
has_run exits.Stopped = true

-- Is true if `bytes`, the printer's output, is saved as the destination states. All other files are unchanged.
abbrev pub Prints : Files → Files → Printing → List ℕ → Type 0
Prints old new printings.Nowhere bytes = new ≡ old
Prints old new printings.Output bytes = new ≡ old
Prints old new (printings.File path) bytes = Puts old new (string_bytes path) bytes

-- Is true if the printer's output is saved if the first argument is true, and if no file changes otherwise.
abbrev pub PrintsIf : Bool → Files → Files → Printing → List ℕ → Type 0
PrintsIf true old new printing bytes = Prints old new printing bytes
PrintsIf false old new printing bytes = new ≡ old

-- Returns the paths of a program's disks, in the order of the units 4, 5, 9, 10, 11 and 12. `disk` is the path for unit
-- 4.
abbrev pub paths_of : List ℕ → List (Option (List ℕ)) → List (Option (List ℕ))
paths_of disk others = Some disk ∷ others

-- Returns the path at which a run saves the image of each unit, or `None` for an image that is not saved.
abbrev pub saved_paths : Saving → List ℕ → List (Option (List ℕ)) → List (Option (List ℕ))
saved_paths savings.Nothing disk others = None ∷ no_others
saved_paths savings.First disk others = Some disk ∷ no_others
saved_paths savings.All disk others = Some disk ∷ others
saved_paths savings.Others disk others = None ∷ others

-- Returns the paths that a run locks before it reads the files: the paths of the images that it may write.
abbrev pub held_paths : Saving → List ℕ → List (Option (List ℕ)) → List (Option (List ℕ))
held_paths savings.Nothing disk others = []
held_paths savings.First disk others = Some disk ∷ []
held_paths savings.All disk others = Some disk ∷ others
held_paths savings.Others disk others = others

-- Returns the locks `held` together with the locks of the files at the paths.
abbrev pub held_each : List (Option (List ℕ)) → Locks → Locks
held_each [] held = held
held_each (path ∷ paths) held = held_each paths (held_at path held)

-- Is true if `image` is saved at the path. Without a path or without an image, no file changes.
abbrev pub SavesAt : Files → Files → Option (List ℕ) → Option (List ℕ) → Type 0
SavesAt old new None image = new ≡ old
SavesAt old new (Some path) image = Saves old new path image

-- `first_image` returns the first image of a list, and `next_images` returns the images after it.
abbrev pub first_image : List (Option (List ℕ)) → Option (List ℕ)
first_image [] = None
first_image (image ∷ images) = image

abbrev pub next_images : List (Option (List ℕ)) → List (Option (List ℕ))
next_images [] = []
next_images (image ∷ images) = images

-- Is true if each image is saved at its path, one after the other. Both lists have the order of the units.
abbrev pub SavesEach : Files → Files → List (Option (List ℕ)) → List (Option (List ℕ)) → Type 0
SavesEach old new [] images = new ≡ old
SavesEach old new (path ∷ paths) images = (between : Files)
    × SavesAt old between path (first_image images) × SavesEach between new paths (next_images images)

-- Is true if the images of `outcome` are saved at `paths`, in the order of the units, and then the printer's output is
-- saved if the program has run. No other file changes.
abbrev pub SavesRun : Files → Files → List (Option (List ℕ)) → Printing → Outcome → Type 0
SavesRun old new paths printing outcome = (between : Files)
    × SavesEach old between paths (option_map vec_items outcome.image ∷ images_of outcome.others)
    × PrintsIf (has_run outcome.exit) between new printing outcome.printer.items

-- Is true if the images for a prefix of the paths are saved, and no other file changes.
abbrev pub SavesFront : Files → Files → List (Option (List ℕ)) → List (Option (List ℕ)) → Type 0
SavesFront old new [] images = new ≡ old
SavesFront old new (path ∷ paths) images = (new ≡ old) ⊎ ((between : Files)
    × SavesAt old between path (first_image images) × SavesFront between new paths (next_images images))

-- Is true if some images are saved at a prefix of `paths`, and no other file changes.
abbrev pub SavesSome : Files → Files → List (Option (List ℕ)) → Type 0
SavesSome old new paths = (images : List (Option (List ℕ))) × SavesFront old new paths images

-- Is true if the last argument is the image at the path, or if both are `None`.
abbrev pub Reads : Files → Option (List ℕ) → Option (List ℕ) → Type 0
Reads files None None = ⊤
Reads files None (Some image) = ⊥
Reads files (Some path) None = ⊥
Reads files (Some path) (Some image) = HoldsFile files path image

-- Is true if the last argument has the image at each of the paths, in the same order.
abbrev pub ReadsEach : Files → List (Option (List ℕ)) → List (Option (List ℕ)) → Type 0
ReadsEach files [] [] = ⊤
ReadsEach files [] (image ∷ images) = ⊥
ReadsEach files (path ∷ paths) [] = ⊥
ReadsEach files (path ∷ paths) (image ∷ images) = Reads files path image × ReadsEach files paths images

-- Returns the images of all units that `told` states, in the order of the units. A record of type `Said` has the
-- results that the specification of a job states.
abbrev pub images_said : Said → List (Option (List ℕ))
images_said told = told.image ∷ told.others

-- Is true if the images that `told` states are saved at `paths`, in the order of the units, and then the printer's
-- output is saved if the program has run. No other file changes.
abbrev pub SavesTold : Files → Files → List (Option (List ℕ)) → Printing → Said → Type 0
SavesTold old new paths printing told = (between : Files)
    × SavesEach old between paths (told.image ∷ told.others)
    × PrintsIf (has_run told.exit) between new printing told.printer

-- Is true if a run saves what the specification of the run states for `input`, the images at the program's paths, and
-- the system's code file if there is one.
abbrev pub SavesRunSaid : Files → Files → Program → SavedOfRun → List ℕ → Type 0
SavesRunSaid old new program saved input = (disks : List (Option (Vec ℕ Global))) × (system : Option (Vec ℕ Global))
    × ReadsEach old (paths_of (string_bytes program.disk) (paths_in program.others)) (images_of disks)
    × Reads old (option_map string_bytes program.system) (option_map vec_items system)
    × SavesTold old new (saved_paths saved.saving (string_bytes program.disk) (paths_in program.others)) saved.printing
    (job_said (jobs.Run disks program.name program.limit saved.saving system) input)

-- The result if a file cannot be read or written: no file has changed, or the images for a prefix of the paths are
-- saved. These images are those that the specification states for the files that were read and for `input`.
abbrev pub SavesFrontSaid : Files → Files → Program → SavedOfRun → List ℕ → Type 0
SavesFrontSaid old new program saved input = (new ≡ old) ⊎ ((disks : List (Option (Vec ℕ Global)))
    × (system : Option (Vec ℕ Global))
    × ReadsEach old (paths_of (string_bytes program.disk) (paths_in program.others)) (images_of disks)
    × Reads old (option_map string_bytes program.system) (option_map vec_items system)
    × SavesFront old new (saved_paths saved.saving (string_bytes program.disk) (paths_in program.others))
    (images_said (job_said (jobs.Run disks program.name program.limit saved.saving system) input)))

-- The bytes that a run adds to standard output after those of the console: the printer's output, if its destination is
-- standard output and the program has run.
abbrev pub printed : Printing → Bool → List ℕ → List ℕ
printed printings.Nowhere runs bytes = []
printed printings.Output runs bytes = if runs then bytes else []
printed (printings.File path) runs bytes = []

-- The whole output of a run: the bytes of the console, and after them those of the printer.
abbrev pub output_said : Printing → Said → List ℕ
output_said printing told = told.written ++ printed printing (has_run told.exit) told.printer

-- The results that the specification of a run states for `input`, the images `disks` and the system's code file
-- `system`.
abbrev pub said_of_run : Program → SavedOfRun → List (Option (Vec ℕ Global)) → Option (Vec ℕ Global) → List ℕ → Said
said_of_run program saved disks system input =
    job_said (jobs.Run disks program.name program.limit saved.saving system) input

-- Is true if the outcome and the output are those that the specification of the run states for `input`, the images at
-- the program's paths, and the system's code file if there is one.
abbrev pub TellsRun : Files → Outgoing → Outgoing → Outcome → Program → SavedOfRun → List ℕ → Type 0
TellsRun files before after outcome program saved input = (disks : List (Option (Vec ℕ Global)))
    × (system : Option (Vec ℕ Global))
    × ReadsEach files (paths_of (string_bytes program.disk) (paths_in program.others)) (images_of disks)
    × Reads files (option_map string_bytes program.system) (option_map vec_items system)
    × IsOutcome outcome (said_of_run program saved disks system input)
    × Appends before.contents after.contents (output_said saved.printing (said_of_run program saved disks system input))

-- Is true if nothing was written, or a prefix of the output that the specification of the run states.
abbrev pub TellsPartOfRun : Files → Outgoing → Outgoing → Program → SavedOfRun → List ℕ → Type 0
TellsPartOfRun files before after program saved input = (after ≡ before) ⊎ ((disks : List (Option (Vec ℕ Global)))
    × (system : Option (Vec ℕ Global))
    × ReadsEach files (paths_of (string_bytes program.disk) (paths_in program.others)) (images_of disks)
    × Reads files (option_map string_bytes program.system) (option_map vec_items system)
    × AppendsFront before.contents after.contents
    (output_said saved.printing (said_of_run program saved disks system input)))

-- Is true if the output, the outcome and the unread input are those that the specification of the job states for
-- `input`. `job disks system` is the job that runs a program on the images `disks` and the system's code file `system`.
abbrev pub TellsOf : (List (Option (Vec ℕ Global)) → Option (Vec ℕ Global) → Job) → Files → Streams → Streams → Outcome
    → Program → List ℕ → Type 0
TellsOf job files old new outcome program input = (disks : List (Option (Vec ℕ Global)))
    × (system : Option (Vec ℕ Global))
    × ReadsEach files (paths_of (string_bytes program.disk) (paths_in program.others)) (images_of disks)
    × Reads files (option_map string_bytes program.system) (option_map vec_items system)
    × Tells old new outcome (job_said (job disks system) input)

abbrev pub TellsTrace : Files → Streams → Streams → Outcome → Program → Selection → List ℕ → Type 0
TellsTrace files old new outcome program selection input =
    TellsOf (λ disks system. jobs.Trace disks program.name program.limit system selection) files old new outcome
    program input

-- Without a path, the trace is appended to the output, and no file changes. With a path, the trace is saved as the file
-- at the path.
abbrev pub TracesTo : Files → Files → Option (List ℕ) → Streams → Streams → Outcome → Program → Selection → List ℕ
    → Type 0
TracesTo old new None before after outcome program selection input =
    TellsTrace old before after outcome program selection input × (new ≡ old)
TracesTo old new (Some path) before after outcome program selection input =
    (disks : List (Option (Vec ℕ Global))) × (system : Option (Vec ℕ Global))
    × ReadsEach old (paths_of (string_bytes program.disk) (paths_in program.others)) (images_of disks)
    × Reads old (option_map string_bytes program.system) (option_map vec_items system)
    × SavesText old new path outcome (job_said (jobs.Trace disks program.name program.limit system selection) input)

-- Is true if `bytes` is the contents of the file at the path, or is empty without a path.
abbrev pub IsTyped : Files → Option (List ℕ) → List ℕ → Type 0
IsTyped files None bytes = bytes ≡ []
IsTyped files (Some path) bytes = HoldsFile files path bytes

-- Is true if the results of a debugger job are those that its specification states. At the start, the console's input
-- queue contains the bytes of the file at `path`, if there is a path.
abbrev pub TellsDebug : Files → Streams → Streams → Outcome → Program → Option (List ℕ) → List ℕ → Type 0
TellsDebug files old new outcome program path input = (typed : Vec ℕ Global) × IsTyped files path typed.items
    × TellsOf (λ disks system. jobs.Debug disks program.name system typed) files old new outcome program input
