-- Lemmas for the functions of saved.rt: what a job saves is what the specification of the job states. The input is
-- *known* if the model of the input stream states its remaining bytes.
use Rattle.std.proofs.Common.{◌≡◌, ◌∙◌, ◌∷◌, [], ℕ, Bool, true, false, List, Option, None, Some, Result, Ok, Err}
use Rattle.std.proofs.Common.{OnOk, OnErr, inl, inr, refl, sym, subst, IfOk, IfSome, option_map, vec_items}
use Rattle.std.proofs.Common.{string_bytes, Vec, length, get_or, arith}
use Rattle.std.specs.Result.{result_and}
use Rattle.std.specs.declared.alloc.Global.{Global}
use Rattle.pm_files.specs.Held.{Files, HoldsFile, Saves, Puts}
use Rattle.pm_tool.specs.Outcomes.{Said, IsOutcome, is_sound_exit, no_others}
use Rattle.pm_jobs.specs.Streams.{Streams}
use Rattle.pm_tool.specs.Said.{job_said, IsCutShort, IsSoundExit, Tells, TellsAll}
use Rattle.pm_tool.specs.declared.outcome.Exit.{Exit}
use Rattle.pm_tool.specs.declared.outcome.Exit.TheVariants as exits
use Rattle.pm_tool.specs.declared.outcome.Job.{Job}
use Rattle.pm_tool.specs.declared.outcome.Outcome.{Outcome}
use Rattle.pm_runs.specs.Saved.{SavesEach, SavesFront, SavesFrontSaid, SavesRun, SavesRunSaid, TellsTrace, TracesTo}
use Rattle.pm_runs.specs.Saved.{IsTyped, PrintsIf, Reads, SavesTold, TellsDebug, images_said, ReadsEach, TellsOf}
use Rattle.pm_runs.specs.Saved.{has_run, saved_paths, next_images, paths_of}
use Rattle.pm_files.specs.declared.fault.DiskFault.{DiskFault}
use Rattle.pm_output.specs.Texts.{SavesText}
use Rattle.pm_jobs.specs.declared.selection.Selection.{Selection}
use Rattle.pm_runs.specs.declared.saved.SavedOfRun.{SavedOfRun}
use Rattle.pm_jobs.specs.declared.saving.Saving.{Saving}
use Rattle.pm_plan.specs.Asked.{paths_in}
use Rattle.pm_plan.specs.declared.run_words.Program.{Program}
use Rattle.pm_tool.specs.Disks.{images_of}
use Rattle.pm_tool.specs.declared.outcome.Job.TheVariants as jobs
use Rattle.pm_runs.specs.declared.saved.Printing.{Printing}

-- A list of length 5 consists of its elements at the indices 0 to 4.
pub five_are : {X : Type 0} (xs : List X) (a b c d e : X) → length xs ≡ 5
    → xs ≡ get_or xs 0 a ∷ get_or xs 1 b ∷ get_or xs 2 c ∷ get_or xs 3 d ∷ get_or xs 4 e ∷ []
five_are [] a b c d e n = absurd (omega arith)
five_are (p ∷ []) a b c d e n = absurd (omega arith)
five_are (p ∷ q ∷ []) a b c d e n = absurd (omega arith)
five_are (p ∷ q ∷ r ∷ []) a b c d e n = absurd (omega arith)
five_are (p ∷ q ∷ r ∷ s ∷ []) a b c d e n = absurd (omega arith)
five_are (p ∷ q ∷ r ∷ s ∷ t ∷ []) a b c d e n = refl
five_are (p ∷ q ∷ r ∷ s ∷ t ∷ u ∷ xs) a b c d e n = absurd (omega arith)

-- Is true if each element of the list is `None`.
abbrev AreNone : List (Option (List ℕ)) → Type 0
AreNone [] = Unit {0}
AreNone (None ∷ images) = AreNone images
AreNone (Some image ∷ images) = ⊥

-- If the file at `path` contains `bytes`, then writing `bytes` to `path` changes no file.
pub puts_same : (files : Files) (path bytes : List ℕ) → HoldsFile files path bytes → Puts files files path bytes
puts_same None path bytes holds = tt
puts_same (Some files) path bytes holds = (holds, λ other differs. refl)

-- If `image` is saved at `path`, then each image is saved at its path when the other paths are `None`.
pub each_alone : (old new : Files) (path : List ℕ) (image : Option (List ℕ)) (others : List (Option (List ℕ)))
    → Saves old new path image → SavesEach old new (Some path ∷ no_others) (image ∷ others)
each_alone old new path image others saves =
    (new, saves, (new, refl, (new, refl, (new, refl, (new, refl, (new, refl, refl))))))

-- If the images are saved at all paths, then they are also saved at a prefix of the paths.
each_front : (old new : Files) (paths images : List (Option (List ℕ))) → SavesEach old new paths images
    → SavesFront old new paths images
each_front old new [] images saves = saves
each_front old new (path ∷ paths) images saves =
    inr (saves.0, saves.1, each_front saves.0 new paths (next_images images) saves.2)

-- If the images are saved and then no file changes, then the images are saved at a prefix of the paths.
pub printer_front : (old new last : Files) (paths images : List (Option (List ℕ))) → SavesEach old new paths images
    → last ≡ new → SavesFront old last paths images
printer_front old new last paths images saves stays =
    subst (λ files. SavesFront old files paths images) (sym stays) (each_front old new paths images saves)

-- If `A` implies `B`, and `A` holds when `r` is `Ok`, then `B` holds when `r` is `Ok`.
pub where_ok : {X Y A B : Type 0} (r : Result X Y) → (A → B) → OnOk r A → OnOk r B
where_ok (Ok x) f a = f a
where_ok (Err e) f a = tt

pub where_err : {X Y A B : Type 0} (r : Result X Y) → (A → B) → OnErr r A → OnErr r B
where_err (Ok x) f a = tt
where_err (Err e) f a = f a

-- If `Q` implies `P x`, and `Q` holds when `r` is `Ok`, then `P` holds for the value of `result_and r (Ok x)`.
pub and_ok : {A B E Q : Type 0} (P : B → Type 0) (r : Result A E) (x : B) → (Q → P x) → OnOk r Q
    → IfOk (result_and r (Ok x)) P
and_ok P (Ok a) x f q = f q
and_ok P (Err e) x f q = tt

-- If `outcome` is the outcome that `told` states, then a run saves what `told` states.
run_told : (old new : Files) (paths : List (Option (List ℕ))) (printing : Printing) (outcome : Outcome) (told : Said)
    → IsOutcome outcome told → SavesRun old new paths printing outcome → SavesTold old new paths printing told
run_told old new paths printing outcome told is saves = (
  saves.0,
  subst (λ image. SavesEach old saves.0 paths (image ∷ told.others)) is.image
      (subst (λ others. SavesEach old saves.0 paths (option_map vec_items outcome.image ∷ others)) is.others saves.1),
  subst (PrintsIf (has_run told.exit) saves.0 new printing) is.printer
      (subst (λ exit. PrintsIf (has_run exit) saves.0 new printing outcome.printer.items) is.exit saves.2),
)

-- If `outcome` is the outcome that `told` states, then a saved prefix of its images is a prefix of the images of
-- `told`.
said_front : (old new : Files) (paths : List (Option (List ℕ))) (outcome : Outcome) (told : Said)
    → IsOutcome outcome told → SavesFront old new paths (option_map vec_items outcome.image ∷ images_of outcome.others)
    → SavesFront old new paths (images_said told)
said_front old new paths outcome told is saves =
    subst (λ image. SavesFront old new paths (image ∷ told.others)) is.image
    (subst (λ others. SavesFront old new paths (option_map vec_items outcome.image ∷ others)) is.others saves)

-- If reading changes no file, then what a run saves relative to the files after reading, it saves relative to `old`.
pub run_saves : (old read new : Files) (to disk : List ℕ) (others : List (Option (List ℕ))) (saved : SavedOfRun) (outcome : Outcome)
    → read ≡ old → to ≡ disk → SavesRun read new (saved_paths saved.saving to others) saved.printing outcome
    → SavesRun old new (saved_paths saved.saving disk others) saved.printing outcome
run_saves old read new to disk others saved outcome same is saves =
    subst (λ files. SavesRun files new (saved_paths saved.saving disk others) saved.printing outcome) same
    (subst (λ path. SavesRun read new (saved_paths saved.saving path others) saved.printing outcome) is saves)

-- If the input is known, a run saves what the specification states for the input and for the images that were read.
pub known_run_said : (before after : Streams) (old new : Files) (program : Program) (saved : SavedOfRun)
    (disks : List (Option (Vec ℕ Global))) (system : Option (Vec ℕ Global)) (outcome : Outcome)
    → TellsAll before after outcome (job_said (jobs.Run disks program.name program.limit saved.saving system))
    → ReadsEach old (paths_of (string_bytes program.disk) (paths_in program.others)) (images_of disks)
    → Reads old (option_map string_bytes program.system) (option_map vec_items system)
    → SavesRun old new (saved_paths saved.saving (string_bytes program.disk) (paths_in program.others)) saved.printing outcome
    → IfSome before.source.remaining (λ input. SavesRunSaid old new program saved input)
known_run_said before after old new program saved disks system outcome tells reads given saves =
    known before.source.remaining tells
  where
    known : (had : Option (List ℕ))
        → IfSome had (λ input. Tells before after outcome (job_said (jobs.Run disks program.name program.limit saved.saving system) input))
        → IfSome had (λ input. SavesRunSaid old new program saved input)
    known None told = tt
    known (Some input) told = (
      disks,
      system,
      reads,
      given,
      run_told old new (saved_paths saved.saving (string_bytes program.disk) (paths_in program.others)) saved.printing outcome _ told.comes_to saves,
    )

-- If each image is `None`, then saving the images changes no file.
each_none : (old new : Files) (paths images : List (Option (List ℕ))) → AreNone images → SavesEach old new paths images
    → new ≡ old
each_none old new [] images none saves = saves
each_none old new (None ∷ paths) [] none saves = each_none saves.0 new paths [] tt saves.2 ∙ saves.1
each_none old new (Some path ∷ paths) [] none saves = each_none saves.0 new paths [] tt saves.2 ∙ saves.1
each_none old new (None ∷ paths) (None ∷ images) none saves = each_none saves.0 new paths images none saves.2 ∙ saves.1
each_none old new (Some path ∷ paths) (None ∷ images) none saves =
    each_none saves.0 new paths images none saves.2 ∙ saves.1
each_none old new (path ∷ paths) (Some image ∷ images) none saves = absurd none

-- If `exit` states that a program was cut short, then the program has not run.
pub not_run : (exit : Exit) → IsCutShort exit → has_run exit ≡ false
not_run exits.Ended cut = absurd (cc)
not_run exits.Usage cut = refl
not_run exits.Refused cut = refl
not_run exits.ExecutionError cut = absurd (cc)
not_run exits.ReadFault cut = refl
not_run exits.WriteFault cut = refl
not_run exits.NoMemory cut = refl
not_run exits.Stopped cut = absurd (cc)

-- If a run was cut short and its outcome has no images, then no file changes.
pub cut_run : (old new : Files) (paths : List (Option (List ℕ))) (printing : Printing) (outcome : Outcome)
    → IsCutShort outcome.exit → outcome.image ≡ None → images_of outcome.others ≡ no_others
    → SavesRun old new paths printing outcome → new ≡ old
cut_run old new paths printing outcome cut image others saves =
    subst (λ runs. PrintsIf runs saves.0 new printing outcome.printer.items) (not_run outcome.exit cut) saves.2
    ∙ each_none old saves.0 paths (None ∷ no_others) tt
    (subst (λ image. SavesEach old saves.0 paths (option_map vec_items image ∷ no_others)) image
    (subst (λ others. SavesEach old saves.0 paths (option_map vec_items outcome.image ∷ others)) others saves.1))

-- If `P` holds when `r` is an error, then `P` holds when `result_and r (Ok x)` is an error.
pub and_err : {A B E : Type 0} (P : Type 0) (r : Result A E) (x : B) → OnErr r P → OnErr (result_and r (Ok x)) P
and_err P (Ok a) x p = tt
and_err P (Err e) x p = p

-- If reading changes no file, then a prefix that is saved relative to the files after reading is saved relative to
-- `old`.
pub front_from : (old read new : Files) (to disk : List ℕ) (others : List (Option (List ℕ))) (saving : Saving)
    (images : List (Option (List ℕ))) → read ≡ old → to ≡ disk → SavesFront read new (saved_paths saving to others) images
    → SavesFront old new (saved_paths saving disk others) images
front_from old read new to disk others saving images same is saves =
    subst (λ files. SavesFront files new (saved_paths saving disk others) images) same
    (subst (λ path. SavesFront read new (saved_paths saving path others) images) is saves)

-- If each image is `None`, then saving a prefix of the images changes no file.
front_none : (old new : Files) (paths images : List (Option (List ℕ))) → AreNone images
    → SavesFront old new paths images → new ≡ old
front_none old new [] images none saves = saves
front_none old new (path ∷ paths) images none (inl same) = same
front_none old new (None ∷ paths) [] none (inr saves) = front_none saves.0 new paths [] tt saves.2 ∙ saves.1
front_none old new (Some path ∷ paths) [] none (inr saves) = front_none saves.0 new paths [] tt saves.2 ∙ saves.1
front_none old new (None ∷ paths) (None ∷ images) none (inr saves) =
    front_none saves.0 new paths images none saves.2 ∙ saves.1
front_none old new (Some path ∷ paths) (None ∷ images) none (inr saves) =
    front_none saves.0 new paths images none saves.2 ∙ saves.1
front_none old new (path ∷ paths) (Some image ∷ images) none (inr saves) = absurd none

-- If the input is known, the saved prefix consists of images that the specification states for the input and for the
-- images that were read.
pub known_front_said : (before after : Streams) (old new : Files) (program : Program) (saved : SavedOfRun)
    (disks : List (Option (Vec ℕ Global))) (system : Option (Vec ℕ Global)) (outcome : Outcome)
    → (IsSoundExit outcome.exit
    → TellsAll before after outcome (job_said (jobs.Run disks program.name program.limit saved.saving system)))
    → (IsCutShort outcome.exit
    → (outcome.image ≡ None) × (images_of outcome.others ≡ no_others) × (outcome.printer.items ≡ []))
    → ReadsEach old (paths_of (string_bytes program.disk) (paths_in program.others)) (images_of disks)
    → Reads old (option_map string_bytes program.system) (option_map vec_items system)
    → SavesFront old new (saved_paths saved.saving (string_bytes program.disk) (paths_in program.others))
    (option_map vec_items outcome.image ∷ images_of outcome.others)
    → IfSome before.source.remaining (λ input. SavesFrontSaid old new program saved input)
known_front_said before after old new program saved disks system outcome tells nothing reads given saves =
    known before.source.remaining (is_sound_exit outcome.exit) refl tells
  where
    known : (had : Option (List ℕ)) (sound : Bool) → is_sound_exit outcome.exit ≡ sound
        → (IsSoundExit outcome.exit → IfSome had (λ input.
        Tells before after outcome (job_said (jobs.Run disks program.name program.limit saved.saving system) input)))
        → IfSome had (λ input. SavesFrontSaid old new program saved input)
    known None sound is told = tt
    known (Some input) true is told =
        inr (
          disks,
          system,
          reads,
          given,
          said_front old new
              (saved_paths saved.saving (string_bytes program.disk) (paths_in program.others)) outcome _ (told is).comes_to saves,
        )
    known (Some input) false is told =
        inl (front_none old new (saved_paths saved.saving (string_bytes program.disk) (paths_in program.others)) (None ∷ no_others) tt
        (subst (λ image. SavesFront old new (saved_paths saved.saving (string_bytes program.disk) (paths_in program.others))
        (option_map vec_items image ∷ no_others)) (nothing is).0
        (subst (λ others. SavesFront old new (saved_paths saved.saving (string_bytes program.disk) (paths_in program.others))
        (option_map vec_items outcome.image ∷ others)) (nothing is).1 saves)))

-- If no file has changed, then the result of a run with an error is as specified.
pub known_front_none : (had : Option (List ℕ)) (old new : Files) (program : Program) (saved : SavedOfRun) → new ≡ old
    → IfSome had (λ input. SavesFrontSaid old new program saved input)
known_front_none None old new program saved same = tt
known_front_none (Some input) old new program saved same = inl same

-- If the input is known, a job has the results that the specification states for the input and for the images that were
-- read.
pub known_tells : (job : List (Option (Vec ℕ Global)) → Option (Vec ℕ Global) → Job) (old new : Streams) (files : Files)
    (program : Program) (disks : List (Option (Vec ℕ Global))) (system : Option (Vec ℕ Global)) (outcome : Outcome) (from : List ℕ)
    → from ≡ string_bytes program.disk
    → TellsAll old new outcome (job_said (job disks system))
    → ReadsEach files (paths_of from (paths_in program.others)) (images_of disks)
    → Reads files (option_map string_bytes program.system) (option_map vec_items system)
    → IfSome old.source.remaining (λ input. TellsOf job files old new outcome program input)
known_tells job old new files program disks system outcome from is_from tells reads given = known old.source.remaining tells
  where
    known : (had : Option (List ℕ))
        → IfSome had (λ input. Tells old new outcome (job_said (job disks system) input))
        → IfSome had (λ input. TellsOf job files old new outcome program input)
    known None told = tt
    known (Some input) told =
        (disks, system, subst (λ path. ReadsEach files (paths_of path (paths_in program.others)) (images_of disks)) is_from reads, given, told)

-- If the input is known, the trace in the output or in the file at `path` is the one that the specification states.
pub known_traces : (had : Option (List ℕ)) (old new : Files) (path : Option (List ℕ)) (before after : Streams) (outcome : Outcome)
    (program : Program) (selection : Selection) → path ≡ None → new ≡ old
    → IfSome had (λ input. TellsTrace old before after outcome program selection input)
    → IfSome had (λ input. TracesTo old new path before after outcome program selection input)
known_traces None old new path before after outcome program selection e same tells = tt
known_traces (Some input) old new path before after outcome program selection e same tells =
    subst (λ p. TracesTo old new p before after outcome program selection input) (sym e) (tells, same)

kept_trace : (had : Option (List ℕ)) (old read new : Files) (path : Option (List ℕ)) (to : List ℕ) (before after : Streams)
    (outcome : Outcome) (program : Program) (selection : Selection) (disks : List (Option (Vec ℕ Global)))
    (system : Option (Vec ℕ Global)) (from : List ℕ) → path ≡ Some to → read ≡ old → from ≡ string_bytes program.disk
    → ReadsEach old (paths_of from (paths_in program.others)) (images_of disks)
    → Reads old (option_map string_bytes program.system) (option_map vec_items system)
    → IfSome had (λ input. SavesText read new to outcome (job_said (jobs.Trace disks program.name program.limit system selection) input))
    → IfSome had (λ input. TracesTo old new path before after outcome program selection input)
kept_trace None old read new path to before after outcome program selection disks system from e same is_from reads given saves = tt
kept_trace (Some input) old read new path to before after outcome program selection disks system from e same is_from reads given saves =
    subst (λ p. TracesTo old new p before after outcome program selection input) (sym e) (
      disks,
      system,
      subst (λ p. ReadsEach old (paths_of p (paths_in program.others)) (images_of disks)) is_from reads,
      given,
      subst (λ files. SavesText files new to outcome (job_said (jobs.Trace disks program.name program.limit system selection) input)) same saves,
    )

pub kept_traces : (r : Result Outcome DiskFault) (had : Option (List ℕ)) (old read new : Files) (path : Option (List ℕ)) (to : List ℕ)
    (before after : Streams) (program : Program) (selection : Selection) (disks : List (Option (Vec ℕ Global)))
    (system : Option (Vec ℕ Global)) (from : List ℕ) → path ≡ Some to → read ≡ old → from ≡ string_bytes program.disk
    → ReadsEach old (paths_of from (paths_in program.others)) (images_of disks)
    → Reads old (option_map string_bytes program.system) (option_map vec_items system)
    → IfOk r (λ outcome. IsSoundExit outcome.exit → IfSome had (λ input.
    SavesText read new to outcome (job_said (jobs.Trace disks program.name program.limit system selection) input)))
    → IfOk r (λ outcome. IsSoundExit outcome.exit → IfSome had (λ input. TracesTo old new path before after outcome program selection input))
kept_traces (Err fault) had old read new path to before after program selection disks system from e same is_from reads given saves = tt
kept_traces (Ok outcome) had old read new path to before after program selection disks system from e same is_from reads given saves =
    λ sound. kept_trace had old read new path to before after outcome program selection disks system from e same is_from reads given (saves sound)

-- If the input is known, the debugger has the results that the specification states for the bytes `typed`.
pub known_typed : (had : Option (List ℕ)) (files : Files) (old new : Streams) (outcome : Outcome) (program : Program)
    (path : Option (List ℕ)) (typed : Vec ℕ Global) → IsTyped files path typed.items
    → IfSome had (λ input. TellsOf (λ disks system. jobs.Debug disks program.name system typed) files old new outcome program input)
    → IfSome had (λ input. TellsDebug files old new outcome program path input)
known_typed None files old new outcome program path typed is tells = tt
known_typed (Some input) files old new outcome program path typed is tells = (typed, is, tells)
