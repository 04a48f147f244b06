-- The contents of a path of a store after a job.
use Rattle.std.proofs.Common.{◌≡◌, ◌∙◌, ℕ, true, false, List, [], Option, None, Some, Result, Ok, Err, IfOk, IfSome, OnErr}
use Rattle.std.proofs.Common.{◌∷◌, Bool, String, Vec, ap, refl, subst, sym, option_map, vec_items, string_bytes}
use Rattle.std.specs.declared.alloc.Global.{Global}
use Rattle.pm_files.specs.Held.{Files, HoldsFile, Saves}
use Rattle.pm_files.specs.declared.fault.DiskFault.{DiskFault}
use Rattle.pm_batch.specs.declared.refusal.Refusal.{Refusal}
use Rattle.pm_machine.specs.State.{State}
use Rattle.pm_tool.specs.Said.{IsCutShort, IsSoundExit, job_said}
use Rattle.pm_tool.specs.declared.outcome.Job.TheVariants as jobs
use Rattle.pm_tool.specs.declared.outcome.Outcome.{Outcome}
use Rattle.pm_runs.specs.Saved.{SavesEach, SavesRun, SavesRunSaid, SavesTold, PrintsIf, Reads, ReadsEach}
use Rattle.pm_runs.specs.Saved.{first_image, has_run, saved_paths, next_images}
use Rattle.pm_verbs.specs.Verbs.{SavesSaid, said_verb}
use Rattle.pm_jobs.specs.declared.saving.Saving.{Saving}
use Rattle.pm_jobs.specs.declared.saving.Saving.TheVariants as savings
use Rattle.pm_plan.specs.Asked.{paths_in}
use Rattle.pm_runs.specs.declared.saved.Printing.TheVariants as printings
use Rattle.pm_plan.specs.declared.file_words.Verb.{Verb}
use Rattle.pm_plan.specs.declared.file_words.Verb.TheVariants as verbs
use Rattle.pm_tool.specs.Disks.{booted, images_of}
use Rattle.law_stores.specs.Jobs.{SavesDisk, LeavesRun, StaysWhereCut, fourth_saved, left_in}

abbrev bytes_in : Option (List ℕ) → List ℕ
bytes_in None = []
bytes_in (Some bytes) = bytes

-- A path has only one list of bytes.
same : (image file : List ℕ) → Some image ≡ Some file → file ≡ image
same image file is = sym (ap bytes_in is)

left : (old new : List ℕ → Option (List ℕ)) (path image file : List ℕ) (saved : Option (List ℕ))
    → new path ≡ Some file → Saves (Some old) (Some new) path saved → old path ≡ Some image → file ≡ left_in image saved
left old new path image file None has saves had =
    same image file (sym had ∙ subst (λ files. HoldsFile files path file) saves has)
left old new path image file (Some bytes) has saves had = same bytes file (sym saves.0 ∙ has)

-- If the job fails with a disk fault, its file has its old bytes.
pub file_stays : (done : Result Outcome DiskFault) (old new : List ℕ → Option (List ℕ)) (path image file : List ℕ)
    → new path ≡ Some file → OnErr done (Some new ≡ Some old) → old path ≡ Some image → OnErr done (file ≡ image)
file_stays (Ok outcome) old new path image file has stays had = tt
file_stays (Err fault) old new path image file has stays had = left old new path image file None has stays had

-- If the job was cut short, its file has its old bytes.
pub file_cut : (done : Result Outcome DiskFault) (old new : List ℕ → Option (List ℕ)) (path image file : List ℕ)
    → new path ≡ Some file → IfOk done (λ outcome. IsCutShort outcome.exit → Some new ≡ Some old)
    → old path ≡ Some image → IfOk done (StaysWhereCut image file)
file_cut (Ok outcome) old new path image file has stays had =
    λ cut. left old new path image file None has (stays cut) had
file_cut (Err fault) old new path image file has stays had = tt

-- The file has the image of the outcome, or its old bytes.
pub file_saved : (done : Result Outcome DiskFault) (old new : List ℕ → Option (List ℕ)) (path image file : List ℕ)
    → new path ≡ Some file
    → IfOk done (λ outcome. Saves (Some old) (Some new) path (option_map vec_items outcome.image))
    → old path ≡ Some image
    → IfOk done (λ outcome. file ≡ left_in image (option_map vec_items outcome.image))
file_saved (Ok outcome) old new path image file has saves had = left old new path image file _ has saves had
file_saved (Err fault) old new path image file has saves had = tt

verb_said : (old new : List ℕ → Option (List ℕ)) (path image file : List ℕ) (verb : Verb) (input : List ℕ)
    → new path ≡ Some file → SavesSaid (Some old) (Some new) path verb input → old path ≡ Some image
    → file ≡ left_in image (said_verb image verb input).image
verb_said old new path image file (verbs.Command command) input has saves had = left old new path image file _ has
    (subst (λ bytes. Saves (Some old) (Some new) path (said_verb bytes (verbs.Command command) input).image)
    (same image saves.0 (sym had ∙ saves.1)) saves.2) had
verb_said old new path image file (verbs.New name blocks) input has saves had =
    left old new path image file _ has saves.2 had
verb_said old new path image file verbs.Repair input has saves had = left old new path image file _ has
    (subst (λ bytes. Saves (Some old) (Some new) path (said_verb bytes verbs.Repair input).image)
    (same image saves.0 (sym had ∙ saves.1)) saves.2) had
verb_said old new path image file verbs.Check input has saves had =
    left old new path image file ((said_verb image verbs.Check input).image) has
    (subst (λ bytes. Saves (Some old) (Some new) path (said_verb bytes verbs.Check input).image)
    (same image saves.0 (sym had ∙ saves.1)) saves.2) had

-- The file has the image that the definition gives for its old bytes and the input, or its old bytes.
pub file_said : (done : Result Outcome DiskFault) (old new : List ℕ → Option (List ℕ)) (path image file : List ℕ)
    (verb : Verb) (known : Option (List ℕ)) (input : List ℕ) → new path ≡ Some file
    → IfOk done (λ outcome. IsSoundExit outcome.exit
    → IfSome known (λ input. SavesSaid (Some old) (Some new) path verb input))
    → known ≡ Some input → old path ≡ Some image
    → IfOk done (λ outcome. IsSoundExit outcome.exit → file ≡ left_in image (said_verb image verb input).image)
file_said (Ok outcome) old new path image file verb known input has saves is had = λ sound.
    verb_said old new path image file verb input has
    (subst (λ known. IfSome known (λ input. SavesSaid (Some old) (Some new) path verb input)) is (saves sound)) had
file_said (Err fault) old new path image file verb known input has saves is had = tt

-- No other unit has a disk.
abbrev none_other : List (Option (String Global))
none_other = None ∷ None ∷ None ∷ None ∷ None ∷ []

-- If the five other units have no path, nothing is saved for them.
others_none : (old between : Files) (images : List (Option (List ℕ)))
    → SavesEach old between (None ∷ None ∷ None ∷ None ∷ None ∷ []) images → between ≡ old
others_none old between images saves =
    let d9 = saves.2 in
    let d10 = d9.2 in
    let d11 = d10.2 in
    let d12 = d11.2 in
    d12.2 ∙ d12.1 ∙ d11.1 ∙ d10.1 ∙ d9.1 ∙ saves.1

-- The same with unit 4.
none_saved : (old between : Files) (images : List (Option (List ℕ)))
    → SavesEach old between (None ∷ None ∷ None ∷ None ∷ None ∷ None ∷ []) images → between ≡ old
none_saved old between images saves = others_none saves.0 between (next_images images) saves.2 ∙ saves.1

alone : (old : List ℕ → Option (List ℕ)) (between : Files) (path : List ℕ) (images : List (Option (List ℕ)))
    → SavesEach (Some old) between (Some path ∷ None ∷ None ∷ None ∷ None ∷ None ∷ []) images
    → Saves (Some old) between path (first_image images)
alone old between path images saves =
    subst (λ files. Saves (Some old) files path (first_image images))
    (sym (others_none saves.0 between (next_images images) saves.2)) saves.1

-- For one disk, only its image is saved, or none.
one_saved : (old : List ℕ → Option (List ℕ)) (between : Files) (saving : Saving) (path : List ℕ)
    (images : List (Option (List ℕ))) → SavesEach (Some old) between (saved_paths saving path (paths_in none_other)) images
    → Saves (Some old) between path (fourth_saved saving (first_image images))
one_saved old between savings.Nothing path images saves = none_saved (Some old) between images saves
one_saved old between savings.First path images saves = alone old between path images saves
one_saved old between savings.All path images saves = alone old between path images saves
one_saved old between savings.Others path images saves = none_saved (Some old) between images saves

-- For a run, the image that is saved is the image of the definition.
fourth_said : (saving : Saving) (limit : ℕ) (disks : List (Option (Vec ℕ Global))) (name : String Global) (input : List ℕ)
    → fourth_saved saving (job_said (jobs.Run disks name limit saving None) input).image
    ≡ (job_said (jobs.Run disks name limit saving None) input).image
fourth_said savings.First limit disks name input = refl
fourth_said savings.All limit disks name input = refl
fourth_said savings.Nothing limit disks name input = go (booted (images_of disks) (string_bytes name) None) refl
  where
    go : (start : Result State Refusal) → booted (images_of disks) (string_bytes name) None ≡ start
        → None ≡ (job_said (jobs.Run disks name limit savings.Nothing None) input).image
    go (Ok machine) is = rw is refl
    go (Err refusal) is = rw is refl
fourth_said savings.Others limit disks name input = go (booted (images_of disks) (string_bytes name) None) refl
  where
    go : (start : Result State Refusal) → booted (images_of disks) (string_bytes name) None ≡ start
        → None ≡ (job_said (jobs.Run disks name limit savings.Others None) input).image
    go (Ok machine) is = rw is refl
    go (Err refusal) is = rw is refl

run_left : (old new : List ℕ → Option (List ℕ)) (between : Files) (path image file : List ℕ) (saved : Option (List ℕ))
    (runs : Bool) (printed : List ℕ) → new path ≡ Some file → Saves (Some old) between path saved
    → PrintsIf runs between (Some new) printings.Nowhere printed → old path ≡ Some image → file ≡ left_in image saved
run_left old new between path image file saved true printed has saves prints had =
    left old new path image file saved has (subst (λ files. Saves (Some old) files path saved) (sym prints) saves) had
run_left old new between path image file saved false printed has saves prints had =
    left old new path image file saved has (subst (λ files. Saves (Some old) files path saved) (sym prints) saves) had

-- The file of the disk has the image of the outcome, or its old bytes.
pub disk_saved : (saving : Saving) (done : Result Outcome DiskFault) (old new : List ℕ → Option (List ℕ))
    (from path image file : List ℕ) → new path ≡ Some file
    → IfOk done (λ outcome. SavesRun (Some old) (Some new) (saved_paths saving from (paths_in none_other)) printings.Nowhere outcome)
    → from ≡ path → old path ≡ Some image
    → IfOk done (SavesDisk saving image file)
disk_saved saving (Ok outcome) old new from path image file has saves is had =
    run_left old new saves.0 from image file _ _ _ (subst (λ path. new path ≡ Some file) (sym is) has)
    (one_saved old saves.0 saving from _ saves.1) saves.2 (subst (λ path. old path ≡ Some image) (sym is) had)
disk_saved saving (Err fault) old new from path image file has saves is had = tt

-- No image is read for a missing path.
reads_none : (files : Files) (paths images : List (Option (List ℕ))) → ReadsEach files (None ∷ paths) images
    → (rest : List (Option (List ℕ))) × (images ≡ None ∷ rest) × ReadsEach files paths rest
reads_none files paths [] reads = absurd reads
reads_none files paths (None ∷ images) reads = (images, refl, reads.1)
reads_none files paths (Some image ∷ images) reads = absurd reads.0

reads_end : (files : Files) (images : List (Option (List ℕ))) → ReadsEach files [] images → images ≡ []
reads_end files [] reads = refl
reads_end files (image ∷ images) reads = absurd reads

reads_disk : (old : List ℕ → Option (List ℕ)) (path image : List ℕ) (paths images : List (Option (List ℕ)))
    → ReadsEach (Some old) (Some path ∷ paths) images → old path ≡ Some image
    → (rest : List (Option (List ℕ))) × (images ≡ Some image ∷ rest) × ReadsEach (Some old) paths rest
reads_disk old path image paths [] reads had = absurd reads
reads_disk old path image paths (None ∷ images) reads had = absurd reads.0
reads_disk old path image paths (Some read ∷ images) reads had =
    (images, ap (λ bytes. Some bytes ∷ images) (same image read (sym had ∙ reads.0)), reads.1)

-- For one disk, one image is read.
reads_one : (old : List ℕ → Option (List ℕ)) (path image : List ℕ) (images : List (Option (List ℕ)))
    → ReadsEach (Some old) (Some path ∷ None ∷ None ∷ None ∷ None ∷ None ∷ []) images → old path ≡ Some image
    → images ≡ Some image ∷ None ∷ None ∷ None ∷ None ∷ None ∷ []
reads_one old path image images reads had =
    let d4 = reads_disk old path image (None ∷ None ∷ None ∷ None ∷ None ∷ []) images reads had in
    let d5 = reads_none (Some old) (None ∷ None ∷ None ∷ None ∷ []) d4.0 d4.2 in
    let d9 = reads_none (Some old) (None ∷ None ∷ None ∷ []) d5.0 d5.2 in
    let d10 = reads_none (Some old) (None ∷ None ∷ []) d9.0 d9.2 in
    let d11 = reads_none (Some old) (None ∷ []) d10.0 d10.2 in
    let d12 = reads_none (Some old) [] d11.0 d11.2 in
    d4.1 ∙ ap (λ rest. Some image ∷ rest) (d5.1 ∙ ap (λ rest. None ∷ rest) (d9.1 ∙ ap (λ rest. None ∷ rest)
    (d10.1 ∙ ap (λ rest. None ∷ rest) (d11.1 ∙ ap (λ rest. None ∷ rest)
    (d12.1 ∙ ap (λ rest. None ∷ rest) (reads_end (Some old) d12.0 d12.2))))))

-- The file of the disk has the image that the definition gives for its image and the input, or its old bytes.
pub disk_said : (done : Result Outcome DiskFault) (old new : List ℕ → Option (List ℕ)) (from : String Global)
    (path image file : List ℕ) (name : String Global) (limit : ℕ) (saving : Saving) (known : Option (List ℕ)) (input : List ℕ)
    → new path ≡ Some file
    → IfOk done (λ outcome. IsSoundExit outcome.exit → IfSome known (λ input. SavesRunSaid (Some old) (Some new)
    (record { disk = from; others = none_other; name = name; limit = limit; system = None; is_text = false })
    (record { saving = saving; printing = printings.Nowhere }) input))
    → known ≡ Some input → string_bytes from ≡ path → old path ≡ Some image
    → IfOk done (λ outcome. IsSoundExit outcome.exit → LeavesRun image name limit saving input file)
disk_said (Ok outcome) old new from path image file name limit saving known input has saves is at had = λ sound.
    let told = subst (λ known. IfSome known (λ input. SavesRunSaid (Some old) (Some new)
    (record { disk = from; others = none_other; name = name; limit = limit; system = None; is_text = false })
    (record { saving = saving; printing = printings.Nowhere }) input)) is (saves sound) in
    let held = subst (λ path. old path ≡ Some image) (sym at) had in
    leaves told.0 told.1 told.2 told.3 told.4 held
  where
    leaves : (disks : List (Option (Vec ℕ Global))) (system : Option (Vec ℕ Global))
        → ReadsEach (Some old) (Some (string_bytes from) ∷ None ∷ None ∷ None ∷ None ∷ None ∷ []) (images_of disks)
        → Reads (Some old) None (option_map vec_items system)
        → SavesTold (Some old) (Some new) (saved_paths saving (string_bytes from) (paths_in none_other)) printings.Nowhere
        (job_said (jobs.Run disks name limit saving system) input)
        → old (string_bytes from) ≡ Some image → LeavesRun image name limit saving input file
    leaves disks (Some code) reads given told held = absurd given
    leaves disks None reads given told held = (
      disks,
      reads_one old (string_bytes from) image (images_of disks) reads held,
      subst (λ saved. file ≡ left_in image saved) (fourth_said saving limit disks name input)
          (run_left old new told.0 (string_bytes from) image file
          (fourth_saved saving (job_said (jobs.Run disks name limit saving None) input).image)
          (has_run (job_said (jobs.Run disks name limit saving None) input).exit)
          (job_said (jobs.Run disks name limit saving None) input).printer (subst (λ path. new path ≡ Some file) (sym at) has)
          (one_saved old told.0 saving (string_bytes from) _ told.1) told.2 held),
    )
disk_said (Err fault) old new from path image file name limit saving known input has saves is at had = tt
