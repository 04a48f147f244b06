-- The conflicts between the paths of a run. In all definitions, `same path other` states that both paths name the same
-- file, and `folders path` states that `path` names a directory. `beside path other` states that writing the file at
-- `path` removes the file at `other`.
use Rattle.std.specs.Prelude.{ℕ, Bool, true, false, ◌&&◌, ◌||◌, List, [], ◌∷◌, Option, None, Some}
use Rattle.std.specs.Prelude.{option_map, string_bytes}
use Rattle.std.specs.Prelude.{if◌then◌else◌}
use Rattle.pm_paths.specs.declared.conflicts.Conflict.{Conflict}
use Rattle.pm_paths.specs.declared.conflicts.Conflict.TheVariants as conflicts
use Rattle.pm_jobs.specs.declared.saving.Saving.{Saving}
use Rattle.pm_jobs.specs.Savings.{has_first, has_others}
use Rattle.pm_plan.specs.Asked.{paths_in}
use Rattle.pm_plan.specs.declared.run_words.RunChoices.{RunChoices}
use Rattle.pm_plan.specs.declared.run_words.Program.{Program}

-- Returns whether `path` names the same file as the path `image`. Returns `false` if the last argument is `None`.
abbrev pub names_image : (List ℕ → List ℕ → Bool) → List ℕ → Option (List ℕ) → Bool
names_image same path None = false
names_image same path (Some image) = same path image

-- Returns whether `path` names the same file as one of the paths in `images`.
abbrev pub is_other : (List ℕ → List ℕ → Bool) → List ℕ → List (Option (List ℕ)) → Bool
is_other same path [] = false
is_other same path (image ∷ images) = names_image same path image || is_other same path images

-- Returns the first conflict of the printer's path, or `None`. It checks whether the path names an image of the run,
-- the system's code file, or a directory, in this order.
abbrev pub printer_conflict : (List ℕ → List ℕ → Bool) → (List ℕ → Bool) → Program → Option (List ℕ) → Option Conflict
printer_conflict same folders program None = None
printer_conflict same folders program (Some path) =
    if same path (string_bytes program.disk) || is_other same path (paths_in program.others)
    then Some conflicts.PrinterIsImage
    else if names_image same path (option_map string_bytes program.system) then Some conflicts.PrinterIsSystem
    else if folders path then Some conflicts.PrinterIsFolder
    else None

-- Returns whether two of the paths name the same file.
abbrev pub are_shared : (List ℕ → List ℕ → Bool) → List (Option (List ℕ)) → Bool
are_shared same [] = false
are_shared same (None ∷ images) = are_shared same images
are_shared same (Some path ∷ images) = is_other same path images || are_shared same images

-- Returns the given conflict. Without a conflict, returns `FileInTheWay` if `taken` is true.
abbrev pub or_taken_away : Option Conflict → Bool → Option Conflict
or_taken_away (Some conflict) taken = Some conflict
or_taken_away None true = Some conflicts.FileInTheWay
or_taken_away None false = None

-- Returns whether writing the file at the path would remove a file of the run: an image, the system's code file or the
-- file at the path `printer`. Returns `false` without a path.
abbrev pub takes_away : (List ℕ → List ℕ → Bool) → Option (List ℕ) → Program → Option (List ℕ) → Bool
takes_away beside None program printer = false
takes_away beside (Some path) program printer = names_image beside path (Some (string_bytes program.disk))
    || (is_other beside path (paths_in program.others)
    || (names_image beside path (option_map string_bytes program.system) || names_image beside path printer))

-- Returns whether writing one of the files at the paths `images` would remove a file of the run.
abbrev pub others_take_away : (List ℕ → List ℕ → Bool) → List (Option (List ℕ)) → Program → Option (List ℕ) → Bool
others_take_away beside [] program printer = false
others_take_away beside (image ∷ images) program printer =
    takes_away beside image program printer || others_take_away beside images program printer

-- Returns whether writing one of the files that the run writes would remove a file of the run.
abbrev pub is_taken_away : (List ℕ → List ℕ → Bool) → Program → Saving → Option (List ℕ) → Bool
is_taken_away beside program saving printer =
    (has_first saving && takes_away beside (Some (string_bytes program.disk)) program printer)
    || ((has_others saving && others_take_away beside (paths_in program.others) program printer)
    || takes_away beside printer program printer)

-- Returns the first conflict of a run, or `None`. The conflicts are checked in this order:
-- - An image is saved, and the image of unit 4 is also on another unit: `SavedTwice`.
-- - The images of other units are saved, and two of them are the same file: `SavedTwice`.
-- - The printer's path has a conflict.
-- - Writing a file of the run would remove another file of the run: `FileInTheWay`.
abbrev pub conflict_of : (List ℕ → List ℕ → Bool) → (List ℕ → List ℕ → Bool) → (List ℕ → Bool) → Program → RunChoices
    → Option Conflict
conflict_of same beside folders program choices =
    if (has_first choices.saving || has_others choices.saving)
    && is_other same (string_bytes program.disk) (paths_in program.others) then Some conflicts.SavedTwice
    else if has_others choices.saving && are_shared same (paths_in program.others) then Some conflicts.SavedTwice
    else or_taken_away (printer_conflict same folders program (option_map string_bytes choices.printer))
    (is_taken_away beside program choices.saving (option_map string_bytes choices.printer))
