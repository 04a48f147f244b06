-- The files of a folder without LIST, one after the other.
use Rattle.std.proofs.Common.{◌≡◌, ◌∷◌, ℕ, List, OnOk, Result, Ok, Err, subst}
use Rattle.pm_files.specs.Held.{Files}
use Rattle.pm_folder.specs.declared.contents.Ends.{Ends}
use Rattle.pm_import.specs.Imported.{Report, TakesNamed, TakesNames}

-- After the file `host`, the files `names` are taken from the same folder.
pub names_more : {A E : Type 0} (r : Result A E) (folder later : Files) (ends : Ends) (host : List ℕ)
    (names : List (List ℕ)) (image next last : List ℕ) (before between after : Report)
    → TakesNamed folder ends host image next before between → later ≡ folder
    → OnOk r (TakesNames later ends names next last between after)
    → OnOk r (TakesNames folder ends (host ∷ names) image last before after)
names_more (Ok done) folder later ends host names image next last before between after named same rest =
    (next, between, named, subst (λ folder. TakesNames folder ends names next last between after) same rest)
names_more (Err fault) folder later ends host names image next last before between after named same rest = tt
