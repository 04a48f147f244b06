-- Laws about the files that a folder gets.
use Rattle.std.proofs.Common.{◌≡◌, ◌⊎◌, inl, inr, ◌++◌, ℕ, List, [], ◌∷◌, refl}
use Rattle.pm_files.specs.Held.{Files}
use Rattle.pm_folder.specs.Folder.{HostFile}
use Rattle.pm_export.specs.Exported.{Adds, AddsSome}

-- If the folder is unchanged, then some of the files (namely none) were added to it.
pub adds_none : (folder : Files) (files : List HostFile) → AddsSome folder folder files
adds_none folder [] = refl
adds_none folder (f ∷ files) = inr (adds_none folder files)

-- If `Adds` holds for a folder and files, then the folder got some of the files.
pub adds_some : (old new : Files) (files : List HostFile) (before text : List ℕ) (earlier names : List (List ℕ))
    → Adds old new files before text earlier names → AddsSome old new files
adds_some old new [] before text earlier names adds = adds.0
adds_some old new (f ∷ files) before text earlier names (inl adds) =
    inl (adds.0, adds.1, adds_some adds.0 new files (before ++ f.line) text earlier names adds.2)
adds_some old new (f ∷ files) before text earlier names (inr adds) =
    inr (adds_some old new files before text (earlier ++ f.host ∷ []) names adds)
