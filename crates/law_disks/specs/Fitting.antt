-- Laws of the names that match a pattern, and of the files that remain after a removal by pattern.
use Rattle.std.specs.Prelude.{◌≡◌, ◌==◌, ◌↔◌, Bool, not, ℕ, true, false, List, ◌∷◌, ◌++◌}
use Rattle.std.specs.List.{filter, list_any}
use Rattle.pm_volume.specs.Directory.{IsVolume}
use Rattle.pm_volume.specs.Files.{files_of}
use Rattle.pm_volume.specs.Names.{is_same_name}
use Rattle.pm_volume.specs.declared.entry.Entry.{Entry}
use Rattle.pm_volume.specs.declared.fault.VolumeFault.TheVariants.{NoFile}
use Rattle.pm_filer.specs.Filed.{RemoveFitting, filed}
use Rattle.pm_filer.specs.Fitting.{fits, is_fitting}
use Rattle.law_disks.specs.Refusals.{IsRefused}
use Rattle.law_disks.specs.Slots.{LeavesFiles}

-- Returns whether `text` contains an equals sign.
abbrev pub has_equals : List ℕ → Bool
has_equals text = list_any (λ c. c == 61) text

-- The name `name` has three parts: `first`, `middle` and `last`. `first` equals `begin` and `last` equals `end`, if
-- upper and lower case are considered equal.
pub record HasMiddle (begin end name : List ℕ) : Type 0 where
  pub first : List ℕ
  pub middle : List ℕ
  pub last : List ℕ
  pub parts : name ≡ first ++ (middle ++ last)
  pub begins : is_same_name begin first ≡ true
  pub ends : is_same_name end last ≡ true

-- If `begin` contains no equals sign, then the pattern of `begin`, an equals sign and `end` matches exactly the names
-- with three parts: the characters of `begin`, any characters, and the characters of `end`.
abbrev pub EqualsIsAnything : Type 0
EqualsIsAnything =
    (begin end name : List ℕ) → has_equals begin ≡ false
    → fits (begin ++ 61 ∷ end) name ≡ true ↔ HasMiddle begin end name

-- A pattern without an equals sign matches exactly the names that equal the pattern. Upper and lower case are equal.
abbrev pub PatternIsName : Type 0
PatternIsName =
    (pattern name : List ℕ) → has_equals pattern ≡ false → fits pattern name ≡ is_same_name pattern name

-- Returns the files whose names do not match `pattern`, in their order.
abbrev pub unfit : List ℕ → List Entry → List Entry
unfit pattern files = filter (λ e. not (is_fitting pattern e)) files

-- `RemoveFitting` on a volume succeeds if some file matches `pattern`. The files that do not match remain, in their
-- order and with the bytes that they had before.
abbrev pub RemovalLeavesUnfit : Type 0
RemovalLeavesUnfit =
    (image pattern : List ℕ) → IsVolume image → list_any (is_fitting pattern) (files_of image) ≡ true
    → LeavesFiles image (filed image (RemoveFitting pattern)) (unfit pattern (files_of image))
    (unfit pattern (files_of image))

-- If no file matches `pattern`, `RemoveFitting` is refused with `NoFile`.
abbrev pub UnfitIsRefused : Type 0
UnfitIsRefused =
    (image pattern : List ℕ) → list_any (is_fitting pattern) (files_of image) ≡ false
    → IsRefused NoFile (filed image (RemoveFitting pattern))
