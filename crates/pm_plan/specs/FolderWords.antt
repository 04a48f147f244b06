-- The arguments of `files export` for text files.
use Rattle.std.specs.Prelude.{◌≡◌, ◌≢◌, ⊤, ℕ, Bool, true, false, List, Option, None, Some, codes}
use Rattle.std.specs.Prelude.{if◌then◌else◌}
use Rattle.std.specs.Str.{bytes_eq}
use Rattle.pm_folder.specs.declared.contents.Ends.{Ends}
use Rattle.pm_folder.specs.declared.contents.Ends.TheVariants as ends

-- Returns the line ends that `word` names, or `None` if `word` names no line ends.
abbrev pub ends_named : List ℕ → Option Ends
ends_named word = if bytes_eq word (codes "lf") then Some ends.Lf
    else (if bytes_eq word (codes "crlf") then Some ends.CrLf
    else (if bytes_eq word (codes "cr") then Some ends.Cr else None))

-- Is true if `text` is the line ends of exported text files. The first argument states whether `--text` is given, and
-- the second is the value of `--ends`. The default is a line feed. Without `--text`, `text` is `None`.
abbrev pub IsText : Bool → Option (List ℕ) → Option Ends → Type 0
IsText false None text = text ≡ None
IsText false (Some word) text = ⊥
IsText true None text = text ≡ Some ends.Lf
IsText true (Some word) text = (text ≡ ends_named word) × (ends_named word ≢ None)

-- Is true if the options are valid: `--ends` requires `--text`, and its value names line ends.
abbrev pub IsGoodText : Bool → Option (List ℕ) → Type 0
IsGoodText text None = ⊤
IsGoodText false (Some word) = ⊥
IsGoodText true (Some word) = ends_named word ≢ None

-- Is true if `e` is the line ends that the value of `--ends` of `gettext` or `puttext` names, or `None` if the option
-- is not given.
abbrev pub AreEndsGiven : Option (List ℕ) → Option Ends → Type 0
AreEndsGiven None e = e ≡ None
AreEndsGiven (Some word) e = (e ≡ ends_named word) × (ends_named word ≢ None)

-- The line ends of imported texts: byte 10 if no word names others.
abbrev pub AreEnds : Option (List ℕ) → Ends → Type 0
AreEnds None e = e ≡ ends.Lf
AreEnds (Some word) e = ends_named word ≡ Some e

-- A word for line ends names line ends.
abbrev pub AreGoodEnds : Option (List ℕ) → Type 0
AreGoodEnds None = ⊤
AreGoodEnds (Some word) = ends_named word ≢ None
