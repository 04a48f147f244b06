-- The answers of the calls that search in an image, compare two volumes, and find the form of an image.
use Rattle.std.specs.Prelude.{◌≡◌, ◌≢◌, ℕ, List, [], ◌++◌, Bool, true, false, Option, None, Some, codes, length}
use Rattle.std.specs.Prelude.{if◌then◌else◌, nat_lt}
use Rattle.pm_batch.specs.declared.refusal.Refusal.TheVariants as refusals
use Rattle.pm_compare.specs.Lines.{lines_of}
use Rattle.pm_compare.specs.Verdicts.{differs}
use Rattle.pm_compare.specs.declared.verdicts.Compared.{Compared}
use Rattle.pm_forms.specs.Forms.{form_name}
use Rattle.pm_forms.specs.declared.form.Form.{Form}
use Rattle.pm_search.specs.Searching.{searched}
use Rattle.pm_search.specs.declared.query.Query.{Query}
use Rattle.pm_search.specs.declared.query.Query.TheVariants as queries
use Rattle.pm_search.specs.declared.query.SearchEnding.{SearchEnding}
use Rattle.pm_search.specs.declared.query.SearchEnding.TheVariants as endings
use Rattle.pm_tool.specs.Outcomes.{refused}
use Rattle.pm_volume.specs.declared.fault.VolumeFault.{VolumeFault}
use Rattle.pm_c.specs.Answers.{Answers, HasAnswer, NoAnswer}
use Rattle.pm_c.specs.Changes.{filled}
use Rattle.pm_c.specs.declared.status.TheConstants.{DIFFERENT, DONE, NOTHING, NO_TEXT, REFUSED, TOO_SHORT}

-- The call has copied `bytes` to the buffer, and the status is `code`. If the buffer is too short for the bytes, it is
-- unchanged, and the status is `TOO_SHORT`.
pub record Given (bytes : List ℕ) (code status : ℕ) (old new : List ℕ) (needed : ℕ) : Type 0 where
  pub wants : needed ≡ length bytes
  pub holds : new ≡ filled bytes old
  pub says : status ≡ (if nat_lt (length old) (length bytes) then TOO_SHORT else code)

-- If the status is that of a call with an answer, `bytes` were copied, with the status `code`. If the call has no
-- answer, the buffer is unchanged and `needed` is 0.
pub record Gives (bytes : List ℕ) (code status : ℕ) (old new : List ℕ) (needed : ℕ) : Type 0 where
  pub answer : HasAnswer status → Given bytes code status old new needed
  pub none : NoAnswer status → (new ≡ old) × (needed ≡ 0)

-- ---- searches

-- The status of a search in an image.
abbrev pub search_code : SearchEnding → ℕ
search_code endings.Found = DONE
search_code endings.Nothing = NOTHING
search_code endings.Refused = REFUSED

-- The call returns the answer to the search of `query` in `image`, whose path is printed as `path`.
abbrev pub Searches : List ℕ → List ℕ → Query → ℕ → List ℕ → List ℕ → ℕ → Type 0
Searches path image query status old new needed =
    Gives (searched path image query).text (search_code (searched path image query).ending) status old new needed

-- Is true if `query` searches the files whose names match `pattern`.
abbrev pub IsNames : List ℕ → Query → Type 0
IsNames pattern (queries.Names word) = word.now ≡ pattern
IsNames pattern (queries.Text word) = ⊥
IsNames pattern queries.Info = ⊥

-- Is true if `query` searches the lines that contain `text`.
abbrev pub IsText : List ℕ → Query → Type 0
IsText text (queries.Names word) = ⊥
IsText text (queries.Text word) = word.now ≡ text
IsText text queries.Info = ⊥

-- The call returns the answer to a search of the files of `image` whose names match `pattern`. If the path or the
-- pattern is not UTF-8, the buffer is unchanged and `needed` is 0.
pub record Finds (path image pattern : List ℕ) (status : ℕ) (old new : List ℕ) (needed : ℕ) : Type 0 where
  pub answer : status ≢ NO_TEXT →
      (query : Query) × IsNames pattern query × Searches path image query status old new needed
  pub none : status ≡ NO_TEXT → (new ≡ old) × (needed ≡ 0)

-- The call returns the answer to a search of the lines of `image` that contain `text`.
abbrev pub Greps : List ℕ → List ℕ → List ℕ → ℕ → List ℕ → List ℕ → ℕ → Type 0
Greps path image text status old new needed =
    (query : Query) × IsText text query × Searches path image query status old new needed

-- ---- comparisons

-- The status of a comparison with these results.
abbrev pub compare_code : List Compared → ℕ
compare_code files = if differs files then DIFFERENT else DONE

-- The call returns the lines of the comparison `files` of two volumes. The first two arguments are the faults of the
-- two images. If an image is no volume, the answer is the message of the refusal. The first image is opened first.
abbrev pub Compares : Option VolumeFault → Option VolumeFault → List Compared → ℕ → List ℕ → List ℕ → ℕ → Type 0
Compares (Some fault) there files status old new needed =
    Answers (refused (refusals.Volume fault) []) status old new needed
Compares None (Some fault) files status old new needed =
    Answers (refused (refusals.Volume fault) []) status old new needed
Compares None None files status old new needed = Gives (lines_of files) (compare_code files) status old new needed

-- ---- forms

-- The call returns the name of the form of an image. If the image opens in several forms, the answer is the message of
-- the program.
abbrev pub GivesForm : Option Form → ℕ → List ℕ → List ℕ → ℕ → Type 0
GivesForm (Some form) status old new needed = Gives (form_name form) DONE status old new needed
GivesForm None status old new needed = Gives (codes "refused form 1") REFUSED status old new needed
