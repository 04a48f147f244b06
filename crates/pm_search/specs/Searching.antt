-- The answer to a search in an image.
use Rattle.std.specs.Prelude.{ℕ, List, [], ◌∷◌, Option, None, Some, if◌then◌else◌}
use Rattle.pm_convert.specs.Found.{blocks_in, formats_of, is_volume}
use Rattle.pm_convert.specs.declared.format.Format.{Format}
use Rattle.pm_search.specs.Lines.{info_line, names_text, no_volume_line, several_line}
use Rattle.pm_search.specs.Texts.{lines_text}
use Rattle.pm_search.specs.declared.query.SearchEnding.{SearchEnding}
use Rattle.pm_search.specs.declared.query.SearchEnding.TheVariants as endings
use Rattle.pm_search.specs.declared.query.Query.{Query}
use Rattle.pm_search.specs.declared.query.Query.TheVariants as queries
use Rattle.pm_search.specs.declared.query.Searched as declared

-- The answer for one image: the bytes of its lines, and how the search ended.
pub record Answer : Type 0 where
  pub text : List ℕ
  pub ending : SearchEnding

-- The answer that a call returned.
abbrev pub seen : declared.Searched → Answer
seen searched = record { text = searched.text.items; ending = searched.ending }

-- The answer with the lines `text` for an image that is refused.
abbrev pub refused : List ℕ → Answer
refused text = record { text = text; ending = endings.Refused }

-- The answer for an image that opens as a volume in no format.
abbrev pub no_volume : List ℕ → Answer
no_volume path = refused (no_volume_line path)

-- The answer for an image that opens as a volume in the format `first` and in each format of `more`.
abbrev pub several : List ℕ → Format → List Format → Answer
several path first more = refused (several_line path first more)

-- The end of a search in a volume: `Nothing` if there are no lines, otherwise `Found`.
abbrev pub ending_of : List ℕ → SearchEnding
ending_of [] = endings.Nothing
ending_of (byte ∷ text) = endings.Found

-- The answer with the lines `text` of a search in a volume.
abbrev pub ended : List ℕ → Answer
ended text = record { text = text; ending = ending_of text }

-- The lines of a search in the volume `blocks`, which the image has in the format `format`.
abbrev pub text_for : List ℕ → Format → List ℕ → Query → List ℕ
text_for path format blocks (queries.Names pattern) = names_text path blocks pattern.now
text_for path format blocks (queries.Text needle) = lines_text path blocks needle.now
text_for path format blocks queries.Info = info_line path format blocks

-- The answer for an image whose volume in the format `format` is the last argument. If the format is one in which the
-- image opens, these blocks exist and open as a volume.
abbrev pub searched_in : List ℕ → Format → Query → Option (List ℕ) → Answer
searched_in path format query None = no_volume path
searched_in path format query (Some blocks) =
    if is_volume blocks then ended (text_for path format blocks query) else no_volume path

-- The answer for an image that opens as a volume in these formats.
abbrev pub searched_as : List ℕ → List ℕ → Query → List Format → Answer
searched_as path image query [] = no_volume path
searched_as path image query (format ∷ []) = searched_in path format query (blocks_in format image)
searched_as path image query (first ∷ second ∷ more) = several path first (second ∷ more)

-- The answer to a search in `image`, whose path is printed as `path`.
abbrev pub searched : List ℕ → List ℕ → Query → Answer
searched path image query = searched_as path image query (formats_of image)
