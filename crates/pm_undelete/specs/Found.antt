-- The blocks at which a removed file seems to begin.
use Rattle.std.specs.Prelude.{◌==◌, ◌+◌, ◌-◌, ℕ, zero, suc, List, [], ◌∷◌, ◌++◌, Option, Some, None, if◌then◌else◌}
use Rattle.pm_volume.specs.Directory.{block_count, directory_of, files_begin}
use Rattle.pm_volume.specs.Files.{files_of}
use Rattle.pm_volume.specs.declared.entry.Entry.{Entry}
use Rattle.pm_undelete.specs.Blocks.{blocks_of}
use Rattle.pm_undelete.specs.Codes.{code_size}
use Rattle.pm_undelete.specs.Texts.{text_size}
use Rattle.pm_undelete.specs.declared.finding.Candidate.{Candidate}
use Rattle.pm_undelete.specs.declared.finding.Looks.TheVariants as looks

-- The candidate that begins at block `n`. `code` and `text` are the numbers of blocks of the code file and of the text
-- file that seem to begin there, or 0. A code file comes first.
abbrev pub chosen : ℕ → ℕ → ℕ → Option Candidate
chosen n code text =
    if code == 0
    then (if text == 0 then None else Some (record { first = n; blocks = text; looks = looks.Text }))
    else Some (record { first = n; blocks = code; looks = looks.Code })

-- What seems to begin at block `n` of the volume `image`, or `None`. `left` is the number of blocks from block `n` up
-- to the end of the free area.
abbrev pub look_at : List ℕ → ℕ → ℕ → Option Candidate
look_at image n left = chosen n (code_size (blocks_of image n (n + left))) (text_size image n left)

abbrev pub listed : Option Candidate → List Candidate
listed None = []
listed (Some candidate) = candidate ∷ []

-- The candidates in the `left` blocks from block `n` up to the end of a free area.
unfoldable pub found_from : List ℕ → ℕ → ℕ → List Candidate
found_from image n zero = []
found_from image n (suc left) = listed (look_at image n (suc left)) ++ found_from image (n + 1) left

-- The candidates in the free areas from block `begin` up to, but not including, `end`: before, between and after the
-- given files.
abbrev pub found_between : List ℕ → ℕ → List Entry → ℕ → List Candidate
found_between image begin [] end = found_from image begin (end - begin)
found_between image begin (e ∷ files) end =
    found_from image begin (e.first - begin) ++ found_between image e.end files end

-- All candidates of the volume `image`, the lowest first.
abbrev pub candidates_of : List ℕ → List Candidate
candidates_of image =
    found_between image (files_begin (directory_of image)) (files_of image) (block_count (directory_of image))
