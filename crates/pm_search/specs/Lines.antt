-- The lines of an answer. In them 58 is a colon, 32 a space, 44 a comma, and 10 the end of the line.
use Rattle.std.specs.Prelude.{ℕ, List, [], ◌∷◌, ◌++◌, codes, length}
use Rattle.std.specs.Fmt.{decimal}
use Rattle.std.specs.List.{flat_map}
use Rattle.pm_convert.specs.Formats.{name_of}
use Rattle.pm_convert.specs.declared.format.Format.{Format}
use Rattle.pm_filer.specs.Fitting.{fitting_files}
use Rattle.pm_filer.specs.Listing.{printable_name}
use Rattle.pm_volume.specs.Files.{files_of}
use Rattle.pm_volume.specs.Names.{characters_of}
use Rattle.pm_volume.specs.Space.{free_blocks, largest_gap, volume_name}
use Rattle.pm_volume.specs.declared.entry.Entry.{Entry}

-- Each line begins with the path of the image, a colon and a space.
abbrev pub front_of : List ℕ → List ℕ
front_of path = path ++ 58 ∷ 32 ∷ []

-- The beginning of a line about a file: the path, a colon, a space, and the name of the file as `files list` prints it.
abbrev pub file_front : List ℕ → List ℕ → List ℕ
file_front path name = front_of path ++ printable_name name

-- The line of a file that was found by its name: the path and the name.
abbrev pub name_line : List ℕ → Entry → List ℕ
name_line path e = file_front path (characters_of e.name) ++ 10 ∷ []

-- The line for the line `line` of a text file: `front`, the number `n` of the line in decimal, and the line itself, with
-- a colon and a space between them.
abbrev pub match_line : List ℕ → ℕ → List ℕ → List ℕ
match_line front n line = front ++ (58 ∷ 32 ∷ (decimal n ++ (58 ∷ 32 ∷ (line ++ 10 ∷ []))))

-- The end of the line about an image: the number of files of the volume `blocks`, of its free blocks, and of the blocks
-- of its largest gap, as the last line of `files list` has them.
abbrev pub numbers_text : List ℕ → List ℕ
numbers_text blocks =
    codes ": files " ++ (decimal (length (files_of blocks)) ++ (codes ", free " ++ (decimal (free_blocks blocks)
    ++ (codes ", largest " ++ (decimal (largest_gap blocks) ++ 10 ∷ [])))))

-- The line about the image whose volume `blocks` has the format `format`: the format, the name of the volume as
-- `files list` prints it, and the numbers.
abbrev pub info_line : List ℕ → Format → List ℕ → List ℕ
info_line path format blocks =
    front_of path ++ (name_of format ++ (32 ∷ (printable_name (volume_name blocks) ++ numbers_text blocks)))

-- The lines of the files of the volume `blocks` whose names match `pattern`, in directory order.
abbrev pub names_text : List ℕ → List ℕ → List ℕ → List ℕ
names_text path blocks pattern = flat_map (name_line path) (fitting_files blocks pattern)

-- The line of an image that opens as a volume in no format.
abbrev pub no_volume_line : List ℕ → List ℕ
no_volume_line path = front_of path ++ codes "no volume\n"

-- A comma, a space, and the name of a format after the first.
abbrev pub next_format : Format → List ℕ
next_format format = 44 ∷ 32 ∷ name_of format

-- The line of an image that opens as a volume in the format `first` and in each format of `more`.
abbrev pub several_line : List ℕ → Format → List Format → List ℕ
several_line path first more =
    front_of path ++ (codes "several formats: " ++ (name_of first ++ (flat_map next_format more ++ 10 ∷ [])))
