-- A volume as a folder: the files of the folder, and its file LIST.
use Rattle.std.specs.Prelude.{ℕ, ◌+◌, ◌-◌, ◌==◌, ◌&&◌, nat_lt, Bool, true, List, [], ◌∷◌, ◌++◌, Option, None, Some}
use Rattle.std.specs.Prelude.{codes, take}
use Rattle.std.specs.Prelude.{if◌then◌else◌, string_bytes, length, unwrap_or}
use Rattle.std.specs.Fmt.{decimal}
use Rattle.std.specs.List.{filter, flat_map}
use Rattle.std.specs.Str.{bytes_eq}
use Rattle.pm_filer.specs.Fitting.{fits}
use Rattle.pm_filer.specs.Listing.{date_text, kind_word}
use Rattle.pm_volume.specs.Directory.{block_count, directory_of}
use Rattle.pm_volume.specs.Files.{file_bytes, files_of}
use Rattle.pm_volume.specs.Headers.{last_date_of}
use Rattle.pm_volume.specs.Names.{characters_of}
use Rattle.pm_volume.specs.Space.{volume_name}
use Rattle.pm_volume.specs.declared.entry.Entry.{Entry}
use Rattle.pm_folder.specs.Contents.{content_of, how_of}
use Rattle.pm_folder.specs.Names.{host_name, listed_name}
use Rattle.pm_folder.specs.declared.contents.Ends.{Ends}
use Rattle.pm_folder.specs.declared.contents.How.{How}
use Rattle.pm_folder.specs.declared.contents.How.TheVariants as how
use Rattle.pm_folder.specs.declared.folder.FolderFile.{FolderFile}
use Rattle.pm_folder.specs.declared.folder.Wanted.{Wanted}
use Rattle.pm_folder.specs.declared.folder.Wanted.TheVariants as wanted

-- ---- the lines of LIST

-- The first line of LIST: the word `volume`, the name of the volume, its number of blocks, and its last date.
unfoldable pub first_line : List ℕ → List ℕ
first_line image =
    codes "volume " ++ (listed_name (volume_name image) ++ (32 ∷ (decimal (block_count (directory_of image))
    ++ (32 ∷ (date_text (last_date_of (directory_of image)) ++ 10 ∷ [])))))

-- The text of a kind: its word, or its number if it has no word.
abbrev pub word_or : Option (List ℕ) → ℕ → List ℕ
word_or (Some word) kind = word
word_or None kind = decimal kind

abbrev pub kind_text : ℕ → List ℕ
kind_text kind = word_or (kind_word kind) kind

abbrev pub how_text : How → List ℕ
how_text how.Text = codes "text"
how_text how.Bytes = codes "bytes"

-- The line of a file in LIST. Its fields are separated by tabs: the name in the folder, the name on the volume, the
-- kind, the date, whether the text or the bytes were written, and the slot.
unfoldable pub file_line : List ℕ → ℕ → Entry → How → List ℕ
file_line host slot e how = host ++ (9 ∷ (listed_name (characters_of e.name) ++ (9 ∷ (kind_text e.kind
    ++ (9 ∷ (date_text e.date ++ (9 ∷ (how_text how ++ (9 ∷ (decimal slot ++ 10 ∷ []))))))))))

-- ---- the files

-- A file of a folder: its name in the folder, its contents, and its line in LIST.
pub record HostFile : Type 0 where
  pub host : List ℕ
  pub contents : List ℕ
  pub line : List ℕ

-- A file of the code, as a file of the definitions.
abbrev pub seen : FolderFile → HostFile
seen file = record { host = string_bytes file.host; contents = file.contents.items; line = string_bytes file.line }

-- Whether `wanted` selects the file in the slot `slot` with the name `name`.
abbrev pub is_wanted : Wanted → ℕ → List ℕ → Bool
is_wanted wanted.All slot name = true
is_wanted (wanted.Matching pattern) slot name = fits (string_bytes pattern) name
is_wanted (wanted.Slot one) slot name = one == slot

-- Whether the entry `e` has the name `name`. Upper and lower case differ.
abbrev pub has_name : List ℕ → Entry → Bool
has_name name e = bytes_eq (characters_of e.name) name

-- 1 if the file of the entry `e` has the name `name` and `left` is above 0, otherwise 0.
abbrev pub counted : ℕ → List ℕ → Entry → ℕ
counted left name e = if nat_lt 0 left && has_name name e then 1 else 0

-- The number of files of `image` in slots before `slot` that have the name `name`.
abbrev pub same_before : List ℕ → ℕ → List ℕ → ℕ
same_before image slot name =
    length (filter (has_name name) (take (slot - 1) (files_of image)))

-- The name in the folder of the file in the slot `slot`, which has the entry `e`.
abbrev pub host_of : List ℕ → ℕ → Entry → List ℕ
host_of image slot e = host_name (same_before image slot (characters_of e.name)) (characters_of e.name)

-- The folder's file for the file in the slot `slot`, which has the entry `e`.
unfoldable pub host_file : Option Ends → List ℕ → ℕ → Entry → HostFile
host_file text image slot e = record {
  host = host_of image slot e;
  contents = content_of text e.kind (unwrap_or (file_bytes image e) []);
  line = file_line (host_of image slot e) slot e (how_of text e.kind (unwrap_or (file_bytes image e) []));
}

-- The list with the folder's file for this file if `want` selects it, otherwise the empty list.
abbrev pub if_wanted : Option Ends → Wanted → List ℕ → ℕ → Entry → List HostFile
if_wanted text want image slot e =
    if is_wanted want slot (characters_of e.name) then host_file text image slot e ∷ [] else []

-- The folder's files for the entries that `want` selects. The first entry of the list is in the slot `slot`.
abbrev pub files_from : Option Ends → Wanted → List ℕ → ℕ → List Entry → List HostFile
files_from text want image slot [] = []
files_from text want image slot (e ∷ files) =
    if_wanted text want image slot e ++ files_from text want image (slot + 1) files

-- The files that the folder gets for the files of the volume `image` that `want` selects.
abbrev pub folder_of : Option Ends → Wanted → List ℕ → List HostFile
folder_of text want image = files_from text want image 1 (files_of image)

-- The contents of LIST for the files `files` of the folder.
abbrev pub list_of : List ℕ → List HostFile → List ℕ
list_of image files = first_line image ++ flat_map (λ f. f.line) files
