-- The files of a folder without LIST: their names and kinds on the volume, and how they are converted.
use Rattle.std.specs.Prelude.{ℕ, ◌+◌, ◌-◌, ◌==◌, ◌&&◌, nat_le, nat_lt, Bool, false, List, [], ◌∷◌, ◌++◌, codes, drop}
use Rattle.std.specs.Prelude.{length, map}
use Rattle.std.specs.Prelude.{take, is_none, if◌then◌else◌}
use Rattle.std.specs.Str.{bytes_eq}
use Rattle.pm_folder.specs.Folder.{how_text}
use Rattle.pm_folder.specs.Names.{listed_name}
use Rattle.pm_folder.specs.declared.contents.How.{How}
use Rattle.pm_folder.specs.declared.contents.How.TheVariants as how
use Rattle.pm_import.specs.Listed.{Listed, cut}

-- The capital letter for a small ASCII letter, and any other byte unchanged.
abbrev pub upper : ℕ → ℕ
upper byte = if nat_le 97 byte && nat_le byte 122 then byte - 32 else byte

-- `host` with capital ASCII letters.
abbrev pub upper_name : List ℕ → List ℕ
upper_name host = map upper host

-- Is true if `name` ends with `ending`.
unfoldable pub has_ending : List ℕ → List ℕ → Bool
has_ending ending name =
    if nat_lt (length name) (length ending) then false else bytes_eq (drop (length name - length ending) name) ending

-- The name without its ending `.TXT`, and with the ending `.TEXT`. Any other name is unchanged.
abbrev pub with_text : List ℕ → List ℕ
with_text name = if has_ending (codes ".TXT") name then take (length name - 3) name ++ codes "TEXT" else name

-- The name on the volume of the file `host` of a folder: in capital letters, and with `.TEXT` in place of `.TXT`.
abbrev pub plain_name : List ℕ → List ℕ
plain_name host = with_text (upper_name host)

-- The same name with escapes, as in LIST.
abbrev pub escaped_name : List ℕ → List ℕ
escaped_name host = listed_name (plain_name host)

-- The kind of a file by its name: 3, text, for the ending `.TEXT`; 2, code, for `.CODE`; and 5, data, for any other.
unfoldable pub kind_by_name : List ℕ → ℕ
kind_by_name name = if has_ending (codes ".TEXT") name then 3 else if has_ending (codes ".CODE") name then 2 else 5

-- How a file is converted: a file of kind text is a plain text if none of its bytes is 0.
abbrev pub how_by_bytes : ℕ → List ℕ → How
how_by_bytes kind contents = if (kind == 3) && is_none (cut 0 contents) then how.Text else how.Bytes

-- What LIST would state for a file with these names and contents. The file has no date.
abbrev pub listed_as : List ℕ → List ℕ → List ℕ → Listed
listed_as host name contents = record {
  host = host;
  name = name;
  kind = kind_by_name name;
  date = 0;
  how = how_by_bytes (kind_by_name name) contents;
}

-- What LIST would state for the file `host` with these contents.
abbrev pub plain_listed : List ℕ → List ℕ → Listed
plain_listed host contents = listed_as host (escaped_name host) contents

-- The word of LIST for one of the three kinds.
abbrev pub kind_text : ℕ → List ℕ
kind_text kind = if kind == 3 then codes "text" else if kind == 2 then codes "code" else codes "data"

-- A line of LIST, with its line feed: the two names, the kind, no date, and the form, with tabs between them.
abbrev pub line_of : List ℕ → List ℕ → ℕ → How → List ℕ
line_of host name kind form = host ++ (codes "\t" ++ (name ++ (codes "\t" ++ (kind_text kind ++ (codes "\t000-00-00\t"
    ++ (how_text form ++ codes "\n"))))))

-- The line that LIST would have for what the file is on the volume.
abbrev pub plain_line : Listed → List ℕ
plain_line l = line_of l.host l.name l.kind l.how
