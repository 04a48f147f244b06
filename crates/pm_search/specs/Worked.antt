-- Laws of searches, and worked examples.
use Rattle.std.specs.Prelude.{◌≡◌, ◌≢◌, ◌⊎◌, ◌↔◌, ◌+◌, ◌-◌, ◌<◌, ◌≤◌, ℕ, true, false, List, [], ◌∷◌, ◌++◌, length}
use Rattle.std.specs.Prelude.{replicate, codes}
use Rattle.std.specs.Prelude.{None, Some}
use Rattle.std.specs.Fmt.{decimal}
use Rattle.std.specs.List.{filter, flat_map}
use Rattle.std.specs.Str.Iter.{HasSubslice}
use Rattle.pm_convert.specs.Found.{blocks_in, formats_of, is_volume}
use Rattle.pm_convert.specs.declared.format.ByteOrder.TheVariants as orders
use Rattle.pm_convert.specs.declared.format.Cover.TheVariants as covers
use Rattle.pm_convert.specs.declared.format.Format.{Format}
use Rattle.pm_filer.specs.Filed.{GetTextSlot, file_in_slot, filed}
use Rattle.pm_filer.specs.Fitting.{fitting_files, is_fitting}
use Rattle.pm_textfile.specs.Reading.{text_of_file}
use Rattle.pm_textfile.specs.Writing.{TextLine, text_lines}
use Rattle.pm_volume.specs.Files.{file_bytes, files_of}
use Rattle.pm_volume.specs.Space.{free_blocks, largest_gap, volume_name}
use Rattle.pm_volume.specs.declared.entry.Entry.{Entry}
use Rattle.pm_volume.specs.declared.kinds.TheConstants.{TEXT}
use Rattle.pm_search.specs.Lines.{info_line, match_line, name_line, names_text, no_volume_line, several_line}
use Rattle.pm_search.specs.Searching.{ended, no_volume, searched, several, text_for}
use Rattle.pm_search.specs.Texts.{contains, decoded, file_text, lines_text, matches_from, text_in, text_matches}
use Rattle.pm_search.specs.Texts.{text_returned}
use Rattle.pm_search.specs.declared.query.SearchEnding.TheVariants as endings
use Rattle.pm_search.specs.declared.query.Query.{Query}
use Rattle.pm_search.specs.declared.query.Query.TheVariants as queries

-- The lines of those files of a list whose names match `pattern`.
abbrev pub named : List ℕ → List ℕ → List Entry → List ℕ
named path pattern files = flat_map (name_line path) (filter (is_fitting pattern) files)

-- A file is listed if and only if its name matches the pattern. Its line is the path and its name, after the lines of
-- the files before it and before the lines of the files after it.
pub record WorkedNames : Type 0 where
  pub listed : (path blocks pattern : List ℕ) (before after : List Entry) (e : Entry)
      → files_of blocks ≡ before ++ e ∷ after → is_fitting pattern e ≡ true
      → names_text path blocks pattern ≡ named path pattern before ++ (name_line path e ++ named path pattern after)
  pub left_out : (path blocks pattern : List ℕ) (before after : List Entry) (e : Entry)
      → files_of blocks ≡ before ++ e ∷ after → is_fitting pattern e ≡ false
      → names_text path blocks pattern ≡ named path pattern before ++ named path pattern after
  pub empty : (path blocks pattern : List ℕ) → files_of blocks ≡ [] → names_text path blocks pattern ≡ []
  pub nothing : (path blocks pattern : List ℕ) → fitting_files blocks pattern ≡ [] → names_text path blocks pattern ≡ []

-- A line is listed if and only if it contains the bytes of the query, at any place. Its number is one more than the
-- number of the lines before it. The files are in directory order. A file has lines here only if its kind is text and
-- it has a header. Its text is then that of `files gettext`.
pub record WorkedLines : Type 0 where
  pub contained : (needle line : List ℕ) → (contains needle line ≡ true) ↔ HasSubslice line needle
  pub empty_query : (line : List ℕ) → contains [] line ≡ true
  pub listed : (needle front text : List ℕ) (before after : List TextLine) (line : TextLine)
      → text_lines text ≡ before ++ line ∷ after → contains needle line ≡ true
      → text_matches needle front (Some text) ≡ matches_from needle front 1 before
      ++ (match_line front (length before + 1) line ++ matches_from needle front (length before + 2) after)
  pub left_out : (needle front text : List ℕ) (before after : List TextLine) (line : TextLine)
      → text_lines text ≡ before ++ line ∷ after → contains needle line ≡ false
      → text_matches needle front (Some text) ≡ matches_from needle front 1 before
      ++ matches_from needle front (length before + 2) after
  pub files : (path blocks needle : List ℕ) (before after : List Entry) (e : Entry)
      → files_of blocks ≡ before ++ e ∷ after
      → lines_text path blocks needle ≡ flat_map (file_text path needle blocks) before
      ++ (file_text path needle blocks e ++ flat_map (file_text path needle blocks) after)
  pub text : (blocks bytes : List ℕ) (e : Entry) → e.kind ≡ TEXT → file_bytes blocks e ≡ Some bytes
      → 1024 ≤ length bytes → text_in blocks e ≡ Some (text_of_file bytes)
  pub no_header : (path blocks needle bytes : List ℕ) (e : Entry) → file_bytes blocks e ≡ Some bytes
      → length bytes < 1024 → file_text path needle blocks e ≡ []
  pub no_bytes : (path blocks needle : List ℕ) (e : Entry) → file_bytes blocks e ≡ None
      → file_text path needle blocks e ≡ []
  pub other_kind : (path blocks needle : List ℕ) (e : Entry) → e.kind ≢ TEXT
      → file_text path needle blocks e ≡ []
  pub as_gettext : (blocks : List ℕ) (slot : ℕ) (e : Entry) → e.kind ≡ TEXT → file_in_slot blocks slot ≡ Some e
      → text_in blocks e ≡ text_returned (filed blocks (GetTextSlot slot))

-- The image `image` has the volume `blocks` in the format `format`, and the answer has the lines of this volume.
pub record IsSearched (path image : List ℕ) (query : Query) (format : Format) : Type 0 where
  pub blocks : List ℕ
  pub found : blocks_in format image ≡ Some blocks
  pub opens : is_volume blocks ≡ true
  pub answer : searched path image query ≡ ended (text_for path format blocks query)

-- The last byte of `text` is 10, the end of a line.
pub record EndsLine (text : List ℕ) : Type 0 where
  pub before : List ℕ
  pub ends : text ≡ before ++ 10 ∷ []

-- The text `text` is empty, or its last line has an end.
abbrev pub IsWhole : List ℕ → Type 0
IsWhole text = (text ≡ []) ⊎ EndsLine text

-- An image that opens in one format is searched. An image that opens in no format or in several formats is refused, and
-- no other image is. A search ends with `Nothing` only without a line. The line about an image is always there. Each
-- answer ends with the end of a line, or is empty.
pub record WorkedAnswers : Type 0 where
  pub one_format : (path image : List ℕ) (query : Query) (format : Format) → formats_of image ≡ format ∷ []
      → IsSearched path image query format
  pub no_format : (path image : List ℕ) (query : Query) → formats_of image ≡ []
      → searched path image query ≡ no_volume path
  pub several_formats : (path image : List ℕ) (query : Query) (first second : Format) (more : List Format)
      → formats_of image ≡ first ∷ second ∷ more → searched path image query ≡ several path first (second ∷ more)
  pub refused : (path image : List ℕ) (query : Query) → (searched path image query).ending ≡ endings.Refused
      → ¬ (length (formats_of image) ≡ 1)
  pub info : (path image : List ℕ) (format : Format) → formats_of image ≡ format ∷ []
      → (searched path image queries.Info).ending ≡ endings.Found
  pub nothing : (text : List ℕ) → (ended text).ending ≡ endings.Nothing → text ≡ []
  pub whole : (path image : List ℕ) (query : Query) → IsWhole (searched path image query).text
  pub empty_image : (path : List ℕ) (query : Query) → searched path [] query ≡ no_volume path

-- A file with this name and this kind.
abbrev pub file : List ℕ → ℕ → Entry
file name kind = record {
  name = length name ∷ (name ++ replicate (15 - length name) 0);
  kind = kind;
  first = 6;
  end = 8;
  last_bytes = 512;
  date = 0;
}

abbrev pub bare : Format
bare = record { cover = covers.Bare; order = orders.Blocks }

abbrev pub bare_dos : Format
bare_dos = record { cover = covers.Bare; order = orders.Dos }

abbrev pub bare_big : Format
bare_big = record { cover = covers.Bare; order = orders.Big }

-- Names: a pattern ignores case, and a name without an equals sign matches only the equal name. A byte of a name that
-- is not printable becomes a question mark. Lines: bytes of the query can be anywhere in a line; case matters; lines
-- are counted from 1; and the last line needs no line feed. Texts: those of files with and without a header.
pub record WorkedSearches : Type 0 where
  pub found : (blocks : List ℕ)
      → files_of blocks ≡ file (codes "A.TEXT") 3 ∷ file (codes "B.CODE") 2 ∷ file (codes "C.TEXT") 3 ∷ []
      → names_text (codes "x.img") blocks (codes "=.text") ≡ codes "x.img: A.TEXT\nx.img: C.TEXT\n"
  pub equal : (blocks : List ℕ) → files_of blocks ≡ file (codes "A") 3 ∷ file (codes "AB") 2 ∷ []
      → names_text (codes "x.img") blocks (codes "a") ≡ codes "x.img: A\n"
  pub shown : (blocks : List ℕ) → files_of blocks ≡ file (65 ∷ 7 ∷ 127 ∷ []) 3 ∷ []
      → names_text (codes "x") blocks (codes "=") ≡ codes "x: A??\n"
  pub inside : contains (codes "nan") (codes "banana") ≡ true
  pub at_end : contains (codes "ana") (codes "bana") ≡ true
  pub absent : contains (codes "bn") (codes "banana") ≡ false
  pub case_matters : contains (codes "B") (codes "banana") ≡ false
  pub longer : contains (codes "aa") (codes "a") ≡ false
  pub matches : matches_from (codes "b") (codes "x: F") 1 (text_lines (codes "ab\nc\nb"))
      ≡ match_line (codes "x: F") 1 (codes "ab") ++ (match_line (codes "x: F") 3 (codes "b") ++ [])
  pub match : match_line (codes "x: F") 3 (codes "b") ≡ codes "x: F: " ++ (decimal 3 ++ codes ": b\n")
  pub header : decoded (replicate 1024 0 ++ 104 ∷ 105 ∷ 13 ∷ []) ≡ Some (codes "hi\n")
  pub no_header : decoded (replicate 1023 0) ≡ None
  pub described : (blocks : List ℕ) → volume_name blocks ≡ codes "VOL" → files_of blocks ≡ file (codes "A") 3 ∷ []
      → free_blocks blocks ≡ 12 → largest_gap blocks ≡ 10
      → info_line (codes "x.img") bare blocks ≡ codes "x.img: blocks VOL: files " ++ (decimal 1 ++ (codes ", free "
      ++ (decimal 12 ++ (codes ", largest " ++ (decimal 10 ++ codes "\n")))))
  pub no_volume : no_volume_line (codes "x.img") ≡ codes "x.img: no volume\n"
  pub two_formats : several_line (codes "x.img") bare (bare_dos ∷ []) ≡ codes "x.img: several formats: blocks, dos\n"
  pub three_formats : several_line (codes "x") bare (bare_dos ∷ bare_big ∷ [])
      ≡ codes "x: several formats: blocks, dos, big\n"
