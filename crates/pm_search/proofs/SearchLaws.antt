-- Laws of searches: of lists of files, of lists of lines, and of answers.
use Rattle.std.proofs.Common.{◌≡◌, ◌↔◌, ◌+◌, ℕ, suc, Bool, true, false, List, [], ◌∷◌, ◌++◌, length, take, drop, Option}
use Rattle.std.proofs.Common.{None, Some, refl, sym, ap, ◌∙◌, arith, append_assoc, subst, take-append-drop}
use Rattle.std.proofs.Math.Seq.{drop-append_seam, take-append_seam}
use Rattle.std.proofs.lemmas.Bool.{false≢true}
use Rattle.std.proofs.lemmas.Grind.{flat_map-append}
use Rattle.std.proofs.lemmas.List.Elements.{All-head, filter-append, filter_passes}
use Rattle.std.proofs.lemmas.Slice.Eq.{bytes_eq-Decides}
use Rattle.std.specs.List.{All, filter, flat_map}
use Rattle.std.specs.Str.Iter.{HasSubslice}
use Rattle.memchr.proofs.lemmas.MatchLemmas.{OccursAt-split}
use Rattle.pm_convert.specs.Found.{are_volume, blocks_in, formats_of, is_volume, opens}
use Rattle.pm_convert.specs.Formats.{formats_with}
use Rattle.pm_convert.specs.Covers.{cover_of}
use Rattle.pm_convert.specs.declared.format.Format.{Format}
use Rattle.pm_filer.specs.Fitting.{is_fitting}
use Rattle.pm_textfile.specs.Writing.{TextLine, text_lines}
use Rattle.pm_volume.specs.Files.{files_of}
use Rattle.pm_volume.specs.declared.entry.Entry.{Entry}
use Rattle.pm_search.specs.Lines.{front_of, match_line, name_line, names_text}
use Rattle.pm_search.specs.Searching.{Answer, ended, ending_of, searched, searched_as, searched_in, text_for}
use Rattle.pm_search.specs.Texts.{contains, file_text, lines_text, matches_from, matching, text_matches}
use Rattle.pm_search.specs.Worked.{IsSearched, named}
use Rattle.pm_search.specs.declared.query.SearchEnding.{SearchEnding}
use Rattle.pm_search.specs.declared.query.SearchEnding.TheVariants as endings
use Rattle.pm_search.specs.declared.query.Query.{Query}
use Rattle.pm_search.specs.declared.query.Query.TheVariants as queries
use Rattle.pm_search.proofs.ContainsLaws.{begins_contains, contains_occurs}

-- ---- names

-- The lines of the files before a file, of this file, and of those after it.
names_split : (path pattern : List ℕ) (before after : List Entry) (e : Entry)
    → named path pattern (before ++ e ∷ after) ≡ named path pattern before ++ named path pattern (e ∷ after)
names_split path pattern before after e =
    ap (flat_map (name_line path)) (filter-append (is_fitting pattern) before (e ∷ after))
    ∙ flat_map-append (name_line path) (filter (is_fitting pattern) before) (filter (is_fitting pattern) (e ∷ after))

pub names_listed : (path blocks pattern : List ℕ) (before after : List Entry) (e : Entry)
    → files_of blocks ≡ before ++ e ∷ after → is_fitting pattern e ≡ true
    → names_text path blocks pattern ≡ named path pattern before ++ (name_line path e ++ named path pattern after)
names_listed path blocks pattern before after e files fits =
    ap (named path pattern) files ∙ names_split path pattern before after e ∙ (rw fits refl)

pub names_left_out : (path blocks pattern : List ℕ) (before after : List Entry) (e : Entry)
    → files_of blocks ≡ before ++ e ∷ after → is_fitting pattern e ≡ false
    → names_text path blocks pattern ≡ named path pattern before ++ named path pattern after
names_left_out path blocks pattern before after e files fits =
    ap (named path pattern) files ∙ names_split path pattern before after e ∙ (rw fits refl)

-- ---- lines

-- A line that contains the bytes is these bytes between two others.
part_of : (needle line : List ℕ) → contains needle line ≡ true → HasSubslice line needle
part_of needle line is =
    let p = contains_occurs needle line is in (
      take p.0 line,
      drop (p.0 + length needle) line,
      sym (take-append-drop p.0 line) ∙ ap (λ (rest : List ℕ). take p.0 line ++ rest) (OccursAt-split line needle p.0 p.2),
    )

-- A line of some bytes between two others contains them.
with_part : (needle line : List ℕ) → HasSubslice line needle → contains needle line ≡ true
with_part needle line p =
    let rest : drop (length p.0) line ≡ needle ++ p.1 =
    ap (drop (length p.0)) p.2 ∙ drop-append_seam p.0 (needle ++ p.1) in
    begins_contains needle line (length p.0) ((bytes_eq-Decides (take (length needle) (drop (length p.0) line)) needle).1
    (ap (take (length needle)) rest ∙ take-append_seam needle p.1))

pub contained : (needle line : List ℕ) → (contains needle line ≡ true) ↔ HasSubslice line needle
contained needle line = (part_of needle line, with_part needle line)

pub empty_query : (line : List ℕ) → contains [] line ≡ true
unfolding contains
empty_query [] = refl
empty_query (byte ∷ rest) = refl

-- The lines for some lines, and for the lines after them.
matches_split : (needle front : List ℕ) (n : ℕ) (before after : List TextLine)
    → matches_from needle front n (before ++ after) ≡ matches_from needle front n before ++ matches_from needle front (n + length before) after
unfolding matches_from
matches_split needle front n [] after = let same : n ≡ n + 0 = omega arith in ap (λ (k : ℕ). matches_from needle front k after) same
matches_split needle front n (line ∷ before) after =
    let here = matching needle front n line in
    let place : (n + 1) + length before ≡ n + suc (length before) = omega arith in
    ap (λ (m : List ℕ). here ++ m) (matches_split needle front (n + 1) before after)
    ∙ sym (append_assoc here (matches_from needle front (n + 1) before) (matches_from needle front ((n + 1) + length before) after))
    ∙ ap (λ (k : ℕ). (here ++ matches_from needle front (n + 1) before) ++ matches_from needle front k after) place

next_line : (needle front : List ℕ) (n : ℕ) (line : TextLine) (after : List TextLine)
    → matches_from needle front n (line ∷ after) ≡ matching needle front n line ++ matches_from needle front (n + 1) after
unfolding matches_from
next_line needle front n line after = refl

text_split : (needle front text : List ℕ) (before after : List TextLine) (line : TextLine) → text_lines text ≡ before ++ line ∷ after
    → text_matches needle front (Some text) ≡ matches_from needle front 1 before
    ++ (matching needle front (length before + 1) line ++ matches_from needle front (length before + 2) after)
text_split needle front text before after line lines =
    let place : 1 + length before ≡ length before + 1 = omega arith in
    let place_after : (length before + 1) + 1 ≡ length before + 2 = omega arith in
    ap (matches_from needle front 1) lines ∙ matches_split needle front 1 before (line ∷ after)
    ∙ ap (λ (k : ℕ). matches_from needle front 1 before ++ matches_from needle front k (line ∷ after)) place
    ∙ ap (λ (m : List ℕ). matches_from needle front 1 before ++ m) (next_line needle front (length before + 1) line after)
    ∙ ap (λ (k : ℕ). matches_from needle front 1 before ++ (matching needle front (length before + 1) line ++ matches_from needle front k after)) place_after

pub line_listed : (needle front text : List ℕ) (before after : List TextLine) (line : TextLine)
    → text_lines text ≡ before ++ line ∷ after → contains needle line ≡ true
    → text_matches needle front (Some text) ≡ matches_from needle front 1 before
    ++ (match_line front (length before + 1) line ++ matches_from needle front (length before + 2) after)
line_listed needle front text before after line lines is = text_split needle front text before after line lines ∙ (rw is refl)

pub line_left_out : (needle front text : List ℕ) (before after : List TextLine) (line : TextLine)
    → text_lines text ≡ before ++ line ∷ after → contains needle line ≡ false
    → text_matches needle front (Some text) ≡ matches_from needle front 1 before
    ++ matches_from needle front (length before + 2) after
line_left_out needle front text before after line lines not = text_split needle front text before after line lines ∙ (rw not refl)

pub files_split : (path blocks needle : List ℕ) (before after : List Entry) (e : Entry) → files_of blocks ≡ before ++ e ∷ after
    → lines_text path blocks needle ≡ flat_map (file_text path needle blocks) before
    ++ (file_text path needle blocks e ++ flat_map (file_text path needle blocks) after)
files_split path blocks needle before after e files =
    ap (flat_map (file_text path needle blocks)) files ∙ flat_map-append (file_text path needle blocks) before (e ∷ after)

-- ---- answers

-- The first element that a filter leaves passes the test.
filter_first : {X : Type 0} (p : X → Bool) (xs : List X) (x : X) (rest : List X) → filter p xs ≡ x ∷ rest → p x ≡ true
filter_first p xs x rest e = All-head (λ y. p y ≡ true) x rest (subst (λ ys. All (λ y. p y ≡ true) ys) e (filter_passes p xs))

-- The blocks of a format in which an image opens.
volume_there : (format : Format) (image : List ℕ) (found : Option (List ℕ)) → blocks_in format image ≡ found → are_volume found ≡ true
    → (blocks : List ℕ) × (blocks_in format image ≡ Some blocks) × (is_volume blocks ≡ true)
volume_there format image (Some blocks) is good = (blocks, is, good)
volume_there format image None is bad = absurd (false≢true bad)

pub one_format : (path image : List ℕ) (query : Query) (format : Format) → formats_of image ≡ format ∷ []
    → IsSearched path image query format
one_format path image query format formats =
    let good : opens image format ≡ true = filter_first (opens image) (formats_with (cover_of image)) format [] formats in
    let p = volume_there format image (blocks_in format image) refl good in
    let volume = p.2 in
    record {
      blocks = p.0;
      found = p.1;
      opens = volume;
      answer = ap (searched_as path image query) formats ∙ ap (searched_in path format query) p.1 ∙ (rw volume refl);
    }

abbrev is_refused : SearchEnding → Bool
is_refused endings.Found = false
is_refused endings.Nothing = false
is_refused endings.Refused = true

abbrev is_found : SearchEnding → Bool
is_found endings.Found = true
is_found endings.Nothing = false
is_found endings.Refused = false

not_refused : (text : List ℕ) → is_refused (ending_of text) ≡ false
not_refused [] = refl
not_refused (byte ∷ text) = refl

only_one : (formats : List Format) → length formats ≡ 1 → (format : Format) × (formats ≡ format ∷ [])
only_one [] size = absurd (omega (arith, size))
only_one (format ∷ []) size = (format, refl)
only_one (format ∷ other ∷ more) size = absurd (omega (arith, size))

pub refused : (path image : List ℕ) (query : Query) → (searched path image query).ending ≡ endings.Refused
    → ¬ (length (formats_of image) ≡ 1)
refused path image query is size =
    let p = only_one (formats_of image) size in
    let s = one_format path image query p.0 p.1 in
    false≢true (sym (not_refused (text_for path p.0 s.blocks query)) ∙ ap (λ (a : Answer). is_refused a.ending) (sym s.answer)
    ∙ ap is_refused is)

front_found : (path rest : List ℕ) → ending_of (front_of path ++ rest) ≡ endings.Found
front_found [] rest = refl
front_found (byte ∷ path) rest = refl

pub info : (path image : List ℕ) (format : Format) → formats_of image ≡ format ∷ []
    → (searched path image queries.Info).ending ≡ endings.Found
info path image format formats =
    let s = one_format path image queries.Info format formats in
    ap (λ (a : Answer). a.ending) s.answer ∙ front_found path _

pub nothing : (text : List ℕ) → (ended text).ending ≡ endings.Nothing → text ≡ []
nothing [] is = refl
nothing (byte ∷ text) is = absurd (false≢true (sym (ap is_found is)))
