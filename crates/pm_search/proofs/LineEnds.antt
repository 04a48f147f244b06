-- Each answer ends with the end of a line, or is empty.
use Rattle.std.proofs.Common.{ℕ, ◌+◌, Bool, true, false, List, [], ◌∷◌, ◌++◌, Option, None, Some, codes, length, refl}
use Rattle.std.proofs.Common.{sym, ap, ◌∙◌, inl, inr, append_assoc, append-nil, subst, if◌then◌else◌}
use Rattle.std.specs.Fmt.{decimal}
use Rattle.std.specs.List.{flat_map}
use Rattle.pm_convert.specs.Found.{blocks_in, formats_of, is_volume}
use Rattle.pm_convert.specs.Formats.{name_of}
use Rattle.pm_convert.specs.declared.format.Format.{Format}
use Rattle.pm_filer.specs.Fitting.{fitting_files}
use Rattle.pm_filer.specs.Listing.{printable_name}
use Rattle.pm_textfile.specs.Writing.{TextLine, text_lines}
use Rattle.pm_volume.specs.Files.{files_of}
use Rattle.pm_volume.specs.Names.{characters_of}
use Rattle.pm_volume.specs.Space.{free_blocks, largest_gap, volume_name}
use Rattle.pm_search.specs.Lines.{file_front, front_of, info_line, match_line, name_line, next_format, numbers_text, several_line}
use Rattle.pm_search.specs.Searching.{ended, no_volume, searched, searched_as, searched_in, text_for}
use Rattle.pm_search.specs.Texts.{contains, file_text, matches_from, text_in, text_matches}
use Rattle.pm_search.specs.Worked.{EndsLine, IsWhole}
use Rattle.pm_search.specs.declared.query.Query.{Query}
use Rattle.pm_search.specs.declared.query.Query.TheVariants as queries

-- The end of a line, after any bytes.
last : (before : List ℕ) → EndsLine (before ++ 10 ∷ [])
last before = record { before = before; ends = refl }

after : (a b : List ℕ) → EndsLine b → EndsLine (a ++ b)
after a b line = record {
  before = a ++ line.before;
  ends = ap (λ (t : List ℕ). a ++ t) line.ends ∙ sym (append_assoc a line.before (10 ∷ []));
}

both : (a b : List ℕ) → IsWhole a → IsWhole b → IsWhole (a ++ b)
both a b first (inl empty) = subst IsWhole (sym (ap (λ (t : List ℕ). a ++ t) empty ∙ append-nil a)) first
both a b first (inr line) = inr (after a b line)

each : {X : Type 0} (f : X → List ℕ) → ((x : X) → IsWhole (f x)) → (xs : List X) → IsWhole (flat_map f xs)
each f whole [] = inl refl
each f whole (x ∷ xs) = both (f x) (flat_map f xs) (whole x) (each f whole xs)

match_ends : (front : List ℕ) (n : ℕ) (line : List ℕ) → EndsLine (match_line front n line)
match_ends front n line =
    let rest = 58 ∷ 32 ∷ (line ++ 10 ∷ []) in
    after front (58 ∷ 32 ∷ (decimal n ++ rest)) (after (58 ∷ 32 ∷ []) (decimal n ++ rest) (after (decimal n) rest
    (last (58 ∷ 32 ∷ line))))

matching_whole : (front : List ℕ) (n : ℕ) (line : List ℕ) (b : Bool) → IsWhole (if b then match_line front n line else [])
matching_whole front n line true = inr (match_ends front n line)
matching_whole front n line false = inl refl

matches_whole : (needle front : List ℕ) (n : ℕ) (lines : List TextLine) → IsWhole (matches_from needle front n lines)
unfolding matches_from
matches_whole needle front n [] = inl refl
matches_whole needle front n (line ∷ lines) =
    both (if contains needle line then match_line front n line else []) (matches_from needle front (n + 1) lines)
    (matching_whole front n line (contains needle line)) (matches_whole needle front (n + 1) lines)

text_whole : (needle front : List ℕ) (text : Option (List ℕ)) → IsWhole (text_matches needle front text)
text_whole needle front None = inl refl
text_whole needle front (Some text) = matches_whole needle front 1 (text_lines text)

numbers_end : (blocks : List ℕ) → EndsLine (numbers_text blocks)
numbers_end blocks =
    let files = decimal (length (files_of blocks)) in
    let free = decimal (free_blocks blocks) in
    let largest = decimal (largest_gap blocks) in
    let three = after (codes ", largest ") (largest ++ 10 ∷ []) (last largest) in
    let two = after (codes ", free ") _ (after free _ three) in
    after (codes ": files ") _ (after files _ two)

info_ends : (path : List ℕ) (format : Format) (blocks : List ℕ) → EndsLine (info_line path format blocks)
info_ends path format blocks =
    after (front_of path) _ (after (name_of format) _ (after (32 ∷ []) _ (after (printable_name (volume_name blocks)) _
    (numbers_end blocks))))

text_for_whole : (path : List ℕ) (format : Format) (blocks : List ℕ) (query : Query) → IsWhole (text_for path format blocks query)
text_for_whole path format blocks (queries.Names pattern) =
    each (name_line path) (λ e. inr (last (file_front path (characters_of e.name)))) (fitting_files blocks pattern.now)
text_for_whole path format blocks (queries.Text needle) =
    each (file_text path needle.now blocks)
    (λ e. text_whole needle.now (file_front path (characters_of e.name)) (text_in blocks e)) (files_of blocks)
text_for_whole path format blocks queries.Info = inr (info_ends path format blocks)

no_volume_whole : (path : List ℕ) → IsWhole (no_volume path).text
no_volume_whole path = inr (after (front_of path) (codes "no volume\n") (last (codes "no volume")))

several_ends : (path : List ℕ) (first : Format) (more : List Format) → EndsLine (several_line path first more)
several_ends path first more =
    after (front_of path) _ (after (codes "several formats: ") _ (after (name_of first) _ (last (flat_map next_format more))))

opened_whole : (path : List ℕ) (format : Format) (query : Query) (blocks : List ℕ) (b : Bool)
    → IsWhole (if b then ended (text_for path format blocks query) else no_volume path).text
opened_whole path format query blocks true = text_for_whole path format blocks query
opened_whole path format query blocks false = no_volume_whole path

searched_in_whole : (path : List ℕ) (format : Format) (query : Query) (found : Option (List ℕ))
    → IsWhole (searched_in path format query found).text
searched_in_whole path format query None = no_volume_whole path
searched_in_whole path format query (Some blocks) = opened_whole path format query blocks (is_volume blocks)

searched_as_whole : (path image : List ℕ) (query : Query) (formats : List Format)
    → IsWhole (searched_as path image query formats).text
searched_as_whole path image query [] = no_volume_whole path
searched_as_whole path image query (format ∷ []) = searched_in_whole path format query (blocks_in format image)
searched_as_whole path image query (first ∷ second ∷ more) = inr (several_ends path first (second ∷ more))

pub whole_searched : (path image : List ℕ) (query : Query) → IsWhole (searched path image query).text
whole_searched path image query = searched_as_whole path image query (formats_of image)
