-- The laws and the worked examples of searches, computed.
use Rattle.std.proofs.Common.{◌≡◌, ◌==◌, ◌<◌, ◌≤◌, ℕ, true, false, List, [], None, Some, length, nat_lt, refl, ap, arith, inl, inr}
use Rattle.std.proofs.lemmas.Bool.{cases_Bool, ltb-true, ne_eqb}
use Rattle.std.proofs.lemmas.Bool.Decides.{Decides-ltb}
use Rattle.std.specs.List.{flat_map}
use Rattle.pm_convert.proofs.Computed.{worked_opens}
use Rattle.pm_filer.specs.Filed.{GetTextSlot, file_in_slot, filed}
use Rattle.pm_filer.specs.Fitting.{fits}
use Rattle.pm_filer.specs.Listing.{printable_name}
use Rattle.pm_textfile.specs.Reading.{text_from, text_of_file}
use Rattle.pm_textfile.specs.Writing.{text_lines}
use Rattle.pm_volume.specs.Files.{file_bytes}
use Rattle.pm_volume.specs.Names.{characters_of, is_same_name}
use Rattle.pm_volume.specs.declared.entry.Entry.{Entry}
use Rattle.pm_volume.specs.declared.kinds.TheConstants.{TEXT}
use Rattle.pm_search.specs.Lines.{name_line}
use Rattle.pm_search.specs.Searching.{searched_as}
use Rattle.pm_search.specs.Texts.{contains, file_text, matches_from, text_in, text_returned}
use Rattle.pm_search.specs.Worked.{WorkedAnswers, WorkedLines, WorkedNames, WorkedSearches}
use Rattle.pm_search.proofs.LineEnds.{whole_searched}
use Rattle.pm_search.proofs.SearchLaws.{contained, empty_query, files_split, info, line_left_out, line_listed, names_left_out}
use Rattle.pm_search.proofs.SearchLaws.{names_listed, nothing, one_format, refused}

pub worked_names : WorkedNames
worked_names = record {
  listed = names_listed;
  left_out = names_left_out;
  empty = λ path blocks pattern files. rw files refl;
  nothing = λ path blocks pattern files. ap (flat_map (name_line path)) files;
}

not_below : (a b : ℕ) → b ≤ a → nat_lt a b ≡ false
not_below a b size = elim (cases_Bool (nat_lt a b)) [
  | inl low ↦ absurd (omega (arith, ltb-true a b low))
  | inr not ↦ not
]

text_there : (blocks bytes : List ℕ) (e : Entry) → e.kind ≡ TEXT → file_bytes blocks e ≡ Some bytes
    → 1024 ≤ length bytes → text_in blocks e ≡ Some (text_of_file bytes)
text_there blocks bytes e kind there size =
    let is : (e.kind == TEXT) ≡ true = ap (λ (k : ℕ). k == TEXT) kind in
    let high = not_below (length bytes) 1024 size in
    rw (is, there, high) refl

no_bytes : (path blocks needle : List ℕ) (e : Entry) → file_bytes blocks e ≡ None → file_text path needle blocks e ≡ []
no_bytes path blocks needle e none = elim (cases_Bool (e.kind == TEXT)) [
  | inl is ↦ rw (is, none) refl
  | inr not ↦ rw not refl
]

no_header : (path blocks needle bytes : List ℕ) (e : Entry) → file_bytes blocks e ≡ Some bytes
    → length bytes < 1024 → file_text path needle blocks e ≡ []
no_header path blocks needle bytes e there size =
    let low = (Decides-ltb (length bytes) 1024).1 size in
    elim (cases_Bool (e.kind == TEXT)) [
      | inl is ↦ rw (is, there, low) refl
      | inr not ↦ rw not refl
    ]

as_gettext : (blocks : List ℕ) (slot : ℕ) (e : Entry) → e.kind ≡ TEXT → file_in_slot blocks slot ≡ Some e
    → text_in blocks e ≡ text_returned (filed blocks (GetTextSlot slot))
unfolding filed
as_gettext blocks slot e kind there =
    let is : (e.kind == TEXT) ≡ true = ap (λ (k : ℕ). k == TEXT) kind in rw (is, there) refl

pub worked_lines : WorkedLines
worked_lines = record {
  contained = contained;
  empty_query = empty_query;
  listed = line_listed;
  left_out = line_left_out;
  files = files_split;
  text = text_there;
  no_header = no_header;
  no_bytes = no_bytes;
  other_kind = λ path blocks needle e other. let not = ne_eqb e.kind TEXT other in rw not refl;
  as_gettext = as_gettext;
}

pub worked_answers : WorkedAnswers
worked_answers = record {
  one_format = one_format;
  no_format = λ path image query formats. ap (searched_as path image query) formats;
  several_formats = λ path image query first second more formats. ap (searched_as path image query) formats;
  refused = refused;
  info = info;
  nothing = nothing;
  whole = whole_searched;
  empty_image = λ path query. ap (searched_as path [] query) worked_opens.empty;
}

pub worked_searches : WorkedSearches
unfolding fits is_same_name characters_of printable_name contains matches_from text_lines text_from
worked_searches = record {
  found = λ blocks files. rw files refl;
  equal = λ blocks files. rw files refl;
  shown = λ blocks files. rw files refl;
  inside = refl;
  at_end = refl;
  absent = refl;
  case_matters = refl;
  longer = refl;
  matches = refl;
  match = refl;
  header = refl;
  no_header = refl;
  described = λ blocks name files free largest. rw (name, files, free, largest) refl;
  no_volume = refl;
  two_formats = refl;
  three_formats = refl;
}
