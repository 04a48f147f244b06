-- The search in images: what is written, and how it ends.
use Rattle.std.specs.Prelude.{◌≡◌, ◌⊎◌, ⊤, ℕ, ◌+◌, List, [], ◌∷◌, ◌++◌, Option, nat_lt, string_bytes, codes}
use Rattle.std.specs.Prelude.{if◌then◌else◌}
use Rattle.std.specs.Io.KnownBytes.{Appends}
use Rattle.pm_files.specs.Held.{Files, HoldsFile}
use Rattle.pm_plan.specs.declared.search_words.Sought.{Sought}
use Rattle.pm_plan.specs.declared.search_words.Sought.TheVariants as sought
use Rattle.pm_searches.specs.declared.searched.Hits.{Hits}
use Rattle.pm_search.specs.Searching.{Answer, searched}
use Rattle.pm_search.specs.declared.query.SearchEnding.{SearchEnding}
use Rattle.pm_search.specs.declared.query.SearchEnding.TheVariants as endings
use Rattle.pm_search.specs.declared.query.Query.{Query}
use Rattle.pm_search.specs.declared.query.Query.TheVariants as queries

-- Is true if `query` searches what the arguments ask for.
abbrev pub IsQuery : Sought → Query → Type 0
IsQuery (sought.Names pattern) (queries.Names word) = word.now ≡ string_bytes pattern
IsQuery (sought.Text text) (queries.Text word) = word.now ≡ string_bytes text
IsQuery sought.Info queries.Info = ⊤
IsQuery _ _ = ⊥

-- The answer for a file that cannot be read: one line that says so, and `Refused`.
abbrev pub unread : List ℕ → Answer
unread path = record { text = path ++ codes ": read fault\n"; ending = endings.Refused }

-- Is true if `answer` is the answer for the file at `path`: that of the search in its bytes, or the one for a file that
-- cannot be read.
abbrev pub Answers : Files → Query → List ℕ → Answer → Type 0
Answers files query path answer =
    ((image : List ℕ) × HoldsFile files path image × (answer ≡ searched path image query)) ⊎ (answer ≡ unread path)

-- Returns the end of two searches: `Refused` if one of them was refused; otherwise `Found` if one of them found
-- something; otherwise `Nothing`.
abbrev pub joined : SearchEnding → SearchEnding → SearchEnding
joined endings.Refused second = endings.Refused
joined endings.Found endings.Refused = endings.Refused
joined endings.Found endings.Found = endings.Found
joined endings.Found endings.Nothing = endings.Found
joined endings.Nothing second = second

-- Returns the number of refused images after one more image: one more if it was refused. The number stops at 2^64 - 1.
abbrev pub counted : ℕ → SearchEnding → ℕ
counted refused endings.Refused = if nat_lt refused 18446744073709551615 then refused + 1 else refused
counted refused endings.Found = refused
counted refused endings.Nothing = refused

-- Is true if the file at `path` is searched: the lines of its answer are appended to the output `before`, and `hits`
-- are the hits `earlier` with this answer.
abbrev pub SearchesOne : Files → Query → List ℕ → Option (List ℕ) → Option (List ℕ) → Hits → Hits → Type 0
SearchesOne files query path before after earlier hits = (answer : Answer) × Answers files query path answer
    × Appends before after answer.text × (hits.ending ≡ joined earlier.ending answer.ending)
    × (hits.refused ≡ counted earlier.refused answer.ending)

-- Is true if the files at `paths` are searched in their order, after the hits `earlier`.
abbrev pub SearchesEach : Files → Query → List (List ℕ) → Option (List ℕ) → Option (List ℕ) → Hits → Hits → Type 0
SearchesEach files query [] before after earlier hits = (after ≡ before) × (hits ≡ earlier)
SearchesEach files query (path ∷ paths) before after earlier hits = (between : Option (List ℕ)) × (next : Hits)
    × SearchesOne files query path before between earlier next
    × SearchesEach files query paths between after next hits

-- Is true if the files at `paths` are searched in their order: the lines of their answers are appended to the output
-- `before`, which gives the output `after`. `hits` has the end of all searches, which is `Nothing` for no file, and the
-- number of files that were refused.
abbrev pub Searches : Files → Query → List (List ℕ) → Option (List ℕ) → Option (List ℕ) → Hits → Type 0
Searches files query paths before after hits = (none : Hits) × (none.ending ≡ endings.Nothing) × (none.refused ≡ 0)
    × SearchesEach files query paths before after none hits
