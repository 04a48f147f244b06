-- The arguments of `find`, `grep` and `info`.
use Rattle.std.specs.Prelude.{◌≡◌, ◌≢◌, ◌⊎◌, ⊤, ℕ, List, [], ◌∷◌, Option, None, Some, Vec, String, map, string_bytes}
use Rattle.std.specs.Prelude.{codes}
use Rattle.std.specs.declared.alloc.Global.{Global}
use Rattle.clap.specs.Words.{Row, all_of, first_of, found_of, rows_of}
use Rattle.clap.specs.declared.parser.matches.ArgMatches.{ArgMatches}
use Rattle.pm_plan.specs.declared.search_words.SearchPlan.{SearchPlan}
use Rattle.pm_plan.specs.declared.search_words.Sought.{Sought}
use Rattle.pm_plan.specs.declared.search_words.Sought.TheVariants as sought

-- Is true if `images` are the values of the argument `IMAGE` in `rows`, in their order.
abbrev pub AsksImages : List Row → Vec (String Global) Global → Type 0
AsksImages rows images = all_of (codes "IMAGE") rows ≡ Some (map string_bytes images.items)

-- Is true if `what` is what the command `command` with the arguments `rows` searches: the pattern of `find`, the text
-- of `grep`, or a description for `info`.
abbrev pub IsSought : List ℕ → List Row → Sought → Type 0
IsSought command rows (sought.Names pattern) =
    (command ≡ codes "find") × (first_of (codes "PATTERN") rows ≡ Some (string_bytes pattern))
IsSought command rows (sought.Text text) =
    (command ≡ codes "grep") × (first_of (codes "TEXT") rows ≡ Some (string_bytes text))
IsSought command rows sought.Info = command ≡ codes "info"

-- Is true if the arguments `m` of the command `command` specify the search `plan`.
pub record AsksSearch (command : List ℕ) (m : ArgMatches) (plan : SearchPlan) : Type 0 where
  pub sought : IsSought command (rows_of (found_of m)) plan.sought
  pub images : AsksImages (rows_of (found_of m)) plan.images

-- ---- valid arguments

-- Is true if no path in the list is empty.
abbrev pub AreGiven : List (List ℕ) → Type 0
AreGiven [] = ⊤
AreGiven (path ∷ paths) = (path ≢ []) × AreGiven paths

-- Is true if there is an image, and no path of an image is empty.
abbrev pub IsGoodImages : Option (List (List ℕ)) → Type 0
IsGoodImages None = ⊥
IsGoodImages (Some paths) = AreGiven paths

-- Is true if the argument exists.
abbrev pub IsWord : Option (List ℕ) → Type 0
IsWord None = ⊥
IsWord (Some word) = ⊤

-- Is true if the command is `find` with a pattern, `grep` with a text, or `info`.
abbrev pub IsGoodSought : List ℕ → List Row → Type 0
IsGoodSought command rows = ((command ≡ codes "find") × IsWord (first_of (codes "PATTERN") rows))
    ⊎ (((command ≡ codes "grep") × IsWord (first_of (codes "TEXT") rows)) ⊎ (command ≡ codes "info"))

-- Is true if the arguments `rows` of the command `command` specify a search.
abbrev pub IsGoodSearch : List ℕ → List Row → Type 0
IsGoodSearch command rows = IsGoodSought command rows × IsGoodImages (all_of (codes "IMAGE") rows)
