-- What a line of LIST does, by what it states.
use Rattle.std.proofs.Common.{◌≡◌, ◌<◌, ◌≤◌, ℕ, ◌-◌, List, [], ◌∷◌, Option, None, Some, Result, Ok, Err, OnOk, Bor, arith}
use Rattle.std.proofs.Common.{drop, get_or, length, map, refl, subst, take}
use Rattle.std.proofs.lemmas.List.{take_all}
use Rattle.pm_files.specs.Held.{Files}
use Rattle.pm_folder.specs.declared.contents.Ends.{Ends}
use Rattle.pm_import.specs.Imported.{NotAdded, TakesFilled, TakesLine, TakesLines, TakesListed, from_filled, with_left}
use Rattle.pm_import.specs.Listed.{Listed, listed_of}
use Rattle.pm_import.specs.declared.imported.Why.{Why}
use Rattle.pm_import.specs.declared.imported.Why.TheVariants as why

-- The line states the file `l`.
pub filled_some : (folder : Files) (ends : Ends) (line image next : List ℕ) (earlier left : List NotAdded) (l : Listed)
    (reason : Option Why) → listed_of line ≡ Some l → TakesListed folder ends image (Some l) next reason
    → left ≡ with_left earlier l.host reason → TakesFilled folder ends line image next earlier left
filled_some folder ends line image next earlier left l reason e takes named = rw e (reason, takes, named)

-- The line is not valid.
pub filled_none : (folder : Files) (ends : Ends) (line image next : List ℕ) (earlier left : List NotAdded)
    → listed_of line ≡ None → next ≡ image → left ≡ with_left earlier line (Some why.Line)
    → TakesFilled folder ends line image next earlier left
filled_none folder ends line image next earlier left e same named = rw e (Some why.Line, (same, refl), named)

-- Empty lines have no effect: what the lines from the first line that is not empty do, all lines do.
pub lines_filled : (folder : Files) (ends : Ends) (lines rest : List (List ℕ)) (image last : List ℕ)
    (earlier left : List NotAdded) → rest ≡ from_filled lines → TakesLines folder ends rest image last earlier left
    → TakesLines folder ends lines image last earlier left
lines_filled folder ends [] rest image last earlier left is takes =
    subst (λ ls. TakesLines folder ends ls image last earlier left) is takes
lines_filled folder ends ([] ∷ lines) rest image last earlier left is takes =
    (image, earlier, (refl, refl), lines_filled folder ends lines rest image last earlier left is takes)
lines_filled folder ends ((c ∷ line) ∷ lines) rest image last earlier left is takes =
    subst (λ ls. TakesLines folder ends ls image last earlier left) is takes

-- Only empty lines have no effect.
pub lines_empty : (folder : Files) (ends : Ends) (lines : List (List ℕ)) (image : List ℕ) (left : List NotAdded)
    → [] ≡ from_filled lines → TakesLines folder ends lines image image left left
lines_empty folder ends lines image left is = lines_filled folder ends lines [] image image left left is (refl, refl)

-- The same, if the call that takes the lines succeeds.
pub lines_filled_ok : {T E : Type 0} (result : Result T E) (folder : Files) (ends : Ends) (lines rest : List (List ℕ))
    (image last : List ℕ) (earlier left : List NotAdded) → rest ≡ from_filled lines
    → OnOk result (TakesLines folder ends rest image last earlier left)
    → OnOk result (TakesLines folder ends lines image last earlier left)
lines_filled_ok (Ok value) folder ends lines rest image last earlier left is takes =
    lines_filled folder ends lines rest image last earlier left is takes
lines_filled_ok (Err fault) folder ends lines rest image last earlier left is takes = tt

-- A list with fewer than one element is empty.
pub none_left : {T : Type 0} (xs : List T) → length xs < 1 → xs ≡ []
none_left [] few = refl
none_left (x ∷ xs) few = absurd (omega (arith, few))

module _ (folder between : Files) (ends : Ends) (image next last : List ℕ) (earlier more left : List NotAdded) where
  line_more : (lines : List (Bor (List ℕ))) (d : Bor (List ℕ)) → 1 ≤ length lines
      → TakesLine folder ends (get_or lines 0 d).now image next earlier more → between ≡ folder
      → TakesLines between ends (map (λ line. line.now) (take (length lines - 1) (drop 1 lines))) next last more left
      → TakesLines folder ends (map (λ line. line.now) lines) image last earlier left
  line_more [] d some line same rest = absurd (omega (arith, some))
  line_more (x ∷ xs) d some line same rest = (
    next,
    more,
    line,
    subst (λ f. TakesLines f ends (map (λ line. line.now) xs) next last more left) same
        (subst (λ ls. TakesLines between ends (map (λ line. line.now) ls) next last more left) (take_all (length (x ∷ xs) - 1) xs (omega arith)) rest),
  )

  -- The first line, and then the other lines, if the call that takes them succeeds.
  pub line_more_ok : {T E : Type 0} (result : Result T E) (lines : List (Bor (List ℕ))) (d : Bor (List ℕ))
      → 1 ≤ length lines → TakesLine folder ends (get_or lines 0 d).now image next earlier more → between ≡ folder
      → OnOk result (TakesLines between ends (map (λ line. line.now) (take (length lines - 1) (drop 1 lines)))
      next last more left)
      → OnOk result (TakesLines folder ends (map (λ line. line.now) lines) image last earlier left)
  line_more_ok (Ok value) lines d some line same rest = line_more lines d some line same rest
  line_more_ok (Err fault) lines d some line same rest = tt
