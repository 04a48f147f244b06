-- The lines of the report of a salvage. A file is suspect if its contents may be wrong. `doubt_of` has the reasons.
use Rattle.std.specs.Prelude.{ℕ, ◌+◌, nat_lt, List, [], ◌∷◌, ◌++◌, codes, Option, None, Some}
use Rattle.std.specs.Prelude.{if◌then◌else◌}
use Rattle.std.specs.Fmt.{decimal}
use Rattle.pm_check.specs.Findings.{slot_text}
use Rattle.pm_check.specs.declared.believing.Left.{Left}
use Rattle.pm_check.specs.declared.believing.Taken.{Taken}
use Rattle.pm_check.specs.declared.report.Doubt.{Doubt}
use Rattle.pm_check.specs.declared.report.Doubt.TheVariants.{Sure, Shares, Behind}

-- The line of the invalid entry `left`, with the rule that it breaks.
unfoldable pub left_line : Left → List ℕ
left_line left = codes "slot " ++ (decimal left.slot ++ (codes " left out, " ++ (slot_text left.finding ++ 10 ∷ [])))

-- The reason why the file in slot `slot` is suspect. It has a block in common with another file, or `slot` is greater
-- than the number `count` of files that the header states.
abbrev pub doubt_of : ℕ → ℕ → Option Taken → Doubt
doubt_of count slot (Some other) = Shares other.slot
doubt_of count slot None = if nat_lt count slot then Behind else Sure

abbrev pub doubt_text : Doubt → List ℕ
doubt_text Sure = []
doubt_text (Shares slot) = codes ", doubted, shares blocks with slot " ++ decimal slot
doubt_text Behind = codes ", doubted, behind the files of the header"

-- The line of the file in slot `slot` that is copied under the name `name`.
unfoldable pub taken_line : ℕ → List ℕ → Doubt → List ℕ
taken_line slot name doubt =
    codes "slot " ++ (decimal slot ++ (codes " taken as " ++ (name ++ (doubt_text doubt ++ 10 ∷ []))))

-- The last line: the number of copied files, of invalid entries and of suspect files.
unfoldable pub last_line : ℕ → ℕ → ℕ → List ℕ
last_line files left doubted =
    codes "files " ++ (decimal files ++ (codes " left out " ++ (decimal left ++ (codes " doubted "
    ++ (decimal doubted ++ 10 ∷ [])))))

-- The number of suspect files after another file was added to `doubted` suspect files.
abbrev pub counted : ℕ → Doubt → ℕ
counted doubted Sure = doubted
counted doubted (Shares slot) = doubted + 1
counted doubted Behind = doubted + 1
