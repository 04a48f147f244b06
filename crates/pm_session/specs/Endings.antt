-- The last line of a run.
use Rattle.std.specs.Prelude.{ℕ, List, ◌∷◌, ◌++◌, codes}
use Rattle.std.specs.Fmt.{decimal}
use Rattle.pm_words.specs.Errors.{number_of}
use Rattle.pm_session.specs.declared.ending.Ending.{Ending}
use Rattle.pm_session.specs.declared.ending.Ending.TheVariants as endings

-- The last line of a run that ended after `steps` steps of the machine, without its line feed.
abbrev pub last_line : Ending → ℕ → List ℕ
last_line endings.Ended steps = codes "ended " ++ decimal steps
last_line (endings.Error error) steps = codes "error " ++ (decimal (number_of error) ++ (32 ∷ decimal steps))
last_line endings.Limit steps = codes "limit " ++ decimal steps
last_line endings.Waiting steps = codes "waiting " ++ decimal steps
