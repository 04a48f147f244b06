-- What a call reads in the segment that it reaches, and how static links are followed.
use Rattle.std.specs.Prelude.{ℕ, List, ◌++◌, Result}
use Rattle.pm_words.specs.declared.error.ExecError.{ExecError}
use Rattle.pm_words.specs.Stack.{◌>>=◌, load}
use Rattle.pm_families.specs.declared.families.Call.{Call}
use Rattle.pm_calls.specs.declared.registers.Registers.{Registers}
use Rattle.pm_calls.specs.Calls.{procedure_called}
use Rattle.pm_calls.specs.Tables.{attributes}
use Rattle.pm_machine.specs.ReadStretches.{entry_words, table_read}
use Rattle.pm_machine.specs.Written.{Stretch}
use Rattle.pm_access.specs.Reached.{Seen}

-- The ranges that `call` reads in the segment `at`: the words of the table of the procedure, and the words that it
-- reads when it enters the procedure.
abbrev pub table_and_entry : Call → Registers → Seen → List Stretch
table_and_entry call r at =
    table_read at.memory at.place (procedure_called call)
    ++ entry_words call at.memory r (attributes at.memory at.place (procedure_called call))

-- The address that the static link of `frame` contains, or the error of `frame`.
abbrev pub next_up : List ℕ → Result ℕ ExecError → Result ℕ ExecError
next_up m frame = frame >>= λ f. load m f
