-- A stack operation that pushes several words.
use Rattle.std.specs.Prelude.{ℕ, ◌+◌, ◌-◌, ◌*◌, List, length, Result, Ok, nat_le}
use Rattle.pm_words.specs.Words.{with_words}
use Rattle.pm_words.specs.declared.error.ExecError.{ExecError}
use Rattle.pm_words.specs.declared.error.ExecError.TheVariants.{StackOverflow}
use Rattle.pm_words.specs.Stack.{◌>>=◌, demand}

-- The memory after the words `ws` are pushed, the first of them on top of the stack, and the new SP. The error is
-- `StackOverflow` if the new SP would be below `np`.
abbrev pub push_words : List ℕ → ℕ → ℕ → List ℕ → Result (List ℕ × ℕ) ExecError
push_words m sp np ws = do
  _ ← demand (nat_le (np + 2 * length ws) sp) StackOverflow
  Ok (with_words m (sp - 2 * length ws) ws, sp - 2 * length ws)
