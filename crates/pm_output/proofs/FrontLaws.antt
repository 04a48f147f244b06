-- What a job that was cut short has written, if its whole input is known.
use Rattle.std.proofs.Common.{◌≡◌, ◌++◌, ℕ, List, Option, None, Some, IfSome, subst, sym}
use Rattle.std.specs.Io.KnownBytes.{Appends, Consumes}
use Rattle.pm_jobs.specs.Streams.{AppendsFront, IsFront, Streams}
use Rattle.pm_tool.specs.Outcomes.{Said}
use Rattle.pm_tool.specs.Said.{TellsFront}

-- If the input is known, and a job wrote a prefix of its output, then this is a prefix of the output that `text` states
-- for the whole input.
pub known_front : (before after : Streams) (text : List ℕ → Said) → TellsFront before after text
    → IfSome before.source.remaining (λ input.
    AppendsFront before.sink.contents after.sink.contents (text input).written)
known_front before after text tells =
    known before.source.remaining after.source.remaining tells.read tells.front tells.reads tells.writes tells.whole
  where
    known : (had left : Option (List ℕ)) (read front : List ℕ) → Consumes had left read
        → Appends before.sink.contents after.sink.contents front
        → IfSome left (λ rest. IsFront front (text (read ++ rest)).written)
        → IfSome had (λ input. AppendsFront before.sink.contents after.sink.contents (text input).written)
    known None left read front took writes whole = tt
    known (Some input) None read front took writes whole = absurd took
    known (Some input) (Some rest) read front took writes whole =
        (front, writes, subst (λ bytes. IsFront front (text bytes).written) (sym took) whole)
