use Rattle.std.proofs.Common.{◌≡◌, ◌++◌, drop}
use Rattle.pm_import.specs.Feeds.{without_returns}
use Rattle.pm_import.proofs.feeds.without_returns.Given as goal

-- The bytes so far, followed by those for the rest of the text, are all bytes.
abbrev pub invariant-loop-at : goal.invariant-loop-at
invariant-loop-at l = l.bytes.items ++ without_returns (drop l.at l.text) ≡ without_returns l.text
