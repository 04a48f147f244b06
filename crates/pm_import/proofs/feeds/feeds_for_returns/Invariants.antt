use Rattle.std.proofs.Common.{◌≡◌, ◌++◌, drop, map}
use Rattle.pm_import.specs.Feeds.{feed_for}
use Rattle.pm_import.proofs.feeds.feeds_for_returns.Given as goal

-- The bytes so far, followed by those for the rest of the text, are all bytes.
abbrev pub invariant-loop-byte : goal.invariant-loop-byte
invariant-loop-byte l = l.bytes.items ++ map feed_for (drop l.byte-index l.text) ≡ map feed_for l.text
