use Rattle.std.proofs.Common.{◌≡◌, ◌++◌, drop}
use Rattle.pm_filer.specs.Listing.{printable_name}
use Rattle.pm_filer.proofs.printed.push_shown.Given as goal

-- The text so far and the remaining bytes are together the complete text.
abbrev pub invariant-loop-byte : goal.invariant-loop-byte
invariant-loop-byte l = l.text.items ++ printable_name (drop l.byte-index l.name) ≡ l.fn.text.items ++ printable_name l.name
