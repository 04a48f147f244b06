use Rattle.std.proofs.Common.{◌≡◌, ◌++◌, drop, string_bytes}
use Rattle.pm_filer.specs.Listing.{printable_name}
use Rattle.pm_filer.proofs.printed.push_name.Given as goal

-- The text so far and the remaining bytes are together the complete text.
abbrev pub invariant-loop-byte : goal.invariant-loop-byte
invariant-loop-byte l = string_bytes l.text ++ printable_name (drop l.byte-index l.name) ≡ string_bytes l.fn.text ++ printable_name l.name
