use Rattle.std.proofs.Common.{◌≡◌, ◌++◌, drop, string_bytes}
use Rattle.pm_check.specs.Naming.{good_name}
use Rattle.pm_check.proofs.naming.push_good.Given as goal

-- The text so far and the remaining bytes are together the complete text.
abbrev pub invariant-loop-byte : goal.invariant-loop-byte
invariant-loop-byte l = string_bytes l.text ++ good_name (drop l.byte-index l.name) ≡ string_bytes l.fn.text ++ good_name l.name
