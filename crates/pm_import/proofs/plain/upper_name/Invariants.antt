use Rattle.std.proofs.Common.{◌≡◌, ◌++◌, drop, map}
use Rattle.pm_import.specs.Plain.{upper}
use Rattle.pm_import.proofs.plain.upper_name.Given as goal

-- The bytes so far, followed by those for the rest of the text, are all bytes.
abbrev pub invariant-loop-byte : goal.invariant-loop-byte
invariant-loop-byte l = l.bytes.items ++ map upper (drop l.byte-index l.text) ≡ map upper l.text
