use Rattle.std.proofs.Common.{◌≡◌, ◌++◌, drop, map, string_bytes}
use Rattle.pm_batch.specs.Assembly.{character_of}
use Rattle.pm_batch.proofs.assembly.text_of.Given as goal

-- The text so far, followed by the characters of the remaining bytes, is the whole text.
abbrev pub invariant-loop-byte : goal.invariant-loop-byte
invariant-loop-byte l = string_bytes l.text ++ map character_of (drop l.byte-index l.input) ≡ map character_of l.input
