use Rattle.std.proofs.Common.{◌≡◌, ◌++◌, drop, string_bytes}
use Rattle.pm_code.specs.Image.{pairs_text}
use Rattle.pm_disasm.proofs.listed.push_pairs.Given as goal

-- The written text, followed by the digits of the remaining bytes, is the whole text.
abbrev pub invariant-loop-byte : goal.invariant-loop-byte
invariant-loop-byte l = string_bytes l.text ++ pairs_text (drop l.byte-index l.bytes) ≡ string_bytes l.fn.text ++ pairs_text l.bytes
