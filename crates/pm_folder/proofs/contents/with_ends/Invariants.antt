use Rattle.std.proofs.Common.{◌≡◌, ◌++◌, drop}
use Rattle.pm_folder.specs.Contents.{with_ends}
use Rattle.pm_folder.proofs.contents.with_ends.Given as goal

-- The bytes so far, followed by the bytes for the rest of the text, are the whole result.
abbrev pub invariant-loop-byte : goal.invariant-loop-byte
invariant-loop-byte l = l.bytes.items ++ with_ends l.ends (drop l.byte-index l.text) ≡ with_ends l.ends l.text
