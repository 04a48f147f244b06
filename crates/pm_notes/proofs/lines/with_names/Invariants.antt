use Rattle.std.proofs.Common.{◌≡◌, ◌++◌, [], drop}
use Rattle.pm_notes.specs.Lines.{named_from}
use Rattle.pm_notes.proofs.lines.with_names.Given as goal

-- The lines so far, followed by the remaining lines with their notes, are the whole text. `line` has the bytes of the
-- current line that were read.
abbrev pub invariant-loop-byte : goal.invariant-loop-byte
invariant-loop-byte l = l.named.items ++ named_from l.file l.line.items (drop l.byte-index l.text) ≡ named_from l.file [] l.text
