use Rattle.std.proofs.Common.{◌≡◌, ◌++◌, drop, map, string_bytes}
use Rattle.pm_asm.specs.Marks.{below}
use Rattle.pm_asm.proofs.mark.line_below.Given as goal

-- The line up to here, followed by the text below the remaining characters, is the whole line.
abbrev pub invariant-loop-byte : goal.invariant-loop-byte
invariant-loop-byte l = string_bytes l.line ++ map below (drop l.byte-index l.before) ≡ map below l.before
