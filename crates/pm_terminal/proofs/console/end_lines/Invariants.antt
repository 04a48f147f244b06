use Rattle.std.proofs.Common.{◌≡◌, ◌++◌, map, take, drop}
use Rattle.pm_terminal.specs.Console.{shown_byte}
use Rattle.pm_terminal.proofs.console.end_lines.Given as goal

-- The bytes before the index are replaced, and the other bytes are unchanged.
abbrev pub invariant-loop-byte : goal.invariant-loop-byte
invariant-loop-byte l = l.bytes ≡ map shown_byte (take l.byte-index l.initial.bytes) ++ drop l.byte-index l.initial.bytes
