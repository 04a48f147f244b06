use Rattle.std.proofs.Common.{◌≡◌, ◌+◌, ◌++◌, drop, map, string_bytes}
use Rattle.pm_code.specs.Item.Item.{OneByte}
use Rattle.pm_disasm.specs.Follow.{Items, code_lines_by}
use Rattle.pm_code.specs.Shown.{joined}
use Rattle.pm_disasm.specs.Views.{has}
use Rattle.pm_disasm.proofs.lines.push_bytes.Given as goal

-- The written text, followed by the lines of the remaining bytes, is the whole text.
abbrev pub invariant-loop-byte : goal.invariant-loop-byte
invariant-loop-byte l = record {
  place : l.place ≡ l.at + l.byte-index;
  written : (rest : Items) → string_bytes l.text ++ joined (code_lines_by (has l.marks.named.now) l.marks.exit l.place
      (map OneByte (drop l.byte-index l.bytes) ++ rest))
      ≡ string_bytes l.fn.text ++ joined (code_lines_by (has l.marks.named.now) l.marks.exit l.at (map OneByte l.bytes ++ rest));
}
