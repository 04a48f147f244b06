use Rattle.std.proofs.Common.{◌≡◌, ◌+◌, ◌-◌, ◌++◌, [], IfSome, string_bytes}
use Rattle.pm_codefile.specs.Segments.{procedures_in}
use Rattle.pm_disasm.specs.Offsets.{IsDecoded}
use Rattle.pm_statements.specs.Files.{tables_text}
use Rattle.pm_statements.proofs.shown.push_segment.Given as goal

-- The text so far, followed by the text of the remaining procedures, is the whole text. The remaining text depends on
-- the attribute tables that were already shown. If `decoded` has a segment, it is the segment whose text is appended.
abbrev pub invariant-loop-done : goal.invariant-loop-done
invariant-loop-done l = record {
  text : string_bytes l.text
      ++ tables_text l.known l.sized.segment.now l.shown.items (l.done + 1) (procedures_in l.sized.segment.now - l.done)
      ≡ string_bytes l.fn.text ++ tables_text l.known l.sized.segment.now [] 1 (procedures_in l.sized.segment.now);
  decoded : IfSome l.decoded (λ d. IsDecoded d l.sized.segment.now);
}
