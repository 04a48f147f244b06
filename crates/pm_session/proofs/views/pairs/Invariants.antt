use Rattle.std.proofs.Common.{◌≡◌, ◌++◌, drop, string_bytes, codes}
use Rattle.pm_session.specs.Texts.{more_parts, parts_text}
use Rattle.pm_session.specs.Views.{pair_text}
use Rattle.pm_session.proofs.views.pairs.Given as goal

-- The written text, followed by the text of the remaining bytes, is the whole text.
abbrev pub invariant-loop-byte : goal.invariant-loop-byte
invariant-loop-byte l = record {
  rest : string_bytes l.text ++ more_parts (codes " ") pair_text (drop l.byte-index l.rest) ≡ parts_text (codes " ") pair_text l.bytes;
}
