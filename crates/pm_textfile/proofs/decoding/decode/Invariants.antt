use Rattle.std.proofs.Common.{◌≡◌, ◌++◌, drop}
use Rattle.pm_textfile.specs.Reading.{text_from}
use Rattle.pm_textfile.specs.declared.decoding.LinePart.TheVariants.{LineStart}
use Rattle.pm_textfile.proofs.decoding.decode.Given as goal

-- The text so far, followed by the text of the remaining bytes, is the whole text.
abbrev pub invariant-loop-byte : goal.invariant-loop-byte
invariant-loop-byte l = record {
  whole : l.text.items ++ text_from l.place (drop l.byte-index l.byte-items) ≡ text_from LineStart l.byte-items;
}
