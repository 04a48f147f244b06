use Rattle.std.proofs.Common.{◌≡◌, drop}
use Rattle.pm_source.specs.Line.{all_operands, byte_operand}
use Rattle.pm_line.specs.Views.{onto_operands, texts_seen}
use Rattle.pm_line.proofs.lists.byte_operands.Given as goal

-- The operands so far, followed by the operands of the remaining texts, are all operands.
abbrev pub invariant-loop-text : goal.invariant-loop-text
invariant-loop-text l =
    onto_operands l.bytes.items l.in_range (all_operands byte_operand (texts_seen (drop l.text-index l.texts))) ≡ all_operands byte_operand (texts_seen l.texts)
