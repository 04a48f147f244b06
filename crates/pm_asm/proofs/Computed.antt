-- The hints for a few lines are computed.
use Rattle.std.proofs.Common.{refl}
use Rattle.pm_asm.specs.HintTexts.{hint_text, range_text, takes_text}
use Rattle.pm_asm.specs.Hints.{hint_of}
use Rattle.pm_asm.specs.Marks.{WorkedMarks, mark_line, mark_of}
use Rattle.pm_asm.specs.Near.{is_near, liked, meant}
use Rattle.pm_asm.specs.WorkedHints.{WorkedHints}
use Rattle.pm_line.specs.Fronts.{front_of}
use Rattle.pm_opcode.specs.Table.{form_of, groups, implied, mnemonic_of}
use Rattle.pm_source.specs.Line.{directives, keyword_of, line_of}
use Rattle.pm_source.specs.Words.{cut}

pub worked_hints : WorkedHints
unfolding hint_of range_text hint_text takes_text is_near liked meant front_of line_of cut keyword_of directives mnemonic_of form_of groups implied
worked_hints = record {
  ill_formed = refl;
  out_of_place = refl;
  label_alone = refl;
  label = refl;
  labelled = refl;
  behind_label = refl;
  other_case = refl;
  other_letter = refl;
  like_none = refl;
  type_word = refl;
  number = refl;
  end = refl;
  label_named = refl;
  segment = refl;
  jump = refl;
  bytes_told = refl;
  range_told = refl;
  nothing_told = refl;
  name_told = refl;
  odd = refl;
  counted = refl;
}

pub worked_marks : WorkedMarks
unfolding mark_of mark_line front_of cut keyword_of directives mnemonic_of
worked_marks = record {
  operands = refl;
  behind_label = refl;
  without_operands = refl;
  comment = refl;
  comment_at_once = refl;
  label = refl;
  labelled = refl;
  word = refl;
  word_behind_label = refl;
  line = refl;
  number = refl;
  again = refl;
  end = refl;
  strange = refl;
  unknown = refl;
  blanks = refl;
  tabs = refl;
  at_once = refl;
}
