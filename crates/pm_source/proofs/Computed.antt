-- The worked examples of lines and faults, computed by the checker.
use Rattle.std.proofs.Common.{refl}
use Rattle.pm_opcode.specs.Table.{form_of, groups, implied, mnemonic_of}
use Rattle.pm_source.specs.Faults.{faults}
use Rattle.pm_source.specs.Line.{directives, keyword_of, line_of}
use Rattle.pm_source.specs.Words.{cut}
use Rattle.pm_source.specs.Worked.{WorkedFaults, WorkedLines}

pub worked_lines : WorkedLines
unfolding line_of cut keyword_of directives mnemonic_of form_of groups implied
worked_lines = record {
  blank = refl;
  commented = refl;
  tabbed = refl;
  label = refl;
  glued = refl;
  mnemonic = refl;
  directive = refl;
  operand = refl;
  comma = refl;
  ends = refl;
  ends_not = refl;
  hexadecimal = refl;
  negative = refl;
  zeros = refl;
  five_digits = refl;
  too_low = refl;
  too_high = refl;
  one_byte = refl;
  marked = refl;
  marked_large = refl;
  type = refl;
  sized = refl;
  no_type = refl;
  jump = refl;
  through = refl;
  case = refl;
  few_labels = refl;
  byte = refl;
  segment = refl;
  slot = refl;
  procedure = refl;
  odd_size = refl;
}

pub worked_faults : WorkedFaults
unfolding faults line_of cut keyword_of directives mnemonic_of form_of groups implied
worked_faults = record {
  none = refl;
  ended = refl;
  not_ended = refl;
  closed = refl;
  unknown = refl;
  odd = refl;
  twice = refl;
  no_slots = refl;
  slot_again = refl;
  far = refl;
  no_label = refl;
  later = refl;
  both = refl;
}
