-- The worked examples of lines and texts, computed by the checker.
use Rattle.std.proofs.Common.{refl}
use Rattle.pm_textfile.specs.Writing.{coded, completed, indentation, line_fault, lines_fault, text_lines}
use Rattle.pm_textfile.specs.Worked.{WorkedTexts}

pub worked_texts : WorkedTexts
unfolding coded completed indentation line_fault lines_fault text_lines
worked_texts = record { spaces = refl; one_space = refl; longest = refl; too_long = refl }
