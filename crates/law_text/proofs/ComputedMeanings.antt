-- Proofs of the worked examples of what statements state.
use Rattle.std.proofs.Common.{refl}
use Rattle.law_text.specs.Meaning.{frame_there, values_said, word_there}
use Rattle.law_text.specs.WorkedMeanings.{WorkedMeanings}
use Rattle.pm_words.specs.Words.{word_at}
use Rattle.pm_opcode.specs.Operations.{operation_of}
use Rattle.pm_opcode.specs.Table.{groups, implied, shape_of}

pub worked_meanings : WorkedMeanings
unfolding values_said word_there frame_there word_at operation_of groups implied shape_of
worked_meanings = record {
  difference = refl;
  first_error = refl;
  other_error = refl;
  not_taken = refl;
  taken = refl;
  by_entry = refl;
  through = refl;
  free = refl;
}
