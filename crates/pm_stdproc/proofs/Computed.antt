-- The worked examples, computed by the checker.
use Rattle.std.proofs.Common.{refl}
use Rattle.pm_words.specs.Words.{byte_at, bytes_of, moved_down, moved_up, with_byte, with_bytes, words_of}
use Rattle.pm_stdproc.specs.Worked.{WorkedMoves}

pub worked_moves : WorkedMoves
unfolding byte_at bytes_of moved_down moved_up with_byte with_bytes words_of
worked_moves = record { left = refl; right = refl }
