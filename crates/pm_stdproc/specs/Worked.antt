-- Worked examples of moves, worked out by hand.
use Rattle.std.specs.Prelude.{◌≡◌, ℕ, List, [], ◌∷◌}
use Rattle.pm_words.specs.Words.{bytes_of, moved_down, moved_up, words_of}

-- The memory with the bytes 1, 2, 3, 4, 5 and 0, as words.
abbrev pub six : List ℕ
six = words_of (1 ∷ 2 ∷ 3 ∷ 4 ∷ 5 ∷ 0 ∷ [])

pub record WorkedMoves : Type 0 where
  -- Four bytes are moved to the next higher address. If they are moved from the low end, the first byte repeats. If
  -- they are moved from the high end, they are copied.
  pub left : bytes_of (moved_up six 0 1 4) ≡ 1 ∷ 1 ∷ 1 ∷ 1 ∷ 1 ∷ 0 ∷ []
  pub right : bytes_of (moved_down six 0 1 4) ≡ 1 ∷ 1 ∷ 2 ∷ 3 ∷ 4 ∷ 0 ∷ []
