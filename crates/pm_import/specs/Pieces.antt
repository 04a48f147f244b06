-- Two pieces of a slice.
use Rattle.std.specs.Prelude.{ℕ, List}
use Rattle.std.specs.Borrow.{Bor}

-- The bytes of two borrowed pieces.
abbrev pub pieces_seen : Bor (List ℕ) × Bor (List ℕ) → List ℕ × List ℕ
pieces_seen pieces = (pieces.0.now, pieces.1.now)
