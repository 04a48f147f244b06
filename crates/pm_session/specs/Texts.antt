-- Answers that several commands have in common.
use Rattle.std.specs.Prelude.{ℕ, List, [], ◌∷◌, ◌++◌, Option, Some, None, codes}
use Rattle.std.specs.Fmt.{decimal}
use Rattle.pm_debug.specs.Refusals.{number_of}
use Rattle.pm_debug.specs.declared.refusal.DebugRefusal.{DebugRefusal}
use Rattle.pm_debug.specs.declared.refusal.DebugRefusal.TheVariants.{OddAddress}

abbrev pub refused_text : DebugRefusal → List ℕ
refused_text refusal = codes "refused " ++ decimal (number_of refusal)

abbrev pub more_numbers : List ℕ → List ℕ
more_numbers [] = []
more_numbers (n ∷ ns) = 32 ∷ decimal n ++ more_numbers ns

-- The text of numbers, with single spaces between them.
abbrev pub numbers_text : List ℕ → List ℕ
numbers_text [] = []
numbers_text (n ∷ ns) = decimal n ++ more_numbers ns

-- The text of the addresses of a chain. If the chain does not exist, an address in it is odd, and the answer is a
-- refusal.
abbrev pub chain_text : Option (List ℕ) → List ℕ
chain_text (Some frames) = numbers_text frames
chain_text None = refused_text OddAddress

-- The texts of these values, each after `mark`.
abbrev pub more_parts : {A : Type 0} → List ℕ → (A → List ℕ) → List A → List ℕ
more_parts mark text [] = []
more_parts mark text (x ∷ xs) = mark ++ (text x ++ more_parts mark text xs)

-- The texts of these values, with `mark` between two of them.
abbrev pub parts_text : {A : Type 0} → List ℕ → (A → List ℕ) → List A → List ℕ
parts_text mark text [] = []
parts_text mark text (x ∷ xs) = text x ++ more_parts mark text xs
