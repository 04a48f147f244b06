-- Chaining of definitions that return a `Result`: the second one is used only if the first one succeeds.
use Rattle.std.specs.Prelude.{Result, Ok, Err}

-- If the left side is `Ok x`, then the result is `f x`. If the left side is `Err e`, then the result is `Err e`.
infixl 10 ◌>>=◌
abbrev pub ◌>>=◌ : {A B E : Type 0} → Result A E → (A → Result B E) → Result B E
(Ok x) >>= f = f x
(Err e) >>= f = Err e
