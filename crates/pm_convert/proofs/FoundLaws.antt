-- The formats in which an image opens.
use Rattle.std.proofs.Common.{◌≡◌, Bool, true, false, [], ◌∷◌, ◌++◌, refl}
use Rattle.std.specs.List.{filter}

-- A list of four elements is filtered one by one.
pub filter_four : {X : Type 0} (p : X → Bool) (a b c d : X)
    → (([] ++ filter p (a ∷ [])) ++ filter p (b ∷ [])) ++ filter p (c ∷ []) ++ filter p (d ∷ []) ≡ filter p (a ∷ b ∷ c ∷ d ∷ [])
filter_four p a b c d = go (p a) (p b) (p c) (p d) refl refl refl refl
  where
    go : (x y z w : Bool) → p a ≡ x → p b ≡ y → p c ≡ z → p d ≡ w
        → (([] ++ filter p (a ∷ [])) ++ filter p (b ∷ [])) ++ filter p (c ∷ []) ++ filter p (d ∷ []) ≡ filter p (a ∷ b ∷ c ∷ d ∷ [])
    go true true true true e f g h = rw (e, f, g, h) refl
    go true true true false e f g h = rw (e, f, g, h) refl
    go true true false true e f g h = rw (e, f, g, h) refl
    go true true false false e f g h = rw (e, f, g, h) refl
    go true false true true e f g h = rw (e, f, g, h) refl
    go true false true false e f g h = rw (e, f, g, h) refl
    go true false false true e f g h = rw (e, f, g, h) refl
    go true false false false e f g h = rw (e, f, g, h) refl
    go false true true true e f g h = rw (e, f, g, h) refl
    go false true true false e f g h = rw (e, f, g, h) refl
    go false true false true e f g h = rw (e, f, g, h) refl
    go false true false false e f g h = rw (e, f, g, h) refl
    go false false true true e f g h = rw (e, f, g, h) refl
    go false false true false e f g h = rw (e, f, g, h) refl
    go false false false true e f g h = rw (e, f, g, h) refl
    go false false false false e f g h = rw (e, f, g, h) refl
