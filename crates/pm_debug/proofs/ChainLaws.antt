-- Lemmas about chains of frames, frame by frame.
use Rattle.std.proofs.Common.{◌≡◌, ◌∙◌, ◌+◌, ◌%◌, ap, sym, refl, ℕ, suc, Bool, true, false, List, [], ◌∷◌, ◌++◌, Option, Some, None, append_assoc, append-nil}
use Rattle.std.specs.Prelude.{◌==◌, ◌||◌, if◌then◌else◌}
use Rattle.pm_words.specs.Words.{word_at}
use Rattle.pm_words.specs.Stack.{is_even}
use Rattle.pm_debug.specs.Views.{before_frames, chain}

-- The frames `front` followed by the given frames, or `None` if no list is given.
abbrev pub behind : List ℕ → Option (List ℕ) → Option (List ℕ)
behind front (Some frames) = Some (front ++ frames)
behind front None = None

pub behind_none : (chain : Option (List ℕ)) → chain ≡ behind [] chain
behind_none (Some frames) = refl
behind_none None = refl

behind_one : (front : List ℕ) (a : ℕ) (rest : Option (List ℕ)) → behind front (before_frames a rest) ≡ behind (front ++ a ∷ []) rest
behind_one front a (Some frames) = ap (λ xs. Some xs) (sym (append_assoc front (a ∷ []) frames))
behind_one front a None = refl

where_some : (b : Bool) (x y : ℕ) → Some x ≡ (if b then Some y else None) → (b ≡ true) × (x ≡ y)
where_some true x y h = (refl, cc)
where_some false x y h = cc

where_none : (b : Bool) (y : ℕ) → None ≡ (if b then Some y else None) → b ≡ false
where_none true y h = cc
where_none false y h = refl

chain_last : (m : List ℕ) (distance more a : ℕ) → (more == 0 || a == 65492) ≡ true → chain m distance (suc more) a ≡ Some (a ∷ [])
unfolding chain
chain_last m distance more a e = rw e refl

chain_next : (m : List ℕ) (distance more a : ℕ) → (more == 0 || a == 65492) ≡ false → is_even a ≡ true
    → chain m distance (suc more) a ≡ before_frames a (chain m distance more (word_at m ((a + distance) % 65536)))
unfolding chain
chain_next m distance more a e even = rw (e, even) refl

chain_none : (m : List ℕ) (distance more a : ℕ) → (more == 0 || a == 65492) ≡ false → is_even a ≡ false → chain m distance (suc more) a ≡ None
unfolding chain
chain_none m distance more a e odd = rw (e, odd) refl

module _ (m : List ℕ) (distance : ℕ) (whole : Option (List ℕ)) (front : List ℕ) (n more a : ℕ) (some : n ≡ suc more)
    (h : whole ≡ behind front (chain m distance n a)) where
  going_on : whole ≡ behind front (chain m distance (suc more) a)
  going_on = h ∙ ap (λ k. behind front (chain m distance k a)) some

  -- If no more frames are requested, or if `a` is the system's frame, then `a` is the last frame.
  pub chain_ends : (more == 0 || a == 65492) ≡ true → whole ≡ Some (front ++ a ∷ [])
  chain_ends e = going_on ∙ ap (behind front) (chain_last m distance more a e)

  module _ (on : (more == 0 || a == 65492) ≡ false) where
    -- If the link of the frame at `a` is `next`, then `next` follows `a`.
    pub chain_more : (next : ℕ) → Some next ≡ (if is_even a then Some (word_at m ((a + distance) % 65536)) else None)
        → whole ≡ behind (front ++ a ∷ []) (chain m distance more next)
    chain_more next e =
        let even = where_some (is_even a) _ _ e in
        rw even.1 (going_on ∙ ap (behind front) (chain_next m distance more a on even.0)
        ∙ behind_one front a (chain m distance more (word_at m ((a + distance) % 65536))))

    -- If `a` is odd and a further frame is needed, then the result is `None`.
    pub chain_odd : None ≡ (if is_even a then Some (word_at m ((a + distance) % 65536)) else None) → whole ≡ None
    chain_odd e = going_on ∙ ap (behind front) (chain_none m distance more a on (where_none (is_even a) _ e))

-- If no further frame is requested, then the list is complete.
pub chain_over : (m : List ℕ) (distance : ℕ) (whole : Option (List ℕ)) (front : List ℕ) (a : ℕ) → whole ≡ behind front (chain m distance 0 a)
    → whole ≡ Some front
unfolding chain
chain_over m distance whole front a h = h ∙ ap (λ xs. Some xs) (append-nil front)
