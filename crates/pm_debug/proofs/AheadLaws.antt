-- Lemmas about the addresses of consecutive instructions, one after the other.
use Rattle.std.proofs.Common.{◌≡◌, ◌∙◌, ap, sym, ℕ, suc, true, false, List, [], ◌∷◌, ◌++◌, append_assoc, append-nil, refl}
use Rattle.std.specs.Prelude.{nat_lt}
use Rattle.pm_debug.specs.Ahead.{addresses_from, next_address}

ahead_last : (bytes : List ℕ) (more a : ℕ) → nat_lt (next_address bytes a) 65536 ≡ false → addresses_from bytes (suc more) a ≡ a ∷ []
unfolding addresses_from
ahead_last bytes more a e = rw e refl

ahead_first : (bytes : List ℕ) (more a : ℕ) → nat_lt (next_address bytes a) 65536 ≡ true
    → addresses_from bytes (suc more) a ≡ a ∷ addresses_from bytes more (next_address bytes a)
unfolding addresses_from
ahead_first bytes more a e = rw e refl

module _ (bytes whole front : List ℕ) (n more a : ℕ) (some : n ≡ suc more) (h : whole ≡ front ++ addresses_from bytes n a) where
  going_on : whole ≡ front ++ addresses_from bytes (suc more) a
  going_on = h ∙ ap (λ k. front ++ addresses_from bytes k a) some

  -- If the next address is above 65,535, then `a` is the last address.
  pub ahead_ends : nat_lt (next_address bytes a) 65536 ≡ false → whole ≡ front ++ a ∷ []
  ahead_ends e = going_on ∙ ap (λ rest. front ++ rest) (ahead_last bytes more a e)

  -- If the next address is at most 65,535, then it follows `a`.
  pub ahead_more : nat_lt (next_address bytes a) 65536 ≡ true → whole ≡ (front ++ a ∷ []) ++ addresses_from bytes more (next_address bytes a)
  ahead_more e =
      going_on ∙ ap (λ rest. front ++ rest) (ahead_first bytes more a e)
      ∙ sym (append_assoc front (a ∷ []) (addresses_from bytes more (next_address bytes a)))

-- If no further address is requested, then the list is complete.
pub ahead_over : (bytes whole front : List ℕ) (a : ℕ) → whole ≡ front ++ addresses_from bytes 0 a → whole ≡ front
unfolding addresses_from
ahead_over bytes whole front a h = h ∙ append-nil front
