-- Laws of names and spaces, processed byte by byte.
use Rattle.std.proofs.Common.{◌≡◌, ◌<◌, ◌≤◌, ℕ, zero, suc, ◌+◌, ◌-◌, List, [], ◌∷◌, ◌++◌, length, drop, get_or, replicate, map, refl, ap, arith, append_assoc}
use Rattle.std.proofs.Common.{add-one}
use Rattle.std.proofs.Math.Seq.{drop-cons}
use Rattle.std.specs.Prelude.{Bool, true, false, nat_le, ◌&&◌, if◌then◌else◌}
use Rattle.std.proofs.lemmas.Str.{encode_ascii}
use Rattle.std.proofs.lemmas.Bool.Decides.{nat_tests}
use Rattle.std.proofs.Math.Utf8.{encode}
use Rattle.pm_filer.specs.Listing.{shown_byte, printable_name, spaces}

-- If one more byte of the name is appended, the complete text is the same.
pub name-more : (text name : List ℕ) (i : ℕ) → i < length name
    → (text ++ shown_byte (get_or name i 0) ∷ []) ++ printable_name (drop (i + 1) name) ≡ text ++ printable_name (drop i name)
unfolding printable_name
name-more text name i h = rw (add-one, drop-cons name i 0 h) (append_assoc text (shown_byte (get_or name i 0) ∷ []) (map shown_byte (drop (suc i) name)))

pub name-done : (name : List ℕ) (i : ℕ) → length name ≤ i → printable_name (drop i name) ≡ []
unfolding printable_name
name-done [] zero h = refl
name-done [] (suc i) h = refl
name-done (c ∷ name) zero h = absurd (omega arith)
name-done (c ∷ name) (suc i) h = name-done name i (omega arith)

-- If one more space is appended, the complete text is the same.
pub spaces-more : (text : List ℕ) (n i : ℕ) → i < n → (text ++ 32 ∷ []) ++ spaces (n - (i + 1)) ≡ text ++ spaces (n - i)
unfolding spaces
spaces-more text n i h =
    let e : n - i ≡ suc (n - (i + 1)) = omega arith in
    rw e (append_assoc text (32 ∷ []) (replicate (n - (i + 1)) 32))

pub spaces-done : (n i : ℕ) → n ≤ i → spaces (n - i) ≡ []
unfolding spaces
spaces-done n i h = let e : n - i ≡ 0 = omega arith in rw e refl

-- A printed byte of a name is one byte in UTF-8.
pub shown_ascii : (c : ℕ) → encode (shown_byte c) ≡ shown_byte c ∷ []
shown_ascii c = encode_ascii (shown_byte c) (below (nat_le 32 c && nat_le c 126) refl)
  where
    below : (b : Bool) → (nat_le 32 c && nat_le c 126) ≡ b → (if b then c else 63) < 128
    below true e = grind (arith, nat_tests)
    below false e = omega arith

pub shown_length : (name : List ℕ) → length (printable_name name) ≡ length name
unfolding printable_name
shown_length [] = refl
shown_length (c ∷ name) = ap suc (shown_length name)
