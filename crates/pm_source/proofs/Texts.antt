-- Laws of the bytes of an operand that is a text or a list of words.
use Rattle.std.proofs.Common.{◌≡◌, ◌<◌, ℕ, ◌+◌, ◌-◌, ◌*◌, Bool, true, false, List, [], ◌∷◌, length, refl, subst, arith, Option, Some, None}
use Rattle.std.specs.Prelude.{reverse, nat_eq, nat_le, ◌&&◌, ◌||◌, ◌==◌, not, if◌then◌else◌}
use Rattle.std.specs.List.{AllByRecursion}
use Rattle.std.proofs.lemmas.Bool.{leb-true}
use Rattle.pm_code.specs.Item.{IsByte}
use Rattle.pm_codefile.specs.Segments.{◌>>=◌}
use Rattle.pm_source.specs.Line.{is_plain, lower_hex, unescaped, unquoted, text_operand, flat_words}
use Rattle.pm_source.proofs.Numerals.{bound, both, some_is}

plain_byte : (c : ℕ) → is_plain c ≡ true → c < 256
plain_byte c e =
    let parts = both (nat_le 32 c && nat_le c 126) (not ((c == 34) || (c == 92))) e in
    let range = both (nat_le 32 c) (nat_le c 126) parts.0 in
    omega (arith, leb-true c 126 range.1)

hex_small : (c v : ℕ) → lower_hex c ≡ Some v → v < 16
hex_small c v e = by (nat_le 48 c) (nat_le c 57) (nat_le 97 c) (nat_le c 102) refl refl refl refl e
  where
    by : (p q r s : Bool) → nat_le 48 c ≡ p → nat_le c 57 ≡ q → nat_le 97 c ≡ r → nat_le c 102 ≡ s
        → (if p && q then Some (c - 48) else if r && s then Some (c - 87) else None) ≡ Some v → v < 16
    by true true r s f g h i e = omega (arith, some_is (c - 48) v e, leb-true c 57 g)
    by true false true true f g h i e = omega (arith, some_is (c - 87) v e, leb-true c 102 i)
    by false q true true f g h i e = omega (arith, some_is (c - 87) v e, leb-true c 102 i)
    by true false true false f g h i e = absurd (cc)
    by true false false s f g h i e = absurd (cc)
    by false q true false f g h i e = absurd (cc)
    by false q false s f g h i e = absurd (cc)

abbrev one_more : ℕ → List ℕ → Option (List ℕ)
one_more c cs = Some (c ∷ cs)

-- If `c` is a byte and the bytes after it are bytes, then all of them are bytes.
more_bytes : (c : ℕ) (rest : Option (List ℕ)) (bytes : List ℕ) → c < 256 → ((bytes : List ℕ) → rest ≡ Some bytes → AllByRecursion IsByte bytes)
    → (rest >>= one_more c) ≡ Some bytes → AllByRecursion IsByte bytes
more_bytes c rest bytes h more e =
    let b = bound rest (one_more c) bytes e in
    subst (AllByRecursion IsByte) (some_is (c ∷ b.value) bytes b.next) (h, more b.value b.first)

plain_bytes : (c : ℕ) (rest : Option (List ℕ)) (bytes : List ℕ) → ((bytes : List ℕ) → rest ≡ Some bytes → AllByRecursion IsByte bytes)
    → (if is_plain c then (rest >>= one_more c) else None) ≡ Some bytes → AllByRecursion IsByte bytes
plain_bytes c rest bytes more e = by (is_plain c) refl e
  where
    by : (b : Bool) → is_plain c ≡ b → (if b then (rest >>= one_more c) else None) ≡ Some bytes → AllByRecursion IsByte bytes
    by true f e = more_bytes c rest bytes (plain_byte c f) more e
    by false f e = absurd (cc)

escaped_bytes : (d e : ℕ) (rest : Option (List ℕ)) (bytes : List ℕ) → ((bytes : List ℕ) → rest ≡ Some bytes → AllByRecursion IsByte bytes)
    → (lower_hex d >>= λ high. lower_hex e >>= λ low. rest >>= one_more (16 * high + low)) ≡ Some bytes → AllByRecursion IsByte bytes
escaped_bytes d e rest bytes more f =
    let a = bound (lower_hex d) (λ high. lower_hex e >>= λ low. rest >>= one_more (16 * high + low)) bytes f in
    let b = bound (lower_hex e) (λ low. rest >>= one_more (16 * a.value + low)) bytes a.next in
    let high : a.value < 16 = hex_small d a.value a.first in
    let low : b.value < 16 = hex_small e b.value b.first in
    more_bytes (16 * a.value + b.value) rest bytes (omega (arith, high, low)) more b.next

unescaped_bytes : (cs bytes : List ℕ) → unescaped cs ≡ Some bytes → AllByRecursion IsByte bytes
unescaped_bytes [] bytes e = subst (AllByRecursion IsByte) (some_is [] bytes e) tt
unescaped_bytes (c ∷ []) bytes e = by (is_plain c) refl e
  where
    by : (b : Bool) → is_plain c ≡ b → (if b then Some (c ∷ []) else None) ≡ Some bytes → AllByRecursion IsByte bytes
    by true f e = subst (AllByRecursion IsByte) (some_is (c ∷ []) bytes e) (plain_byte c f, tt)
    by false f e = absurd (cc)
unescaped_bytes (c ∷ d ∷ []) bytes e = plain_bytes c (unescaped (d ∷ [])) bytes (λ cs f. unescaped_bytes (d ∷ []) cs f) e
unescaped_bytes (c ∷ d ∷ x ∷ rest) bytes e = by (nat_eq c 92) (λ cs f. unescaped_bytes rest cs f) (λ cs f. unescaped_bytes (d ∷ x ∷ rest) cs f) e
  where
    by : (b : Bool) → ((cs : List ℕ) → unescaped rest ≡ Some cs → AllByRecursion IsByte cs)
        → ((cs : List ℕ) → unescaped (d ∷ x ∷ rest) ≡ Some cs → AllByRecursion IsByte cs)
        → (if b then (lower_hex d >>= λ high. lower_hex x >>= λ low. unescaped rest >>= one_more (16 * high + low)) else if is_plain c then
        (unescaped (d ∷ x ∷ rest) >>= one_more c) else None) ≡ Some bytes
        → AllByRecursion IsByte bytes
    by true first second e = escaped_bytes d x (unescaped rest) bytes first e
    by false first second e = plain_bytes c (unescaped (d ∷ x ∷ rest)) bytes second e

unquoted_bytes : (c : ℕ) (cs bytes : List ℕ) → unquoted c cs ≡ Some bytes → AllByRecursion IsByte bytes
unquoted_bytes c [] bytes e = absurd (cc)
unquoted_bytes c (d ∷ inner) bytes e = by ((c == 34) && (d == 34)) e
  where
    by : (b : Bool) → (if b then unescaped (reverse inner) else None) ≡ Some bytes → AllByRecursion IsByte bytes
    by true e = unescaped_bytes (reverse inner) bytes e
    by false e = absurd (cc)

pub text_bytes : (text bytes : List ℕ) → text_operand text ≡ Some bytes → AllByRecursion IsByte bytes
text_bytes [] bytes e = absurd (cc)
text_bytes (c ∷ cs) bytes e = unquoted_bytes c (reverse cs) bytes e

pub words_bytes : (ws : List ℕ) → AllByRecursion (λ w. w < 65536) ws → AllByRecursion IsByte (flat_words ws)
words_bytes [] h = tt
words_bytes (w ∷ ws) h =
    let word : w < 65536 = h.0 in
    (omega (arith, word), (omega (arith, word), words_bytes ws h.1))

pub words_length : (ws : List ℕ) → length (flat_words ws) ≡ 2 * length ws
words_length [] = refl
words_length (w ∷ ws) = omega (arith, words_length ws)
