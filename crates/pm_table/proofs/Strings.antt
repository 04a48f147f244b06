-- Laws of JSON strings.
use Rattle.std.proofs.Common.{◌≡◌, ◌<◌, ◌≤◌, ◌+◌, ◌*◌, ◌/◌, ◌%◌, ◌==◌, ◌&&◌, ◌∙◌, ℕ, All, Bool, true, false, cond, List, [], ◌∷◌, ◌++◌, Option, Some, nat_le, refl, ap, arith, append_assoc}
use Rattle.std.specs.Char.{digit_value}
use Rattle.std.specs.Fmt.{digit_glyph}
use Rattle.std.specs.List.{flat_map}
use Rattle.std.proofs.lemmas.Bool.{eqb-true}
use Rattle.std.proofs.lemmas.Bool.Decides.{nat_tests}
use Rattle.std.proofs.lemmas.List.Elements.{All-head, All-tail}
use Rattle.pm_table.specs.Json.{byte_of}
use Rattle.pm_table.specs.Worked.{Digits, Escaped, Plain, prefixed, string_read}

value_of : (d : ℕ) → d < 16 → digit_value (digit_glyph true d) ≡ d
value_of d small = grind (arith, nat_tests)

escaped : (b : ℕ) (more : List ℕ) → b < 256
    → string_read Plain (92 ∷ 117 ∷ 48 ∷ 48 ∷ digit_glyph true (b / 16) ∷ digit_glyph true (b % 16) ∷ more)
    ≡ prefixed b (string_read Plain more)
escaped b more small =
    let high = value_of (b / 16) (omega arith) in
    let low = value_of (b % 16) (omega arith) in
    let value : 16 * (16 * 0 + digit_value (digit_glyph true (b / 16))) + digit_value (digit_glyph true (b % 16)) ≡ b =
    rw (high, low) (omega arith) in
    ap (λ (c : ℕ). prefixed c (string_read Plain more)) value

one : (b : ℕ) (more : List ℕ) → b < 256 → string_read Plain (byte_of b ++ more) ≡ prefixed b (string_read Plain more)
one b more small = by (b == 34) (b == 92) (nat_le 32 b && nat_le b 126) refl refl
  where
    by : (mark slash plain : Bool) → (b == 34) ≡ mark → (b == 92) ≡ slash
        → string_read Plain (cond mark (92 ∷ 34 ∷ []) (cond slash (92 ∷ 92 ∷ []) (cond plain (b ∷ [])
        (92 ∷ 117 ∷ 48 ∷ 48 ∷ digit_glyph true (b / 16) ∷ digit_glyph true (b % 16) ∷ []))) ++ more)
        ≡ prefixed b (string_read Plain more)
    by true slash plain m s = let is : 34 ≡ b = grind (arith, nat_tests) in ap (λ (c : ℕ). prefixed c (string_read Plain more)) is
    by false true plain m s = let is : 92 ≡ b = grind (arith, nat_tests) in ap (λ (c : ℕ). prefixed c (string_read Plain more)) is
    by false false true m s = rw (m, s) refl
    by false false false m s = escaped b more small

pub back : (name text : List ℕ) → All (λ b. b < 256) name
    → string_read Plain (flat_map byte_of name ++ 34 ∷ text) ≡ Some (name, text)
back [] text small = refl
back (b ∷ name) text small =
    let rest = flat_map byte_of name ++ 34 ∷ text in
    ap (string_read Plain) (append_assoc (byte_of b) (flat_map byte_of name) (34 ∷ text))
    ∙ one b rest (All-head (λ (c : ℕ). c < 256) b name small)
    ∙ ap (prefixed b) (back name text (All-tail (λ (c : ℕ). c < 256) b name small))
