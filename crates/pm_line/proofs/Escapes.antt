-- Laws of the characters between quotes, one character after the other.
use Rattle.std.proofs.Common.{◌≡◌, ◌<◌, ◌≤◌, ◌-◌, ◌+◌, ℕ, true, false, List, [], ◌∷◌, ◌++◌, length, take, drop}
use Rattle.std.proofs.Common.{reverse, get_or, suc, slice_index_or, refl, ap, sym, ◌∙◌, Option, Some, None, arith}
use Rattle.std.specs.Prelude.{◌==◌}
use Rattle.std.proofs.lemmas.Bool.Decides.{nat_tests}
use Rattle.std.proofs.lemmas.List.{append_assoc, reverse-append, reverse-reverse, take_all, take_more}
use Rattle.pm_codefile.specs.Segments.{◌>>=◌}
use Rattle.pm_source.specs.Line.{is_plain, text_operand, unescaped, unquoted}
use Rattle.pm_line.specs.Views.{onto_bytes}

plain_is_no_escape : (c : ℕ) → is_plain c ≡ true → (c == 92) ≡ false
plain_is_no_escape c h = grind (arith, nat_tests)

escape_is_not_plain : (c : ℕ) → c ≡ 92 → is_plain c ≡ false
escape_is_not_plain c h = rw h refl

bound_is_onto : (c : ℕ) (more : Option (List ℕ)) → (more >>= λ cs. Some (c ∷ cs)) ≡ onto_bytes (c ∷ []) more
bound_is_onto c None = refl
bound_is_onto c (Some cs) = refl

-- If the first character represents itself, then its byte is put before the bytes of the rest.
pub plain_first : (c : ℕ) (cs : List ℕ) → is_plain c ≡ true → unescaped (c ∷ cs) ≡ onto_bytes (c ∷ []) (unescaped cs)
plain_first c [] h = rw h refl
plain_first c (d ∷ []) h = rw h (bound_is_onto c (unescaped (d ∷ [])))
plain_first c (d ∷ e ∷ rest) h = let n : (c == 92) ≡ false = plain_is_no_escape c h in rw (h, n) (bound_is_onto c (unescaped (d ∷ e ∷ rest)))

-- If the first character of a slice represents itself, then its byte is put before the bytes of the rest of the slice.
pub plain_slice : (text : List ℕ) → 0 < length text → is_plain (slice_index_or text 0 0) ≡ true
    → unescaped text ≡ onto_bytes (slice_index_or text 0 0 ∷ []) (unescaped (take (length text - 1) (drop 1 text)))
plain_slice [] some h = absurd (omega (arith, some))
plain_slice (c ∷ cs) some h = plain_first c cs h ∙ ap (λ rest. onto_bytes (c ∷ []) (unescaped rest)) (sym (take_all (length (c ∷ cs) - 1) cs (omega (arith))))

-- Putting `bs` followed by `cs` before bytes has the same result as putting `cs` and then `bs` before them.
pub onto_both : (bs cs : List ℕ) (more : Option (List ℕ)) → onto_bytes (bs ++ cs) more ≡ onto_bytes bs (onto_bytes cs more)
onto_both bs cs None = refl
onto_both bs cs (Some ds) = ap Some (append_assoc bs cs ds)

-- A list that is not empty consists of its items before the last one, and the last one.
by_last : (cs : List ℕ) → 1 ≤ length cs → cs ≡ take (length cs - 1) cs ++ (get_or cs (length cs - 1) 0 ∷ [])
by_last cs some =
    let i = length cs - 1 in
    sym (take_all (i + 1) cs (omega (arith, some))) ∙ take_more cs i 0 (omega (arith, some))

unquoted_both : (c d : ℕ) (inner : List ℕ) → c ≡ 34 → d ≡ 34 → unquoted c (d ∷ reverse inner) ≡ unescaped inner
unquoted_both c d inner first last = rw (first, last) (ap unescaped (reverse-reverse inner))

-- If a text begins and ends with a quote, then its bytes are those of the characters between the quotes.
pub quoted_slice : (text : List ℕ) → 2 ≤ length text → slice_index_or text 0 0 ≡ 34 → slice_index_or text (length text - 1) 0 ≡ 34
    → text_operand text ≡ unescaped (take (length text - 1 - 1) (drop 1 text))
quoted_slice [] some first last = absurd (omega (arith, some))
quoted_slice (c ∷ cs) some first last =
    let one : 1 ≤ length cs = omega (arith, some) in
    let inner = take (length cs - 1) cs in
    let back : reverse cs ≡ get_or cs (length cs - 1) 0 ∷ reverse inner =
    ap reverse (by_last cs one) ∙ reverse-append inner (get_or cs (length cs - 1) 0 ∷ []) in
    let step : length (c ∷ cs) - 1 ≡ suc (length cs - 1) = omega (arith, one) in
    let end : get_or cs (length cs - 1) 0 ≡ 34 = sym (ap (λ i. slice_index_or (c ∷ cs) i 0) step) ∙ last in
    let size : length cs - 1 ≡ length (c ∷ cs) - 1 - 1 = omega (arith) in
    ap (unquoted c) back ∙ unquoted_both c _ inner first end ∙ ap (λ n. unescaped (take n cs)) size
