-- Laws of words, which spaces and tabs separate.
use Rattle.std.proofs.Common.{◌≡◌, ◌<◌, ◌≤◌, ℕ, Bool, true, false, not, List, [], ◌∷◌, length, refl, ap, sym, ◌∙◌, arith, if◌then◌else◌}
use Rattle.std.specs.List.{onto_first}
use Rattle.pm_source.specs.Words.{cut_word, ends_word, is_blank, onto_word, unindented, words}
use Rattle.pm_line.specs.Views.{begins_solid}

pub unindented_twice : (cs : List ℕ) → unindented (unindented cs) ≡ unindented cs
unindented_twice [] = refl
unindented_twice (c ∷ cs) = go (is_blank c) refl (unindented_twice cs)
  where
    go : (b : Bool) → is_blank c ≡ b → unindented (unindented cs) ≡ unindented cs → unindented (unindented (c ∷ cs)) ≡ unindented (c ∷ cs)
    go true e more = rw e more
    go false e more = rw e (rw e refl)

-- If leading spaces and tabs are removed, the words of a text do not change.
pub words_unindented : (cs : List ℕ) → words (unindented cs) ≡ words cs
words_unindented [] = refl
words_unindented (c ∷ cs) = go (is_blank c) refl (words_unindented cs)
  where
    go : (b : Bool) → is_blank c ≡ b → words (unindented cs) ≡ words cs → words (unindented (c ∷ cs)) ≡ words (c ∷ cs)
    go true e more = rw e more
    go false e more = ap (λ b. words (if b then unindented cs else c ∷ cs)) e

words_after_blank : (d : ℕ) (ds : List ℕ) → is_blank d ≡ true → words (d ∷ ds) ≡ words ds
words_after_blank d ds e = rw e refl

-- If a text begins with the character `c` of a word, then its words are its first word and the words of the rest.
pub words_first : (c : ℕ) (cs : List ℕ) → is_blank c ≡ false → words (c ∷ cs) ≡ (cut_word (c ∷ cs)).word ∷ words (cut_word (c ∷ cs)).rest
words_first c [] e = rw e refl
words_first c (d ∷ ds) e = go (is_blank d) refl (words_first d ds)
  where
    go : (b : Bool) → is_blank d ≡ b → (is_blank d ≡ false → words (d ∷ ds) ≡ (cut_word (d ∷ ds)).word ∷ words (cut_word (d ∷ ds)).rest)
        → words (c ∷ d ∷ ds) ≡ (cut_word (c ∷ d ∷ ds)).word ∷ words (cut_word (c ∷ d ∷ ds)).rest
    go true f more = rw (e, f) (ap (λ ws. (c ∷ []) ∷ ws) (sym (words_after_blank d ds f)))
    go false f more =
        let whole : words (c ∷ d ∷ ds) ≡ onto_first c (words (d ∷ ds)) =
        ap (λ b. if b then words (d ∷ ds) else if ends_word (d ∷ ds) then (c ∷ []) ∷ words (d ∷ ds) else onto_first c (words (d ∷ ds))) e
        ∙ ap (λ b. if b then (c ∷ []) ∷ words (d ∷ ds) else onto_first c (words (d ∷ ds))) f in
        let k : cut_word (c ∷ d ∷ ds) ≡ onto_word c (cut_word (d ∷ ds)) =
        ap (λ b. if b then record { word = []; rest = c ∷ d ∷ ds } else onto_word c (cut_word (d ∷ ds))) e in
        whole ∙ ap (onto_first c) (more f) ∙ sym (ap (λ k. k.word ∷ words k.rest) k)

pub cut_shorter : (cs : List ℕ) → length (cut_word cs).rest ≤ length cs
cut_shorter [] = omega (arith)
cut_shorter (c ∷ cs) = go (is_blank c) refl (cut_shorter cs)
  where
    go : (b : Bool) → is_blank c ≡ b → length (cut_word cs).rest ≤ length cs → length (cut_word (c ∷ cs)).rest ≤ length (c ∷ cs)
    go true e more = rw e (omega (arith))
    go false e more = rw e (omega (arith, more))

pub unindented_shorter : (cs : List ℕ) → length (unindented cs) ≤ length cs
unindented_shorter [] = omega (arith)
unindented_shorter (c ∷ cs) = go (is_blank c) refl (unindented_shorter cs)
  where
    go : (b : Bool) → is_blank c ≡ b → length (unindented cs) ≤ length cs → length (unindented (c ∷ cs)) ≤ length (c ∷ cs)
    go true e more = rw e (omega (arith, more))
    go false e more = rw e (omega (arith))

solid_is_no_blank : (b : Bool) → not b ≡ true → b ≡ false
solid_is_no_blank true h = absurd (cc)
solid_is_no_blank false h = refl

not_shorter : (xs ys : List ℕ) → xs ≡ ys → length xs < length ys → ⊥
not_shorter xs ys e h = omega (arith, ap length e, h)

-- If a text begins with a word, then its words are this word and the words of the rest without leading spaces.
pub words_at_once : (cs : List ℕ) → begins_solid cs ≡ true → words cs ≡ (cut_word cs).word ∷ words (unindented (cut_word cs).rest)
words_at_once [] h = absurd (cc)
words_at_once (c ∷ cs) h =
    words_first c cs (solid_is_no_blank (is_blank c) h) ∙ ap (λ ws. (cut_word (c ∷ cs)).word ∷ ws) (sym (words_unindented (cut_word (c ∷ cs)).rest))

pub shorter_behind : (cs : List ℕ) → begins_solid cs ≡ true → length (unindented (cut_word cs).rest) < length cs
shorter_behind [] h = absurd (cc)
shorter_behind (c ∷ cs) h =
    let solid : is_blank c ≡ false = solid_is_no_blank (is_blank c) h in
    rw solid (omega (arith, unindented_shorter (cut_word cs).rest, cut_shorter cs))

-- If a text is not empty and has no leading spaces and tabs, then it begins with a word.
pub solid_if_left : (cs : List ℕ) → unindented cs ≡ cs → 0 < length cs → begins_solid cs ≡ true
solid_if_left [] e some = absurd (omega (arith, some))
solid_if_left (c ∷ cs) e some = go (is_blank c) refl
  where
    go : (b : Bool) → is_blank c ≡ b → begins_solid (c ∷ cs) ≡ true
    go true f = absurd (not_shorter (unindented cs) (c ∷ cs) (sym (ap (λ b. if b then unindented cs else c ∷ cs) f) ∙ e) (omega (arith, unindented_shorter cs)))
    go false f = rw f refl
