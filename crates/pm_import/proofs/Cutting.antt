-- Bytes that are cut at the first byte of a kind.
use Rattle.std.proofs.Common.{◌≡◌, ◌<◌, ◌≤◌, ◌+◌, ◌++◌, ◌∙◌, ℕ, zero, suc, Bool, true, false, List, [], ◌∷◌, Option, None, Some, length, take, drop, get_or, refl, ap, arith, sym, append-nil, append_assoc, add-one}
use Rattle.std.specs.Prelude.{◌==◌, if◌then◌else◌}
use Rattle.std.specs.List.{slice_split, onto_first}
use Rattle.std.proofs.Math.Seq.{drop-cons}
use Rattle.std.proofs.lemmas.Bool.Decides.{nat_tests}
use Rattle.std.specs.Str.{IsUtf8, is_utf8}
use Rattle.std.proofs.lemmas.Bool.{false_from_ne_true}
use Rattle.std.proofs.lemmas.Str.{IsUtf8-from_is_utf8, is_utf8-from_IsUtf8}
use Rattle.pm_import.specs.Listed.{cut, lines_of, prefixed, utf8_of}

-- Bytes in front of the first of two pieces.
abbrev pub with_front : List ℕ → Option (List ℕ × List ℕ) → Option (List ℕ × List ℕ)
with_front front None = None
with_front front (Some pieces) = Some (front ++ pieces.0, pieces.1)

pub front_none : (pieces : Option (List ℕ × List ℕ)) → pieces ≡ with_front [] pieces
front_none None = refl
front_none (Some pieces) = refl

front_more : (front : List ℕ) (b : ℕ) (pieces : Option (List ℕ × List ℕ))
    → with_front front (prefixed b pieces) ≡ with_front (front ++ b ∷ []) pieces
front_more front b None = refl
front_more front b (Some pieces) = ap (λ f. Some (f, pieces.1)) (sym (append_assoc front (b ∷ []) pieces.0))

take_more : (bytes : List ℕ) (at : ℕ) → at < length bytes → take (at + 1) bytes ≡ take at bytes ++ get_or bytes at 0 ∷ []
take_more [] at h = absurd (omega arith)
take_more (b ∷ bytes) zero h = refl
take_more (b ∷ bytes) (suc at) h =
    let more : take (suc at) bytes ≡ take at bytes ++ get_or bytes at 0 ∷ [] = rw (sym (add-one at)) (take_more bytes at (omega arith)) in
    rw (add-one (suc at)) (ap (λ t. b ∷ t) more)

-- The first byte of the rest is `mark`.
pub cut_here : (mark : ℕ) (bytes : List ℕ) (at : ℕ) → at < length bytes → get_or bytes at 0 ≡ mark
    → cut mark bytes ≡ with_front (take at bytes) (cut mark (drop at bytes))
    → cut mark bytes ≡ Some (take at bytes, drop (at + 1) bytes)
cut_here mark bytes at h is i =
    let same : (get_or bytes at 0 == mark) ≡ true = grind (arith, nat_tests) in
    i ∙ rw (add-one, drop-cons bytes at 0 h, same, append-nil) refl

-- The first byte of the rest is another one.
pub cut_later : (mark : ℕ) (bytes : List ℕ) (at : ℕ) → at < length bytes → (get_or bytes at 0 == mark) ≡ false
    → cut mark bytes ≡ with_front (take at bytes) (cut mark (drop at bytes))
    → cut mark bytes ≡ with_front (take (at + 1) bytes) (cut mark (drop (at + 1) bytes))
cut_later mark bytes at h other i =
    i ∙ rw (take_more bytes at h, add-one, drop-cons bytes at 0 h, other) (front_more (take at bytes) (get_or bytes at 0) (cut mark (drop (suc at) bytes)))

drop_all : (bytes : List ℕ) (at : ℕ) → length bytes ≤ at → drop at bytes ≡ []
drop_all [] zero h = refl
drop_all [] (suc at) h = refl
drop_all (b ∷ bytes) zero h = absurd (omega arith)
drop_all (b ∷ bytes) (suc at) h = drop_all bytes at (omega arith)

pub cut_none : (mark : ℕ) (bytes : List ℕ) (at : ℕ) → length bytes ≤ at
    → cut mark bytes ≡ with_front (take at bytes) (cut mark (drop at bytes)) → cut mark bytes ≡ None
cut_none mark bytes at h i = i ∙ rw (drop_all bytes at h) refl

-- The first piece is the first line, and the second piece has the other lines.
pub lines_cut : (text : List ℕ) (pieces : List ℕ × List ℕ) → cut 10 text ≡ Some pieces → lines_of text ≡ pieces.0 ∷ lines_of pieces.1
lines_cut [] pieces e = absurd (cc)
lines_cut (b ∷ text) pieces e = go (b == 10) (cut 10 text) refl e (lines_cut text)
  where
    go : (here : Bool) (rest : Option (List ℕ × List ℕ)) → (b == 10) ≡ here
        → (if here then Some ([], text) else prefixed b rest) ≡ Some pieces
        → ((p : List ℕ × List ℕ) → rest ≡ Some p → lines_of text ≡ p.0 ∷ lines_of p.1)
        → lines_of (b ∷ text) ≡ pieces.0 ∷ lines_of pieces.1
    go true rest is e more = let same : ([], text) ≡ pieces = cc in rw (is, sym same) refl
    go false None is e more = absurd (cc)
    go false (Some p) is e more = let same : (b ∷ p.0, p.1) ≡ pieces = cc in rw (is, more p refl, sym same) refl

-- Without a line feed, the text is one line.
pub lines_uncut : (text : List ℕ) → cut 10 text ≡ None → lines_of text ≡ text ∷ []
lines_uncut [] e = refl
lines_uncut (b ∷ text) e = go (b == 10) (cut 10 text) refl e (lines_uncut text)
  where
    go : (here : Bool) (rest : Option (List ℕ × List ℕ)) → (b == 10) ≡ here
        → (if here then Some ([], text) else prefixed b rest) ≡ None → (rest ≡ None → lines_of text ≡ text ∷ [])
        → lines_of (b ∷ text) ≡ (b ∷ text) ∷ []
    go true rest is e more = absurd (cc)
    go false None is e more = rw (is, more refl) refl
    go false (Some p) is e more = absurd (cc)

-- The second piece is shorter than the text.
pub cut_shorter : (text : List ℕ) (mark : ℕ) (pieces : List ℕ × List ℕ) → cut mark text ≡ Some pieces → length pieces.1 < length text
cut_shorter [] mark pieces e = absurd (cc)
cut_shorter (b ∷ text) mark pieces e = go (b == mark) (cut mark text) e (cut_shorter text mark)
  where
    go : (here : Bool) (rest : Option (List ℕ × List ℕ))
        → (if here then Some ([], text) else prefixed b rest) ≡ Some pieces
        → ((p : List ℕ × List ℕ) → rest ≡ Some p → length p.1 < length text) → length pieces.1 < length (b ∷ text)
    go true rest e more = let same : ([], text) ≡ pieces = cc in rw (sym same) (omega arith)
    go false None e more = absurd (cc)
    go false (Some p) e more = let less = more p refl in
        let same : (b ∷ p.0, p.1) ≡ pieces = cc in rw (sym same) (omega (arith, less))

-- Bytes that are UTF-8 are a text.
pub utf8_yes : (bytes : List ℕ) → IsUtf8 bytes → utf8_of bytes ≡ Some bytes
utf8_yes bytes valid = rw (is_utf8-from_IsUtf8 bytes valid) refl

-- Other bytes are no text.
pub utf8_no : (bytes : List ℕ) → ¬ IsUtf8 bytes → utf8_of bytes ≡ None
utf8_no bytes not = rw (false_from_ne_true (is_utf8 bytes) (λ yes. not (IsUtf8-from_is_utf8 bytes yes))) refl

-- One more line.
pub more_lines : (lines : List (List ℕ)) (rest more text : List ℕ) (first : List ℕ) → cut 10 rest ≡ Some (first, more)
    → lines ++ lines_of rest ≡ lines_of text → (lines ++ first ∷ []) ++ lines_of more ≡ lines_of text
more_lines lines rest more text first e i =
    append_assoc lines (first ∷ []) (lines_of more) ∙ ap (λ l. lines ++ l) (sym (lines_cut rest (first, more) e)) ∙ i

-- The last line.
pub last_line : (lines : List (List ℕ)) (rest text : List ℕ) → cut 10 rest ≡ None
    → lines ++ lines_of rest ≡ lines_of text → lines ++ rest ∷ [] ≡ lines_of text
last_line lines rest text e i = ap (λ l. lines ++ l) (sym (lines_uncut rest e)) ∙ i
