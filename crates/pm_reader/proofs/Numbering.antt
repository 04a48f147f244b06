-- Laws of the numbered lines of a text, read one line after the other.
use Rattle.std.proofs.Common.{◌≡◌, ℕ, zero, suc, ◌+◌, ◌<◌, ◌≤◌, Bool, true, false, List, [], ◌∷◌, ◌++◌, ◌∙◌}
use Rattle.std.proofs.Common.{length, drop, take, get_or, ap, sym, refl, subst, arith}
use Rattle.std.specs.Prelude.{nat_lt, if◌then◌else◌}
use Rattle.std.specs.List.{list_any}
use Rattle.std.proofs.lemmas.List.{at_drop_more, at_drop_all, length-take}
use Rattle.pm_source.specs.Line.{Line, line_of}
use Rattle.pm_source.specs.Faults.{ends, lines_from}
use Rattle.pm_reader.proofs.Ends.{IsUntil, until_here, until_before}

-- The lines after the first `n` lines, the first of which has the number `n + 1`.
abbrev pub seen_from : ℕ → List (List ℕ) → List Line
seen_from n texts = lines_from (n + 1) (drop n texts)

pub front : (texts : List (List ℕ)) (n : ℕ) (text : List ℕ) → (n < length texts) × (text ≡ get_or texts n text)
    → seen_from n texts ≡ line_of (n + 1) text ∷ seen_from (n + 1) texts
front texts n text turn =
    at_drop_more (lines_from (n + 1)) texts n text turn.0 ∙ ap (λ t. line_of (n + 1) t ∷ seen_from (n + 1) texts) (sym turn.1)

pub none_left : (texts : List (List ℕ)) (n : ℕ) → length texts ≤ n → seen_from n texts ≡ []
none_left texts n h = at_drop_all (lines_from (n + 1)) texts n h

drop_from : (k n : ℕ) (texts : List (List ℕ)) → drop n (lines_from k texts) ≡ lines_from (n + k) (drop n texts)
drop_from k zero texts = ap (λ m. lines_from m texts) (omega arith)
drop_from k (suc n) [] = refl
drop_from k (suc n) (text ∷ texts) =
    drop_from (k + 1) n texts ∙ ap (λ m. lines_from m (drop n texts)) (omega arith)

-- One of the lines after the first `n` lines ends a procedure if and only if `n` is less than `until`.
pub later : (texts : List (List ℕ)) (n until : ℕ) → IsUntil (lines_from 1 texts) until → nat_lt n until ≡ list_any ends (seen_from n texts)
later texts n until last = sym (last n) ∙ ap (list_any ends) (drop_from 1 n texts)

length_from : (k : ℕ) (texts : List (List ℕ)) → length (lines_from k texts) ≡ length texts
length_from k [] = refl
length_from k (text ∷ texts) = ap suc (length_from (k + 1) texts)

take_from : (k n : ℕ) (texts : List (List ℕ)) (text : List ℕ) → (n < length texts) × (text ≡ get_or texts n text)
    → lines_from k (take (suc n) texts) ≡ lines_from k (take n texts) ++ line_of (n + k) text ∷ []
take_from k n [] text turn = absurd (omega (arith, turn.0))
take_from k zero (t ∷ texts) text turn =
    ap (λ x. line_of k x ∷ []) (sym turn.1) ∙ ap (λ m. line_of m text ∷ []) (omega arith)
take_from k (suc n) (t ∷ texts) text turn =
    ap (λ ls. line_of k t ∷ ls) (take_from (k + 1) n texts text (omega (arith, turn.0), turn.1)
    ∙ ap (λ m. lines_from (k + 1) (take n texts) ++ line_of m text ∷ []) (omega arith))

-- If `until` is correct for the first `n` lines, and is set to `n + 1` if line `n + 1` ends a procedure, then it is
-- correct for the first `n + 1` lines.
pub until_more : (texts : List (List ℕ)) (n : ℕ) (text : List ℕ) (until : ℕ) (b : Bool) → (n < length texts) × (text ≡ get_or texts n text)
    → ends (line_of (n + 1) text) ≡ b → until ≤ n → IsUntil (lines_from 1 (take n texts)) until
    → IsUntil (lines_from 1 (take (n + 1) texts)) (if b then n + 1 else until)
until_more texts n text until b turn e few last =
    let lines = lines_from 1 (take n texts) in
    let next : n + 1 ≡ suc n = omega arith in
    let long : length lines ≡ n = length_from 1 (take n texts) ∙ omega (arith, length-take n texts, turn.0) in
    subst (λ ls. IsUntil ls (if b then n + 1 else until))
    (sym (ap (λ m. lines_from 1 (take m texts)) next ∙ take_from 1 n texts text turn)) (by b e lines long last)
  where
    by : (b : Bool) → ends (line_of (n + 1) text) ≡ b → (lines : List Line) → length lines ≡ n → IsUntil lines until
        → IsUntil (lines ++ line_of (n + 1) text ∷ []) (if b then n + 1 else until)
    by true e lines long last = subst (λ m. IsUntil (lines ++ line_of (n + 1) text ∷ []) (m + 1)) long (until_here lines (line_of (n + 1) text) e)
    by false e lines long last = until_before lines (line_of (n + 1) text) until e (omega (arith, long, few)) last
