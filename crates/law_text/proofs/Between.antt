-- Lemmas: spaces and tabs between operands and between words of a line have no meaning.
use Rattle.std.proofs.Common.{◌≡◌, ℕ, Bool, true, false, List, [], ◌∷◌, ◌++◌, map, refl, sym, ap, ◌∙◌, arith, append_assoc}
use Rattle.std.specs.Prelude.{not, ◌==◌, ◌&&◌, if◌then◌else◌}
use Rattle.std.specs.List.{onto_first}
use Rattle.std.proofs.lemmas.List.{map-append}
use Rattle.std.proofs.lemmas.Bool.Decides.{nat_tests}
use Rattle.pm_source.specs.Words.{is_blank, is_empty, trimmed, unindented, words}
use Rattle.pm_source.specs.Line.{operands, pieces}
use Rattle.law_text.specs.Same.{BlanksSayNothing, is_open}
use Rattle.law_text.proofs.EndBlanks.{items_alike, no_comma, operands_end, pieces_end, said_alike, some_piece, trimmed_last}

no_quote : (c : ℕ) → is_blank c ≡ true → (c == 34) ≡ false
no_quote c h = grind (arith, nat_tests)

-- A space or tab before the first piece is removed.
trimmed_first : (c : ℕ) (ps : List (List ℕ)) → is_blank c ≡ true → is_empty ps ≡ false → map trimmed (onto_first c ps) ≡ map trimmed ps
trimmed_first c [] h e = absurd (cc)
trimmed_first c (p ∷ ps) h e = rw h refl

front_trimmed : (c : ℕ) (xs : List ℕ) → is_blank c ≡ true → map trimmed (pieces false (c ∷ xs)) ≡ map trimmed (pieces false xs)
front_trimmed c xs h = ap (map trimmed) front ∙ trimmed_first c (pieces false xs) h (some_piece false xs)
  where
    front : pieces false (c ∷ xs) ≡ onto_first c (pieces false xs)
    front = let comma = no_comma c h in let quote = no_quote c h in rw (comma, quote) refl

before : (c : ℕ) (rest : List ℕ) → is_blank c ≡ true → operands (c ∷ rest) ≡ operands rest
before c rest h =
    let off : unindented (c ∷ rest) ≡ unindented rest = rw h refl in
    ap (λ cs. if is_empty cs then [] else map trimmed (pieces false (c ∷ rest))) off
    ∙ ap (λ ts. if is_empty (unindented rest) then [] else ts) (front_trimmed c rest h)

-- If the first list of pieces is not empty, then a character that is added to the first piece of both lists is added to
-- the first list.
onto_some : (x : ℕ) (ps qs : List (List ℕ)) → is_empty ps ≡ false → onto_first x (ps ++ qs) ≡ onto_first x ps ++ qs
onto_some x [] qs e = absurd (cc)
onto_some x (p ∷ ps) qs e = refl

comma_quote : (x : ℕ) (quoted : Bool) → ((x == 44) && not quoted) ≡ true → (x == 34) ≡ false
comma_quote x quoted h = by (x == 44) refl h
  where
    by : (b : Bool) → (x == 44) ≡ b → (b && not quoted) ≡ true → (x == 34) ≡ false
    by true e k = grind (arith, nat_tests)
    by false e k = absurd (cc)

joined_pieces : (quoted : Bool) (front rest : List ℕ) → is_open quoted front ≡ false
    → pieces quoted (front ++ 44 ∷ rest) ≡ pieces quoted front ++ pieces false rest
joined_pieces true [] rest h = absurd (cc)
joined_pieces false [] rest h = refl
joined_pieces quoted (x ∷ xs) rest h =
    by ((x == 44) && not quoted) refl (λ k. joined_pieces quoted xs rest k) (joined_pieces (if x == 34 then not quoted else quoted) xs rest h)
  where
    by : (b : Bool) → ((x == 44) && not quoted) ≡ b → (is_open quoted xs ≡ false → pieces quoted (xs ++ 44 ∷ rest) ≡ pieces quoted xs ++ pieces false rest)
        → pieces (if x == 34 then not quoted else quoted) (xs ++ 44 ∷ rest) ≡ pieces (if x == 34 then not quoted else quoted) xs ++ pieces false rest
        → (if b then [] ∷ pieces quoted (xs ++ 44 ∷ rest) else onto_first x (pieces (if x == 34 then not quoted else quoted) (xs ++ 44 ∷ rest)))
        ≡ (if b then [] ∷ pieces quoted xs else onto_first x (pieces (if x == 34 then not quoted else quoted) xs)) ++ pieces false rest
    by true e f g =
        let same = comma_quote x quoted e in
        let closed : is_open quoted xs ≡ false = sym (ap (λ b. is_open (if b then not quoted else quoted) xs) same) ∙ h in
        ap (λ ps. [] ∷ ps) (f closed)
    by false e f g =
        ap (onto_first x) g ∙ onto_some x (pieces (if x == 34 then not quoted else quoted) xs) (pieces false rest)
        (some_piece (if x == 34 then not quoted else quoted) xs)

not_empty : (front rest : List ℕ) → is_empty (unindented (front ++ 44 ∷ rest)) ≡ false
not_empty [] rest = refl
not_empty (x ∷ xs) rest = by (is_blank x) (not_empty xs rest)
  where
    by : (b : Bool) → is_empty (unindented (xs ++ 44 ∷ rest)) ≡ false → is_empty (if b then unindented (xs ++ 44 ∷ rest) else x ∷ (xs ++ 44 ∷ rest)) ≡ false
    by true e = e
    by false e = refl

around_comma : (front rest : List ℕ) → is_open false front ≡ false
    → operands (front ++ 44 ∷ rest) ≡ map trimmed (pieces false front) ++ map trimmed (pieces false rest)
around_comma front rest h =
    ap (λ b. if b then [] else map trimmed (pieces false (front ++ 44 ∷ rest))) (not_empty front rest)
    ∙ ap (map trimmed) (joined_pieces false front rest h)
    ∙ map-append trimmed (pieces false front) (pieces false rest)

after_comma : (c : ℕ) (front rest : List ℕ) → is_blank c ≡ true → is_open false front ≡ false
    → operands (front ++ 44 ∷ c ∷ rest) ≡ operands (front ++ 44 ∷ rest)
after_comma c front rest h k =
    around_comma front (c ∷ rest) k ∙ ap (λ ts. map trimmed (pieces false front) ++ ts) (front_trimmed c rest h) ∙ sym (around_comma front rest k)

open_behind : (c : ℕ) (quoted : Bool) (front : List ℕ) → is_blank c ≡ true → is_open quoted (front ++ c ∷ []) ≡ is_open quoted front
open_behind c quoted [] h = let quote = no_quote c h in rw quote refl
open_behind c quoted (x ∷ xs) h = open_behind c (if x == 34 then not quoted else quoted) xs h

before_comma : (c : ℕ) (front rest : List ℕ) → is_blank c ≡ true → is_open false front ≡ false
    → operands (front ++ c ∷ 44 ∷ rest) ≡ operands (front ++ 44 ∷ rest)
before_comma c front rest h k =
    ap operands (sym (append_assoc front (c ∷ []) (44 ∷ rest)))
    ∙ around_comma (front ++ c ∷ []) rest (open_behind c false front h ∙ k)
    ∙ ap (λ ts. ts ++ map trimmed (pieces false rest)) (ap (map trimmed) (pieces_end c false front h) ∙ trimmed_last c (pieces false front) h)
    ∙ sym (around_comma front rest k)

-- A space or tab before another space or tab does not change the words of a text.
twice : (c d : ℕ) (front rest : List ℕ) → is_blank c ≡ true → is_blank d ≡ true → words (front ++ c ∷ d ∷ rest) ≡ words (front ++ d ∷ rest)
twice c d [] rest h k = rw h refl
twice c d (x ∷ []) rest h k =
    ap (λ b. if is_blank x then words (c ∷ d ∷ rest) else if b then (x ∷ []) ∷ words (c ∷ d ∷ rest) else onto_first x (words (c ∷ d ∷ rest))) h
    ∙ ap (λ ws. if is_blank x then ws else (x ∷ []) ∷ ws) (twice c d [] rest h k)
    ∙ sym (ap (λ b. if is_blank x then words (d ∷ rest) else if b then (x ∷ []) ∷ words (d ∷ rest) else onto_first x (words (d ∷ rest))) k)
twice c d (x ∷ y ∷ ys) rest h k = ap (λ ws. if is_blank x then ws else if is_blank y then (x ∷ []) ∷ ws else onto_first x ws) (twice c d (y ∷ ys) rest h k)

pub blanks_say_nothing : BlanksSayNothing
blanks_say_nothing = record {
  before = before;
  behind = λ c rest h. operands_end c rest h;
  after_comma = after_comma;
  before_comma = before_comma;
  twice = twice;
  items = items_alike;
  all = λ n keyword rest other e f. said_alike n keyword rest other (record { operands = e; words = f });
}
