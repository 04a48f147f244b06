-- Lemmas: a space or tab after a line has no meaning.
use Rattle.std.proofs.Common.{◌≡◌, ◌⊎◌, ℕ, Bool, true, false, List, [], ◌∷◌, ◌++◌, map, reverse, refl, ap, ◌∙◌, arith, inl, inr, None, Some, Option}
use Rattle.std.specs.Prelude.{not, ◌==◌, ◌&&◌, if◌then◌else◌}
use Rattle.std.specs.List.{list_all, onto_first}
use Rattle.std.proofs.lemmas.Bool.Decides.{nat_tests}
use Rattle.std.proofs.lemmas.List.{reverse-append}
use Rattle.std.proofs.lemmas.List.Folds.{list_all-append}
use Rattle.std.proofs.Math.Bool.{and-true}
use Rattle.pm_source.specs.Words.{Cut, cut, cut_word, is_blank, is_empty, onto_word, trimmed, unindented, words}
use Rattle.pm_source.specs.Source.{Name}
use Rattle.pm_source.specs.Line.{Keyword, is_character, items_said, keyword_of, label_of, labelled, labelled_by}
use Rattle.pm_source.specs.Line.{line_by, line_of, line_of_words, operands, pieces, said, spoken, uncommented}
use Rattle.pm_source.specs.Line.Keyword.{OfSegment, OfProcedure, OfExit, OfJump, OfEnd, OfBytes, Mnemonic}
use Rattle.pm_source.specs.Line.Line.{Blank}
use Rattle.law_text.specs.Same.{EndBlankSaysNothing}

-- `xs` is `ys`, or `ys` followed by the character `c`.
abbrev Ends : ℕ → List ℕ → List ℕ → Type 0
Ends c xs ys = (xs ≡ ys) ⊎ (xs ≡ ys ++ c ∷ [])

under : (c : ℕ) (f : List ℕ → List ℕ) (xs ys : List ℕ) → (f (ys ++ c ∷ []) ≡ f ys ++ c ∷ []) → Ends c xs ys → Ends c (f xs) (f ys)
under c f xs ys k (inl e) = inl (ap f e)
under c f xs ys k (inr e) = inr (ap f e ∙ k)

-- A text is read in the same way with and without the character.
same_end : {A : Type 0} (c : ℕ) (f : List ℕ → A) (xs ys : List ℕ) → f (ys ++ c ∷ []) ≡ f ys → Ends c xs ys → f xs ≡ f ys
same_end c f xs ys k (inl e) = ap f e
same_end c f xs ys k (inr e) = ap f e ∙ k

no_comment : (c : ℕ) → is_blank c ≡ true → (c == 59) ≡ false
no_comment c h = grind (arith, nat_tests)

pub no_comma : (c : ℕ) → is_blank c ≡ true → (c == 44) ≡ false
no_comma c h = grind (arith, nat_tests)

a_character : (c : ℕ) → is_blank c ≡ true → is_character c ≡ true
a_character c h = grind (arith, nat_tests)

-- If a space or tab ends a line, then it ends the line without its comment, or it is removed with the comment.
uncommented_end : (c : ℕ) (quoted : Bool) (line : List ℕ) → is_blank c ≡ true → Ends c (uncommented quoted (line ++ c ∷ [])) (uncommented quoted line)
uncommented_end c quoted [] h = let no = no_comment c h in inr (rw no refl)
uncommented_end c quoted (x ∷ xs) h = by ((x == 59) && not quoted) (uncommented_end c (if x == 34 then not quoted else quoted) xs h)
  where
    by : (b : Bool) → Ends c (uncommented (if x == 34 then not quoted else quoted) (xs ++ c ∷ [])) (uncommented (if x == 34 then not quoted else quoted) xs)
        → Ends c (if b then [] else x ∷ uncommented (if x == 34 then not quoted else quoted) (xs ++ c ∷ []))
        (if b then [] else x ∷ uncommented (if x == 34 then not quoted else quoted) xs)
    by true more = inl refl
    by false more = under c (λ cs. x ∷ cs) _ _ refl more

unindented_end : (c : ℕ) (xs : List ℕ) → is_blank c ≡ true → Ends c (unindented (xs ++ c ∷ [])) (unindented xs)
unindented_end c [] h = inl (rw h refl)
unindented_end c (x ∷ xs) h = by (is_blank x) (unindented_end c xs h)
  where
    by : (b : Bool) → Ends c (unindented (xs ++ c ∷ [])) (unindented xs)
        → Ends c (if b then unindented (xs ++ c ∷ []) else x ∷ (xs ++ c ∷ [])) (if b then unindented xs else x ∷ xs)
    by true more = more
    by false more = inr refl

-- The first words of `a` and `b` are the same. The rest of `a` is the rest of `b`, or this rest followed by `c`.
record Cuts (c : ℕ) (a b : Cut) : Type 0 where
  word : a.word ≡ b.word
  rest : Ends c a.rest b.rest

word_cuts : (c : ℕ) (xs : List ℕ) → is_blank c ≡ true → Cuts c (cut_word (xs ++ c ∷ [])) (cut_word xs)
word_cuts c [] h = rw h (record { word = refl; rest = inr refl })
word_cuts c (x ∷ xs) h = by (is_blank x) (word_cuts c xs h)
  where
    by : (b : Bool) → Cuts c (cut_word (xs ++ c ∷ [])) (cut_word xs)
        → Cuts c (if b then record { word = []; rest = x ∷ (xs ++ c ∷ []) } else onto_word x (cut_word (xs ++ c ∷ [])))
        (if b then record { word = []; rest = x ∷ xs } else onto_word x (cut_word xs))
    by true more = record { word = refl; rest = inr refl }
    by false more = record { word = ap (λ w. x ∷ w) more.word; rest = more.rest }

then_end : (c : ℕ) (xs ys zs : List ℕ) → xs ≡ ys → Ends c ys zs → Ends c xs zs
then_end c xs ys zs e (inl f) = inl (e ∙ f)
then_end c xs ys zs e (inr f) = inr (e ∙ f)

word_of : (c : ℕ) (xs ys : List ℕ) → is_blank c ≡ true → Ends c xs ys → Cuts c (cut_word xs) (cut_word ys)
word_of c xs ys h (inl e) = record { word = ap (λ cs. (cut_word cs).word) e; rest = inl (ap (λ cs. (cut_word cs).rest) e) }
word_of c xs ys h (inr e) =
    let k = word_cuts c ys h in
    record { word = ap (λ cs. (cut_word cs).word) e ∙ k.word; rest = then_end c _ _ _ (ap (λ cs. (cut_word cs).rest) e) k.rest }

unindented_of : (c : ℕ) (xs ys : List ℕ) → is_blank c ≡ true → Ends c xs ys → Ends c (unindented xs) (unindented ys)
unindented_of c xs ys h (inl e) = inl (ap unindented e)
unindented_of c xs ys h (inr e) = then_end c _ _ _ (ap unindented e) (unindented_end c ys h)

cut_of : (c : ℕ) (xs ys : List ℕ) → is_blank c ≡ true → Ends c xs ys → Cuts c (cut xs) (cut ys)
unfolding cut
cut_of c xs ys h e = word_of c (unindented xs) (unindented ys) h (unindented_of c xs ys h e)

-- A space or tab after a text does not change its words.
words_end : (c : ℕ) (xs : List ℕ) → is_blank c ≡ true → words (xs ++ c ∷ []) ≡ words xs
words_end c [] h = rw h refl
words_end c (x ∷ []) h =
    ap (λ b. if is_blank x then words (c ∷ []) else if b then (x ∷ []) ∷ words (c ∷ []) else onto_first x (words (c ∷ []))) h
    ∙ ap (λ ws. if is_blank x then ws else (x ∷ []) ∷ ws) (words_end c [] h)
words_end c (x ∷ y ∷ ys) h = ap (λ ws. if is_blank x then ws else if is_blank y then (x ∷ []) ∷ ws else onto_first x ws) (words_end c (y ∷ ys) h)

pub onto_last : ℕ → List (List ℕ) → List (List ℕ)
onto_last c [] = []
onto_last c (p ∷ []) = (p ++ c ∷ []) ∷ []
onto_last c (p ∷ q ∷ ps) = p ∷ onto_last c (q ∷ ps)

-- A text has at least one piece.
pub some_piece : (quoted : Bool) (xs : List ℕ) → is_empty (pieces quoted xs) ≡ false
some_piece quoted [] = refl
some_piece quoted (x ∷ xs) = by ((x == 44) && not quoted) (pieces (if x == 34 then not quoted else quoted) xs)
  where
    by : (b : Bool) (ps : List (List ℕ)) → is_empty (if b then [] ∷ pieces quoted xs else onto_first x ps) ≡ false
    by true ps = refl
    by false [] = refl
    by false (p ∷ ps) = refl

first_and_last : (c x : ℕ) (ps : List (List ℕ)) → is_empty ps ≡ false → onto_first x (onto_last c ps) ≡ onto_last c (onto_first x ps)
unfolding onto_last
first_and_last c x [] h = absurd (cc)
first_and_last c x (p ∷ []) h = refl
first_and_last c x (p ∷ q ∷ ps) h = refl

behind_comma : (c : ℕ) (ps : List (List ℕ)) → is_empty ps ≡ false → [] ∷ onto_last c ps ≡ onto_last c ([] ∷ ps)
unfolding onto_last
behind_comma c [] h = absurd (cc)
behind_comma c (p ∷ ps) h = refl

pub pieces_end : (c : ℕ) (quoted : Bool) (xs : List ℕ) → is_blank c ≡ true → pieces quoted (xs ++ c ∷ []) ≡ onto_last c (pieces quoted xs)
unfolding onto_last
pieces_end c quoted [] h = let no = no_comma c h in rw no refl
pieces_end c quoted (x ∷ xs) h =
    by ((x == 44) && not quoted) (pieces_end c quoted xs h) (pieces_end c (if x == 34 then not quoted else quoted) xs h)
  where
    by : (b : Bool) → pieces quoted (xs ++ c ∷ []) ≡ onto_last c (pieces quoted xs)
        → pieces (if x == 34 then not quoted else quoted) (xs ++ c ∷ []) ≡ onto_last c (pieces (if x == 34 then not quoted else quoted) xs)
        → (if b then [] ∷ pieces quoted (xs ++ c ∷ []) else onto_first x (pieces (if x == 34 then not quoted else quoted) (xs ++ c ∷ [])))
        ≡ onto_last c (if b then [] ∷ pieces quoted xs else onto_first x (pieces (if x == 34 then not quoted else quoted) xs))
    by true e f = ap (λ ps. [] ∷ ps) e ∙ behind_comma c (pieces quoted xs) (some_piece quoted xs)
    by false e f = ap (onto_first x) f ∙ first_and_last c x (pieces (if x == 34 then not quoted else quoted) xs)
        (some_piece (if x == 34 then not quoted else quoted) xs)

trimmed_end : (c : ℕ) (xs : List ℕ) → is_blank c ≡ true → trimmed (xs ++ c ∷ []) ≡ trimmed xs
trimmed_end c xs h = by (unindented (xs ++ c ∷ [])) (unindented xs) (unindented_end c xs h)
  where
    by : (ys zs : List ℕ) → Ends c ys zs → reverse (unindented (reverse ys)) ≡ reverse (unindented (reverse zs))
    by ys zs (inl e) = ap (λ cs. reverse (unindented (reverse cs))) e
    by ys zs (inr e) =
        let turned : reverse ys ≡ c ∷ reverse zs = ap reverse e ∙ reverse-append zs (c ∷ []) in
        let off : unindented (c ∷ reverse zs) ≡ unindented (reverse zs) = rw h refl in
        ap (λ cs. reverse (unindented cs)) turned ∙ ap reverse off

pub trimmed_last : (c : ℕ) (ps : List (List ℕ)) → is_blank c ≡ true → map trimmed (onto_last c ps) ≡ map trimmed ps
unfolding onto_last
trimmed_last c [] h = refl
trimmed_last c (p ∷ []) h = ap (λ t. t ∷ []) (trimmed_end c p h)
trimmed_last c (p ∷ q ∷ ps) h = ap (λ ts. trimmed p ∷ ts) (trimmed_last c (q ∷ ps) h)

blank_end : (c : ℕ) (xs : List ℕ) → is_blank c ≡ true → is_empty (unindented (xs ++ c ∷ [])) ≡ is_empty (unindented xs)
blank_end c [] h = rw h refl
blank_end c (x ∷ xs) h = by (is_blank x) (blank_end c xs h)
  where
    by : (b : Bool) → is_empty (unindented (xs ++ c ∷ [])) ≡ is_empty (unindented xs)
        → is_empty (if b then unindented (xs ++ c ∷ []) else x ∷ (xs ++ c ∷ [])) ≡ is_empty (if b then unindented xs else x ∷ xs)
    by true e = e
    by false e = refl

pub operands_end : (c : ℕ) (xs : List ℕ) → is_blank c ≡ true → operands (xs ++ c ∷ []) ≡ operands xs
operands_end c xs h =
    ap (λ b. if b then [] else map trimmed (pieces false (xs ++ c ∷ []))) (blank_end c xs h)
    ∙ ap (λ ts. if is_empty (unindented xs) then [] else ts) (ap (map trimmed) (pieces_end c false xs h) ∙ trimmed_last c (pieces false xs) h)

-- The texts `a` and `b` have the same operands and the same words.
pub record AreAlike (a b : List ℕ) : Type 0 where
  pub operands : operands a ≡ operands b
  pub words : words a ≡ words b

alike : (c : ℕ) (xs ys : List ℕ) → is_blank c ≡ true → Ends c xs ys → AreAlike xs ys
alike c xs ys h e = record { operands = same_end c operands xs ys (operands_end c ys h) e; words = same_end c words xs ys (words_end c ys h) e }

pub items_alike : (keyword : Keyword) (a b : List ℕ) → operands a ≡ operands b → items_said keyword a ≡ items_said keyword b
items_alike OfBytes a b e = rw e refl
items_alike (Mnemonic op) a b e = rw e refl
items_alike OfSegment a b e = refl
items_alike OfProcedure a b e = refl
items_alike OfExit a b e = refl
items_alike OfJump a b e = refl
items_alike OfEnd a b e = refl

pub said_alike : (n : ℕ) (keyword : Keyword) (a b : List ℕ) → AreAlike a b → said n keyword a ≡ said n keyword b
said_alike n OfSegment a b k = let e = k.words in rw e refl
said_alike n OfProcedure a b k = let e = k.words in rw e refl
said_alike n OfExit a b k = let e = k.words in rw e refl
said_alike n OfJump a b k = let e = k.words in rw e refl
said_alike n OfEnd a b k = let e = k.words in rw e refl
said_alike n OfBytes a b k = let e = k.operands in rw e refl
said_alike n (Mnemonic op) a b k = let e = k.operands in rw e refl

pub spoken_alike : (n : ℕ) (keyword : Option Keyword) (a b : List ℕ) → AreAlike a b → spoken n a keyword ≡ spoken n b keyword
spoken_alike n None a b k = refl
spoken_alike n (Some keyword) a b k = let e = said_alike n keyword a b k in rw e refl

labelled_alike : (n : ℕ) (label word a b : List ℕ) → AreAlike a b → labelled n label a word ≡ labelled n label b word
labelled_alike n label [] a b k = refl
labelled_alike n label (x ∷ xs) a b k = by (keyword_of (x ∷ xs))
  where
    by : (keyword : Option Keyword) → labelled_by n label a keyword ≡ labelled_by n label b keyword
    by None = refl
    by (Some keyword) = let e = items_alike keyword a b k.operands in rw e refl

words_say : (n c : ℕ) (a b : Cut) → is_blank c ≡ true → Cuts c a b → line_of_words n a (label_of a.word) ≡ line_of_words n b (label_of b.word)
words_say n c a b h k = ap (λ w. line_of_words n a (label_of w)) k.word ∙ by (label_of b.word)
  where
    by : (label : Option Name) → line_of_words n a label ≡ line_of_words n b label
    by None = ap (λ w. spoken n a.rest (keyword_of w)) k.word ∙ spoken_alike n (keyword_of b.word) a.rest b.rest (alike c a.rest b.rest h k.rest)
    by (Some label) =
        let m = cut_of c a.rest b.rest h k.rest in
        ap (labelled n label (cut a.rest).rest) m.word ∙ labelled_alike n label (cut b.rest).word (cut a.rest).rest (cut b.rest).rest
        (alike c (cut a.rest).rest (cut b.rest).rest h m.rest)

cuts_say : (n c : ℕ) (good : Bool) (a b : Cut) → is_blank c ≡ true → Cuts c a b → line_by n good a ≡ line_by n good b
cuts_say n c false a b h k = let e = k.word in rw e refl
cuts_say n c true a b h k =
    ap (λ w. if is_empty w then Blank else line_of_words n a (label_of a.word)) k.word
    ∙ ap (λ said. if is_empty b.word then Blank else said) (words_say n c a b h k)

pub end_blank_says_nothing : EndBlankSaysNothing
unfolding line_of
end_blank_says_nothing n c line h =
    let good = a_character c h in
    let all : list_all is_character (line ++ c ∷ []) ≡ list_all is_character line =
    list_all-append is_character line (c ∷ []) ∙ rw good (and-true (list_all is_character line)) in
    ap (λ b. line_by n b (cut (uncommented false (line ++ c ∷ [])))) all
    ∙ cuts_say n c (list_all is_character line) (cut (uncommented false (line ++ c ∷ []))) (cut (uncommented false line)) h
    (cut_of c (uncommented false (line ++ c ∷ [])) (uncommented false line) h (uncommented_end c false line h))
