-- Lemmas for how a line is split into its first word and the text after it.
use Rattle.std.proofs.Common.{◌≡◌, ℕ, Bool, true, false, List, [], ◌∷◌, ◌++◌, refl, ap, ◌∙◌, arith, None}
use Rattle.std.specs.Prelude.{◌&&◌, ◌==◌}
use Rattle.std.specs.List.{list_all}
use Rattle.std.proofs.lemmas.List.Folds.{list_all-append}
use Rattle.std.proofs.lemmas.Bool.Decides.{nat_tests}
use Rattle.pm_code.specs.Program.{is_name_character}
use Rattle.pm_source.specs.Words.{is_blank, is_empty, unindented, cut_word, onto_word, cut, ends_word}
use Rattle.pm_source.specs.Line.{is_character, uncommented, label_of, spoken, keyword_of, line_by, line_of}

pub and_parts : (a b : Bool) → (a && b) ≡ true → (a ≡ true) × (b ≡ true)
and_parts true b e = (refl, e)
and_parts false b e = absurd (cc)

pub and_turned : (a b : Bool) → a ≡ true → b ≡ true → (a && b) ≡ true
and_turned a b e f = rw (e, f) refl

-- The character `c` is valid, and it is not a space, a tab, or a character with a special meaning.
pub record IsWordly (c : ℕ) : Type 0 where
  pub character : is_character c ≡ true
  pub blank : is_blank c ≡ false
  pub comment : (c == 59) ≡ false
  pub quote : (c == 34) ≡ false
  pub comma : (c == 44) ≡ false

pub wordly : (c : ℕ) → is_name_character c ≡ true → IsWordly c
wordly c h = record {
  character = grind (arith, nat_tests);
  blank = grind (arith, nat_tests);
  comment = grind (arith, nat_tests);
  quote = grind (arith, nat_tests);
  comma = grind (arith, nat_tests);
}

word_cut : (w tail : List ℕ) → list_all is_name_character w ≡ true → ends_word tail ≡ true → cut_word (w ++ tail) ≡ record { word = w; rest = tail }
word_cut [] [] h t = refl
word_cut [] (c ∷ cs) h t = rw t refl
word_cut (c ∷ w) tail h t =
    let parts = and_parts _ _ h in
    let solid : is_blank c ≡ false = (wordly c parts.0).blank in
    rw solid (ap (onto_word c) (word_cut w tail parts.1 t))

-- If a text begins with the word `w`, and `tail` ends a word, then it is split into `w` and `tail`.
pub first_cut : (w tail : List ℕ) → is_empty w ≡ false → list_all is_name_character w ≡ true → ends_word tail ≡ true
    → cut (w ++ tail) ≡ record { word = w; rest = tail }
unfolding cut
first_cut [] tail e h t = absurd (cc)
first_cut (c ∷ w) tail e h t =
    let solid : is_blank c ≡ false = (wordly c (and_parts _ _ h).0).blank in
    let body : unindented ((c ∷ w) ++ tail) ≡ (c ∷ w) ++ tail = rw solid refl in
    ap cut_word body ∙ word_cut (c ∷ w) tail h t

pub word_characters : (w : List ℕ) → list_all is_name_character w ≡ true → list_all is_character w ≡ true
word_characters [] h = refl
word_characters (c ∷ w) h = let parts = and_parts _ _ h in let e = (wordly c parts.0).character in rw e (word_characters w parts.1)

pub word_passes : (w rest : List ℕ) → list_all is_name_character w ≡ true → uncommented false (w ++ rest) ≡ w ++ uncommented false rest
word_passes [] rest h = refl
word_passes (c ∷ w) rest h =
    let parts = and_parts _ _ h in
    let x : IsWordly c = wordly c parts.0 in
    let comment = x.comment in
    let quote = x.quote in
    rw (comment, quote) (ap (λ cs. c ∷ cs) (word_passes w rest parts.1))

-- `tail` can be the text after a word, and has no comment.
pub record IsRest (tail : List ℕ) : Type 0 where
  pub behind : ends_word tail ≡ true
  pub characters : list_all is_character tail ≡ true
  pub whole : uncommented false tail ≡ tail

-- The text is split into the first word `w` and the text `tail` after it.
pub record IsCut (text w tail : List ℕ) : Type 0 where
  pub characters : list_all is_character text ≡ true
  pub whole : uncommented false text ≡ text
  pub parts : cut text ≡ record { word = w; rest = tail }

pub cut_behind : (w tail : List ℕ) → is_empty w ≡ false → list_all is_name_character w ≡ true → IsRest tail → IsCut (w ++ tail) w tail
cut_behind w tail e h t = record {
  characters = list_all-append is_character w tail ∙ and_turned _ _ (word_characters w h) t.characters;
  whole = word_passes w tail h ∙ ap (λ cs. w ++ cs) t.whole;
  parts = first_cut w tail e h t.behind;
}

pub by_cut : (n : ℕ) (text w tail : List ℕ) → IsCut text w tail → line_of n text ≡ line_by n true (record { word = w; rest = tail })
unfolding line_of
by_cut n text w tail c =
    ap (λ body. line_by n (list_all is_character text) (cut body)) c.whole
    ∙ ap (λ b. line_by n b (cut text)) c.characters
    ∙ ap (line_by n true) c.parts

-- The word `w` can begin a line and is not a label.
pub record IsFront (w : List ℕ) : Type 0 where
  pub some : is_empty w ≡ false
  pub plain : list_all is_name_character w ≡ true
  pub unmarked : label_of w ≡ None

-- If a line begins with the word `w`, then its meaning is that of the keyword `w` with the text `tail` after it.
pub spoken_line : (n : ℕ) (w tail : List ℕ) → IsFront w → IsRest tail → line_of n (w ++ tail) ≡ spoken n tail (keyword_of w)
spoken_line n w tail f t =
    let some = f.some in
    let unmarked = f.unmarked in
    by_cut n (w ++ tail) w tail (cut_behind w tail f.some f.plain t) ∙ rw (some, unmarked) refl

-- Spaces before a line have no meaning.
pub indented : (n : ℕ) (cs : List ℕ) → line_of n (32 ∷ cs) ≡ line_of n cs
unfolding line_of cut
indented n cs = refl
