-- Lemmas for how the operands of a shown line are read again.
use Rattle.std.proofs.Common.{◌≡◌, ℕ, Bool, true, false, List, [], ◌∷◌, ◌++◌, reverse, map, refl, sym, ap, ◌∙◌, append_assoc}
use Rattle.std.specs.List.{list_all, onto_first, AllByRecursion}
use Rattle.std.proofs.lemmas.List.{reverse-reverse, reverse-append}
use Rattle.std.proofs.lemmas.List.Folds.{list_all-append}
use Rattle.pm_code.specs.Program.{is_name_character}
use Rattle.pm_code.specs.Text.{operands_text, more_operands}
use Rattle.pm_code.specs.Shown.{words_text}
use Rattle.pm_source.specs.Words.{is_blank, unindented, trimmed, is_empty, ends_word, words}
use Rattle.pm_source.specs.Line.{is_character, uncommented, pieces, operands}
use Rattle.law_text.proofs.Cutting.{IsWordly, wordly, and_parts, and_turned, word_characters, word_passes, IsRest}

-- `t` is the text of one operand.
pub record IsOperand (t : List ℕ) : Type 0 where
  pub characters : list_all is_character t ≡ true
  pub passes : (rest : List ℕ) → uncommented false (t ++ rest) ≡ t ++ uncommented false rest
  pub piece : (rest p : List ℕ) (ps : List (List ℕ)) → pieces false rest ≡ p ∷ ps → pieces false (t ++ rest) ≡ (t ++ p) ∷ ps
  pub front : (rest : List ℕ) → unindented (t ++ rest) ≡ t ++ rest
  pub back : (rest : List ℕ) → unindented (reverse t ++ rest) ≡ reverse t ++ rest
  pub some : is_empty t ≡ false

pub solid_front : (c : ℕ) (cs : List ℕ) → is_blank c ≡ false → unindented (c ∷ cs) ≡ c ∷ cs
solid_front c cs e = rw e refl

word_pieces : (w rest p : List ℕ) (ps : List (List ℕ)) → list_all is_name_character w ≡ true → pieces false rest ≡ p ∷ ps
    → pieces false (w ++ rest) ≡ (w ++ p) ∷ ps
word_pieces [] rest p ps h e = e
word_pieces (c ∷ w) rest p ps h e =
    let parts = and_parts _ _ h in
    let x : IsWordly c = wordly c parts.0 in
    let comma = x.comma in
    let quote = x.quote in
    rw (comma, quote) (ap (onto_first c) (word_pieces w rest p ps parts.1 e))

word_front : (w rest : List ℕ) → is_empty w ≡ false → list_all is_name_character w ≡ true → unindented (w ++ rest) ≡ w ++ rest
word_front [] rest e h = absurd (cc)
word_front (c ∷ w) rest e h = solid_front c (w ++ rest) (wordly c (and_parts _ _ h).0).blank

reversed_all : (p : ℕ → Bool) (w : List ℕ) → list_all p w ≡ true → list_all p (reverse w) ≡ true
reversed_all p [] h = refl
reversed_all p (c ∷ w) h =
    let parts = and_parts _ _ h in
    ap (list_all p) (reverse-append (c ∷ []) w)
    ∙ list_all-append p (reverse w) (c ∷ [])
    ∙ and_turned _ _ (reversed_all p w parts.1) (and_turned _ _ parts.0 refl)

reversed_some : (w : List ℕ) → is_empty w ≡ false → is_empty (reverse w) ≡ false
reversed_some [] e = absurd (cc)
reversed_some (c ∷ w) e = ap is_empty (reverse-append (c ∷ []) w) ∙ some_more (reverse w) (c ∷ [])
  where
    some_more : (xs ys : List ℕ) → is_empty (xs ++ c ∷ []) ≡ false
    some_more [] ys = refl
    some_more (x ∷ xs) ys = refl

-- `w` is a word between spaces.
pub record IsWord (w : List ℕ) : Type 0 where
  pub some : is_empty w ≡ false
  pub plain : list_all is_name_character w ≡ true

pub of_word : (w : List ℕ) → IsWord w → IsOperand w
of_word w k =
    let e = k.some in
    let h = k.plain in
    record {
      characters = word_characters w h;
      passes = λ rest. word_passes w rest h;
      piece = λ rest p ps k. word_pieces w rest p ps h k;
      front = λ rest. word_front w rest e h;
      back = λ rest. word_front (reverse w) rest (reversed_some w e) (reversed_all is_name_character w h);
      some = e;
    }

pub append_nil : (xs : List ℕ) → xs ++ [] ≡ xs
append_nil [] = refl
append_nil (x ∷ xs) = ap (λ ys. x ∷ ys) (append_nil xs)

back_trimmed : (t : List ℕ) → IsOperand t → trimmed (32 ∷ t) ≡ t
back_trimmed t o =
    let front : unindented t ≡ t = ap unindented (sym (append_nil t)) ∙ o.front [] ∙ append_nil t in
    ap (λ u. reverse (unindented (reverse u))) front
    ∙ ap reverse (ap unindented (sym (append_nil (reverse t))) ∙ o.back [] ∙ append_nil (reverse t))
    ∙ reverse-reverse t

all_trimmed : (ts : List (List ℕ)) → AllByRecursion IsOperand ts → map trimmed (map (λ t. 32 ∷ t) ts) ≡ ts
all_trimmed [] h = refl
all_trimmed (t ∷ ts) h = ap (λ u. u ∷ map trimmed (map (λ t. 32 ∷ t) ts)) (back_trimmed t h.0) ∙ ap (λ us. t ∷ us) (all_trimmed ts h.1)

-- If a space and an operand are before a text, then they become the beginning of its first piece.
one_piece : (t rest p : List ℕ) (ps : List (List ℕ)) → IsOperand t → pieces false rest ≡ p ∷ ps → pieces false (32 ∷ t ++ rest) ≡ (32 ∷ t ++ p) ∷ ps
one_piece t rest p ps o e = ap (onto_first 32) (o.piece rest p ps e)

more_pieces : (ts : List (List ℕ)) → AllByRecursion IsOperand ts → pieces false (more_operands ts) ≡ [] ∷ map (λ t. 32 ∷ t) ts
more_pieces [] h = refl
more_pieces (t ∷ ts) h =
    ap (λ ps. [] ∷ ps) (one_piece t (more_operands ts) [] (map (λ t. 32 ∷ t) ts) h.0 (more_pieces ts h.1)
    ∙ ap (λ u. (32 ∷ u) ∷ map (λ t. 32 ∷ t) ts) (append_nil t))

all_pieces : (t : List ℕ) (ts : List (List ℕ)) → IsOperand t → AllByRecursion IsOperand ts → pieces false (operands_text (t ∷ ts)) ≡ map (λ t. 32 ∷ t) (t ∷ ts)
all_pieces t ts o h = one_piece t (more_operands ts) [] (map (λ t. 32 ∷ t) ts) o (more_pieces ts h) ∙ ap (λ u. (32 ∷ u) ∷ map (λ t. 32 ∷ t) ts) (append_nil t)

not_blank : (t rest : List ℕ) → IsOperand t → is_empty (unindented (32 ∷ t ++ rest)) ≡ false
not_blank t rest o = ap is_empty (o.front rest) ∙ more t o.some
  where
    more : (t : List ℕ) → is_empty t ≡ false → is_empty (t ++ rest) ≡ false
    more [] e = absurd (cc)
    more (c ∷ t) e = refl

-- If operands are shown, then they are read again as the same operands.
pub operands_shown : (ts : List (List ℕ)) → AllByRecursion IsOperand ts → operands (operands_text ts) ≡ ts
operands_shown [] h = refl
operands_shown (t ∷ ts) h =
    let some = not_blank t (more_operands ts) h.0 in
    rw some (ap (map trimmed) (all_pieces t ts h.0 h.1) ∙ all_trimmed (t ∷ ts) h)

operand_characters : (t rest : List ℕ) → IsOperand t → list_all is_character rest ≡ true → list_all is_character (t ++ rest) ≡ true
operand_characters t rest o e = list_all-append is_character t rest ∙ and_turned _ _ o.characters e

more_characters : (ts : List (List ℕ)) → AllByRecursion IsOperand ts → list_all is_character (more_operands ts) ≡ true
more_characters [] h = refl
more_characters (t ∷ ts) h = operand_characters t (more_operands ts) h.0 (more_characters ts h.1)

more_whole : (ts : List (List ℕ)) → AllByRecursion IsOperand ts → uncommented false (more_operands ts) ≡ more_operands ts
more_whole [] h = refl
more_whole (t ∷ ts) h = ap (λ u. 44 ∷ 32 ∷ u) (h.0.passes (more_operands ts) ∙ ap (λ u. t ++ u) (more_whole ts h.1))

pub operands_rest : (ts : List (List ℕ)) → AllByRecursion IsOperand ts → IsRest (operands_text ts)
operands_rest [] h = record { behind = refl; characters = refl; whole = refl }
operands_rest (t ∷ ts) h = record {
  behind = refl;
  characters = operand_characters t (more_operands ts) h.0 (more_characters ts h.1);
  whole = ap (λ u. 32 ∷ u) (h.0.passes (more_operands ts) ∙ ap (λ u. t ++ u) (more_whole ts h.1));
}

pub first_of_words : (w tail : List ℕ) → is_empty w ≡ false → list_all is_name_character w ≡ true → ends_word tail ≡ true → words (w ++ tail) ≡ w ∷ words tail
first_of_words [] tail e h t = absurd (cc)
first_of_words (c ∷ []) tail e h t = let solid : is_blank c ≡ false = (wordly c (and_parts _ _ h).0).blank in rw (solid, t) refl
first_of_words (c ∷ d ∷ w) tail e h t =
    let parts = and_parts _ _ h in
    let solid : is_blank c ≡ false = (wordly c parts.0).blank in
    let more : is_blank d ≡ false = (wordly d (and_parts _ _ parts.1).0).blank in
    let rest : words ((d ∷ w) ++ tail) ≡ (d ∷ w) ∷ words tail = first_of_words (d ∷ w) tail refl parts.1 t in
    joined c d (w ++ tail) ((d ∷ w) ∷ words tail) solid more rest
  where
    joined : (c d : ℕ) (cs : List ℕ) (ws : List (List ℕ)) → is_blank c ≡ false → is_blank d ≡ false → words (d ∷ cs) ≡ ws → words (c ∷ d ∷ cs) ≡ onto_first c ws
    joined c d cs ws solid more rest = two c d cs solid more ∙ ap (onto_first c) rest
      where
        two : (c d : ℕ) (cs : List ℕ) → is_blank c ≡ false → is_blank d ≡ false → words (c ∷ d ∷ cs) ≡ onto_first c (words (d ∷ cs))
        two c d cs solid more = rw solid (rw more refl)

words_end : (ws : List (List ℕ)) → ends_word (words_text ws) ≡ true
words_end [] = refl
words_end (w ∷ ws) = refl

-- If words are shown, then they are read again as the same words.
pub words_shown : (ws : List (List ℕ)) → AllByRecursion IsWord ws → words (words_text ws) ≡ ws
words_shown [] h = refl
words_shown (w ∷ ws) h = first_of_words w (words_text ws) h.0.some h.0.plain (words_end ws) ∙ ap (λ us. w ∷ us) (words_shown ws h.1)

words_characters : (ws : List (List ℕ)) → AllByRecursion IsWord ws → list_all is_character (words_text ws) ≡ true
words_characters [] h = refl
words_characters (w ∷ ws) h = list_all-append is_character w (words_text ws) ∙ and_turned _ _ (word_characters w h.0.plain) (words_characters ws h.1)

words_whole : (ws : List (List ℕ)) → AllByRecursion IsWord ws → uncommented false (words_text ws) ≡ words_text ws
words_whole [] h = refl
words_whole (w ∷ ws) h = ap (λ u. 32 ∷ u) (word_passes w (words_text ws) h.0.plain ∙ ap (λ u. w ++ u) (words_whole ws h.1))

pub words_rest : (ws : List (List ℕ)) → AllByRecursion IsWord ws → IsRest (words_text ws)
words_rest [] h = record { behind = refl; characters = refl; whole = refl }
words_rest (w ∷ ws) h = record { behind = refl; characters = words_characters (w ∷ ws) h; whole = words_whole (w ∷ ws) h }

-- If two operands have a space between them, then they are one operand.
pub two_words : (a b : List ℕ) → IsOperand a → IsOperand b → IsOperand (a ++ 32 ∷ b)
two_words a b f g = record {
  characters = list_all-append is_character a (32 ∷ b) ∙ and_turned _ _ f.characters g.characters;
  passes = λ rest. ap (uncommented false) (append_assoc a (32 ∷ b) rest) ∙ f.passes (32 ∷ b ++ rest) ∙ ap (λ u. a ++ 32 ∷ u) (g.passes rest)
      ∙ sym (append_assoc a (32 ∷ b) (uncommented false rest));
  piece = λ rest p ps e. ap (pieces false) (append_assoc a (32 ∷ b) rest)
      ∙ f.piece (32 ∷ b ++ rest) (32 ∷ b ++ p) ps (ap (onto_first 32) (g.piece rest p ps e)) ∙ ap (λ u. u ∷ ps) (sym (append_assoc a (32 ∷ b) p));
  front = λ rest. ap unindented (append_assoc a (32 ∷ b) rest) ∙ f.front (32 ∷ b ++ rest) ∙ sym (append_assoc a (32 ∷ b) rest);
  back = λ rest.
      ap (λ u. unindented (u ++ rest)) (reverse-append a (32 ∷ b) ∙ ap (λ u. u ++ reverse a) (reverse-append (32 ∷ []) b))
      ∙ ap unindented (append_assoc (reverse b ++ 32 ∷ []) (reverse a) rest ∙ append_assoc (reverse b) (32 ∷ []) (reverse a ++ rest))
      ∙ g.back (32 ∷ reverse a ++ rest)
      ∙ sym (append_assoc (reverse b ++ 32 ∷ []) (reverse a) rest ∙ append_assoc (reverse b) (32 ∷ []) (reverse a ++ rest))
      ∙ ap (λ u. u ++ rest) (sym (reverse-append a (32 ∷ b) ∙ ap (λ u. u ++ reverse a) (reverse-append (32 ∷ []) b)));
  some = more a f.some;
}
  where
    more : (a : List ℕ) → is_empty a ≡ false → is_empty (a ++ 32 ∷ b) ≡ false
    more [] e = absurd (cc)
    more (c ∷ a) e = refl
