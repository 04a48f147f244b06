-- Lemmas about the words of a line, byte by byte.
use Rattle.std.proofs.Common.{◌≡◌, ◌∙◌, ◌+◌, ◌<◌, ap, sym, refl, arith, ℕ, zero, suc, Bool, true, false, not, List, [], ◌∷◌, ◌++◌, length, take, drop, get_or}
use Rattle.std.proofs.Common.{add-one, append_assoc, append-nil}
use Rattle.std.proofs.Math.Seq.{drop-cons, take-suc}
use Rattle.std.specs.Prelude.{◌==◌, if◌then◌else◌}
use Rattle.pm_session.specs.Words.{begins_word, without_empty, pieces_between, with_character, without_return, words_of_line}

-- ---- pieces

-- The pieces with the bytes `front` before the first piece.
abbrev pub with_front : List ℕ → List (List ℕ) → List (List ℕ)
with_front front [] = front ∷ []
with_front front (piece ∷ pieces) = (front ++ piece) ∷ pieces

pub pieces_none : (mark : ℕ) → pieces_between mark [] ≡ [] ∷ []
unfolding pieces_between
pieces_none mark = refl

pub pieces_mark : (mark c : ℕ) (text : List ℕ) → (c == mark) ≡ true → pieces_between mark (c ∷ text) ≡ [] ∷ pieces_between mark text
unfolding pieces_between
pieces_mark mark c text e = rw e refl

pub pieces_byte : (mark c : ℕ) (text : List ℕ) → (c == mark) ≡ false → pieces_between mark (c ∷ text) ≡ with_character c (pieces_between mark text)
unfolding pieces_between
pieces_byte mark c text e = rw e refl

pub with_front-byte : (front : List ℕ) (c : ℕ) (ps : List (List ℕ)) → with_front front (with_character c ps) ≡ with_front (front ++ c ∷ []) ps
with_front-byte front c [] = refl
with_front-byte front c (piece ∷ ps) = ap (λ p. p ∷ ps) (sym (append_assoc front (c ∷ []) piece))

pub with_front-none : (ps : List (List ℕ)) → 0 < length ps → ps ≡ with_front [] ps
with_front-none [] h = absurd (omega arith)
with_front-none (piece ∷ ps) h = refl

pub pieces_some : (mark : ℕ) (text : List ℕ) → 0 < length (pieces_between mark text)
unfolding pieces_between
pieces_some mark [] = omega arith
pieces_some mark (c ∷ text) = go (c == mark) refl
  where
    go : (b : Bool) → (c == mark) ≡ b → 0 < length (pieces_between mark (c ∷ text))
    go true e = rw e (omega arith)
    go false e = rw e (some (pieces_between mark text))
      where
        some : (ps : List (List ℕ)) → 0 < length (with_character c ps)
        some [] = omega arith
        some (p ∷ ps) = omega arith

-- ---- words

not_false : (b : Bool) → not b ≡ true → b ≡ false
not_false true h = cc
not_false false h = refl

not_true : (b : Bool) → not b ≡ false → b ≡ true
not_true true h = refl
not_true false h = cc

pub words_none : words_of_line [] ≡ []
unfolding words_of_line without_empty
words_none = ap without_empty (pieces_none 32)

pub words_space : (c : ℕ) (line : List ℕ) → begins_word (c ∷ line) ≡ false → words_of_line (c ∷ line) ≡ words_of_line line
unfolding words_of_line without_empty
words_space c line e = ap without_empty (pieces_mark 32 c line (not_true (c == 32) e))

filled_one : (word : List ℕ) (ps : List (List ℕ)) → 0 < length word → without_empty (word ∷ ps) ≡ word ∷ without_empty ps
unfolding without_empty
filled_one [] ps h = absurd (omega arith)
filled_one (c ∷ word) ps h = refl

-- States that the first `end` bytes of `line` are part of its first word, and that `rest` is the rest of the line.
pub record IsInWord (line : List ℕ) (end : ℕ) (rest : List ℕ) : Type 0 where
  pub pieces : pieces_between 32 line ≡ with_front (take end line) (pieces_between 32 rest)
  pub left : rest ≡ drop end line

pub in_word_none : (line : List ℕ) → IsInWord line 0 line
in_word_none line = record { pieces = with_front-none (pieces_between 32 line) (pieces_some 32 line); left = refl }

pub in_word_more : (line : List ℕ) (end : ℕ) (rest : List ℕ) (c : ℕ) (tail : List ℕ) → IsInWord line end rest → rest ≡ c ∷ tail → begins_word rest ≡ true →
    end < length line → IsInWord line (end + 1) tail
in_word_more line end rest c tail u e b h =
    let byte : (c == 32) ≡ false = not_false (c == 32) (rw e at b) in
    let next : c ∷ tail ≡ get_or line end 0 ∷ drop (suc end) line = sym e ∙ u.left ∙ drop-cons line end 0 h in
    let taken : take (suc end) line ≡ take end line ++ c ∷ [] =
    take-suc line end 0 h ∙ ap (λ x. take end line ++ x ∷ []) (sym (ap (λ xs. get_or xs 0 0) next)) in
    record {
      pieces = rw (add-one, taken)
          (u.pieces ∙ ap (λ r. with_front (take end line) (pieces_between 32 r)) e ∙ ap (with_front (take end line)) (pieces_byte 32 c tail byte)
          ∙ with_front-byte
          (take end line) c (pieces_between 32 tail));
      left = rw add-one (ap (drop 1) next);
    }

word_ends : (front rest line : List ℕ) → pieces_between 32 line ≡ with_front front (pieces_between 32 rest) → 0 < length front → begins_word rest ≡ false →
    words_of_line line ≡ front ∷ words_of_line rest
unfolding words_of_line without_empty
word_ends front [] line u some b =
    ap without_empty (u ∙ ap (with_front front) (pieces_none 32) ∙ ap (λ w. w ∷ []) (append-nil front))
    ∙ filled_one front [] some ∙ ap (λ ws. front ∷ ws) (sym words_none)
word_ends front (c ∷ rest) line u some b =
    let mark : (c == 32) ≡ true = not_true (c == 32) b in
    ap without_empty (u ∙ ap (with_front front) (pieces_mark 32 c rest mark) ∙ ap (λ w. w ∷ pieces_between 32 rest) (append-nil front))
    ∙ filled_one front (pieces_between 32 rest) some ∙ ap (λ ws. front ∷ ws) (sym (words_space c rest b))

-- If the rest of the line begins with a space or is empty, then the first word consists of the first `end` bytes.
pub words_at_end : (line : List ℕ) (end : ℕ) (rest : List ℕ) → IsInWord line end rest → begins_word line ≡ true → begins_word rest ≡ false →
    words_of_line line ≡ take end line ∷ words_of_line rest
words_at_end line zero rest u first b = absurd (both (sym first ∙ ap begins_word (sym u.left) ∙ b))
  where
    both : true ≡ false → ⊥
    both h = cc
words_at_end [] (suc end) rest u first b = absurd (both (sym first))
  where
    both : true ≡ false → ⊥
    both h = cc
words_at_end (c ∷ line) (suc end) rest u first b = word_ends (take (suc end) (c ∷ line)) rest (c ∷ line) u.pieces (omega arith) b

-- ---- carriage returns

-- The last byte `c` of a line, or no byte if `c` is a carriage return.
at_end : ℕ → List ℕ
at_end c = if c == 13 then [] else c ∷ []

return_last : (front : List ℕ) (c : ℕ) → without_return (front ++ c ∷ []) ≡ front ++ (if c == 13 then [] else c ∷ [])
unfolding without_return
return_last [] c = refl
return_last (a ∷ []) c = refl
return_last (a ∷ b ∷ front) c = ap (λ line. a ∷ line) (return_last (b ∷ front) c)

pub return_cut : (line front : List ℕ) (c : ℕ) → line ≡ front ++ c ∷ [] → c ≡ 13 → front ≡ without_return line
return_cut line front c e r = sym (rw (e, return_last front c, r) (append-nil front))

pub return_none : (line front : List ℕ) (c : ℕ) → line ≡ front ++ c ∷ [] → (c == 13) ≡ false → line ≡ without_return line
return_none line front c e r = e ∙ sym (ap without_return e ∙ return_last front c ∙ ap (λ b. front ++ (if b then [] else c ∷ [])) r)

pub return_empty : (line : List ℕ) → length line ≡ 0 → line ≡ without_return line
unfolding without_return
return_empty [] h = refl
return_empty (c ∷ line) h = absurd (omega arith)

pub words_of_none : (line : List ℕ) → length line ≡ 0 → words_of_line line ≡ []
words_of_none [] h = words_none
words_of_none (c ∷ line) h = absurd (omega arith)
