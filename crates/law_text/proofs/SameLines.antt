-- Lemmas: comments and leading spaces of a line have no meaning.
use Rattle.std.proofs.Common.{◌≡◌, ◌∙◌, ℕ, Bool, true, false, List, [], ◌∷◌, ◌++◌, refl, ap, subst, sym}
use Rattle.std.specs.Prelude.{not, ◌==◌, ◌&&◌, ◌||◌, if◌then◌else◌}
use Rattle.std.specs.List.{list_all}
use Rattle.std.proofs.lemmas.List.Folds.{list_all-append}
use Rattle.std.proofs.Math.Bool.{and-true}
use Rattle.std.proofs.lemmas.Bool.{eqb-true}
use Rattle.pm_source.specs.Line.{is_character, line_by, line_of, uncommented}
use Rattle.law_text.specs.Same.{BlankSaysNothing, CommentSaysNothing, ZeroSaysNothing, is_open}
use Rattle.pm_source.specs.Words.{cut}

-- If quotes are closed after `line`, then a comment after it is removed.
without : (quoted : Bool) (line comment : List ℕ) → is_open quoted line ≡ false → uncommented quoted (line ++ 59 ∷ comment) ≡ uncommented quoted line
without true [] comment h = absurd (cc h)
without false [] comment h = refl
without quoted (c ∷ cs) comment h =
    ap (λ rest. if (c == 59) && not quoted then [] else c ∷ rest) (without (if c == 34 then not quoted else quoted) cs comment h)

pub comment_says_nothing : CommentSaysNothing
unfolding line_of
comment_says_nothing n line comment closed good =
    let all : list_all is_character (line ++ 59 ∷ comment) ≡ list_all is_character line =
    list_all-append is_character line (59 ∷ comment) ∙ (ap (λ b. list_all is_character line && b) good ∙ and-true (list_all is_character line)) in
    ap (λ b. line_by n b (cut (uncommented false (line ++ 59 ∷ comment)))) all
    ∙ ap (λ cs. line_by n (list_all is_character line) (cut cs)) (without false line comment closed)

space : (n : ℕ) (line : List ℕ) → line_of n (32 ∷ line) ≡ line_of n line
unfolding line_of cut
space n line = refl

tab : (n : ℕ) (line : List ℕ) → line_of n (9 ∷ line) ≡ line_of n line
unfolding line_of cut
tab n line = refl

pub blank_says_nothing : BlankSaysNothing
blank_says_nothing n c line h = by (c == 32) (c == 9) refl refl h
  where
    by : (a b : Bool) → (c == 32) ≡ a → (c == 9) ≡ b → (a || b) ≡ true → line_of n (c ∷ line) ≡ line_of n line
    by true b e f t = subst (λ x. line_of n (x ∷ line) ≡ line_of n line) (sym (eqb-true c 32 e)) (space n line)
    by false true e f t = subst (λ x. line_of n (x ∷ line) ≡ line_of n line) (sym (eqb-true c 9 f)) (tab n line)
    by false false e f t = absurd (cc t)

pub zero_says_nothing : ZeroSaysNothing
zero_says_nothing negative c digits = refl
