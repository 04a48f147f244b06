-- Two texts of the same statements differ only in spaces.
use Rattle.std.proofs.Common.{◌≡◌, ◌++◌, ◌∷◌, [], ℕ, zero, suc, Bool, true, false, List, if◌then◌else◌, ap, refl, sym, ◌∙◌}
use Rattle.std.specs.Prelude.{not, ◌==◌, ◌&&◌, reverse}
use Rattle.std.proofs.lemmas.List.Elements.{filter-append}
use Rattle.pm_phrases.specs.Shown.{Shown, value_text}
use Rattle.pm_code.specs.Shown.{padded}
use Rattle.pm_trees.specs.declared.left.Left.{Left}
use Rattle.pm_statements.specs.Depths.{Depths, at_place}
use Rattle.pm_statements.specs.Laws.{DepthsAreBlanksAlone, without_blanks}
use Rattle.pm_statements.specs.Texts.{blanks, is_call, is_check, line, lines, place_lines, push_text, two_each}

split : (x y : List ℕ) → without_blanks (x ++ y) ≡ without_blanks x ++ without_blanks y
split x y = filter-append (λ (c : ℕ). not (c == 32)) x y

none_left : (n : ℕ) → without_blanks (two_each n) ≡ []
none_left zero = refl
none_left (suc n) = none_left n

between : (x y : List ℕ) (n : ℕ) → without_blanks (x ++ (two_each n ++ y)) ≡ without_blanks x ++ without_blanks y
between x y n =
    split x (two_each n ++ y)
    ∙ ap (λ t. without_blanks x ++ t) (split (two_each n) y ∙ ap (λ t. t ++ without_blanks y) (none_left n))

line_alone : (m n : ℕ) (behind_call : Bool) (l : Left) (s : Shown)
    → without_blanks (line m behind_call l s) ≡ without_blanks (line n behind_call l s)
line_alone m n b l s = by (b && is_check l)
  where
    front : List ℕ
    front = place_lines l.place ++ (10 ∷ padded 5 l.place.offset ++ 32 ∷ [])

    text : List ℕ
    text = push_text l.leaves ++ value_text s 0

    by : (c : Bool) → without_blanks (if c then 32 ∷ value_text s 0 else front ++ (blanks m ++ text))
        ≡ without_blanks (if c then 32 ∷ value_text s 0 else front ++ (blanks n ++ text))
    by true = refl
    by false = between front text _ ∙ sym (between front text _)

lines_alone : (d e : Depths) (behind_call : Bool) (ls : List Left) (ss : List Shown)
    → without_blanks (lines d behind_call ls ss) ≡ without_blanks (lines e behind_call ls ss)
unfolding lines
lines_alone d e b [] ss = refl
lines_alone d e b (l ∷ ls) [] = refl
lines_alone d e b (l ∷ ls) (s ∷ ss) =
    let i : ℕ = at_place d l.place.offset in
    let j : ℕ = at_place e l.place.offset in
    split (line i b l s) (lines d (is_call l) ls ss)
    ∙ ap (λ t. t ++ without_blanks (lines d (is_call l) ls ss)) (line_alone i j b l s)
    ∙ ap (λ t. without_blanks (line j b l s) ++ t) (lines_alone d e (is_call l) ls ss)
    ∙ sym (split (line j b l s) (lines e (is_call l) ls ss))

pub depths_are_blanks_alone : DepthsAreBlanksAlone
depths_are_blanks_alone d e t =
    lines_alone d e false (reverse t.lefts) (reverse t.phrases)
