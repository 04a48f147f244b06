-- Laws of a line that has only allowed characters and is not empty.
use Rattle.std.proofs.Common.{◌≡◌, ℕ, true, false, List, [], ◌∷◌, length, refl, ap, sym, ◌∙◌}
use Rattle.std.specs.Prelude.{◌==◌}
use Rattle.std.specs.List.{list_all}
use Rattle.pm_source.specs.Words.{Cut, cut, is_empty}
use Rattle.pm_source.specs.Line.{is_character, label_of, line_by, line_of, line_of_words, uncommented}
use Rattle.pm_line.specs.Views.{cut_seen}

by_words : (n : ℕ) (k : Cut) → is_empty k.word ≡ false → line_by n true k ≡ line_of_words n k (label_of k.word)
by_words n k e = rw e refl

pub whole_line : (n : ℕ) (text body word rest : List ℕ) → list_all is_character text ≡ true → body ≡ uncommented false text → word ≡ (cut body).word
    → rest ≡ (cut body).rest
    → is_empty word ≡ false → line_of n text ≡ line_of_words n (cut_seen word rest) (label_of word)
unfolding line_of
whole_line n text body word rest good b w r some =
    ap (λ g. line_by n g (cut (uncommented false text))) good
    ∙ ap (λ cs. line_by n true (cut cs)) (sym b)
    ∙ by_words n (cut body) (ap is_empty (sym w) ∙ some)
    ∙ ap (λ cs. line_of_words n (cut_seen cs (cut body).rest) (label_of cs)) (sym w)
    ∙ ap (λ cs. line_of_words n (cut_seen word cs) (label_of word)) (sym r)

pub filled : (cs : List ℕ) → (length cs == 0) ≡ false → is_empty cs ≡ false
filled [] n = absurd (cc)
filled (c ∷ cs) n = refl
