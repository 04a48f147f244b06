-- Laws of cutting a text into pieces, character by character.
use Rattle.std.proofs.Common.{◌≡◌, ℕ, ◌+◌, ◌<◌, ◌≤◌, Bool, false, not, List, [], ◌∷◌, length, take, drop, get_or, ap, sym, ◌∙◌, if◌then◌else◌}
use Rattle.std.specs.Prelude.{◌&&◌, ◌==◌}
use Rattle.std.specs.List.{onto_first}
use Rattle.std.proofs.lemmas.List.{drop_all, drop_more, take_all, take_more}
use Rattle.pm_source.specs.Line.{pieces}
use Rattle.pm_line.specs.Views.{onto_piece}
use Rattle.pm_line.proofs.Onto.{onto_end, onto_next}

pieces_on : (q : Bool) (c : ℕ) (cs : List ℕ) → ((c == 44) && not q) ≡ false → pieces q (c ∷ cs) ≡ onto_first c (pieces (if c == 34 then not q else q) cs)
pieces_on q c cs h = ap (λ b. if b then [] ∷ pieces q cs else onto_first c (pieces (if c == 34 then not q else q) cs)) h

-- If character `i` is not a comma outside quotes, then it belongs to the first piece.
pub piece_on : (text : List ℕ) (i : ℕ) (q : Bool) → i < length text → ((get_or text i 0 == 44) && not q) ≡ false
    → onto_piece (take (i + 1) text) (pieces (if get_or text i 0 == 34 then not q else q) (drop (i + 1) text))
    ≡ onto_piece (take i text) (pieces q (drop i text))
piece_on text i q h n =
    let c = get_or text i 0 in
    ap (λ cs. onto_piece cs (pieces (if c == 34 then not q else q) (drop (i + 1) text))) (take_more text i 0 h)
    ∙ onto_next (take i text) c (pieces (if c == 34 then not q else q) (drop (i + 1) text))
    ∙ ap (onto_piece (take i text)) (sym (pieces_on q c (drop (i + 1) text) n))
    ∙ ap (λ cs. onto_piece (take i text) (pieces q cs)) (sym (drop_more text i 0 h))

-- If character `i` is a comma outside quotes, then the first piece is the characters before it.
pub piece_ends : (text : List ℕ) (i : ℕ) → i < length text → get_or text i 0 ≡ 44
    → onto_piece (take i text) (pieces false (drop i text)) ≡ take i text ∷ pieces false (drop (i + 1) text)
piece_ends text i h e =
    ap (λ cs. onto_piece (take i text) (pieces false cs)) (drop_more text i 0 h)
    ∙ ap (λ c. onto_piece (take i text) (pieces false (c ∷ drop (i + 1) text))) e
    ∙ onto_end (take i text) (pieces false (drop (i + 1) text))

-- If no character remains, then the whole text is the first piece.
pub piece_whole : (text : List ℕ) (i : ℕ) (q : Bool) → length text ≤ i → onto_piece (take i text) (pieces q (drop i text)) ≡ text ∷ []
piece_whole text i q h =
    ap (λ cs. onto_piece (take i text) (pieces q cs)) (drop_all i text h)
    ∙ ap (λ cs. onto_piece cs ([] ∷ [])) (take_all i text h)
    ∙ onto_end text []
