use Rattle.std.proofs.Common.{◌≡◌, ◌+◌, ◌*◌, ◌-◌, ◌%◌, ◌++◌, ◌∷◌, [], ◌∙◌, ℕ, List, ap, arith, append-nil, append_assoc, drop, get_or, sym}
use Rattle.pm_words.specs.Words.{words_of}
use Rattle.pm_disasm.specs.Split.{table_places}
use Rattle.pm_disasm.proofs.Words.{next_place, no_place}
use Rattle.pm_disasm.proofs.found.Table.places.Goals as goal

pub loop-k-preserved : goal.loop-k-preserved
loop-k-preserved c =
    let bytes = c.args.self.words.now in
    let at = c.args.self.at in
    let k = c.loop-k.k in
    let before : List ℕ = c.loop-k.places.items in
    let rest = table_places (at + 2 * (k + 1)) (words_of (drop (2 * (k + 1)) bytes)) in
    let place : c.table_place.result ≡ (at + 2 * k + 65536 - (get_or bytes (2 * k) 0 + 256 * get_or bytes (2 * k + 1) 0)) % 65536 = cc in
    ap (λ ps. ps ++ rest) c.in_ok-push.ensures.items
    ∙ append_assoc before (c.table_place.result ∷ []) rest
    ∙ ap (λ p. before ++ p ∷ rest) place
    ∙ ap (λ ps. before ++ ps) (sym (next_place bytes at k (omega arith)))
    ∙ c.loop-k.invariant

pub returns : goal.returns
returns c =
    let before : List ℕ = c.loop-k.places.items in
    record {
      places = sym (append-nil before)
          ∙ ap (λ ps. before ++ ps) (sym (no_place c.args.self.words.now c.args.self.at c.loop-k.k c.loop-k-test.false))
          ∙ c.loop-k.invariant;
    }
