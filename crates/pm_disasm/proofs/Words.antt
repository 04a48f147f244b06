-- The words of a table, one after another.
use Rattle.std.proofs.Common.{◌≡◌, ◌<◌, ◌≤◌, ℕ, ◌+◌, ◌-◌, ◌*◌, ◌/◌, ◌%◌, List, [], ◌∷◌, length, drop, get_or, sym, ap, ◌∙◌, arith, length-drop}
use Rattle.std.specs.Prelude.{Bool, true, false, ◌&&◌}
use Rattle.std.specs.List.{list_all}
use Rattle.pm_words.specs.Words.{words_of}
use Rattle.pm_code.proofs.Words.{none_left, words_at}
use Rattle.pm_disasm.specs.Split.{table_places}

-- The targets from word `k` on are the target of word `k`, followed by the targets from word `k + 1` on.
pub next_place : (bs : List ℕ) (at k : ℕ) → 2 * k + 1 < length bs → table_places (at + 2 * k) (words_of (drop (2 * k) bs))
    ≡ ((at + 2 * k + 65536 - (get_or bs (2 * k) 0 + 256 * get_or bs (2 * k + 1) 0)) % 65536)
    ∷ table_places (at + 2 * (k + 1)) (words_of (drop (2 * (k + 1)) bs))
next_place bs at k h =
    let w : ℕ = get_or bs (2 * k) 0 + 256 * get_or bs (2 * k + 1) 0 in
    let next : at + 2 * k + 2 ≡ at + 2 * (k + 1) = omega arith in
    ap (table_places (at + 2 * k)) (words_at bs k h)
    ∙ ap (λ n. ((at + 2 * k + 65536 - w) % 65536) ∷ table_places n (words_of (drop (2 * (k + 1)) bs))) next

pub no_place : (bs : List ℕ) (at k : ℕ) → length bs / 2 ≤ k → table_places (at + 2 * k) (words_of (drop (2 * k) bs)) ≡ []
no_place bs at k h = ap (table_places (at + 2 * k)) (none_left (drop (2 * k) bs) (omega (arith, length-drop (2 * k) bs)))

-- If the target of word `k` fails the test, then not all targets of the table pass it.
pub table_out : (test : ℕ → Bool) (bs : List ℕ) (at k p : ℕ) (whole : Bool) → 2 * k + 1 < length bs
    → p ≡ (at + 2 * k + 65536 - (get_or bs (2 * k) 0 + 256 * get_or bs (2 * k + 1) 0)) % 65536 → test p ≡ false
    → list_all test (table_places (at + 2 * k) (words_of (drop (2 * k) bs))) ≡ whole → false ≡ whole
table_out test bs at k p whole h e out i =
    let rest : List ℕ = table_places (at + 2 * (k + 1)) (words_of (drop (2 * (k + 1)) bs)) in
    sym (ap (λ b. b && list_all test rest) out) ∙ ap (λ q. test q && list_all test rest) e ∙ ap (list_all test) (sym (next_place bs at k h)) ∙ i

pub table_in : (test : ℕ → Bool) (bs : List ℕ) (at k p : ℕ) (whole : Bool) → 2 * k + 1 < length bs
    → p ≡ (at + 2 * k + 65536 - (get_or bs (2 * k) 0 + 256 * get_or bs (2 * k + 1) 0)) % 65536 → test p ≡ true
    → list_all test (table_places (at + 2 * k) (words_of (drop (2 * k) bs))) ≡ whole
    → list_all test (table_places (at + 2 * (k + 1)) (words_of (drop (2 * (k + 1)) bs))) ≡ whole
table_in test bs at k p whole h e within i =
    let rest : List ℕ = table_places (at + 2 * (k + 1)) (words_of (drop (2 * (k + 1)) bs)) in
    sym (ap (λ b. b && list_all test rest) within) ∙ ap (λ q. test q && list_all test rest) e ∙ ap (list_all test) (sym (next_place bs at k h)) ∙ i
