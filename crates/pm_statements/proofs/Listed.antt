-- The lines of statements are appended one after another.
use Rattle.std.proofs.Common.{◌≡◌, ◌<◌, ◌≤◌, ℕ, suc, Bool, List, [], ◌∷◌, ◌++◌, ◌+◌, ◌-◌, arith, drop, length, refl, sym, ap, ◌∙◌, append_assoc}
use Rattle.std.specs.Prelude.{codes, min}
use Rattle.std.proofs.lemmas.List.{append-nil, drop_all}
use Rattle.pm_code.specs.Item.{Item, size}
use Rattle.pm_phrases.specs.Shown.{Shown}
use Rattle.pm_trees.specs.declared.left.Left.{Left}
use Rattle.pm_trees.specs.Parts.{Known, Part, part_of, parts, place_at}
use Rattle.pm_statements.specs.Depths.{Depths, at_place}
use Rattle.pm_statements.specs.Texts.{blanks, is_call, line, lines, two_each}

pub lines_none : (d : Depths) (behind_call : Bool) (ls : List Left) → lines d behind_call ls [] ≡ []
unfolding lines
lines_none d b [] = refl
lines_none d b (l ∷ ls) = refl

pub lines_done : (d : Depths) (behind_call : Bool) (i : ℕ) (ls : List Left) (ss : List Shown) → length ls ≤ i
    → lines d behind_call (drop i ls) ss ≡ []
unfolding lines
lines_done d b i ls ss high = ap (λ l. lines d b l ss) (drop_all i ls high)

pub lines_step : (d : Depths) (behind_call : Bool) (ls more : List Left) (ss rest : List Shown) (l : Left) (s : Shown) (before : List ℕ)
    → ls ≡ l ∷ more → ss ≡ s ∷ rest
    → (before ++ line (at_place d l.place.offset) behind_call l s) ++ lines d (is_call l) more rest ≡ before ++ lines d behind_call ls ss
unfolding lines
lines_step d b ls more ss rest l s before e f =
    append_assoc before (line (at_place d l.place.offset) b l s) (lines d (is_call l) more rest)
    ∙ sym (ap (λ x. before ++ lines d b x ss) e ∙ ap (λ x. before ++ lines d b (l ∷ more) x) f)

-- If the part of the next item is appended, then the parts of the remaining items complete the list.
pub parts_step : (k : Known) (used : List ℕ) (exit at next : ℕ) (item : Item ℕ) (items all : List (Item ℕ)) (part : Part) (front more : List Part)
    → all ≡ item ∷ items → part ≡ part_of k item (place_at used exit at) → next ≡ at + size at item → more ≡ front ++ part ∷ []
    → more ++ parts k used exit next items ≡ front ++ parts k used exit at all
parts_step k used exit at next item items all part front more a c d e =
    ap (λ m. m ++ parts k used exit next items) e
    ∙ append_assoc front (part ∷ []) (parts k used exit next items)
    ∙ ap (λ p. front ++ p ∷ parts k used exit next items) c
    ∙ ap (λ (n : ℕ). front ++ part_of k item (place_at used exit at) ∷ parts k used exit n items) d
    ∙ ap (λ is. front ++ parts k used exit at is) (sym a)

pub parts_done : (k : Known) (used : List ℕ) (exit at : ℕ) (items : List (Item ℕ)) (front : List Part) → items ≡ []
    → front ++ parts k used exit at items ≡ front
parts_done k used exit at items front e = ap (λ is. front ++ parts k used exit at is) e ∙ append-nil front

-- If the depth is at least 30, then the indentation is that of depth 30. Otherwise it is two spaces for each level.
pub all_levels : (depth : ℕ) → 30 ≤ depth → blanks depth ≡ codes "                                                            "
all_levels depth high = let same : min depth 30 ≡ 30 = omega (arith, high) in ap two_each same

pub few_levels : (depth : ℕ) → depth < 30 → blanks depth ≡ two_each depth
few_levels depth low = let same : min depth 30 ≡ depth = omega (arith, low) in ap two_each same

-- If the spaces of eight levels or of one level are appended, then the spaces of the remaining levels complete the
-- indentation. If no level remains, the indentation is complete.
pub eight_step : (rest : ℕ) (out new whole : List ℕ) → 8 ≤ rest → new ≡ out ++ two_each 8
    → out ++ two_each rest ≡ whole → new ++ two_each (rest - 8) ≡ whole
eight_step rest out new whole high n i =
    let more : rest ≡ suc (suc (suc (suc (suc (suc (suc (suc (rest - 8)))))))) = omega (arith, high) in
    let behind : List ℕ = two_each (rest - 8) in
    ap (λ t. t ++ behind) n
    ∙ append_assoc out (two_each 8) behind
    ∙ ap (λ (k : ℕ). out ++ two_each k) (sym more)
    ∙ i

pub blanks_step : (rest : ℕ) (out new whole : List ℕ) → 0 < rest → new ≡ out ++ 32 ∷ 32 ∷ []
    → out ++ two_each rest ≡ whole → new ++ two_each (rest - 1) ≡ whole
blanks_step rest out new whole high n i =
    let more : rest ≡ suc (rest - 1) = omega (arith, high) in
    let behind : List ℕ = two_each (rest - 1) in
    ap (λ t. t ++ behind) n
    ∙ append_assoc out (32 ∷ 32 ∷ []) behind
    ∙ ap (λ (k : ℕ). out ++ two_each k) (sym more)
    ∙ i

pub blanks_done : (rest : ℕ) (out whole : List ℕ) → rest ≤ 0 → out ++ two_each rest ≡ whole → out ≡ whole
blanks_done rest out whole low i =
    let none : rest ≡ 0 = omega (arith, low) in
    sym (append-nil out) ∙ ap (λ (k : ℕ). out ++ two_each k) (sym none) ∙ i
