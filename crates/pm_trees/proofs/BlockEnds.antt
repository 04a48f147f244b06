-- Laws of the ends that are recorded by offset.
use Rattle.std.proofs.Common.{◌≡◌, ◌<◌, ℕ, zero, suc, Bool, true, false, List, [], ◌∷◌, ◌++◌, length, set, replicate, refl, sym, ap, ◌∙◌, arith, Option}
use Rattle.std.specs.Prelude.{◌==◌, if◌then◌else◌}
use Rattle.pm_trees.specs.declared.statement.Statement.{Statement}
use Rattle.pm_trees.specs.Backs.{Way, back_end, back_place, later_end, written}
use Rattle.std.proofs.lemmas.List.{get_or-set_other, get_or-set_same}
use Rattle.std.proofs.lemmas.Bool.Decides.{nat_tests}

none_there : (n p : ℕ) → written (replicate n 0) p ≡ 0
none_there zero p = refl
none_there (suc n) zero = refl
none_there (suc n) (suc p) = none_there n p

pub has_more : (ends : List ℕ) (n p : ℕ) → written (ends ++ replicate n 0) p ≡ written ends p
has_more [] n p = none_there n p
has_more (e ∷ ends) n zero = refl
has_more (e ∷ ends) n (suc p) = has_more ends n p

pub has_set : (ends : List ℕ) (place p end : ℕ) → place < length ends
    → written (set ends place end) p ≡ (if place == p then end else written ends p)
has_set ends place p end low = by (place == p) refl
  where
    by : (b : Bool) → (place == p) ≡ b
        → written (set ends place end) p ≡ (if b then end else written ends p)
    by true e =
        let same : p ≡ place = grind (arith, nat_tests, e) in
        ap (λ (q : ℕ). written (set ends place end) q) same ∙ get_or-set_same ends place end 0 low
    by false e = get_or-set_other ends place p end 0 (λ q. absurd (grind (arith, nat_tests, e, q)))

-- Let `new` be the list of ends `old` after the statement `s` is recorded. Then recording the remaining statements in
-- `new` has the same result as recording `s` and the remaining statements in `old`.
pub ends_step : (w : Way) (p : ℕ) (s : Statement) (ss now : List Statement) (old new : List ℕ) (back : Option ℕ) (end : ℕ) → now ≡ s ∷ ss
    → back ≡ back_place w s.leads s.at → written new p ≡ later_end p (written old p) back s.behind
    → back_end w p (written old p) now ≡ end → back_end w p (written new p) ss ≡ end
unfolding back_end
ends_step w p s ss now old new back end e f g h =
    ap (λ (n : ℕ). back_end w p n ss) (g ∙ ap (λ b. later_end p (written old p) b s.behind) f)
    ∙ ap (back_end w p (written old p)) (sym e)
    ∙ h

pub ends_done : (w : Way) (p n : ℕ) (ss : List Statement) → ss ≡ [] → back_end w p n ss ≡ n
unfolding back_end
ends_done w p n ss e = ap (back_end w p n) e
