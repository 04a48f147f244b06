-- The entries of a jump table, one after another.
use Rattle.std.proofs.Common.{◌≡◌, ◌<◌, ◌≤◌, ℕ, suc, ◌+◌, ◌-◌, ◌*◌, Bool, true, false, List, [], ◌∷◌, ◌++◌, refl, sym, ap, ◌∙◌, arith, append_assoc, append-nil}
use Rattle.std.specs.Prelude.{◌&&◌, nat_le}
use Rattle.std.specs.List.{list_all}
use Rattle.pm_codefile.specs.declared.table.Attributes.{Attributes}
use Rattle.pm_codefile.specs.Dictionary.{word_in}
use Rattle.pm_disasm.specs.Chosen.{are_inside}
use Rattle.pm_disasm.specs.Split.{are_after, entry_places}

less_one : (count k : ℕ) → k < count → count - k ≡ suc (count - (k + 1))
less_one count k h = omega arith

apart : (a b c d : Bool) → ((a && b) && (c && d)) ≡ ((a && c) && (b && d))
apart true true c d = refl
apart true false true d = refl
apart true false false d = refl
apart false b c d = refl

abbrev Inside : List ℕ → Attributes → ℕ → ℕ → ℕ → Bool
Inside segment a end at w = nat_le (a.enter + w) at && nat_le (at - w) end

-- All targets from entry `k` on are inside the code if and only if the target of entry `k` is and those after it are.
next_inside : (segment : List ℕ) (a : Attributes) (end k count w : ℕ) → k < count → w ≡ word_in segment (a.jtab - 10 - 2 * k)
    → are_inside segment a end a.jtab k (count - k) ≡ (Inside segment a end (a.jtab - 10 - 2 * k) w
    && are_inside segment a end a.jtab (k + 1) (count - (k + 1)))
next_inside segment a end k count w h e =
    let at : ℕ = a.jtab - 10 - 2 * k in
    let n : ℕ = count - (k + 1) in
    ap (are_inside segment a end a.jtab k) (less_one count k h)
    ∙ apart (nat_le (a.enter + word_in segment at) at) (are_after segment a.enter a.jtab (k + 1) n) (nat_le (at - word_in segment at) end)
    (list_all (λ place. nat_le place end) (entry_places segment a.jtab (k + 1) n))
    ∙ ap (λ v. Inside segment a end at v && are_inside segment a end a.jtab (k + 1) n) (sym e)

pub entry_out : (segment : List ℕ) (a : Attributes) (end k count w : ℕ) (leads whole : Bool) → k < count → w ≡ word_in segment (a.jtab - 10 - 2 * k)
    → leads ≡ Inside segment a end (a.jtab - 10 - 2 * k) w → leads ≡ false
    → are_inside segment a end a.jtab k (count - k) ≡ whole → false ≡ whole
entry_out segment a end k count w leads whole h e l f i =
    ap (λ b. b && are_inside segment a end a.jtab (k + 1) (count - (k + 1))) (sym f ∙ l) ∙ sym (next_inside segment a end k count w h e) ∙ i

pub entry_in : (segment : List ℕ) (a : Attributes) (end k count w : ℕ) (leads whole : Bool) → k < count → w ≡ word_in segment (a.jtab - 10 - 2 * k)
    → leads ≡ Inside segment a end (a.jtab - 10 - 2 * k) w → leads ≡ true
    → are_inside segment a end a.jtab k (count - k) ≡ whole → are_inside segment a end a.jtab (k + 1) (count - (k + 1)) ≡ whole
entry_in segment a end k count w leads whole h e l t i =
    ap (λ b. b && are_inside segment a end a.jtab (k + 1) (count - (k + 1))) (sym t ∙ l) ∙ sym (next_inside segment a end k count w h e) ∙ i

pub entry_taken : (segment : List ℕ) (a : Attributes) (k count w place : ℕ) (done whole : List ℕ) → k < count → w ≡ word_in segment (a.jtab - 10 - 2 * k)
    → place ≡ a.jtab - 10 - 2 * k - w
    → done ++ entry_places segment a.jtab k (count - k) ≡ whole → (done ++ place ∷ []) ++ entry_places segment a.jtab (k + 1) (count - (k + 1)) ≡ whole
entry_taken segment a k count w place done whole h e p i =
    let at : ℕ = a.jtab - 10 - 2 * k in
    let rest : List ℕ = entry_places segment a.jtab (k + 1) (count - (k + 1)) in
    append_assoc done (place ∷ []) rest
    ∙ ap (λ q. done ++ q ∷ rest) (p ∙ ap (λ v. at - v) e)
    ∙ ap (λ n. done ++ entry_places segment a.jtab k n) (sym (less_one count k h))
    ∙ i

pub entries_done : (segment : List ℕ) (a : Attributes) (k count : ℕ) (done whole : List ℕ) → count ≤ k
    → done ++ entry_places segment a.jtab k (count - k) ≡ whole → done ≡ whole
entries_done segment a k count done whole h i =
    let none : count - k ≡ 0 = omega arith in
    sym (append-nil done) ∙ ap (λ n. done ++ entry_places segment a.jtab k n) (sym none) ∙ i

pub inside_done : (segment : List ℕ) (a : Attributes) (end k count : ℕ) (whole : Bool) → count ≤ k → are_inside segment a end a.jtab k (count - k) ≡ whole
    → true ≡ whole
inside_done segment a end k count whole h i =
    let none : count - k ≡ 0 = omega arith in
    ap (are_inside segment a end a.jtab k) (sym none) ∙ i
