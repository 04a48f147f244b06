-- The gap that is found for a new file is the lowest gap that is large enough.
use Rattle.std.proofs.Common.{◌≡◌, ◌≤◌, ◌⊎◌, ℕ, ◌+◌, ◌-◌, false, eqb, leb, List, [], ◌∷◌, inl, inr, Some, None, arith, subst}
use Rattle.std.proofs.lemmas.Bool.{cases_Bool, leb-false}
use Rattle.std.proofs.lemmas.Bool.Decides.{nat_tests}
use Rattle.std.proofs.lemmas.List.Elements.{All-head, All-tail}
use Rattle.std.specs.List.{All, find}
use Rattle.pm_volume.specs.Changes.{gaps, serves}
use Rattle.pm_volume.specs.declared.entry.Entry.{Entry}
use Rattle.pm_volume.specs.declared.gap.Gap.{Gap}

some-same : {A : Type 0} (x y : A) → Some x ≡ Some y → x ≡ y
some-same x y h = cc

-- If a gap does not serve a file of `need` blocks, then no `need` successive blocks are in this gap.
too-small : (need count : ℕ) (g : Gap) → 1 ≤ need → serves need count g ≡ false → (begin : ℕ) → g.begin ≤ begin → begin + need ≤ g.end → ⊥
too-small need count g some stops begin after within =
    let more : eqb need 0 ≡ false = grind (arith, nat_tests, some) in
    let room : leb need (g.end - g.begin) ≡ false = rw more at stops in
    let small = leb-false need (g.end - g.begin) room in
    omega (arith, small)

-- If `need` successive blocks are free, then the gap that is found begins at or before the first of these blocks.
pub lowest_gap : (need count blocks n from : ℕ) (es : List Entry) (g : Gap) → 1 ≤ need → find (serves need count) (gaps blocks n from es) ≡ Some g
    → (begin : ℕ) → from ≤ begin → begin + need ≤ blocks → All (λ (e : Entry). (e.end ≤ begin) ⊎ (begin + need ≤ e.first)) es → g.begin ≤ begin
unfolding gaps
lowest_gap need count blocks n from [] g some found begin after within apart =
    let here : Gap = record { place = n; begin = from; end = blocks } in
    elim (cases_Bool (serves need count here)) [
      | inl passes ↦
          let same : here ≡ g = some-same here g (rw passes at found) in
          subst (λ (x : Gap). x.begin ≤ begin) same after
      | inr stops ↦ absurd (too-small need count here some stops begin after within)
    ]
lowest_gap need count blocks n from (e ∷ es) g some found begin after within apart =
    let here : Gap = record { place = n; begin = from; end = e.first } in
    elim (cases_Bool (serves need count here)) [
      | inl passes ↦
          let same : here ≡ g = some-same here g (rw passes at found) in
          subst (λ (x : Gap). x.begin ≤ begin) same after
      | inr stops ↦
          let rest : find (serves need count) (gaps blocks (n + 1) e.end es) ≡ Some g = rw stops at found in
          elim (All-head (λ (x : Entry). (x.end ≤ begin) ⊎ (begin + need ≤ x.first)) e es apart) [
            | inl before ↦
                lowest_gap need count blocks (n + 1) e.end es g some rest begin before within
                (All-tail (λ (x : Entry). (x.end ≤ begin) ⊎ (begin + need ≤ x.first)) e es apart)
            | inr behind ↦ absurd (too-small need count here some stops begin after behind)
          ]
    ]

-- If no gap is found, then no `need` successive blocks are free.
pub no_gap : (need count blocks n from : ℕ) (es : List Entry) → 1 ≤ need → find (serves need count) (gaps blocks n from es) ≡ None
    → (begin : ℕ) → from ≤ begin → begin + need ≤ blocks → All (λ (e : Entry). (e.end ≤ begin) ⊎ (begin + need ≤ e.first)) es → ⊥
unfolding gaps
no_gap need count blocks n from [] some none begin after within apart =
    let here : Gap = record { place = n; begin = from; end = blocks } in
    elim (cases_Bool (serves need count here)) [
      | inl passes ↦ let found : Some here ≡ None = rw passes at none in cc
      | inr stops ↦ too-small need count here some stops begin after within
    ]
no_gap need count blocks n from (e ∷ es) some none begin after within apart =
    let here : Gap = record { place = n; begin = from; end = e.first } in
    elim (cases_Bool (serves need count here)) [
      | inl passes ↦ let found : Some here ≡ None = rw passes at none in cc
      | inr stops ↦
          let rest : find (serves need count) (gaps blocks (n + 1) e.end es) ≡ None = rw stops at none in
          elim (All-head (λ (x : Entry). (x.end ≤ begin) ⊎ (begin + need ≤ x.first)) e es apart) [
            | inl before ↦
                no_gap need count blocks (n + 1) e.end es some rest begin before within
                (All-tail (λ (x : Entry). (x.end ≤ begin) ⊎ (begin + need ≤ x.first)) e es apart)
            | inr behind ↦ too-small need count here some stops begin after behind
          ]
    ]
