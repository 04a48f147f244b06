-- The candidates of the free areas.
use Rattle.std.proofs.Common.{◌≡◌, ◌<◌, ◌≤◌, ◌⊎◌, ◌+◌, ◌-◌, ◌==◌, ℕ, zero, suc, Bool, true, false, cond, List, [], ◌∷◌, Option, None, Some, inl, inr, refl, ap, sym, subst, arith}
use Rattle.std.specs.List.{Contains}
use Rattle.std.proofs.lemmas.List.Elements.{Contains-append_cases, Contains-append_left, Contains-append_right}
use Rattle.pm_volume.specs.Directory.{block_count, directory_of, files_begin}
use Rattle.pm_volume.specs.Files.{files_of}
use Rattle.pm_volume.specs.declared.entry.Entry.{Entry}
use Rattle.pm_undelete.specs.Blocks.{blocks_of}
use Rattle.pm_undelete.specs.Codes.{code_size}
use Rattle.pm_undelete.specs.Found.{candidates_of, chosen, found_between, found_from, listed, look_at}
use Rattle.pm_undelete.specs.Texts.{text_size}
use Rattle.pm_undelete.specs.Worked.{BeginsIn, areas}
use Rattle.pm_undelete.specs.declared.finding.Candidate.{Candidate}
use Rattle.pm_undelete.specs.declared.finding.Looks.TheVariants as looks

-- ---- lists

pub here : {A : Type 0} (x : A) (xs : List A) → Contains (x ∷ xs) x
here x xs = (0, omega arith, refl)

pub further : {A : Type 0} (y x : A) (xs : List A) → Contains xs x → Contains (y ∷ xs) x
further y x xs h = Contains-append_right (y ∷ []) xs x h

pub one-only : {A : Type 0} (y x : A) → Contains (y ∷ []) x → y ≡ x
one-only y x (zero, below, is) = is
one-only y x (suc k, below, is) = absurd (omega arith)

none-there : {A : Type 0} (x : A) → Contains [] x → ⊥
none-there x (k, below, is) = omega arith

pub front-or-rest : {A : Type 0} (y x : A) (xs : List A) → Contains (y ∷ xs) x → (y ≡ x) ⊎ Contains xs x
front-or-rest y x xs h = elim (Contains-append_cases (y ∷ []) xs x h) [
  | inl first ↦ inl (one-only y x first)
  | inr rest ↦ inr rest
]

-- ---- one block

listed-is : (o : Option Candidate) (c : Candidate) → Contains (listed o) c → o ≡ Some c
listed-is None c h = absurd (none-there c h)
listed-is (Some d) c h = ap (λ (x : Candidate). Some x) (one-only d c h)

is-listed : (o : Option Candidate) (c : Candidate) → o ≡ Some c → Contains (listed o) c
is-listed o c e = subst (λ (p : Option Candidate). Contains (listed p) c) (sym e) (here c [])

-- A candidate begins at the block that was tried.
begins : (n code text : ℕ) (c : Candidate) → chosen n code text ≡ Some c → c.first ≡ n
begins n code text c = by (code == 0) (text == 0)
  where
    by : (no-code no-text : Bool)
        → cond no-code (cond no-text None (Some (record { first = n; blocks = text; looks = looks.Text })))
        (Some (record { first = n; blocks = code; looks = looks.Code })) ≡ Some c → c.first ≡ n
    by true true e = absurd (cc)
    by true false e = cc
    by false no-text e = cc

-- ---- the blocks of an area

from-sound : (image : List ℕ) (n left : ℕ) (c : Candidate) → Contains (found_from image n left) c
    → (n ≤ c.first) × (c.first < n + left) × (look_at image c.first ((n + left) - c.first) ≡ Some c)
unfolding found_from
from-sound image n zero c h = absurd (none-there c h)
from-sound image n (suc left) c h =
    elim (Contains-append_cases (listed (look_at image n (suc left))) (found_from image (n + 1) left) c h) [
      | inl now ↦
          let e : look_at image n (suc left) ≡ Some c = listed-is (look_at image n (suc left)) c now in
          let first : c.first ≡ n = begins n (code_size (blocks_of image n (n + suc left))) (text_size image n (suc left)) c e in
          let rest : (n + suc left) - n ≡ suc left = omega arith in (
            omega (arith, first),
            omega (arith, first),
            subst (λ (k : ℕ). look_at image k ((n + suc left) - k) ≡ Some c) (sym first)
                (subst (λ (k : ℕ). look_at image n k ≡ Some c) (sym rest) e),
          )
      | inr later ↦
          let more = from-sound image (n + 1) left c later in
          let end : (n + 1) + left ≡ n + suc left = omega arith in (
            omega (arith, more.0),
            omega (arith, more.1),
            subst (λ (k : ℕ). look_at image c.first (k - c.first) ≡ Some c) end more.2,
          )
    ]

from-complete : (image : List ℕ) (n left : ℕ) (c : Candidate) → n ≤ c.first → c.first < n + left
    → look_at image c.first ((n + left) - c.first) ≡ Some c → Contains (found_from image n left) c
unfolding found_from
from-complete image n zero c after before e = absurd (omega arith)
from-complete image n (suc left) c after before e = elim (apart n c.first after) [
  | inl same ↦
      let rest : (n + suc left) - c.first ≡ suc left = omega (arith, same) in
      let now : look_at image n (suc left) ≡ Some c =
      subst (λ (k : ℕ). look_at image k (suc left) ≡ Some c) (sym same)
      (subst (λ (k : ℕ). look_at image c.first k ≡ Some c) rest e) in
      Contains-append_left (listed (look_at image n (suc left))) (found_from image (n + 1) left) c
      (is-listed (look_at image n (suc left)) c now)
  | inr later ↦
      let end : n + suc left ≡ (n + 1) + left = omega arith in
      Contains-append_right (listed (look_at image n (suc left))) (found_from image (n + 1) left) c
      (from-complete image (n + 1) left c later (omega arith)
      (subst (λ (k : ℕ). look_at image c.first (k - c.first) ≡ Some c) end e))
]
  where
    apart : (a b : ℕ) → a ≤ b → (a ≡ b) ⊎ (a + 1 ≤ b)
    apart a b l = grind arith

-- ---- all areas

-- The candidate begins in the area `g`, and looks like a file.
record BeginsAt (image : List ℕ) (c : Candidate) (g : ℕ × ℕ) : Type 0 where
  after : g.0 ≤ c.first
  before : c.first < g.1
  looks : look_at image c.first (g.1 - c.first) ≡ Some c

area-sound : (image : List ℕ) (begin end : ℕ) (c : Candidate) → Contains (found_from image begin (end - begin)) c
    → BeginsAt image c (begin, end)
area-sound image begin end c h =
    let is = from-sound image begin (end - begin) c h in
    let same : begin + (end - begin) ≡ end = omega (arith, is.0, is.1) in
    record {
      after = is.0;
      before = omega (arith, is.0, is.1);
      looks = subst (λ (k : ℕ). look_at image c.first (k - c.first) ≡ Some c) same is.2;
    }

area-complete : (image : List ℕ) (begin end : ℕ) (c : Candidate) → begin ≤ c.first → c.first < end
    → look_at image c.first (end - c.first) ≡ Some c → Contains (found_from image begin (end - begin)) c
area-complete image begin end c after before e =
    let same : end ≡ begin + (end - begin) = omega arith in
    from-complete image begin (end - begin) c after (omega arith)
    (subst (λ (k : ℕ). look_at image c.first (k - c.first) ≡ Some c) same e)

between-sound : (image : List ℕ) (begin : ℕ) (files : List Entry) (end : ℕ) (c : Candidate)
    → Contains (found_between image begin files end) c
    → (g : ℕ × ℕ) × Contains (areas begin files end) g × BeginsAt image c g
between-sound image begin [] end c h = ((begin, end), here _ [], area-sound image begin end c h)
between-sound image begin (e ∷ files) end c h =
    elim (Contains-append_cases (found_from image begin (e.first - begin)) (found_between image e.end files end) c h) [
      | inl now ↦ ((begin, e.first), here _ (areas e.end files end), area-sound image begin e.first c now)
      | inr later ↦
          let more = between-sound image e.end files end c later in
          (more.0, further (begin, e.first) more.0 (areas e.end files end) more.1, more.2)
    ]

between-complete : (image : List ℕ) (begin : ℕ) (files : List Entry) (end : ℕ) (c : Candidate) (g : ℕ × ℕ)
    → Contains (areas begin files end) g → BeginsAt image c g → Contains (found_between image begin files end) c
between-complete image begin [] end c g h is =
    let same : (begin, end) ≡ g = one-only (begin, end) g h in
    let it : BeginsAt image c (begin, end) = subst (BeginsAt image c) (sym same) is in
    area-complete image begin end c it.after it.before it.looks
between-complete image begin (e ∷ files) end c g h is =
    elim (front-or-rest (begin, e.first) g (areas e.end files end) h) [
      | inl same ↦
          let it : BeginsAt image c (begin, e.first) = subst (BeginsAt image c) (sym same) is in
          Contains-append_left (found_from image begin (e.first - begin)) (found_between image e.end files end) c
          (area-complete image begin e.first c it.after it.before it.looks)
      | inr later ↦
          Contains-append_right (found_from image begin (e.first - begin)) (found_between image e.end files end) c
          (between-complete image e.end files end c g later is)
    ]

pub sound : (image : List ℕ) (c : Candidate) → Contains (candidates_of image) c → (area : ℕ × ℕ) × BeginsIn image c area
sound image c h =
    let d = directory_of image in
    let is = between-sound image (files_begin d) (files_of image) (block_count d) c h in
    (is.0, record { area = is.1; after = is.2.after; before = is.2.before; looks = is.2.looks })

pub complete : (image : List ℕ) (c : Candidate) (area : ℕ × ℕ) → BeginsIn image c area → Contains (candidates_of image) c
complete image c area is =
    let d = directory_of image in
    between-complete image (files_begin d) (files_of image) (block_count d) c area is.area
    (record { after = is.after; before = is.before; looks = is.looks })
