-- Blocks are all free if and only if each of them is free.
use Rattle.std.proofs.Common.{◌≡◌, ◌<◌, ◌≤◌, ◌⊎◌, ◌↔◌, ◌&&◌, ◌||◌, ◌+◌, ℕ, Bool, true, false, List, [], ◌∷◌, nat_le, nat_lt, ◌-◌, inl, inr, max, refl, arith}
use Rattle.std.specs.List.{All, list_all}
use Rattle.std.proofs.lemmas.Bool.Decides.{nat_tests}
use Rattle.std.proofs.lemmas.List.Elements.{All-cons, All-head, All-nil, All-tail}
use Rattle.pm_volume.specs.Directory.{block_count, directory_of, files_begin}
use Rattle.pm_volume.specs.Files.{files_of}
use Rattle.pm_volume.specs.declared.entry.Entry.{Entry}
use Rattle.pm_undelete.specs.Blocks.{are_free, is_outside}
use Rattle.pm_undelete.specs.Worked.{IsFree}

pub both : (a b : Bool) → (a && b) ≡ true → (a ≡ true) × (b ≡ true)
both true true e = (refl, refl)
both true false e = absurd (cc)
both false b e = absurd (cc)

together : (a b : Bool) → a ≡ true → b ≡ true → (a && b) ≡ true
together a b x y = rw (x, y) refl

pub le-is : (a b : ℕ) → nat_le a b ≡ true → a ≤ b
le-is a b e = grind (arith, nat_tests)

is-le : (a b : ℕ) → a ≤ b → nat_le a b ≡ true
is-le a b l = grind (arith, nat_tests)

lt-is : (a b : ℕ) → nat_lt a b ≡ true → a < b
lt-is a b e = grind (arith, nat_tests)

is-lt : (a b : ℕ) → a < b → nat_lt a b ≡ true
is-lt a b l = grind (arith, nat_tests)

abbrev Apart : ℕ → Entry → Type 0
Apart n e = (n < e.first) ⊎ (e.end ≤ n)

-- ---- one file

outside-is : (first end n : ℕ) (e : Entry) → is_outside first end e ≡ true → first ≤ n → n < end → Apart n e
outside-is first end n e is after before = by (nat_le e.end e.first) (nat_le end e.first) (nat_le e.end first) refl refl refl is
  where
    by : (empty behind ahead : Bool) → nat_le e.end e.first ≡ empty → nat_le end e.first ≡ behind → nat_le e.end first ≡ ahead
        → (empty || (behind || ahead)) ≡ true → Apart n e
    by true behind ahead a b c h = let l : e.end ≤ e.first = le-is _ _ a in grind (arith, l)
    by false true ahead a b c h = let l : end ≤ e.first = le-is _ _ b in inl (omega (arith, l))
    by false false true a b c h = let l : e.end ≤ first = le-is _ _ c in inr (omega (arith, l))
    by false false false a b c h = absurd (cc)

is-outside : (first end : ℕ) (e : Entry) → first < end → ((n : ℕ) → first ≤ n → n < end → Apart n e)
    → is_outside first end e ≡ true
is-outside first end e some each = by (nat_le e.end e.first) (nat_le end e.first) (nat_le e.end first) refl refl refl
  where
    by : (empty behind ahead : Bool) → nat_le e.end e.first ≡ empty → nat_le end e.first ≡ behind → nat_le e.end first ≡ ahead
        → (empty || (behind || ahead)) ≡ true
    by true behind ahead a b c = refl
    by false true ahead a b c = refl
    by false false true a b c = refl
    by false false false a b c =
        let x : e.first < e.end = grind (arith, nat_tests, a) in
        let y : e.first < end = grind (arith, nat_tests, b) in
        let z : first < e.end = grind (arith, nat_tests, c) in
        elim (each (max first e.first) (omega arith) (omega (arith, y, some))) [
          | inl l ↦ absurd (omega (arith, l))
          | inr l ↦ absurd (omega (arith, l, x, z))
        ]

-- ---- all files

all-outside : (first end n : ℕ) (files : List Entry) → list_all (is_outside first end) files ≡ true → first ≤ n → n < end
    → All (Apart n) files
all-outside first end n [] h after before = All-nil _
all-outside first end n (e ∷ files) h after before =
    let p = both (is_outside first end e) (list_all (is_outside first end) files) h in
    All-cons (Apart n) e files (outside-is first end n e p.0 after before) (all-outside first end n files p.1 after before)

outside-all : (first end : ℕ) (files : List Entry) → first < end → ((n : ℕ) → first ≤ n → n < end → All (Apart n) files)
    → list_all (is_outside first end) files ≡ true
outside-all first end [] some each = refl
outside-all first end (e ∷ files) some each =
    together (is_outside first end e) (list_all (is_outside first end) files)
    (is-outside first end e some (λ n after before. All-head (Apart n) e files (each n after before)))
    (outside-all first end files some (λ n after before. All-tail (Apart n) e files (each n after before)))

-- ---- the blocks

free-each : (image : List ℕ) (first end : ℕ) → are_free image first end ≡ true
    → (first < end) × ((n : ℕ) → first ≤ n → n < end → IsFree image n)
free-each image first end h =
    let d = directory_of image in
    let p = both (nat_lt first end) (nat_le (files_begin d) first && (nat_le end (block_count d) && list_all (is_outside first end) (files_of image))) h in
    let q = both (nat_le (files_begin d) first) (nat_le end (block_count d) && list_all (is_outside first end) (files_of image)) p.1 in
    let r = both (nat_le end (block_count d)) (list_all (is_outside first end) (files_of image)) q.1 in
    let begun : files_begin d ≤ first = le-is _ _ q.0 in
    let ended : end ≤ block_count d = le-is _ _ r.0 in (
      lt-is _ _ p.0,
      λ n after before. record {
        after = omega (arith, begun, after);
        within = omega (arith, ended, before);
        apart = all-outside first end n (files_of image) r.1 after before;
      },
    )

each-free : (image : List ℕ) (first end : ℕ) → (first < end) × ((n : ℕ) → first ≤ n → n < end → IsFree image n)
    → are_free image first end ≡ true
each-free image first end p =
    let d = directory_of image in
    let some : first < end = p.0 in
    let start = p.1 first (omega arith) some in
    let last : (k : ℕ) × (end ≡ k + 1) = (end - 1, omega (arith, some)) in
    let stop = p.1 last.0 (omega (arith, some, last.1)) (omega (arith, last.1)) in
    let begun : files_begin d ≤ first = start.after in
    let ended : end ≤ block_count d = omega (arith, stop.within, last.1) in
    together (nat_lt first end) (nat_le (files_begin d) first && (nat_le end (block_count d) && list_all (is_outside first end) (files_of image)))
    (is-lt _ _ some)
    (together (nat_le (files_begin d) first) (nat_le end (block_count d) && list_all (is_outside first end) (files_of image)) (is-le _ _ begun)
    (together (nat_le end (block_count d)) (list_all (is_outside first end) (files_of image)) (is-le _ _ ended)
    (outside-all first end (files_of image) some (λ n after before. (p.1 n after before).apart))))

pub each : (image : List ℕ) (first end : ℕ) → (are_free image first end ≡ true)
    ↔ ((first < end) × ((n : ℕ) → first ≤ n → n < end → IsFree image n))
each image first end = (free-each image first end, each-free image first end)
