-- A block is free if and only if it is in a free area.
use Rattle.std.proofs.Common.{◌≡◌, ◌<◌, ◌≤◌, ◌⊎◌, ◌↔◌, ℕ, List, [], ◌∷◌, inl, inr, sym, subst, arith}
use Rattle.std.specs.List.{All, Contains}
use Rattle.std.proofs.lemmas.List.Elements.{All-cons, All-head, All-nil, All-tail, All-weaker}
use Rattle.pm_volume.specs.Directory.{IsVolume, block_count, directory_of, files_begin}
use Rattle.pm_volume.specs.Entries.{AreInOrder}
use Rattle.pm_volume.specs.Files.{files_of}
use Rattle.pm_volume.specs.declared.entry.Entry.{Entry}
use Rattle.pm_undelete.specs.Worked.{IsFree, IsInArea, areas}
use Rattle.pm_undelete.proofs.Areas.{front-or-rest, further, here, one-only}

abbrev Apart : ℕ → Entry → Type 0
Apart n e = (n < e.first) ⊎ (e.end ≤ n)

-- Block `n` is in one of the areas.
abbrev IsIn : ℕ → List (ℕ × ℕ) → Type 0
IsIn n list = (area : ℕ × ℕ) × Contains list area × (area.0 ≤ n) × (n < area.1)

all-after : (blocks from : ℕ) (es : List Entry) → AreInOrder blocks from es → All (λ (e : Entry). from ≤ e.first) es
unfolding AreInOrder
all-after blocks from [] order = All-nil _
all-after blocks from (x ∷ xs) order =
    All-cons (λ (e : Entry). from ≤ e.first) x xs order.0.after
    (All-weaker (λ (e : Entry). x.end ≤ e.first) (λ (e : Entry). from ≤ e.first)
    (λ e after. omega (arith, after, order.0.after, order.0.ordered)) xs (all-after blocks x.end xs order.2))

into : (blocks from n : ℕ) (es : List Entry) → AreInOrder blocks from es → from ≤ n → n < blocks → All (Apart n) es
    → IsIn n (areas from es blocks)
unfolding AreInOrder
into blocks from n [] order after before apart = ((from, blocks), here _ [], after, before)
into blocks from n (e ∷ es) order after before apart = elim (All-head (Apart n) e es apart) [
  | inl l ↦ ((from, e.first), here _ (areas e.end es blocks), after, l)
  | inr l ↦
      let more = into blocks e.end n es order.2 l before (All-tail (Apart n) e es apart) in
      (more.0, further (from, e.first) more.0 (areas e.end es blocks) more.1, more.2, more.3)
]

-- Block `n` is free, and is a block from `from` on.
record IsApart (blocks from n : ℕ) (es : List Entry) : Type 0 where
  after : from ≤ n
  within : n < blocks
  apart : All (Apart n) es

out : (blocks from n : ℕ) (es : List Entry) → from ≤ blocks → AreInOrder blocks from es → IsIn n (areas from es blocks)
    → IsApart blocks from n es
unfolding AreInOrder
out blocks from n [] room order is =
    let same : (from, blocks) ≡ is.0 = one-only (from, blocks) is.0 is.1 in
    let it : (from ≤ n) × (n < blocks) = subst (λ (a : ℕ × ℕ). (a.0 ≤ n) × (n < a.1)) (sym same) (is.2, is.3) in
    record { after = it.0; within = it.1; apart = All-nil _ }
out blocks from n (e ∷ es) room order is = elim (front-or-rest (from, e.first) is.0 (areas e.end es blocks) is.1) [
  | inl same ↦
      let it : (from ≤ n) × (n < e.first) = subst (λ (a : ℕ × ℕ). (a.0 ≤ n) × (n < a.1)) (sym same) (is.2, is.3) in
      record {
        after = it.0;
        within = omega (arith, it.1, order.0.ordered, order.1);
        apart = All-cons (Apart n) e es (inl it.1)
            (All-weaker (λ (x : Entry). e.end ≤ x.first) (Apart n) (λ x l. inl (omega (arith, l, it.1, order.0.ordered))) es
            (all-after blocks e.end es order.2));
      }
  | inr later ↦
      let it = out blocks e.end n es order.1 order.2 (is.0, later, is.2, is.3) in
      record {
        after = omega (arith, it.after, order.0.after, order.0.ordered);
        within = it.within;
        apart = All-cons (Apart n) e es (inr it.after) it.apart;
      }
]

pub in_areas : (image : List ℕ) → IsVolume image → (n : ℕ) → IsFree image n ↔ IsInArea image n
in_areas image volume n =
    let d = directory_of image in
    let is = volume.has_directory in (
      λ free. into (block_count d) (files_begin d) n (files_of image) is.in_order free.after free.within free.apart,
      λ area. let it = out (block_count d) (files_begin d) n (files_of image) is.holds_directory is.in_order area in
          record { after = it.after; within = it.within; apart = it.apart },
    )
