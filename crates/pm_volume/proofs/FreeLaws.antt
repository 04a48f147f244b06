-- The free blocks of a volume after its files are moved together.
use Rattle.std.proofs.Common.{◌≡◌, ◌==◌, ◌≤◌, ◌<◌, ℕ, ◌+◌, ◌-◌, List, [], ◌∷◌, ◌∙◌, ap, sym, refl, inl, inr, arith}
use Rattle.std.proofs.Math.Nat.{max-zero, zero-max}
use Rattle.std.proofs.lemmas.Bool.{cases_Bool, eqb-true}
use Rattle.std.proofs.lemmas.List.Elements.{All-head, All-tail}
use Rattle.std.proofs.lemmas.List.Sums.{sum_by-cons}
use Rattle.std.specs.List.{All, fold, sum_by}
use Rattle.std.specs.Prelude.{◌≢◌, max}
use Rattle.pm_volume.specs.Changes.{gaps}
use Rattle.pm_volume.specs.Directory.{IsVolume, block_count, directory_of, files_begin}
use Rattle.pm_volume.specs.Entries.{AreInOrder}
use Rattle.pm_volume.specs.Files.{files_of}
use Rattle.pm_volume.specs.Packing.{krunched_image, moved_entry, new_place, packed}
use Rattle.pm_volume.specs.Space.{free_blocks, gap_size, largest_gap}
use Rattle.pm_volume.specs.declared.entry.Entry.{Entry}
use Rattle.pm_volume.specs.declared.gap.Gap.{Gap}
use Rattle.pm_volume.proofs.KrunchLaws.{gaps-krunched}
use Rattle.pm_volume.proofs.PackedLaws.{order-packed}

-- The number of blocks of all files of the list together.
taken : List Entry → ℕ
taken [] = 0
taken (e ∷ es) = (e.end - e.first) + taken es

taken-packed : (from : ℕ) (es : List Entry) → taken (packed from es) ≡ taken es
unfolding taken packed
taken-packed from [] = refl
taken-packed from (e ∷ es) =
    let to = new_place from e in
    omega (arith, taken-packed (to + (e.end - e.first)) es)

-- The free blocks, the blocks of the files and the blocks below `from` are together all `blocks` blocks.
free-taken : (blocks n from : ℕ) (es : List Entry) → AreInOrder blocks from es → from ≤ blocks
    → sum_by gap_size (gaps blocks n from es) + taken es + from ≡ blocks
unfolding gaps taken AreInOrder
free-taken blocks n from [] order room =
    let here : Gap = record { place = n; begin = from; end = blocks } in
    omega (arith, sum_by-cons gap_size here [])
free-taken blocks n from (e ∷ es) order room =
    let here : Gap = record { place = n; begin = from; end = e.first } in
    let rest = free-taken blocks (n + 1) e.end es order.2 order.1 in
    omega (arith, sum_by-cons gap_size here (gaps blocks (n + 1) e.end es), rest, order.0.after, order.0.ordered)

-- If no file consists of bad blocks, then all gaps except the last are empty after the files are moved together. So the
-- largest gap has all free blocks.
one_gap : (a blocks n from : ℕ) (es : List Entry) → All (λ (e : Entry). e.kind ≢ 1) es
    → fold (λ most gap. max most (gap_size gap)) a (gaps blocks n from (packed from es))
    ≡ max a (sum_by gap_size (gaps blocks n from (packed from es)))
unfolding gaps packed
one_gap a blocks n from [] good =
    let here : Gap = record { place = n; begin = from; end = blocks } in
    let all : sum_by gap_size (here ∷ []) ≡ blocks - from = omega (arith, sum_by-cons gap_size here []) in
    ap (max a) (sym all)
one_gap a blocks n from (e ∷ es) good = elim (cases_Bool (e.kind == 1)) [
  | inl bad ↦ absurd (All-head (λ (x : Entry). x.kind ≢ 1) e es good (eqb-true e.kind 1 bad))
  | inr moves ↦
      let f = moved_entry e from in
      let here : Gap = record { place = n; begin = from; end = from } in
      let rest = gaps blocks (n + 1) f.end (packed f.end es) in
      let empty : from - from ≡ 0 = omega arith in
      let all : sum_by gap_size (here ∷ rest) ≡ sum_by gap_size rest = omega (arith, sum_by-cons gap_size here rest) in
      rw (moves, all, empty, max-zero a) (one_gap a blocks (n + 1) f.end es (All-tail (λ (x : Entry). x.kind ≢ 1) e es good))
]

module _ (image : List ℕ) (v : IsVolume image) (fits : block_count (directory_of image) < 65536) where
  pub free-krunched : free_blocks (krunched_image image) ≡ free_blocks image
  unfolding free_blocks
  free-krunched =
      let d = directory_of image in
      let h = v.has_directory in
      let at = gaps-krunched image v fits in
      let old = free-taken (block_count d) 1 (files_begin d) (files_of image) h.in_order h.holds_directory in
      let new = free-taken (block_count d) 1 (files_begin d) (packed (files_begin d) (files_of image))
      (order-packed (block_count d) (files_begin d) (files_of image) h.in_order) h.holds_directory in
      rw at (omega (arith, old, new, taken-packed (files_begin d) (files_of image)))

  pub largest-krunched : All (λ (e : Entry). e.kind ≢ 1) (files_of image) → largest_gap (krunched_image image) ≡ free_blocks (krunched_image image)
  unfolding free_blocks largest_gap
  largest-krunched good =
      let d = directory_of image in
      let at = gaps-krunched image v fits in
      rw at (one_gap 0 (block_count d) 1 (files_begin d) (files_of image) good ∙ zero-max _)
