-- Lemmas for a new directory, and for the largest gap of a volume.
use Rattle.byteorder.specs.Endian.{little_bytes}
use Rattle.std.proofs.Common.{◌≡◌, ◌==◌, ◌≤◌, ◌<◌, ◌⊎◌, inl, inr, ℕ, ◌+◌, ◌-◌, Bool, true, false, cond, leb, List, [], ◌∷◌, ◌∙◌}
use Rattle.std.proofs.Common.{None, Ok, Err}
use Rattle.std.proofs.Common.{refl, sym, ap, subst, arith, length}
use Rattle.std.specs.Prelude.{max}
use Rattle.std.specs.List.{All, find, fold}
use Rattle.std.proofs.Math.Nat.{le-max_left, le-max_right, sub-add-eq-max}
use Rattle.std.proofs.lemmas.Bool.{cases_Bool, leb-true, leb-false}
use Rattle.std.proofs.lemmas.Bool.Decides.{nat_tests}
use Rattle.std.proofs.lemmas.List.Elements.{All-cons, All-nil, All-weaker}
use Rattle.pm_volume.specs.Changes.{gaps, serves}
use Rattle.pm_volume.specs.Directory.{IsVolume, block_count, directory_of, file_count, files_begin, files_in}
use Rattle.pm_volume.specs.Entries.{AreInOrder}
use Rattle.pm_volume.specs.Headers.{last_date_of, new_directory, zeroed_image}
use Rattle.pm_volume.specs.Made.{zeroed}
use Rattle.pm_volume.specs.Names.{is_new_name, name_field}
use Rattle.pm_volume.specs.Space.{gap_size, largest_gap}
use Rattle.pm_volume.specs.Words.{with_word_in, written, zeros}
use Rattle.pm_volume.specs.declared.entry.Entry.{Entry}
use Rattle.pm_volume.specs.declared.fault.VolumeFault.TheVariants.{BadName}
use Rattle.pm_volume.proofs.CopyLaws.{directory-mirrored}
use Rattle.pm_volume.proofs.HeaderLaws.{IsVolume-zeroed, begins-new, length-new_directory, length-zeros, zeroed_first}
use Rattle.pm_volume.proofs.ImageLaws.{directory-with}
use Rattle.pm_volume.proofs.LowestLaws.{no_gap}
use Rattle.pm_volume.proofs.NameLaws.{length-name_field, length-new_name}
use Rattle.pm_volume.proofs.SecondLaws.{Changed-zeroed}
use Rattle.pm_volume.proofs.WrittenLaws.{length-written, word_in-below, word_in-written}
use Rattle.pm_filer.specs.Filed.{filed}
use Rattle.pm_filer.specs.Laws.{AreFree, IsVolumeOfBytes}
use Rattle.law_disks.proofs.GivenLaws.{changed-ok, word_fits}
use Rattle.law_disks.specs.Volumes.{IsEmptied, LargestIsAGap, ZeroKeepsTheVolume}

-- ---- a new directory

module _ (past : ℕ) (name : List ℕ) (blocks date : ℕ) (short : length name ≤ 7) where
  begun : List ℕ
  begun = with_word_in (zeros 2048) 2 past

  length-begun : length begun ≡ 2048
  unfolding begun
  length-begun = length-written (zeros 2048) 2 (little_bytes 2 past) (omega (arith, length-zeros 2048)) ∙ length-zeros 2048

  named : List ℕ
  named = written begun 6 (name_field 7 name)

  length-named : length named ≡ 2048
  unfolding named
  length-named = length-written begun 6 (name_field 7 name) (omega (arith, length-begun, length-name_field 7 name short)) ∙ length-begun

  sized : List ℕ
  sized = with_word_in named 14 blocks

  length-sized : length sized ≡ 2048
  unfolding sized
  length-sized = length-written named 14 (little_bytes 2 blocks) (omega (arith, length-named)) ∙ length-named

  blocks_read : blocks < 65536 → block_count (new_directory past name blocks date) ≡ blocks
  unfolding new_directory begun named sized
  blocks_read fits =
      word_in-below sized 20 (little_bytes 2 date) 14 (omega (arith, length-sized)) (omega arith)
      ∙ word_in-written named 14 blocks (omega (arith, length-named)) fits

  date_read : date < 65536 → last_date_of (new_directory past name blocks date) ≡ date
  unfolding new_directory begun named sized
  date_read fits = word_in-written sized 20 date (omega (arith, length-sized)) fits

zeroed-ok : (b : Bool) (image new : List ℕ) → cond b (Ok image) (Err BadName) ≡ Ok new → (b ≡ true) × (image ≡ new)
zeroed-ok true image new h = (refl, cc)
zeroed-ok false image new h = cc

emptied : (image name : List ℕ) → IsVolumeOfBytes image → is_new_name 7 name ≡ true → IsEmptied image (zeroed_image image name)
emptied image name b good =
    let d = directory_of image in
    let h = b.volume.has_directory in
    let size = length-new_name 7 name good in
    let fits = word_fits image b 14 (omega arith) in
    let fresh = new_directory (files_begin d) name (block_count d) (last_date_of d) in
    let there : directory_of (zeroed_image image name) ≡ fresh =
    directory-mirrored (zeroed_first image name) (IsVolume-zeroed image b.volume name size.0 size.1 fits)
    ∙ directory-with image fresh b.volume.long (length-new_directory (files_begin d) name (block_count d) (last_date_of d) size.1) in
    record {
      empty = (Changed-zeroed image b.volume name size.0 size.1 fits).files;
      date = ap last_date_of there ∙ date_read (files_begin d) name (block_count d) (last_date_of d) size.1 (word_fits image b 20 (omega arith));
      blocks = ap block_count there ∙ blocks_read (files_begin d) name (block_count d) (last_date_of d) size.1 fits;
      begin = ap files_begin there
          ∙ begins-new (files_begin d) name (block_count d) (last_date_of d) size.1 (word_fits image b 2 (omega arith));
    }

pub zero_keeps_the_volume : ZeroKeepsTheVolume
unfolding filed zeroed
zero_keeps_the_volume image name f b done =
    let made = zeroed-ok (is_new_name 7 name) (zeroed_image image name) f.image (changed-ok _ f done) in
    subst (IsEmptied image) made.1 (emptied image name b made.0)

-- ---- the largest gap

-- The result of the fold is at least its initial value `a`.
keeps_most : (a : ℕ) (gs : List _) → a ≤ fold (λ most gap. max most (gap_size gap)) a gs
keeps_most a [] = omega arith
keeps_most a (g ∷ gs) =
    let rest = keeps_most (max a (gap_size g)) gs in
    let more = le-max_left a (gap_size g) in
    omega (arith, rest, more)

-- The greater of two numbers equals one of them.
max_cases : (a b : ℕ) → (max a b ≡ a) ⊎ (max a b ≡ b)
max_cases a b =
    let same = sub-add-eq-max a b in
    elim (cases_Bool (leb a b)) [
      | inl less ↦ let le = leb-true a b less in inr (omega (arith, same, le))
      | inr more ↦ let gt = leb-false a b more in inl (omega (arith, same, gt))
    ]

-- If the entries of files are in order from the block `from` on, then each of them begins at `from` or later.
later : (blocks from : ℕ) (es : List Entry) → AreInOrder blocks from es → All (λ (e : Entry). from ≤ e.first) es
unfolding AreInOrder
later blocks from [] order = All-nil (λ (e : Entry). from ≤ e.first)
later blocks from (e ∷ es) order =
    let rest = later blocks e.end es order.2 in
    let order_of = order.0.ordered in
    let after = order.0.after in
    All-cons (λ (x : Entry). from ≤ x.first) e es after
    (All-weaker (λ (x : Entry). e.end ≤ x.first) (λ (x : Entry). from ≤ x.first) (λ x far. omega (arith, far, order_of, after)) es rest)

-- Between the blocks `from` and `blocks`, a range of `size` blocks is free of the entries `es`.
record IsFree (blocks from : ℕ) (es : List Entry) (size : ℕ) : Type 0 where
  pub begin : ℕ
  pub after : from ≤ begin
  pub within : begin + size ≤ blocks
  pub apart : All (λ (e : Entry). (e.end ≤ begin) ⊎ (begin + size ≤ e.first)) es

free_before : (blocks from : ℕ) (e : Entry) (es : List Entry) → AreInOrder blocks from (e ∷ es) → IsFree blocks from (e ∷ es) (e.first - from)
unfolding AreInOrder
free_before blocks from e es order =
    let ordered = order.0.ordered in
    let after = order.0.after in
    let within = order.1 in
    let P : Entry → Type 0 = λ x. (x.end ≤ from) ⊎ (from + (e.first - from) ≤ x.first) in
    record {
      begin = from;
      after = omega arith;
      within = omega (arith, ordered, after, within);
      apart = All-cons P e es (inr (omega (arith, after)))
          (All-weaker (λ (x : Entry). e.end ≤ x.first) P (λ x far. inr (omega (arith, far, ordered, after))) es (later blocks e.end es order.2));
    }

free_behind : (blocks from size : ℕ) (e : Entry) (es : List Entry) → AreInOrder blocks from (e ∷ es) → IsFree blocks e.end es size
    → IsFree blocks from (e ∷ es) size
unfolding AreInOrder
free_behind blocks from size e es order free =
    let ordered = order.0.ordered in
    let after = order.0.after in
    let far = free.after in
    record {
      begin = free.begin;
      after = omega (arith, ordered, after, far);
      within = free.within;
      apart = All-cons (λ (x : Entry). (x.end ≤ free.begin) ⊎ (free.begin + size ≤ x.first)) e es (inl far) free.apart;
    }

most_in : ℕ → ℕ → ℕ → ℕ → List Entry → ℕ
most_in a blocks n from es = fold (λ most gap. max most (gap_size gap)) a (gaps blocks n from es)

-- The greatest size is the initial value `a`, or it is the size of a free range of blocks.
found : (a blocks n from : ℕ) (es : List Entry) → AreInOrder blocks from es → from ≤ blocks
    → (most_in a blocks n from es ≡ a) ⊎ IsFree blocks from es (most_in a blocks n from es)
unfolding gaps most_in AreInOrder
found a blocks n from [] order room = elim (max_cases a (blocks - from)) [
  | inl old ↦ inl old
  | inr new ↦ inr (rw new (record {
    begin = from;
    after = omega arith;
    within = omega (arith, room);
    apart = All-nil (λ (e : Entry). (e.end ≤ from) ⊎ (from + (blocks - from) ≤ e.first));
  }))
]
found a blocks n from (e ∷ es) order room = elim (found (max a (e.first - from)) blocks (n + 1) e.end es order.2 order.1) [
  | inl same ↦ elim (max_cases a (e.first - from)) [
    | inl old ↦ inl (same ∙ old)
    | inr new ↦ inr (subst (IsFree blocks from (e ∷ es)) (sym (same ∙ new)) (free_before blocks from e es order))
  ]
  | inr free ↦ inr (free_behind blocks from (most_in (max a (e.first - from)) blocks (n + 1) e.end es) e es order free)
]

-- If `need` is greater than the greatest size, then no gap has `need` blocks.
no_more : (need count a blocks n from : ℕ) (es : List Entry) → 1 ≤ need → most_in a blocks n from es < need
    → find (serves need count) (gaps blocks n from es) ≡ None
unfolding gaps most_in
no_more need count a blocks n from [] some less =
    let more : (need == 0) ≡ false = grind (arith, nat_tests, some) in
    let here = le-max_right a (blocks - from) in
    let small : leb need (blocks - from) ≡ false = grind (arith, nat_tests, here, less) in
    rw (more, small) refl
no_more need count a blocks n from (e ∷ es) some less =
    let more : (need == 0) ≡ false = grind (arith, nat_tests, some) in
    let here = le-max_right a (e.first - from) in
    let stay = keeps_most (max a (e.first - from)) (gaps blocks (n + 1) e.end es) in
    let small : leb need (e.first - from) ≡ false = grind (arith, nat_tests, here, stay, less) in
    rw (more, small) (no_more need count (max a (e.first - from)) blocks (n + 1) e.end es some less)

module _ (image : List ℕ) (v : IsVolume image) where
  free_there : IsFree (block_count (directory_of image)) (files_begin (directory_of image)) (files_in (directory_of image)) (largest_gap image)
  unfolding largest_gap most_in
  free_there =
      let d = directory_of image in
      let h = v.has_directory in
      elim (found 0 (block_count d) 1 (files_begin d) (files_in d) h.in_order h.holds_directory) [
        | inl none ↦
            let P : Entry → Type 0 = λ e. (e.end ≤ files_begin d) ⊎ (files_begin d + 0 ≤ e.first) in
            rw none (record {
              begin = files_begin d;
              after = omega arith;
              within = omega (arith, h.holds_directory);
              apart = All-weaker (λ (e : Entry). files_begin d ≤ e.first) P (λ e far. inr (omega (arith, far))) (files_in d)
                  (later (block_count d) (files_begin d) (files_in d) h.in_order);
            })
        | inr free ↦ free
      ]

  none_larger : (other count : ℕ) → AreFree (directory_of image) other (other + count) → largest_gap image < count → ⊥
  unfolding largest_gap most_in
  none_larger other count free less =
      let d = directory_of image in
      let some : 1 ≤ count = omega (arith, less) in
      no_gap count (file_count d) (block_count d) 1 (files_begin d) (files_in d) some
      (no_more count (file_count d) 0 (block_count d) 1 (files_begin d) (files_in d) some less)
      other free.after free.within free.apart

at_most : (a b : ℕ) → (b < a → ⊥) → a ≤ b
at_most a b h = elim (cases_Bool (leb a b)) [
  | inl less ↦ leb-true a b less
  | inr more ↦ absurd (h (omega (arith, leb-false a b more)))
]

pub largest_is_a_gap : LargestIsAGap
largest_is_a_gap image v =
    let free = free_there image v in record {
      begin = free.begin;
      free = record { after = free.after; within = free.within; apart = free.apart };
      largest = λ other count there. at_most count (largest_gap image) (none_larger image v other count there);
    }
