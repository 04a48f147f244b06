-- Laws of moving files together, one file after the other.
use Rattle.std.proofs.Common.{◌≡◌, ◌==◌, ◌<◌, ◌≤◌, ◌⊎◌, ℕ, zero, suc, ◌+◌, ◌-◌, ◌*◌, List, [], ◌∷◌, ◌∙◌, ap, sym, refl, inl, inr, length, get_or, arith}
use Rattle.std.proofs.lemmas.Bool.{cases_Bool}
use Rattle.std.specs.List.{AllZip}
use Rattle.pm_volume.specs.Directory.{directory_of, entries_from, entry_in}
use Rattle.pm_volume.specs.Entries.{AreInOrder, IsSoundEntry, entry_of}
use Rattle.pm_volume.specs.Stays.{ChangesOnly, IsOutside, blocks_of}
use Rattle.pm_volume.specs.Packing.{moved_entry, new_place, packed, packed_image, packed_spans, with_moved}
use Rattle.pm_volume.specs.declared.entry.Entry.{Entry}
use Rattle.pm_volume.proofs.DirectoryLaws.{entries_from-more}
use Rattle.pm_volume.proofs.StayLaws.{directory_byte}
use Rattle.pm_volume.proofs.SlotChanges.{length-entries_from}
use Rattle.pm_volume.proofs.SlotRemoval.{earlier}
use Rattle.pm_volume.proofs.PackLaws.{entries-behind, entry-moved, length-moved, moved_inside, moved_outside}
use Rattle.pm_volume.proofs.WrittenLaws.{length-directory, same_parts}

-- If a file begins at block `from` or later, then its new first block is `from` or later.
pub new_place-after : (from : ℕ) (e : Entry) → from ≤ e.first → from ≤ new_place from e
new_place-after from e after = elim (cases_Bool (e.kind == 1)) [
  | inl bad ↦ rw bad after
  | inr other ↦ rw other (omega arith)
]

pub new_place-down : (from : ℕ) (e : Entry) → from ≤ e.first → new_place from e ≤ e.first
new_place-down from e after = elim (cases_Bool (e.kind == 1)) [
  | inl bad ↦ rw bad (omega arith)
  | inr other ↦ rw other after
]

-- If the entries `es` are in block order, then they are in block order after the files are moved together.
pub order-packed : (blocks from : ℕ) (es : List Entry) → AreInOrder blocks from es → AreInOrder blocks from (packed from es)
unfolding AreInOrder packed
order-packed blocks from [] order = tt
order-packed blocks from (e ∷ es) order =
    let s = order.0 in
    let to = new_place from e in
    let after = new_place-after from e s.after in
    let down = new_place-down from e s.after in
    let end : to + (e.end - e.first) ≤ e.end = omega (arith, s.ordered) in (
      record {
        named = s.named;
        short = s.short;
        after = after;
        ordered = omega arith;
        some_bytes = λ more. s.some_bytes (omega arith);
        one_block = λ more. s.one_block (omega arith);
      },
      omega (arith, order.1),
      order-packed blocks (to + (e.end - e.first)) es (earlier blocks (to + (e.end - e.first)) e.end es end order.2),
    )

pub length-packed : (from : ℕ) (es : List Entry) → length (packed from es) ≡ length es
unfolding packed
length-packed from [] = refl
length-packed from (e ∷ es) = ap suc (length-packed (new_place from e + (e.end - e.first)) es)

-- If the files from slot `n` on are in order, then the entry in slot `n` is valid, and the files after it are in order.
pub order-more : (d : List ℕ) (blocks from n end : ℕ) → n < end → AreInOrder blocks from (entries_from d n (end - n))
    → IsSoundEntry from (entry_in d n) × ((entry_in d n).end ≤ blocks) × AreInOrder blocks (entry_in d n).end (entries_from d (n + 1) (end - (n + 1)))
unfolding AreInOrder
order-more d blocks from n end below order =
    let more = entries_from-more d n end below in
    rw more at order

-- Moving the files from slot `n` on is the same as moving the file in slot `n` and then the files after it.
pub packed_image-more : (image : List ℕ) (n from end : ℕ) → n < end → packed_image image n from (end - n)
    ≡ packed_image (with_moved image n (entry_in (directory_of image) n) (new_place from (entry_in (directory_of image) n))) (n + 1)
    (new_place from (entry_in (directory_of image) n) + ((entry_in (directory_of image) n).end - (entry_in (directory_of image) n).first)) (end - (n + 1))
unfolding packed_image
packed_image-more image n from end below =
    let e : end - n ≡ suc (end - (n + 1)) = omega arith in
    rw e

pub packed_image-done : (image : List ℕ) (n from end : ℕ) → end ≤ n → packed_image image n from (end - n) ≡ image
unfolding packed_image
packed_image-done image n from end over =
    let e : end - n ≡ 0 = omega arith in
    rw e

-- Facts about the file in slot `n`, if the files from slot `n` on are in order: its new block, and the files after it
-- that are not yet moved.
module _ (image : List ℕ) (blocks n from end : ℕ) (long : 3072 ≤ length image) (room : 512 * blocks ≤ length image) (few : end ≤ 78) (below : n < end)
    (past : 6 ≤ from) (order : AreInOrder blocks from (entries_from (directory_of image) n (end - n))) where
  file : Entry
  file = entry_in (directory_of image) n

  sound : IsSoundEntry from file × (file.end ≤ blocks) × AreInOrder blocks file.end (entries_from (directory_of image) (n + 1) (end - (n + 1)))
  unfolding file
  sound = order-more (directory_of image) blocks from n end below order

  pub file-after : from ≤ (entry_in (directory_of image) n).first
  unfolding file
  file-after = sound.0.after

  pub file-ordered : (entry_in (directory_of image) n).first ≤ (entry_in (directory_of image) n).end
  unfolding file
  file-ordered = sound.0.ordered

  pub file-within : 512 * (entry_in (directory_of image) n).end ≤ length image
  unfolding file
  file-within = omega (arith, sound.1, room)

  pub next-size : length (with_moved image n (entry_in (directory_of image) n) (new_place from (entry_in (directory_of image) n))) ≡ length image
  next-size =
      let f = entry_in (directory_of image) n in
      length-moved image n f (new_place from f) long (omega arith) (omega (arith, new_place-after from f file-after, past)) (new_place-down from f file-after)
      file-ordered file-within

  pub next-past : 6 ≤ new_place from (entry_in (directory_of image) n) + ((entry_in (directory_of image) n).end - (entry_in (directory_of image) n).first)
  next-past = omega (arith, new_place-after from (entry_in (directory_of image) n) file-after, past)

  pub next-order : AreInOrder blocks
      (new_place from (entry_in (directory_of image) n) + ((entry_in (directory_of image) n).end - (entry_in (directory_of image) n).first))
      (entries_from (directory_of (with_moved image n (entry_in (directory_of image) n) (new_place from (entry_in (directory_of image) n)))) (n + 1)
      (end - (n + 1)))
  unfolding file
  next-order =
      let f = entry_in (directory_of image) n in
      let to = new_place from f in
      let down = new_place-down from f file-after in
      let same = entries-behind image n f to long (omega arith) (omega (arith, new_place-after from f file-after, past)) down file-ordered file-within
      (n + 1) (end - (n + 1)) (omega arith) (omega arith) in
      rw same (earlier blocks (to + (f.end - f.first)) f.end _ (omega (arith, file-ordered)) sound.2)

-- If the offset `place` is before block `from`, and not in the slots from `n` on, then moving the files `es` does not
-- change the byte at `place`.
pub spans-outside : (blocks place n from : ℕ) (es : List Entry) → AreInOrder blocks from es → n + length es ≤ 78
    → (place < 1024 + 26 * n) ⊎ (3072 ≤ place) → place < 512 * from → IsOutside place (packed_spans n (packed from es))
unfolding AreInOrder packed packed_spans
spans-outside blocks place n from [] order few side below = tt
spans-outside blocks place n from (e ∷ es) order few side below =
    let to = new_place from e in
    let after = new_place-after from e order.0.after in
    let down = new_place-down from e order.0.after in
    let end : to + (e.end - e.first) ≤ e.end = omega (arith, order.0.ordered) in (
      numbers place n side (omega arith),
      (
        inl (omega arith),
        spans-outside blocks place (n + 1) (to + (e.end - e.first)) es (earlier blocks (to + (e.end - e.first)) e.end es end order.2) (omega arith)
            (next place n side) (omega arith),
      ),
    )
  where
    numbers : (place n : ℕ) → (place < 1024 + 26 * n) ⊎ (3072 ≤ place) → n < 78 → (place < 1024 + 26 * n) ⊎ (1024 + (26 * n + 4) ≤ place)
    numbers place n (inl low) few = inl low
    numbers place n (inr high) few = inr (omega arith)

    next : (place n : ℕ) → (place < 1024 + 26 * n) ⊎ (3072 ≤ place) → (place < 1024 + 26 * (n + 1)) ⊎ (3072 ≤ place)
    next place n (inl low) = inl (omega arith)
    next place n (inr high) = inr high

-- The blocks of the file `f` in the image `new` have the same bytes as the blocks of the file `e` in the image `old`.
abbrev pub SameBlocks : List ℕ → List ℕ → Entry → Entry → Type 0
SameBlocks old new e f = blocks_of new f ≡ blocks_of old e

-- If the files `es` have the same bytes in the images `image` and `image'`, and blocks of `new` equal their blocks in
-- `image'`, then these blocks of `new` equal their blocks in `image`.
zip-before : (image image' new : List ℕ) (blocks from : ℕ) (es fs : List Entry) → AreInOrder blocks from es
    → ((e : Entry) → from ≤ e.first → e.first ≤ e.end → e.end ≤ blocks → blocks_of image' e ≡ blocks_of image e)
    → AllZip (SameBlocks image' new) es fs → AllZip (SameBlocks image new) es fs
unfolding AreInOrder
zip-before image image' new blocks from [] [] order same zip = zip
zip-before image image' new blocks from [] (f ∷ fs) order same zip = zip
zip-before image image' new blocks from (e ∷ es) [] order same zip = zip
zip-before image image' new blocks from (e ∷ es) (f ∷ fs) order same zip = (
  zip.0 ∙ same e order.0.after order.0.ordered order.1,
  zip-before image image' new blocks e.end es fs order.2 (λ x after. same x (omega (arith, order.0.after, order.0.ordered))) zip.1,
)

-- The image `new` is the image `old` after the files `es`, from slot `n` on, are moved. `fs` are their new entries.
-- Their blocks have the same bytes, and no other byte changes.
pub record Packs (n left : ℕ) (es fs : List Entry) (old new : List ℕ) : Type 0 where
  pub entries : entries_from (directory_of new) n left ≡ fs
  pub blocks : AllZip (SameBlocks old new) es fs
  pub rest : ChangesOnly (packed_spans n fs) old new

-- If two directories have the same bytes in slot `n`, then they have the same entry in slot `n`.
slot_same : (xs ys : List ℕ) (n : ℕ) → length xs ≡ 2048 → length ys ≡ 2048 → n ≤ 77
    → ((k : ℕ) → k < 26 → get_or xs (26 * n + k) 0 ≡ get_or ys (26 * n + k) 0) → entry_in xs n ≡ entry_in ys n
slot_same xs ys n left right few same =
    let width : 26 * n + 26 - 26 * n ≡ 26 = omega arith in
    ap entry_of (rw width (same_parts xs ys (26 * n) (26 * n) 26 (omega arith) (omega arith) same))

-- Facts about an image in which the file in slot `n` is moved first, and then the files after it.
module _ (image : List ℕ) (n left from blocks : ℕ) (es : List Entry) (new : List ℕ) (long : 3072 ≤ length image) (room : 512 * blocks ≤ length image)
    (fits : blocks < 65536) (few : n + suc left ≤ 78) (past : 6 ≤ from) (sound : IsSoundEntry from (entry_in (directory_of image) n))
    (within : (entry_in (directory_of image) n).end ≤ blocks) (order : AreInOrder blocks (entry_in (directory_of image) n).end es)
    (count : length es ≡ left) where
  e : Entry
  e = entry_in (directory_of image) n

  to : ℕ
  to = new_place from e

  end : ℕ
  end = to + (e.end - e.first)

  image' : List ℕ
  image' = with_moved image n e to

  slot : n ≤ 77
  slot = omega (arith, few)

  after : from ≤ to
  unfolding e to
  after = new_place-after from e sound.after

  down : to ≤ e.first
  unfolding e to
  down = new_place-down from e sound.after

  end-down : end ≤ e.end
  unfolding e to end
  end-down = omega (arith, down, sound.ordered)

  inside : 512 * e.end ≤ length image
  unfolding e
  inside = omega (arith, within, room)

  ordered : e.first ≤ e.end
  unfolding e
  ordered = sound.ordered

  above : 6 ≤ to
  above = omega (arith, after, past)

  size : length image' ≡ length image
  unfolding image'
  size = length-moved image n e to long slot above down ordered inside

  order' : AreInOrder blocks end es
  unfolding e to end
  order' = earlier blocks end e.end es end-down order

  module _ (ih : Packs (n + 1) left es (packed end es) image' new) where
    whole : length new ≡ length image
    whole = ih.rest.size ∙ size

    -- If an offset is before the bytes that later moves change, then later moves do not change its byte.
    left_alone : (place : ℕ) → (place < 1024 + 26 * (n + 1)) ⊎ (3072 ≤ place) → place < 512 * end → get_or new place 0 ≡ get_or image' place 0
    left_alone place side below = ih.rest.rest place (spans-outside blocks place (n + 1) end es order' (omega (arith, few, count)) side below)

    low : 6 ≤ end
    unfolding end
    low = omega (arith, above)

    own-same : entry_in (directory_of new) n ≡ entry_in (directory_of image') n
    own-same =
        slot_same (directory_of new) (directory_of image') n (length-directory new (omega (arith, whole, long)))
        (length-directory image' (omega (arith, size, long))) slot
        (λ k below. directory_byte new (26 * n + k) (omega (arith, slot))
        ∙ left_alone (1024 + (26 * n + k)) (inl (omega arith)) (omega (arith, low, slot))
        ∙ sym (directory_byte image' (26 * n + k) (omega (arith, slot))))

    own-moved : entry_in (directory_of image') n ≡ moved_entry e to
    unfolding e to end image'
    own-moved =
        entry-moved image n e to long slot above down ordered inside refl (omega (arith, down, ordered, within, fits)) (omega (arith, end-down, within, fits))

    own : entry_in (directory_of new) n ≡ moved_entry e to
    own = own-same ∙ own-moved

    own-blocks : blocks_of new (moved_entry e to) ≡ blocks_of image e
    unfolding e to end image'
    own-blocks =
        let width : 512 * (to + (e.end - e.first)) - 512 * to ≡ 512 * e.end - 512 * e.first = omega (arith, ordered) in
        rw width (same_parts new image (512 * to) (512 * e.first) (512 * e.end - 512 * e.first) (omega (arith, whole, down, ordered, inside))
        (omega (arith, ordered, inside))
        (λ k below. left_alone (512 * to + k) (inr (omega (arith, above))) (omega (arith, ordered))
        ∙ moved_inside image n e to long slot above down ordered inside k below))

    packs-step : Packs n (suc left) (entry_in (directory_of image) n ∷ es)
        (moved_entry (entry_in (directory_of image) n) (new_place from (entry_in (directory_of image) n))
        ∷ packed (new_place from (entry_in (directory_of image) n) + ((entry_in (directory_of image) n).end - (entry_in (directory_of image) n).first)) es)
        image new
    unfolding entries_from e to end image' packed_spans
    packs-step = record {
      entries = rw (own, ih.entries) refl;
      blocks = (
        own-blocks,
        zip-before image image' new blocks e.end es (packed end es) order
            (λ x behind width below.
            same_parts image' image (512 * x.first) (512 * x.first) (512 * x.end - 512 * x.first) (omega (arith, size, below, room))
            (omega (arith, below, room))
            (λ k small.
            moved_outside image n e to long slot above down ordered inside (512 * x.first + k) (inr (omega (arith, behind, end-down, low, slot)))
            (inr (omega (arith, behind, end-down)))))
            ih.blocks,
      );
      rest = record {
        size = whole;
        rest = λ place out. ih.rest.rest place out.1.1 ∙ moved_outside image n e to long slot above down ordered inside place out.0 out.1.0;
      };
    }

-- If the files from slot `n` on are in order, then `packed_image` moves them together, as `Packs` states.
pub packs : (left n from blocks : ℕ) (image : List ℕ) → 3072 ≤ length image → 512 * blocks ≤ length image → blocks < 65536 → n + left ≤ 78 → 6 ≤ from
    → AreInOrder blocks from (entries_from (directory_of image) n left)
    → Packs n left (entries_from (directory_of image) n left) (packed from (entries_from (directory_of image) n left)) image (packed_image image n from left)
unfolding entries_from AreInOrder packed packed_image packed_spans e to end image'
packs zero n from blocks image long room fits few past order = record { entries = refl; blocks = tt; rest = record { size = refl; rest = λ place out. refl } }
packs (suc left) n from blocks image long room fits few past order =
    let e = entry_in (directory_of image) n in
    let es = entries_from (directory_of image) (n + 1) left in
    let s = order.0 in
    let to = new_place from e in
    let end = to + (e.end - e.first) in
    let image' = with_moved image n e to in
    let after = new_place-after from e s.after in
    let down = new_place-down from e s.after in
    let low : end ≤ e.end = omega (arith, s.ordered) in
    let inside : 512 * e.end ≤ length image = omega (arith, order.1) in
    let size = length-moved image n e to long (omega arith) (omega arith) down s.ordered inside in
    let same = entries-behind image n e to long (omega arith) (omega arith) down s.ordered inside (n + 1) left (omega arith) (omega arith) in
    let order' : AreInOrder blocks end (entries_from (directory_of image') (n + 1) left) = rw same (earlier blocks end e.end es low order.2) in
    let ih = packs left (n + 1) end blocks image' (omega (arith, size)) (omega (arith, size)) fits (omega arith) (omega arith) order' in
    packs-step image n left from blocks es (packed_image image' (n + 1) end left) long room fits few past s order.1 order.2
    (length-entries_from (directory_of image) left (n + 1))
    (rw same at ih)
