-- Laws of moving one file.
use Rattle.byteorder.specs.Endian.{little_bytes}
use Rattle.std.proofs.Common.{◌≡◌, ◌<◌, ◌≤◌, ◌⊎◌, ℕ, ◌+◌, ◌-◌, ◌*◌, List, ◌∙◌, ap, sym, refl, inl, inr, length, drop, take, get_or, slice_range, arith}
use Rattle.std.proofs.Common.{length-take, length-drop}
use Rattle.std.proofs.lemmas.List.{get_or-drop, get_or-take}
use Rattle.pm_volume.specs.Directory.{directory_of, entries_from, entry_in}
use Rattle.pm_volume.specs.Entries.{entry_of}
use Rattle.pm_volume.specs.Stays.{blocks_of}
use Rattle.pm_volume.specs.Packing.{moved_entry, with_moved, with_places}
use Rattle.pm_volume.specs.Words.{with_word_in, word_in, written}
use Rattle.pm_volume.specs.declared.entry.Entry.{Entry}
use Rattle.pm_volume.proofs.HeaderLaws.{entry_in-behind}
use Rattle.pm_volume.proofs.ImageLaws.{directory-with}
use Rattle.pm_volume.proofs.StayLaws.{length-with_directory, with_directory_outside, with_directory_same}
use Rattle.pm_volume.proofs.RenameLaws.{slot_byte, slot_word}
use Rattle.pm_volume.proofs.SlotChanges.{entries_from-same}
use Rattle.pm_volume.proofs.WrittenLaws.{get_written_in, get_written_outside, length-directory, length-written, same_parts, shifted, word_in-above}
use Rattle.pm_volume.proofs.WrittenLaws.{word_in-below, word_in-written}

-- Facts about a directory in which the block numbers of slot `n` are changed.
module _ (d : List ℕ) (n first end : ℕ) (whole : length d ≡ 2048) (slot : n ≤ 77) where
  d1 : List ℕ
  d1 = with_word_in d (26 * n) first

  r1 : 26 * n + length (little_bytes 2 first) ≤ length d
  r1 = omega (arith, whole, slot)

  l1 : length d1 ≡ 2048
  unfolding d1
  l1 = length-written d (26 * n) (little_bytes 2 first) r1 ∙ whole

  r2 : 26 * n + 2 + length (little_bytes 2 end) ≤ length d1
  r2 = omega (arith, l1, slot)

  pub length-with_places : length (with_places d n first end) ≡ 2048
  unfolding with_places d1
  length-with_places = length-written d1 (26 * n + 2) (little_bytes 2 end) r2 ∙ l1

  -- A byte outside the block numbers of slot `n` is unchanged.
  pub with_places_outside : (k : ℕ) → (k < 26 * n) ⊎ (26 * n + 4 ≤ k) → get_or (with_places d n first end) k 0 ≡ get_or d k 0
  unfolding with_places d1
  with_places_outside k (inl below) =
      get_written_outside d1 (26 * n + 2) (little_bytes 2 end) k r2 (inl (omega arith))
      ∙ get_written_outside d (26 * n) (little_bytes 2 first) k r1 (inl below)
  with_places_outside k (inr above) =
      get_written_outside d1 (26 * n + 2) (little_bytes 2 end) k r2 (inr (omega arith))
      ∙ get_written_outside d (26 * n) (little_bytes 2 first) k r1 (inr (omega arith))

  -- The entries after slot `n` are unchanged.
  pub entry-behind : (m : ℕ) → n < m → m ≤ 77 → entry_in (with_places d n first end) m ≡ entry_in d m
  unfolding with_places d1
  entry-behind m behind few =
      entry_in-behind d1 (26 * n + 2) (little_bytes 2 end) r2 m (omega arith) (omega (arith, l1))
      ∙ entry_in-behind d (26 * n) (little_bytes 2 first) r1 m (omega arith) (omega (arith, whole))

  first_read : first < 65536 → word_in (with_places d n first end) (26 * n) ≡ first
  unfolding with_places d1
  first_read fits =
      word_in-below d1 (26 * n + 2) (little_bytes 2 end) (26 * n) r2 (omega arith) ∙ word_in-written d (26 * n) first (omega (arith, whole, slot)) fits

  end_read : end < 65536 → word_in (with_places d n first end) (26 * n + 2) ≡ end
  unfolding with_places d1
  end_read fits = word_in-written d1 (26 * n + 2) end (omega (arith, l1, slot)) fits

  word_stays : (p : ℕ) → 4 ≤ p → p + 2 ≤ 26
      → word_in (slice_range (with_places d n first end) (26 * n) (26 * n + 26)) p ≡ word_in (slice_range d (26 * n) (26 * n + 26)) p
  unfolding with_places d1
  word_stays p above below =
      slot_word (with_places d n first end) n p below
      ∙ word_in-above d1 (26 * n + 2) (little_bytes 2 end) (26 * n + p) r2 (omega arith)
      ∙ word_in-above d (26 * n) (little_bytes 2 first) (26 * n + p) r1 (omega arith)
      ∙ sym (slot_word d n p below)

  name_stays : slice_range (slice_range (with_places d n first end) (26 * n) (26 * n + 26)) 6 22 ≡ slice_range (slice_range d (26 * n) (26 * n + 26)) 6 22
  name_stays =
      let size : 26 * n + 26 - 26 * n ≡ 26 = omega arith in
      let left : length (slice_range (with_places d n first end) (26 * n) (26 * n + 26)) ≡ 26 =
      rw size (omega
      (arith, length-with_places, slot, length-take 26 (drop (26 * n) (with_places d n first end)), length-drop (26 * n) (with_places d n first end))) in
      let right : length (slice_range d (26 * n) (26 * n + 26)) ≡ 26 =
      rw size (omega (arith, whole, slot, length-take 26 (drop (26 * n) d), length-drop (26 * n) d)) in
      same_parts (slice_range (with_places d n first end) (26 * n) (26 * n + 26)) (slice_range d (26 * n) (26 * n + 26)) 6 6 16 (omega arith) (omega arith)
      (λ k below. slot_byte (with_places d n first end) n (6 + k) (omega arith)
      ∙ with_places_outside (26 * n + (6 + k)) (inr (omega arith))
      ∙ sym (slot_byte d n (6 + k) (omega arith)))

  pub entry-with_places : first < 65536 → end < 65536 → entry_in (with_places d n first end) n ≡ record (entry_in d n) { first = first; end = end }
  unfolding entry_of
  entry-with_places fits fits' =
      let here = slot_word (with_places d n first end) n 0 (omega arith) in
      let there = slot_word (with_places d n first end) n 2 (omega arith) in
      let zeroth : 26 * n + 0 ≡ 26 * n = omega arith in
      let first' : word_in (slice_range (with_places d n first end) (26 * n) (26 * n + 26)) 0 ≡ first = here ∙ rw zeroth (first_read fits) in
      let end' : word_in (slice_range (with_places d n first end) (26 * n) (26 * n + 26)) 2 ≡ end = there ∙ end_read fits' in
      rw (
        name_stays,
        word_stays 4 (omega arith) (omega arith),
        first',
        end',
        word_stays 22 (omega arith) (omega arith),
        word_stays 24 (omega arith) (omega arith),
      )
      refl

-- Facts about an image in which the file of entry `e`, in slot `n`, is moved down to block `to`.
module _ (image : List ℕ) (n : ℕ) (e : Entry) (to : ℕ) (long : 3072 ≤ length image) (slot : n ≤ 77) (past : 6 ≤ to) (down : to ≤ e.first)
    (ordered : e.first ≤ e.end) (within : 512 * e.end ≤ length image) where
  part : List ℕ
  part = blocks_of image e

  length-part : length part ≡ 512 * e.end - 512 * e.first
  unfolding part
  length-part = omega (arith, length-take (512 * e.end - 512 * e.first) (drop (512 * e.first) image), length-drop (512 * e.first) image, within)

  copied : List ℕ
  copied = written image (512 * to) part

  room : 512 * to + length part ≤ length image
  room = omega (arith, length-part, within, down, ordered)

  length-copied : length copied ≡ length image
  unfolding copied
  length-copied = length-written image (512 * to) part room

  pub length-copied_blocks : length (written image (512 * to) (blocks_of image e)) ≡ length image
  unfolding copied part
  length-copied_blocks = length-copied

  placed : List ℕ
  placed = with_places (directory_of image) n to (to + (e.end - e.first))

  length-placed : length placed ≡ 2048
  unfolding placed
  length-placed = length-with_places (directory_of image) n to (to + (e.end - e.first)) (length-directory image long) slot

  pub directory-copied : directory_of (written image (512 * to) (blocks_of image e)) ≡ directory_of image
  unfolding copied part
  directory-copied = same_parts copied image 1024 1024 2048 (omega (arith, length-copied, long)) (omega (arith, long))
      (λ k below. get_written_outside image (512 * to) part (1024 + k) room (inl (omega (arith, past))))

  pub length-moved : length (with_moved image n e to) ≡ length image
  unfolding with_moved copied part placed
  length-moved = length-with_directory copied placed (omega (arith, length-copied, long)) length-placed ∙ length-copied

  pub directory-moved : directory_of (with_moved image n e to) ≡ with_places (directory_of image) n to (to + (e.end - e.first))
  unfolding with_moved copied part placed
  directory-moved = directory-with copied placed (omega (arith, length-copied, long)) length-placed

  -- A byte outside the block numbers of slot `n` and outside the new blocks of the file is unchanged.
  pub moved_outside : (place : ℕ) → (place < 1024 + 26 * n) ⊎ (1024 + (26 * n + 4) ≤ place)
      → (place < 512 * to) ⊎ (512 * (to + (e.end - e.first)) ≤ place) → get_or (with_moved image n e to) place 0 ≡ get_or image place 0
  unfolding with_moved copied part placed
  moved_outside place numbers blocks =
      let end : 512 * to + length part ≡ 512 * (to + (e.end - e.first)) = omega (arith, length-part, ordered) in
      with_directory_same copied placed place (omega (arith, length-copied, long)) length-placed
      (λ from below. with_places_outside (directory_of image) n to (to + (e.end - e.first)) (length-directory image long) slot (place - 1024)
      (shifted 1024 (26 * n) (26 * n + 4) place from numbers)
      ∙ ap (λ (xs : List ℕ). get_or xs (place - 1024) 0) (sym directory-copied))
      ∙ get_written_outside image (512 * to) part place room (rw end blocks)

  -- Byte `k` of the new blocks is byte `k` of the old blocks.
  pub moved_inside : (k : ℕ) → k < 512 * e.end - 512 * e.first → get_or (with_moved image n e to) (512 * to + k) 0 ≡ get_or image (512 * e.first + k) 0
  unfolding with_moved copied part placed
  moved_inside k below =
      let at : (512 * to + k) - 512 * to ≡ k = omega arith in
      with_directory_outside copied placed (512 * to + k) (omega (arith, length-copied, long)) length-placed (inr (omega (arith, past)))
      ∙ get_written_in image (512 * to) part (512 * to + k) room (omega arith) (omega (arith, length-part))
      ∙ ap (λ (i : ℕ). get_or part i 0) at
      ∙ block_byte image (512 * e.first) (512 * e.end - 512 * e.first) k below
    where
      block_byte : (xs : List ℕ) (begin count k : ℕ) → k < count → get_or (take count (drop begin xs)) k 0 ≡ get_or xs (begin + k) 0
      block_byte xs begin count k below = get_or-take count (drop begin xs) k 0 below ∙ get_or-drop begin xs k 0

  -- The entries after slot `n` are unchanged.
  pub entries-behind : (m left : ℕ) → n < m → m + left ≤ 78 →
      entries_from (directory_of (with_moved image n e to)) m left ≡ entries_from (directory_of image) m left
  entries-behind m left behind few =
      rw directory-moved (entries_from-same (with_places (directory_of image) n to (to + (e.end - e.first))) (directory_of image) left m m
      (λ k below. entry-behind (directory_of image) n to (to + (e.end - e.first)) (length-directory image long) slot (m + k) (omega arith) (omega arith)))

  -- The entry in slot `n` is the entry `e` with the new block numbers.
  pub entry-moved : e ≡ entry_in (directory_of image) n → to < 65536 → to + (e.end - e.first) < 65536
      → entry_in (directory_of (with_moved image n e to)) n ≡ moved_entry e to
  entry-moved own fits fits' =
      rw directory-moved (entry-with_places (directory_of image) n to (to + (e.end - e.first)) (length-directory image long) slot fits fits'
      ∙ ap (λ (x : Entry). record x { first = to; end = to + (e.end - e.first) }) (sym own))
