-- The entries of a directory into which one slot is inserted.
use Rattle.byteorder.specs.Endian.{little_bytes}
use Rattle.std.proofs.Common.{◌≡◌, ◌<◌, ◌≤◌, ◌⊎◌, ℕ, zero, suc, ◌+◌, ◌-◌, ◌*◌, List, ◌∷◌, ◌++◌, ◌∙◌, ap, sym, refl, length, take, drop, get_or, arith}
use Rattle.std.proofs.Common.{length-append, length-take, length-drop, one-add}
use Rattle.std.proofs.lemmas.List.{drop_at, get_or-append_right, get_or-drop, get_or-take, get_or_append_left, take_all, take_at}
use Rattle.std.specs.List.{insert}
use Rattle.pm_volume.specs.Changes.{slots, with_slot}
use Rattle.pm_volume.specs.Words.{word_in, written}
use Rattle.pm_volume.specs.Directory.{IsDirectory, block_count, entries_from, entry_in, file_count, files_begin, files_in}
use Rattle.pm_volume.specs.Entries.{AreInOrder, entry_of}
use Rattle.pm_volume.specs.declared.entry.Entry.{Entry}
use Rattle.pm_volume.proofs.WrittenLaws.{get_written_above, get_written_below, get_written_in, get_written_outside, length-written, same_parts, word_in-written}

-- If `left` successive entries of `d` and `d'` are equal, from slot `i` of `d` and slot `j` of `d'` on, then the two
-- lists of entries are equal.
pub entries_from-same : (d d' : List ℕ) (left i j : ℕ) → ((k : ℕ) → k < left → entry_in d (i + k) ≡ entry_in d' (j + k))
    → entries_from d i left ≡ entries_from d' j left
unfolding entries_from
entries_from-same d d' zero i j same = refl
entries_from-same d d' (suc left) i j same =
    let i0 : i + 0 ≡ i = omega arith in
    let j0 : j + 0 ≡ j = omega arith in
    let first : entry_in d i ≡ entry_in d' j = ap (entry_in d) (sym i0) ∙ same 0 (omega arith) ∙ ap (entry_in d') j0 in
    let rest = entries_from-same d d' left (i + 1) (j + 1) (λ k below.
    let ik : (i + 1) + k ≡ i + (k + 1) = omega arith in
    let jk : j + (k + 1) ≡ (j + 1) + k = omega arith in
    ap (entry_in d) ik ∙ same (k + 1) (omega arith) ∙ ap (entry_in d') jk) in
    rw (first, rest)

pub entries_from-add : (d : List ℕ) (a b i : ℕ) → entries_from d i (a + b) ≡ entries_from d i a ++ entries_from d (i + a) b
unfolding entries_from
entries_from-add d zero b i =
    let none : 0 + b ≡ b = omega arith in
    let here : i + 0 ≡ i = omega arith in
    rw (none, here)
entries_from-add d (suc a) b i =
    let more : suc a + b ≡ suc (a + b) = omega arith in
    let place : (i + 1) + a ≡ i + suc a = omega arith in
    rw (more, ← place) (ap (λ (es : List Entry). entry_in d i ∷ es) (entries_from-add d a b (i + 1)))

pub first_entry : (d : List ℕ) (i b : ℕ) → entries_from d i (1 + b) ≡ entry_in d i ∷ entries_from d (i + 1) b
unfolding entries_from
first_entry d i b = rw (one-add b)

pub length-entries_from : (d : List ℕ) (left i : ℕ) → length (entries_from d i left) ≡ left
unfolding entries_from
length-entries_from d zero i = refl
length-entries_from d (suc left) i = ap suc (length-entries_from d left (i + 1))

module _ (d slot : List ℕ) (n : ℕ) (whole : length d ≡ 2048) (size : length slot ≡ 26) (free : file_count d < 77) (from : 1 ≤ n) (to : n ≤ file_count d + 1)
  where
    moved : List ℕ
    moved = slot ++ slots d n (file_count d + 1)

    length-moved : length moved ≡ 26 * (file_count d + 2) - 26 * n
    unfolding moved
    length-moved =
        omega (
          arith,
          size,
          whole,
          free,
          to,
          length-append slot (slots d n (file_count d + 1)),
          length-take (26 * (file_count d + 1) - 26 * n) (drop (26 * n) d),
          length-drop (26 * n) d,
        )

    -- A byte before the inserted slot, and after the number of files, is unchanged.
    get_with_slot_below : (k : ℕ) → 18 ≤ k → k < 26 * n → get_or (with_slot d n slot) k 0 ≡ get_or d k 0
    unfolding with_slot moved
    get_with_slot_below k after below =
        let room : 26 * n + length moved ≤ length d = omega (arith, length-moved, whole, free, to) in
        let same = length-written d (26 * n) moved room in
        get_written_above (written d (26 * n) moved) 16 (little_bytes 2 (file_count d + 1)) k (omega (arith, same, whole)) after
        ∙ get_written_below d (26 * n) moved k room below

    get_with_slot_in : (k : ℕ) → k < 26 → get_or (with_slot d n slot) (26 * n + k) 0 ≡ get_or slot k 0
    unfolding with_slot moved
    get_with_slot_in k below =
        let room : 26 * n + length moved ≤ length d = omega (arith, length-moved, whole, free, to) in
        let same = length-written d (26 * n) moved room in
        let at : (26 * n + k) - 26 * n ≡ k = omega arith in
        get_written_above (written d (26 * n) moved) 16 (little_bytes 2 (file_count d + 1)) (26 * n + k) (omega (arith, same, whole)) (omega (arith, from))
        ∙ get_written_in d (26 * n) moved (26 * n + k) room (omega arith) (omega (arith, length-moved, to))
        ∙ ap (λ (i : ℕ). get_or moved i 0) at
        ∙ get_or_append_left slot (slots d n (file_count d + 1)) 0 k (omega (arith, size))

    get_with_slot_above : (k : ℕ) → 26 * n ≤ k → k < 26 * (file_count d + 1) → get_or (with_slot d n slot) (26 + k) 0 ≡ get_or d k 0
    unfolding with_slot moved
    get_with_slot_above k above below =
        let room : 26 * n + length moved ≤ length d = omega (arith, length-moved, whole, free, to) in
        let same = length-written d (26 * n) moved room in
        let at : 26 * n + (((26 + k) - 26 * n) - 26) ≡ k = omega arith in
        get_written_above (written d (26 * n) moved) 16 (little_bytes 2 (file_count d + 1)) (26 + k) (omega (arith, same, whole)) (omega (arith, from))
        ∙ get_written_in d (26 * n) moved (26 + k) room (omega arith) (omega (arith, length-moved))
        ∙ get_or-append_right slot (slots d n (file_count d + 1)) 26 ((26 + k) - 26 * n) 0 size (omega arith)
        ∙ get_or-take (26 * (file_count d + 1) - 26 * n) (drop (26 * n) d) (((26 + k) - 26 * n) - 26) 0 (omega arith)
        ∙ get_or-drop (26 * n) d (((26 + k) - 26 * n) - 26) 0
        ∙ ap (λ (i : ℕ). get_or d i 0) at

    -- A byte outside the number of files and outside the slots that move is unchanged.
    pub with_slot_outside : (k : ℕ) → (k < 16) ⊎ (18 ≤ k) → (k < 26 * n) ⊎ (26 * (file_count d + 2) ≤ k) → get_or (with_slot d n slot) k 0 ≡ get_or d k 0
    unfolding with_slot moved
    with_slot_outside k count slots =
        let room : 26 * n + length moved ≤ length d = omega (arith, length-moved, whole, free, to) in
        let same = length-written d (26 * n) moved room in
        let end : 26 * n + length moved ≡ 26 * (file_count d + 2) = omega (arith, length-moved, to) in
        get_written_outside (written d (26 * n) moved) 16 (little_bytes 2 (file_count d + 1)) k (omega (arith, same, whole)) count
        ∙ get_written_outside d (26 * n) moved k room (rw end slots)

    pub length-with_slot : length (with_slot d n slot) ≡ 2048
    unfolding with_slot moved
    length-with_slot =
        let room : 26 * n + length moved ≤ length d = omega (arith, length-moved, whole, free, to) in
        let same = length-written d (26 * n) moved room in
        length-written (written d (26 * n) moved) 16 (little_bytes 2 (file_count d + 1)) (omega (arith, same, whole)) ∙ same ∙ whole

    entry_in-below : (m : ℕ) → 1 ≤ m → m < n → entry_in (with_slot d n slot) m ≡ entry_in d m
    entry_in-below m low below =
        let long = length-with_slot in
        let size' : 26 * m + 26 - 26 * m ≡ 26 = omega arith in
        ap entry_of (rw size' (same_parts (with_slot d n slot) d (26 * m) (26 * m) 26 (omega arith) (omega arith)
        (λ k small. get_with_slot_below (26 * m + k) (omega arith) (omega arith))))

    entry_in-at : entry_in (with_slot d n slot) n ≡ entry_of slot
    entry_in-at =
        let long = length-with_slot in
        let size' : 26 * n + 26 - 26 * n ≡ 26 = omega arith in
        let whole_slot : take 26 (drop 0 slot) ≡ slot = take_all 26 slot (omega arith) in
        ap entry_of (rw size' (same_parts (with_slot d n slot) slot (26 * n) 0 26 (omega arith) (omega arith)
        (λ k small. let none : 0 + k ≡ k = omega arith in rw none (get_with_slot_in k small)) ∙ whole_slot))

    entry_in-above : (m : ℕ) → n ≤ m → m ≤ file_count d → entry_in (with_slot d n slot) (m + 1) ≡ entry_in d m
    entry_in-above m above low =
        let long = length-with_slot in
        let size' : 26 * m + 26 - 26 * m ≡ 26 = omega arith in
        let size'' : 26 * (m + 1) + 26 - 26 * (m + 1) ≡ 26 = omega arith in
        ap entry_of (rw (size', size'') (same_parts (with_slot d n slot) d (26 * (m + 1)) (26 * m) 26 (omega arith) (omega arith)
        (λ k small. let place : 26 * (m + 1) + k ≡ 26 + (26 * m + k) = omega arith in
        rw place (get_with_slot_above (26 * m + k) (omega arith) (omega arith)))))

    -- The new list of entries is the old list with the new entry inserted.
    pub entries-with_slot : entries_from (with_slot d n slot) 1 (file_count d + 1)
        ≡ insert (entries_from d 1 (file_count d)) (n - 1) (entry_of slot)
    entries-with_slot =
        let count = file_count d in
        let a = n - 1 in
        let b = (count + 1) - n in
        let new = with_slot d n slot in
        let split : count + 1 ≡ a + (1 + b) = omega arith in
        let split' : count ≡ a + b = omega arith in
        let mid : 1 + a ≡ n = omega arith in
        let front : entries_from new 1 a ≡ entries_from d 1 a =
        entries_from-same new d a 1 1 (λ k below. entry_in-below (1 + k) (omega arith) (omega arith)) in
        let back : entries_from new (n + 1) b ≡ entries_from d n b =
        entries_from-same new d b (n + 1) n (λ k below.
        let place : (n + 1) + k ≡ (n + k) + 1 = omega arith in
        rw place (entry_in-above (n + k) (omega arith) (omega arith))) in
        let one : entries_from new n (1 + b) ≡ entry_in new n ∷ entries_from new (n + 1) b = first_entry new n b in
        let here = entry_in-at in
        let old : entries_from d 1 count ≡ entries_from d 1 a ++ entries_from d n b =
        ap (entries_from d 1) split' ∙ entries_from-add d a b 1 ∙ ap (λ (i : ℕ). entries_from d 1 a ++ entries_from d i b) mid in
        let long = length-entries_from d a 1 in
        ap (entries_from new 1) split ∙ entries_from-add new a (1 + b) 1
        ∙ ap (λ (i : ℕ). entries_from new 1 a ++ entries_from new i (1 + b)) mid
        ∙ rw (front, one, here, back, old, take_at (entries_from d 1 a) (entries_from d n b) a long, drop_at (entries_from d 1 a) (entries_from d n b) a long)
        refl

    -- The bytes of the header before the number of files are unchanged.
    header_byte : (k : ℕ) → k < 16 → get_or (with_slot d n slot) k 0 ≡ get_or d k 0
    unfolding with_slot moved
    header_byte k below =
        let room : 26 * n + length moved ≤ length d = omega (arith, length-moved, whole, free, to) in
        let same = length-written d (26 * n) moved room in
        get_written_below (written d (26 * n) moved) 16 (little_bytes 2 (file_count d + 1)) k (omega (arith, same, whole)) below
        ∙ get_written_below d (26 * n) moved k room (omega arith)

    header_word : (place : ℕ) → place + 2 ≤ 16 → word_in (with_slot d n slot) place ≡ word_in d place
    unfolding word_in
    header_word place below =
        rw (header_byte place (omega arith), header_byte (place + 1) (omega arith))

    pub count-with_slot : file_count (with_slot d n slot) ≡ file_count d + 1
    unfolding with_slot moved
    count-with_slot =
        let room : 26 * n + length moved ≤ length d = omega (arith, length-moved, whole, free, to) in
        let same = length-written d (26 * n) moved room in
        word_in-written (written d (26 * n) moved) 16 (file_count d + 1) (omega (arith, same, whole)) (omega (arith, free))

    -- If the files with the new one are in order, then the directory with the inserted slot is valid.
    pub IsDirectory-with_slot : (blocks : ℕ) → IsDirectory d blocks
        → AreInOrder (block_count d) (files_begin d) (insert (files_in d) (n - 1) (entry_of slot))
        → IsDirectory (with_slot d n slot) blocks
    IsDirectory-with_slot blocks old order =
        let new = with_slot d n slot in
        let name = header_byte 6 (omega arith) in
        let begins = header_word 2 (omega arith) in
        let total = header_word 14 (omega arith) in
        let files : files_in new ≡ insert (files_in d) (n - 1) (entry_of slot) =
        ap (entries_from new 1) count-with_slot ∙ entries-with_slot in
        record {
          named = omega (arith, name, old.named);
          short = omega (arith, name, old.short);
          begins = rw begins old.begins;
          holds_directory = omega (arith, total, begins, old.holds_directory);
          within = omega (arith, total, old.within);
          few = omega (arith, count-with_slot, free);
          in_order = rw (total, begins, files) order;
        }

-- The law that computes the length of a list of entries.
pub ruleset entry_counts = (length-entries_from)
