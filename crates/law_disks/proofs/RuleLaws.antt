-- Lemmas: an image opens as a volume if and only if `image_findings` finds no fault in it.
use Rattle.std.proofs.Common.{◌≡◌, ◌==◌, ◌<◌, ◌≤◌, ◌⊎◌, inl, inr, ℕ, zero, suc, ◌+◌, ◌-◌, ◌/◌, ◌%◌, Bool, true, false, ltb, not, ◌||◌, ◌&&◌}
use Rattle.std.proofs.Common.{List, [], ◌∷◌, ◌++◌, length, min, refl, arith}
use Rattle.std.specs.Prelude.{slice_index, if◌then◌else◌}
use Rattle.std.proofs.lemmas.Bool.Decides.{nat_tests}
use Rattle.pm_volume.specs.Directory.{IsDirectory, IsVolume, block_count, directory_of, entries_from, entry_in, file_count, files_begin}
use Rattle.pm_volume.specs.Entries.{AreInOrder, IsSoundEntry}
use Rattle.pm_volume.specs.declared.entry.Entry.{Entry}
use Rattle.pm_volume.proofs.Faults.{IsVolume-from_none, none-from_volume}
use Rattle.pm_check.specs.declared.finding.Finding.{Finding}
use Rattle.pm_check.specs.Rules.{directory_findings, findings_from, found_if, header_findings, image_findings}
use Rattle.pm_check.specs.Rules.{slot_findings}
use Rattle.law_disks.specs.CheckLaws.{GoodImagesOpen, SharedBlocks}
use Rattle.pm_check.specs.Notes.{HaveBlock, shares}

none : (b : Bool) (f : Finding) (rest : List Finding) → found_if b f ++ rest ≡ [] → (b ≡ false) × (rest ≡ [])
none true f rest h = cc
none false f rest h = (refl, h)

last : (b : Bool) (f : Finding) → found_if b f ≡ [] → b ≡ false
last true f h = cc
last false f h = refl

more : (b : Bool) (f : Finding) (rest : List Finding) → b ≡ false → rest ≡ [] → found_if b f ++ rest ≡ []
more b f rest stay empty = rw (stay, empty) refl

lone : (b : Bool) (f : Finding) → b ≡ false → found_if b f ≡ []
lone b f stay = rw stay refl

parts : (xs ys : List Finding) → xs ++ ys ≡ [] → (xs ≡ []) × (ys ≡ [])
parts [] ys h = (refl, h)
parts (x ∷ xs) ys h = cc

both : (xs ys : List Finding) → xs ≡ [] → ys ≡ [] → xs ++ ys ≡ []
both xs ys x y = rw (x, y) refl

-- ---- a slot

-- The entry in slot `n` is valid by itself, and does not begin before the end of the entry before it.
record Keeps (d : List ℕ) (n : ℕ) : Type 0 where
  named : 1 ≤ slice_index (entry_in d n).name 0
  short : slice_index (entry_in d n).name 0 ≤ 15
  from : files_begin d ≤ (entry_in d n).first
  ordered : (entry_in d n).first ≤ (entry_in d n).end
  within : (entry_in d n).end ≤ block_count d
  some_bytes : (entry_in d n).first < (entry_in d n).end → 1 ≤ (entry_in d n).last_bytes
  one_block : (entry_in d n).first < (entry_in d n).end → (entry_in d n).last_bytes ≤ 512
  after : 1 < n → (entry_in d (n - 1)).end ≤ (entry_in d n).first

named_test : (l : ℕ) → (ltb l 1 || ltb 15 l) ≡ false → (1 ≤ l) × (l ≤ 15)
named_test l h = grind (arith, nat_tests)

below_test : (a b : ℕ) → ltb a b ≡ false → b ≤ a
below_test a b h = grind (arith, nat_tests)

last_test : (first end bytes : ℕ) → (ltb first end && (ltb bytes 1 || ltb 512 bytes)) ≡ false → first < end → (1 ≤ bytes) × (bytes ≤ 512)
last_test first end bytes h below = grind (arith, nat_tests)

order_test : (n first before : ℕ) → (ltb 1 n && ltb first before) ≡ false → 1 < n → before ≤ first
order_test n first before h below = grind (arith, nat_tests)

Keeps-from_none : (d : List ℕ) (n : ℕ) → slot_findings d n ≡ [] → Keeps d n
unfolding slot_findings
Keeps-from_none d n h =
    let e : Entry = entry_in d n in
    let a = none _ _ _ h in
    let b = none _ _ _ a.1 in
    let c = none _ _ _ b.1 in
    let f = none _ _ _ c.1 in
    let g = none _ _ _ f.1 in
    let i = last _ _ g.1 in
    let name = named_test (slice_index e.name 0) a.0 in
    record {
      named = name.0;
      short = name.1;
      from = below_test _ _ b.0;
      ordered = below_test _ _ c.0;
      within = below_test _ _ f.0;
      some_bytes = λ below. (last_test e.first e.end e.last_bytes g.0 below).0;
      one_block = λ below. (last_test e.first e.end e.last_bytes g.0 below).1;
      after = λ below. order_test n e.first (entry_in d (n - 1)).end i below;
    }

name_holds : (l : ℕ) → 1 ≤ l → l ≤ 15 → (ltb l 1 || ltb 15 l) ≡ false
name_holds l a b = grind (arith, nat_tests)

below_holds : (a b : ℕ) → b ≤ a → ltb a b ≡ false
below_holds a b h = grind (arith, nat_tests)

last_holds : (first end bytes : ℕ) → (first < end → 1 ≤ bytes) → (first < end → bytes ≤ 512) → (ltb first end && (ltb bytes 1 || ltb 512 bytes)) ≡ false
last_holds first end bytes a b = grind (arith, nat_tests)

order_holds : (n first before : ℕ) → (1 < n → before ≤ first) → (ltb 1 n && ltb first before) ≡ false
order_holds n first before h = grind (arith, nat_tests)

none-from_keeps : (d : List ℕ) (n : ℕ) → Keeps d n → slot_findings d n ≡ []
unfolding slot_findings
none-from_keeps d n k =
    more _ _ _ (name_holds _ k.named k.short)
    (more _ _ _ (below_holds _ _ k.from)
    (more _ _ _ (below_holds _ _ k.ordered)
    (more _ _ _ (below_holds _ _ k.within)
    (more _ _ _ (last_holds _ _ _ k.some_bytes k.one_block)
    (lone _ _ (order_holds _ _ _ k.after))))))

-- ---- the slots

-- The files before slot `n` end at block `from`. For slot 1, `from` is the block where files begin.
record Before (d : List ℕ) (n from : ℕ) : Type 0 where
  slot : 1 ≤ n
  first : n ≡ 1 → from ≡ files_begin d
  later : 1 < n → from ≡ (entry_in d (n - 1)).end

Before-next : (d : List ℕ) (n : ℕ) → 1 ≤ n → Before d (n + 1) (entry_in d n).end
Before-next d n h =
    let same : n + 1 - 1 ≡ n = omega arith in
    record {
      slot = omega arith;
      first = λ one. absurd (omega arith);
      later = λ _. rw same refl;
    }

after_before : (d : List ℕ) (n from : ℕ) → Before d n from → Keeps d n → from ≤ (entry_in d n).first
after_before d n from b k = elim (one_or_more n b.slot) [
  | inl one ↦ let e = b.first one in omega (arith, k.from)
  | inr above ↦ let e = b.later above in omega (arith, k.after above)
]
  where
    one_or_more : (n : ℕ) → 1 ≤ n → (n ≡ 1) ⊎ (1 < n)
    one_or_more n h = grind arith

in_order : (d : List ℕ) (n left from : ℕ) → Before d n from → findings_from d n left ≡ [] → AreInOrder (block_count d) from (entries_from d n left)
unfolding findings_from entries_from AreInOrder
in_order d n zero from b h = tt
in_order d n (suc left) from b h =
    let p = parts (slot_findings d n) _ h in
    let k = Keeps-from_none d n p.0 in (
      record {
        named = k.named;
        short = k.short;
        after = after_before d n from b k;
        ordered = k.ordered;
        some_bytes = k.some_bytes;
        one_block = k.one_block;
      },
      k.within,
      in_order d (n + 1) left (entry_in d n).end (Before-next d n b.slot) p.1,
    )

none_in_order : (d : List ℕ) (n left from : ℕ) → Before d n from → files_begin d ≤ from → AreInOrder (block_count d) from (entries_from d n left)
    → findings_from d n left ≡ []
unfolding findings_from entries_from AreInOrder
none_in_order d n zero from b begin order = refl
none_in_order d n (suc left) from b begin order =
    let s : IsSoundEntry from (entry_in d n) = order.0 in
    let k : Keeps d n = record {
      named = s.named;
      short = s.short;
      from = omega (arith, s.after, begin);
      ordered = s.ordered;
      within = order.1;
      some_bytes = s.some_bytes;
      one_block = s.one_block;
      after = λ above. let e = b.later above in omega (arith, s.after);
    } in
    both (slot_findings d n) (findings_from d (n + 1) left) (none-from_keeps d n k)
    (none_in_order d (n + 1) left (entry_in d n).end (Before-next d n b.slot) (omega (arith, s.after, s.ordered, begin)) order.2)

-- ---- the directory

Before-first : (d : List ℕ) → Before d 1 (files_begin d)
Before-first d = record { slot = omega arith; first = λ _. refl; later = λ above. absurd (omega arith) }

header_test : (l : ℕ) → (ltb l 1 || ltb 7 l) ≡ false → (1 ≤ l) × (l ≤ 7)
header_test l h = grind (arith, nat_tests)

begin_test : (b : ℕ) → (not (b == 6) && not (b == 10)) ≡ false → (b ≡ 6) ⊎ (b ≡ 10)
begin_test b h = grind (arith, nat_tests)

header_holds : (l : ℕ) → 1 ≤ l → l ≤ 7 → (ltb l 1 || ltb 7 l) ≡ false
header_holds l a b = grind (arith, nat_tests)

begin_holds : (b : ℕ) → (b ≡ 6) ⊎ (b ≡ 10) → (not (b == 6) && not (b == 10)) ≡ false
begin_holds b h = grind (arith, nat_tests)

IsDirectory-from_none : (d : List ℕ) (blocks : ℕ) → directory_findings d blocks ≡ [] → IsDirectory d blocks
unfolding directory_findings header_findings
IsDirectory-from_none d blocks h =
    let p = parts (header_findings d blocks) _ h in
    let a = none _ _ _ p.0 in
    let b = none _ _ _ a.1 in
    let c = none _ _ _ b.1 in
    let f = none _ _ _ c.1 in
    let g = last _ _ f.1 in
    let name = header_test _ a.0 in
    let few : file_count d ≤ 77 = below_test _ _ g in
    let all : min (file_count d) 77 ≡ file_count d = omega (arith, few) in
    record {
      named = name.0;
      short = name.1;
      begins = begin_test _ b.0;
      holds_directory = below_test _ _ c.0;
      within = below_test _ _ f.0;
      few = few;
      in_order = in_order d 1 (file_count d) (files_begin d) (Before-first d) (rw all at p.1);
    }

none-from_directory : (d : List ℕ) (blocks : ℕ) → IsDirectory d blocks → directory_findings d blocks ≡ []
unfolding directory_findings header_findings
none-from_directory d blocks k =
    let all : min (file_count d) 77 ≡ file_count d = omega (arith, k.few) in
    both (header_findings d blocks) _
    (more _ _ _ (header_holds _ k.named k.short)
    (more _ _ _ (begin_holds _ k.begins)
    (more _ _ _ (below_holds _ _ k.holds_directory)
    (more _ _ _ (below_holds _ _ k.within)
    (lone _ _ (below_holds _ _ k.few))))))
    (rw all (none_in_order d 1 (file_count d) (files_begin d) (Before-first d) (omega arith) k.in_order))

-- ---- the image

whole_test : (n : ℕ) → not (n % 512 == 0) ≡ false → n % 512 ≡ 0
whole_test n h = grind (arith, nat_tests)

whole_holds : (n : ℕ) → n % 512 ≡ 0 → not (n % 512 == 0) ≡ false
whole_holds n h = grind (arith, nat_tests)

long_test : (b : Bool) (f : Finding) (rest : List Finding) → (if b then f ∷ [] else rest) ≡ [] → (b ≡ false) × (rest ≡ [])
long_test true f rest h = cc
long_test false f rest h = (refl, h)

IsVolume-from_good : (image : List ℕ) → image_findings image ≡ [] → IsVolume image
unfolding image_findings
IsVolume-from_good image h =
    let a = none _ _ _ h in
    let b = long_test _ _ _ a.1 in
    record {
      whole = whole_test (length image) a.0;
      long = below_test _ _ b.0;
      has_directory = IsDirectory-from_none (directory_of image) (length image / 512) b.1;
    }

good-from_volume : (image : List ℕ) → IsVolume image → image_findings image ≡ []
unfolding image_findings
good-from_volume image v =
    let long : ltb (length image) 3072 ≡ false = below_holds _ _ v.long in
    more _ _ _ (whole_holds (length image) v.whole)
    (rw long (none-from_directory (directory_of image) (length image / 512) v.has_directory))

pub good_images_open : GoodImagesOpen
good_images_open image =
    (λ none. good-from_volume image (IsVolume-from_none image none), λ good. none-from_volume image (IsVolume-from_good image good))

-- ---- blocks of two files

pub shared_blocks : SharedBlocks
shared_blocks a b = (to, from)
  where
    to : shares a b ≡ true → HaveBlock a b
    to h = elim (larger a.first b.first) [
      | inl below ↦ record {
        block = b.first;
        from = below;
        to = grind (arith, nat_tests);
        other_from = omega arith;
        other_to = grind (arith, nat_tests);
      }
      | inr above ↦ record {
        block = a.first;
        from = omega arith;
        to = grind (arith, nat_tests);
        other_from = omega (arith, above);
        other_to = grind (arith, nat_tests);
      }
    ]
      where
        larger : (m n : ℕ) → (m ≤ n) ⊎ (n < m)
        larger m n = grind arith

    from : HaveBlock a b → shares a b ≡ true
    from h = grind (arith, nat_tests, h.from, h.to, h.other_from, h.other_to)
