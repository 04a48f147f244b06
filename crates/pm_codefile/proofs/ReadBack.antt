-- If a code file was written, then reading it returns what was written.
use Rattle.std.proofs.Common.{◌≡◌, ◌<◌, ◌≤◌, ℕ, zero, suc, ◌+◌, ◌*◌, ◌%◌, Bool, ◌&&◌, List, [], ◌++◌, All, None, Some, length, take, replicate, get_or, ◌∙◌}
use Rattle.std.proofs.Common.{sym, cond, eqb, ltb, true, false, refl, inl, inr, arith, length-append}
use Rattle.std.specs.Prelude.{slice_range, sum}
use Rattle.std.specs.List.{sum_by}
use Rattle.std.proofs.lemmas.Bool.{cases_Bool, eqb-true, le-ltb}
use Rattle.std.proofs.lemmas.List.{length-replicate, get_or-replicate, get_or_default}
use Rattle.std.proofs.lemmas.List.Sums.{sum_by-le}
use Rattle.pm_codefile.specs.Dictionary.{block_in, file_fault, first_slot_fault, length_in, segment_in, slot_fault, slot_in, word_in}
use Rattle.pm_codefile.specs.Layout.{blocks_for, layout, name_for, names_for, in_blocks, pairs}
use Rattle.pm_codefile.specs.ReadBack.{ReadsBack, begin_of, first_block_of}
use Rattle.pm_codefile.proofs.Written.{length-names, length-padded, length-pairs, names-name, padded-part, pairs-block, pairs-length, part-within}
use Rattle.pm_codefile.proofs.Written.{slice_range-left, slice_range-right, word_in-left, word_in-right}

-- A word inside a list of zeros is 0.
zero-word : (n p : ℕ) → p + 2 ≤ n → word_in (replicate n 0) p ≡ 0
unfolding word_in
zero-word n p h = rw (get_or-replicate {A = ℕ} n p 0 0 (omega arith), get_or-replicate {A = ℕ} n (p + 1) 0 0 (omega arith)) refl

-- If none of the slots has a fault, then the search for the first fault returns `None`.
none-first : (file : List ℕ) (left n : ℕ) → ((k : ℕ) → k < n + left → slot_fault file k ≡ None) → first_slot_fault file n left ≡ None
unfolding first_slot_fault
none-first file zero n none = refl
none-first file (suc left) n none = rw (none n (omega arith)) (none-first file left (n + 1) (λ k l. none k (omega arith)))

few-blocks : (ns : List ℕ) → length ns ≡ 16 → ((k : ℕ) → get_or ns k 0 < 65536) → sum_by blocks_for ns ≤ 2048
few-blocks ns sixteen small =
    let most : sum_by blocks_for ns ≤ length ns * 128 =
    sum_by-le blocks_for 128 ns (λ k d l. let s = small k in let e = get_or_default ns k d 0 l in omega arith) in
    omega arith

neither : (a b : Bool) → b ≡ false → (a && b) ≡ false
neither true b h = h
neither false b h = refl

module _ (names : List (List ℕ)) (ns segments : List ℕ) (named : length names ≡ 16) (sixteen : length ns ≡ 16)
    (each : (k : ℕ) → k < length names → length (get_or names k []) ≡ 8) (small : (k : ℕ) → get_or ns k 0 < 65536)
    (few : sum_by blocks_for ns ≤ 2048) (joined : sum ns ≡ length segments) where
  lengths_of_pairs : length (pairs 1 ns) ≡ 64
  lengths_of_pairs = omega (arith, length-pairs ns 1)

  lengths_of_names : length (names_for names ns) ≡ 128
  lengths_of_names = omega (arith, length-names names ns (named ∙ sym sixteen) each)

  length-front : length (pairs 1 ns ++ names_for names ns) ≡ 192
  length-front = omega (arith, length-append (pairs 1 ns) (names_for names ns), lengths_of_pairs, lengths_of_names)

  length-dictionary : length ((pairs 1 ns ++ names_for names ns) ++ replicate 320 0) ≡ 512
  length-dictionary =
      omega (arith, length-append (pairs 1 ns ++ names_for names ns) (replicate 320 0), length-front, length-replicate {A = ℕ} 320 0)

  length-file : length (layout names ns segments) ≡ 512 + 512 * sum_by blocks_for ns
  unfolding layout
  length-file =
      omega (
        arith,
        length-append ((pairs 1 ns ++ names_for names ns) ++ replicate 320 0) (in_blocks ns segments),
        length-dictionary,
        length-padded ns segments (omega arith),
      )

  -- A word at an offset below 62 of the file is the word at this offset of the list of blocks and lengths.
  word_of_pairs : (p : ℕ) → p + 2 ≤ 64 → word_in (layout names ns segments) p ≡ word_in (pairs 1 ns) p
  unfolding layout
  word_of_pairs p h =
      word_in-left ((pairs 1 ns ++ names_for names ns) ++ replicate 320 0) (in_blocks ns segments) p (omega (arith, length-dictionary))
      ∙ word_in-left (pairs 1 ns ++ names_for names ns) (replicate 320 0) p (omega (arith, length-front))
      ∙ word_in-left (pairs 1 ns) (names_for names ns) p (omega (arith, lengths_of_pairs))

  length_of_slot : (n : ℕ) → n < 16 → length_in (layout names ns segments) n ≡ get_or ns n 0
  length_of_slot n l = word_of_pairs (4 * n + 2) (omega arith) ∙ pairs-length ns 1 n (omega arith) small

  block_of_slot : (n : ℕ) → n < 16 → block_in (layout names ns segments) n ≡ first_block_of ns n
  block_of_slot n l = word_of_pairs (4 * n) (omega arith) ∙ pairs-block ns 1 n (omega arith) (omega (arith, few))

  kind_of_slot : (n : ℕ) → n < 16 → word_in (layout names ns segments) (192 + 2 * n) ≡ 0
  unfolding layout
  kind_of_slot n l =
      word_in-left ((pairs 1 ns ++ names_for names ns) ++ replicate 320 0) (in_blocks ns segments) (192 + 2 * n) (omega (arith, length-dictionary))
      ∙ word_in-right (pairs 1 ns ++ names_for names ns) (replicate 320 0) 192 (2 * n) length-front
      ∙ zero-word 320 (2 * n) (omega arith)

  name_of_slot : (n : ℕ) → n < 16
      → slice_range (layout names ns segments) (64 + 8 * n) ((64 + 8 * n) + 8) ≡ name_for (get_or names n []) (get_or ns n 0)
  unfolding layout
  name_of_slot n l =
      let front = pairs 1 ns ++ names_for names ns in
      let e : (64 + 8 * n) + 8 ≡ 64 + (8 * n + 8) = omega arith in
      slice_range-left (front ++ replicate 320 0) (in_blocks ns segments) (64 + 8 * n) ((64 + 8 * n) + 8) (omega arith) (omega (arith, length-dictionary))
      ∙ slice_range-left front (replicate 320 0) (64 + 8 * n) ((64 + 8 * n) + 8) (omega arith) (omega (arith, length-front))
      ∙ rw e (slice_range-right (pairs 1 ns) (names_for names ns) 64 (8 * n) (8 * n + 8) lengths_of_pairs
      ∙ names-name names ns n (omega arith) (named ∙ sym sixteen) each)

  part_of_slot : (n : ℕ) → n < 16 → eqb (get_or ns n 0) 0 ≡ false
      → slice_range (layout names ns segments) (512 * first_block_of ns n) (512 * first_block_of ns n + get_or ns n 0)
      ≡ slice_range segments (begin_of ns n) (begin_of ns n + get_or ns n 0)
  unfolding layout
  part_of_slot n l some =
      let b = sum_by blocks_for (take n ns) in
      let m = get_or ns n 0 in
      let e : 512 * (1 + b) ≡ 512 + 512 * b = omega arith in
      let f : (512 + 512 * b) + m ≡ 512 + (512 * b + m) = omega arith in
      rw (some, e, f)
      (slice_range-right ((pairs 1 ns ++ names_for names ns) ++ replicate 320 0) (in_blocks ns segments) 512 (512 * b) (512 * b + m) length-dictionary
      ∙ padded-part ns segments n (omega arith) (omega arith))

  slot_of_file : (n : ℕ) → n < 16 → slot_in (layout names ns segments) n ≡ Some (record {
    block = first_block_of ns n;
    length = get_or ns n 0;
    kind = 0;
    name = name_for (get_or names n []) (get_or ns n 0);
  })
  unfolding slot_in
  slot_of_file n l =
      let above : ltb 15 n ≡ false = le-ltb 15 n (omega arith) in
      rw (above, length_of_slot n l, block_of_slot n l, kind_of_slot n l, name_of_slot n l) refl

  part_of_file : (n : ℕ) → n < 16 → segment_in (layout names ns segments) n ≡ cond (eqb (get_or ns n 0) 0) None
      (Some (slice_range segments (begin_of ns n) (begin_of ns n + get_or ns n 0)))
  unfolding segment_in
  part_of_file n l =
      let above : ltb 15 n ≡ false = le-ltb 15 n (omega arith) in
      rw (above, length_of_slot n l, block_of_slot n l) (elim (cases_Bool (eqb (get_or ns n 0) 0)) [
        | inl e ↦ rw e refl
        | inr e ↦ rw (part_of_slot n l e, e) refl
      ])

  slot_within : (n : ℕ) → n < 16 → eqb (get_or ns n 0) 0 ≡ false → 512 * first_block_of ns n + get_or ns n 0 ≤ length (layout names ns segments)
  slot_within n l some = rw some (omega (arith, length-file, part-within ns n (omega arith)))

  fault_of_slot : (n : ℕ) → n < 16 → get_or ns n 0 % 2 ≡ 0 → slot_fault (layout names ns segments) n ≡ None
  unfolding slot_fault
  fault_of_slot n l even =
      rw (length_of_slot n l, block_of_slot n l, even) (elim (cases_Bool (eqb (get_or ns n 0) 0)) [
        | inl e ↦
            let zero_length : get_or ns n 0 ≡ 0 = eqb-true (get_or ns n 0) 0 e in
            let none : ltb 0 (get_or ns n 0) ≡ false = le-ltb 0 (get_or ns n 0) (omega arith) in
            rw none refl
        | inr e ↦
            let none = le-ltb (length (layout names ns segments)) (512 * first_block_of ns n + get_or ns n 0) (slot_within n l e) in
            rw (neither (ltb 0 (get_or ns n 0)) (ltb (length (layout names ns segments)) (512 * first_block_of ns n + get_or ns n 0)) none) refl
      ])

-- The file that `layout` defines reads back as it was written (`ReadsBack`).
pub layout-reads_back : (names : List (List ℕ)) (ns segments : List ℕ) → length names ≡ 16 → length ns ≡ 16
    → ((k : ℕ) → k < length names → length (get_or names k []) ≡ 8) → ((k : ℕ) → get_or ns k 0 < 65536) → sum ns ≡ length segments
    → All (λ n. n % 2 ≡ 0) ns → ReadsBack names ns segments (layout names ns segments)
unfolding file_fault
layout-reads_back names ns segments named sixteen each small joined even =
    let few = few-blocks ns sixteen small in
    let long : ltb (length (layout names ns segments)) 512 ≡ false =
    le-ltb _ 512 (omega (arith, length-file names ns segments named sixteen each small few joined)) in
    record {
      accepted = rw long (none-first (layout names ns segments) 16 0
          (λ n l. fault_of_slot names ns segments named sixteen each small few joined n l (even n 0 (omega arith))));
      slots = slot_of_file names ns segments named sixteen each small few joined;
      parts = part_of_file names ns segments named sixteen each small few joined;
    }
