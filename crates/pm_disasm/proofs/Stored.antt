-- Lemmas about a jump table in a segment.
use Rattle.std.proofs.Common.{◌≡◌, ◌≤◌, ℕ, zero, suc, ◌+◌, ◌-◌, ◌*◌, ◌/◌, ◌%◌, true, List, [], ◌∷◌, ◌++◌, length, take}
use Rattle.std.proofs.Common.{drop, get_or, reverse, refl, sym, ap, ◌∙◌, arith, append_assoc, length-drop, drop-drop}
use Rattle.std.specs.Prelude.{nat_le}
use Rattle.std.specs.List.{AllByRecursion}
use Rattle.std.proofs.Math.Seq.{take-add}
use Rattle.std.proofs.lemmas.List.{get_or-drop, length-reverse}
use Rattle.std.proofs.lemmas.Bool.{and_from, and_parts, le-leb, leb-true}
use Rattle.pm_opcode.specs.Spelling.{spelled_word}
use Rattle.pm_codefile.specs.Dictionary.{word_in}
use Rattle.pm_codefile.proofs.Written.{word_in-right}
use Rattle.pm_code.specs.Item.{IsByte}
use Rattle.pm_code.specs.Program.{back_to, entry_bytes}
use Rattle.pm_disasm.specs.Split.{entry_places, are_after}
use Rattle.pm_code.proofs.Stored.{entries-first, length-entry_bytes}
use Rattle.pm_disasm.proofs.Fronts.{drop-bytes}

word_in-drop : (n p : ℕ) (bs : List ℕ) → word_in bs (n + p) ≡ word_in (drop n bs) p
unfolding word_in
word_in-drop n p bs =
    let low : get_or bs (n + p) 0 ≡ get_or (drop n bs) p 0 = sym (get_or-drop n bs p 0) in
    let same : n + p + 1 ≡ n + (p + 1) = omega arith in
    let high : get_or bs (n + p + 1) 0 ≡ get_or (drop n bs) (p + 1) 0 = ap (λ k. get_or bs k 0) same ∙ sym (get_or-drop n bs (p + 1) 0) in
    rw (low, high) refl

word_first : (w : ℕ) (rest : List ℕ) → word_in (spelled_word w ++ rest) 0 ≡ w
unfolding word_in
word_first w rest = omega arith

-- If the bytes of the word `w` follow `xs` in the segment, then the word at this offset is `w`.
pub stored_word : (segment xs rest : List ℕ) (at p w : ℕ) → drop at segment ≡ xs ++ (spelled_word w ++ rest) → p ≡ at + length xs → word_in segment p ≡ w
stored_word segment xs rest at p w e f =
    ap (word_in segment) f
    ∙ word_in-drop at (length xs) segment
    ∙ ap (λ bs. word_in bs (length xs)) e
    ∙ (let same : length xs ≡ length xs + 0 = omega arith in ap (word_in (xs ++ (spelled_word w ++ rest))) same)
    ∙ word_in-right xs (spelled_word w ++ rest) (length xs) 0 refl
    ∙ word_first w rest

-- States that the segment has the jump table `places`, from entry `k` on, at offset `at`, and that `rest` follows it.
pub record Table (segment : List ℕ) (at jtab k : ℕ) (places rest : List ℕ) : Type 0 where
  pub there : drop at segment ≡ entry_bytes at (reverse places) ++ rest
  pub ends : jtab ≡ at + 2 * length places + 8 + 2 * k

-- The first word of the table is the distance from its own offset to `place`.
pub first_word : (segment : List ℕ) (at jtab k place : ℕ) (places rest : List ℕ) → Table segment at jtab k (place ∷ places) rest
    → word_in segment (jtab - 10 - 2 * k) ≡ (jtab - 10 - 2 * k) - place
first_word segment at jtab k place places rest t =
    let here : at + 2 * length places ≡ jtab - 10 - 2 * k = omega (arith, t.ends) in
    let before : List ℕ = entry_bytes at (reverse places) in
    let long : length before ≡ 2 * length places = length-entry_bytes at (reverse places) ∙ ap (λ n. 2 * n) (length-reverse places) in
    stored_word segment before rest at (jtab - 10 - 2 * k) ((jtab - 10 - 2 * k) - place)
    (t.there ∙ ap (λ bs. bs ++ rest) (entries-first at place places) ∙ append_assoc before (back_to (at + 2 * length places) place) rest
    ∙ ap (λ n. before ++ (back_to n place ++ rest)) here)
    (omega (arith, long, here))

pub other_words : (segment : List ℕ) (at jtab k place : ℕ) (places rest : List ℕ) → Table segment at jtab k (place ∷ places) rest
    → Table segment at jtab (k + 1) places (back_to (at + 2 * length places) place ++ rest)
other_words segment at jtab k place places rest t = record {
  there = t.there ∙ ap (λ bs. bs ++ rest) (entries-first at place places)
      ∙ append_assoc (entry_bytes at (reverse places)) (back_to (at + 2 * length places) place) rest;
  ends = omega (arith, t.ends);
}

-- If the table contains `places`, and `t` is at most their number, then the first `t` entries are read as `take t
-- places`.
pub entries_read : (segment : List ℕ) (at jtab k t : ℕ) (places rest : List ℕ) → Table segment at jtab k places rest → t ≤ length places
    → AllByRecursion (λ place. place ≤ at) places → entry_places segment jtab k t ≡ take t places
entries_read segment at jtab k zero places rest h n l = refl
entries_read segment at jtab k (suc t) [] rest h n l = absurd (omega arith)
entries_read segment at jtab k (suc t) (place ∷ places) rest h n l =
    let here = jtab - 10 - 2 * k in
    let one : here - word_in segment here ≡ place = ap (λ w. here - w) (first_word segment at jtab k place places rest h) ∙ omega (arith, h.ends, l.0) in
    rw one (ap (λ ps. place ∷ ps) (entries_read segment at jtab (k + 1) t places (back_to (at + 2 * length places) place ++ rest)
    (other_words segment at jtab k place places rest h) (omega arith) l.1))

-- If each target is in the code, then no target of the first `t` entries is before the code.
pub entries_after : (segment : List ℕ) (enter at jtab k t : ℕ) (places rest : List ℕ) → Table segment at jtab k places rest → t ≤ length places
    → AllByRecursion (λ place. (enter ≤ place) × (place ≤ at)) places → are_after segment enter jtab k t ≡ true
entries_after segment enter at jtab k zero places rest h n l = refl
entries_after segment enter at jtab k (suc t) [] rest h n l = absurd (omega arith)
entries_after segment enter at jtab k (suc t) (place ∷ places) rest h n l =
    let here = jtab - 10 - 2 * k in
    and_from _ _ (le-leb _ _ (omega (arith, first_word segment at jtab k place places rest h, h.ends, l.0.0, l.0.1)))
    (entries_after segment enter at jtab (k + 1) t places (back_to (at + 2 * length places) place ++ rest) (other_words segment at jtab k place places rest h)
    (omega arith) l.1)

-- The bytes of the word that is read from the first two of `bs` are these two bytes.
word_of_bytes : (bs : List ℕ) → 2 ≤ length bs → AllByRecursion IsByte bs → spelled_word (word_in bs 0) ≡ take 2 bs
unfolding word_in
word_of_bytes [] n h = absurd (omega arith)
word_of_bytes (x ∷ []) n h = absurd (omega arith)
word_of_bytes (x ∷ y ∷ bs) n h =
    let low : (x + 256 * y) % 256 ≡ x = omega (arith, h.0, h.1.0) in
    let high : (x + 256 * y) / 256 ≡ y = omega (arith, h.0, h.1.0) in
    rw (low, high) refl

word_there : (segment : List ℕ) (p : ℕ) → p + 2 ≤ length segment → AllByRecursion IsByte segment → spelled_word (word_in segment p) ≡ take 2 (drop p segment)
word_there segment p n h =
    let same : p ≡ p + 0 = omega arith in
    ap spelled_word (ap (word_in segment) same ∙ word_in-drop p 0 segment)
    ∙ word_of_bytes (drop p segment) (omega (arith, length-drop p segment)) (drop-bytes p segment h)

pub length-entry_places : (segment : List ℕ) (jtab k t : ℕ) → length (entry_places segment jtab k t) ≡ t
length-entry_places segment jtab k zero = refl
length-entry_places segment jtab k (suc t) = omega (arith, length-entry_places segment jtab (k + 1) t)

-- If `t` entries are read from a segment, then the bytes of these entries are the bytes from which they are read.
pub entries_again : (segment : List ℕ) (enter at jtab k t : ℕ) → jtab ≡ at + 2 * t + 8 + 2 * k → jtab ≤ length segment → AllByRecursion IsByte segment
    → are_after segment enter jtab k t ≡ true → entry_bytes at (reverse (entry_places segment jtab k t)) ≡ take (2 * t) (drop at segment)
entries_again segment enter at jtab k zero e n h a = refl
entries_again segment enter at jtab k (suc t) e n h a =
    let here = jtab - 10 - 2 * k in
    let places = entry_places segment jtab (k + 1) t in
    let both = and_parts (nat_le (enter + word_in segment here) here) (are_after segment enter jtab (k + 1) t) a in
    let low : enter + word_in segment here ≤ here = leb-true _ _ both.0 in
    let stands : at + 2 * length places ≡ here = omega (arith, length-entry_places segment jtab (k + 1) t, e) in
    let one : back_to (at + 2 * length places) (here - word_in segment here) ≡ take 2 (drop here segment) =
    ap (λ n. back_to n (here - word_in segment here)) stands ∙ ap spelled_word (omega (arith, low)) ∙ word_there segment here (omega (arith, e, n)) h in
    let more : entry_bytes at (reverse places) ≡ take (2 * t) (drop at segment) = entries_again segment enter at jtab (k + 1) t (omega (arith, e)) n h both.1 in
    let from : drop here segment ≡ drop (2 * t) (drop at segment) = ap (λ n. drop n segment) (omega (arith, e)) ∙ sym (drop-drop (2 * t) at segment) in
    let count : 2 * t + 2 ≡ 2 * suc t = omega arith in
    entries-first at (here - word_in segment here) places
    ∙ ap (λ bs. bs ++ back_to (at + 2 * length places) (here - word_in segment here)) more
    ∙ ap (λ bs. take (2 * t) (drop at segment) ++ bs) (one ∙ ap (take 2) from)
    ∙ sym (take-add (2 * t) 2 (drop at segment))
    ∙ ap (λ n. take n (drop at segment)) count
