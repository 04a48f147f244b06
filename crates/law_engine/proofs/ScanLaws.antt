-- Lemmas: a scan stops at the first byte for which it searches.
use Rattle.std.proofs.Common.{◌≡◌, ℕ, ◌+◌, ◌-◌, ◌<◌, ◌≤◌, Bool, true, false, List, length, drop, get_or, ltb, refl, sym, ap, ◌∙◌, arith, inl, inr}
use Rattle.std.specs.Prelude.{pos, negsuc, reverse}
use Rattle.std.specs.List.{position_or_len}
use Rattle.std.proofs.lemmas.Bool.{cases_lt}
use Rattle.std.proofs.lemmas.Bool.Decides.{nat_tests}
use Rattle.std.proofs.lemmas.List.{get_or-take, get_or-drop, get_or-reverse, length-reverse}
use Rattle.std.proofs.lemmas.List.Sums.{fails_before_first, passes_at_first}
use Rattle.pm_words.specs.Words.{IsMemory, byte_at, bytes_at, bytes_of, passed, stops}
use Rattle.pm_words.proofs.Laws.{scanned-down, scanned-up}
use Rattle.pm_words.proofs.RangeLaws.{length-bytes_at}
use Rattle.law_engine.specs.ProcedureLaws.{IsFirst, ScansDown, ScansStopFirst, ScansUp}

-- The number of bytes that a scan passes in `bs` is the index of the first byte that stops the scan, or the length of
-- `bs`.
passed-first : (bs : List ℕ) (b : ℕ) (equal : Bool) → IsFirst (λ i. stops equal b (get_or bs i 0)) (length bs) (passed bs b equal)
passed-first bs b equal = elim (cases_lt (position_or_len (stops equal b) bs) (length bs)) [
  | inl inside ↦ let test : ltb (position_or_len (stops equal b) bs) (length bs) ≡ true = grind (arith, nat_tests) in
      let is : passed bs b equal ≡ position_or_len (stops equal b) bs = rw test refl in
      rw is (record {
        inside = omega arith;
        before = λ i l. fails_before_first (stops equal b) bs i 0 l;
        there = λ l. passes_at_first (stops equal b) bs 0 l;
      })
  | inr past ↦ let test : ltb (position_or_len (stops equal b) bs) (length bs) ≡ false = grind (arith, nat_tests) in
      let is : passed bs b equal ≡ length bs = rw test refl in
      rw is (record {
        inside = omega arith;
        before = λ i l. fails_before_first (stops equal b) bs i 0 (omega arith);
        there = λ l. absurd (omega arith);
      })
]

-- If the tests `p` and `q` agree below `n`, then the first index at which `p` is true is also the first for `q`.
first-same : (p q : ℕ → Bool) (n m k : ℕ) → n ≡ m → ((i : ℕ) → i < n → p i ≡ q i) → IsFirst p n k → IsFirst q m k
first-same p q n m k e same f = record {
  inside = omega (arith, f.inside);
  before = λ i l. sym (same i (omega (arith, f.inside))) ∙ f.before i l;
  there = λ l. sym (same k (omega arith)) ∙ f.there (omega arith);
}

get_or-bytes_at : (ws : List ℕ) (a n k : ℕ) → k < n → get_or (bytes_at ws a n) k 0 ≡ byte_at ws (a + k)
unfolding bytes_at byte_at
get_or-bytes_at ws a n k h = get_or-take n (drop a (bytes_of ws)) k 0 h ∙ get_or-drop a (bytes_of ws) k 0

scans_up : (m : List ℕ) (a n b : ℕ) (equal : Bool) → IsMemory m → a + n ≤ 65536 → ScansUp m a n b equal
scans_up m a n b equal h room =
    let size : length (bytes_at m a n) ≡ n = length-bytes_at m a n h room in
    record {
      distance = passed (bytes_at m a n) b equal;
      answer = scanned-up m a (pos n) n b equal refl;
      first = first-same (λ i. stops equal b (get_or (bytes_at m a n) i 0)) (λ i. stops equal b (byte_at m (a + i))) (length (bytes_at m a n)) n
          (passed (bytes_at m a n) b equal) size
          (λ i l. ap (stops equal b) (get_or-bytes_at m a n i (omega arith))) (passed-first (bytes_at m a n) b equal);
    }

scans_down : (m : List ℕ) (a d b : ℕ) (equal : Bool) → IsMemory m → d ≤ a → a < 65536 → ScansDown m a d b equal
scans_down m a d b equal h low high =
    let bytes = bytes_at m (a - d) (d + 1) in
    let size : length bytes ≡ d + 1 = length-bytes_at m (a - d) (d + 1) h (omega arith) in
    let turned : length (reverse bytes) ≡ d + 1 = length-reverse bytes ∙ size in
    record {
      distance = passed (reverse bytes) b equal;
      answer = scanned-down m a (negsuc d) d b equal refl;
      first = first-same (λ i. stops equal b (get_or (reverse bytes) i 0)) (λ i. stops equal b (byte_at m (a - i))) (length (reverse bytes)) (d + 1)
          (passed (reverse bytes) b equal) turned
          (λ i l. ap (stops equal b) (get_or-reverse bytes i 0 (omega arith)
          ∙ (get_or-bytes_at m (a - d) (d + 1) (length bytes - 1 - i) (omega arith)
          ∙ ap (byte_at m) (omega arith)))) (passed-first (reverse bytes) b equal);
    }

pub scans_stop_first : ScansStopFirst
scans_stop_first = (scans_up, scans_down)
