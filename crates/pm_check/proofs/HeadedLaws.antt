-- If a volume is written to a .2mg file, then it can be read back, and the bytes around its blocks are unchanged.
use Rattle.std.proofs.Common.{arith, ◌≡◌, ◌∙◌, ◌+◌, ◌-◌, ◌*◌, ◌/◌, ◌≤◌, ◌<◌, ℕ, true}
use Rattle.std.proofs.Common.{List, [], ◌∷◌, ◌++◌, Option, None, Some, IfSome, option_map, refl, sym, ap, subst, cond, eqb, ltb, leb}
use Rattle.std.proofs.Common.{length, take, drop, length-append, length-drop}
use Rattle.std.specs.Prelude.{replicate, slice_range}
use Rattle.std.proofs.lemmas.Bool.{and_from, and_parts, cond_both, cond-true, cond-false, eq-eqb, eqb-true, leb-true, le-leb, le-ltb, lt-ltb, ne_eqb}
use Rattle.std.proofs.lemmas.List.{append_assoc, drop_at, length-take-le, take_all, take-append-le, take-take, take_at}
use Rattle.pm_bytes.specs.Words.{word_in, written}
use Rattle.pm_check.specs.Forms.{front_size, long_in}
use Rattle.pm_check.specs.Headed.{Lies, WorkedHeaders, example, filed, filed_at, fits, long_bytes, new_file}
use Rattle.pm_check.specs.Headed.{order_of, plain_header, span_fitting, span_in, span_of, volume_at, volume_in}
use Rattle.pm_check.specs.Orders.{turned, turned_front}
use Rattle.pm_check.proofs.OrderLaws.{turned_back, turned_blocks, turned_size}
use Rattle.pm_check.specs.declared.headed.Span.{Span}
use Rattle.pm_check.specs.declared.order.Order.{Order}
use Rattle.pm_check.specs.declared.order.Order.TheVariants as orders

of_order : (o : Option Order) (begin size count : ℕ) → 52 ≤ begin → begin + size ≤ count
    → IfSome (option_map (λ order. record { begin = begin; size = size; order = order }) o) (Lies count)
of_order None begin size count behind inside = tt
of_order (Some order) begin size count behind inside = (behind, inside)

of_header : (header : List ℕ) (count : ℕ) → fits header count ≡ true → IfSome (span_in header) (Lies count)
unfolding fits
of_header header count fit =
    let a = and_parts _ _ fit in let b = and_parts _ _ a.1 in let c = and_parts _ _ b.1 in
    of_order (order_of (long_in header 12)) (long_in header 24) (front_size header) count
    (leb-true 52 (long_in header 24) b.0) (leb-true (long_in header 24 + front_size header) count c.1)

-- If a file has a fitting header, then the blocks that this header describes are in the file.
pub span_lies : (file : List ℕ) → IfSome (span_of file) (Lies (length file))
unfolding span_of
span_lies file = cond_both (ltb (length file) 64) None (span_fitting (take 32 file) (length file))
    (λ found. IfSome found (Lies (length file))) (λ short. tt)
    (λ long. cond_both (fits (take 32 file) (length file)) (span_in (take 32 file)) None
    (λ found. IfSome found (Lies (length file)))
    (λ fit. of_header (take 32 file) (length file) fit) (λ unfit. tt))

-- If a file has at least 64 bytes, then its first 32 bytes exist.
pub front_of_32 : (file : List ℕ) → 64 ≤ length file → length (take 32 file) ≡ 32
front_of_32 file long = length-take-le 32 file (omega (arith, long))

-- ---- other blocks in a file

module _ (old : List ℕ) (begin : ℕ) (blocks : List ℕ) (behind : 52 ≤ begin) (inside : begin + length blocks ≤ length old) where
  front_long : length (take begin old) ≡ begin
  front_long = length-take-le begin old (omega (arith, inside))

  -- The length of the file is unchanged.
  pub written_size : length (written old begin blocks) ≡ length old
  unfolding written
  written_size = omega (
    arith,
    inside,
    length-append (take begin old) (blocks ++ drop (begin + length blocks) old),
    length-append blocks (drop (begin + length blocks) old),
    front_long,
    length-drop (begin + length blocks) old,
  )

  -- The bytes before the blocks are unchanged.
  pub written_front : take begin (written old begin blocks) ≡ take begin old
  unfolding written
  written_front = take_at (take begin old) (blocks ++ drop (begin + length blocks) old) begin front_long

  -- The bytes after the blocks are unchanged.
  pub written_tail : drop (begin + length blocks) (written old begin blocks) ≡ drop (begin + length blocks) old
  unfolding written
  written_tail = ap (λ made. drop (begin + length blocks) made) (sym (append_assoc (take begin old) blocks (drop (begin + length blocks) old)))
      ∙ drop_at (take begin old ++ blocks) (drop (begin + length blocks) old) (begin + length blocks)
      (length-append (take begin old) blocks ∙ ap (λ n. n + length blocks) front_long)

  -- The new file has the new blocks.
  pub written_blocks : slice_range (written old begin blocks) begin (begin + length blocks) ≡ blocks
  unfolding written
  written_blocks = ap (take ((begin + length blocks) - begin)) (drop_at (take begin old) (blocks ++ drop (begin + length blocks) old) begin front_long)
      ∙ take_at blocks (drop (begin + length blocks) old) ((begin + length blocks) - begin) (omega arith)

  header_stays : take 32 (written old begin blocks) ≡ take 32 old
  unfolding written
  header_stays = take-append-le 32 (take begin old) (blocks ++ drop (begin + length blocks) old) (omega (arith, front_long, behind))
      ∙ take-take 32 begin old (omega (arith, behind))

  -- The header of the new file states the same position of the blocks.
  pub written_span : span_of (written old begin blocks) ≡ span_of old
  unfolding span_of
  written_span = rw (header_stays, written_size) refl

-- ---- a new file

-- The first 32 bytes of the header of a new file.
new_front : ℕ → List ℕ
new_front n =
    50 ∷ 73 ∷ 77 ∷ 71 ∷ 80 ∷ 77 ∷ 67 ∷ 72 ∷ 64 ∷ 0 ∷ 1 ∷ 0 ∷ 1 ∷ 0 ∷ 0 ∷ 0 ∷ 0 ∷ 0 ∷ 0 ∷ 0 ∷ long_bytes (n / 512)
    ++ (64 ∷ 0 ∷ 0 ∷ 0 ∷ long_bytes n)

new_front_is : (volume : List ℕ) → take 32 (new_file volume) ≡ new_front (length volume)
unfolding new_file plain_header new_front
new_front_is volume = refl

new_long : (volume : List ℕ) → length (new_file volume) ≡ 64 + length volume
unfolding new_file plain_header
new_long volume = length-append (plain_header (length volume)) volume

size_said : (n : ℕ) → n < 4294967296 → long_in (new_front n) 28 ≡ n
unfolding long_in word_in new_front
size_said n small = omega (arith, small)

begin_said : (n : ℕ) → long_in (new_front n) 24 ≡ 64
unfolding long_in word_in new_front
begin_said n = refl

order_said : (n : ℕ) → long_in (new_front n) 12 ≡ 1
unfolding long_in word_in new_front
order_said n = refl

not_none : (n : ℕ) → 0 < n → {said : ℕ} → said ≡ n → said ≡ 0 → ⊥
not_none n some same none = omega (arith, same, none, some)

size_is : (n : ℕ) → 0 < n → n < 4294967296 → front_size (new_front n) ≡ n
unfolding front_size
size_is n some small = cond-false (eqb (long_in (new_front n) 28) 0) (512 * long_in (new_front n) 20) (long_in (new_front n) 28)
    (ne_eqb (long_in (new_front n) 28) 0 (not_none n some (size_said n small)))
    ∙ size_said n small

magic_said : (n : ℕ) → take 4 (new_front n) ≡ 50 ∷ 73 ∷ 77 ∷ 71 ∷ []
unfolding new_front
magic_said n = refl

new_fits : (n : ℕ) → 0 < n → n < 4294967296 → fits (new_front n) (64 + n) ≡ true
unfolding fits
new_fits n some small = rw (magic_said n, begin_said n, size_is n some small)
    (and_from (ltb 0 n) (leb (64 + n) (64 + n)) (lt-ltb 0 n some) (le-leb (64 + n) (64 + n) (omega arith)))

new_span : (n : ℕ) → 0 < n → n < 4294967296
    → (cond (ltb (64 + n) 64) None (span_fitting (new_front n) (64 + n))) ≡ Some (record { begin = 64; size = n; order = orders.Blocks })
new_span n some small = cond-false (ltb (64 + n) 64) None (span_fitting (new_front n) (64 + n)) (le-ltb (64 + n) 64 (omega arith))
    ∙ cond-true (fits (new_front n) (64 + n)) (span_in (new_front n)) None (new_fits n some small)
    ∙ rw (begin_said n, order_said n, size_is n some small) refl

new_blocks : (volume : List ℕ) → slice_range (new_file volume) 64 (64 + length volume) ≡ volume
unfolding new_file plain_header
new_blocks volume = take_all ((64 + length volume) - 64) volume (omega arith)

empty_back : volume_in (new_file []) ≡ []
unfolding volume_in span_of new_file plain_header fits front_size long_in word_in
empty_back = refl

-- If a volume has fewer than 4,294,967,296 bytes, then it can be read back from its new file.
pub new_back : (volume : List ℕ) → length volume < 4294967296 → volume_in (new_file volume) ≡ volume
unfolding volume_in span_of
new_back [] small = empty_back
new_back (v ∷ vs) small = rw (new_front_is (v ∷ vs), new_long (v ∷ vs), new_span (length (v ∷ vs)) (omega arith) small)
    (rw (new_blocks (v ∷ vs)) (turned_blocks (v ∷ vs)))

-- ---- a volume that is written

kept_back : (old volume : List ℕ) (span : Span) → span_of old ≡ Some span → Lies (length old) span
    → span.size ≡ length volume → volume_in (written old span.begin (turned span.order volume)) ≡ volume
unfolding volume_in
kept_back old volume span is lies same =
    let size = turned_size span.order volume in
    let inside : span.begin + length (turned span.order volume) ≤ length old = omega (arith, size, same, lies.1) in
    let end : span.begin + span.size ≡ span.begin + length (turned span.order volume) = omega (arith, size, same) in
    ap (λ found. volume_at found (written old span.begin (turned span.order volume)))
    (written_span old span.begin (turned span.order volume) lies.0 inside ∙ is)
    ∙ ap (λ n. turned span.order (slice_range (written old span.begin (turned span.order volume)) span.begin n)) end
    ∙ ap (turned span.order) (written_blocks old span.begin (turned span.order volume) lies.0 inside)
    ∙ turned_back span.order volume

filed_at_back : (old volume : List ℕ) (found : Option Span) → span_of old ≡ found → IfSome found (Lies (length old))
    → length volume < 4294967296 → volume_in (filed_at found old volume) ≡ volume
filed_at_back old volume None is lies small = new_back volume small
filed_at_back old volume (Some span) is lies small =
    cond_both (eqb span.size (length volume)) (written old span.begin (turned span.order volume)) (new_file volume)
    (λ file. volume_in file ≡ volume)
    (λ same. kept_back old volume span is lies (eqb-true span.size (length volume) same)) (λ other. new_back volume small)

-- If a volume has fewer than 4,294,967,296 bytes, then it can be read back from the file to which it is written.
pub filed_back : (old volume : List ℕ) → length volume < 4294967296 → volume_in (filed old volume) ≡ volume
unfolding filed
filed_back old volume small = filed_at_back old volume (span_of old) refl (span_lies old) small

-- ---- the bytes around the blocks

kept_of : (old volume : List ℕ) (found : Option Span) (span : Span) → found ≡ Some span → span.size ≡ length volume
    → filed_at found old volume ≡ written old span.begin (turned span.order volume)
kept_of old volume found span is same = ap (λ found. filed_at found old volume) is
    ∙ cond-true (eqb span.size (length volume)) (written old span.begin (turned span.order volume)) (new_file volume)
    (eq-eqb span.size (length volume) same)

kept : (old volume : List ℕ) (span : Span) → span_of old ≡ Some span → span.size ≡ length volume
    → filed old volume ≡ written old span.begin (turned span.order volume)
unfolding filed
kept old volume span is same = kept_of old volume (span_of old) span is same

module _ (old volume : List ℕ) (span : Span) (is : span_of old ≡ Some span) (same : span.size ≡ length volume) where
  lies : Lies (length old) span
  lies = subst (λ found. IfSome found (Lies (length old))) is (span_lies old)

  new_size : length (turned span.order volume) ≡ span.size
  new_size = turned_size span.order volume ∙ sym same

  inside : span.begin + length (turned span.order volume) ≤ length old
  inside = omega (arith, new_size, lies.1)

  size_stays : length (filed old volume) ≡ length old
  size_stays = ap length (kept old volume span is same) ∙ written_size old span.begin (turned span.order volume) lies.0 inside

  front_stays : take span.begin (filed old volume) ≡ take span.begin old
  front_stays = ap (take span.begin) (kept old volume span is same)
      ∙ written_front old span.begin (turned span.order volume) lies.0 inside

  tail_stays : drop (span.begin + span.size) (filed old volume) ≡ drop (span.begin + span.size) old
  tail_stays = ap (drop (span.begin + span.size)) (kept old volume span is same)
      ∙ ap (λ n. drop (span.begin + n) (written old span.begin (turned span.order volume))) (sym new_size)
      ∙ written_tail old span.begin (turned span.order volume) lies.0 inside
      ∙ ap (λ n. drop (span.begin + n) old) new_size

-- ---- worked examples

dos_worked : span_of (example 0 0 64 4 (1 ∷ 2 ∷ 3 ∷ 4 ∷ 5 ∷ [])) ≡ Some (record { begin = 64; size = 4; order = orders.Dos })
unfolding span_of fits front_size long_in word_in
dos_worked = refl

blocks_worked : span_of (example 1 7 66 3 (1 ∷ 2 ∷ 3 ∷ 4 ∷ 5 ∷ []))
    ≡ Some (record { begin = 66; size = 3; order = orders.Blocks })
unfolding span_of fits front_size long_in word_in
blocks_worked = refl

counted_worked : span_of (example 1 1 65 0 (replicate 513 0))
    ≡ Some (record { begin = 65; size = 512; order = orders.Blocks })
unfolding span_of fits front_size long_in word_in
counted_worked = refl

other_order_worked : span_of (example 2 0 64 4 (1 ∷ 2 ∷ 3 ∷ 4 ∷ 5 ∷ [])) ≡ None
unfolding span_of fits front_size long_in word_in
other_order_worked = refl

too_early_worked : span_of (example 1 0 51 4 (1 ∷ 2 ∷ 3 ∷ 4 ∷ 5 ∷ [])) ≡ None
unfolding span_of fits front_size long_in word_in
too_early_worked = refl

too_long_worked : span_of (example 1 0 64 6 (1 ∷ 2 ∷ 3 ∷ 4 ∷ 5 ∷ [])) ≡ None
unfolding span_of fits front_size long_in word_in
too_long_worked = refl

empty_worked : span_of (example 1 0 64 0 (1 ∷ 2 ∷ 3 ∷ 4 ∷ 5 ∷ [])) ≡ None
unfolding span_of fits front_size long_in word_in
empty_worked = refl

changed_worked : filed (example 1 7 66 3 (1 ∷ 2 ∷ 3 ∷ 4 ∷ 5 ∷ 6 ∷ [])) (33 ∷ 44 ∷ 55 ∷ [])
    ≡ example 1 7 66 3 (1 ∷ 2 ∷ 33 ∷ 44 ∷ 55 ∷ 6 ∷ [])
unfolding filed span_of fits front_size long_in word_in written turned turned_front
changed_worked = refl

pub worked_headers : WorkedHeaders
worked_headers = record {
  back = filed_back;
  size = size_stays;
  front = front_stays;
  tail = tail_stays;
  dos = dos_worked;
  blocks = blocks_worked;
  counted = counted_worked;
  other_order = other_order_worked;
  too_early = too_early_worked;
  too_long = too_long_worked;
  empty = empty_worked;
  changed = changed_worked;
}
