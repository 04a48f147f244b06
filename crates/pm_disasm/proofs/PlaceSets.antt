-- Lemmas about sets of offsets to which offsets are added one after another.
use Rattle.std.proofs.Common.{◌≡◌, ◌<◌, ◌≤◌, ℕ, ◌+◌, ◌-◌, ◌*◌, ◌/◌, ◌%◌, Bool, true, false, List, [], ◌∷◌, ◌++◌, length, map, drop}
use Rattle.std.proofs.Common.{get_or, refl, sym, ap, ◌∙◌, arith, append-nil, append_assoc, zero, suc, Option, Some, None, inl, inr}
use Rattle.std.specs.Prelude.{◌&&◌, ◌||◌, ◌==◌, nat_le}
use Rattle.std.specs.List.{list_all}
use Rattle.std.proofs.lemmas.Bool.{and_parts, leb-true, cases_lt, true≢false}
use Rattle.pm_words.specs.Words.{words_of}
use Rattle.pm_disasm.specs.declared.places.PlaceSet.{PlaceSet}
use Rattle.pm_code.specs.Item.{Item}
use Rattle.pm_code.specs.Item.Item.{OneByte}
use Rattle.pm_code.specs.Program.{is_among, item_places}
use Rattle.pm_code.specs.Shown.{named_places}
use Rattle.pm_disasm.specs.Split.{Part, table_places}
use Rattle.pm_disasm.specs.Follow.{item_led, items_or_bytes, written_by}
use Rattle.pm_disasm.specs.Views.{IsAlike, IsInside, has}
use Rattle.pm_disasm.proofs.Words.{next_place, no_place}

past_end : (bs : List Bool) (n : ℕ) → length bs ≤ n → get_or bs n false ≡ false
past_end [] n h = refl
past_end (b ∷ bs) zero h = absurd (omega arith)
past_end (b ∷ bs) (suc n) h = past_end bs n (omega arith)

-- If `place` is in the set `s`, then it is in the range of `s`.
pub inside : (s : PlaceSet) (place : ℕ) → has s place ≡ true → IsInside s place
inside s place h =
    let both = and_parts (nat_le s.begin place) (get_or s.marks.items (place - s.begin) false) h in
    let low : s.begin ≤ place = leb-true _ _ both.0 in
    elim (cases_lt (place - s.begin) (length s.marks.items)) [
      | inl l ↦ (low, omega (arith, low, l))
      | inr m ↦ absurd (true≢false (sym both.1 ∙ past_end s.marks.items (place - s.begin) m))
    ]

pub inside_alike : (s t : PlaceSet) (place : ℕ) → IsAlike s t → IsInside t place → IsInside s place
inside_alike s t place a h = (omega (arith, a.0, h.0), omega (arith, a.0, a.1, h.1))

pub alike_both : (r s t : PlaceSet) → IsAlike r s → IsAlike s t → IsAlike r t
alike_both r s t a b = (a.0 ∙ b.0, a.1 ∙ b.1)

shuffle : (a b c : Bool) → (b || (a || c)) ≡ ((a || b) || c)
shuffle true true c = refl
shuffle true false c = refl
shuffle false b c = refl

-- If the target of word `k` is added to the set, then the set with the remaining targets is unchanged.
pub table_step : (bs : List ℕ) (at k p q : ℕ) (new old whole : Bool) → 2 * k + 1 < length bs
    → p ≡ (at + 2 * k + 65536 - (get_or bs (2 * k) 0 + 256 * get_or bs (2 * k + 1) 0)) % 65536 → new ≡ ((p == q) || old)
    → (is_among (table_places (at + 2 * k) (words_of (drop (2 * k) bs))) q || old) ≡ whole
    → (is_among (table_places (at + 2 * (k + 1)) (words_of (drop (2 * (k + 1)) bs))) q || new) ≡ whole
table_step bs at k p q new old whole h e n i =
    let rest : List ℕ = table_places (at + 2 * (k + 1)) (words_of (drop (2 * (k + 1)) bs)) in
    ap (λ b. is_among rest q || b) n
    ∙ shuffle (p == q) (is_among rest q) old
    ∙ ap (λ r. ((r == q) || is_among rest q) || old) e
    ∙ ap (λ ps. is_among ps q || old) (sym (next_place bs at k h))
    ∙ i

-- If all targets from word `k` on pass `test`, then the target of word `k` passes it, and those after it do.
pub table_within : (test : ℕ → Bool) (bs : List ℕ) (at k p : ℕ) → 2 * k + 1 < length bs
    → p ≡ (at + 2 * k + 65536 - (get_or bs (2 * k) 0 + 256 * get_or bs (2 * k + 1) 0)) % 65536
    → list_all test (table_places (at + 2 * k) (words_of (drop (2 * k) bs))) ≡ true
    → (test p ≡ true) × (list_all test (table_places (at + 2 * (k + 1)) (words_of (drop (2 * (k + 1)) bs))) ≡ true)
table_within test bs at k p h e i =
    let rest : List ℕ = table_places (at + 2 * (k + 1)) (words_of (drop (2 * (k + 1)) bs)) in
    and_parts (test p) (list_all test rest) (ap (λ q. test q && list_all test rest) e ∙ ap (list_all test) (sym (next_place bs at k h)) ∙ i)

pub table_done : (bs : List ℕ) (at k q : ℕ) (now whole : Bool) → length bs / 2 ≤ k
    → (is_among (table_places (at + 2 * k) (words_of (drop (2 * k) bs))) q || now) ≡ whole → now ≡ whole
table_done bs at k q now whole h i = ap (λ ps. is_among ps q || now) (sym (no_place bs at k h)) ∙ i

-- If the target `e` of an entry is added to the set, then the set with the remaining targets is unchanged.
pub entry_step : (es : List ℕ) (e q : ℕ) (new old whole : Bool) → new ≡ ((e == q) || old) → (old || is_among (e ∷ es) q) ≡ whole
    → (new || is_among es q) ≡ whole
entry_step es e q new old whole n i = ap (λ b. b || is_among es q) n ∙ swap (e == q) old (is_among es q) ∙ i
  where
    swap : (a b c : Bool) → ((a || b) || c) ≡ (b || (a || c))
    swap true true c = refl
    swap true false c = refl
    swap false b c = refl

pub among-append : (xs ys : List ℕ) (q : ℕ) → is_among (xs ++ ys) q ≡ (is_among xs q || is_among ys q)
among-append [] ys q = refl
among-append (x ∷ xs) ys q = ap (λ b. (x == q) || b) (among-append xs ys q) ∙ deeper (x == q) (is_among xs q) (is_among ys q)
  where
    deeper : (a b c : Bool) → (a || (b || c)) ≡ ((a || b) || c)
    deeper true b c = refl
    deeper false b c = refl

named-append : (xs ys : List (Item ℕ)) → named_places (xs ++ ys) ≡ named_places xs ++ named_places ys
named-append [] ys = refl
named-append (x ∷ xs) ys = ap (λ ps. item_places x ++ ps) (named-append xs ys) ∙ sym (append_assoc (item_places x) (named_places xs) (named_places ys))

bytes_name : (bs : List ℕ) → named_places (map OneByte bs) ≡ []
bytes_name [] = refl
bytes_name (b ∷ bs) = bytes_name bs

abbrev pub places_by : Option (Item ℕ) → List ℕ
places_by None = []
places_by (Some item) = item_places item

items_name : (bs : List ℕ) (o : Option (Item ℕ)) → named_places (items_or_bytes bs o) ≡ places_by o
items_name bs None = bytes_name bs
items_name bs (Some item) = append-nil (item_places item)

-- If the targets of part `p` are added to the set, then the set with the targets of the remaining parts is unchanged.
pub part_step : (test : ℕ → Bool) (allowed : Bool) (p : Part) (ps : List Part) (q : ℕ) (new old whole : Bool) (o : Option (Item ℕ))
    → o ≡ item_led test allowed p.item → new ≡ (is_among (places_by o) q || old)
    → (old || is_among (named_places (written_by test allowed (p ∷ ps))) q) ≡ whole → (new || is_among (named_places (written_by test allowed ps)) q) ≡ whole
part_step test allowed p ps q new old whole o e n i =
    let rest : List (Item ℕ) = written_by test allowed ps in
    let split : is_among (named_places (written_by test allowed (p ∷ ps))) q ≡ (is_among (places_by o) q || is_among (named_places rest) q) =
    ap (λ k. is_among (named_places (items_or_bytes p.bytes k ++ rest)) q) (sym e)
    ∙ ap (λ ns. is_among ns q) (named-append (items_or_bytes p.bytes o) rest ∙ ap (λ ns. ns ++ named_places rest) (items_name p.bytes o))
    ∙ among-append (places_by o) (named_places rest) q in
    ap (λ b. b || is_among (named_places rest) q) n
    ∙ swap (is_among (places_by o) q) old (is_among (named_places rest) q)
    ∙ ap (λ b. old || b) (sym split)
    ∙ i
  where
    swap : (a b c : Bool) → ((a || b) || c) ≡ (b || (a || c))
    swap true true c = refl
    swap true false c = refl
    swap false b c = refl

pub or_false : (b : Bool) → (b || false) ≡ b
or_false true = refl
or_false false = refl
