-- Lemmas: an element of a packed array that is stored is loaded again.
use Rattle.std.proofs.Common.{◌≡◌, ◌≢◌, ◌<◌, ◌≤◌, ◌⊎◌, inl, inr, ℕ, ◌+◌, ◌-◌, ◌*◌, ◌/◌, ◌%◌, ◌&&◌, ◌==◌, Bool, true, false}
use Rattle.std.proofs.Common.{length-set, subst, not, nat_lt, nat_le, cond, List, [], ◌∷◌, length, Result, Ok, Err, refl, sym, ap, ◌∙◌, arith}
use Rattle.std.proofs.Math.Nat.{div-add-mod', div-le_self, mod-lt, mul-le-mul_right}
use Rattle.std.proofs.lemmas.Bool.{cases_lt}
use Rattle.std.proofs.lemmas.Bool.Decides.{nat_tests}
use Rattle.pm_words.specs.declared.error.ExecError.{ExecError}
use Rattle.pm_words.specs.declared.error.ExecError.TheVariants.{InvalidIndex, InvalidMemory, StackOverflow}
use Rattle.pm_words.specs.Words.{with_word, with_words, word_at}
use Rattle.pm_words.specs.Stack.{◌>>=◌, demand, is_even, load, pop, push, store}
use Rattle.pm_words.proofs.Laws.{with_words-before, with_words-none, word_at-with_word, word_at-with_word_other}
use Rattle.pm_values.specs.Fields.{field_of, index_field_row, is_field, load_field_row, store_field_row, with_field}
use Rattle.law_engine.specs.PackedLaws.{HasOneElementMore, IsOffStack, IsPacked, OneElementIsStored, element, element_at, indexed, with_element}
use Rattle.pm_values.specs.Several.{push_words}
use Rattle.pm_values.proofs.FieldLaws.{other_fields_stay, stored_is_loaded}

-- ---- successful steps

next : {A B : Type 0} (r : Result A ExecError) (f : A → Result B ExecError) (x : A) → r ≡ Ok x → (r >>= f) ≡ f x
next r f x h = ap (λ q. q >>= f) h

not_refused : {A : Type 0} (b : Bool) (e : ExecError) (r : Result A ExecError) → b ≡ false → cond b (Err e) r ≡ r
not_refused b e r h = rw h refl

allowed : {A : Type 0} (b : Bool) (e : ExecError) (r : Result A ExecError) → b ≡ true → cond b r (Err e) ≡ r
allowed b e r h = rw h refl

holds : (b : Bool) (e : ExecError) → b ≡ true → demand b e ≡ Ok tt
holds b e h = rw h refl

loads : (m : List ℕ) (a w : ℕ) → a % 2 ≡ 0 → word_at m a ≡ w → load m a ≡ Ok w
loads m a w even h = allowed (is_even a) InvalidMemory (Ok (word_at m a)) (grind (arith, nat_tests)) ∙ ap Ok h

stores : (m : List ℕ) (a w : ℕ) → a % 2 ≡ 0 → store m a w ≡ Ok (with_word m a w)
stores m a w even = allowed (is_even a) InvalidMemory (Ok (with_word m a w)) (grind (arith, nat_tests))

pops : (m : List ℕ) (sp up w : ℕ) → sp % 2 ≡ 0 → sp ≤ 65502 → sp + 2 ≡ up → word_at m sp ≡ w → pop m sp ≡ Ok (record { word = w; above = up })
pops m sp up w even room e h =
    not_refused (nat_lt 65502 sp) InvalidMemory _ (grind (arith, nat_tests))
    ∙ next (load m sp) _ w (loads m sp w even h)
    ∙ ap (λ (a : ℕ). Ok (record { word = w; above = a })) e

pushes : (m : List ℕ) (sp down np w : ℕ) → down % 2 ≡ 0 → np + 2 ≤ sp → sp ≡ down + 2 → push m sp np w ≡ Ok (with_word m down w, down)
pushes m sp down np w even room e =
    let same : sp - 2 ≡ down = omega arith in
    not_refused (nat_lt sp (np + 2)) StackOverflow _ (grind (arith, nat_tests))
    ∙ next (store m (sp - 2) w) _ (with_word m (sp - 2) w) (stores m (sp - 2) w (omega (arith, same)))
    ∙ ap (λ (a : ℕ). Ok (with_word m a w, a)) same

-- ---- words written below SP

-- Writing three words at once is the same as writing them one after the other.
three : (m : List ℕ) (at r k x : ℕ) → length m ≡ 32768 → at % 2 ≡ 0 → at + 6 ≤ 65536 →
    with_words m at (r ∷ k ∷ x ∷ []) ≡ with_word (with_word (with_word m (at + 4) x) (at + 2) k) at r
three m at r k x size even room =
    let one : with_word m (at + 4) x ≡ with_words m (at + 4) (x ∷ []) = ap (λ n. with_word n (at + 4) x) (sym (with_words-none m (at + 6)))
    ∙ with_words-before m [] (at + 6) (at + 4) x (omega arith) (omega arith) (omega (arith, size)) in
    let two : with_word (with_words m (at + 4) (x ∷ [])) (at + 2) k ≡ with_words m (at + 2) (k ∷ x ∷ []) =
    with_words-before m (x ∷ []) (at + 4) (at + 2) k (omega arith) (omega arith) (omega (arith, size)) in
    let all : with_word (with_words m (at + 2) (k ∷ x ∷ [])) at r ≡ with_words m at (r ∷ k ∷ x ∷ []) =
    with_words-before m (k ∷ x ∷ []) (at + 2) at r (omega arith) (omega arith) (omega (arith, size)) in
    sym (ap (λ n. with_word (with_word n (at + 2) k) at r) one ∙ ap (λ n. with_word n at r) two ∙ all)

-- Memory `n` equals memory `m`, except for the four words from the address `b` on.
record IsOver (m n : List ℕ) (b : ℕ) : Type 0 where
  pub size : length n ≡ 32768
  pub same : (x : ℕ) → x % 2 ≡ 0 → IsOffStack (b + 8) x → word_at n x ≡ word_at m x

size-with_word : (m : List ℕ) (a w : ℕ) → length (with_word m a w) ≡ length m
unfolding with_word
size-with_word m a w = length-set m (a / 2) w

over_itself : (m : List ℕ) (b : ℕ) → length m ≡ 32768 → IsOver m m b
over_itself m b size = record { size = size; same = λ x even away. refl }

away_from : (b a x : ℕ) → b ≤ a → a < b + 8 → IsOffStack (b + 8) x → x ≢ a
away_from b a x low high (inl h) = λ e. omega (arith, h, low, high, e)
away_from b a x low high (inr h) = λ e. omega (arith, h, low, high, e)

over_more : (m n : List ℕ) (b a w : ℕ) → IsOver m n b → a % 2 ≡ 0 → b ≤ a → a < b + 8 → IsOver m (with_word n a w) b
over_more m n b a w over even low high = record {
  size = size-with_word n a w ∙ over.size;
  same = λ x h away. word_at-with_word_other n a x w even h (away_from b a x low high away) ∙ over.same x h away;
}

written : (m : List ℕ) (a w : ℕ) → length m ≡ 32768 → a < 65536 → word_at (with_word m a w) a ≡ w
written m a w size l = word_at-with_word m a a w refl (omega (arith, size))

-- The stack has space for the operands, in the four words from `b` on.
record IsRoom (m : List ℕ) (b np : ℕ) : Type 0 where
  pub size : length m ≡ 32768
  pub even : b % 2 ≡ 0
  pub heap : np ≤ b
  pub room : b + 8 ≤ 65504

-- ---- IXP

fits : (q n k : ℕ) → q < n → n * k ≤ 16 → q * k + k ≤ 16
fits q n k l h =
    let more : (q + 1) * k ≤ n * k = mul-le-mul_right k (omega arith) in
    omega arith

is_index : (n i : ℕ) → 0 < n → i < 32768 → (not (n == 0) && nat_lt i 32768) ≡ true
is_index n i some l = grind (arith, nat_tests)

is_a_field : (r k : ℕ) → 0 < k → r + k ≤ 16 → is_field r k ≡ true
is_a_field r k some l = grind (arith, nat_tests)

three_pushed : (m : List ℕ) (b np r k x : ℕ) → length m ≡ 32768 → b % 2 ≡ 0 → np ≤ b → b + 8 ≤ 65504
    → push_words m (b + 8) np (r ∷ k ∷ x ∷ []) ≡ Ok (with_word (with_word (with_word m (b + 6) x) (b + 4) k) (b + 2) r, b + 2)
three_pushed m b np r k x size even heap room =
    let down : b + 8 - 6 ≡ b + 2 = omega arith in
    let six : b + 2 + 4 ≡ b + 6 = omega arith in
    let four : b + 2 + 2 ≡ b + 4 = omega arith in
    next (demand (nat_le (np + 6) (b + 8)) StackOverflow) _ tt (holds (nat_le (np + 6) (b + 8)) StackOverflow (grind (arith, nat_tests)))
    ∙ ap (λ (t : ℕ). Ok (with_words m t (r ∷ k ∷ x ∷ []), t)) down
    ∙ ap (λ (n : List ℕ). Ok (n, b + 2)) (three m (b + 2) r k x size (omega arith) (omega arith)
    ∙ ap (λ (t : ℕ). with_word (with_word (with_word m t x) (b + 2 + 2) k) (b + 2) r) six
    ∙ ap (λ (t : ℕ). with_word (with_word (with_word m (b + 6) x) t k) (b + 2) r) four)

-- The operands of IXP are replaced by the address of the word and the position of the field of the element.
record IsIndexed (m : List ℕ) (b np per_word width base i : ℕ) : Type 0 where
  pub n : List ℕ
  pub is : indexed per_word width base i m (b + 8) np ≡ Ok (n, b + 2)
  pub over : IsOver m n b
  pub bit : word_at n (b + 2) ≡ i % per_word * width
  pub width_there : word_at n (b + 4) ≡ width
  pub address : word_at n (b + 6) ≡ element_at per_word base i

index_row_is : (m : List ℕ) (b np per_word width base i : ℕ) → IsRoom m b np → IsPacked per_word width base → i < 32768
    → word_at m (b + 4) ≡ i → word_at m (b + 6) ≡ base
    → index_field_row per_word width m (b + 4) np
    ≡ Ok (with_word (with_word (with_word m (b + 6) (element_at per_word base i)) (b + 4) width) (b + 2) (i % per_word * width), b + 2)
unfolding index_field_row
index_row_is m b np per_word width base i h packed l first second =
    let even = h.even in
    let room = h.room in
    let low : i % per_word < per_word = mod-lt i packed.some in
    let field : i % per_word * width + width ≤ 16 = fits (i % per_word) per_word width low packed.fit in
    next (pop m (b + 4)) _ (record { word = i; above = b + 6 }) (pops m (b + 4) (b + 6) i (omega arith) (omega arith) (omega arith) first)
    ∙ next (pop m (b + 6)) _ (record { word = base; above = b + 8 }) (pops m (b + 6) (b + 8) base (omega arith) (omega arith) (omega arith) second)
    ∙ next (demand (not (per_word == 0) && nat_lt i 32768) InvalidIndex) _ tt (holds _ InvalidIndex (is_index per_word i packed.some l))
    ∙ next (demand (is_field (i % per_word * width) width) InvalidIndex) _ tt (holds _ InvalidIndex (is_a_field _ width packed.bits field))
    ∙ three_pushed m b np (i % per_word * width) width (element_at per_word base i) h.size even h.heap room

indexed_there : (m : List ℕ) (b np per_word width base i : ℕ) → IsRoom m b np → IsPacked per_word width base → i < 32768
    → IsIndexed m b np per_word width base i
indexed_there m b np per_word width base i h packed l =
    let even = h.even in
    let room = h.room in
    let heap = h.heap in
    let r = i % per_word * width in
    let x = element_at per_word base i in
    let m1 = with_word m (b + 6) base in
    let m2 = with_word m1 (b + 4) i in
    let m3 = with_word m2 (b + 6) x in
    let m4 = with_word m3 (b + 4) width in
    let m5 = with_word m4 (b + 2) r in
    let o1 = over_more m m b (b + 6) base (over_itself m b h.size) (omega arith) (omega arith) (omega arith) in
    let o2 = over_more m m1 b (b + 4) i o1 (omega arith) (omega arith) (omega arith) in
    let o3 = over_more m m2 b (b + 6) x o2 (omega arith) (omega arith) (omega arith) in
    let o4 = over_more m m3 b (b + 4) width o3 (omega arith) (omega arith) (omega arith) in
    let o5 = over_more m m4 b (b + 2) r o4 (omega arith) (omega arith) (omega arith) in
    let inside : IsRoom m2 b np = record { size = o2.size; even = even; heap = heap; room = room } in
    record {
      n = m5;
      is = next (push m (b + 8) np base) _ (m1, b + 6) (pushes m (b + 8) (b + 6) np base (omega arith) (omega arith) (omega arith))
          ∙ next (push m1 (b + 6) np i) _ (m2, b + 4) (pushes m1 (b + 6) (b + 4) np i (omega arith) (omega arith) (omega arith))
          ∙ index_row_is m2 b np per_word width base i inside packed l (written m1 (b + 4) i o1.size (omega arith))
          (word_at-with_word_other m1 (b + 4) (b + 6) i (omega arith) (omega arith) (λ e. omega (arith, e)) ∙ written m (b + 6) base h.size (omega arith));
      over = o5;
      bit = written m4 (b + 2) r o4.size (omega arith);
      width_there = word_at-with_word_other m4 (b + 2) (b + 4) r (omega arith) (omega arith) (λ e. omega (arith, e))
          ∙ written m3 (b + 4) width o3.size (omega arith);
      address = word_at-with_word_other m4 (b + 2) (b + 6) r (omega arith) (omega arith) (λ e. omega (arith, e))
          ∙ word_at-with_word_other m3 (b + 4) (b + 6) width (omega arith) (omega arith) (λ e. omega (arith, e)) ∙ written m2 (b + 6) x o2.size (omega arith);
    }

-- ---- LDP

load_row_is : (m : List ℕ) (b np r k x w : ℕ) → IsRoom m b np → x % 2 ≡ 0 → 0 < k → r + k ≤ 16
    → word_at m (b + 2) ≡ r → word_at m (b + 4) ≡ k → word_at m (b + 6) ≡ x → word_at m x ≡ w
    → load_field_row m (b + 2) np ≡ Ok (with_word m (b + 6) (field_of w r k), b + 6)
unfolding load_field_row
load_row_is m b np r k x w h place some field first second third word =
    let even = h.even in
    let room = h.room in
    let heap = h.heap in
    next (pop m (b + 2)) _ (record { word = r; above = b + 4 }) (pops m (b + 2) (b + 4) r (omega arith) (omega arith) (omega arith) first)
    ∙ next (pop m (b + 4)) _ (record { word = k; above = b + 6 }) (pops m (b + 4) (b + 6) k (omega arith) (omega arith) (omega arith) second)
    ∙ next (pop m (b + 6)) _ (record { word = x; above = b + 8 }) (pops m (b + 6) (b + 8) x (omega arith) (omega arith) (omega arith) third)
    ∙ next (demand (is_field r k) InvalidIndex) _ tt (holds _ InvalidIndex (is_a_field r k some field))
    ∙ next (load m x) _ w (loads m x w place word)
    ∙ pushes m (b + 8) (b + 6) np (field_of w r k) (omega arith) (omega arith) (omega arith)

element_is : (m : List ℕ) (b np per_word width base i : ℕ) → IsRoom m b np → IsPacked per_word width base → i < 32768
    → IsOffStack (b + 8) (element_at per_word base i)
    → element per_word width base i m (b + 8) np ≡ Ok (field_of (word_at m (element_at per_word base i)) (i % per_word * width) width)
element_is m b np per_word width base i h packed l away =
    let x = element_at per_word base i in
    let there = indexed_there m b np per_word width base i h packed l in
    let even = h.even in
    let room = h.room in
    let place : x % 2 ≡ 0 = even_place base (i / per_word) packed.even in
    let low : i % per_word < per_word = mod-lt i packed.some in
    let inside : IsRoom there.n b np = record { size = there.over.size; even = even; heap = h.heap; room = room } in
    let value = field_of (word_at m x) (i % per_word * width) width in
    next (indexed per_word width base i m (b + 8) np) _ (there.n, b + 2) there.is
    ∙ next (load_field_row there.n (b + 2) np) _ (with_word there.n (b + 6) value, b + 6)
    (load_row_is there.n b np (i % per_word * width) width x (word_at m x) inside place packed.bits (fits
    (i % per_word) per_word width low packed.fit) there.bit
    there.width_there there.address (there.over.same x place away))
    ∙ next (pop (with_word there.n (b + 6) value) (b + 6)) _ (record { word = value; above = b + 8 })
    (pops _ (b + 6) (b + 8) value (omega arith) (omega arith) (omega arith) (written there.n (b + 6) value there.over.size (omega arith)))
  where
    even_place : (base q : ℕ) → base % 2 ≡ 0 → (base + 2 * q) % 65536 % 2 ≡ 0
    even_place base q h = omega arith

-- ---- STP

store_row_is : (m : List ℕ) (b np r k x v w : ℕ) → IsRoom m b np → x % 2 ≡ 0 → 0 < k → r + k ≤ 16
    → word_at m b ≡ v → word_at m (b + 2) ≡ r → word_at m (b + 4) ≡ k → word_at m (b + 6) ≡ x → word_at m x ≡ w
    → store_field_row m b np ≡ Ok (with_word m x (with_field w r k v), b + 8)
unfolding store_field_row
store_row_is m b np r k x v w h place some field zeroth first second third word =
    let even = h.even in
    let room = h.room in
    next (pop m b) _ (record { word = v; above = b + 2 }) (pops m b (b + 2) v even (omega arith) (omega arith) zeroth)
    ∙ next (pop m (b + 2)) _ (record { word = r; above = b + 4 }) (pops m (b + 2) (b + 4) r (omega arith) (omega arith) (omega arith) first)
    ∙ next (pop m (b + 4)) _ (record { word = k; above = b + 6 }) (pops m (b + 4) (b + 6) k (omega arith) (omega arith) (omega arith) second)
    ∙ next (pop m (b + 6)) _ (record { word = x; above = b + 8 }) (pops m (b + 6) (b + 8) x (omega arith) (omega arith) (omega arith) third)
    ∙ next (demand (is_field r k) InvalidIndex) _ tt (holds _ InvalidIndex (is_a_field r k some field))
    ∙ next (load m x) _ w (loads m x w place word)
    ∙ next (store m x (with_field w r k v)) _ (with_word m x (with_field w r k v)) (stores m x (with_field w r k v) place)

-- The memory after an element is stored: the memory `below`, in which only the operands differ from `m`, with the new
-- word.
record IsElementStored (m : List ℕ) (b np per_word width base i v : ℕ) : Type 0 where
  pub below : List ℕ
  pub over : IsOver m below b
  pub is :
      with_element per_word width base i v m (b + 8) np
      ≡ Ok (
        with_word below (element_at per_word base i)
            (with_field (word_at m (element_at per_word base i)) (i % per_word * width) width v),
        b + 8,
      )

element_stored : (m : List ℕ) (b np per_word width base i v : ℕ) → IsRoom m b np → IsPacked per_word width base → i < 32768
    → IsOffStack (b + 8) (element_at per_word base i) → IsElementStored m b np per_word width base i v
element_stored m b np per_word width base i v h packed l away =
    let x = element_at per_word base i in
    let there = indexed_there m b np per_word width base i h packed l in
    let even = h.even in
    let room = h.room in
    let heap = h.heap in
    let place : x % 2 ≡ 0 = even_place base (i / per_word) packed.even in
    let low : i % per_word < per_word = mod-lt i packed.some in
    let n = with_word there.n b v in
    let over = over_more m there.n b b v there.over even (omega arith) (omega arith) in
    let inside : IsRoom n b np = record { size = over.size; even = even; heap = heap; room = room } in
    record {
      below = n;
      over = over;
      is = next (indexed per_word width base i m (b + 8) np) _ (there.n, b + 2) there.is
          ∙ next (push there.n (b + 2) np v) _ (n, b) (pushes there.n (b + 2) b np v even (omega arith) (omega arith))
          ∙ store_row_is n b np (i % per_word * width) width x v (word_at m x) inside place packed.bits (fits (i % per_word) per_word width low packed.fit)
          (written there.n b v there.over.size (omega arith))
          (word_at-with_word_other there.n b (b + 2) v even (omega arith) (λ e. omega (arith, e)) ∙ there.bit)
          (word_at-with_word_other there.n b (b + 4) v even (omega arith) (λ e. omega (arith, e)) ∙ there.width_there)
          (word_at-with_word_other there.n b (b + 6) v even (omega arith) (λ e. omega (arith, e)) ∙ there.address)
          (over.same x place away);
    }
  where
    even_place : (base q : ℕ) → base % 2 ≡ 0 → (base + 2 * q) % 65536 % 2 ≡ 0
    even_place base q h = omega arith

-- ---- two elements

words_apart : (a p q : ℕ) → p < q → q < 32768 → (a + 2 * p) % 65536 ≢ (a + 2 * q) % 65536
words_apart a p q l h = λ e. omega (arith, e)

fields_apart : (p q k : ℕ) → p < q → p * k + k ≤ q * k
fields_apart p q k l =
    let more : (p + 1) * k ≤ q * k = mul-le-mul_right k (omega arith) in
    omega arith

-- The elements `i` and `j` are in different words, or in different fields of one word.
abbrev AreApart : ℕ → ℕ → ℕ → ℕ → ℕ → Type 0
AreApart n k base i j =
    (element_at n base j ≢ element_at n base i)
    ⊎ ((element_at n base j ≡ element_at n base i) × ((j % n * k + k ≤ i % n * k) ⊎ (i % n * k + k ≤ j % n * k)))

are_apart : (n k base i j : ℕ) → 0 < n → i < 32768 → j < 32768 → j ≢ i → AreApart n k base i j
are_apart n k base i j some li lj other =
    let pi = div-le_self i n in
    let pj = div-le_self j n in
    elim (cases_lt (j / n) (i / n)) [
      | inl less ↦ inl (words_apart base (j / n) (i / n) less (omega arith))
      | inr more ↦ elim (cases_lt (i / n) (j / n)) [
        | inl less ↦ inl (λ e. words_apart base (i / n) (j / n) less (omega arith) (sym e))
        | inr same ↦
            let q : j / n ≡ i / n = omega arith in
            inr (ap (λ (p : ℕ). (base + 2 * p) % 65536) q, in_one_word q)
      ]
    ]
  where
    in_one_word : j / n ≡ i / n → (j % n * k + k ≤ i % n * k) ⊎ (i % n * k + k ≤ j % n * k)
    in_one_word q = elim (cases_lt (j % n) (i % n)) [
      | inl less ↦ inl (fields_apart (j % n) (i % n) k less)
      | inr more ↦ elim (cases_lt (i % n) (j % n)) [
        | inl less ↦ inr (fields_apart (i % n) (j % n) k less)
        | inr same ↦
            let r : j % n ≡ i % n = omega arith in
            absurd (other (sym (div-add-mod' j n) ∙ ap (λ (p : ℕ). p * n + j % n) q ∙ ap (λ (t : ℕ). i / n * n + t) r ∙ div-add-mod' i n))
      ]
    ]

-- ---- the law

-- If another element is stored, then the field of the element `j` is unchanged.
field_stays : (m below : List ℕ) (b n k base i j v : ℕ) → IsOver m below b → base % 2 ≡ 0 → IsOffStack (b + 8) (element_at n base j) → AreApart n k base i j
    → field_of (word_at (with_word below (element_at n base i) (with_field (word_at m (element_at n base i)) (i % n * k) k v)) (element_at n base j))
    (j % n * k) k
    ≡ field_of (word_at m (element_at n base j)) (j % n * k) k
field_stays m below b n k base i j v over even away (inl other) =
    let w = with_field (word_at m (element_at n base i)) (i % n * k) k v in
    ap (λ (x : ℕ). field_of x (j % n * k) k) (word_at-with_word_other below (element_at n base i) (element_at n base j) w (omega arith) (omega arith) other
    ∙ over.same (element_at n base j) (omega arith) away)
field_stays m below b n k base i j v over even away (inr (same, beside)) =
    let w = with_field (word_at m (element_at n base i)) (i % n * k) k v in
    ap (λ (x : ℕ). field_of x (j % n * k) k) (word_at-with_word below (element_at n base i) (element_at n base j) w same (omega (arith, over.size)))
    ∙ other_fields_stay (word_at m (element_at n base i)) (i % n * k) k v (j % n * k) beside
    ∙ ap (λ (a : ℕ). field_of (word_at m a) (j % n * k) k) (sym same)

abbrev Stored : ℕ → ℕ → ℕ → ℕ → ℕ → ℕ → List ℕ → ℕ → Type 0
Stored per_word width base i v np m sp =
    (n : List ℕ) × (with_element per_word width base i v m sp np ≡ Ok (n, sp)) × HasOneElementMore per_word width base i v sp np m n

stored_above : (per_word width base i v np b : ℕ) (m : List ℕ) → IsRoom m b np → IsPacked per_word width base → i < 32768
    → IsOffStack (b + 8) (element_at per_word base i) → Stored per_word width base i v np m (b + 8)
stored_above per_word width base i v np b m h packed l away =
    let x = element_at per_word base i in
    let s = element_stored m b np per_word width base i v h packed l away in
    let even = packed.even in
    let w = with_field (word_at m x) (i % per_word * width) width v in
    let n = with_word s.below x w in
    let size : length n ≡ 32768 = size-with_word s.below x w ∙ s.over.size in
    let inside : IsRoom n b np = record { size = size; even = h.even; heap = h.heap; room = h.room } in (
      n,
      s.is,
      record {
        there = element_is n b np per_word width base i inside packed l away
            ∙ ap (λ (t : ℕ). Ok (field_of t (i % per_word * width) width)) (word_at-with_word s.below x x w refl (omega (arith, s.over.size)))
            ∙ ap Ok (stored_is_loaded (word_at m x) (i % per_word * width) width v);
        others = λ j lj other off. element_is n b np per_word width base j inside packed lj off
            ∙ ap Ok (field_stays m s.below b per_word width base i j v s.over even off (are_apart per_word width base i j packed.some l lj other))
            ∙ sym (element_is m b np per_word width base j h packed lj off);
        rest = λ y ey other off. word_at-with_word_other s.below x y w (omega arith) ey other ∙ s.over.same y ey off;
      },
    )

pub one_element_is_stored : OneElementIsStored
one_element_is_stored per_word width base i v sp np m memory packed room l away =
    let stack = room.stack in
    let low = room.room in
    let even = stack.even_sp in
    let high = stack.below in
    let e : sp - 8 + 8 ≡ sp = omega arith in
    let h : IsRoom m (sp - 8) np = record { size = memory.size; even = omega arith; heap = omega arith; room = omega arith } in
    subst (Stored per_word width base i v np m) e (stored_above per_word width base i v np (sp - 8) m h packed l (rw e away))
