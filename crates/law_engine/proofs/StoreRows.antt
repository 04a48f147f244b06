-- Lemmas for the words that each row that stores writes.
use Rattle.std.proofs.Common.{◌≡◌, ◌≢◌, ◌<◌, ◌≤◌, ◌⊎◌, inl, inr, ℕ, ◌+◌, ◌*◌, ◌/◌, ◌%◌, Bool, true, false}
use Rattle.std.proofs.Common.{nat_lt, nat_le, List, [], ◌∷◌, length, Result, Ok, Err, refl, sym, ap, ◌∙◌, subst, arith}
use Rattle.std.specs.List.{All}
use Rattle.std.proofs.lemmas.Bool.{and_parts, cases_Bool}
use Rattle.std.proofs.lemmas.Bool.Decides.{nat_tests}
use Rattle.std.proofs.lemmas.List.Elements.{All-cons, All-nil}
use Rattle.pm_words.specs.declared.error.ExecError.{ExecError}
use Rattle.pm_words.specs.declared.error.ExecError.TheVariants.{InvalidIndex, InvalidMemory, StringTooLong}
use Rattle.pm_words.specs.declared.stack.Popped.{Popped}
use Rattle.pm_words.specs.Words.{IsMemory, byte_at, bytes_at, copied, with_byte, with_bytes, word_at}
use Rattle.pm_words.specs.Stack.{◌>>=◌, demand, is_even, lies_in_memory, load, pop, store, words_lie_in_memory}
use Rattle.pm_words.proofs.Laws.{word_at-with_word_other}
use Rattle.pm_words.proofs.RangeLaws.{All-bytes_at, length-bytes_at, word_at-copied_other, word_at-with_bytes_other}
use Rattle.pm_families.specs.declared.families.Scope.{Scope}
use Rattle.pm_calls.specs.declared.registers.Registers.{Registers}
use Rattle.pm_calls.proofs.ReturnLaws.{ok_same, passed}
use Rattle.pm_values.specs.Fields.{is_field, store_byte_row, store_field_row, with_field}
use Rattle.pm_values.specs.Strings.{assign_row, source_at, string_at}
use Rattle.pm_rows.specs.Pointers.{move_row, store_indirect_row, store_words_row}
use Rattle.pm_rows.specs.Variables.{store_row, variable_at}
use Rattle.law_engine.specs.StoreLaws.{RowsWriteWhatTheyStore, StaysBut, WritesAlone}
use Rattle.law_engine.proofs.MoveLaws.{byte_at-below}
use Rattle.law_engine.proofs.StoredWords.{popped}

-- ---- steps of a row

then : {A : Type 0} (m : List ℕ) (a k : ℕ) (r : Result A ExecError) (f : A → Result (List ℕ × ℕ) ExecError)
    → ((x : A) → r ≡ Ok x → WritesAlone m a k (f x)) → WritesAlone m a k (r >>= f)
then m a k (Ok x) f h = h x refl
then m a k (Err e) f h = tt

-- If two words are popped from `sp` on, then the second is the word at `sp + 2`, and the SP after them is `sp + 4`.
pub word_below : (m : List ℕ) (sp : ℕ) (p q : Popped) → pop m sp ≡ Ok p → pop m p.above ≡ Ok q → (q.word ≡ word_at m (sp + 2)) × (q.above ≡ sp + 4)
word_below m sp p q h k =
    let above = (popped m sp p h).above in
    let next = popped m p.above q k in
    let up : q.above ≡ sp + 4 = next.above ∙ omega (arith, above) in
    (next.word ∙ ap (λ (i : ℕ). word_at m i) above, up)

-- If a word is stored at the address `a`, then no other word is written.
one : (m : List ℕ) (a w above : ℕ) → WritesAlone m a 2 (store m a w >>= λ n. Ok (n, above))
one m a w above = elim (cases_Bool (is_even a)) [
  | inl e ↦ rw e (λ x even away. word_at-with_word_other m a x w (evenly a e) even (differs x a away))
  | inr e ↦ rw e tt
]
  where
    evenly : (a : ℕ) → is_even a ≡ true → a % 2 ≡ 0
    evenly a e = grind (arith, nat_tests)

    differs : (x a : ℕ) → (x + 1 < a) ⊎ (a + 2 ≤ x) → x ≢ a
    differs x a (inl h) = λ e. omega (arith, h, e)
    differs x a (inr h) = λ e. omega (arith, h, e)

inside : (a n : ℕ) → words_lie_in_memory a n ≡ true → a + 2 * n ≤ 65536
inside a n h = let parts = and_parts (is_even a) (nat_le (a + 2 * n) 65536) h in grind (arith, nat_tests, parts.1)

held : (b : Bool) (e : ExecError) (x : Unit {0}) → demand b e ≡ Ok x → b ≡ true
held true e x h = refl
held false e x h = cc

-- ---- the rows

variable_stores : (scope : Scope) (b a : ℕ) (m : List ℕ) (r : Registers) → variable_at scope b m r ≡ Ok a → WritesAlone m a 2 (store_row scope b m r)
unfolding store_row
variable_stores scope b a m r found = then m a 2 (pop m r.sp) _ (λ v h. rw found (one m a v.word v.above))

word_stores : (m : List ℕ) (sp np : ℕ) → WritesAlone m (word_at m (sp + 2)) 2 (store_indirect_row m sp np)
unfolding store_indirect_row
word_stores m sp np = then m (word_at m (sp + 2)) 2 (pop m sp) _ (λ v h. then m (word_at m (sp + 2)) 2 (pop m v.above) _ (λ a k.
    subst (λ (i : ℕ). WritesAlone m i 2 (store m a.word v.word >>= λ n. Ok (n, a.above))) (word_below m sp v a h k).0 (one m a.word v.word a.above)))

copies : (m : List ℕ) (from to n above : ℕ) → IsMemory m → from + 2 * n ≤ 65536 → to + 2 * n ≤ 65536
    → WritesAlone m to (2 * n) (Ok (copied m from to (2 * n), above))
copies m from to n above memory source room = λ x even away. word_at-copied_other m from to (2 * n) x memory source room even away

words_store : (n : ℕ) (m : List ℕ) (sp np : ℕ) → IsMemory m → WritesAlone m (word_at m (sp + 2 * n)) (2 * n) (store_words_row n m sp np)
unfolding store_words_row
words_store n m sp np memory = then m (word_at m (sp + 2 * n)) (2 * n) (pop m (sp + 2 * n)) _ (λ a h.
    then m (word_at m (sp + 2 * n)) (2 * n) (demand (words_lie_in_memory a.word n) InvalidMemory) _ (λ u k.
    let is = popped m (sp + 2 * n) a h in
    let top = is.room in
    let room = inside a.word n (held (words_lie_in_memory a.word n) InvalidMemory u k) in
    subst (λ (i : ℕ). StaysBut m (copied m sp a.word (2 * n)) i (2 * n)) is.word (copies m sp a.word n a.above memory (omega (arith, top)) room)))

move_stores : (b : ℕ) (m : List ℕ) (sp np : ℕ) → IsMemory m → WritesAlone m (word_at m (sp + 2)) (2 * b) (move_row b m sp np)
unfolding move_row
move_stores b m sp np memory = then m (word_at m (sp + 2)) (2 * b) (pop m sp) _ (λ f h. then m (word_at m (sp + 2)) (2 * b) (pop m f.above) _ (λ t k.
    then m (word_at m (sp + 2)) (2 * b) (demand (nat_lt b 32768) InvalidMemory) _ (λ u l.
    then m (word_at m (sp + 2)) (2 * b) (demand (words_lie_in_memory f.word b) InvalidMemory) _ (λ v q.
    then m (word_at m (sp + 2)) (2 * b) (demand (words_lie_in_memory t.word b) InvalidMemory) _ (λ w z.
    let source = inside f.word b (held (words_lie_in_memory f.word b) InvalidMemory v q) in
    let room = inside t.word b (held (words_lie_in_memory t.word b) InvalidMemory w z) in
    subst (λ (i : ℕ). StaysBut m (copied m f.word t.word (2 * b)) i (2 * b)) (word_below m sp f t h k).0
    (copies m f.word t.word b t.above memory source room))))))

third_word : (m : List ℕ) (sp : ℕ) (p q r : Popped) → pop m sp ≡ Ok p → pop m p.above ≡ Ok q → pop m q.above ≡ Ok r
    → (r.word ≡ word_at m (sp + 4)) × (r.above ≡ sp + 6)
third_word m sp p q r h k l =
    let above = (word_below m sp p q h k).1 in
    let next = popped m q.above r l in
    let up : r.above ≡ sp + 6 = next.above ∙ omega (arith, above) in
    (next.word ∙ ap (λ (i : ℕ). word_at m i) above, up)

byte_fits : (b : ℕ) → b < 256 → All (λ x. x < 256) (b ∷ [])
byte_fits b h = All-cons (λ x. x < 256) b [] h (All-nil (λ x. x < 256))

with_byte_stays : (m : List ℕ) (a b : ℕ) → IsMemory m → a < 65536 → b < 256 → StaysBut m (with_byte m a b) a 1
unfolding with_byte
with_byte_stays m a b memory room fits = λ x even away. word_at-with_bytes_other m (b ∷ []) a x memory (omega (arith, room)) (byte_fits b fits) even away

byte_stores : (m : List ℕ) (sp np : ℕ) → IsMemory m → WritesAlone m ((word_at m (sp + 4) + word_at m (sp + 2)) % 65536) 1 (store_byte_row m sp np)
unfolding store_byte_row
byte_stores m sp np memory =
    let at = (word_at m (sp + 4) + word_at m (sp + 2)) % 65536 in
    then m at 1 (pop m sp) _ (λ v h. then m at 1 (pop m v.above) _ (λ i k. then m at 1 (pop m i.above) _ (λ a l.
    let low = (word_below m sp v i h k).0 in
    let high = (third_word m sp v i a h k l).0 in
    let same : (a.word + i.word) % 65536 ≡ at = rw (low, high) refl in
    subst (λ (y : ℕ). StaysBut m (with_byte m ((a.word + i.word) % 65536) (v.word % 256)) y 1) same
    (with_byte_stays m ((a.word + i.word) % 65536) (v.word % 256) memory (omega arith) (omega arith)))))

field_stores : (m : List ℕ) (sp np : ℕ) → WritesAlone m (word_at m (sp + 6)) 2 (store_field_row m sp np)
unfolding store_field_row
field_stores m sp np =
    let at = word_at m (sp + 6) in
    then m at 2 (pop m sp) _ (λ v h. then m at 2 (pop m v.above) _ (λ r k. then m at 2 (pop m r.above) _ (λ s l. then m at 2 (pop m s.above) _ (λ a q.
    then m at 2 (demand (is_field r.word s.word) InvalidIndex) _ (λ u z. then m at 2 (load m a.word) _ (λ w y.
    let above = (third_word m sp v r s h k l).1 in
    let same : a.word ≡ at = (popped m s.above a q).word ∙ ap (λ (i : ℕ). word_at m i) above in
    subst (λ (i : ℕ). WritesAlone m i 2 (store m a.word (with_field w r.word s.word v.word) >>= λ n. Ok (n, a.above))) same
    (one m a.word (with_field w r.word s.word v.word) a.above)))))))

-- The elements of `s` are bytes, and `s` has fewer than 256 elements.
pub record AreCharacters (s : List ℕ) : Type 0 where
  pub bytes : All (λ x. x < 256) s
  pub few : length s < 256

in_memory : (a n : ℕ) → lies_in_memory a n ≡ true → a + n ≤ 65536
in_memory a n h = grind (arith, nat_tests)

characters_at : (m s : List ℕ) (a : ℕ) → IsMemory m → byte_at m a < 256 → string_at m a ≡ Ok s → AreCharacters s
characters_at m s a memory small found =
    let rest = passed (lies_in_memory (a + 1) (byte_at m a)) InvalidMemory _ s found in
    let same : bytes_at m (a + 1) (byte_at m a) ≡ s = ok_same _ s rest.1 in
    let count : length (bytes_at m (a + 1) (byte_at m a)) ≡ byte_at m a =
    length-bytes_at m (a + 1) (byte_at m a) memory (in_memory (a + 1) (byte_at m a) rest.0) in
    subst AreCharacters same (record {
      bytes = All-bytes_at m (a + 1) (byte_at m a) memory;
      few = omega (arith, count, small);
    })

pub word_fits : (m : List ℕ) (a : ℕ) → IsMemory m → a < 65536 → word_at m a < 65536
unfolding word_at
word_fits m a memory h = let size = memory.size in memory.fits (a / 2) 0 (omega (arith, h, size))

pub characters : (m s : List ℕ) (e : ℕ) → IsMemory m → e < 65536 → source_at m e ≡ Ok s → AreCharacters s
characters m s e memory small found = elim (cases_Bool (nat_lt e 256)) [
  | inl h ↦ subst AreCharacters (ok_same _ s (sym (rw h refl) ∙ found)) (one_character e (grind (arith, nat_tests, h)))
  | inr h ↦ characters_at m s e memory (byte_at-below m e memory small) (sym (rw h refl) ∙ found)
]
  where
    one_character : (e : ℕ) → e < 256 → AreCharacters (e ∷ [])
    one_character e h = record { bytes = byte_fits e h; few = omega arith }

text_written : (m s : List ℕ) (d : ℕ) → IsMemory m → AreCharacters s → d + 1 + length s ≤ 65536 → StaysBut m (with_bytes m d (length s ∷ s)) d (1 + length s)
text_written m s d memory are room = λ x even away.
    word_at-with_bytes_other m (length s ∷ s) d x memory (omega (arith, room)) (All-cons (λ b. b < 256) (length s) s are.few are.bytes) even (longer x d s away)
  where
    longer : (x d : ℕ) (s : List ℕ) → (x + 1 < d) ⊎ (d + (1 + length s) ≤ x) → (x + 1 < d) ⊎ (d + length (length s ∷ s) ≤ x)
    longer x d s (inl l) = inl l
    longer x d s (inr r) = inr (omega (arith, r))

text_stores : (limit : ℕ) (m s : List ℕ) (sp np : ℕ) → IsMemory m → source_at m (word_at m sp) ≡ Ok s
    → WritesAlone m (word_at m (sp + 2)) (1 + length s) (assign_row limit m sp np)
unfolding assign_row
text_stores limit m s sp np memory found =
    let at = word_at m (sp + 2) in
    let size = 1 + length s in
    then m at size (pop m sp) _ (λ e h. then m at size (pop m e.above) _ (λ d k.
    let is = popped m sp e h in
    let top = is.room in
    let small = word_fits m sp memory (omega (arith, top)) in
    let source : source_at m e.word ≡ Ok s = ap (λ (i : ℕ). source_at m i) is.word ∙ found in
    rw source (then m at size (demand (nat_le (length s) limit) StringTooLong) _ (λ u l.
    then m at size (demand (lies_in_memory (d.word + 1) (length s)) InvalidMemory) _ (λ v q.
    let room = in_memory (d.word + 1) (length s) (held (lies_in_memory (d.word + 1) (length s)) InvalidMemory v q) in
    subst (λ (i : ℕ). StaysBut m (with_bytes m d.word (length s ∷ s)) i size) (word_below m sp e d h k).0
    (text_written m s d.word memory (characters m s (word_at m sp) memory small found) room))))))

pub rows_write_what_they_store : RowsWriteWhatTheyStore
rows_write_what_they_store = record {
  variable = λ scope b a m r memory found. variable_stores scope b a m r found;
  word = λ m sp np memory. word_stores m sp np;
  words = words_store;
  move = move_stores;
  byte = byte_stores;
  field = λ m sp np memory. field_stores m sp np;
  text = text_stores;
}
