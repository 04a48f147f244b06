-- Lemmas for rows on bytes, fields, strings and comparisons in two memories that agree on the bytes that the rows read.
use Rattle.std.proofs.Common.{◌≡◌, ◌<◌, ◌≤◌, inl, inr, ℕ, ◌+◌, ◌-◌, ◌*◌, ◌/◌, ◌%◌, ◌==◌, ◌&&◌, Bool, true, false, nat_le, nat_lt}
use Rattle.std.proofs.Common.{List, [], ◌∷◌, length, Result, Ok, refl, sym, ap, ◌∙◌, subst, arith}
use Rattle.std.specs.List.{All}
use Rattle.std.specs.Prelude.{if◌then◌else◌, not}
use Rattle.std.proofs.lemmas.Bool.{and_parts, cases_Bool}
use Rattle.std.proofs.lemmas.Bool.Decides.{nat_tests}
use Rattle.std.proofs.lemmas.List.Elements.{All-cons, All-nil}
use Rattle.pm_words.specs.declared.error.ExecError.{ExecError}
use Rattle.pm_words.specs.declared.error.ExecError.TheVariants.{InvalidIndex, InvalidMemory, StackOverflow, StringTooLong, Unimplemented}
use Rattle.pm_words.specs.declared.stack.Popped.{Popped}
use Rattle.pm_words.specs.Words.{IsMemory, byte_at, compared, with_byte, with_bytes, with_words, word_at}
use Rattle.pm_words.specs.Stack.{◌>>=◌, demand, is_even, lies_in_memory, load, pop, push, words_lie_in_memory}
use Rattle.pm_families.specs.declared.families.Relation.{Relation}
use Rattle.pm_values.specs.Comparisons.{are_words, compare_booleans_row, compare_bytes_row, compare_strings_row, compare_words_row, is_equality}
use Rattle.pm_values.specs.Fields.{field_of, index_field_row, is_field, load_byte_row, load_field_row, store_byte_row, store_field_row, with_field}
use Rattle.pm_values.specs.Several.{push_words}
use Rattle.pm_values.specs.Strings.{assign_row, index_string_row, source_at, string_at}
use Rattle.pm_machine.specs.Written.{place_on_stack}
use Rattle.pm_machine.specs.ReadStretches.{source_read, text_stretch}
use Rattle.law_engine.proofs.StoreRows.{characters, word_below, word_fits}
use Rattle.law_engine.proofs.StoredWords.{popped}
use Rattle.law_engine.proofs.ReadSteps.{Agree, RowAlike, RowsAlike, Same, both, bytes_alike, bytes_same, done, first_same, load_same, pop_same, pushed_alike}
use Rattle.law_engine.proofs.ReadSteps.{demanded, stored_alike, unchanged, words_alike}
use Rattle.law_engine.proofs.ReadRows.{held, next_same}

-- ---- words that are popped

-- If a row pops two words that are the same in `m` and `n`, and the rest of the row changes both memories alike, then
-- the whole row does so.
pub two_taken : (m n : List ℕ) (sp : ℕ) (f g : Popped → Popped → Result (List ℕ × ℕ) ExecError) → Same m n sp 4
    → ((b a : Popped) → b.word ≡ word_at m sp → a.word ≡ word_at m (sp + 2) → a.above ≡ sp + 4 → sp + 4 ≤ 65504 → sp % 2 ≡ 0 → RowsAlike m n (f b a) (g b a))
    → RowsAlike m n (pop m sp >>= λ b. (pop m b.above >>= λ a. f b a)) (pop n sp >>= λ b. (pop n b.above >>= λ a. g b a))
two_taken m n sp f g same h =
    both (RowAlike m n) (pop m sp) (pop n sp) _ _ (pop_same m n sp 4 sp same (omega arith) (omega arith)) (λ b k.
    both (RowAlike m n) (pop m b.above) (pop n b.above) _ _ (next_same m n sp 4 sp b same k (omega arith) (omega arith)) (λ a l.
    let below = word_below m sp b a k l in
    let above = (popped m sp b k).above in
    let room = (popped m b.above a l).room in
    h b a (popped m sp b k).word below.0 below.1 (omega (arith, above, room)) (popped m sp b k).even))

-- ---- bytes and fields

pub byte_same : (m n : List ℕ) (a : ℕ) → Same m n a 1 → byte_at n a ≡ byte_at m a
byte_same m n a same = same a (omega arith) (omega arith)

pub load_byte_alike : (m n : List ℕ) (sp np : ℕ) → IsMemory m → IsMemory n → Same m n sp 4 → Same m n (place_on_stack m sp) 1
    → RowsAlike m n (load_byte_row m sp np) (load_byte_row n sp np)
unfolding load_byte_row
load_byte_alike m n sp np memory other same source =
    two_taken m n sp (λ i a. push m a.above np (byte_at m ((a.word + i.word) % 65536))) (λ i a. push n a.above np (byte_at n ((a.word + i.word) % 65536))) same
    (λ i a top below above room even.
    let at : place_on_stack m sp ≡ (a.word + i.word) % 65536 = rw (top, below) refl in
    rw (subst (λ (x : ℕ). byte_at n x ≡ byte_at m x) at (byte_same m n (place_on_stack m sp) source))
    (pushed_alike m n a.above np (byte_at m ((a.word + i.word) % 65536)) memory other))

one_byte : (b : ℕ) → b < 256 → All (λ x. x < 256) (b ∷ [])
one_byte b h = All-cons (λ x. x < 256) b [] h (All-nil (λ x. x < 256))

pub store_byte_alike : (m n : List ℕ) (sp np : ℕ) → IsMemory m → IsMemory n → Same m n sp 6 → RowsAlike m n (store_byte_row m sp np) (store_byte_row n sp np)
unfolding store_byte_row with_byte
store_byte_alike m n sp np memory other same =
    both (RowAlike m n) (pop m sp) (pop n sp) _ _ (pop_same m n sp 6 sp same (omega arith) (omega arith)) (λ v h.
    let second = (popped m sp v h).above in
    both (RowAlike m n) (pop m v.above) (pop n v.above) _ _ (next_same m n sp 6 sp v same h (omega arith) (omega arith)) (λ i k.
    both (RowAlike m n) (pop m i.above) (pop n i.above) _ _ (next_same m n sp 6 v.above i same k (omega (arith, second)) (omega (arith, second))) (λ a l.
    done m n _ _ a.above (bytes_alike m n (v.word % 256 ∷ []) ((a.word + i.word) % 65536) memory other (omega arith) (one_byte (v.word % 256) (omega arith))))))

pub several_alike : (m n ws : List ℕ) (sp np : ℕ) → IsMemory m → IsMemory n → sp ≤ 65504 → RowsAlike m n (push_words m sp np ws) (push_words n sp np ws)
several_alike m n ws sp np memory other top =
    both (RowAlike m n) (demand (nat_le (np + 2 * length ws) sp) StackOverflow) (demand (nat_le (np + 2 * length ws) sp) StackOverflow) _ _ refl (λ u h.
    let room = fits np (length ws) sp (held (nat_le (np + 2 * length ws) sp) StackOverflow u h) in
    done m n (with_words m (sp - 2 * length ws) ws) (with_words n (sp - 2 * length ws) ws) (sp - 2 * length ws)
    (words_alike m n ws (sp - 2 * length ws) memory other (omega (arith, room, top))))
  where
    fits : (np n sp : ℕ) → nat_le (np + 2 * n) sp ≡ true → 2 * n ≤ sp
    fits np n sp h = let l : np + 2 * n ≤ sp = grind (arith, nat_tests) in omega (arith, l)

pub index_field_alike : (p w : ℕ) (m n : List ℕ) (sp np : ℕ) → IsMemory m → IsMemory n → Same m n sp 4
    → RowsAlike m n (index_field_row p w m sp np) (index_field_row p w n sp np)
unfolding index_field_row
index_field_alike p w m n sp np memory other same =
    two_taken m n sp (λ i a. row m i a) (λ i a. row n i a) same (λ i a top below above room even.
    demanded (RowAlike m n) (not (p == 0) && nat_lt i.word 32768) InvalidIndex _ _ (λ g.
    demanded (RowAlike m n) (is_field ((i.word % p) * w) w) InvalidIndex _ _ (λ k.
    several_alike m n ((i.word % p) * w ∷ w ∷ (a.word + 2 * (i.word / p)) % 65536 ∷ []) a.above np memory other (omega (arith, above, room)))))
  where
    row : List ℕ → Popped → Popped → Result (List ℕ × ℕ) ExecError
    row q i a = demand (not (p == 0) && nat_lt i.word 32768) InvalidIndex >>= λ u. (demand (is_field ((i.word % p) * w) w) InvalidIndex >>= λ v.
        push_words q a.above np ((i.word % p) * w ∷ w ∷ (a.word + 2 * (i.word / p)) % 65536 ∷ []))

pub load_field_alike : (m n : List ℕ) (sp np : ℕ) → IsMemory m → IsMemory n → Same m n sp 6 → Same m n (word_at m (sp + 4)) 2
    → RowsAlike m n (load_field_row m sp np) (load_field_row n sp np)
unfolding load_field_row
load_field_alike m n sp np memory other same source =
    both (RowAlike m n) (pop m sp) (pop n sp) _ _ (pop_same m n sp 6 sp same (omega arith) (omega arith)) (λ r h.
    let second = (popped m sp r h).above in
    both (RowAlike m n) (pop m r.above) (pop n r.above) _ _ (next_same m n sp 6 sp r same h (omega arith) (omega arith)) (λ k g.
    both (RowAlike m n) (pop m k.above) (pop n k.above) _ _ (next_same m n sp 6 r.above k same g (omega (arith, second)) (omega (arith, second))) (λ x l.
    let above = (word_below m sp r k h g).1 in
    let at : x.word ≡ word_at m (sp + 4) = (popped m k.above x l).word ∙ ap (λ (i : ℕ). word_at m i) above in
    both (RowAlike m n) (demand (is_field r.word k.word) InvalidIndex) (demand (is_field r.word k.word) InvalidIndex) _ _ refl (λ u q.
    both (RowAlike m n) (load m x.word) (load n x.word) _ _
    (load_same m n x.word 2 x.word (subst (λ i. Same m n i 2) (sym at) source) (omega arith) (omega arith)) (λ w t.
    pushed_alike m n x.above np (field_of w r.word k.word) memory other)))))

pub store_field_alike : (m n : List ℕ) (sp np : ℕ) → IsMemory m → IsMemory n → Same m n sp 8 → Same m n (word_at m (sp + 6)) 2
    → RowsAlike m n (store_field_row m sp np) (store_field_row n sp np)
unfolding store_field_row
store_field_alike m n sp np memory other same source =
    both (RowAlike m n) (pop m sp) (pop n sp) _ _ (pop_same m n sp 8 sp same (omega arith) (omega arith)) (λ v h.
    let second = (popped m sp v h).above in
    both (RowAlike m n) (pop m v.above) (pop n v.above) _ _ (next_same m n sp 8 sp v same h (omega arith) (omega arith)) (λ r g.
    let third = (word_below m sp v r h g).1 in
    both (RowAlike m n) (pop m r.above) (pop n r.above) _ _ (next_same m n sp 8 v.above r same g (omega (arith, second)) (omega (arith, second))) (λ k l.
    let fourth : k.above ≡ sp + 6 = (popped m r.above k l).above ∙ omega (arith, third) in
    both (RowAlike m n) (pop m k.above) (pop n k.above) _ _ (next_same m n sp 8 r.above k same l (omega (arith, third)) (omega (arith, third))) (λ x q.
    let at : x.word ≡ word_at m (sp + 6) = (popped m k.above x q).word ∙ ap (λ (i : ℕ). word_at m i) fourth in
    both (RowAlike m n) (demand (is_field r.word k.word) InvalidIndex) (demand (is_field r.word k.word) InvalidIndex) _ _ refl (λ u z.
    both (RowAlike m n) (load m x.word) (load n x.word) _ _
    (load_same m n x.word 2 x.word (subst (λ i. Same m n i 2) (sym at) source) (omega arith) (omega arith)) (λ w t.
    stored_alike m n x.word (with_field w r.word k.word v.word) x.above memory other))))))

-- ---- strings

in_memory : (a n : ℕ) → lies_in_memory a n ≡ true → a + n ≤ 65536
in_memory a n h = grind (arith, nat_tests)

pub string_same : (m n : List ℕ) (a : ℕ) → IsMemory m → IsMemory n → Same m n a (1 + byte_at m a) → string_at n a ≡ string_at m a
string_same m n a memory other same = elim (cases_Bool (lies_in_memory (a + 1) (byte_at m a))) [
  | inl e ↦ rw (size, e) (ap (λ (bs : List ℕ). Ok bs)
      (bytes_same m n a (1 + byte_at m a) (a + 1) (byte_at m a) same memory other (omega arith) (omega arith) (in_memory (a + 1) (byte_at m a) e)))
  | inr e ↦ rw (size, e) refl
]
  where
    size : byte_at n a ≡ byte_at m a
    size = same a (omega arith) (omega arith)

pub source_same : (m n : List ℕ) (e : ℕ) → IsMemory m → IsMemory n → Agree (source_read m e) m n → source_at n e ≡ source_at m e
source_same m n e memory other agree = of (nat_lt e 256) agree
  where
    of : (b : Bool) → Agree (if b then [] else text_stretch m e ∷ []) m n
        → (if b then Ok (e ∷ []) else string_at n e) ≡ (if b then Ok (e ∷ []) else string_at m e)
    of true h = refl
    of false h = string_same m n e memory other (first_same e (1 + byte_at m e) [] m n h)

pub index_string_alike : (m n : List ℕ) (sp np : ℕ) → Same m n sp 4 → Same m n (word_at m (sp + 2)) 1
    → RowsAlike m n (index_string_row m sp np) (index_string_row n sp np)
unfolding index_string_row
index_string_alike m n sp np same source =
    two_taken m n sp (λ i a. row m i a) (λ i a. row n i a) same (λ i a top below above room even.
    rw (subst (λ (x : ℕ). byte_at n x ≡ byte_at m x) (sym below) (byte_same m n (word_at m (sp + 2)) source))
    (demanded (RowAlike m n) (nat_le i.word (byte_at m a.word)) InvalidIndex _ _ (λ g. done m n m n sp (unchanged m n))))
  where
    row : List ℕ → Popped → Popped → Result (List ℕ × ℕ) ExecError
    row q i a = demand (nat_le i.word (byte_at q a.word)) InvalidIndex >>= λ u. Ok (q, sp)

pub assign_alike : (limit : ℕ) (m n : List ℕ) (sp np : ℕ) → IsMemory m → IsMemory n → Same m n sp 4 → Agree (source_read m (word_at m sp)) m n
    → RowsAlike m n (assign_row limit m sp np) (assign_row limit n sp np)
unfolding assign_row
assign_alike limit m n sp np memory other same source =
    two_taken m n sp (λ e d. row m e d) (λ e d. row n e d) same (λ e d top below above room even.
    both (RowAlike m n) (source_at m e.word) (source_at n e.word) _ _
    (source_same m n e.word memory other (subst (λ i. Agree (source_read m i) m n) (sym top) source)) (λ s h.
    demanded (RowAlike m n) (nat_le (length s) limit) StringTooLong _ _ (λ g.
    demanded (RowAlike m n) (lies_in_memory (d.word + 1) (length s)) InvalidMemory _ _ (λ k.
    let small = word_fits m sp memory (omega (arith, room)) in
    let are = characters m s e.word memory (subst (λ i. i < 65536) (sym top) small) h in
    let lies = in_memory (d.word + 1) (length s) k in
    done m n (with_bytes m d.word (length s ∷ s)) (with_bytes n d.word (length s ∷ s)) d.above
    (bytes_alike m n (length s ∷ s) d.word memory other (omega (arith, lies)) (All-cons (λ b. b < 256) (length s) s are.few are.bytes))))))
  where
    row : List ℕ → Popped → Popped → Result (List ℕ × ℕ) ExecError
    row q e d = source_at q e.word >>= λ s. (demand (nat_le (length s) limit) StringTooLong >>= λ u.
        (demand (lies_in_memory (d.word + 1) (length s)) InvalidMemory >>= λ v. Ok (with_bytes q d.word (length s ∷ s), d.above)))

-- ---- comparisons

pub booleans_alike : (r : Relation) (m n : List ℕ) (sp np : ℕ) → IsMemory m → IsMemory n → Same m n sp 4
    → RowsAlike m n (compare_booleans_row r m sp np) (compare_booleans_row r n sp np)
unfolding compare_booleans_row
booleans_alike r m n sp np memory other same =
    two_taken m n sp (λ b a. push m a.above np _) (λ b a. push n a.above np _) same
    (λ b a top below above room even. pushed_alike m n a.above np _ memory other)

pub strings_alike : (r : Relation) (m n : List ℕ) (sp np : ℕ) → IsMemory m → IsMemory n → Same m n sp 4
    → Same m n (word_at m (sp + 2)) (1 + byte_at m (word_at m (sp + 2))) → Same m n (word_at m sp) (1 + byte_at m (word_at m sp))
    → RowsAlike m n (compare_strings_row r m sp np) (compare_strings_row r n sp np)
unfolding compare_strings_row
strings_alike r m n sp np memory other same low high =
    both (RowAlike m n) (pop m sp) (pop n sp) _ _ (pop_same m n sp 4 sp same (omega arith) (omega arith)) (λ b h.
    both (RowAlike m n) (pop m b.above) (pop n b.above) _ _ (next_same m n sp 4 sp b same h (omega arith) (omega arith)) (λ a k.
    both (RowAlike m n) (string_at m a.word) (string_at n a.word) _ _ (string_same m n a.word memory other
    (subst (λ i. Same m n i (1 + byte_at m i)) (sym (word_below m sp b a h k).0) low)) (λ s l.
    both (RowAlike m n) (string_at m b.word) (string_at n b.word) _ _ (string_same m n b.word memory other
    (subst (λ i. Same m n i (1 + byte_at m i)) (sym (popped m sp b h).word) high)) (λ t q. pushed_alike m n a.above np _ memory other))))

compared_same : (m n : List ℕ) (a b c : ℕ) → IsMemory m → IsMemory n → Same m n a c → Same m n b c → a + c ≤ 65536 → b + c ≤ 65536
    → compared n a b c ≡ compared m a b c
unfolding compared
compared_same m n a b c memory other first second one two =
    rw (
      bytes_same m n a c a c first memory other (omega arith) (omega arith) one,
      bytes_same m n b c b c second memory other (omega arith)
          (omega arith) two,
    ) refl

pub ranges_alike : (c : ℕ) (r : Relation) (m n : List ℕ) (sp np : ℕ) → IsMemory m → IsMemory n → Same m n sp 4
    → Same m n (word_at m (sp + 2)) c → Same m n (word_at m sp) c
    → RowsAlike m n (compare_bytes_row c r m sp np) (compare_bytes_row c r n sp np)
unfolding compare_bytes_row
ranges_alike c r m n sp np memory other same low high =
    both (RowAlike m n) (pop m sp) (pop n sp) _ _ (pop_same m n sp 4 sp same (omega arith) (omega arith)) (λ b h.
    both (RowAlike m n) (pop m b.above) (pop n b.above) _ _ (next_same m n sp 4 sp b same h (omega arith) (omega arith)) (λ a k.
    demanded (RowAlike m n) (lies_in_memory a.word c && lies_in_memory b.word c) InvalidMemory _ _ (λ g.
    let lies = and_parts (lies_in_memory a.word c) (lies_in_memory b.word c) g in
    rw (compared_same m n a.word b.word c memory other (subst (λ i. Same m n i c) (sym (word_below m sp b a h k).0) low)
    (subst (λ i. Same m n i c) (sym (popped m sp b h).word) high) (in_memory a.word c lies.0) (in_memory b.word c lies.1))
    (pushed_alike m n a.above np _ memory other))))

pub word_ranges_alike : (c : ℕ) (r : Relation) (m n : List ℕ) (sp np : ℕ) → IsMemory m → IsMemory n → Same m n sp 4
    → Same m n (word_at m (sp + 2)) (2 * c) → Same m n (word_at m sp) (2 * c)
    → RowsAlike m n (compare_words_row c r m sp np) (compare_words_row c r n sp np)
unfolding compare_words_row
word_ranges_alike c r m n sp np memory other same low high =
    demanded (RowAlike m n) (is_equality r) Unimplemented _ _ (λ f.
    both (RowAlike m n) (pop m sp) (pop n sp) _ _ (pop_same m n sp 4 sp same (omega arith) (omega arith)) (λ b h.
    both (RowAlike m n) (pop m b.above) (pop n b.above) _ _ (next_same m n sp 4 sp b same h (omega arith) (omega arith)) (λ a k.
    demanded (RowAlike m n) (are_words a.word c && are_words b.word c) InvalidMemory _ _ (λ g.
    let lies = and_parts (are_words a.word c) (are_words b.word c) g in
    rw (compared_same m n a.word b.word (2 * c) memory other (subst (λ i. Same m n i (2 * c)) (sym (word_below m sp b a h k).0) low)
    (subst (λ i. Same m n i (2 * c)) (sym (popped m sp b h).word) high) (within a.word lies.0) (within b.word lies.1))
    (pushed_alike m n a.above np _ memory other)))))
  where
    within : (a : ℕ) → are_words a c ≡ true → a + 2 * c ≤ 65536
    within a e =
        let parts = and_parts (nat_le c 32767) (words_lie_in_memory a c) e in
        let lies = and_parts (is_even a) (nat_le (a + 2 * c) 65536) parts.1 in grind (arith, nat_tests, lies.1)
