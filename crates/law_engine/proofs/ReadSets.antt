-- Lemmas for rows on sets, and for all rows on values, in two memories that agree on the bytes that the rows read.
use Rattle.std.proofs.Common.{◌≡◌, ◌≤◌, ℕ, ◌+◌, ◌*◌, ◌&&◌, ◌||◌, Bool, true, nat_le}
use Rattle.std.proofs.Common.{List, [], ◌∷◌, length, Result, Ok, refl, sym, ap, ◌∙◌, subst, arith}
use Rattle.std.specs.Prelude.{if◌then◌else◌, max, min, not, int_lt}
use Rattle.std.proofs.lemmas.Bool.Decides.{nat_tests}
use Rattle.pm_words.specs.declared.error.ExecError.{ExecError}
use Rattle.pm_words.specs.declared.error.ExecError.TheVariants.{InvalidIndex, InvalidMemory, Unimplemented}
use Rattle.pm_words.specs.declared.stack.Popped.{Popped}
use Rattle.pm_words.specs.Signed.{signed}
use Rattle.pm_words.specs.Words.{IsMemory, byte_at, word_at}
use Rattle.pm_words.specs.Stack.{◌>>=◌, demand, pop, push}
use Rattle.pm_families.specs.declared.families.Kind.TheVariants as kind
use Rattle.pm_families.specs.declared.families.Kind.{Kind}
use Rattle.pm_families.specs.declared.families.Relation.{Relation}
use Rattle.pm_families.specs.declared.families.Value.{Value}
use Rattle.pm_families.specs.declared.families.Value.TheVariants as value
use Rattle.pm_families.specs.declared.families.Byte.TheVariants as byte
use Rattle.pm_families.specs.declared.families.Set.{Set}
use Rattle.pm_families.specs.declared.families.Set.TheVariants as set
use Rattle.pm_families.specs.declared.families.Text.TheVariants as text
use Rattle.pm_families.specs.declared.families.Field.TheVariants as field
use Rattle.pm_values.specs.Comparisons.{compare_row, compare_sets_row, is_of_sets}
use Rattle.pm_values.specs.Sets.{StackSet, adjust_row, difference_row, in_set_row, intersect_row, interval, is_member, pop_set, set_of}
use Rattle.pm_values.specs.Sets.{singleton_row, subrange_row}
use Rattle.pm_values.specs.Sets.{two_sets_row, union_row, with_length}
use Rattle.pm_values.specs.Several.{push_words}
use Rattle.pm_rows.specs.Values.{field_row, set_row, value_row}
use Rattle.pm_effects.specs.Effects.{set_effect}
use Rattle.pm_machine.specs.Written.{place_on_stack, stretch}
use Rattle.pm_machine.specs.ReadStretches.{source_read, taken, text_stretch, value_read}
use Rattle.law_engine.proofs.StoredWords.{popped}
use Rattle.law_engine.proofs.ReadSteps.{Agree, RowAlike, RowsAlike, Same, bind_same, both, demanded, first_same, pop_same, pushed_alike, rest_agree, words_same}
use Rattle.law_engine.proofs.ReadRows.{held}
use Rattle.law_engine.proofs.ReadValues.{assign_alike, booleans_alike, index_field_alike, index_string_alike, load_byte_alike, load_field_alike}
use Rattle.law_engine.proofs.ReadValues.{ranges_alike, several_alike, store_byte_alike, store_field_alike, strings_alike, two_taken, word_ranges_alike}
use Rattle.pm_calls.proofs.ReturnLaws.{bound, ok_same, passed}

-- ---- a set that is popped

pub set_same : (m n : List ℕ) (a k sp : ℕ) → IsMemory m → IsMemory n → Same m n a k → a ≤ sp → sp + 2 * (word_at m sp + 1) ≤ a + k
    → pop_set n sp ≡ pop_set m sp
unfolding pop_set
set_same m n a k sp memory other same low high =
    bind_same (pop m sp) (pop n sp) _ _ (pop_same m n a k sp same low (omega (arith, high))) (λ c h.
    let is = popped m sp c h in
    let above = is.above in
    let word = is.word in
    let even = is.even in
    bind_same (demand (nat_le c.word 255) InvalidIndex) (demand (nat_le c.word 255) InvalidIndex) _ _ refl (λ u g.
    bind_same (demand (nat_le (c.above + 2 * c.word) 65504) InvalidMemory) (demand (nat_le (c.above + 2 * c.word) 65504) InvalidMemory) _ _ refl (λ v l.
    let room = in_stack (c.above + 2 * c.word) (held (nat_le (c.above + 2 * c.word) 65504) InvalidMemory v l) in
    rw (words_same m n a k c.above c.word same memory other (omega (arith, even, above)) (omega (arith, low, above)) (omega (arith, above, word, high))
    (omega (arith, room))) refl)))
  where
    in_stack : (x : ℕ) → nat_le x 65504 ≡ true → x ≤ 65504
    in_stack x h = grind (arith, nat_tests)

pub record IsSetPopped (m : List ℕ) (sp : ℕ) (s : StackSet) : Type 0 where
  pub above : s.above ≡ sp + 2 * (word_at m sp + 1)
  pub room : s.above ≤ 65504

set_popped : (m : List ℕ) (sp : ℕ) (s : StackSet) → pop_set m sp ≡ Ok s → IsSetPopped m sp s
unfolding pop_set
set_popped m sp s h =
    let n = bound (pop m sp) _ s h in
    let few = passed (nat_le n.0.word 255) InvalidIndex _ s n.2 in
    let room = passed (nat_le (n.0.above + 2 * n.0.word) 65504) InvalidMemory _ s few.1 in
    let same = ok_same _ s room.1 in
    let first = popped m sp n.0 n.1 in
    let up = first.above in
    let word = first.word in
    let is : s.above ≡ n.0.above + 2 * n.0.word = sym (ap (λ (x : StackSet). x.above) same) in
    let low : n.0.above + 2 * n.0.word ≤ 65504 = grind (arith, nat_tests, room.0) in
    record { above = is ∙ omega (arith, up, word); room = omega (arith, low, is) }

-- If a row pops two sets whose bytes are the same in `m` and `n`, and the rest of the row changes both memories alike,
-- then the whole row does so.
two_sets_taken : (m n : List ℕ) (sp : ℕ) (f g : StackSet → StackSet → Result (List ℕ × ℕ) ExecError) → IsMemory m → IsMemory n
    → Same m n sp (2 * (word_at m sp + 1 + (word_at m (sp + 2 * (word_at m sp + 1)) + 1)))
    → ((t s : StackSet) → s.above ≤ 65504 → RowsAlike m n (f t s) (g t s))
    → RowsAlike m n (pop_set m sp >>= λ t. (pop_set m t.above >>= λ s. f t s)) (pop_set n sp >>= λ t. (pop_set n t.above >>= λ s. g t s))
two_sets_taken m n sp f g memory other same h =
    let k = 2 * (word_at m sp + 1 + (word_at m (sp + 2 * (word_at m sp + 1)) + 1)) in
    both (RowAlike m n) (pop_set m sp) (pop_set n sp) _ _ (set_same m n sp k sp memory other same (omega arith) (omega arith)) (λ t q.
    let up = (set_popped m sp t q).above in
    both (RowAlike m n) (pop_set m t.above) (pop_set n t.above) _ _
    (subst (λ i. pop_set n i ≡ pop_set m i) (sym up) (set_same m n sp k (sp + 2 * (word_at m sp + 1)) memory other same (omega arith) (omega arith))) (λ s l.
    h t s (set_popped m t.above s l).room))

two_sets_alike : (count : ℕ → ℕ → ℕ) (test : Bool → Bool → Bool) (m n : List ℕ) (sp np : ℕ) → IsMemory m → IsMemory n
    → Same m n sp (2 * (word_at m sp + 1 + (word_at m (sp + 2 * (word_at m sp + 1)) + 1)))
    → RowsAlike m n (two_sets_row count test m sp np) (two_sets_row count test n sp np)
two_sets_alike count test m n sp np memory other same =
    two_sets_taken m n sp (λ t s. push_words m s.above np (made t s)) (λ t s. push_words n s.above np (made t s)) memory other same (λ t s room.
    several_alike m n (made t s) s.above np memory other room)
  where
    made : StackSet → StackSet → List ℕ
    made t s = with_length (set_of (count (length s.members) (length t.members)) (λ e. test (is_member s.members e) (is_member t.members e)))

pub compare_sets_alike : (r : Relation) (m n : List ℕ) (sp np : ℕ) → IsMemory m → IsMemory n
    → Same m n sp (2 * (word_at m sp + 1 + (word_at m (sp + 2 * (word_at m sp + 1)) + 1)))
    → RowsAlike m n (compare_sets_row r m sp np) (compare_sets_row r n sp np)
unfolding compare_sets_row
compare_sets_alike r m n sp np memory other same =
    demanded (RowAlike m n) (is_of_sets r) Unimplemented _ _ (λ g.
    two_sets_taken m n sp (λ t s. push m s.above np _) (λ t s. push n s.above np _) memory other same (λ t s room. pushed_alike m n s.above np _ memory other))

-- ---- the rows on sets

subrange_alike : (m n : List ℕ) (sp np : ℕ) → IsMemory m → IsMemory n → Same m n sp 4 → RowsAlike m n (subrange_row m sp np) (subrange_row n sp np)
unfolding subrange_row
subrange_alike m n sp np memory other same =
    two_taken m n sp (λ b a. members b a >>= λ s. push_words m a.above np (with_length s)) (λ b a. members b a >>= λ s. push_words n a.above np
    (with_length s)) same
    (λ b a top below above room even. both (RowAlike m n) (members b a) (members b a) _ _ refl (λ s l.
    several_alike m n (with_length s) a.above np memory other (omega (arith, above, room))))
  where
    members : Popped → Popped → Result (List ℕ) ExecError
    members b a = if int_lt (signed b.word) (signed a.word) then Ok [] else (demand (nat_le a.word 4079 && nat_le b.word 4079) InvalidIndex >>= λ u. Ok
        (interval a.word b.word))

set_alike : (o : Set) (m n : List ℕ) (sp np : ℕ) → IsMemory m → IsMemory n → Agree (taken (set_effect o) m sp) m n
    → RowsAlike m n (set_row o m sp np) (set_row o n sp np)
unfolding set_row in_set_row intersect_row union_row difference_row singleton_row adjust_row
set_alike set.Member m n sp np memory other agree =
    let k = 2 * (word_at m sp + 1 + 1) in
    let same = first_same sp k [] m n agree in
    both (RowAlike m n) (pop_set m sp) (pop_set n sp) _ _ (set_same m n sp k sp memory other same (omega arith) (omega arith)) (λ s h.
    let above = (set_popped m sp s h).above in
    both (RowAlike m n) (pop m s.above) (pop n s.above) _ _ (pop_same m n sp k s.above same (omega (arith, above)) (omega (arith, above))) (λ a l.
    pushed_alike m n a.above np _ memory other))
set_alike set.Intersection m n sp np memory other agree = two_sets_alike min (λ s t. s && t) m n sp np memory other (first_same sp _ [] m n agree)
set_alike set.Union m n sp np memory other agree = two_sets_alike max (λ s t. s || t) m n sp np memory other (first_same sp _ [] m n agree)
set_alike set.Difference m n sp np memory other agree = two_sets_alike (λ s t. s) (λ s t. s && not t) m n sp np memory other (first_same sp _ [] m n agree)
set_alike set.Singleton m n sp np memory other agree =
    let same = first_same sp 2 [] m n agree in
    both (RowAlike m n) (pop m sp) (pop n sp) _ _ (pop_same m n sp 2 sp same (omega arith) (omega arith)) (λ a h.
    let is = popped m sp a h in
    let above = is.above in
    let room = is.room in
    demanded (RowAlike m n) (nat_le a.word 4079) InvalidIndex _ _ (λ g.
    several_alike m n (with_length (interval a.word a.word)) a.above np memory other (omega (arith, above, room))))
set_alike set.Subrange m n sp np memory other agree = subrange_alike m n sp np memory other (first_same sp 4 [] m n agree)
set_alike (set.Adjust c) m n sp np memory other agree =
    let k = 2 * (word_at m sp + 1 + 0) in
    let same = first_same sp k [] m n agree in
    both (RowAlike m n) (pop_set m sp) (pop_set n sp) _ _ (set_same m n sp k sp memory other same (omega arith) (omega arith)) (λ s h.
    several_alike m n (set_of c (λ e. is_member s.members e)) s.above np memory other (set_popped m sp s h).room)

-- ---- all rows on values

compare_alike : (r : Relation) (k : Kind) (m n : List ℕ) (sp np : ℕ) → IsMemory m → IsMemory n → Agree (value_read (value.Compare r k) m sp) m n
    → RowsAlike m n (compare_row r k m sp np) (compare_row r k n sp np)
unfolding compare_row
compare_alike r kind.Real m n sp np memory other agree = tt
compare_alike r kind.String m n sp np memory other agree =
    let low = text_stretch m (word_at m (sp + 2)) in
    let high = text_stretch m (word_at m sp) in
    let rest = rest_agree (stretch sp 4) (low ∷ high ∷ []) m n agree in
    strings_alike r m n sp np memory other (first_same sp 4 (low ∷ high ∷ []) m n agree)
    (first_same (word_at m (sp + 2)) (1 + byte_at m (word_at m (sp + 2))) (high ∷ []) m n rest)
    (first_same (word_at m sp) (1 + byte_at m (word_at m sp)) [] m n (rest_agree low (high ∷ []) m n rest))
compare_alike r kind.Boolean m n sp np memory other agree = booleans_alike r m n sp np memory other (first_same sp 4 [] m n agree)
compare_alike r kind.Set m n sp np memory other agree = compare_sets_alike r m n sp np memory other (first_same sp _ [] m n agree)
compare_alike r (kind.Bytes c) m n sp np memory other agree =
    let low = stretch (word_at m (sp + 2)) c in
    let high = stretch (word_at m sp) c in
    let rest = rest_agree (stretch sp 4) (low ∷ high ∷ []) m n agree in
    ranges_alike c r m n sp np memory other (first_same sp 4 (low ∷ high ∷ []) m n agree) (first_same (word_at m (sp + 2)) c (high ∷ []) m n rest)
    (first_same (word_at m sp) c [] m n (rest_agree low (high ∷ []) m n rest))
compare_alike r (kind.Words c) m n sp np memory other agree =
    let low = stretch (word_at m (sp + 2)) (2 * c) in
    let high = stretch (word_at m sp) (2 * c) in
    let rest = rest_agree (stretch sp 4) (low ∷ high ∷ []) m n agree in
    word_ranges_alike c r m n sp np memory other (first_same sp 4 (low ∷ high ∷ []) m n agree) (first_same (word_at m (sp + 2)) (2 * c) (high ∷ []) m n rest)
    (first_same (word_at m sp) (2 * c) [] m n (rest_agree low (high ∷ []) m n rest))

pub value_alike : (o : Value) (m n : List ℕ) (sp np : ℕ) → IsMemory m → IsMemory n → Agree (value_read o m sp) m n
    → RowsAlike m n (value_row o m sp np) (value_row o n sp np)
unfolding value_row field_row
value_alike (value.Byte byte.Load) m n sp np memory other agree =
    let at = stretch (place_on_stack m sp) 1 in
    load_byte_alike m n sp np memory other (first_same sp 4 (at ∷ []) m n agree)
    (first_same (place_on_stack m sp) 1 [] m n (rest_agree (stretch sp 4) (at ∷ []) m n agree))
value_alike (value.Byte byte.Store) m n sp np memory other agree = store_byte_alike m n sp np memory other (first_same sp 6 [] m n agree)
value_alike (value.Set o) m n sp np memory other agree = set_alike o m n sp np memory other agree
value_alike (value.Text text.Index) m n sp np memory other agree =
    let at = stretch (word_at m (sp + 2)) 1 in
    index_string_alike m n sp np (first_same sp 4 (at ∷ []) m n agree)
    (first_same (word_at m (sp + 2)) 1 [] m n (rest_agree (stretch sp 4) (at ∷ []) m n agree))
value_alike (value.Text (text.Assign c)) m n sp np memory other agree =
    let more = source_read m (word_at m sp) in
    assign_alike c m n sp np memory other (first_same sp 4 more m n agree) (rest_agree (stretch sp 4) more m n agree)
value_alike (value.Field (field.Index p w)) m n sp np memory other agree = index_field_alike p w m n sp np memory other (first_same sp 4 [] m n agree)
value_alike (value.Field field.Load) m n sp np memory other agree =
    let at = stretch (word_at m (sp + 4)) 2 in
    load_field_alike m n sp np memory other (first_same sp 6 (at ∷ []) m n agree)
    (first_same (word_at m (sp + 4)) 2 [] m n (rest_agree (stretch sp 6) (at ∷ []) m n agree))
value_alike (value.Field field.Store) m n sp np memory other agree =
    let at = stretch (word_at m (sp + 6)) 2 in
    store_field_alike m n sp np memory other (first_same sp 8 (at ∷ []) m n agree)
    (first_same (word_at m (sp + 6)) 2 [] m n (rest_agree (stretch sp 8) (at ∷ []) m n agree))
value_alike (value.Compare r k) m n sp np memory other agree = compare_alike r k m n sp np memory other agree
