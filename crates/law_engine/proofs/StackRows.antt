-- Lemmas for the words that rows on the stack write.
use Rattle.std.proofs.Common.{◌≡◌, ◌≢◌, ◌<◌, ◌≤◌, ◌⊎◌, inl, inr, ℕ, ◌+◌, ◌-◌, ◌*◌, ◌/◌, ◌%◌, ◌&&◌, ◌||◌, ◌==◌, Bool, true, false, not, max, min}
use Rattle.std.proofs.Common.{cond, nat_lt, nat_le, List, [], ◌∷◌, ◌++◌, length, take, drop, get_or, Result, Ok, Err, refl, sym, ap, ◌∙◌, subst, arith}
use Rattle.std.specs.Prelude.{reverse, int_lt}
use Rattle.std.proofs.lemmas.Bool.{and_parts, cases_Bool}
use Rattle.std.proofs.lemmas.Bool.Decides.{nat_tests}
use Rattle.std.proofs.lemmas.List.{append_assoc, length-reverse, length-take-le, get_or-append_right, places}
use Rattle.pm_words.specs.declared.error.ExecError.{ExecError}
use Rattle.pm_words.specs.declared.error.ExecError.TheVariants.{InvalidIndex, InvalidMemory, StackOverflow, Unimplemented}
use Rattle.pm_words.specs.declared.stack.Popped.{Popped}
use Rattle.pm_words.specs.Signed.{signed}
use Rattle.pm_words.specs.Words.{IsMemory, byte_at, overwritten, with_words, word_at, words_at}
use Rattle.pm_words.specs.Stack.{◌>>=◌, IsStack, demand, is_even, lies_in_memory, load, pop, push, store, words_lie_in_memory}
use Rattle.pm_words.proofs.Laws.{length-words_at, word_at-with_word_other}
use Rattle.pm_words.proofs.RangeLaws.{word_at-copied_other}
use Rattle.pm_families.specs.declared.families.Arithmetic.{Arithmetic}
use Rattle.pm_families.specs.declared.families.Arithmetic.TheVariants as arithmetic
use Rattle.pm_families.specs.declared.families.Variable.{Variable}
use Rattle.pm_families.specs.declared.families.Variable.TheVariants as variable
use Rattle.pm_families.specs.declared.families.Pointer.{Pointer}
use Rattle.pm_families.specs.declared.families.Pointer.TheVariants as pointer
use Rattle.pm_families.specs.declared.families.Literal.{Literal}
use Rattle.pm_families.specs.declared.families.Literal.TheVariants as literal
use Rattle.pm_families.specs.declared.families.Relation.{Relation}
use Rattle.pm_families.specs.declared.families.Kind.{Kind}
use Rattle.pm_families.specs.declared.families.Kind.TheVariants as kind
use Rattle.pm_families.specs.declared.families.Value.{Value}
use Rattle.pm_families.specs.declared.families.Value.TheVariants as value
use Rattle.pm_families.specs.declared.families.Byte.TheVariants as byte
use Rattle.pm_families.specs.declared.families.Set.{Set}
use Rattle.pm_families.specs.declared.families.Set.TheVariants as set
use Rattle.pm_families.specs.declared.families.Text.TheVariants as text
use Rattle.pm_families.specs.declared.families.Field.TheVariants as field
use Rattle.pm_calls.specs.declared.registers.Registers.{Registers}
use Rattle.pm_calls.proofs.ReturnLaws.{bound, ok_same, passed}
use Rattle.pm_values.specs.Comparisons.{are_words, compare_booleans_row, compare_bytes_row, compare_row, compare_sets_row, compare_strings_row}
use Rattle.pm_values.specs.Comparisons.{compare_words_row, is_equality, is_of_sets}
use Rattle.pm_values.specs.Fields.{index_field_row, is_field, load_byte_row, load_field_row}
use Rattle.pm_values.specs.Sets.{StackSet, adjust_row, difference_row, in_set_row, intersect_row, interval, is_member, pop_set, set_of, singleton_row}
use Rattle.pm_values.specs.Sets.{subrange_row, two_sets_row, union_row, with_length}
use Rattle.pm_values.specs.Several.{push_words}
use Rattle.pm_values.specs.Strings.{index_string_row, string_at}
use Rattle.pm_values.proofs.SetLaws.{length-set_from}
use Rattle.pm_rows.specs.Arithmetic.{arithmetic_row, binary_row, check_row, constant_row, relation_row, unary_row}
use Rattle.pm_rows.specs.Integers.{binary}
use Rattle.pm_rows.specs.Literals.{literal_address_row, literal_row, words_row}
use Rattle.pm_rows.specs.Pointers.{increment_row, index_row, indirect_row, load_words_row, pointer_row, store_indirect_row, move_row, store_words_row}
use Rattle.pm_rows.specs.Values.{field_row, set_row, value_row}
use Rattle.pm_rows.specs.Variables.{load_row, store_row, variable_address_row, variable_at, variable_row}
use Rattle.law_engine.specs.StackLaws.{Pushed, StackRowsWriteWhatTheyPush, WritesWhatItPushes, a_set, pushed_by_literal, pushed_by_pointer, pushed_by_set}
use Rattle.law_engine.specs.StackLaws.{pushed_by_value, pushed_by_variable, so_many, stores}
use Rattle.law_engine.proofs.StoredWords.{popped}

-- ---- steps of a row

step : {A : Type 0} (m : List ℕ) (p : Pushed) (r : Result A ExecError) (f : A → Result (List ℕ × ℕ) ExecError)
    → ((x : A) → r ≡ Ok x → WritesWhatItPushes m p (f x)) → WritesWhatItPushes m p (r >>= f)
step m p (Ok x) f h = h x refl
step m p (Err e) f h = tt

-- For a row that stores, nothing is stated.
any : (m : List ℕ) (r : Result (List ℕ × ℕ) ExecError) → WritesWhatItPushes m stores r
any m (Ok t) = tt
any m (Err e) = tt

outside : (x t : ℕ) → (x < t) ⊎ (t + 2 * 1 ≤ x) → x ≢ t
outside x t (inl h) = λ e. omega (arith, h, e)
outside x t (inr h) = λ e. omega (arith, h, e)

stored : (m : List ℕ) (a w : ℕ) → WritesWhatItPushes m (so_many 1) (store m a w >>= λ n. Ok (n, a))
stored m a w = elim (cases_Bool (is_even a)) [
  | inl e ↦ rw e (λ x even away. word_at-with_word_other m a x w (evenly a e) even (outside x a away))
  | inr e ↦ rw e tt
]
  where
    evenly : (a : ℕ) → is_even a ≡ true → a % 2 ≡ 0
    evenly a e = grind (arith, nat_tests)

-- If one word is pushed, then only this word is written.
one : (m : List ℕ) (sp np w : ℕ) → WritesWhatItPushes m (so_many 1) (push m sp np w)
one m sp np w = elim (cases_Bool (nat_lt sp (np + 2))) [
  | inl e ↦ rw e tt
  | inr e ↦ rw e (stored m (sp - 2) w)
]

-- If words are written that do not include the word at `x`, then the word at `x` is unchanged.
beside : (ws vs : List ℕ) (a x : ℕ) → a % 2 ≡ 0 → a / 2 + length vs ≤ length ws → x % 2 ≡ 0 → (x < a) ⊎ (a + 2 * length vs ≤ x)
    → word_at (with_words ws a vs) x ≡ word_at ws x
unfolding word_at with_words
beside ws vs a x even room here (inl low) =
    let under : x / 2 < a / 2 = omega (arith, low, even, here) in
    kept (a / 2) (x / 2) ws vs room (inl under)
  where
    kept : (i k : ℕ) (ws vs : List ℕ) → i + length vs ≤ length ws → (k < i) ⊎ (i + length vs ≤ k) → get_or (overwritten ws i vs) k 0 ≡ get_or ws k 0
    kept i k ws vs room (inl h) = grind (arith, places)
    kept i k ws vs room (inr h) = grind (arith, places)
beside ws vs a x even room here (inr high) =
    let over : a / 2 + length vs ≤ x / 2 = omega (arith, high, even, here) in
    kept (a / 2) (x / 2) ws vs room (inr over)
  where
    kept : (i k : ℕ) (ws vs : List ℕ) → i + length vs ≤ length ws → (k < i) ⊎ (i + length vs ≤ k) → get_or (overwritten ws i vs) k 0 ≡ get_or ws k 0
    kept i k ws vs room (inl h) = grind (arith, places)
    kept i k ws vs room (inr h) = grind (arith, places)

-- If words are written from the address `a` on, then the word at `a` is the first of them.
first : (ws vs : List ℕ) (a w : ℕ) → a / 2 ≤ length ws → word_at (with_words ws a (w ∷ vs)) a ≡ w
unfolding word_at with_words
first ws vs a w room =
    let none : a / 2 - a / 2 ≡ 0 = omega arith in
    rw append_assoc (get_or-append_right (take (a / 2) ws) ((w ∷ vs) ++ drop (a / 2 + length (w ∷ vs)) ws) (a / 2) (a / 2) 0 (length-take-le (a / 2) ws room)
    (omega arith)
    ∙ ap (λ (k : ℕ). get_or ((w ∷ vs) ++ drop (a / 2 + length (w ∷ vs)) ws) k 0) none)

-- Several words are pushed at an even SP that is on the stack.
record IsTop (sp : ℕ) : Type 0 where
  pub even : sp % 2 ≡ 0
  pub below : sp ≤ 65504

written : (m ws : List ℕ) (sp np : ℕ) → IsMemory m → IsTop sp → 2 * length ws ≤ sp → (x : ℕ) → x % 2 ≡ 0
    → (x < sp - 2 * length ws) ⊎ (sp - 2 * length ws + 2 * length ws ≤ x) → word_at (with_words m (sp - 2 * length ws) ws) x ≡ word_at m x
written m ws sp np memory top room x even away =
    let here = top.even in
    let low = top.below in
    let size = memory.size in
    beside m ws (sp - 2 * length ws) x (omega (arith, here, room)) (omega (arith, low, size, room)) even away

fits : (np n sp : ℕ) → nat_le (np + 2 * n) sp ≡ true → 2 * n ≤ sp
fits np n sp h = let l : np + 2 * n ≤ sp = grind (arith, nat_tests) in omega (arith, l)

held : (b : Bool) (e : ExecError) (x : Unit {0}) → demand b e ≡ Ok x → b ≡ true
held true e x h = refl
held false e x h = cc

several : (m ws : List ℕ) (sp np k : ℕ) → IsMemory m → IsTop sp → length ws ≡ k → WritesWhatItPushes m (so_many k) (push_words m sp np ws)
several m ws sp np k memory top count = step m (so_many k) (demand (nat_le (np + 2 * length ws) sp) StackOverflow) _ (λ u h x even away.
    written m ws sp np memory top (fits np (length ws) sp (held (nat_le (np + 2 * length ws) sp) StackOverflow u h)) x even
    (subst (λ (i : ℕ). (x < sp - 2 * length ws) ⊎ (sp - 2 * length ws + 2 * i ≤ x)) (sym count) away))

a_set_is_pushed : (m ws : List ℕ) (sp np : ℕ) → IsMemory m → IsTop sp → WritesWhatItPushes m a_set (push_words m sp np (with_length ws))
a_set_is_pushed m ws sp np memory top = step m a_set (demand (nat_le (np + 2 * length (with_length ws)) sp) StackOverflow) _ (λ u h x even away.
    let room = fits np (length (with_length ws)) sp (held (nat_le (np + 2 * length (with_length ws)) sp) StackOverflow u h) in
    let low = top.below in
    let size = memory.size in
    let count : word_at (with_words m (sp - 2 * length (with_length ws)) (with_length ws)) (sp - 2 * length (with_length ws)) + 1 ≡ length (with_length ws) =
    ap (λ (i : ℕ). i + 1) (first m ws (sp - 2 * length (with_length ws)) (length ws) (omega (arith, low, size))) ∙ longer ws in
    written m (with_length ws) sp np memory top room x even
    (subst (λ (i : ℕ). (x < sp - 2 * length (with_length ws)) ⊎ (sp - 2 * length (with_length ws) + 2 * i ≤ x)) count away))
  where
    longer : (ws : List ℕ) → length ws + 1 ≡ length (length ws ∷ ws)
    longer ws = omega arith

-- If a word is popped, or a set is popped, then the SP after it is even and at most 65,504.
above_word : (m : List ℕ) (sp : ℕ) (p : Popped) → pop m sp ≡ Ok p → IsTop p.above
above_word m sp p h =
    let is = popped m sp p h in
    let even = is.even in
    let room = is.room in
    let above = is.above in
    record { even = omega (arith, even, above); below = omega (arith, room, above) }

above_set : (m : List ℕ) (sp : ℕ) (s : StackSet) → pop_set m sp ≡ Ok s → IsTop s.above
unfolding pop_set
above_set m sp s h =
    let n = bound (pop m sp) _ s h in
    let few = passed (nat_le n.0.word 255) InvalidIndex _ s n.2 in
    let room = passed (nat_le (n.0.above + 2 * n.0.word) 65504) InvalidMemory _ s few.1 in
    let same = ok_same _ s room.1 in
    let top = above_word m sp n.0 n.1 in
    let even = top.even in
    let is : s.above ≡ n.0.above + 2 * n.0.word = sym (ap (λ (x : StackSet). x.above) same) in
    let low : n.0.above + 2 * n.0.word ≤ 65504 = grind (arith, nat_tests, room.0) in
    record { even = omega (arith, even, is); below = omega (arith, low, is) }

-- ---- the families

arithmetic_pushes : (o : Arithmetic) (m : List ℕ) (sp np : ℕ) → WritesWhatItPushes m (so_many 1) (arithmetic_row o m sp np)
unfolding arithmetic_row constant_row unary_row binary_row relation_row check_row
arithmetic_pushes (arithmetic.Constant w) m sp np = one m sp np w
arithmetic_pushes arithmetic.Nil m sp np = one m sp np 0
arithmetic_pushes (arithmetic.OnOne o) m sp np = step m (so_many 1) (pop m sp) _ (λ a h. one m a.above np _)
arithmetic_pushes (arithmetic.OnTwo o) m sp np = step m (so_many 1) (pop m sp) _ (λ b h. step m (so_many 1) (pop m b.above) _
    (λ a k. step m (so_many 1) (binary o a.word b.word) _ (λ c l. one m a.above np c)))
arithmetic_pushes (arithmetic.Compare o) m sp np = step m (so_many 1) (pop m sp) _ (λ b h. step m (so_many 1) (pop m b.above) _ (λ a k. one m a.above np _))
arithmetic_pushes arithmetic.Check m sp np = step m (so_many 1) (pop m sp) _ (λ c h. step m (so_many 1) (pop m c.above) _ (λ b k.
    step m (so_many 1) (pop m b.above) _ (λ a l. step m (so_many 1) _ _ (λ u q. one m a.above np a.word))))

variable_pushes : (o : Variable) (m : List ℕ) (r : Registers) → WritesWhatItPushes m (pushed_by_variable o) (variable_row o m r)
unfolding variable_row variable_address_row load_row
variable_pushes (variable.Address scope b) m r = step m (so_many 1) (variable_at scope b m r) _ (λ x h. one m r.sp r.np x)
variable_pushes (variable.Load scope b) m r = step m (so_many 1) (variable_at scope b m r) _ (λ x h. step m (so_many 1) (load m x) _ (λ w k. one m r.sp r.np w))
variable_pushes (variable.Store scope b) m r = any m (store_row scope b m r)

load_words_pushes : (n : ℕ) (m : List ℕ) (sp np : ℕ) → IsMemory m → WritesWhatItPushes m (so_many n) (load_words_row n m sp np)
unfolding load_words_row
load_words_pushes n m sp np memory = step m (so_many n) (pop m sp) _ (λ a h.
    step m (so_many n) (demand (words_lie_in_memory a.word n) InvalidMemory) _ (λ u k.
    step m (so_many n) (demand (nat_le (np + 2 * n) a.above) StackOverflow) _ (λ v l x even away.
    let top = above_word m sp a h in
    let low = top.below in
    let here = top.even in
    let source : a.word + 2 * n ≤ 65536 = inside a.word n (held (words_lie_in_memory a.word n) InvalidMemory u k) in
    let room = fits np n a.above (held (nat_le (np + 2 * n) a.above) StackOverflow v l) in
    word_at-copied_other m a.word (a.above - 2 * n) (2 * n) x memory source (omega (arith, low, room)) even
    (apart x (a.above - 2 * n) n even (omega (arith, here, room)) away))))
  where
    inside : (a n : ℕ) → words_lie_in_memory a n ≡ true → a + 2 * n ≤ 65536
    inside a n h = let parts = and_parts (is_even a) (nat_le (a + 2 * n) 65536) h in grind (arith, nat_tests, parts.1)

    apart : (x t n : ℕ) → x % 2 ≡ 0 → t % 2 ≡ 0 → (x < t) ⊎ (t + 2 * n ≤ x) → (x + 1 < t) ⊎ (t + 2 * n ≤ x)
    apart x t n ex et (inl h) = inl (omega (arith, ex, et, h))
    apart x t n ex et (inr h) = inr h

pointer_pushes : (o : Pointer) (m : List ℕ) (sp np : ℕ) → IsMemory m → WritesWhatItPushes m (pushed_by_pointer o) (pointer_row o m sp np)
unfolding pointer_row increment_row indirect_row index_row
pointer_pushes (pointer.Increment b) m sp np memory = step m (so_many 1) (pop m sp) _ (λ a h. one m a.above np _)
pointer_pushes (pointer.Load b) m sp np memory = step m (so_many 1) (pop m sp) _ (λ a h. step m (so_many 1) (load m ((a.word + 2 * b) % 65536)) _
    (λ w k. one m a.above np w))
pointer_pushes (pointer.Index b) m sp np memory = step m (so_many 1) (pop m sp) _ (λ i h. step m (so_many 1) (pop m i.above) _ (λ a k. one m a.above np _))
pointer_pushes pointer.Store m sp np memory = any m (store_indirect_row m sp np)
pointer_pushes (pointer.LoadWords n) m sp np memory = load_words_pushes n m sp np memory
pointer_pushes (pointer.StoreWords n) m sp np memory = any m (store_words_row n m sp np)
pointer_pushes (pointer.Move b) m sp np memory = any m (move_row b m sp np)

words_push : (start n : ℕ) (m : List ℕ) (sp np : ℕ) → IsMemory m → IsTop sp → WritesWhatItPushes m (so_many n) (words_row start n m sp np)
unfolding words_row
words_push start n m sp np memory top = step m (so_many n) (demand (words_lie_in_memory start n && is_even sp) InvalidMemory) _ (λ u h.
    step m (so_many n) (demand (nat_le (np + 2 * n) sp) StackOverflow) _ (λ v k x even away.
    let size = memory.size in
    let here = top.even in
    let low = top.below in
    let source = inside start n (is_even sp) (held (words_lie_in_memory start n && is_even sp) InvalidMemory u h) in
    let count : length (reverse (words_at m start n)) ≡ n = length-reverse (words_at m start n) ∙ length-words_at m start n (omega (arith, source, size)) in
    let room = fits np n sp (held (nat_le (np + 2 * n) sp) StackOverflow v k) in
    beside m (reverse (words_at m start n)) (sp - 2 * n) x (omega (arith, here, room)) (omega (arith, count, room, low, size)) even
    (subst (λ (i : ℕ). (x < sp - 2 * n) ⊎ (sp - 2 * n + 2 * i ≤ x)) (sym count) away)))
  where
    inside : (a n : ℕ) (b : Bool) → (words_lie_in_memory a n && b) ≡ true → a + 2 * n ≤ 65536
    inside a n b h =
        let both = and_parts (words_lie_in_memory a n) b h in
        let parts = and_parts (is_even a) (nat_le (a + 2 * n) 65536) both.0 in grind (arith, nat_tests, parts.1)

literal_pushes : (o : Literal) (m : List ℕ) (sp np : ℕ) → IsMemory m → IsStack sp np → WritesWhatItPushes m (pushed_by_literal o) (literal_row o m sp np)
unfolding literal_row literal_address_row
literal_pushes (literal.String start) m sp np memory stack = one m sp np _
literal_pushes (literal.Characters start) m sp np memory stack = one m sp np _
literal_pushes (literal.Words start count) m sp np memory stack = words_push start (count / 2 % 256) m sp np memory
    (record { even = stack.even_sp; below = stack.below })

two_sets_push : (count : ℕ → ℕ → ℕ) (test : Bool → Bool → Bool) (m : List ℕ) (sp np : ℕ) → IsMemory m
    → WritesWhatItPushes m a_set (two_sets_row count test m sp np)
two_sets_push count test m sp np memory = step m a_set (pop_set m sp) _ (λ t h. step m a_set (pop_set m t.above) _ (λ s k.
    a_set_is_pushed m _ s.above np memory (above_set m t.above s k)))

set_pushes : (o : Set) (m : List ℕ) (sp np : ℕ) → IsMemory m → WritesWhatItPushes m (pushed_by_set o) (set_row o m sp np)
unfolding set_row in_set_row intersect_row union_row difference_row singleton_row subrange_row adjust_row
set_pushes set.Member m sp np memory = step m (so_many 1) (pop_set m sp) _ (λ s h. step m (so_many 1) (pop m s.above) _ (λ a k. one m a.above np _))
set_pushes set.Intersection m sp np memory = two_sets_push min (λ s t. s && t) m sp np memory
set_pushes set.Union m sp np memory = two_sets_push max (λ s t. s || t) m sp np memory
set_pushes set.Difference m sp np memory = two_sets_push (λ s t. s) (λ s t. s && not t) m sp np memory
set_pushes set.Singleton m sp np memory = step m a_set (pop m sp) _ (λ a h. step m a_set (demand (nat_le a.word 4079) InvalidIndex) _ (λ u k.
    a_set_is_pushed m (interval a.word a.word) a.above np memory (above_word m sp a h)))
set_pushes set.Subrange m sp np memory = step m a_set (pop m sp) _ (λ b h. step m a_set (pop m b.above) _ (λ a k.
    step m a_set (if_sets a b) _ (λ s l. a_set_is_pushed m s a.above np memory (above_word m b.above a k))))
  where
    if_sets : Popped → Popped → Result (List ℕ) ExecError
    if_sets a b = cond (int_lt (signed b.word) (signed a.word)) (Ok []) (demand (nat_le a.word 4079 && nat_le b.word 4079) InvalidIndex >>= λ u. Ok
        (interval a.word b.word))
set_pushes (set.Adjust n) m sp np memory = step m (so_many n) (pop_set m sp) _ (λ s h.
    several m (set_of n (λ e. is_member s.members e)) s.above np n memory (above_set m sp s h) (length-set_from n 0 (λ e. is_member s.members e)))

compare_pushes : (r : Relation) (k : Kind) (m : List ℕ) (sp np : ℕ) → WritesWhatItPushes m (so_many 1) (compare_row r k m sp np)
unfolding compare_row compare_strings_row compare_booleans_row compare_sets_row compare_bytes_row compare_words_row
compare_pushes r kind.Real m sp np = tt
compare_pushes r kind.String m sp np = step m (so_many 1) (pop m sp) _ (λ b h. step m (so_many 1) (pop m b.above) _ (λ a k.
    step m (so_many 1) (string_at m a.word) _ (λ s l. step m (so_many 1) (string_at m b.word) _ (λ t q. one m a.above np _))))
compare_pushes r kind.Boolean m sp np = step m (so_many 1) (pop m sp) _ (λ b h. step m (so_many 1) (pop m b.above) _ (λ a k. one m a.above np _))
compare_pushes r kind.Set m sp np = step m (so_many 1) (demand (is_of_sets r) Unimplemented) _ (λ u g. step m (so_many 1) (pop_set m sp) _ (λ t h.
    step m (so_many 1) (pop_set m t.above) _ (λ s k. one m s.above np _)))
compare_pushes r (kind.Bytes n) m sp np = step m (so_many 1) (pop m sp) _ (λ b h. step m (so_many 1) (pop m b.above) _ (λ a k.
    step m (so_many 1) (demand (lies_in_memory a.word n && lies_in_memory b.word n) InvalidMemory) _ (λ u g. one m a.above np _)))
compare_pushes r (kind.Words n) m sp np = step m (so_many 1) (demand (is_equality r) Unimplemented) _ (λ u g. step m (so_many 1) (pop m sp) _ (λ b h.
    step m (so_many 1) (pop m b.above) _ (λ a k. step m (so_many 1) (demand (are_words a.word n && are_words b.word n) InvalidMemory) _
    (λ v q. one m a.above np _))))

value_pushes : (o : Value) (m : List ℕ) (sp np : ℕ) → IsMemory m → WritesWhatItPushes m (pushed_by_value o) (value_row o m sp np)
unfolding value_row field_row load_byte_row load_field_row index_field_row index_string_row
value_pushes (value.Byte byte.Load) m sp np memory = step m (so_many 1) (pop m sp) _ (λ i h. step m (so_many 1) (pop m i.above) _ (λ a k. one m a.above np _))
value_pushes (value.Byte byte.Store) m sp np memory = any m _
value_pushes (value.Set o) m sp np memory = set_pushes o m sp np memory
value_pushes (value.Text text.Index) m sp np memory = step m (so_many 0) (pop m sp) _ (λ i h. step m (so_many 0) (pop m i.above) _ (λ a k.
    step m (so_many 0) (demand (nat_le i.word (byte_at m a.word)) InvalidIndex) _ (λ u l x even away. refl)))
value_pushes (value.Text (text.Assign n)) m sp np memory = any m _
value_pushes (value.Field (field.Index per_word width)) m sp np memory = step m (so_many 3) (pop m sp) _ (λ i h. step m (so_many 3) (pop m i.above) _ (λ a k.
    step m (so_many 3) (demand (not (per_word == 0) && nat_lt i.word 32768) InvalidIndex) _ (λ u g.
    step m (so_many 3) (demand (is_field ((i.word % per_word) * width) width) InvalidIndex) _ (λ v l.
    several m ((i.word % per_word) * width ∷ width ∷ (a.word + 2 * (i.word / per_word)) % 65536 ∷ []) a.above np 3 memory (above_word m i.above a k) refl))))
value_pushes (value.Field field.Load) m sp np memory = step m (so_many 1) (pop m sp) _ (λ r h. step m (so_many 1) (pop m r.above) _ (λ k g.
    step m (so_many 1) (pop m k.above) _ (λ x l. step m (so_many 1) (demand (is_field r.word k.word) InvalidIndex) _ (λ u q.
    step m (so_many 1) (load m x.word) _ (λ w t. one m x.above np _)))))
value_pushes (value.Field field.Store) m sp np memory = any m _
value_pushes (value.Compare r k) m sp np memory = compare_pushes r k m sp np

pub stack_rows_write_what_they_push : StackRowsWriteWhatTheyPush
stack_rows_write_what_they_push = record {
  arithmetic = λ o m sp np memory stack. arithmetic_pushes o m sp np;
  variables = λ o m r memory stack. variable_pushes o m r;
  pointers = λ o m sp np memory stack. pointer_pushes o m sp np memory;
  literals = literal_pushes;
  values = λ o m sp np memory stack. value_pushes o m sp np memory;
}
