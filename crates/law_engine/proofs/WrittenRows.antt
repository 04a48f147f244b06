-- Lemmas: rows on the stack write only words that share a byte with the ranges that `pm_machine` defines for them.
use Rattle.std.proofs.Common.{◌≡◌, ◌<◌, ◌≤◌, ◌⊎◌, inl, inr, ⊎_elim, ℕ, ◌+◌, ◌-◌, ◌*◌, ◌/◌, ◌%◌, Bool, true, false, nat_le, nat_lt}
use Rattle.std.proofs.Common.{List, [], ◌∷◌, length, None, Result, Ok, Err, refl, sym, ap, ◌∙◌, subst, arith}
use Rattle.std.proofs.lemmas.Bool.{and_parts, cases_Bool, cases_lt}
use Rattle.std.proofs.lemmas.Bool.Decides.{nat_tests}
use Rattle.pm_words.specs.declared.error.ExecError.{ExecError}
use Rattle.pm_words.specs.declared.error.ExecError.TheVariants.{InvalidMemory}
use Rattle.pm_words.specs.Words.{IsMemory, byte_at, copied, word_at}
use Rattle.pm_words.specs.Stack.{IsStack, demand, is_even, lies_in_memory, pop, words_lie_in_memory}
use Rattle.pm_words.proofs.RangeLaws.{byte_at-copied_other, length-bytes_at}
use Rattle.pm_families.specs.declared.families.Arithmetic.{Arithmetic}
use Rattle.pm_families.specs.declared.families.Arithmetic.TheVariants as arithmetic
use Rattle.pm_families.specs.declared.families.Variable.{Variable}
use Rattle.pm_families.specs.declared.families.Variable.TheVariants as variable
use Rattle.pm_families.specs.declared.families.Scope.{Scope}
use Rattle.pm_families.specs.declared.families.Pointer.{Pointer}
use Rattle.pm_families.specs.declared.families.Pointer.TheVariants as pointer
use Rattle.pm_families.specs.declared.families.Literal.{Literal}
use Rattle.pm_families.specs.declared.families.Literal.TheVariants as literal
use Rattle.pm_families.specs.declared.families.Relation.{Relation}
use Rattle.pm_families.specs.declared.families.Kind.{Kind}
use Rattle.pm_families.specs.declared.families.Kind.TheVariants as kind
use Rattle.pm_families.specs.declared.families.Value.{Value}
use Rattle.pm_families.specs.declared.families.Value.TheVariants as value
use Rattle.pm_families.specs.declared.families.Byte.TheVariants as byte
use Rattle.pm_families.specs.declared.families.Set.{Set}
use Rattle.pm_families.specs.declared.families.Set.TheVariants as set
use Rattle.pm_families.specs.declared.families.Text.TheVariants as text
use Rattle.pm_families.specs.declared.families.Field.TheVariants as field
use Rattle.pm_calls.specs.declared.registers.Registers.{Registers}
use Rattle.pm_calls.proofs.ReturnLaws.{ok_same, passed}
use Rattle.pm_values.specs.Strings.{assign_row, source_at}
use Rattle.pm_rows.specs.Arithmetic.{arithmetic_row}
use Rattle.pm_rows.specs.Literals.{literal_row}
use Rattle.pm_rows.specs.Pointers.{move_row, pointer_row, store_words_row}
use Rattle.pm_rows.specs.Values.{field_row, set_row, value_row}
use Rattle.pm_rows.specs.Variables.{store_row, variable_at, variable_row}
use Rattle.pm_effects.specs.declared.effect.Share.TheVariants as share
use Rattle.pm_effects.specs.Effects.{arithmetic_effect, compare_effect, literal_effect, set_effect, variable_effect}
use Rattle.pm_machine.specs.Written.{Stretch, compare_written, pointer_written, pushes, pushes_words, set_words, stretch, text_length, value_written}
use Rattle.pm_machine.specs.Written.{stretch_to, word_stretch}
use Rattle.law_engine.specs.Effects.{EndsAt, MovesIf, words_taken}
use Rattle.law_engine.specs.StackLaws.{WritesWhatItPushes, a_set, so_many}
use Rattle.law_engine.specs.StoreLaws.{WritesAlone}
use Rattle.law_engine.proofs.EffectLaws.{effects_are_the_machines}
use Rattle.law_engine.proofs.StackRows.{stack_rows_write_what_they_push}
use Rattle.law_engine.proofs.StoreRows.{rows_write_what_they_store, word_below}
use Rattle.law_engine.proofs.StoredWords.{popped}
use Rattle.law_engine.proofs.Stretches.{IfMade, Kept, IsAway, away, bytes_kept, kept_to, made, words_kept}
use Rattle.law_engine.proofs.WrittenSets.{HasCount, difference_count, intersection_count, singleton_count, subrange_count, union_count}

-- If the row succeeds, then it leaves each word unchanged that no range of `ss` touches.
abbrev pub RowKeeps : List Stretch → List ℕ → Result (List ℕ × ℕ) ExecError → Type 0
RowKeeps ss m row = IfMade (λ (t : List ℕ × ℕ). Kept ss m t.0) row

-- ---- rows that push

-- If `k` words from `t` on end at `g`, and the range of these words does not touch the word at `x`, then `x` is before
-- `t` or not before `g`.
outside : (x t g k : ℕ) → t + 2 * k ≡ g → IsAway x (g - 2 * k) (2 * k) → (x < t) ⊎ (t + 2 * k ≤ x)
outside x t g k ends (inl none) = ⊎_elim (λ l. inl l) (λ l. inr (omega (arith, none, l))) (cases_lt x t)
outside x t g k ends (inr (inl low)) = inl (omega (arith, low, ends))
outside x t g k ends (inr (inr high)) = inr (omega (arith, high, ends))

-- If a row pushes `k` words that end at `g`, then it leaves each word unchanged that these words do not touch.
pushed : (m : List ℕ) (g k : ℕ) (row : Result (List ℕ × ℕ) ExecError) → WritesWhatItPushes m (so_many k) row → EndsAt g (share.Words k) row
    → RowKeeps (stretch_to g (2 * k) ∷ []) m row
pushed m g k (Ok t) writes ends = kept_to g (2 * k) m t.0 (omega (arith, ends)) (λ x even none.
    writes x even (outside x t.1 g k ends (away x (g - 2 * k) (2 * k) none)))
pushed m g k (Err e) writes ends = tt

-- If a row pushes a set of `k` words that ends at `g`, its count included, then it leaves each word unchanged that the
-- set does not touch.
pushed_set : (m : List ℕ) (g k : ℕ) (row : Result (List ℕ × ℕ) ExecError) → WritesWhatItPushes m a_set row → EndsAt g share.Set row
    → IfMade (HasCount k) row → RowKeeps (stretch_to g (2 * k) ∷ []) m row
pushed_set m g k (Ok t) writes ends count =
    let stands : t.1 + 2 * k ≡ g = subst (λ n. t.1 + 2 * n ≡ g) count ends in
    kept_to g (2 * k) m t.0 (omega (arith, stands)) (λ x even none.
    writes x even (subst (λ n. (x < t.1) ⊎ (t.1 + 2 * n ≤ x)) (sym count) (outside x t.1 g k stands (away x (g - 2 * k) (2 * k) none))))
pushed_set m g k (Err e) writes ends count = tt

-- If a row stores only the `k` bytes from `a` on, then it leaves each word unchanged that these bytes do not touch.
stored : (m : List ℕ) (a k : ℕ) (row : Result (List ℕ × ℕ) ExecError) → 0 < k → WritesAlone m a k row → RowKeeps (stretch a k ∷ []) m row
stored m a k (Ok t) some writes = words_kept m t.0 a k some writes
stored m a k (Err e) some writes = tt

-- ---- the families

pub arithmetic_keeps : (o : Arithmetic) (m : List ℕ) (sp np : ℕ) → IsMemory m → IsStack sp np
    → RowKeeps (pushes_words (arithmetic_effect o) m sp) m (arithmetic_row o m sp np)
arithmetic_keeps o m sp np memory stack = of o (stack_rows_write_what_they_push.arithmetic o m sp np memory stack)
    (effects_are_the_machines.arithmetic o m sp np memory stack)
  where
    of : (o : Arithmetic) → WritesWhatItPushes m (so_many 1) (arithmetic_row o m sp np)
        → EndsAt (sp + 2 * words_taken (arithmetic_effect o) m sp) (arithmetic_effect o).leaves (arithmetic_row o m sp np)
        → RowKeeps (pushes_words (arithmetic_effect o) m sp) m (arithmetic_row o m sp np)
    of (arithmetic.Constant w) = pushed m (sp + 2 * 0) 1 (arithmetic_row (arithmetic.Constant w) m sp np)
    of arithmetic.Nil = pushed m (sp + 2 * 0) 1 (arithmetic_row arithmetic.Nil m sp np)
    of (arithmetic.OnOne o) = pushed m (sp + 2 * 1) 1 (arithmetic_row (arithmetic.OnOne o) m sp np)
    of (arithmetic.OnTwo o) = pushed m (sp + 2 * 2) 1 (arithmetic_row (arithmetic.OnTwo o) m sp np)
    of (arithmetic.Compare o) = pushed m (sp + 2 * 2) 1 (arithmetic_row (arithmetic.Compare o) m sp np)
    of arithmetic.Check = pushed m (sp + 2 * 3) 1 (arithmetic_row arithmetic.Check m sp np)

-- SRO, STL and STR write only the word of the variable, or no word if the variable has no address.
store_keeps : (scope : Scope) (b : ℕ) (m : List ℕ) (r : Registers) (at : Result ℕ ExecError) → IsMemory m → variable_at scope b m r ≡ at
    → RowKeeps (word_stretch at) m (store_row scope b m r)
unfolding store_row
store_keeps scope b m r (Ok a) memory found = stored m a 2 (store_row scope b m r) (omega arith)
    (rows_write_what_they_store.variable scope b a m r memory found)
store_keeps scope b m r (Err e) memory found = made (λ (t : List ℕ × ℕ). Kept [] m t.0) (pop m r.sp) _ (λ v h. rw found tt)

-- Returns the ranges of bytes that the row of a variable writes.
abbrev pub variable_stretches : Variable → List ℕ → Registers → List Stretch
variable_stretches (variable.Store scope b) m r = word_stretch (variable_at scope b m r)
variable_stretches o m r = pushes_words (variable_effect o) m r.sp

pub variable_keeps : (o : Variable) (m : List ℕ) (r : Registers) → IsMemory m → IsStack r.sp r.np
    → RowKeeps (variable_stretches o m r) m (variable_row o m r)
unfolding variable_row
variable_keeps (variable.Address scope b) m r memory stack = pushed m (r.sp + 2 * 0) 1 (variable_row (variable.Address scope b) m r)
    (stack_rows_write_what_they_push.variables (variable.Address scope b) m r memory stack)
    (effects_are_the_machines.variables (variable.Address scope b) m r memory stack)
variable_keeps (variable.Load scope b) m r memory stack = pushed m (r.sp + 2 * 0) 1 (variable_row (variable.Load scope b) m r)
    (stack_rows_write_what_they_push.variables (variable.Load scope b) m r memory stack)
    (effects_are_the_machines.variables (variable.Load scope b) m r memory stack)
variable_keeps (variable.Store scope b) m r memory stack = store_keeps scope b m r (variable_at scope b m r) memory refl

inside : (a n : ℕ) → words_lie_in_memory a n ≡ true → a + 2 * n ≤ 65536
inside a n h = let parts = and_parts (is_even a) (nat_le (a + 2 * n) 65536) h in grind (arith, nat_tests, parts.1)

held : (b : Bool) (e : ExecError) (x : Unit {0}) → demand b e ≡ Ok x → b ≡ true
held true e x h = refl
held false e x h = cc

copy_kept : (m : List ℕ) (from to k : ℕ) → IsMemory m → from + k ≤ 65536 → to + k ≤ 65536 → Kept (stretch to k ∷ []) m (copied m from to k)
copy_kept m from to k memory source room = bytes_kept m (copied m from to k) to k (λ y far. byte_at-copied_other m from to k y memory source room far)

words_keep : (n : ℕ) (m : List ℕ) (sp np : ℕ) → IsMemory m → RowKeeps (stretch (word_at m (sp + 2 * n)) (2 * n) ∷ []) m (store_words_row n m sp np)
unfolding store_words_row
words_keep n m sp np memory =
    let ss = stretch (word_at m (sp + 2 * n)) (2 * n) ∷ [] in
    let P = λ (t : List ℕ × ℕ). Kept ss m t.0 in
    made P (pop m (sp + 2 * n)) _ (λ a h. made P (demand (words_lie_in_memory a.word n) InvalidMemory) _ (λ u k.
    let is = popped m (sp + 2 * n) a h in
    let top = is.room in
    let room = inside a.word n (held (words_lie_in_memory a.word n) InvalidMemory u k) in
    subst (λ (i : ℕ). Kept (stretch i (2 * n) ∷ []) m (copied m sp a.word (2 * n))) is.word
    (copy_kept m sp a.word (2 * n) memory (omega (arith, top)) room)))

move_keeps : (b : ℕ) (m : List ℕ) (sp np : ℕ) → IsMemory m → RowKeeps (stretch (word_at m (sp + 2)) (2 * b) ∷ []) m (move_row b m sp np)
unfolding move_row
move_keeps b m sp np memory =
    let ss = stretch (word_at m (sp + 2)) (2 * b) ∷ [] in
    let P = λ (t : List ℕ × ℕ). Kept ss m t.0 in
    made P (pop m sp) _ (λ f h. made P (pop m f.above) _ (λ t k. made P (demand (nat_lt b 32768) InvalidMemory) _ (λ u l.
    made P (demand (words_lie_in_memory f.word b) InvalidMemory) _ (λ v q. made P (demand (words_lie_in_memory t.word b) InvalidMemory) _ (λ w z.
    let source = inside f.word b (held (words_lie_in_memory f.word b) InvalidMemory v q) in
    let room = inside t.word b (held (words_lie_in_memory t.word b) InvalidMemory w z) in
    subst (λ (i : ℕ). Kept (stretch i (2 * b) ∷ []) m (copied m f.word t.word (2 * b))) (word_below m sp f t h k).0
    (copy_kept m f.word t.word (2 * b) memory source room))))))

pub pointer_keeps : (o : Pointer) (m : List ℕ) (sp np : ℕ) → IsMemory m → IsStack sp np → RowKeeps (pointer_written o m sp) m (pointer_row o m sp np)
unfolding pointer_row
pointer_keeps (pointer.Increment b) m sp np memory stack = pushed m (sp + 2 * 1) 1 (pointer_row (pointer.Increment b) m sp np)
    (stack_rows_write_what_they_push.pointers (pointer.Increment b) m sp np memory stack)
    (effects_are_the_machines.pointers (pointer.Increment b) m sp np memory stack)
pointer_keeps (pointer.Load b) m sp np memory stack = pushed m (sp + 2 * 1) 1 (pointer_row (pointer.Load b) m sp np)
    (stack_rows_write_what_they_push.pointers (pointer.Load b) m sp np memory stack)
    (effects_are_the_machines.pointers (pointer.Load b) m sp np memory stack)
pointer_keeps (pointer.Index b) m sp np memory stack = pushed m (sp + 2 * 2) 1 (pointer_row (pointer.Index b) m sp np)
    (stack_rows_write_what_they_push.pointers (pointer.Index b) m sp np memory stack)
    (effects_are_the_machines.pointers (pointer.Index b) m sp np memory stack)
pointer_keeps pointer.Store m sp np memory stack = stored m (word_at m (sp + 2)) 2 (pointer_row pointer.Store m sp np) (omega arith)
    (rows_write_what_they_store.word m sp np memory)
pointer_keeps (pointer.LoadWords n) m sp np memory stack = pushed m (sp + 2 * 1) n (pointer_row (pointer.LoadWords n) m sp np)
    (stack_rows_write_what_they_push.pointers (pointer.LoadWords n) m sp np memory stack)
    (effects_are_the_machines.pointers (pointer.LoadWords n) m sp np memory stack)
pointer_keeps (pointer.StoreWords n) m sp np memory stack = words_keep n m sp np memory
pointer_keeps (pointer.Move b) m sp np memory stack = move_keeps b m sp np memory

pub literal_keeps : (o : Literal) (m : List ℕ) (sp np : ℕ) → IsMemory m → IsStack sp np
    → RowKeeps (pushes_words (literal_effect o) m sp) m (literal_row o m sp np)
literal_keeps (literal.String start) m sp np memory stack = pushed m (sp + 2 * 0) 1 (literal_row (literal.String start) m sp np)
    (stack_rows_write_what_they_push.literals (literal.String start) m sp np memory stack)
    (effects_are_the_machines.literals (literal.String start) m sp np memory stack)
literal_keeps (literal.Characters start) m sp np memory stack = pushed m (sp + 2 * 0) 1 (literal_row (literal.Characters start) m sp np)
    (stack_rows_write_what_they_push.literals (literal.Characters start) m sp np memory stack)
    (effects_are_the_machines.literals (literal.Characters start) m sp np memory stack)
literal_keeps (literal.Words start count) m sp np memory stack = pushed m (sp + 2 * 0) (count / 2 % 256) (literal_row (literal.Words start count) m sp np)
    (stack_rows_write_what_they_push.literals (literal.Words start count) m sp np memory stack)
    (effects_are_the_machines.literals (literal.Words start count) m sp np memory stack)

-- ---- values

-- Returns the address after the set at `sp` and the next `more` words.
abbrev set_end : List ℕ → ℕ → ℕ → ℕ
set_end m sp more = sp + 2 * ((word_at m sp + 1) + more)

abbrev two_sets_end : List ℕ → ℕ → ℕ
two_sets_end m sp = set_end m sp (word_at m (sp + 2 * (word_at m sp + 1)) + 1)

set_keeps : (o : Set) (m : List ℕ) (sp np : ℕ) → IsMemory m → IsStack sp np
    → RowKeeps (pushes (set_effect o) (set_words o m sp) m sp) m (value_row (value.Set o) m sp np)
unfolding value_row set_row
set_keeps set.Member m sp np memory stack = pushed m (set_end m sp 1) 1 (value_row (value.Set set.Member) m sp np)
    (stack_rows_write_what_they_push.values (value.Set set.Member) m sp np memory stack)
    (effects_are_the_machines.values (value.Set set.Member) m sp np memory stack)
set_keeps set.Intersection m sp np memory stack = pushed_set m (two_sets_end m sp) (set_words set.Intersection m sp)
    (value_row (value.Set set.Intersection) m sp np)
    (stack_rows_write_what_they_push.values (value.Set set.Intersection) m sp np memory stack)
    (effects_are_the_machines.values (value.Set set.Intersection) m sp np memory stack) (intersection_count m sp np memory)
set_keeps set.Union m sp np memory stack = pushed_set m (two_sets_end m sp) (set_words set.Union m sp) (value_row (value.Set set.Union) m sp np)
    (stack_rows_write_what_they_push.values (value.Set set.Union) m sp np memory stack)
    (effects_are_the_machines.values (value.Set set.Union) m sp np memory stack) (union_count m sp np memory)
set_keeps set.Difference m sp np memory stack = pushed_set m (two_sets_end m sp) (set_words set.Difference m sp)
    (value_row (value.Set set.Difference) m sp np)
    (stack_rows_write_what_they_push.values (value.Set set.Difference) m sp np memory stack)
    (effects_are_the_machines.values (value.Set set.Difference) m sp np memory stack) (difference_count m sp np memory)
set_keeps set.Singleton m sp np memory stack = pushed_set m (sp + 2 * 1) (set_words set.Singleton m sp) (value_row (value.Set set.Singleton) m sp np)
    (stack_rows_write_what_they_push.values (value.Set set.Singleton) m sp np memory stack)
    (effects_are_the_machines.values (value.Set set.Singleton) m sp np memory stack) (singleton_count m sp np memory)
set_keeps set.Subrange m sp np memory stack = pushed_set m (sp + 2 * 2) (set_words set.Subrange m sp) (value_row (value.Set set.Subrange) m sp np)
    (stack_rows_write_what_they_push.values (value.Set set.Subrange) m sp np memory stack)
    (effects_are_the_machines.values (value.Set set.Subrange) m sp np memory stack) (subrange_count m sp np memory)
set_keeps (set.Adjust n) m sp np memory stack = pushed m (set_end m sp 0) n (value_row (value.Set (set.Adjust n)) m sp np)
    (stack_rows_write_what_they_push.values (value.Set (set.Adjust n)) m sp np memory stack)
    (effects_are_the_machines.values (value.Set (set.Adjust n)) m sp np memory stack)

-- If a row pushes no words, as IXS does, then it leaves all words unchanged.
index_keeps : (m : List ℕ) (row : Result (List ℕ × ℕ) ExecError) → WritesWhatItPushes m (so_many 0) row → RowKeeps [] m row
index_keeps m (Ok t) writes = λ x even none. writes x even (⊎_elim (λ l. inl l) (λ l. inr (omega (arith, l))) (cases_lt x t.1))
index_keeps m (Err e) writes = tt

-- If the text that the word `e` names is read, then its length is its length byte, or 1 for a single character.
text_count : (m s : List ℕ) (e : ℕ) → IsMemory m → source_at m e ≡ Ok s → length s ≡ text_length m e
text_count m s e memory found = elim (cases_Bool (nat_lt e 256)) [
  | inl h ↦ rw h (ap (λ (l : List ℕ). length l) (sym (ok_same (e ∷ []) s (rw h at found))))
  | inr h ↦ rw h (
      let rest = passed (lies_in_memory (e + 1) (byte_at m e)) InvalidMemory _ s (rw h at found) in
      let low : e + 1 + byte_at m e ≤ 65536 = grind (arith, nat_tests, rest.0) in
      sym (ap (λ (l : List ℕ). length l) (ok_same _ s rest.1)) ∙ length-bytes_at m (e + 1) (byte_at m e) memory low)
]

assign_keeps : (n : ℕ) (m : List ℕ) (sp np : ℕ) (source : Result (List ℕ) ExecError) → IsMemory m → source_at m (word_at m sp) ≡ source
    → RowKeeps (stretch (word_at m (sp + 2)) (1 + text_length m (word_at m sp)) ∷ []) m (assign_row n m sp np)
unfolding assign_row
assign_keeps n m sp np (Ok s) memory found =
    subst (λ k. RowKeeps (stretch (word_at m (sp + 2)) (1 + k) ∷ []) m (assign_row n m sp np)) (text_count m s (word_at m sp) memory found)
    (stored m (word_at m (sp + 2)) (1 + length s) (assign_row n m sp np) (omega arith) (rows_write_what_they_store.text n m s sp np memory found))
assign_keeps n m sp np (Err e) memory found = no_source
  where
    no_source : RowKeeps (stretch (word_at m (sp + 2)) (1 + text_length m (word_at m sp)) ∷ []) m (assign_row n m sp np)
    no_source =
        let P = λ (t : List ℕ × ℕ). Kept (stretch (word_at m (sp + 2)) (1 + text_length m (word_at m sp)) ∷ []) m t.0 in
        made P (pop m sp) _ (λ x h. made P (pop m x.above) _ (λ d k.
        let none : source_at m x.word ≡ Err e = ap (λ w. source_at m w) (popped m sp x h).word ∙ found in
        rw none tt))

compare_keeps : (r : Relation) (k : Kind) (m : List ℕ) (sp np : ℕ) → IsMemory m → IsStack sp np
    → RowKeeps (compare_written (compare_effect k) m sp) m (value_row (value.Compare r k) m sp np)
compare_keeps r k m sp np memory stack = of k (stack_rows_write_what_they_push.values (value.Compare r k) m sp np memory stack)
    (effects_are_the_machines.values (value.Compare r k) m sp np memory stack)
  where
    of : (k : Kind) → WritesWhatItPushes m (so_many 1) (value_row (value.Compare r k) m sp np)
        → MovesIf (compare_effect k) m sp (value_row (value.Compare r k) m sp np)
        → RowKeeps (compare_written (compare_effect k) m sp) m (value_row (value.Compare r k) m sp np)
    of kind.Real = none (value_row (value.Compare r kind.Real) m sp np)
      where
        none : (row : Result (List ℕ × ℕ) ExecError) → WritesWhatItPushes m (so_many 1) row → MovesIf None m sp row → RowKeeps [] m row
        none (Ok t) writes moves = absurd moves
        none (Err e) writes moves = tt
    of kind.String = pushed m (sp + 2 * 2) 1 (value_row (value.Compare r kind.String) m sp np)
    of kind.Boolean = pushed m (sp + 2 * 2) 1 (value_row (value.Compare r kind.Boolean) m sp np)
    of kind.Set = pushed m (two_sets_end m sp) 1 (value_row (value.Compare r kind.Set) m sp np)
    of (kind.Bytes n) = pushed m (sp + 2 * 2) 1 (value_row (value.Compare r (kind.Bytes n)) m sp np)
    of (kind.Words n) = pushed m (sp + 2 * 2) 1 (value_row (value.Compare r (kind.Words n)) m sp np)

pub value_keeps : (o : Value) (m : List ℕ) (sp np : ℕ) → IsMemory m → IsStack sp np → RowKeeps (value_written o m sp) m (value_row o m sp np)
unfolding value_row field_row
value_keeps (value.Byte byte.Load) m sp np memory stack = pushed m (sp + 2 * 2) 1 (value_row (value.Byte byte.Load) m sp np)
    (stack_rows_write_what_they_push.values (value.Byte byte.Load) m sp np memory stack)
    (effects_are_the_machines.values (value.Byte byte.Load) m sp np memory stack)
value_keeps (value.Byte byte.Store) m sp np memory stack =
    let base : sp + 4 ≡ sp + 2 + 2 = omega arith in
    stored m ((word_at m (sp + 2 + 2) + word_at m (sp + 2)) % 65536) 1 (value_row (value.Byte byte.Store) m sp np) (omega arith)
    (subst (λ i. WritesAlone m ((word_at m i + word_at m (sp + 2)) % 65536) 1 (value_row (value.Byte byte.Store) m sp np)) base
    (rows_write_what_they_store.byte m sp np memory))
value_keeps (value.Set o) m sp np memory stack = set_keeps o m sp np memory stack
value_keeps (value.Text text.Index) m sp np memory stack = index_keeps m (value_row (value.Text text.Index) m sp np)
    (stack_rows_write_what_they_push.values (value.Text text.Index) m sp np memory stack)
value_keeps (value.Text (text.Assign n)) m sp np memory stack = assign_keeps n m sp np (source_at m (word_at m sp)) memory refl
value_keeps (value.Field (field.Index per_word width)) m sp np memory stack =
    pushed m (sp + 2 * 2) 3 (value_row (value.Field (field.Index per_word width)) m sp np)
    (stack_rows_write_what_they_push.values (value.Field (field.Index per_word width)) m sp np memory stack)
    (effects_are_the_machines.values (value.Field (field.Index per_word width)) m sp np memory stack)
value_keeps (value.Field field.Load) m sp np memory stack = pushed m (sp + 2 * 3) 1 (value_row (value.Field field.Load) m sp np)
    (stack_rows_write_what_they_push.values (value.Field field.Load) m sp np memory stack)
    (effects_are_the_machines.values (value.Field field.Load) m sp np memory stack)
value_keeps (value.Field field.Store) m sp np memory stack = stored m (word_at m (sp + 6)) 2 (value_row (value.Field field.Store) m sp np) (omega arith)
    (rows_write_what_they_store.field m sp np memory)
value_keeps (value.Compare r k) m sp np memory stack = compare_keeps r k m sp np memory stack
