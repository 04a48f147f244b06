-- Lemmas for the SP after each row, in terms of the table of effects.
use Rattle.std.proofs.Common.{◌≡◌, ◌≤◌, inl, inr, ℕ, ◌+◌, ◌-◌, ◌*◌, ◌/◌, ◌%◌, ◌&&◌, ◌||◌, ◌==◌, Bool, true, false, not, max, min}
use Rattle.std.proofs.Common.{cond, nat_lt, nat_le, List, [], ◌∷◌, ◌++◌, length, take, drop, get_or, Result, Ok, Err, refl, sym, ap, ◌∙◌, arith}
use Rattle.std.specs.Prelude.{int_lt}
use Rattle.std.proofs.lemmas.Bool.{cases_Bool}
use Rattle.std.proofs.lemmas.Bool.Decides.{nat_tests}
use Rattle.std.proofs.lemmas.List.{append_assoc, get_or-append_right, length-take-le}
use Rattle.pm_words.specs.declared.error.ExecError.{ExecError}
use Rattle.pm_words.specs.declared.error.ExecError.TheVariants.{InvalidIndex, InvalidMemory, StackOverflow, StringTooLong, Unimplemented}
use Rattle.pm_words.specs.declared.stack.Popped.{Popped}
use Rattle.pm_words.specs.Signed.{signed}
use Rattle.pm_words.specs.Words.{IsMemory, byte_at, with_words, word_at}
use Rattle.pm_words.specs.Stack.{◌>>=◌, demand, is_even, lies_in_memory, load, pop, push, store, words_lie_in_memory}
use Rattle.pm_families.specs.declared.families.Arithmetic.{Arithmetic}
use Rattle.pm_families.specs.declared.families.Arithmetic.TheVariants as arithmetic
use Rattle.pm_families.specs.declared.families.Variable.{Variable}
use Rattle.pm_families.specs.declared.families.Variable.TheVariants as variable
use Rattle.pm_families.specs.declared.families.Pointer.{Pointer}
use Rattle.pm_families.specs.declared.families.Pointer.TheVariants as pointer
use Rattle.pm_families.specs.declared.families.Literal.{Literal}
use Rattle.pm_families.specs.declared.families.Literal.TheVariants as literal
use Rattle.pm_families.specs.declared.families.Relation.{Relation}
use Rattle.pm_families.specs.declared.families.Kind.{Kind}
use Rattle.pm_families.specs.declared.families.Kind.TheVariants as kind
use Rattle.pm_families.specs.declared.families.Value.{Value}
use Rattle.pm_families.specs.declared.families.Value.TheVariants as value
use Rattle.pm_families.specs.declared.families.Byte.TheVariants as byte
use Rattle.pm_families.specs.declared.families.Set.{Set}
use Rattle.pm_families.specs.declared.families.Set.TheVariants as set
use Rattle.pm_families.specs.declared.families.Text.TheVariants as text
use Rattle.pm_families.specs.declared.families.Field.TheVariants as field
use Rattle.pm_families.specs.declared.families.Condition.TheVariants as condition
use Rattle.pm_families.specs.declared.families.Jump.{Jump}
use Rattle.pm_families.specs.declared.families.Jump.TheVariants as jump
use Rattle.pm_calls.specs.declared.registers.Registers.{Registers}
use Rattle.pm_calls.proofs.ReturnLaws.{bound, ok_same, passed}
use Rattle.pm_values.specs.Comparisons.{are_words, compare_booleans_row, compare_bytes_row, compare_row, compare_sets_row, compare_strings_row}
use Rattle.pm_values.specs.Comparisons.{compare_words_row, is_equality, is_of_sets}
use Rattle.pm_values.specs.Fields.{index_field_row, is_field, load_byte_row, load_field_row, store_byte_row, store_field_row}
use Rattle.pm_values.specs.Sets.{StackSet, adjust_row, difference_row, in_set_row, intersect_row, interval, is_member, pop_set, set_of, singleton_row}
use Rattle.pm_values.specs.Sets.{subrange_row, two_sets_row, union_row, with_length}
use Rattle.pm_values.specs.Several.{push_words}
use Rattle.pm_values.specs.Strings.{assign_row, index_string_row, source_at, string_at}
use Rattle.pm_values.proofs.SetLaws.{length-set_from}
use Rattle.pm_rows.specs.Arithmetic.{arithmetic_row, binary_row, check_row, constant_row, relation_row, unary_row}
use Rattle.pm_rows.specs.Integers.{binary}
use Rattle.pm_rows.specs.Jumps.{case_row, case_target, jump_row, jumped, short_row, target}
use Rattle.pm_rows.specs.Literals.{literal_address_row, literal_row, words_row}
use Rattle.pm_rows.specs.Pointers.{increment_row, index_row, indirect_row, load_words_row, pointer_row, store_indirect_row, move_row, store_words_row}
use Rattle.pm_rows.specs.Values.{field_row, set_row, value_row}
use Rattle.pm_rows.specs.Variables.{load_row, store_row, variable_address_row, variable_at, variable_row}
use Rattle.law_engine.proofs.StoredWords.{popped}
use Rattle.pm_effects.specs.declared.effect.Share.{Share}
use Rattle.pm_effects.specs.declared.effect.Share.TheVariants as share
use Rattle.pm_effects.specs.Effects.{arithmetic_effect, variable_effect, pointer_effect, literal_effect, value_effect, jump_effect, set_effect, compare_effect}
use Rattle.law_engine.specs.Effects.{EffectsAreTheMachines, EndsAt, LeavesSpAt, Moves, MovesIf, words_taken}

-- ---- steps of a row

abbrev so_many : ℕ → Share
so_many n = share.Words n

step : {A : Type 0} (g : ℕ) (s : Share) (r : Result A ExecError) (f : A → Result (List ℕ × ℕ) ExecError)
    → ((x : A) → r ≡ Ok x → EndsAt g s (f x)) → EndsAt g s (r >>= f)
step g s (Ok x) f h = h x refl
step g s (Err e) f h = tt

above : (m : List ℕ) (sp : ℕ) (p : Popped) → pop m sp ≡ Ok p → p.above ≡ sp + 2
above m sp p h = (popped m sp p h).above

-- If `g` is `k + 1` words above `sp`, then after one word is popped it is `k` words above the new SP.
pops : (g : ℕ) (s : Share) (m : List ℕ) (sp k : ℕ) (f : Popped → Result (List ℕ × ℕ) ExecError) → sp + 2 * (k + 1) ≡ g
    → ((a : Popped) → a.above + 2 * k ≡ g → EndsAt g s (f a)) → EndsAt g s (pop m sp >>= f)
pops g s m sp k f e h = step g s (pop m sp) f (λ a p. let up = above m sp a p in h a (omega (arith, e, up)))

-- If one word is pushed, then the word ends at the SP before the push.
one : (g : ℕ) (m : List ℕ) (sp np w : ℕ) → sp + 2 * 0 ≡ g → EndsAt g (so_many 1) (push m sp np w)
one g m sp np w e = elim (cases_Bool (nat_lt sp (np + 2))) [
  | inl l ↦ rw l tt
  | inr l ↦ rw l (
      let room : np + 2 ≤ sp = grind (arith, nat_tests, l) in
      step g (so_many 1) (store m (sp - 2) w) _ (λ n h. omega (arith, room, e)))
]

held : (b : Bool) (e : ExecError) (x : Unit {0}) → demand b e ≡ Ok x → b ≡ true
held true e x h = refl
held false e x h = cc

pub fits : (np n sp : ℕ) → nat_le (np + 2 * n) sp ≡ true → 2 * n ≤ sp
fits np n sp h = let l : np + 2 * n ≤ sp = grind (arith, nat_tests) in omega (arith, l)

several : (g : ℕ) (m ws : List ℕ) (sp np k : ℕ) → length ws ≡ k → sp + 2 * 0 ≡ g → EndsAt g (so_many k) (push_words m sp np ws)
several g m ws sp np k count e = step g (so_many k) (demand (nat_le (np + 2 * length ws) sp) StackOverflow) _ (λ u h.
    let room = fits np (length ws) sp (held (nat_le (np + 2 * length ws) sp) StackOverflow u h) in
    omega (arith, room, e, count))

-- If words are written from the address `a` on, then the word at `a` is the first of them.
pub first : (ws vs : List ℕ) (a w : ℕ) → a / 2 ≤ length ws → word_at (with_words ws a (w ∷ vs)) a ≡ w
unfolding word_at with_words
first ws vs a w room =
    let none : a / 2 - a / 2 ≡ 0 = omega arith in
    rw append_assoc (get_or-append_right (take (a / 2) ws) ((w ∷ vs) ++ drop (a / 2 + length (w ∷ vs)) ws) (a / 2) (a / 2) 0 (length-take-le (a / 2) ws room)
    (omega arith)
    ∙ ap (λ (k : ℕ). get_or ((w ∷ vs) ++ drop (a / 2 + length (w ∷ vs)) ws) k 0) none)

a_set : (g : ℕ) (m ws : List ℕ) (sp np : ℕ) → IsMemory m → sp ≤ 65504 → sp + 2 * 0 ≡ g → EndsAt g share.Set (push_words m sp np (with_length ws))
a_set g m ws sp np memory low e = step g share.Set (demand (nat_le (np + 2 * length (with_length ws)) sp) StackOverflow) _ (λ u h.
    let room = fits np (length (with_length ws)) sp (held (nat_le (np + 2 * length (with_length ws)) sp) StackOverflow u h) in
    let size = memory.size in
    let count : word_at (with_words m (sp - 2 * length (with_length ws)) (with_length ws)) (sp - 2 * length (with_length ws)) ≡ length ws =
    first m ws (sp - 2 * length (with_length ws)) (length ws) (omega (arith, low, size)) in
    rw count (omega (arith, room, e)))

-- If a word is popped, or a set is popped, then the SP after it is at most 65,504.
pub below_word : (m : List ℕ) (sp : ℕ) (p : Popped) → pop m sp ≡ Ok p → p.above ≤ 65504
below_word m sp p h =
    let is = popped m sp p h in
    let room = is.room in
    let up = is.above in
    omega (arith, room, up)

pub record IsSetOff (m : List ℕ) (sp : ℕ) (s : StackSet) : Type 0 where
  pub above : s.above ≡ sp + 2 * (word_at m sp + 1)
  pub below : s.above ≤ 65504

pub set_off : (m : List ℕ) (sp : ℕ) (s : StackSet) → pop_set m sp ≡ Ok s → IsSetOff m sp s
unfolding pop_set
set_off m sp s h =
    let n = bound (pop m sp) _ s h in
    let few = passed (nat_le n.0.word 255) InvalidIndex _ s n.2 in
    let room = passed (nat_le (n.0.above + 2 * n.0.word) 65504) InvalidMemory _ s few.1 in
    let same = ok_same _ s room.1 in
    let is = popped m sp n.0 n.1 in
    let up = is.above in
    let word = is.word in
    let at : s.above ≡ n.0.above + 2 * n.0.word = sym (ap (λ (x : StackSet). x.above) same) in
    let low : n.0.above + 2 * n.0.word ≤ 65504 = grind (arith, nat_tests, room.0) in
    record { above = at ∙ ap (λ (w : ℕ). n.0.above + 2 * w) word ∙ omega (arith, up); below = omega (arith, low, at) }

-- ---- the families

arithmetic_moves : (o : Arithmetic) (m : List ℕ) (sp np : ℕ) → Moves (arithmetic_effect o) m sp (arithmetic_row o m sp np)
unfolding arithmetic_row constant_row unary_row binary_row relation_row check_row
arithmetic_moves (arithmetic.Constant w) m sp np = one (sp + 2 * 0) m sp np w refl
arithmetic_moves arithmetic.Nil m sp np = one (sp + 2 * 0) m sp np 0 refl
arithmetic_moves (arithmetic.OnOne o) m sp np = pops (sp + 2 * 1) (so_many 1) m sp 0 _ refl (λ a e. one (sp + 2 * 1) m a.above np _ e)
arithmetic_moves (arithmetic.OnTwo o) m sp np = pops (sp + 2 * 2) (so_many 1) m sp 1 _ refl (λ b d. pops (sp + 2 * 2) (so_many 1) m b.above 0 _ d
    (λ a e. step (sp + 2 * 2) (so_many 1) (binary o a.word b.word) _ (λ c l. one (sp + 2 * 2) m a.above np c e)))
arithmetic_moves (arithmetic.Compare o) m sp np = pops (sp + 2 * 2) (so_many 1) m sp 1 _ refl (λ b d. pops (sp + 2 * 2) (so_many 1) m b.above 0 _ d
    (λ a e. one (sp + 2 * 2) m a.above np _ e))
arithmetic_moves arithmetic.Check m sp np = pops (sp + 2 * 3) (so_many 1) m sp 2 _ refl (λ c x. pops (sp + 2 * 3) (so_many 1) m c.above 1 _ x (λ b d.
    pops (sp + 2 * 3) (so_many 1) m b.above 0 _ d (λ a e. step (sp + 2 * 3) (so_many 1) _ _ (λ u q. one (sp + 2 * 3) m a.above np a.word e))))

variable_moves : (o : Variable) (m : List ℕ) (r : Registers) → Moves (variable_effect o) m r.sp (variable_row o m r)
unfolding variable_row variable_address_row load_row store_row
variable_moves (variable.Address scope b) m r = step (r.sp + 2 * 0) (so_many 1) (variable_at scope b m r) _ (λ x h. one (r.sp + 2 * 0) m r.sp r.np x refl)
variable_moves (variable.Load scope b) m r = step (r.sp + 2 * 0) (so_many 1) (variable_at scope b m r) _ (λ x h.
    step (r.sp + 2 * 0) (so_many 1) (load m x) _ (λ w k. one (r.sp + 2 * 0) m r.sp r.np w refl))
variable_moves (variable.Store scope b) m r = pops (r.sp + 2 * 1) (so_many 0) m r.sp 0 _ refl (λ v e.
    step (r.sp + 2 * 1) (so_many 0) (variable_at scope b m r) _ (λ x h. step (r.sp + 2 * 1) (so_many 0) (store m x v.word) _ (λ n k. e)))

load_words_moves : (n : ℕ) (m : List ℕ) (sp np : ℕ) → EndsAt (sp + 2 * 1) (so_many n) (load_words_row n m sp np)
unfolding load_words_row
load_words_moves n m sp np = pops (sp + 2 * 1) (so_many n) m sp 0 _ refl (λ a e.
    step (sp + 2 * 1) (so_many n) (demand (words_lie_in_memory a.word n) InvalidMemory) _ (λ u k.
    step (sp + 2 * 1) (so_many n) (demand (nat_le (np + 2 * n) a.above) StackOverflow) _ (λ v l.
    let room = fits np n a.above (held (nat_le (np + 2 * n) a.above) StackOverflow v l) in omega (arith, room, e))))

store_words_moves : (n : ℕ) (m : List ℕ) (sp np : ℕ) → EndsAt (sp + 2 * ((n + 1) + 0)) (so_many 0) (store_words_row n m sp np)
unfolding store_words_row
store_words_moves n m sp np = pops (sp + 2 * ((n + 1) + 0)) (so_many 0) m (sp + 2 * n) 0 _ (omega arith) (λ a e.
    step (sp + 2 * ((n + 1) + 0)) (so_many 0) (demand (words_lie_in_memory a.word n) InvalidMemory) _ (λ u k. e))

pointer_moves : (o : Pointer) (m : List ℕ) (sp np : ℕ) → Moves (pointer_effect o) m sp (pointer_row o m sp np)
unfolding pointer_row increment_row indirect_row index_row store_indirect_row move_row
pointer_moves (pointer.Increment b) m sp np = pops (sp + 2 * 1) (so_many 1) m sp 0 _ refl (λ a e. one (sp + 2 * 1) m a.above np _ e)
pointer_moves (pointer.Load b) m sp np = pops (sp + 2 * 1) (so_many 1) m sp 0 _ refl (λ a e.
    step (sp + 2 * 1) (so_many 1) (load m ((a.word + 2 * b) % 65536)) _ (λ w k. one (sp + 2 * 1) m a.above np w e))
pointer_moves (pointer.Index b) m sp np = pops (sp + 2 * 2) (so_many 1) m sp 1 _ refl (λ i d. pops (sp + 2 * 2) (so_many 1) m i.above 0 _ d
    (λ a e. one (sp + 2 * 2) m a.above np _ e))
pointer_moves pointer.Store m sp np = pops (sp + 2 * 2) (so_many 0) m sp 1 _ refl (λ v d. pops (sp + 2 * 2) (so_many 0) m v.above 0 _ d
    (λ a e. step (sp + 2 * 2) (so_many 0) (store m a.word v.word) _ (λ n k. e)))
pointer_moves (pointer.LoadWords n) m sp np = load_words_moves n m sp np
pointer_moves (pointer.StoreWords n) m sp np = store_words_moves n m sp np
pointer_moves (pointer.Move b) m sp np = pops (sp + 2 * 2) (so_many 0) m sp 1 _ refl (λ from d. pops (sp + 2 * 2) (so_many 0) m from.above 0 _ d
    (λ to e. step (sp + 2 * 2) (so_many 0) (demand (nat_lt b 32768) InvalidMemory) _ (λ u k.
    step (sp + 2 * 2) (so_many 0) (demand (words_lie_in_memory from.word b) InvalidMemory) _ (λ v l.
    step (sp + 2 * 2) (so_many 0) (demand (words_lie_in_memory to.word b) InvalidMemory) _ (λ w q. e)))))

words_move : (start n : ℕ) (m : List ℕ) (sp np : ℕ) → EndsAt (sp + 2 * 0) (so_many n) (words_row start n m sp np)
unfolding words_row
words_move start n m sp np = step (sp + 2 * 0) (so_many n) (demand (words_lie_in_memory start n && is_even sp) InvalidMemory) _ (λ u h.
    step (sp + 2 * 0) (so_many n) (demand (nat_le (np + 2 * n) sp) StackOverflow) _ (λ v k.
    let room = fits np n sp (held (nat_le (np + 2 * n) sp) StackOverflow v k) in omega (arith, room)))

literal_moves : (o : Literal) (m : List ℕ) (sp np : ℕ) → Moves (literal_effect o) m sp (literal_row o m sp np)
unfolding literal_row literal_address_row
literal_moves (literal.String start) m sp np = one (sp + 2 * 0) m sp np _ refl
literal_moves (literal.Characters start) m sp np = one (sp + 2 * 0) m sp np _ refl
literal_moves (literal.Words start count) m sp np = words_move start (count / 2 % 256) m sp np

-- Returns the address after a set at the top of the stack and `more` words below it.
abbrev set_end : List ℕ → ℕ → ℕ → ℕ
set_end m sp more = sp + 2 * ((word_at m sp + 1) + more)

abbrev two_sets_end : List ℕ → ℕ → ℕ
two_sets_end m sp = set_end m sp (word_at m (sp + 2 * (word_at m sp + 1)) + 1)

two_sets_off : (m : List ℕ) (sp : ℕ) (t s : StackSet) → pop_set m sp ≡ Ok t → pop_set m t.above ≡ Ok s → s.above ≡ two_sets_end m sp
two_sets_off m sp t s h k =
    let one_off = (set_off m sp t h).above in
    let other_off = (set_off m t.above s k).above in
    other_off ∙ ap (λ (x : ℕ). x + 2 * (word_at m x + 1)) one_off ∙ omega arith

two_sets_move : (count : ℕ → ℕ → ℕ) (test : Bool → Bool → Bool) (m : List ℕ) (sp np : ℕ) → IsMemory m
    → EndsAt (two_sets_end m sp) share.Set (two_sets_row count test m sp np)
two_sets_move count test m sp np memory = step (two_sets_end m sp) share.Set (pop_set m sp) _ (λ t h.
    step (two_sets_end m sp) share.Set (pop_set m t.above) _ (λ s k.
    let e = two_sets_off m sp t s h k in
    a_set (two_sets_end m sp) m _ s.above np memory (set_off m t.above s k).below (omega (arith, e))))

set_moves : (o : Set) (m : List ℕ) (sp np : ℕ) → IsMemory m → Moves (set_effect o) m sp (set_row o m sp np)
unfolding set_row in_set_row intersect_row union_row difference_row singleton_row subrange_row adjust_row
set_moves set.Member m sp np memory = step (set_end m sp 1) (so_many 1) (pop_set m sp) _ (λ s h.
    let up = (set_off m sp s h).above in
    pops (set_end m sp 1) (so_many 1) m s.above 0 _ (omega (arith, up)) (λ a e. one (set_end m sp 1) m a.above np _ e))
set_moves set.Intersection m sp np memory = two_sets_move min (λ s t. s && t) m sp np memory
set_moves set.Union m sp np memory = two_sets_move max (λ s t. s || t) m sp np memory
set_moves set.Difference m sp np memory = two_sets_move (λ s t. s) (λ s t. s && not t) m sp np memory
set_moves set.Singleton m sp np memory = step (sp + 2 * 1) share.Set (pop m sp) _ (λ a h.
    step (sp + 2 * 1) share.Set (demand (nat_le a.word 4079) InvalidIndex) _ (λ u k.
    let up = above m sp a h in
    a_set (sp + 2 * 1) m (interval a.word a.word) a.above np memory (below_word m sp a h) (omega (arith, up))))
set_moves set.Subrange m sp np memory = step (sp + 2 * 2) share.Set (pop m sp) _ (λ b h. step (sp + 2 * 2) share.Set (pop m b.above) _ (λ a k.
    step (sp + 2 * 2) share.Set (if_sets a b) _ (λ s l.
    let up = above m sp b h in
    let further = above m b.above a k in
    a_set (sp + 2 * 2) m s a.above np memory (below_word m b.above a k) (omega (arith, up, further)))))
  where
    if_sets : Popped → Popped → Result (List ℕ) ExecError
    if_sets a b = cond (int_lt (signed b.word) (signed a.word)) (Ok []) (demand (nat_le a.word 4079 && nat_le b.word 4079) InvalidIndex >>= λ u. Ok
        (interval a.word b.word))
set_moves (set.Adjust n) m sp np memory = step (set_end m sp 0) (so_many n) (pop_set m sp) _ (λ s h.
    let up = (set_off m sp s h).above in
    several (set_end m sp 0) m (set_of n (λ e. is_member s.members e)) s.above np n (length-set_from n 0 (λ e. is_member s.members e)) (omega (arith, up)))

compare_moves : (r : Relation) (k : Kind) (m : List ℕ) (sp np : ℕ) → MovesIf (compare_effect k) m sp (compare_row r k m sp np)
unfolding compare_row compare_strings_row compare_booleans_row compare_sets_row compare_bytes_row compare_words_row
compare_moves r kind.Real m sp np = tt
compare_moves r kind.String m sp np = pops (sp + 2 * 2) (so_many 1) m sp 1 _ refl (λ b d. pops (sp + 2 * 2) (so_many 1) m b.above 0 _ d (λ a e.
    step (sp + 2 * 2) (so_many 1) (string_at m a.word) _ (λ s l. step (sp + 2 * 2) (so_many 1) (string_at m b.word) _ (λ t q.
    one (sp + 2 * 2) m a.above np _ e))))
compare_moves r kind.Boolean m sp np = pops (sp + 2 * 2) (so_many 1) m sp 1 _ refl (λ b d. pops (sp + 2 * 2) (so_many 1) m b.above 0 _ d (λ a e.
    one (sp + 2 * 2) m a.above np _ e))
compare_moves r kind.Set m sp np = step (two_sets_end m sp) (so_many 1) (demand (is_of_sets r) Unimplemented) _ (λ u g.
    step (two_sets_end m sp) (so_many 1) (pop_set m sp) _ (λ t h. step (two_sets_end m sp) (so_many 1) (pop_set m t.above) _ (λ s k.
    let e = two_sets_off m sp t s h k in one (two_sets_end m sp) m s.above np _ (omega (arith, e)))))
compare_moves r (kind.Bytes n) m sp np = pops (sp + 2 * 2) (so_many 1) m sp 1 _ refl (λ b d. pops (sp + 2 * 2) (so_many 1) m b.above 0 _ d (λ a e.
    step (sp + 2 * 2) (so_many 1) (demand (lies_in_memory a.word n && lies_in_memory b.word n) InvalidMemory) _ (λ u g.
    one (sp + 2 * 2) m a.above np _ e)))
compare_moves r (kind.Words n) m sp np = step (sp + 2 * 2) (so_many 1) (demand (is_equality r) Unimplemented) _ (λ u g.
    pops (sp + 2 * 2) (so_many 1) m sp 1 _ refl (λ b d. pops (sp + 2 * 2) (so_many 1) m b.above 0 _ d (λ a e.
    step (sp + 2 * 2) (so_many 1) (demand (are_words a.word n && are_words b.word n) InvalidMemory) _ (λ v q.
    one (sp + 2 * 2) m a.above np _ e))))

value_moves : (o : Value) (m : List ℕ) (sp np : ℕ) → IsMemory m → MovesIf (value_effect o) m sp (value_row o m sp np)
unfolding value_row field_row load_byte_row store_byte_row load_field_row store_field_row index_field_row index_string_row assign_row
value_moves (value.Byte byte.Load) m sp np memory = pops (sp + 2 * 2) (so_many 1) m sp 1 _ refl (λ i d. pops (sp + 2 * 2) (so_many 1) m i.above 0 _ d
    (λ a e. one (sp + 2 * 2) m a.above np _ e))
value_moves (value.Byte byte.Store) m sp np memory = pops (sp + 2 * 3) (so_many 0) m sp 2 _ refl (λ v x. pops (sp + 2 * 3) (so_many 0) m v.above 1 _ x
    (λ i d. pops (sp + 2 * 3) (so_many 0) m i.above 0 _ d (λ a e. e)))
value_moves (value.Set o) m sp np memory = set_moves o m sp np memory
value_moves (value.Text text.Index) m sp np memory = step (sp + 2 * 2) (so_many 2) (pop m sp) _ (λ i h. step (sp + 2 * 2) (so_many 2) (pop m i.above) _ (λ a k.
    step (sp + 2 * 2) (so_many 2) (demand (nat_le i.word (byte_at m a.word)) InvalidIndex) _ (λ u l. refl)))
value_moves (value.Text (text.Assign n)) m sp np memory = pops (sp + 2 * 2) (so_many 0) m sp 1 _ refl (λ x d. pops (sp + 2 * 2) (so_many 0) m x.above 0 _ d
    (λ a e. step (sp + 2 * 2) (so_many 0) (source_at m x.word) _ (λ s l.
    step (sp + 2 * 2) (so_many 0) (demand (nat_le (length s) n) StringTooLong) _ (λ u q.
    step (sp + 2 * 2) (so_many 0) (demand (lies_in_memory (a.word + 1) (length s)) InvalidMemory) _ (λ v w. e)))))
value_moves (value.Field (field.Index per_word width)) m sp np memory = pops (sp + 2 * 2) (so_many 3) m sp 1 _ refl (λ i d.
    pops (sp + 2 * 2) (so_many 3) m i.above 0 _ d (λ a e.
    step (sp + 2 * 2) (so_many 3) (demand (not (per_word == 0) && nat_lt i.word 32768) InvalidIndex) _ (λ u g.
    step (sp + 2 * 2) (so_many 3) (demand (is_field ((i.word % per_word) * width) width) InvalidIndex) _ (λ v l.
    several (sp + 2 * 2) m ((i.word % per_word) * width ∷ width ∷ (a.word + 2 * (i.word / per_word)) % 65536 ∷ []) a.above np 3 refl e))))
value_moves (value.Field field.Load) m sp np memory = pops (sp + 2 * 3) (so_many 1) m sp 2 _ refl (λ r x. pops (sp + 2 * 3) (so_many 1) m r.above 1 _ x
    (λ k d. pops (sp + 2 * 3) (so_many 1) m k.above 0 _ d (λ a e. step (sp + 2 * 3) (so_many 1) (demand (is_field r.word k.word) InvalidIndex) _ (λ u q.
    step (sp + 2 * 3) (so_many 1) (load m a.word) _ (λ w t. one (sp + 2 * 3) m a.above np _ e)))))
value_moves (value.Field field.Store) m sp np memory = pops (sp + 2 * 4) (so_many 0) m sp 3 _ refl (λ v y. pops (sp + 2 * 4) (so_many 0) m v.above 2 _ y
    (λ r x. pops (sp + 2 * 4) (so_many 0) m r.above 1 _ x (λ k d. pops (sp + 2 * 4) (so_many 0) m k.above 0 _ d (λ a e.
    step (sp + 2 * 4) (so_many 0) (demand (is_field r.word k.word) InvalidIndex) _ (λ u q.
    step (sp + 2 * 4) (so_many 0) (load m a.word) _ (λ w t. step (sp + 2 * 4) (so_many 0) (store m a.word _) _ (λ n o. e)))))))
value_moves (value.Compare r k) m sp np memory = compare_moves r k m sp np

-- ---- jumps

jump_step : {A : Type 0} (g : ℕ) (r : Result A ExecError) (f : A → Result Registers ExecError)
    → ((x : A) → r ≡ Ok x → LeavesSpAt g (f x)) → LeavesSpAt g (r >>= f)
jump_step g (Ok x) f h = h x refl
jump_step g (Err e) f h = tt

jump_pops : (g : ℕ) (m : List ℕ) (sp k : ℕ) (f : Popped → Result Registers ExecError) → sp + 2 * (k + 1) ≡ g
    → ((a : Popped) → a.above + 2 * k ≡ g → LeavesSpAt g (f a)) → LeavesSpAt g (pop m sp >>= f)
jump_pops g m sp k f e h = jump_step g (pop m sp) f (λ a p. let up = above m sp a p in h a (omega (arith, e, up)))

jumps : (g : ℕ) (taken : Bool) (m : List ℕ) (r : Registers) (offset : ℕ) → r.sp + 2 * 0 ≡ g → LeavesSpAt g (jumped taken m r offset)
jumps g true m r offset e = jump_step g (target m r offset) _ (λ ipc h. omega (arith, e))
jumps g false m r offset e = omega (arith, e)

jump_moves : (o : Jump) (m : List ℕ) (r : Registers) → LeavesSpAt (r.sp + 2 * words_taken (jump_effect o) m r.sp) (jump_row o m r)
unfolding jump_row short_row case_row
jump_moves (jump.Short condition.Always offset) m r = jumps (r.sp + 2 * 0) true m r offset refl
jump_moves (jump.Short condition.IfFalse offset) m r = jump_pops (r.sp + 2 * 1) m r.sp 0 _ refl (λ a e.
    jumps (r.sp + 2 * 1) _ m (record r { sp = a.above }) offset e)
jump_moves (jump.Short condition.IfDifferent offset) m r = jump_pops (r.sp + 2 * 2) m r.sp 1 _ refl (λ b d.
    jump_pops (r.sp + 2 * 2) m b.above 0 _ d (λ a e. jumps (r.sp + 2 * 2) _ m (record r { sp = a.above }) offset e))
jump_moves (jump.Short condition.IfEqual offset) m r = jump_pops (r.sp + 2 * 2) m r.sp 1 _ refl (λ b d.
    jump_pops (r.sp + 2 * 2) m b.above 0 _ d (λ a e. jumps (r.sp + 2 * 2) _ m (record r { sp = a.above }) offset e))
jump_moves (jump.Case low high table) m r = jump_pops (r.sp + 2 * 1) m r.sp 0 _ refl (λ a e.
    jump_step (r.sp + 2 * 1) (case_target low high table m a.word) _ (λ ipc h. omega (arith, e)))

pub effects_are_the_machines : EffectsAreTheMachines
effects_are_the_machines = record {
  arithmetic = λ o m sp np memory stack. arithmetic_moves o m sp np;
  variables = λ o m r memory stack. variable_moves o m r;
  pointers = λ o m sp np memory stack. pointer_moves o m sp np;
  literals = λ o m sp np memory stack. literal_moves o m sp np;
  values = λ o m sp np memory stack. value_moves o m sp np memory;
  jumps = λ o m r memory stack. jump_moves o m r;
}
