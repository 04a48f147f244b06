-- Lemmas for rows on the stack in two memories that agree on the bytes that the rows read. The rows are those of
-- integers, variables, pointers and literals.
use Rattle.std.proofs.Common.{◌≡◌, ◌≤◌, ℕ, ◌+◌, ◌-◌, ◌*◌, ◌%◌, Bool, true, false, nat_le, nat_lt}
use Rattle.std.proofs.Common.{List, [], ◌∷◌, Ok, refl, sym, ◌∙◌, subst, arith}
use Rattle.std.proofs.lemmas.Bool.{and_parts}
use Rattle.std.proofs.lemmas.Bool.Decides.{nat_tests}
use Rattle.pm_words.specs.declared.error.ExecError.{ExecError}
use Rattle.pm_words.specs.declared.error.ExecError.TheVariants.{InvalidIndex, InvalidMemory, StackOverflow}
use Rattle.pm_words.specs.declared.stack.Popped.{Popped}
use Rattle.pm_words.specs.Words.{IsMemory, copied, word_at}
use Rattle.pm_words.specs.Stack.{demand, is_even, load, pop, words_lie_in_memory}
use Rattle.pm_families.specs.declared.families.Arithmetic.{Arithmetic}
use Rattle.pm_families.specs.declared.families.Arithmetic.TheVariants as arithmetic
use Rattle.pm_families.specs.declared.families.Pointer.{Pointer}
use Rattle.pm_families.specs.declared.families.Pointer.TheVariants as pointer
use Rattle.pm_effects.specs.Effects.{arithmetic_effect}
use Rattle.pm_rows.specs.Arithmetic.{arithmetic_row, binary_row, check_row, constant_row, relation_row, unary_row}
use Rattle.pm_rows.specs.Integers.{binary}
use Rattle.pm_rows.specs.Pointers.{increment_row, index_row, indirect_row, load_words_row, move_row, pointer_row, store_indirect_row, store_words_row}
use Rattle.pm_machine.specs.Written.{stretch}
use Rattle.pm_machine.specs.ReadStretches.{pointer_read, taken}
use Rattle.law_engine.proofs.StoredWords.{popped}
use Rattle.law_engine.proofs.ReadSteps.{Agree, RowAlike, RowsAlike, Same, both, copy_alike, done, first_same, load_same, pop_same, pushed_alike}
use Rattle.law_engine.proofs.ReadSteps.{rest_agree, stored_alike}

-- If the `k` bytes from `sp` on are the same in `m` and `n`, then popping a second word within these bytes gives the
-- same result in both memories.
pub next_same : (m n : List ℕ) (sp k x : ℕ) (p : Popped) → Same m n sp k → pop m x ≡ Ok p → sp ≤ x → x + 4 ≤ sp + k → pop n p.above ≡ pop m p.above
next_same m n sp k x p same h low room =
    let above = (popped m x p h).above in
    pop_same m n sp k p.above same (omega (arith, above, low)) (omega (arith, above, room))

pub next : (m n : List ℕ) (x y : ℕ) (p : Popped) → pop m x ≡ Ok p → x ≡ y → p.above ≡ y + 2
next m n x y p h e = (popped m x p h).above ∙ omega (arith, e)

-- ---- integers

pub arithmetic_alike : (o : Arithmetic) (m n : List ℕ) (sp np : ℕ) → IsMemory m → IsMemory n → Agree (taken (arithmetic_effect o) m sp) m n
    → RowsAlike m n (arithmetic_row o m sp np) (arithmetic_row o n sp np)
unfolding arithmetic_row constant_row unary_row binary_row relation_row check_row
arithmetic_alike (arithmetic.Constant w) m n sp np memory other agree = pushed_alike m n sp np w memory other
arithmetic_alike arithmetic.Nil m n sp np memory other agree = pushed_alike m n sp np 0 memory other
arithmetic_alike (arithmetic.OnOne o) m n sp np memory other agree =
    let same = first_same sp 2 [] m n agree in
    both (RowAlike m n) (pop m sp) (pop n sp) _ _ (pop_same m n sp 2 sp same (omega arith) (omega arith)) (λ a h. pushed_alike m n a.above np _ memory other)
arithmetic_alike (arithmetic.OnTwo o) m n sp np memory other agree =
    let same = first_same sp 4 [] m n agree in
    both (RowAlike m n) (pop m sp) (pop n sp) _ _ (pop_same m n sp 4 sp same (omega arith) (omega arith)) (λ b h.
    both (RowAlike m n) (pop m b.above) (pop n b.above) _ _ (next_same m n sp 4 sp b same h (omega arith) (omega arith)) (λ a k.
    both (RowAlike m n) (binary o a.word b.word) (binary o a.word b.word) _ _ refl (λ c l. pushed_alike m n a.above np c memory other)))
arithmetic_alike (arithmetic.Compare o) m n sp np memory other agree =
    let same = first_same sp 4 [] m n agree in
    both (RowAlike m n) (pop m sp) (pop n sp) _ _ (pop_same m n sp 4 sp same (omega arith) (omega arith)) (λ b h.
    both (RowAlike m n) (pop m b.above) (pop n b.above) _ _ (next_same m n sp 4 sp b same h (omega arith) (omega arith)) (λ a k.
    pushed_alike m n a.above np _ memory other))
arithmetic_alike arithmetic.Check m n sp np memory other agree =
    let same = first_same sp 6 [] m n agree in
    both (RowAlike m n) (pop m sp) (pop n sp) _ _ (pop_same m n sp 6 sp same (omega arith) (omega arith)) (λ c h.
    let second = (popped m sp c h).above in
    both (RowAlike m n) (pop m c.above) (pop n c.above) _ _ (next_same m n sp 6 sp c same h (omega arith) (omega arith)) (λ b k.
    both (RowAlike m n) (pop m b.above) (pop n b.above) _ _ (next_same m n sp 6 c.above b same k (omega (arith, second)) (omega (arith, second))) (λ a l.
    both (RowAlike m n) (demand _ InvalidIndex) (demand _ InvalidIndex) _ _ refl (λ u q. pushed_alike m n a.above np a.word memory other))))

-- ---- pointers

inside : (a n : ℕ) → words_lie_in_memory a n ≡ true → a + 2 * n ≤ 65536
inside a n h = let parts = and_parts (is_even a) (nat_le (a + 2 * n) 65536) h in grind (arith, nat_tests, parts.1)

pub held : (b : Bool) (e : ExecError) (x : Unit {0}) → demand b e ≡ Ok x → b ≡ true
held true e x h = refl
held false e x h = cc

fits : (np n sp : ℕ) → nat_le (np + 2 * n) sp ≡ true → 2 * n ≤ sp
fits np n sp h = let l : np + 2 * n ≤ sp = grind (arith, nat_tests) in omega (arith, l)

move_alike : (b : ℕ) (m n : List ℕ) (sp np : ℕ) → IsMemory m → IsMemory n → Same m n sp 4 → Same m n (word_at m sp) (2 * b)
    → RowsAlike m n (move_row b m sp np) (move_row b n sp np)
unfolding move_row
move_alike b m n sp np memory other same source =
    both (RowAlike m n) (pop m sp) (pop n sp) _ _ (pop_same m n sp 4 sp same (omega arith) (omega arith)) (λ f h.
    both (RowAlike m n) (pop m f.above) (pop n f.above) _ _ (next_same m n sp 4 sp f same h (omega arith) (omega arith)) (λ t k.
    both (RowAlike m n) (demand (nat_lt b 32768) InvalidMemory) (demand (nat_lt b 32768) InvalidMemory) _ _ refl (λ u q.
    both (RowAlike m n) (demand (words_lie_in_memory f.word b) InvalidMemory) (demand (words_lie_in_memory f.word b) InvalidMemory) _ _ refl (λ v y.
    both (RowAlike m n) (demand (words_lie_in_memory t.word b) InvalidMemory) (demand (words_lie_in_memory t.word b) InvalidMemory) _ _ refl (λ w z.
    done m n (copied m f.word t.word (2 * b)) (copied n f.word t.word (2 * b)) t.above
    (copy_alike m n f.word t.word (2 * b) (subst (λ i. Same m n i (2 * b)) (sym (popped m sp f h).word) source) memory other
    (inside f.word b (held (words_lie_in_memory f.word b) InvalidMemory v y))
    (inside t.word b (held (words_lie_in_memory t.word b) InvalidMemory w z))))))))

load_words_alike : (c : ℕ) (m n : List ℕ) (sp np : ℕ) → IsMemory m → IsMemory n → Same m n sp 2 → Same m n (word_at m sp) (2 * c)
    → RowsAlike m n (load_words_row c m sp np) (load_words_row c n sp np)
unfolding load_words_row
load_words_alike c m n sp np memory other same source =
    both (RowAlike m n) (pop m sp) (pop n sp) _ _ (pop_same m n sp 2 sp same (omega arith) (omega arith)) (λ a h.
    both (RowAlike m n) (demand (words_lie_in_memory a.word c) InvalidMemory) (demand (words_lie_in_memory a.word c) InvalidMemory) _ _ refl (λ u k.
    both (RowAlike m n) (demand (nat_le (np + 2 * c) a.above) StackOverflow) (demand (nat_le (np + 2 * c) a.above) StackOverflow) _ _ refl (λ v l.
    let is = popped m sp a h in
    let above = is.above in
    let top = is.room in
    let room = fits np c a.above (held (nat_le (np + 2 * c) a.above) StackOverflow v l) in
    done m n (copied m a.word (a.above - 2 * c) (2 * c)) (copied n a.word (a.above - 2 * c) (2 * c)) (a.above - 2 * c)
    (copy_alike m n a.word (a.above - 2 * c) (2 * c) (subst (λ i. Same m n i (2 * c)) (sym is.word) source) memory other
    (inside a.word c (held (words_lie_in_memory a.word c) InvalidMemory u k)) (omega (arith, above, top, room))))))

store_words_alike : (c : ℕ) (m n : List ℕ) (sp np : ℕ) → IsMemory m → IsMemory n → Same m n sp (2 * c + 2)
    → RowsAlike m n (store_words_row c m sp np) (store_words_row c n sp np)
unfolding store_words_row
store_words_alike c m n sp np memory other same =
    both (RowAlike m n) (pop m (sp + 2 * c)) (pop n (sp + 2 * c)) _ _ (pop_same m n sp (2 * c + 2) (sp + 2 * c) same (omega arith) (omega arith)) (λ a h.
    both (RowAlike m n) (demand (words_lie_in_memory a.word c) InvalidMemory) (demand (words_lie_in_memory a.word c) InvalidMemory) _ _ refl (λ u k.
    let top = (popped m (sp + 2 * c) a h).room in
    done m n (copied m sp a.word (2 * c)) (copied n sp a.word (2 * c)) a.above
    (copy_alike m n sp a.word (2 * c) (λ x low high. same x low (omega (arith, high))) memory other (omega (arith, top))
    (inside a.word c (held (words_lie_in_memory a.word c) InvalidMemory u k)))))

indirect_alike : (b : ℕ) (m n : List ℕ) (sp np : ℕ) → IsMemory m → IsMemory n → Same m n sp 2 → Same m n ((word_at m sp + 2 * b) % 65536) 2
    → RowsAlike m n (indirect_row b m sp np) (indirect_row b n sp np)
unfolding indirect_row
indirect_alike b m n sp np memory other same source =
    both (RowAlike m n) (pop m sp) (pop n sp) _ _ (pop_same m n sp 2 sp same (omega arith) (omega arith)) (λ a h.
    let at : Same m n ((a.word + 2 * b) % 65536) 2 = subst (λ i. Same m n ((i + 2 * b) % 65536) 2) (sym (popped m sp a h).word) source in
    both (RowAlike m n) (load m ((a.word + 2 * b) % 65536)) (load n ((a.word + 2 * b) % 65536)) _ _
    (load_same m n ((a.word + 2 * b) % 65536) 2 ((a.word + 2 * b) % 65536) at (omega arith) (omega arith)) (λ w k. pushed_alike m n a.above np w memory other))

pub pointer_alike : (o : Pointer) (m n : List ℕ) (sp np : ℕ) → IsMemory m → IsMemory n → Agree (pointer_read o m sp) m n
    → RowsAlike m n (pointer_row o m sp np) (pointer_row o n sp np)
unfolding pointer_row increment_row index_row store_indirect_row
pointer_alike (pointer.Increment b) m n sp np memory other agree =
    let same = first_same sp 2 [] m n agree in
    both (RowAlike m n) (pop m sp) (pop n sp) _ _ (pop_same m n sp 2 sp same (omega arith) (omega arith)) (λ a h. pushed_alike m n a.above np _ memory other)
pointer_alike (pointer.Load b) m n sp np memory other agree =
    let source = stretch ((word_at m sp + 2 * b) % 65536) 2 in
    indirect_alike b m n sp np memory other (first_same sp 2 (source ∷ []) m n agree)
    (first_same ((word_at m sp + 2 * b) % 65536) 2 [] m n (rest_agree (stretch sp 2) (source ∷ []) m n agree))
pointer_alike (pointer.Index b) m n sp np memory other agree =
    let same = first_same sp 4 [] m n agree in
    both (RowAlike m n) (pop m sp) (pop n sp) _ _ (pop_same m n sp 4 sp same (omega arith) (omega arith)) (λ i h.
    both (RowAlike m n) (pop m i.above) (pop n i.above) _ _ (next_same m n sp 4 sp i same h (omega arith) (omega arith)) (λ a k.
    pushed_alike m n a.above np _ memory other))
pointer_alike pointer.Store m n sp np memory other agree =
    let same = first_same sp 4 [] m n agree in
    both (RowAlike m n) (pop m sp) (pop n sp) _ _ (pop_same m n sp 4 sp same (omega arith) (omega arith)) (λ v h.
    both (RowAlike m n) (pop m v.above) (pop n v.above) _ _ (next_same m n sp 4 sp v same h (omega arith) (omega arith)) (λ a k.
    stored_alike m n a.word v.word a.above memory other))
pointer_alike (pointer.LoadWords c) m n sp np memory other agree =
    load_words_alike c m n sp np memory other (first_same sp 2 (stretch (word_at m sp) (2 * c) ∷ []) m n agree)
    (first_same (word_at m sp) (2 * c) [] m n (rest_agree (stretch sp 2) (stretch (word_at m sp) (2 * c) ∷ []) m n agree))
pointer_alike (pointer.StoreWords c) m n sp np memory other agree =
    let all = first_same sp (2 * (c + 1 + 0)) [] m n agree in
    store_words_alike c m n sp np memory other (λ x low high. all x low (omega (arith, high)))
pointer_alike (pointer.Move b) m n sp np memory other agree =
    move_alike b m n sp np memory other (first_same sp 4 (stretch (word_at m sp) (2 * b) ∷ []) m n agree)
    (first_same (word_at m sp) (2 * b) [] m n (rest_agree (stretch sp 4) (stretch (word_at m sp) (2 * b) ∷ []) m n agree))
