-- Lemmas: LDM loads the words again that STM has stored.
use Rattle.std.proofs.Common.{◌≡◌, ◌≢◌, ◌<◌, ◌≤◌, ◌⊎◌, inl, inr, ℕ, ◌+◌, ◌-◌, ◌*◌, ◌%◌, Bool, true}
use Rattle.std.proofs.Common.{false, cond, nat_lt, nat_le, List, Result, Ok, Err, refl, sym, ap, ◌∙◌, arith}
use Rattle.std.proofs.lemmas.Bool.{and_parts}
use Rattle.std.proofs.lemmas.Bool.Decides.{nat_tests}
use Rattle.pm_words.specs.declared.error.ExecError.{ExecError}
use Rattle.pm_words.specs.declared.error.ExecError.TheVariants.{InvalidMemory, StackOverflow}
use Rattle.pm_words.specs.declared.stack.Popped.{Popped}
use Rattle.pm_words.specs.Words.{IsMemory, copied, with_word, word_at}
use Rattle.pm_words.specs.Stack.{is_even, load, pop, push, store, words_lie_in_memory}
use Rattle.pm_words.proofs.Laws.{word_at-with_word_other, word_at-written}
use Rattle.pm_words.proofs.RangeLaws.{IsMemory-copied, word_at-copied}
use Rattle.pm_rows.specs.Pointers.{load_words_row, store_words_row}
use Rattle.law_engine.specs.PointerLaws.{StoredWordsAreLoaded}
use Rattle.pm_calls.proofs.ReturnLaws.{bound, ok_same, passed}

not_refused : {A : Type 0} (b : Bool) (e : ExecError) (r : Result A ExecError) (y : A) → cond b (Err e) r ≡ Ok y → (b ≡ false) × (r ≡ Ok y)
not_refused true e r y h = cc
not_refused false e r y h = (refl, h)

allowed : {A : Type 0} (b : Bool) (e : ExecError) (x y : A) → cond b (Ok x) (Err e) ≡ Ok y → (b ≡ true) × (x ≡ y)
allowed true e x y h = (refl, ok_same x y h)
allowed false e x y h = cc

pub record IsPopped (m : List ℕ) (sp : ℕ) (p : Popped) : Type 0 where
  pub room : sp ≤ 65502
  pub even : sp % 2 ≡ 0
  pub word : p.word ≡ word_at m sp
  pub above : p.above ≡ sp + 2

pub popped : (m : List ℕ) (sp : ℕ) (p : Popped) → pop m sp ≡ Ok p → IsPopped m sp p
popped m sp p h =
    let first = not_refused (nat_lt 65502 sp) InvalidMemory _ p h in
    let second = bound (load m sp) _ p first.1 in
    let third = allowed (is_even sp) InvalidMemory (word_at m sp) second.0 second.1 in
    let same = ok_same _ p second.2 in
    record {
      room = grind (arith, nat_tests, first.0);
      even = grind (arith, nat_tests, third.0);
      word = sym (ap (λ (q : Popped). q.word) same) ∙ sym third.1;
      above = sym (ap (λ (q : Popped). q.above) same);
    }

record IsPushed (m : List ℕ) (sp w : ℕ) (n : List ℕ) (t : ℕ) : Type 0 where
  pub memory : n ≡ with_word m (sp - 2) w
  pub top : t ≡ sp - 2

pushed : (m : List ℕ) (sp np w : ℕ) (n : List ℕ) (t : ℕ) → push m sp np w ≡ Ok (n, t) → IsPushed m sp w n t
pushed m sp np w n t h =
    let first = not_refused (nat_lt sp (np + 2)) StackOverflow _ (n, t) h in
    let second = bound (store m (sp - 2) w) _ (n, t) first.1 in
    let third = allowed (is_even (sp - 2)) InvalidMemory (with_word m (sp - 2) w) second.0 second.1 in
    let same = ok_same _ (n, t) second.2 in
    record {
      memory = sym (ap (λ (q : List ℕ × ℕ). q.0) same) ∙ sym third.1;
      top = sym (ap (λ (q : List ℕ × ℕ). q.1) same);
    }

record IsStored (m : List ℕ) (n sp : ℕ) (o : List ℕ) (t : ℕ) : Type 0 where
  pub room : sp + 2 * n ≤ 65502
  pub place : sp % 2 ≡ 0
  pub even : word_at m (sp + 2 * n) % 2 ≡ 0
  pub inside : word_at m (sp + 2 * n) + 2 * n ≤ 65536
  pub memory : o ≡ copied m sp (word_at m (sp + 2 * n)) (2 * n)
  pub top : t ≡ sp + 2 * n + 2

stored_there : (m : List ℕ) (n sp np : ℕ) (o : List ℕ) (t : ℕ) → store_words_row n m sp np ≡ Ok (o, t) → IsStored m n sp o t
unfolding store_words_row
stored_there m n sp np o t h =
    let a = bound (pop m (sp + 2 * n)) _ (o, t) h in
    let p = popped m (sp + 2 * n) a.0 a.1 in
    let rest = passed (words_lie_in_memory a.0.word n) InvalidMemory _ (o, t) a.2 in
    let parts = and_parts (is_even a.0.word) (nat_le (a.0.word + 2 * n) 65536) rest.0 in
    let even : a.0.word % 2 ≡ 0 = grind (arith, nat_tests, parts.0) in
    let inside : a.0.word + 2 * n ≤ 65536 = grind (arith, nat_tests, parts.1) in
    let whole = p.even in
    let same = ok_same _ (o, t) rest.1 in
    record {
      room = p.room;
      place = omega (arith, whole);
      even = rw p.word at even;
      inside = rw p.word at inside;
      memory = sym (ap (λ (q : List ℕ × ℕ). q.0) same) ∙ ap (λ w. copied m sp w (2 * n)) p.word;
      top = sym (ap (λ (q : List ℕ × ℕ). q.1) same) ∙ p.above;
    }

record IsLoaded (m : List ℕ) (n sp : ℕ) (o : List ℕ) (t : ℕ) : Type 0 where
  pub room : 2 * n ≤ sp + 2
  pub memory : o ≡ copied m (word_at m sp) (sp + 2 - 2 * n) (2 * n)
  pub top : t ≡ sp + 2 - 2 * n

loaded_there : (m : List ℕ) (n sp np : ℕ) (o : List ℕ) (t : ℕ) → load_words_row n m sp np ≡ Ok (o, t) → IsLoaded m n sp o t
unfolding load_words_row
loaded_there m n sp np o t h =
    let a = bound (pop m sp) _ (o, t) h in
    let p = popped m sp a.0 a.1 in
    let rest = passed (words_lie_in_memory a.0.word n) InvalidMemory _ (o, t) a.2 in
    let fits = passed (nat_le (np + 2 * n) a.0.above) StackOverflow _ (o, t) rest.1 in
    let room : np + 2 * n ≤ a.0.above = grind (arith, nat_tests, fits.0) in
    let above = p.above in
    let same = ok_same _ (o, t) fits.1 in
    record {
      room = omega (arith, room, above);
      memory = sym (ap (λ (q : List ℕ × ℕ). q.0) same) ∙ ap (λ w. copied m w (a.0.above - 2 * n) (2 * n)) p.word
          ∙ ap (λ w. copied m (word_at m sp) (w - 2 * n) (2 * n)) above;
      top = sym (ap (λ (q : List ℕ × ℕ). q.1) same) ∙ ap (λ w. w - 2 * n) above;
    }

apart : (a n u k : ℕ) → k < n → (a + 2 * n ≤ u) ⊎ (u + 2 ≤ a) → a + 2 * k ≢ u
apart a n u k l (inl low) = λ e. omega (arith, l, low, e)
apart a n u k l (inr high) = λ e. omega (arith, high, e)

-- If `n` words are copied from `sp` to `a`, then `a` is written at `u` outside the copy, and then the copy is copied to
-- the stack, then word `k` on the stack is the word `k` at `sp` in `m`.
one_word : (m o q r : List ℕ) (n sp a u k : ℕ) → IsMemory m → IsMemory q → k < n → sp + 2 * n ≤ 65502 → sp % 2 ≡ 0 → a % 2 ≡ 0 → a + 2 * n ≤ 65536 →
    u ≡ sp + 2 * n → (a + 2 * n ≤ u) ⊎ (u + 2 ≤ a) →
    o ≡ copied m sp a (2 * n) → q ≡ with_word o u a → r ≡ copied q a (u + 2 - 2 * n) (2 * n) →
    word_at r (u + 2 - 2 * n + 2 * k) ≡ word_at m (sp + 2 * k)
one_word m o q r n sp a u k memory named l room place even inside there out first second third =
    let back : a + (u + 2 - 2 * n + 2 * k - (u + 2 - 2 * n)) ≡ a + 2 * k = omega arith in
    let from : sp + (a + 2 * k - a) ≡ sp + 2 * k = omega arith in
    ap (λ x. word_at x (u + 2 - 2 * n + 2 * k)) third
    ∙ word_at-copied q a (u + 2 - 2 * n) (2 * n) (u + 2 - 2 * n + 2 * k) named inside (omega (arith, room, there)) even
    (omega (arith, there, place)) (omega (arith, there, place)) (omega arith) (omega (arith, l))
    ∙ ap (word_at q) back
    ∙ ap (λ x. word_at x (a + 2 * k)) second
    ∙ word_at-with_word_other o u (a + 2 * k) a (omega (arith, there, place)) (omega (arith, even)) (apart a n u k l out)
    ∙ ap (λ x. word_at x (a + 2 * k)) first
    ∙ word_at-copied m sp a (2 * n) (a + 2 * k) memory (omega (arith, room)) inside place even (omega (arith, even)) (omega arith) (omega (arith, l))
    ∙ ap (word_at m) from

pub stored_words_are_loaded : StoredWordsAreLoaded
stored_words_are_loaded m o q r n sp np t u v memory named out store named_again load k l =
    let a = word_at m (sp + 2 * n) in
    let s = stored_there m n sp np o t store in
    let p = pushed o t np a q u named_again in
    let d = loaded_there q n u np r v load in
    let below = s.top in
    let taken = p.top in
    let there : u ≡ sp + 2 * n = omega (arith, below, taken) in
    let second : q ≡ with_word o u a = p.memory ∙ ap (λ x. with_word o x a) (sym p.top) in
    let room = s.room in
    let place = s.place in
    let size = (IsMemory-copied m sp a (2 * n) memory (omega (arith, room)) s.inside) in
    let top : word_at q u ≡ a = ap (λ x. word_at x u) second ∙ word_at-written o u u a (subst_memory o _ (sym s.memory) size)
    (omega (arith, room, there)) refl in
    let third : r ≡ copied q a (u + 2 - 2 * n) (2 * n) = d.memory ∙ ap (λ x. copied q x (u + 2 - 2 * n) (2 * n)) top in
    ap (λ x. word_at r (x + 2 * k)) d.top
    ∙ one_word m o q r n sp a u k memory named l room place s.even s.inside there
    (place_apart a n u (sp + 2 * n) there out) s.memory second third
  where
    subst_memory : (o x : List ℕ) → x ≡ o → IsMemory x → IsMemory o
    subst_memory o x e h = rw e at h

    place_apart : (a n u w : ℕ) → u ≡ w → (a + 2 * n ≤ w) ⊎ (w + 2 ≤ a) → (a + 2 * n ≤ u) ⊎ (u + 2 ≤ a)
    place_apart a n u w e h = rw e h
