-- Lemmas for the rows of variables, literals and jumps in two memories that agree on the bytes that the rows read.
use Rattle.std.proofs.Common.{◌≡◌, ◌≤◌, ℕ, zero, suc, ◌+◌, ◌-◌, ◌*◌, ◌/◌, ◌%◌, ◌==◌, ◌&&◌, Bool, true, false, nat_le, nat_lt}
use Rattle.std.proofs.Common.{List, [], ◌∷◌, ◌++◌, length, Result, Ok, Err, refl, sym, ◌∙◌, subst, arith}
use Rattle.std.specs.Prelude.{if◌then◌else◌, not, reverse}
use Rattle.std.proofs.lemmas.Bool.{and_parts}
use Rattle.std.proofs.lemmas.Bool.Decides.{nat_tests}
use Rattle.std.proofs.lemmas.List.{length-reverse}
use Rattle.pm_words.specs.declared.error.ExecError.{ExecError}
use Rattle.pm_words.specs.declared.error.ExecError.TheVariants.{InvalidMemory, NoSegment, StackOverflow}
use Rattle.pm_words.specs.Words.{IsMemory, word_at, with_words, words_at}
use Rattle.pm_words.specs.Stack.{◌>>=◌, demand, is_even, load, pop, words_lie_in_memory}
use Rattle.pm_words.proofs.Laws.{length-words_at}
use Rattle.pm_families.specs.declared.families.Variable.{Variable}
use Rattle.pm_families.specs.declared.families.Variable.TheVariants as variable
use Rattle.pm_families.specs.declared.families.Scope.{Scope}
use Rattle.pm_families.specs.declared.families.Scope.TheVariants.{Global, Intermediate, Local}
use Rattle.pm_families.specs.declared.families.Literal.{Literal}
use Rattle.pm_families.specs.declared.families.Literal.TheVariants as literal
use Rattle.pm_families.specs.declared.families.Condition.{Condition}
use Rattle.pm_families.specs.declared.families.Condition.TheVariants as condition
use Rattle.pm_calls.specs.declared.registers.Registers.{Registers}
use Rattle.pm_calls.specs.Links.{link, up}
use Rattle.pm_rows.specs.Jumps.{entry_target, jumped, short_row, target}
use Rattle.pm_rows.specs.Literals.{literal_address_row, literal_row, words_row}
use Rattle.pm_rows.specs.Variables.{frame_of, load_row, store_row, variable_address_row, variable_at, variable_row}
use Rattle.pm_machine.specs.Written.{Stretch, stretch, word_stretch}
use Rattle.pm_machine.specs.ReadStretches.{entry_read, frame_read, is_taken, links_read, taken}
use Rattle.pm_effects.specs.Effects.{condition_effect}
use Rattle.law_engine.proofs.StoreRows.{word_below}
use Rattle.law_engine.proofs.StoredWords.{popped}
use Rattle.law_engine.proofs.ReadSteps.{Agree, Both, RowAlike, RowsAlike, Same, as_before, both, done, first_same, load_same, pop_same, pushed_alike}
use Rattle.law_engine.proofs.ReadSteps.{rest_agree, right_agree, stored_alike, words_alike, words_same}
use Rattle.law_engine.proofs.ReadRows.{held, next_same}

-- ---- variables

pub up_same : (k : ℕ) (m n : List ℕ) (a : ℕ) → Agree (links_read m a k) m n → up n a k ≡ up m a k
unfolding up links_read
up_same zero m n a agree = refl
up_same (suc k) m n a agree =
    rw (up_same k m n a (right_agree (word_stretch (up m a k)) (links_read m a k) m n agree)) (of (up m a k) agree)
  where
    of : (r : Result ℕ ExecError) → Agree (word_stretch r ++ links_read m a k) m n → (r >>= λ f. load n f) ≡ (r >>= λ f. load m f)
    of (Ok f) h = load_same m n f 2 f (first_same f 2 (links_read m a k) m n h) (omega arith) (omega arith)
    of (Err e) h = refl

pub link_same : (k : ℕ) (m n : List ℕ) (a : ℕ) → Agree (if nat_lt 127 k then [] else links_read m a k) m n → link n a k ≡ link m a k
unfolding link
link_same k m n a agree = of (nat_lt 127 k) agree
  where
    of : (b : Bool) → Agree (if b then [] else links_read m a k) m n → (if b then Err NoSegment else up n a k) ≡ (if b then Err NoSegment else up m a k)
    of true h = refl
    of false h = up_same k m n a h

frame_same : (scope : Scope) (m n : List ℕ) (r : Registers) → Agree (frame_read scope m r.mp) m n → frame_of scope n r ≡ frame_of scope m r
frame_same Global m n r agree = refl
frame_same Local m n r agree = refl
frame_same (Intermediate k) m n r agree = link_same k m n r.mp agree

pub variable_same : (scope : Scope) (b : ℕ) (m n : List ℕ) (r : Registers) → Agree (frame_read scope m r.mp) m n
    → variable_at scope b n r ≡ variable_at scope b m r
variable_same scope b m n r agree = rw (frame_same scope m n r agree) refl

load_alike : (scope : Scope) (b : ℕ) (m n : List ℕ) (r : Registers) (at : Result ℕ ExecError) → IsMemory m → IsMemory n
    → variable_at scope b m r ≡ at → Agree (word_stretch at ++ frame_read scope m r.mp) m n → RowsAlike m n (load_row scope b m r) (load_row scope b n r)
unfolding load_row
load_alike scope b m n r (Ok x) memory other found agree =
    rw (variable_same scope b m n r (right_agree (stretch x 2 ∷ []) (frame_read scope m r.mp) m n agree), found)
    (both (RowAlike m n) (load m x) (load n x) _ _
    (load_same m n x 2 x (first_same x 2 (frame_read scope m r.mp) m n agree) (omega arith) (omega arith)) (λ w h. pushed_alike m n r.sp r.np w memory other))
load_alike scope b m n r (Err e) memory other found agree =
    rw (variable_same scope b m n r agree, found) tt

-- Returns the ranges of bytes that the row of a variable reads.
abbrev pub variable_reads : Variable → List ℕ → Registers → List Stretch
variable_reads (variable.Address scope b) m r = frame_read scope m r.mp
variable_reads (variable.Load scope b) m r = word_stretch (variable_at scope b m r) ++ frame_read scope m r.mp
variable_reads (variable.Store scope b) m r = stretch r.sp 2 ∷ frame_read scope m r.mp

pub variable_alike : (o : Variable) (m n : List ℕ) (r : Registers) → IsMemory m → IsMemory n → Agree (variable_reads o m r) m n
    → RowsAlike m n (variable_row o m r) (variable_row o n r)
unfolding variable_row variable_address_row store_row
variable_alike (variable.Address scope b) m n r memory other agree =
    both (RowAlike m n) (variable_at scope b m r) (variable_at scope b n r) _ _ (variable_same scope b m n r agree)
    (λ x h. pushed_alike m n r.sp r.np x memory other)
variable_alike (variable.Load scope b) m n r memory other agree = load_alike scope b m n r (variable_at scope b m r) memory other refl agree
variable_alike (variable.Store scope b) m n r memory other agree =
    both (RowAlike m n) (pop m r.sp) (pop n r.sp) _ _
    (pop_same m n r.sp 2 r.sp (first_same r.sp 2 (frame_read scope m r.mp) m n agree) (omega arith) (omega arith)) (λ v h.
    both (RowAlike m n) (variable_at scope b m r) (variable_at scope b n r) _ _
    (variable_same scope b m n r (rest_agree (stretch r.sp 2) (frame_read scope m r.mp) m n agree)) (λ x k.
    stored_alike m n x v.word v.above memory other))

-- ---- literals

evenly : (a : ℕ) → is_even a ≡ true → a % 2 ≡ 0
evenly a e = grind (arith, nat_tests)

fits : (np n sp : ℕ) → nat_le (np + 2 * n) sp ≡ true → 2 * n ≤ sp
fits np n sp h = let l : np + 2 * n ≤ sp = grind (arith, nat_tests) in omega (arith, l)

inside : (a n : ℕ) → words_lie_in_memory a n ≡ true → a + 2 * n ≤ 65536
inside a n h = let parts = and_parts (is_even a) (nat_le (a + 2 * n) 65536) h in grind (arith, nat_tests, parts.1)

code_words_alike : (start c : ℕ) (m n : List ℕ) (sp np : ℕ) → IsMemory m → IsMemory n → sp ≤ 65504 → Same m n start (2 * c)
    → RowsAlike m n (words_row start c m sp np) (words_row start c n sp np)
unfolding words_row
code_words_alike start c m n sp np memory other top same =
    both (RowAlike m n) (demand (words_lie_in_memory start c && is_even sp) InvalidMemory) (demand
    (words_lie_in_memory start c && is_even sp) InvalidMemory) _ _ refl (λ u h.
    both (RowAlike m n) (demand (nat_le (np + 2 * c) sp) StackOverflow) (demand (nat_le (np + 2 * c) sp) StackOverflow) _ _ refl (λ v k.
    let lies = and_parts (words_lie_in_memory start c) (is_even sp) (held (words_lie_in_memory start c && is_even sp) InvalidMemory u h) in
    let even = evenly start (and_parts (is_even start) (nat_le (start + 2 * c) 65536) lies.0).0 in
    let source = inside start c lies.0 in
    let room = fits np c sp (held (nat_le (np + 2 * c) sp) StackOverflow v k) in
    let count : length (reverse (words_at m start c)) ≡ c =
    length-reverse (words_at m start c) ∙ length-words_at m start c (omega (arith, source, memory.size)) in
    rw (words_same m n start (2 * c) start c same memory other even (omega arith) (omega arith) source)
    (done m n (with_words m (sp - 2 * c) (reverse (words_at m start c))) (with_words n (sp - 2 * c) (reverse (words_at m start c))) (sp - 2 * c)
    (words_alike m n (reverse (words_at m start c)) (sp - 2 * c) memory other (omega (arith, count, room, top))))))

-- If the literal is that of LDC, then its bytes in the code are the same in both memories.
abbrev pub NamesSame : Literal → List ℕ → List ℕ → Type 0
NamesSame (literal.String start) m n = Unit {0}
NamesSame (literal.Characters start) m n = Unit {0}
NamesSame (literal.Words start count) m n = Same m n start count

pub literal_alike : (o : Literal) (m n : List ℕ) (sp np : ℕ) → IsMemory m → IsMemory n → sp ≤ 65504 → NamesSame o m n
    → RowsAlike m n (literal_row o m sp np) (literal_row o n sp np)
unfolding literal_row literal_address_row
literal_alike (literal.String start) m n sp np memory other top same = pushed_alike m n sp np _ memory other
literal_alike (literal.Characters start) m n sp np memory other top same = pushed_alike m n sp np _ memory other
literal_alike (literal.Words start count) m n sp np memory other top same =
    code_words_alike start (count / 2 % 256) m n sp np memory other top (λ x low high. same x low (omega (arith, high)))

-- ---- jumps

pub entry_same : (m n : List ℕ) (x : ℕ) → Same m n x 2 → entry_target n x ≡ entry_target m x
entry_same m n x same = rw (load_same m n x 2 x same (omega arith) (omega arith)) refl

target_same : (m n : List ℕ) (r : Registers) (offset : ℕ) → Agree (entry_read r offset) m n → target n r offset ≡ target m r offset
unfolding target
target_same m n r offset agree = of (nat_lt offset 32768) agree
  where
    x : ℕ
    x = (r.jtab + offset) % 65536

    of : (b : Bool) → Agree (if b then [] else stretch x 2 ∷ []) m n
        → (if b then Ok ((r.ipc + offset) % 65536) else (demand (is_even offset) InvalidMemory >>= λ _. entry_target n x))
        ≡ (if b then Ok ((r.ipc + offset) % 65536) else (demand (is_even offset) InvalidMemory >>= λ _. entry_target m x))
    of true h = refl
    of false h = rw (entry_same m n x (first_same x 2 [] m n h)) refl

jumped_same : (b : Bool) (m n : List ℕ) (r : Registers) (offset : ℕ) → Agree (if b then entry_read r offset else []) m n
    → jumped b n r offset ≡ jumped b m r offset
jumped_same true m n r offset agree = rw (target_same m n r offset agree) refl
jumped_same false m n r offset agree = refl

-- The registers `r` and `t` are equal.
abbrev pub Equal : Registers → Registers → Type 0
Equal r t = t ≡ r

same_jump : (b : Bool) (m n : List ℕ) (r : Registers) (offset : ℕ) → Agree (if b then entry_read r offset else []) m n
    → Both Equal (jumped b m r offset) (jumped b n r offset)
same_jump b m n r offset agree = as_before Equal (jumped b m r offset) (jumped b n r offset) (λ x. refl) (jumped_same b m n r offset agree)

two_alike : (f : ℕ → ℕ → Bool) (m n : List ℕ) (r : Registers) (offset : ℕ)
    → Agree (stretch r.sp 4 ∷ (if f (word_at m (r.sp + 2)) (word_at m r.sp) then entry_read r offset else [])) m n
    → Both Equal (pop m r.sp >>= λ b. (pop m b.above >>= λ a. jumped (f a.word b.word) m (record r { sp = a.above }) offset))
    (pop n r.sp >>= λ b. (pop n b.above >>= λ a. jumped (f a.word b.word) n (record r { sp = a.above }) offset))
two_alike f m n r offset agree =
    let more = if f (word_at m (r.sp + 2)) (word_at m r.sp) then entry_read r offset else [] in
    let same = first_same r.sp 4 more m n agree in
    both Equal (pop m r.sp) (pop n r.sp) _ _ (pop_same m n r.sp 4 r.sp same (omega arith) (omega arith)) (λ b h.
    both Equal (pop m b.above) (pop n b.above) _ _ (next_same m n r.sp 4 r.sp b same h (omega arith) (omega arith)) (λ a k.
    same_jump (f a.word b.word) m n (record r { sp = a.above }) offset
    (subst (λ (v : ℕ). Agree (if f a.word v then entry_read r offset else []) m n) (sym (popped m r.sp b h).word)
    (subst (λ (w : ℕ). Agree (if f w (word_at m r.sp) then entry_read r offset else []) m n) (sym (word_below m r.sp b a h k).0)
    (rest_agree (stretch r.sp 4) more m n agree)))))

pub short_alike : (c : Condition) (m n : List ℕ) (r : Registers) (offset : ℕ)
    → Agree (taken (condition_effect c) m r.sp ++ (if is_taken c m r.sp then entry_read r offset else [])) m n
    → Both Equal (short_row c m r offset) (short_row c n r offset)
unfolding short_row
short_alike condition.Always m n r offset agree = same_jump true m n r offset (right_agree (stretch r.sp 0 ∷ []) (entry_read r offset) m n agree)
short_alike condition.IfFalse m n r offset agree =
    let more = if word_at m r.sp % 2 == 0 then entry_read r offset else [] in
    let same = first_same r.sp 2 more m n agree in
    both Equal (pop m r.sp) (pop n r.sp) _ _ (pop_same m n r.sp 2 r.sp same (omega arith) (omega arith)) (λ a h.
    same_jump (a.word % 2 == 0) m n (record r { sp = a.above }) offset
    (subst (λ (w : ℕ). Agree (if w % 2 == 0 then entry_read r offset else []) m n) (sym (popped m r.sp a h).word)
    (rest_agree (stretch r.sp 2) more m n agree)))
short_alike condition.IfDifferent m n r offset agree = two_alike (λ v w. not (v == w)) m n r offset agree
short_alike condition.IfEqual m n r offset agree = two_alike (λ v w. v == w) m n r offset agree
