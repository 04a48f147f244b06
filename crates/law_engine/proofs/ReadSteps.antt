-- Definitions and lemmas for two executions of a rule, in two memories `m` and `n` that agree on the bytes that the
-- rule reads. Memories *change alike* if each byte is the same in both new memories, or unchanged in both.
use Rattle.std.proofs.Common.{◌≡◌, ◌<◌, ◌≤◌, ◌⊎◌, inl, inr, ⊎_elim, ℕ, ◌+◌, ◌-◌, ◌*◌, ◌/◌, ◌%◌, ◌||◌, Bool, true, false, nat_lt}
use Rattle.std.proofs.Common.{List, [], ◌∷◌, ◌++◌, length, drop, get_or, set, Result, Ok, Err, refl, sym, ap, ◌∙◌, arith}
use Rattle.std.specs.List.{All, list_any}
use Rattle.std.proofs.lemmas.Bool.{cases_Bool, cases_lt, cases_eq}
use Rattle.std.proofs.lemmas.Bool.Decides.{nat_tests}
use Rattle.pm_words.specs.declared.error.ExecError.{ExecError}
use Rattle.std.proofs.lemmas.List.{ext_get_or, get_or_past, get_or-drop, get_or-set_other, get_or-set_same, get_or-take, length-set, places}
use Rattle.pm_words.specs.Words.{IsMemory, byte_at, bytes_at, bytes_of, copied, overwritten, with_bytes, with_word, with_words, word_at, words_at}
use Rattle.pm_words.specs.Stack.{◌>>=◌, demand, is_even, load, pop, push, store}
use Rattle.pm_words.proofs.Laws.{byte_at-even, byte_at-odd, byte_at-with_bytes, byte_at-with_bytes_other, get_or-with_words_other, length-words_at}
use Rattle.pm_words.proofs.Laws.{word_at-bytes}
use Rattle.pm_words.proofs.RangeLaws.{All-bytes_at, length-bytes_at}
use Rattle.pm_machine.specs.Written.{Stretch, stretch, touches}
use Rattle.law_engine.specs.ReadLaws.{ChangeAlike}

-- ---- memories that agree

-- Each byte in one of the ranges `ss` is the same in both memories.
abbrev pub Agree : List Stretch → List ℕ → List ℕ → Type 0
Agree ss m n = (x : ℕ) → list_any (touches x 1) ss ≡ true → byte_at n x ≡ byte_at m x

-- The `k` bytes from address `a` on are the same in both memories.
abbrev pub Same : List ℕ → List ℕ → ℕ → ℕ → Type 0
Same m n a k = (x : ℕ) → a ≤ x → x < a + k → byte_at n x ≡ byte_at m x

left_true : (b c : Bool) → b ≡ true → (b || c) ≡ true
left_true true c h = refl
left_true false c h = cc

right_true : (b c : Bool) → c ≡ true → (b || c) ≡ true
right_true true c h = refl
right_true false c h = h

touched : (x a k : ℕ) → a ≤ x → x < a + k → touches x 1 (stretch a k) ≡ true
touched x a k low high =
    let some : nat_lt 0 k ≡ true = grind (arith, nat_tests) in
    let below : nat_lt a (x + 1) ≡ true = grind (arith, nat_tests) in
    let above : nat_lt x (a + k) ≡ true = grind (arith, nat_tests) in
    rw (some, below, above) refl

pub first_same : (a k : ℕ) (ss : List Stretch) (m n : List ℕ) → Agree (stretch a k ∷ ss) m n → Same m n a k
first_same a k ss m n h = λ x low high. h x (left_true (touches x 1 (stretch a k)) (list_any (touches x 1) ss) (touched x a k low high))

pub rest_agree : (s : Stretch) (ss : List Stretch) (m n : List ℕ) → Agree (s ∷ ss) m n → Agree ss m n
rest_agree s ss m n h = λ x t. h x (right_true (touches x 1 s) (list_any (touches x 1) ss) t)

any_left : (f : Stretch → Bool) (ss ts : List Stretch) → list_any f ss ≡ true → list_any f (ss ++ ts) ≡ true
any_left f [] ts h = cc
any_left f (s ∷ ss) ts h = of (f s) (any_left f ss ts) h
  where
    of : (b : Bool) → (list_any f ss ≡ true → list_any f (ss ++ ts) ≡ true) → (b || list_any f ss) ≡ true → (b || list_any f (ss ++ ts)) ≡ true
    of true more e = refl
    of false more e = more e

any_right : (f : Stretch → Bool) (ss ts : List Stretch) → list_any f ts ≡ true → list_any f (ss ++ ts) ≡ true
any_right f [] ts h = h
any_right f (s ∷ ss) ts h = right_true (f s) (list_any f (ss ++ ts)) (any_right f ss ts h)

pub left_agree : (ss ts : List Stretch) (m n : List ℕ) → Agree (ss ++ ts) m n → Agree ss m n
left_agree ss ts m n h = λ x t. h x (any_left (touches x 1) ss ts t)

pub right_agree : (ss ts : List Stretch) (m n : List ℕ) → Agree (ss ++ ts) m n → Agree ts m n
right_agree ss ts m n h = λ x t. h x (any_right (touches x 1) ss ts t)

-- ---- the words that are read of them

pub word_same : (m n : List ℕ) (a k x : ℕ) → Same m n a k → x % 2 ≡ 0 → a ≤ x → x + 2 ≤ a + k → word_at n x ≡ word_at m x
word_same m n a k x same even low high =
    word_at-bytes n x even ∙ ap (λ (b : ℕ). b + 256 * byte_at n (x + 1)) (same x low (omega (arith, high)))
    ∙ ap (λ (b : ℕ). byte_at m x + 256 * b) (same (x + 1) (omega (arith, low)) (omega (arith, high))) ∙ sym (word_at-bytes m x even)

evenly : (a : ℕ) → is_even a ≡ true → a % 2 ≡ 0
evenly a e = grind (arith, nat_tests)

pub load_same : (m n : List ℕ) (a k x : ℕ) → Same m n a k → a ≤ x → x + 2 ≤ a + k → load n x ≡ load m x
load_same m n a k x same low high = elim (cases_Bool (is_even x)) [
  | inl e ↦ rw e (ap (λ (w : ℕ). Ok w) (word_same m n a k x same (evenly x e) low high))
  | inr e ↦ rw e refl
]

pub pop_same : (m n : List ℕ) (a k x : ℕ) → Same m n a k → a ≤ x → x + 2 ≤ a + k → pop n x ≡ pop m x
pop_same m n a k x same low high = rw (load_same m n a k x same low high) refl

-- ---- both runs, step by step

-- The second execution succeeds with a result `other`, which is related to the first result `x` by `Q`.
pub record Made {A E : Type 0} (Q : A → A → Type 0) (x : A) (r : Result A E) : Type 0 where
  pub other : A
  pub made : r ≡ Ok other
  pub like : Q x other

-- If the first execution succeeds, then the second succeeds too, and `Q` relates the results.
abbrev pub Both : {A E : Type 0} → (A → A → Type 0) → Result A E → Result A E → Type 0
Both Q (Ok x) r = Made Q x r
Both Q (Err e) r = Unit {0}

pub both : {A B E : Type 0} (Q : B → B → Type 0) (r u : Result A E) (f g : A → Result B E) → u ≡ r
    → ((x : A) → r ≡ Ok x → Both Q (f x) (g x)) → Both Q (r >>= f) (u >>= g)
both Q (Ok x) u f g same h = rw same (h x refl)
both Q (Err e) u f g same h = tt

-- ---- the words that are written

-- The results are equal except for the memories, which changed alike.
abbrev pub RowAlike : {A : Type 0} → List ℕ → List ℕ → (List ℕ × A) → (List ℕ × A) → Type 0
RowAlike m n t u = (u.1 ≡ t.1) × ChangeAlike m t.0 n u.0

abbrev pub RowsAlike : {A : Type 0} → List ℕ → List ℕ → Result (List ℕ × A) ExecError → Result (List ℕ × A) ExecError → Type 0
RowsAlike m n r u = Both (RowAlike m n) r u

pub unchanged : (m n : List ℕ) → ChangeAlike m m n n
unchanged m n = λ x. inr (refl, refl)

pub done : {A : Type 0} (m n p q : List ℕ) (a : A) → ChangeAlike m p n q → RowsAlike m n (Ok (p, a)) (Ok (q, a))
done m n p q a h = record { other = (q, a); made = refl; like = (refl, h) }

-- If words change alike, then the bytes change alike.
abbrev WordsAlike : List ℕ → List ℕ → List ℕ → List ℕ → Type 0
WordsAlike m p n q = (i : ℕ) → (get_or q i 0 ≡ get_or p i 0) ⊎ ((get_or p i 0 ≡ get_or m i 0) × (get_or q i 0 ≡ get_or n i 0))

by_words : (m p n q : List ℕ) → WordsAlike m p n q → ChangeAlike m p n q
unfolding word_at
by_words m p n q h = λ x. ⊎_elim (λ e. low x e (h (x / 2))) (λ e. high x (omega (arith, e)) (h ((x - 1) / 2))) (cases_eq (x % 2) 0)
  where
    low : (x : ℕ) → x % 2 ≡ 0
        → (get_or q (x / 2) 0 ≡ get_or p (x / 2) 0) ⊎ ((get_or p (x / 2) 0 ≡ get_or m (x / 2) 0) × (get_or q (x / 2) 0 ≡ get_or n (x / 2) 0))
        → (byte_at q x ≡ byte_at p x) ⊎ ((byte_at p x ≡ byte_at m x) × (byte_at q x ≡ byte_at n x))
    low x e (inl same) = inl (byte_at-even q x e ∙ ap (λ (w : ℕ). w % 256) same ∙ sym (byte_at-even p x e))
    low x e (inr stay) = inr (
      byte_at-even p x e ∙ ap (λ (w : ℕ). w % 256) stay.0 ∙ sym (byte_at-even m x e),
      byte_at-even q x e ∙ ap (λ (w : ℕ). w % 256) stay.1 ∙ sym (byte_at-even n x e),
    )

    high : (x : ℕ) → x % 2 ≡ 1
        → (get_or q ((x - 1) / 2) 0 ≡ get_or p ((x - 1) / 2) 0)
        ⊎ ((get_or p ((x - 1) / 2) 0 ≡ get_or m ((x - 1) / 2) 0) × (get_or q ((x - 1) / 2) 0 ≡ get_or n ((x - 1) / 2) 0))
        → (byte_at q x ≡ byte_at p x) ⊎ ((byte_at p x ≡ byte_at m x) × (byte_at q x ≡ byte_at n x))
    high x e (inl same) = inl (byte_at-odd q x e ∙ ap (λ (w : ℕ). w / 256) same ∙ sym (byte_at-odd p x e))
    high x e (inr stay) = inr (
      byte_at-odd p x e ∙ ap (λ (w : ℕ). w / 256) stay.0 ∙ sym (byte_at-odd m x e),
      byte_at-odd q x e ∙ ap (λ (w : ℕ). w / 256) stay.1 ∙ sym (byte_at-odd n x e),
    )

-- If the same word is written to both memories, then they change alike.
pub word_alike_sized : (m n : List ℕ) (a w : ℕ) → length m ≡ 32768 → length n ≡ 32768 → ChangeAlike m (with_word m a w) n (with_word n a w)
unfolding with_word
word_alike_sized m n a w memory other = by_words m (set m (a / 2) w) n (set n (a / 2) w) (λ i. ⊎_elim (λ e. inl (here i e))
    (λ e. inr (get_or-set_other m (a / 2) i w 0 e, get_or-set_other n (a / 2) i w 0 e)) (cases_eq i (a / 2)))
  where
    here : (i : ℕ) → i ≡ a / 2 → get_or (set n (a / 2) w) i 0 ≡ get_or (set m (a / 2) w) i 0
    here i e = ⊎_elim
        (λ l. rw e (get_or-set_same n (a / 2) w 0 (omega (arith, l, other)) ∙ sym (get_or-set_same m (a / 2) w 0 (omega (arith, l, memory)))))
        (λ l. rw e (get_or_past (set n (a / 2) w) (a / 2) 0 (omega (arith, l, other, length-set n (a / 2) w))
        ∙ sym (get_or_past (set m (a / 2) w) (a / 2) 0 (omega (arith, l, memory, length-set m (a / 2) w)))))
        (cases_lt (a / 2) 32768)

pub word_alike : (m n : List ℕ) (a w : ℕ) → IsMemory m → IsMemory n → ChangeAlike m (with_word m a w) n (with_word n a w)
word_alike m n a w memory other = word_alike_sized m n a w memory.size other.size

pub length-with_word : (m : List ℕ) (a w : ℕ) → length m ≡ 32768 → length (with_word m a w) ≡ 32768
unfolding with_word
length-with_word m a w size = length-set m (a / 2) w ∙ size

pub stored_alike : {A : Type 0} (m n : List ℕ) (a w : ℕ) (x : A) → IsMemory m → IsMemory n
    → RowsAlike m n (store m a w >>= λ p. Ok (p, x)) (store n a w >>= λ p. Ok (p, x))
stored_alike m n a w x memory other = elim (cases_Bool (is_even a)) [
  | inl e ↦ rw e (done m n (with_word m a w) (with_word n a w) x (word_alike m n a w memory other))
  | inr e ↦ rw e tt
]

pub pushed_alike : (m n : List ℕ) (sp np w : ℕ) → IsMemory m → IsMemory n → RowsAlike m n (push m sp np w) (push n sp np w)
pushed_alike m n sp np w memory other = elim (cases_Bool (nat_lt sp (np + 2))) [
  | inl e ↦ rw e tt
  | inr e ↦ rw e (stored_alike m n (sp - 2) w (sp - 2) memory other)
]

-- If the same bytes are written to both memories, then they change alike.
pub bytes_alike : (m n bs : List ℕ) (a : ℕ) → IsMemory m → IsMemory n → a + length bs ≤ 65536 → All (λ b. b < 256) bs
    → ChangeAlike m (with_bytes m a bs) n (with_bytes n a bs)
bytes_alike m n bs a memory other room fit = λ x. ⊎_elim (λ low. away x (inl low)) (λ from. ⊎_elim
    (λ high. inl (byte_at-with_bytes n bs a x other room fit from high ∙ sym (byte_at-with_bytes m bs a x memory room fit from high)))
    (λ beyond. away x (inr beyond)) (cases_lt x (a + length bs))) (cases_lt x a)
  where
    away : (x : ℕ) → (x < a) ⊎ (a + length bs ≤ x)
        → (byte_at (with_bytes n a bs) x ≡ byte_at (with_bytes m a bs) x)
        ⊎ ((byte_at (with_bytes m a bs) x ≡ byte_at m x) × (byte_at (with_bytes n a bs) x ≡ byte_at n x))
    away x far = inr (byte_at-with_bytes_other m bs a x memory room fit far, byte_at-with_bytes_other n bs a x other room fit far)

-- If both memories agree on a range, then they have the same bytes in each part of it.
pub bytes_same : (m n : List ℕ) (a k from count : ℕ) → Same m n a k → IsMemory m → IsMemory n → a ≤ from → from + count ≤ a + k → from + count ≤ 65536
    → bytes_at n from count ≡ bytes_at m from count
unfolding bytes_at byte_at
bytes_same m n a k from count same memory other low high room =
    ext_get_or 0 (bytes_at n from count) (bytes_at m from count) (length-bytes_at n from count other room ∙ sym (length-bytes_at m from count memory room))
    (λ i l. let less : i < count = omega (arith, l, length-bytes_at n from count other room) in
    item n i less ∙ same (from + i) (omega (arith, low)) (omega (arith, high, less)) ∙ sym (item m i less))
  where
    item : (p : List ℕ) (i : ℕ) → i < count → get_or (bytes_at p from count) i 0 ≡ get_or (bytes_of p) (from + i) 0
    item p i l = get_or-take count (drop from (bytes_of p)) i 0 l ∙ get_or-drop from (bytes_of p) i 0

-- If both memories agree on the source, then copying its bytes changes them alike.
pub copy_alike : (m n : List ℕ) (from to count : ℕ) → Same m n from count → IsMemory m → IsMemory n → from + count ≤ 65536 → to + count ≤ 65536
    → ChangeAlike m (copied m from to count) n (copied n from to count)
unfolding copied
copy_alike m n from to count same memory other source room =
    let bs = bytes_at m from count in
    rw (bytes_same m n from count from count same memory other (omega arith) (omega arith) source)
    (bytes_alike m n (bytes_at m from count) to memory other (omega (arith, room, length-bytes_at m from count memory source))
    (All-bytes_at m from count memory))

over : (p ws : List ℕ) (k i : ℕ) → k + length ws ≤ length p → k ≤ i → i < k + length ws → get_or (overwritten p k ws) i 0 ≡ get_or ws (i - k) 0
over p ws k i room from high = grind (arith, places)

-- If the same words are written to both memories from an even address on, then they change alike.
pub words_alike : (m n ws : List ℕ) (a : ℕ) → IsMemory m → IsMemory n → a / 2 + length ws ≤ 32768 → ChangeAlike m (with_words m a ws) n (with_words n a ws)
unfolding with_words
words_alike m n ws a memory other room = by_words m (overwritten m (a / 2) ws) n (overwritten n (a / 2) ws) (λ i. ⊎_elim
    (λ low. away i (inl low)) (λ from. ⊎_elim (λ high. inl (inside n i other.size from high ∙ sym (inside m i memory.size from high)))
    (λ beyond. away i (inr beyond)) (cases_lt i (a / 2 + length ws))) (cases_lt i (a / 2)))
  where
    away : (i : ℕ) → (i < a / 2) ⊎ (a / 2 + length ws ≤ i)
        → (get_or (overwritten n (a / 2) ws) i 0 ≡ get_or (overwritten m (a / 2) ws) i 0)
        ⊎ ((get_or (overwritten m (a / 2) ws) i 0 ≡ get_or m i 0) × (get_or (overwritten n (a / 2) ws) i 0 ≡ get_or n i 0))
    away i far = inr (
      get_or-with_words_other m ws a i (omega (arith, room, memory.size)) far,
      get_or-with_words_other n ws a i (omega (arith, room, other.size)) far,
    )

    inside : (p : List ℕ) (i : ℕ) → length p ≡ 32768 → a / 2 ≤ i → i < a / 2 + length ws → get_or (overwritten p (a / 2) ws) i 0 ≡ get_or ws (i - a / 2) 0
    inside p i size from high = over p ws (a / 2) i (omega (arith, size, room)) from high

-- If both memories agree on a range, then they have the same words in each part of it that begins at an even address.
pub words_same : (m n : List ℕ) (a k from count : ℕ) → Same m n a k → IsMemory m → IsMemory n → from % 2 ≡ 0 → a ≤ from → from + 2 * count ≤ a + k
    → from + 2 * count ≤ 65536 → words_at n from count ≡ words_at m from count
unfolding words_at word_at
words_same m n a k from count same memory other even low high room =
    ext_get_or 0 (words_at n from count) (words_at m from count)
    (length-words_at n from count (omega (arith, other.size, room)) ∙ sym (length-words_at m from count (omega (arith, memory.size, room))))
    (λ i l. let less : i < count = omega (arith, l, length-words_at n from count (omega (arith, other.size, room))) in
    item n i less ∙ (word_same m n a k (from + 2 * i) same (omega (arith, even)) (omega (arith, low)) (omega (arith, high, less)) ∙ sym (item m i less)))
  where
    item : (p : List ℕ) (i : ℕ) → i < count → get_or (words_at p from count) i 0 ≡ get_or p ((from + 2 * i) / 2) 0
    item p i l =
        let place : from / 2 + i ≡ (from + 2 * i) / 2 = omega (arith, even) in
        get_or-take count (drop (from / 2) p) i 0 l ∙ (get_or-drop (from / 2) p i 0 ∙ ap (λ (j : ℕ). get_or p j 0) place)

-- Equal results are related, if the relation is reflexive.
pub as_before : {A E : Type 0} (Q : A → A → Type 0) (r u : Result A E) → ((x : A) → Q x x) → u ≡ r → Both Q r u
as_before Q (Ok x) u like same = record { other = x; made = same; like = like x }
as_before Q (Err e) u like same = tt

-- If both executions check the same condition first, then it is enough that they agree after the check.
pub demanded : {B : Type 0} (Q : B → B → Type 0) (b : Bool) (e : ExecError) (f g : Unit {0} → Result B ExecError) → (b ≡ true → Both Q (f tt) (g tt))
    → Both Q (demand b e >>= f) (demand b e >>= g)
demanded Q true e f g h = h refl
demanded Q false e f g h = tt

-- If the first steps are equal, and the following steps are equal for each result, then both executions are equal.
pub bind_same : {A B E : Type 0} (r u : Result A E) (f g : A → Result B E) → u ≡ r → ((x : A) → r ≡ Ok x → g x ≡ f x) → (u >>= g) ≡ (r >>= f)
bind_same (Ok x) u f g same h = rw same (h x refl)
bind_same (Err e) u f g same h = rw same refl

-- If the first steps are related by `P`, and the following steps by `Q`, then both executions are related by `Q`.
pub andthen : {A B E : Type 0} (P : A → A → Type 0) (Q : B → B → Type 0) (r u : Result A E) (f g : A → Result B E) → Both P r u
    → ((x y : A) → r ≡ Ok x → P x y → Both Q (f x) (g y)) → Both Q (r >>= f) (u >>= g)
andthen P Q (Ok x) u f g first h = rw first.made (h x first.other refl first.like)
andthen P Q (Err e) u f g first h = tt

-- ---- one change after another

pub then_alike : (m p z n q y : List ℕ) → ChangeAlike m p n q → ChangeAlike p z q y → ChangeAlike m z n y
then_alike m p z n q y first second = λ x. of x (first x) (second x)
  where
    of : (x : ℕ) → (byte_at q x ≡ byte_at p x) ⊎ ((byte_at p x ≡ byte_at m x) × (byte_at q x ≡ byte_at n x))
        → (byte_at y x ≡ byte_at z x) ⊎ ((byte_at z x ≡ byte_at p x) × (byte_at y x ≡ byte_at q x))
        → (byte_at y x ≡ byte_at z x) ⊎ ((byte_at z x ≡ byte_at m x) × (byte_at y x ≡ byte_at n x))
    of x first (inl same) = inl same
    of x (inl same) (inr stay) = inl (stay.1 ∙ same ∙ sym stay.0)
    of x (inr was) (inr stay) = inr (stay.0 ∙ was.0, stay.1 ∙ was.1)

-- If two memories change alike, and agree on a range before, then they agree on it after the change.
pub still_same : (m p n q : List ℕ) (a k : ℕ) → ChangeAlike m p n q → Same m n a k → Same p q a k
still_same m p n q a k alike same = λ x low high. of x (alike x) (same x low high)
  where
    of : (x : ℕ) → (byte_at q x ≡ byte_at p x) ⊎ ((byte_at p x ≡ byte_at m x) × (byte_at q x ≡ byte_at n x)) → byte_at n x ≡ byte_at m x
        → byte_at q x ≡ byte_at p x
    of x (inl new) old = new
    of x (inr stay) old = stay.1 ∙ old ∙ sym stay.0
