-- Lemmas for the number of words that a row on sets pushes.
use Rattle.std.proofs.Common.{◌≡◌, ◌≤◌, inl, inr, ℕ, ◌+◌, ◌-◌, ◌*◌, ◌/◌, ◌&&◌, ◌||◌, Bool, true, false, not, max, min, cond, nat_le}
use Rattle.std.proofs.Common.{List, [], length, Ok, refl, sym, ap, ◌∙◌, arith}
use Rattle.std.specs.Prelude.{int_lt, if◌then◌else◌}
use Rattle.std.proofs.lemmas.Bool.{cases_Bool}
use Rattle.std.proofs.lemmas.Bool.Decides.{nat_tests}
use Rattle.pm_words.specs.declared.error.ExecError.{ExecError}
use Rattle.pm_words.specs.declared.error.ExecError.TheVariants.{InvalidIndex, InvalidMemory, StackOverflow}
use Rattle.pm_words.specs.Signed.{signed}
use Rattle.pm_words.specs.Words.{IsMemory, with_words, word_at}
use Rattle.pm_words.specs.Stack.{◌>>=◌, demand, pop}
use Rattle.pm_words.proofs.Laws.{length-words_at}
use Rattle.pm_calls.proofs.ReturnLaws.{bound, ok_same, passed}
use Rattle.pm_families.specs.declared.families.Set.TheVariants as set
use Rattle.pm_values.specs.Sets.{StackSet, difference_row, intersect_row, interval, is_member, pop_set, singleton_row}
use Rattle.pm_values.specs.Sets.{subrange_row, two_sets_row, union_row, with_length}
use Rattle.pm_values.specs.Several.{push_words}
use Rattle.pm_values.proofs.SetLaws.{length-set_from}
use Rattle.pm_machine.specs.Written.{lower_words, set_words, upper_words}
use Rattle.law_engine.proofs.EffectLaws.{below_word, first, set_off}
use Rattle.law_engine.proofs.StoredWords.{popped}
use Rattle.law_engine.proofs.Stretches.{IfMade, made}

-- The top of the stack `t` is a set of `k` words, its count included.
abbrev pub HasCount : ℕ → List ℕ × ℕ → Type 0
HasCount k t = word_at t.0 t.1 + 1 ≡ k

held : (b : Bool) (e : ExecError) (x : Unit {0}) → demand b e ≡ Ok x → b ≡ true
held true e x h = refl
held false e x h = cc

counted : (m ws : List ℕ) (sp np k : ℕ) → IsMemory m → sp ≤ 65504 → 1 + length ws ≡ k → IfMade (HasCount k) (push_words m sp np (with_length ws))
counted m ws sp np k memory low count = made (HasCount k) (demand (nat_le (np + 2 * length (with_length ws)) sp) StackOverflow) _ (λ u h.
    let size = memory.size in
    let top : word_at (with_words m (sp - 2 * length (with_length ws)) (with_length ws)) (sp - 2 * length (with_length ws)) ≡ length ws =
    first m ws (sp - 2 * length (with_length ws)) (length ws) (omega (arith, low, size)) in
    omega (arith, top, count))

-- If a set is popped, then the number of its words, without its count, is the word at `sp`.
members : (m : List ℕ) (sp : ℕ) (s : StackSet) → IsMemory m → pop_set m sp ≡ Ok s → length s.members ≡ word_at m sp
unfolding pop_set
members m sp s memory h =
    let n = bound (pop m sp) _ s h in
    let few = passed (nat_le n.0.word 255) InvalidIndex _ s n.2 in
    let room = passed (nat_le (n.0.above + 2 * n.0.word) 65504) InvalidMemory _ s few.1 in
    let same = ok_same _ s room.1 in
    let low : n.0.above + 2 * n.0.word ≤ 65504 = grind (arith, nat_tests, room.0) in
    let size = memory.size in
    sym (ap (λ (x : StackSet). length x.members) same)
    ∙ length-words_at m n.0.above n.0.word (omega (arith, low, size)) ∙ (popped m sp n.0 n.1).word

two_counts : (count : ℕ → ℕ → ℕ) (test : Bool → Bool → Bool) (m : List ℕ) (sp np : ℕ) → IsMemory m
    → IfMade (HasCount (1 + count (lower_words m sp) (upper_words m sp))) (two_sets_row count test m sp np)
two_counts count test m sp np memory =
    let k = 1 + count (lower_words m sp) (upper_words m sp) in
    made (HasCount k) (pop_set m sp) _ (λ t h. made (HasCount k) (pop_set m t.above) _ (λ s g.
    let upper = members m sp t memory h in
    let off = (set_off m sp t h).above in
    let lower : length s.members ≡ lower_words m sp = members m t.above s memory g ∙ ap (λ a. word_at m a) off in
    counted m _ s.above np k memory (set_off m t.above s g).below
    (ap (λ n. 1 + n) (length-set_from (count (length s.members) (length t.members)) 0 (λ e. test (is_member s.members e) (is_member t.members e))
    ∙ ap (λ n. count n (length t.members)) lower ∙ ap (λ n. count (lower_words m sp) n) upper))))

-- The set of the numbers from `low` to `high` has `2 + high / 16` words, its count included.
interval_count : (low high : ℕ) → 1 + length (interval low high) ≡ 2 + high / 16
interval_count low high = ap (λ n. 1 + n) (length-set_from (high / 16 + 1) 0 _) ∙ omega arith

pub singleton_count : (m : List ℕ) (sp np : ℕ) → IsMemory m → IfMade (HasCount (2 + word_at m sp / 16)) (singleton_row m sp np)
unfolding singleton_row
singleton_count m sp np memory =
    let k = 2 + word_at m sp / 16 in
    made (HasCount k) (pop m sp) _ (λ a h. made (HasCount k) (demand (nat_le a.word 4079) InvalidIndex) _ (λ u g.
    let is = (popped m sp a h).word in
    counted m (interval a.word a.word) a.above np k memory (below_word m sp a h) (interval_count a.word a.word ∙ ap (λ w. 2 + w / 16) is)))

-- If the subrange from `a` to `b` is computed, then it has 1 word if `b` is less than `a` as signed numbers, and else
-- `2 + b / 16` words, its count included.
subrange_members : (a b : ℕ) (ws : List ℕ)
    → cond (int_lt (signed b) (signed a)) (Ok []) (demand (nat_le a 4079 && nat_le b 4079) InvalidIndex >>= λ u. Ok (interval a b)) ≡ Ok ws
    → 1 + length ws ≡ (if int_lt (signed b) (signed a) then 1 else 2 + b / 16)
subrange_members a b ws h = elim (cases_Bool (int_lt (signed b) (signed a))) [
  | inl e ↦ rw e (ap (λ (l : List ℕ). 1 + length l) (sym (ok_same [] ws (rw e at h))))
  | inr e ↦
      let g = passed (nat_le a 4079 && nat_le b 4079) InvalidIndex (Ok (interval a b)) ws (rw e at h) in
      rw e (ap (λ (l : List ℕ). 1 + length l) (sym (ok_same (interval a b) ws g.1)) ∙ interval_count a b)
]

pub subrange_count : (m : List ℕ) (sp np : ℕ) → IsMemory m → IfMade (HasCount (set_words set.Subrange m sp)) (subrange_row m sp np)
unfolding subrange_row
subrange_count m sp np memory =
    let k = set_words set.Subrange m sp in
    made (HasCount k) (pop m sp) _ (λ b h. made (HasCount k) (pop m b.above) _ (λ a g. made (HasCount k) _ _ (λ ws l.
    let upper = (popped m sp b h).word in
    let at = (popped m sp b h).above in
    let lower : a.word ≡ word_at m (sp + 2) = (popped m b.above a g).word ∙ ap (λ i. word_at m i) at in
    counted m ws a.above np k memory (below_word m b.above a g) (subrange_members a.word b.word ws l
    ∙ ap (λ w. if int_lt (signed w) (signed a.word) then 1 else 2 + w / 16) upper
    ∙ ap (λ w. if int_lt (signed (word_at m sp)) (signed w) then 1 else 2 + word_at m sp / 16) lower))))

pub intersection_count : (m : List ℕ) (sp np : ℕ) → IsMemory m → IfMade (HasCount (set_words set.Intersection m sp)) (intersect_row m sp np)
unfolding intersect_row
intersection_count m sp np memory = two_counts min (λ s t. s && t) m sp np memory

pub union_count : (m : List ℕ) (sp np : ℕ) → IsMemory m → IfMade (HasCount (set_words set.Union m sp)) (union_row m sp np)
unfolding union_row
union_count m sp np memory = two_counts max (λ s t. s || t) m sp np memory

pub difference_count : (m : List ℕ) (sp np : ℕ) → IsMemory m → IfMade (HasCount (set_words set.Difference m sp)) (difference_row m sp np)
unfolding difference_row
difference_count m sp np memory = two_counts (λ s t. s) (λ s t. s && not t) m sp np memory
