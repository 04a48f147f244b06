-- Sets of numbers as lists of words: the number e is in the set if bit e mod 16 of word e div 16 is 1. On the stack,
-- the count of the words is on top. The words follow at higher addresses, the word with the least numbers first. A line
-- such as `.., a, b -> .., c` shows the stack before and after the instruction, with the top at the right.
use Rattle.std.specs.Prelude.{ℕ, zero, suc, ◌+◌, ◌*◌, ◌/◌, ◌%◌, ◌^◌, ◌==◌, ◌&&◌, ◌||◌, Bool, not, max, min}
use Rattle.std.specs.Prelude.{if◌then◌else◌, List, [], ◌∷◌, length, slice_index, int_lt, Result, Ok, nat_lt, nat_le}
use Rattle.pm_words.specs.Words.{words_at}
use Rattle.pm_words.specs.declared.error.ExecError.{ExecError}
use Rattle.pm_words.specs.declared.error.ExecError.TheVariants.{InvalidIndex, InvalidMemory}
use Rattle.pm_words.specs.Stack.{◌>>=◌, StackRow, demand, pop, push}
use Rattle.pm_words.specs.Signed.{signed, truth}
use Rattle.pm_values.specs.Several.{push_words}
use Rattle.pm_words.specs.declared.layout.TheConstants.{STACK_END}

-- Whether the number `e` is in the set with the words `ws`.
unfoldable pub is_member : List ℕ → ℕ → Bool
is_member ws e = (slice_index ws (e / 16) / 2 ^ (e % 16)) % 2 == 1

-- A number of `n` bits: for each b below `n`, bit b is 1 if and only if the test `p` is true for `e` + b.
unfoldable pub bits_from : (ℕ → Bool) → ℕ → ℕ → ℕ
bits_from p e zero = 0
bits_from p e (suc n) = (if p e then 1 else 0) + 2 * bits_from p (suc e) n

-- The `n` words of a set whose first word begins with the number `e`. A number is in the set if and only if the test
-- `p` is true for it.
unfoldable pub set_from : (ℕ → Bool) → ℕ → ℕ → List ℕ
set_from p e zero = []
set_from p e (suc n) = bits_from p e 16 ∷ set_from p (e + 16) n

-- The set, in `n` words, of the numbers below `16 * n` for which the test `p` is true.
abbrev pub set_of : ℕ → (ℕ → Bool) → List ℕ
set_of n p = set_from p 0 n

-- A set that was popped from the stack, and SP after the pop.
pub record StackSet : Type 0 where
  pub members : List ℕ
  pub above : ℕ

-- The set on top of the stack and SP after the pop. The count on top gives the number of words that follow it.
unfoldable pub pop_set : List ℕ → ℕ → Result StackSet ExecError
pop_set m sp = do
  n ← pop m sp
  _ ← demand (nat_le n.word 255) InvalidIndex
  _ ← demand (nat_le (n.above + 2 * n.word) STACK_END) InvalidMemory
  Ok (record { members = words_at m n.above n.word; above = n.above + 2 * n.word })

-- INN. .., value, set -> .., 1 or 0: pushes 1 if the value is in the set, otherwise 0. A negative value is in no set.
unfoldable pub in_set_row : StackRow
in_set_row m sp np = do
  s ← pop_set m sp
  a ← pop m s.above
  push m a.above np (truth (nat_lt a.word 32768 && is_member s.members a.word))

-- The words of a set as they are on the stack: the count of the words `ws`, then the words.
abbrev pub with_length : List ℕ → List ℕ
with_length ws = length ws ∷ ws

-- Replaces two sets on the stack by one set. `count` computes its number of words from the numbers of words of the
-- lower and the upper set. A number is in the new set if `test` is true, applied to whether it is in the lower set and
-- whether it is in the upper set.
abbrev pub two_sets_row : (ℕ → ℕ → ℕ) → (Bool → Bool → Bool) → StackRow
two_sets_row count test m sp np = do
  t ← pop_set m sp
  s ← pop_set m t.above
  push_words m s.above np (with_length (set_of (count (length s.members) (length t.members))
      (λ e. test (is_member s.members e) (is_member t.members e))))

-- INT. .., set, set -> .., set: the numbers that are in both sets, in as many words as the set with fewer words has.
unfoldable pub intersect_row : StackRow
intersect_row m sp np = two_sets_row min (λ s t. s && t) m sp np

-- UNI. .., set, set -> .., set: the numbers that are in at least one of the sets, in as many words as the set with more
-- words has.
unfoldable pub union_row : StackRow
union_row m sp np = two_sets_row max (λ s t. s || t) m sp np

-- DIF. .., set, set -> .., set: the numbers in the lower set that are not in the upper set, in as many words as the
-- lower set has.
unfoldable pub difference_row : StackRow
difference_row m sp np = two_sets_row (λ s t. s) (λ s t. s && not t) m sp np

-- The set of the numbers from `low` to `high`. Its last word is the word that contains the bit for `high`.
abbrev pub interval : ℕ → ℕ → List ℕ
interval low high = set_of (high / 16 + 1) (λ e. nat_le low e && nat_le e high)

-- SGS. .., value -> .., set: the set that contains only the value.
unfoldable pub singleton_row : StackRow
singleton_row m sp np = do
  a ← pop m sp
  _ ← demand (nat_le a.word 4079) InvalidIndex
  push_words m a.above np (with_length (interval a.word a.word))

-- SRS. .., low, high -> .., set: the set of the numbers from low to high. If low is greater than high, the set has no
-- words.
unfoldable pub subrange_row : StackRow
subrange_row m sp np = do
  b ← pop m sp
  a ← pop m b.above
  set ← if int_lt (signed b.word) (signed a.word) then Ok [] else (demand (nat_le a.word 4079 && nat_le b.word 4079)
      InvalidIndex >>= λ _. Ok (interval a.word b.word))
  push_words m a.above np (with_length set)

-- ADJ. .., set -> .., n words: the numbers of the set that are below `16 * n`, as `n` words without a count.
unfoldable pub adjust_row : ℕ → StackRow
adjust_row n m sp np = do
  s ← pop_set m sp
  push_words m s.above np (set_of n (λ e. is_member s.members e))
