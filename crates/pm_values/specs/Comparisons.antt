-- Typed comparisons. The left operand is below the right operand on the stack. If the relation is not defined for the
-- type, the result is `Unimplemented` (error 11); this error is checked before the stack is read. A line such as `..,
-- a, b -> .., c` shows the stack before and after the instruction, with the top at the right.
use Rattle.std.specs.Cmp.Lexicographic.{slice_cmp}
use Rattle.std.specs.Ordering.{is_eq, is_ge, is_gt, is_le, is_lt, is_ne, nat_cmp}
use Rattle.std.specs.declared.cmp.Ordering.{Ordering}
use Rattle.std.specs.Prelude.{ℕ, zero, suc, ◌*◌, ◌%◌, ◌&&◌, Bool, true, false, not, List, length, Err, nat_le}
use Rattle.pm_words.specs.Words.{compared}
use Rattle.pm_words.specs.declared.error.ExecError.TheVariants.{InvalidMemory, Unimplemented}
use Rattle.pm_words.specs.Stack.{◌>>=◌, StackRow, demand, lies_in_memory, pop, push, words_lie_in_memory}
use Rattle.pm_families.specs.declared.families.Kind.{Kind}
use Rattle.pm_families.specs.declared.families.Kind.TheVariants.{Real, String, Boolean, Set, Bytes, Words}
use Rattle.pm_families.specs.declared.families.Relation.{Relation}
use Rattle.pm_families.specs.declared.families.Relation.TheVariants.{Equal, NotEqual, Less, LessOrEqual, Greater}
use Rattle.pm_families.specs.declared.families.Relation.TheVariants.{GreaterOrEqual}
use Rattle.pm_words.specs.Signed.{truth}
use Rattle.pm_values.specs.Sets.{is_member, pop_set}
use Rattle.pm_values.specs.Strings.{string_at}

-- Whether a relation is true for two values. `o` is the order of the first value to the second.
abbrev pub holds : Relation → Ordering → Bool
holds Equal o = is_eq o
holds NotEqual o = is_ne o
holds Less o = is_lt o
holds LessOrEqual o = is_le o
holds Greater o = is_gt o
holds GreaterOrEqual o = is_ge o

-- EQU, NEQ, LES, LEQ, GRT and GEQ STR. .., address, address -> .., 1 or 0: compares the strings at two addresses by
-- their unsigned bytes. If one string is a proper prefix of the other, it is less.
unfoldable pub compare_strings_row : Relation → StackRow
compare_strings_row r m sp np = do
  b ← pop m sp
  a ← pop m b.above
  s ← string_at m a.word
  t ← string_at m b.word
  push m a.above np (truth (holds r (slice_cmp nat_cmp s t)))

-- EQU, NEQ, LES, LEQ, GRT and GEQ BOOL. .., a, b -> .., 1 or 0: compares two truth values. Only bit 0 of each word
-- counts, and false is less than true.
unfoldable pub compare_booleans_row : Relation → StackRow
compare_booleans_row r m sp np = do
  b ← pop m sp
  a ← pop m b.above
  push m a.above np (truth (holds r (nat_cmp (a.word % 2) (b.word % 2))))

-- EQU, NEQ, LES, LEQ, GRT and GEQ BYTES. .., address, address -> .., 1 or 0: compares two ranges of `n` bytes. The
-- first pair of bytes that differ decides. Bytes are unsigned.
unfoldable pub compare_bytes_row : ℕ → Relation → StackRow
compare_bytes_row n r m sp np = do
  b ← pop m sp
  a ← pop m b.above
  _ ← demand (lies_in_memory a.word n && lies_in_memory b.word n) InvalidMemory
  push m a.above np (truth (holds r (compared m a.word b.word n)))

-- Whether a relation is equality or inequality.
abbrev pub is_equality : Relation → Bool
is_equality Equal = true
is_equality NotEqual = true
is_equality Less = false
is_equality LessOrEqual = false
is_equality Greater = false
is_equality GreaterOrEqual = false

-- Whether the operand of `n` words from address `a` on is in memory. `n` must not be above 32,767, and `a` must be
-- even.
abbrev pub are_words : ℕ → ℕ → Bool
are_words a n = nat_le n 32767 && words_lie_in_memory a n

-- EQU and NEQ WORDS. .., address, address -> .., 1 or 0: compares two ranges of `n` words for equality.
unfoldable pub compare_words_row : ℕ → Relation → StackRow
compare_words_row n r m sp np = do
  _ ← demand (is_equality r) Unimplemented
  b ← pop m sp
  a ← pop m b.above
  _ ← demand (are_words a.word n && are_words b.word n) InvalidMemory
  push m a.above np (truth (holds r (compared m a.word b.word (2 * n))))

-- Whether the test `p` is false for each of the `n` numbers from `e` on.
unfoldable pub none_from : (ℕ → Bool) → ℕ → ℕ → Bool
none_from p e zero = true
none_from p e (suc n) = not (p e) && none_from p (suc e) n

-- Whether every number of the set with the words `xs` is in the set with the words `ys`.
unfoldable pub is_subset : List ℕ → List ℕ → Bool
is_subset xs ys = none_from (λ e. is_member xs e && not (is_member ys e)) 0 (16 * length xs)

-- Whether a relation is defined for sets.
abbrev pub is_of_sets : Relation → Bool
is_of_sets Equal = true
is_of_sets NotEqual = true
is_of_sets Less = false
is_of_sets LessOrEqual = true
is_of_sets Greater = false
is_of_sets GreaterOrEqual = true

-- Whether a relation is true for the sets with the words `s` and `t`. Less or equal means subset, and greater or equal
-- means superset.
abbrev pub holds_of_sets : Relation → List ℕ → List ℕ → Bool
holds_of_sets Equal s t = is_subset s t && is_subset t s
holds_of_sets NotEqual s t = not (is_subset s t && is_subset t s)
holds_of_sets Less s t = false
holds_of_sets LessOrEqual s t = is_subset s t
holds_of_sets Greater s t = false
holds_of_sets GreaterOrEqual s t = is_subset t s

-- EQU, NEQ, LEQ and GEQ SET. .., set, set -> .., 1 or 0: compares two sets by the numbers that they contain, even if
-- the sets differ in their numbers of words.
unfoldable pub compare_sets_row : Relation → StackRow
compare_sets_row r m sp np = do
  _ ← demand (is_of_sets r) Unimplemented
  t ← pop_set m sp
  s ← pop_set m t.above
  push m s.above np (truth (holds_of_sets r s.members t.members))

-- EQU, NEQ, LES, LEQ, GRT and GEQ of a type. .., a, b -> .., 1 or 0: selects the rule of the type. For reals the result
-- is the error `Unimplemented`.
unfoldable pub compare_row : Relation → Kind → StackRow
compare_row r Real m sp np = Err Unimplemented
compare_row r String m sp np = compare_strings_row r m sp np
compare_row r Boolean m sp np = compare_booleans_row r m sp np
compare_row r Set m sp np = compare_sets_row r m sp np
compare_row r (Bytes n) m sp np = compare_bytes_row n r m sp np
compare_row r (Words n) m sp np = compare_words_row n r m sp np
