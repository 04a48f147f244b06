-- Laws of arrays with several elements in each word.
use Rattle.std.specs.Prelude.{◌≡◌, ◌≢◌, ◌<◌, ◌≤◌, ◌⊎◌, ℕ, ◌+◌, ◌*◌, ◌/◌, ◌%◌, ◌^◌, List, Result, Ok}
use Rattle.pm_words.specs.declared.error.ExecError.{ExecError}
use Rattle.pm_words.specs.Words.{IsMemory, word_at}
use Rattle.pm_words.specs.Stack.{◌>>=◌, IsStack, StackRow, pop, push}
use Rattle.pm_values.specs.Fields.{index_field_row, load_field_row, store_field_row}

-- An array at the even address `base` has `per_word` elements of `width` bits in each word.
pub record IsPacked (per_word width base : ℕ) : Type 0 where
  pub some : 0 < per_word
  pub bits : 0 < width
  pub fit : per_word * width ≤ 16
  pub even : base % 2 ≡ 0

-- Returns the address of the word that contains the element `i`.
abbrev pub element_at : ℕ → ℕ → ℕ → ℕ
element_at per_word base i = (base + 2 * (i / per_word)) % 65536

-- The stack has space for four more words.
pub record HasRoomForFour (sp np : ℕ) : Type 0 where
  pub stack : IsStack sp np
  pub room : np + 8 ≤ sp

-- The word at `x` is not among the four words below SP, into which the operands are pushed.
abbrev pub IsOffStack : ℕ → ℕ → Type 0
IsOffStack sp x = (x + 8 < sp) ⊎ (sp ≤ x)

-- The address of the array and the index `i` are pushed, and IXP replaces them by the address of the word and the
-- position of the field of the element.
abbrev pub indexed : ℕ → ℕ → ℕ → ℕ → StackRow
indexed per_word width base i m sp np = do
  b ← push m sp np base
  x ← push b.0 b.1 np i
  index_field_row per_word width x.0 x.1 np

-- Stores the value `v` into the element `i`: IXP pushes the word and the field of the element, `v` is pushed, and STP
-- stores it.
abbrev pub with_element : ℕ → ℕ → ℕ → ℕ → ℕ → StackRow
with_element per_word width base i v m sp np = do
  x ← indexed per_word width base i m sp np
  w ← push x.0 x.1 np v
  store_field_row w.0 w.1 np

-- Returns the value of the element `i`, as LDP leaves it on the stack.
abbrev pub element : ℕ → ℕ → ℕ → ℕ → List ℕ → ℕ → ℕ → Result ℕ ExecError
element per_word width base i m sp np = do
  x ← indexed per_word width base i m sp np
  w ← load_field_row x.0 x.1 np
  top ← pop w.0 w.1
  Ok top.word

-- In memory `n`, the element `i` of the array is `v` modulo 2^`width`. Each other element, and each word except that of
-- the element `i`, is the same in `m` and `n`, unless it is among the four words below SP.
pub record HasOneElementMore (per_word width base i v sp np : ℕ) (m n : List ℕ) : Type 0 where
  pub there : element per_word width base i n sp np ≡ Ok (v % 2 ^ width)
  pub others :
      (j : ℕ) → j < 32768 → j ≢ i → IsOffStack sp (element_at per_word base j)
      → element per_word width base j n sp np ≡ element per_word width base j m sp np
  pub rest : (x : ℕ) → x % 2 ≡ 0 → x ≢ element_at per_word base i → IsOffStack sp x → word_at n x ≡ word_at m x

-- If IXP and STP store an element, then IXP and LDP load this value, and no other element is changed. Indexes are less
-- than 32,768, and the words of the elements are not among the four words of the operands.
abbrev pub OneElementIsStored : Type 0
OneElementIsStored =
    (per_word width base i v sp np : ℕ) (m : List ℕ) →
    IsMemory m → IsPacked per_word width base → HasRoomForFour sp np →
    i < 32768 → IsOffStack sp (element_at per_word base i) →
    (n : List ℕ) × (with_element per_word width base i v m sp np ≡ Ok (n, sp))
    × HasOneElementMore per_word width base i v sp np m n
