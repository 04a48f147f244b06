-- The law of rows that store: they write only the words that they store.
use Rattle.std.specs.Prelude.{◌≡◌, ◌<◌, ◌≤◌, ◌⊎◌, ℕ, ◌+◌, ◌*◌, ◌%◌, List, length, Result, Ok, Err}
use Rattle.pm_words.specs.declared.error.ExecError.{ExecError}
use Rattle.pm_words.specs.Words.{IsMemory, word_at}
use Rattle.pm_families.specs.declared.families.Scope.{Scope}
use Rattle.pm_calls.specs.declared.registers.Registers.{Registers}
use Rattle.pm_values.specs.Fields.{store_byte_row, store_field_row}
use Rattle.pm_values.specs.Strings.{assign_row, source_at}
use Rattle.pm_rows.specs.Pointers.{move_row, store_indirect_row, store_words_row}
use Rattle.pm_rows.specs.Variables.{store_row, variable_at}

-- Every word is the same in `m` and `n`, except the words that have one of the `bytes` bytes from the address `a` on.
abbrev pub StaysBut : List ℕ → List ℕ → ℕ → ℕ → Type 0
StaysBut m n a bytes = (x : ℕ) → x % 2 ≡ 0 → (x + 1 < a) ⊎ (a + bytes ≤ x) → word_at n x ≡ word_at m x

-- If the row succeeds, then it writes only words that have one of the `bytes` bytes from the address `a` on.
abbrev pub WritesAlone : List ℕ → ℕ → ℕ → Result (List ℕ × ℕ) ExecError → Type 0
WritesAlone m a bytes (Ok t) = StaysBut m t.0 a bytes
WritesAlone m a bytes (Err e) = Unit {0}

-- States the words that each row that stores writes. The memory before the row determines them. The word at SP is the
-- top of the stack.
pub record RowsWriteWhatTheyStore : Type 0 where
  -- SRO, STL and STR write the variable.
  pub variable :
      (scope : Scope) (b a : ℕ) (m : List ℕ) (r : Registers) →
      IsMemory m → variable_at scope b m r ≡ Ok a → WritesAlone m a 2 (store_row scope b m r)
  -- STO writes the word at the address that is below the value on the stack.
  pub word : (m : List ℕ) (sp np : ℕ) → IsMemory m → WritesAlone m (word_at m (sp + 2)) 2 (store_indirect_row m sp np)
  -- STM writes `n` words, from the address that is below these words on the stack.
  pub words :
      (n : ℕ) (m : List ℕ) (sp np : ℕ) →
      IsMemory m → WritesAlone m (word_at m (sp + 2 * n)) (2 * n) (store_words_row n m sp np)
  -- MOV writes `b` words from the destination address on. On the stack, this address is below the source address.
  pub move :
      (b : ℕ) (m : List ℕ) (sp np : ℕ) → IsMemory m → WritesAlone m (word_at m (sp + 2)) (2 * b) (move_row b m sp np)
  -- STB writes the byte at the sum of the two words that are below the value on the stack.
  pub byte :
      (m : List ℕ) (sp np : ℕ) →
      IsMemory m → WritesAlone m ((word_at m (sp + 4) + word_at m (sp + 2)) % 65536) 1 (store_byte_row m sp np)
  -- STP writes the word at the address that is below the value and the two words of the field on the stack.
  pub field : (m : List ℕ) (sp np : ℕ) → IsMemory m → WritesAlone m (word_at m (sp + 6)) 2 (store_field_row m sp np)
  -- SAS writes the length and the characters of the text that is on top of the stack, from the address below it on the
  -- stack.
  pub text :
      (limit : ℕ) (m s : List ℕ) (sp np : ℕ) →
      IsMemory m → source_at m (word_at m sp) ≡ Ok s
      → WritesAlone m (word_at m (sp + 2)) (1 + length s) (assign_row limit m sp np)
