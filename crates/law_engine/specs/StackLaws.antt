-- The law of rows on the stack: they write only the words that they push. The *row* of an instruction is the definition
-- of what it does.
use Rattle.std.specs.Prelude.{◌≡◌, ◌<◌, ◌≤◌, ◌⊎◌, ℕ, ◌+◌, ◌*◌, ◌/◌, ◌%◌, List, Option, Some, None, Result, Ok, Err}
use Rattle.pm_words.specs.declared.error.ExecError.{ExecError}
use Rattle.pm_words.specs.Words.{IsMemory, word_at}
use Rattle.pm_words.specs.Stack.{IsStack}
use Rattle.pm_families.specs.declared.families.Arithmetic.{Arithmetic}
use Rattle.pm_families.specs.declared.families.Variable.{Variable}
use Rattle.pm_families.specs.declared.families.Variable.TheVariants as variable
use Rattle.pm_families.specs.declared.families.Pointer.{Pointer}
use Rattle.pm_families.specs.declared.families.Pointer.TheVariants as pointer
use Rattle.pm_families.specs.declared.families.Literal.{Literal}
use Rattle.pm_families.specs.declared.families.Literal.TheVariants as literal
use Rattle.pm_families.specs.declared.families.Value.{Value}
use Rattle.pm_families.specs.declared.families.Value.TheVariants as value
use Rattle.pm_families.specs.declared.families.Byte.TheVariants as byte
use Rattle.pm_families.specs.declared.families.Set.{Set}
use Rattle.pm_families.specs.declared.families.Set.TheVariants as set
use Rattle.pm_families.specs.declared.families.Text.TheVariants as text
use Rattle.pm_families.specs.declared.families.Field.TheVariants as field
use Rattle.pm_calls.specs.declared.registers.Registers.{Registers}
use Rattle.pm_rows.specs.Arithmetic.{arithmetic_row}
use Rattle.pm_rows.specs.Variables.{variable_row}
use Rattle.pm_rows.specs.Pointers.{pointer_row}
use Rattle.pm_rows.specs.Literals.{literal_row}
use Rattle.pm_rows.specs.Values.{value_row}

-- A rule for the number of words that a row leaves on the stack, from the memory and the SP after the row. It is `None`
-- for a row that stores.
abbrev pub Pushed : Type 0
Pushed = List ℕ → ℕ → Option ℕ

abbrev pub so_many : ℕ → Pushed
so_many n m sp = Some n

abbrev pub stores : Pushed
stores m sp = None

-- The row leaves a set: its count, which is the top of the stack, and as many words as the count states.
abbrev pub a_set : Pushed
a_set m sp = Some (word_at m sp + 1)

abbrev pub pushed_by_variable : Variable → Pushed
pushed_by_variable (variable.Address scope b) = so_many 1
pushed_by_variable (variable.Load scope b) = so_many 1
pushed_by_variable (variable.Store scope b) = stores

abbrev pub pushed_by_pointer : Pointer → Pushed
pushed_by_pointer (pointer.Increment b) = so_many 1
pushed_by_pointer (pointer.Load b) = so_many 1
pushed_by_pointer (pointer.Index b) = so_many 1
pushed_by_pointer pointer.Store = stores
pushed_by_pointer (pointer.LoadWords n) = so_many n
pushed_by_pointer (pointer.StoreWords n) = stores
pushed_by_pointer (pointer.Move b) = stores

abbrev pub pushed_by_literal : Literal → Pushed
pushed_by_literal (literal.String start) = so_many 1
pushed_by_literal (literal.Characters start) = so_many 1
pushed_by_literal (literal.Words start count) = so_many (count / 2 % 256)

abbrev pub pushed_by_set : Set → Pushed
pushed_by_set set.Member = so_many 1
pushed_by_set set.Intersection = a_set
pushed_by_set set.Union = a_set
pushed_by_set set.Difference = a_set
pushed_by_set set.Singleton = a_set
pushed_by_set set.Subrange = a_set
pushed_by_set (set.Adjust n) = so_many n

-- IXS has the number 0 because it leaves the stack unchanged.
abbrev pub pushed_by_value : Value → Pushed
pushed_by_value (value.Byte byte.Load) = so_many 1
pushed_by_value (value.Byte byte.Store) = stores
pushed_by_value (value.Set o) = pushed_by_set o
pushed_by_value (value.Text text.Index) = so_many 0
pushed_by_value (value.Text (text.Assign n)) = stores
pushed_by_value (value.Field (field.Index per_word width)) = so_many 3
pushed_by_value (value.Field field.Load) = so_many 1
pushed_by_value (value.Field field.Store) = stores
pushed_by_value (value.Compare r k) = so_many 1

-- Every word is the same in `m` and `n`, except the `k` words from `sp` on. For `None`, nothing is stated.
abbrev pub KeepsAllBut : List ℕ → List ℕ → ℕ → Option ℕ → Type 0
KeepsAllBut m n sp None = Unit {0}
KeepsAllBut m n sp (Some k) = (x : ℕ) → x % 2 ≡ 0 → (x < sp) ⊎ (sp + 2 * k ≤ x) → word_at n x ≡ word_at m x

-- If the row succeeds, then it writes only the words that it pushes.
abbrev pub WritesWhatItPushes : List ℕ → Pushed → Result (List ℕ × ℕ) ExecError → Type 0
WritesWhatItPushes m pushed (Ok t) = KeepsAllBut m t.0 t.1 (pushed t.0 t.1)
WritesWhatItPushes m pushed (Err e) = Unit {0}

-- If a row on integers, variables, addresses, constants or values succeeds, then it writes only the words that it
-- pushes. For rows that store, nothing is stated. Premise: the memory and the stack are valid (`IsMemory`, `IsStack`).
pub record StackRowsWriteWhatTheyPush : Type 0 where
  pub arithmetic :
      (o : Arithmetic) (m : List ℕ) (sp np : ℕ) →
      IsMemory m → IsStack sp np → WritesWhatItPushes m (so_many 1) (arithmetic_row o m sp np)
  pub variables :
      (o : Variable) (m : List ℕ) (r : Registers) →
      IsMemory m → IsStack r.sp r.np → WritesWhatItPushes m (pushed_by_variable o) (variable_row o m r)
  pub pointers :
      (o : Pointer) (m : List ℕ) (sp np : ℕ) →
      IsMemory m → IsStack sp np → WritesWhatItPushes m (pushed_by_pointer o) (pointer_row o m sp np)
  pub literals :
      (o : Literal) (m : List ℕ) (sp np : ℕ) →
      IsMemory m → IsStack sp np → WritesWhatItPushes m (pushed_by_literal o) (literal_row o m sp np)
  pub values :
      (o : Value) (m : List ℕ) (sp np : ℕ) →
      IsMemory m → IsStack sp np → WritesWhatItPushes m (pushed_by_value o) (value_row o m sp np)
