-- The rules of the jump instructions. IPC in the registers before a jump is the address of the next instruction. A line
-- such as `.., a, b -> .., c` shows the stack before and after the instruction, with the top at the right.
use Rattle.std.specs.Prelude.{ℕ, ◌≡◌, ◌+◌, ◌-◌, ◌*◌, ◌%◌, Bool, true, not, ◌&&◌, List, Result, Ok, if◌then◌else◌, ◌==◌}
use Rattle.std.specs.Prelude.{nat_lt, nat_le}
use Rattle.pm_words.specs.declared.error.ExecError.{ExecError}
use Rattle.pm_words.specs.declared.error.ExecError.TheVariants.{InvalidMemory}
use Rattle.pm_words.specs.Stack.{◌>>=◌, demand, is_even, load, minus, pop}
use Rattle.pm_families.specs.declared.families.Condition.{Condition}
use Rattle.pm_families.specs.declared.families.Condition.TheVariants.{Always, IfFalse, IfDifferent, IfEqual}
use Rattle.pm_families.specs.declared.families.Jump.{Jump}
use Rattle.pm_families.specs.declared.families.Jump.TheVariants.{Short, Case}
use Rattle.pm_opcode.specs.Spelling.{rank}
use Rattle.pm_calls.specs.declared.registers.Registers.{Registers}

-- States that the registers `t` are `r` except for SP and IPC.
abbrev pub OnlySpAndIpcDiffer : Registers → Registers → Type 0
OnlySpAndIpcDiffer r t = t ≡ record r { sp = t.sp; ipc = t.ipc }

-- The target of the entry of a jump table at address `x`: the address `x` less the word at `x`.
abbrev pub entry_target : List ℕ → ℕ → Result ℕ ExecError
entry_target m x = load m x >>= λ w. Ok (minus x w)

-- The target of a jump. If `offset` is below 32,768, the jump leads forward from the next instruction. Any other offset
-- is a negative word, and the target is that of the entry of the jump table at JTAB plus the offset. The offset and the
-- address of this entry must be even.
unfoldable pub target : List ℕ → Registers → ℕ → Result ℕ ExecError
target m r offset =
    if nat_lt offset 32768 then Ok ((r.ipc + offset) % 65536)
    else (demand (is_even offset) InvalidMemory >>= λ _. entry_target m ((r.jtab + offset) % 65536))

-- The registers after a jump. If `taken` is false, the registers are unchanged, and `offset` is not used.
abbrev pub jumped : Bool → List ℕ → Registers → ℕ → Result Registers ExecError
jumped taken m r offset = if taken then (target m r offset >>= λ ipc. Ok (record r { ipc = ipc })) else Ok r

-- UJP. .. -> ..: jumps.
-- FJP. .., a -> ..: jumps if bit 0 of the word `a` is 0.
-- EFJ and NFJ. .., a, b -> ..: EFJ jumps if the words `a` and `b` differ, and NFJ if they are equal. All 16 bits count.
unfoldable pub short_row : Condition → List ℕ → Registers → ℕ → Result Registers ExecError
short_row Always m r offset = jumped true m r offset
short_row IfFalse m r offset = do
  a ← pop m r.sp
  jumped (a.word % 2 == 0) m (record r { sp = a.above }) offset
short_row IfDifferent m r offset = do
  b ← pop m r.sp
  a ← pop m b.above
  jumped (not (a.word == b.word)) m (record r { sp = a.above }) offset
short_row IfEqual m r offset = do
  b ← pop m r.sp
  a ← pop m b.above
  jumped (a.word == b.word) m (record r { sp = a.above }) offset

-- The target of a case jump for `value`. If `value` is from `low` to `high` as signed numbers, it is the target of the
-- entry of the table for this value. Otherwise it is the address two bytes before the table, where a jump of two bytes
-- is. The rank of a word is its position in the order of signed words.
abbrev pub case_target : ℕ → ℕ → ℕ → List ℕ → ℕ → Result ℕ ExecError
case_target low high table m value =
    if nat_le (rank low) (rank value) && nat_le (rank value) (rank high)
    then entry_target m ((table + 2 * (rank value - rank low)) % 65536)
    else Ok (minus (table % 65536) 2)

-- XJP. .., value -> ..: jumps to the case of the value.
unfoldable pub case_row : ℕ → ℕ → ℕ → List ℕ → Registers → Result Registers ExecError
case_row low high table m r = do
  a ← pop m r.sp
  ipc ← case_target low high table m a.word
  Ok (record r { sp = a.above; ipc = ipc })

unfoldable pub jump_row : Jump → List ℕ → Registers → Result Registers ExecError
jump_row (Short condition offset) m r = short_row condition m r offset
jump_row (Case low high table) m r = case_row low high table m r
