-- The rules of the standard procedures that use only the stack, the heap and the memory. A rule pops its operands, the
-- top one first, and then checks them. The lines of a rule are in the order in which its errors are checked.
use Rattle.std.specs.Prelude.{ℕ, ◌+◌, ◌-◌, ◌*◌, ◌/◌, ◌%◌, ℤ, pos, negsuc, Bool, ◌&&◌, List, Result, Ok, Err}
use Rattle.std.specs.Prelude.{if◌then◌else◌, ◌==◌, nat_lt, nat_le}
use Rattle.pm_words.specs.declared.error.ExecError.{ExecError}
use Rattle.pm_words.specs.declared.error.ExecError.TheVariants as error
use Rattle.pm_words.specs.Words.{filled, moved_up, moved_down, scanned}
use Rattle.pm_words.specs.Signed.{signed, word}
use Rattle.pm_words.specs.Stack.{◌>>=◌, demand, is_even, lies_in_memory, load, store, pop, push}
use Rattle.pm_words.specs.declared.stack.Popped.{Popped}
use Rattle.pm_calls.specs.declared.registers.Registers.{Registers}
use Rattle.pm_stdproc.specs.declared.procedures.OnMemory.{OnMemory}
use Rattle.pm_stdproc.specs.declared.procedures.OnMemory.TheVariants.{CheckIo, New, MoveLeft, MoveRight, Fill, Scan}
use Rattle.pm_stdproc.specs.declared.procedures.OnMemory.TheVariants.{Mark, Release, IoResult, Halt, FreeMemory}

-- A rule: from the memory and the registers it computes the new memory and registers, or an error.
abbrev pub MemoryRow : Type 0
MemoryRow = List ℕ → Registers → Result (List ℕ × Registers) ExecError

-- ---- operands

-- Pops a byte pointer, which is an index and a base below it. The result has the address to which it points, which is
-- their sum, and SP after both are popped.
abbrev pub pop_place : List ℕ → ℕ → Result Popped ExecError
pop_place m sp = do
  index ← pop m sp
  base ← pop m index.above
  Ok (record { word = (base.word + index.word) % 65536; above = base.above })

-- Is true if `w` is above 0 as a signed number.
abbrev pub is_positive : ℕ → Bool
is_positive w = nat_lt 0 w && nat_lt w 32768

-- ---- the rules

-- IOCHECK: fails with `UserIo` if IORESULT is not 0.
unfoldable pub check_io_row : MemoryRow
check_io_row m r = do
  _ ← demand (r.ioresult == 0) error.UserIo
  Ok (m, r)

-- NEW. Its operands are an address and a count. NP is written to the word at the address, and the heap grows by `count`
-- words. The count is unsigned.
unfoldable pub new_row : MemoryRow
new_row m r = do
  n ← pop m r.sp
  a ← pop m n.above
  new ← store m a.word r.np
  _ ← demand (nat_le (r.np + 2 * n.word) a.above) error.StackOverflow
  Ok (new, record r { sp = a.above; np = r.np + 2 * n.word })

-- The memory after `move` has moved `count` bytes from `from` to `to`. If `count` is 0 or negative, the memory is
-- unchanged, for any addresses.
abbrev pub moved : (List ℕ → ℕ → ℕ → ℕ → List ℕ) → List ℕ → ℕ → ℕ → ℕ → Result (List ℕ) ExecError
moved move m from to count =
    if is_positive count then
    (demand (lies_in_memory from count && lies_in_memory to count) error.InvalidMemory >>= λ _. Ok
    (move m from to count))
    else Ok m

-- MOVELEFT and MOVERIGHT. Their operands are a source, a destination and a count. They move byte by byte: MOVELEFT from
-- the low end, and MOVERIGHT from the high end.
unfoldable pub move_bytes_row : (List ℕ → ℕ → ℕ → ℕ → List ℕ) → MemoryRow
move_bytes_row move m r = do
  count ← pop m r.sp
  to ← pop_place m count.above
  from ← pop_place m to.above
  new ← moved move m from.word to.word count.word
  Ok (new, record r { sp = from.above })

-- The memory with the `count` bytes from `a` on set to `b`. If `count` is 0 or negative, the memory is unchanged, for
-- any address.
abbrev pub filled_with : List ℕ → ℕ → ℕ → ℕ → Result (List ℕ) ExecError
filled_with m a count b =
    if is_positive count then (demand (lies_in_memory a count) error.InvalidMemory >>= λ _. Ok (filled m a count b))
    else Ok m

-- FILLCHAR. Its operands are a byte pointer, a count and a character.
unfoldable pub fill_row : MemoryRow
fill_row m r = do
  ch ← pop m r.sp
  count ← pop m ch.above
  place ← pop_place m count.above
  new ← filled_with m place.word count.word (ch.word % 256)
  Ok (new, record r { sp = place.above })

-- Is true if all bytes that a scan from address `a` on may read are in memory.
abbrev pub scan_lies_in_memory : ℕ → ℤ → Bool
scan_lies_in_memory a (pos n) = nat_le (a + n) 65536
scan_lies_in_memory a (negsuc n) = nat_le n a

-- The number of bytes that a scan passes before it stops, as a word. The limit is signed.
abbrev pub passed_by : List ℕ → ℕ → ℕ → ℕ → Bool → Result ℕ ExecError
passed_by m a limit b equal = do
  let steps = signed limit
  _ ← demand (scan_lies_in_memory a steps) error.InvalidMemory
  Ok (word (scanned m a steps b equal))

-- SCAN. Its operands are a limit, a kind, a character, a byte pointer and a mask. It pushes the number of bytes before
-- the first that equals the character, or, if the kind is odd, before the first that differs. The mask is ignored.
unfoldable pub scan_row : MemoryRow
scan_row m r = do
  mask ← pop m r.sp
  place ← pop_place m mask.above
  ch ← pop m place.above
  kind ← pop m ch.above
  limit ← pop m kind.above
  k ← passed_by m place.word limit.word (ch.word % 256) (kind.word % 2 == 0)
  new ← push m limit.above r.np k
  Ok (new.0, record r { sp = new.1 })

-- MARK. Its operand is an address. NP is written to the word at this address.
unfoldable pub mark_row : MemoryRow
mark_row m r = do
  a ← pop m r.sp
  new ← store m a.word r.np
  Ok (new, record r { sp = a.above })

-- RELEASE. Its operand is an address. NP is set to the word at this address, which must be even and at most SP.
unfoldable pub release_row : MemoryRow
release_row m r = do
  a ← pop m r.sp
  v ← load m a.word
  _ ← demand (is_even v) error.InvalidMemory
  _ ← demand (nat_le v a.above) error.StackOverflow
  Ok (m, record r { sp = a.above; np = v })

-- The word `w` is pushed on the stack.
unfoldable pub push_row : ℕ → MemoryRow
push_row w m r = do
  new ← push m r.sp r.np w
  Ok (new.0, record r { sp = new.1 })

-- The rule of the given procedure. MEMAVAIL (`FreeMemory`) pushes the number of words between NP and SP.
unfoldable pub memory_row : OnMemory → MemoryRow
memory_row CheckIo m r = check_io_row m r
memory_row New m r = new_row m r
memory_row MoveLeft m r = move_bytes_row moved_up m r
memory_row MoveRight m r = move_bytes_row moved_down m r
memory_row Fill m r = fill_row m r
memory_row Scan m r = scan_row m r
memory_row Mark m r = mark_row m r
memory_row Release m r = release_row m r
memory_row IoResult m r = push_row r.ioresult m r
memory_row Halt m r = Err error.Halt
memory_row FreeMemory m r = push_row ((r.sp - r.np) / 2) m r
