-- Worked examples of the ranges of memory that single definitions state as read. `stretch a n` is the `n` bytes from
-- the address `a` on. If no other address is stated, the top of the stack is at the address 0.
use Rattle.std.specs.Prelude.{◌≡◌, true, false, [], ◌∷◌}
use Rattle.pm_families.specs.declared.families.Byte.TheVariants as byte
use Rattle.pm_families.specs.declared.families.Call.TheVariants.{Clp}
use Rattle.pm_families.specs.declared.families.Condition.TheVariants as condition
use Rattle.pm_families.specs.declared.families.Field.TheVariants as field
use Rattle.pm_families.specs.declared.families.Jump.TheVariants as jump
use Rattle.pm_families.specs.declared.families.Pointer.TheVariants as pointer
use Rattle.pm_families.specs.declared.families.Scope.TheVariants as scope
use Rattle.pm_families.specs.declared.families.Set.TheVariants as set
use Rattle.pm_families.specs.declared.families.Text.TheVariants as text
use Rattle.pm_families.specs.declared.families.Value.TheVariants as value
use Rattle.pm_families.specs.declared.families.Variable.TheVariants as variable
use Rattle.pm_calls.specs.declared.registers.Registers.{Registers}
use Rattle.pm_stdproc.specs.declared.procedures.OnMemory.TheVariants as memory
use Rattle.pm_stdproc.specs.declared.procedures.OnUnits.TheVariants as units
use Rattle.pm_machine.specs.State.{State}
use Rattle.pm_machine.specs.Written.{stretch}
use Rattle.pm_machine.specs.ReadStretches.{call_read, exit_leads, jump_read, memory_leads, pointer_read, return_read}
use Rattle.pm_machine.specs.ReadStretches.{table_read, units_lead, value_read, variable_read}
use Rattle.law_engine.specs.WorkedStretches.{calling, leaving, text_above, two_sets}

-- Returns the registers with SP at 0 and JTAB at 300.
abbrev pub at_zero : Registers → Registers
at_zero r = record r { sp = 0; jtab = 300 }

-- Returns the state with its frame at 100 and SP at 40.
abbrev pub at_hundred : State → State
at_hundred s = record s { registers = record s.registers { mp = 100; sp = 40 } }

-- Returns the state with its frame at 0. The static link of this frame leads to the frame at 20, whose static link
-- leads to the frame at 40.
abbrev pub linked : State → State
linked s = record s {
  memory = 20 ∷ 0 ∷ 0 ∷ 0 ∷ 0 ∷ 0 ∷ 0 ∷ 0 ∷ 0 ∷ 0 ∷ 40 ∷ [];
  registers = record s.registers { mp = 0 };
}

pub record WorkedReads : Type 0 where
  -- Variable 2 of the frame at 100: LDL reads it, LLA reads nothing, and STL reads the value at 40 that it pops.
  pub loaded : (s : State) → variable_read (variable.Load scope.Local 2) (at_hundred s) ≡ stretch 114 2 ∷ []
  pub address : (s : State) → variable_read (variable.Address scope.Local 2) (at_hundred s) ≡ []
  pub put : (s : State) → variable_read (variable.Store scope.Local 2) (at_hundred s) ≡ stretch 40 2 ∷ []
  -- LOD of variable 3 of the frame two static links up reads the variable at 56 and both links.
  pub outer :
      (s : State) →
      variable_read (variable.Load (scope.Intermediate 2) 3) (linked s) ≡ stretch 56 2 ∷ stretch 20 2 ∷ stretch 0 2 ∷ []
  -- STO reads the two words that it pops. STM of two words reads these words and the address below them on the stack.
  -- IND 3 through the address 65,534 reads the word at 4. LDM of three words from 1000 and MOV of three words from 500
  -- also read the three words.
  pub stored : pointer_read pointer.Store (9 ∷ 1000 ∷ []) 0 ≡ stretch 0 4 ∷ []
  pub two_stored : pointer_read (pointer.StoreWords 2) (7 ∷ 8 ∷ 1000 ∷ []) 0 ≡ stretch 0 6 ∷ []
  pub around : pointer_read (pointer.Load 3) (65534 ∷ []) 0 ≡ stretch 0 2 ∷ stretch 4 2 ∷ []
  pub three_loaded : pointer_read (pointer.LoadWords 3) (1000 ∷ []) 0 ≡ stretch 0 2 ∷ stretch 1000 6 ∷ []
  pub three_moved : pointer_read (pointer.Move 3) (500 ∷ 1000 ∷ []) 0 ≡ stretch 0 4 ∷ stretch 500 6 ∷ []
  -- LDB of the byte at 2000 + 3. SAS of a character, and of a text at 256. IXS of a text at 1000. LDP of a field of the
  -- word at 1000, and STP into such a field. UNI of a set of one word above a set of two words.
  pub byte : value_read (value.Byte byte.Load) (3 ∷ 2000 ∷ []) 0 ≡ stretch 0 4 ∷ stretch 2003 1 ∷ []
  pub character : value_read (value.Text (text.Assign 80)) (65 ∷ 1000 ∷ []) 0 ≡ stretch 0 4 ∷ []
  pub characters : value_read (value.Text (text.Assign 80)) text_above 0 ≡ stretch 0 4 ∷ stretch 256 4 ∷ []
  pub indexed : value_read (value.Text text.Index) (1 ∷ 1000 ∷ []) 0 ≡ stretch 0 4 ∷ stretch 1000 1 ∷ []
  pub unpacked : value_read (value.Field field.Load) (0 ∷ 4 ∷ 1000 ∷ []) 0 ≡ stretch 0 6 ∷ stretch 1000 2 ∷ []
  pub packed : value_read (value.Field field.Store) (5 ∷ 0 ∷ 4 ∷ 1000 ∷ []) 0 ≡ stretch 0 8 ∷ stretch 1000 2 ∷ []
  pub union : value_read (value.Set set.Union) two_sets 0 ≡ stretch 0 10 ∷ []
  -- XJP reads the word that it pops. Its table is in the code. FJP also reads the entry of the jump table at 298 if bit
  -- 0 of the word that it pops is 0.
  pub case : (r : Registers) → jump_read (jump.Case 1 3 500) (2 ∷ []) (at_zero r) ≡ stretch 0 2 ∷ []
  pub taken :
      (r : Registers) →
      jump_read (jump.Short condition.IfFalse 65534) (2 ∷ []) (at_zero r) ≡ stretch 0 2 ∷ stretch 298 2 ∷ []
  pub passed : (r : Registers) → jump_read (jump.Short condition.IfFalse 65534) (3 ∷ []) (at_zero r) ≡ stretch 0 2 ∷ []
  -- EFJ reads both words that it pops. If they differ, it also reads the entry at 298.
  pub alike :
      (r : Registers) → jump_read (jump.Short condition.IfDifferent 65534) (7 ∷ 7 ∷ []) (at_zero r) ≡ stretch 0 4 ∷ []
  pub different :
      (r : Registers) →
      jump_read (jump.Short condition.IfDifferent 65534) (7 ∷ 8 ∷ []) (at_zero r) ≡ stretch 0 4 ∷ stretch 298 2 ∷ []
  -- RNP of one word from the frame at 60 reads five control words and the result. RBP of no words also reads the old
  -- BASE.
  pub returned : return_read 1 false 60 ≡ stretch 62 10 ∷ stretch 72 2 ∷ []
  pub base_returned : return_read 0 true 60 ≡ stretch 62 10 ∷ stretch 72 0 ∷ stretch 58 2 ∷ []
  -- A call reads the attribute table of procedure 1 of the segment whose highest word is at 20. The word below the
  -- highest word leads 8 bytes down to the table.
  pub table :
      table_read (0 ∷ 0 ∷ 0 ∷ 0 ∷ 0 ∷ 0 ∷ 0 ∷ 0 ∷ 0 ∷ 8 ∷ 257 ∷ []) 20 1
      ≡ stretch 20 2 ∷ stretch 18 2 ∷ stretch 10 2 ∷ stretch 8 2 ∷ stretch 4 2 ∷ stretch 2 2 ∷ []
  -- CLP of procedure 1 reads the table and 4 bytes of parameters.
  pub called :
      (s : State) →
      call_read (Clp 1) (calling s)
      ≡ stretch 20 2 ∷ stretch 18 2 ∷ stretch 10 2 ∷ stretch 8 2 ∷ stretch 4 2 ∷ stretch 2 2 ∷ stretch 60 4 ∷ []
  -- EXIT of the running procedure reads the word of its exit address, the number of its segment and its own number.
  pub left : (s : State) → exit_leads (leaving s) ≡ stretch 58 2 ∷ stretch 60 2 ∷ stretch 62 2 ∷ []
  -- MOVELEFT and MOVERIGHT of 5 bytes from 1000 + 1. SCAN of 3 bytes down from 2000 + 3, of 3 bytes up, of no bytes,
  -- and of 3 bytes down from 1, where only two bytes exist. UNITWRITE of 512 bytes from 4000 + 2.
  pub moved : memory_leads memory.MoveLeft (5 ∷ 3 ∷ 2000 ∷ 1 ∷ 1000 ∷ []) 0 ≡ stretch 1001 5 ∷ []
  pub moved_up : memory_leads memory.MoveRight (5 ∷ 3 ∷ 2000 ∷ 1 ∷ 1000 ∷ []) 0 ≡ stretch 1001 5 ∷ []
  pub scanned : memory_leads memory.Scan (0 ∷ 3 ∷ 2000 ∷ 65 ∷ 0 ∷ 65533 ∷ []) 0 ≡ stretch 2001 3 ∷ []
  pub scanned_up : memory_leads memory.Scan (0 ∷ 3 ∷ 2000 ∷ 65 ∷ 0 ∷ 3 ∷ []) 0 ≡ stretch 2003 3 ∷ []
  pub not_scanned : memory_leads memory.Scan (0 ∷ 3 ∷ 2000 ∷ 65 ∷ 0 ∷ 0 ∷ []) 0 ≡ stretch 2003 0 ∷ []
  pub scanned_low : memory_leads memory.Scan (0 ∷ 0 ∷ 1 ∷ 65 ∷ 0 ∷ 65533 ∷ []) 0 ≡ stretch 0 2 ∷ []
  pub unit_written : units_lead units.Write (0 ∷ 3 ∷ 512 ∷ 2 ∷ 4000 ∷ 4 ∷ []) 0 ≡ stretch 4002 512 ∷ []
