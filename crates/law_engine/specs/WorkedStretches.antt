-- Worked examples of the ranges of memory that single definitions state as written. `stretch a n` is the `n` bytes from
-- the address `a` on. If no other address is stated, the top of the stack is at the address 0.
use Rattle.std.specs.Prelude.{◌≡◌, ℕ, pos, true, false, List, [], ◌∷◌, ◌++◌, replicate, Some, Ok}
use Rattle.pm_families.specs.declared.families.Byte.TheVariants as byte
use Rattle.pm_families.specs.declared.families.Call.TheVariants.{Clp}
use Rattle.pm_families.specs.declared.families.Field.TheVariants as field
use Rattle.pm_families.specs.declared.families.Kind.TheVariants as kind
use Rattle.pm_families.specs.declared.families.Pointer.TheVariants as pointer
use Rattle.pm_families.specs.declared.families.Relation.TheVariants as relation
use Rattle.pm_families.specs.declared.families.Set.TheVariants as set
use Rattle.pm_families.specs.declared.families.Text.TheVariants as text
use Rattle.pm_families.specs.declared.families.Value.TheVariants as value
use Rattle.pm_calls.specs.declared.frames.Table.{Table}
use Rattle.pm_effects.specs.Effects.{words}
use Rattle.pm_stdproc.specs.declared.procedures.OnMemory.TheVariants as memory
use Rattle.pm_stdproc.specs.declared.procedures.OnUnits.TheVariants as units
use Rattle.pm_machine.specs.State.{State}
use Rattle.pm_machine.specs.Written.{call_written, exit_written, frame_stretch, ips_written, kept_written}
use Rattle.pm_machine.specs.Written.{memory_written, pointer_written, pushes_words, return_written, set_words, stretch}
use Rattle.pm_machine.specs.Written.{touches, units_written, value_written, word_stretch}

-- A stack with a set of one word above a set of two words.
abbrev pub two_sets : List ℕ
two_sets = 1 ∷ 7 ∷ 2 ∷ 7 ∷ 7 ∷ []

-- A stack for SAS: the address 256 of a text of 3 characters, above the destination address 1000.
abbrev pub text_above : List ℕ
text_above = 256 ∷ 1000 ∷ (replicate 126 0 ++ (3 ∷ []))

-- Returns the state with SP at 60, in a segment whose highest word is at 20. The table of its procedure 1 is at 10 and
-- states 4 bytes of parameters and 6 bytes of other variables.
abbrev pub calling : State → State
calling s = record s {
  memory = 0 ∷ 6 ∷ 4 ∷ 0 ∷ 0 ∷ 257 ∷ 0 ∷ 0 ∷ 0 ∷ 8 ∷ 257 ∷ [];
  registers = record s.registers { sp = 60; seg = 20 };
}

-- Returns a state in which procedure 2 of segment 1 is running. The number of the procedure is the top of the stack,
-- and the number of the segment is below it.
abbrev pub leaving : State → State
leaving s = record s {
  memory = replicate 30 0 ++ (1 ∷ 2 ∷ 0 ∷ 0 ∷ 0 ∷ 2 ∷ 1 ∷ []);
  registers = record s.registers { sp = 70; seg = 60; jtab = 62 };
}

-- The table of a procedure with 4 bytes of parameters and 6 bytes of other variables.
abbrev pub table : Table
table = record { jtab = 0; enter = 0; exit = 0; parameters = 4; locals = 6; level = pos 1 }

-- Examples of the words that a range of bytes touches.
pub record WorkedTouches : Type 0 where
  -- The five bytes from 2003 on touch the words at 2002, 2004 and 2006, but not the words at 2000 and 2008.
  pub first : touches 2002 2 (stretch 2003 5) ≡ true
  pub last : touches 2006 2 (stretch 2003 5) ≡ true
  pub under : touches 2000 2 (stretch 2003 5) ≡ false
  pub over : touches 2008 2 (stretch 2003 5) ≡ false
  -- A range of no bytes touches no word, and no range touches zero bytes.
  pub none : touches 2002 2 (stretch 2003 0) ≡ false
  pub of_none : touches 2004 0 (stretch 2003 5) ≡ false

pub record WorkedRows : Type 0 where
  -- ADI pops the two words at 100 and leaves one word. SLDC pops no word and leaves one.
  pub added : pushes_words (words 2 1) [] 100 ≡ stretch 102 2 ∷ []
  pub constant : pushes_words (words 0 1) [] 100 ≡ stretch 98 2 ∷ []
  -- At SP 0 there is no memory for a word. SGS of 65,535 with SP at 0 has only 2 bytes of memory for 4,097 words.
  pub without_room : pushes_words (words 0 1) [] 0 ≡ stretch 0 0 ∷ []
  pub two_bytes : value_written (value.Set set.Singleton) (65535 ∷ []) 0 ≡ stretch 0 2 ∷ []
  -- STL of the variable at 1000. STO of 9 to the address 1000. STM of two words, LDM of three words, and MOV of three
  -- words.
  pub variable : word_stretch (Ok 1000) ≡ stretch 1000 2 ∷ []
  pub stored : pointer_written pointer.Store (9 ∷ 1000 ∷ []) 0 ≡ stretch 1000 2 ∷ []
  pub two_stored : pointer_written (pointer.StoreWords 2) (7 ∷ 8 ∷ 1000 ∷ []) 0 ≡ stretch 1000 4 ∷ []
  pub three_loaded : pointer_written (pointer.LoadWords 3) [] 100 ≡ stretch 96 6 ∷ []
  pub three_moved : pointer_written (pointer.Move 3) (500 ∷ 1000 ∷ []) 0 ≡ stretch 1000 6 ∷ []
  -- IXP pops the two words at 100 and leaves three words. LDP pops the three words at 0 and leaves one word.
  pub packed : value_written (value.Field (field.Index 4 4)) [] 100 ≡ stretch 98 6 ∷ []
  pub unpacked : value_written (value.Field field.Load) (0 ∷ 4 ∷ 1000 ∷ []) 0 ≡ stretch 4 2 ∷ []
  -- STB of 9 to the address 2000 + 3. STP of 5 into four bits of the word at 1000. SAS of one character, and of three
  -- characters, to the address 1000. IXS writes nothing.
  pub byte : value_written (value.Byte byte.Store) (9 ∷ 3 ∷ 2000 ∷ []) 0 ≡ stretch 2003 1 ∷ []
  pub field : value_written (value.Field field.Store) (5 ∷ 0 ∷ 4 ∷ 1000 ∷ []) 0 ≡ stretch 1000 2 ∷ []
  pub character : value_written (value.Text (text.Assign 80)) (65 ∷ 1000 ∷ []) 0 ≡ stretch 1000 2 ∷ []
  pub characters : value_written (value.Text (text.Assign 80)) text_above 0 ≡ stretch 1000 4 ∷ []
  pub indexed : value_written (value.Text text.Index) (1 ∷ 1000 ∷ []) 0 ≡ []
  -- UNI, INT and DIF pop the five words from 0 to 10, and leave three, two and three words. EQUSET leaves one word.
  pub union : value_written (value.Set set.Union) two_sets 0 ≡ stretch 4 6 ∷ []
  pub intersection : value_written (value.Set set.Intersection) two_sets 0 ≡ stretch 6 4 ∷ []
  pub difference : value_written (value.Set set.Difference) two_sets 0 ≡ stretch 4 6 ∷ []
  pub compared : value_written (value.Compare relation.Equal kind.Set) two_sets 0 ≡ stretch 8 2 ∷ []
  -- INN pops the upper set and the word below it, and leaves one word. ADJ pops the upper set and leaves two words.
  pub member : value_written (value.Set set.Member) two_sets 0 ≡ stretch 4 2 ∷ []
  pub adjusted : value_written (value.Set (set.Adjust 2)) two_sets 0 ≡ stretch 0 4 ∷ []
  -- The set of the number 40 has a count and three words, and so has the set of the numbers from 20 to 40. The set of
  -- the numbers from 40 to 20 is empty and has only a count.
  pub singleton : set_words set.Singleton (40 ∷ []) 0 ≡ 4
  pub subrange : set_words set.Subrange (40 ∷ 20 ∷ []) 0 ≡ 4
  pub empty : set_words set.Subrange (20 ∷ 40 ∷ []) 0 ≡ 1

pub record WorkedFrames : Type 0 where
  -- A frame below parameters that end at 104 has 22 bytes, of which 16 are written. The frame of a base call is below
  -- 20 bytes of code, which end at 100. It also has the old BASE below these 22 bytes.
  pub frame : frame_stretch false 0 100 table ≡ stretch 82 16
  pub base_frame : frame_stretch true 20 100 table ≡ stretch 56 18
  -- Of a frame below parameters that end at 14, only 8 of the written bytes have addresses from 0 on.
  pub part : frame_stretch false 0 10 table ≡ stretch 0 8
  -- CLP of procedure 1 writes no code, and writes the 16 bytes below its 6 bytes of variables, which end at 64.
  pub called : (s : State) → call_written (Clp 1) (calling s) ≡ stretch 60 0 ∷ stretch 42 16 ∷ []
  -- A return of one word from a frame that saves the SP 60.
  pub returned : return_written 1 (0 ∷ 0 ∷ 0 ∷ 0 ∷ 0 ∷ 60 ∷ []) 0 ≡ stretch 58 2 ∷ []
  -- A return of two words from a frame that saves the SP 2. Only one of the words has an address from 0 on.
  pub returned_low : return_written 2 (0 ∷ 0 ∷ 0 ∷ 0 ∷ 0 ∷ 2 ∷ []) 0 ≡ stretch 0 2 ∷ []
  -- EXIT that leaves two frames: the frame at 0 and that of its caller at 20. EXIT of the running procedure writes
  -- nothing.
  pub ips : ips_written (0 ∷ 20 ∷ []) 0 2 ≡ stretch 28 2 ∷ stretch 8 2 ∷ []
  pub left : (s : State) → exit_written (leaving s) ≡ []
  -- Procedure 21 that loads four bytes of code, with SP at the number of its slot: at 100, and at 0, where only two
  -- bytes are below.
  pub kept : kept_written 100 (Ok (Some (1 ∷ 2 ∷ 3 ∷ 4 ∷ []))) ≡ stretch 98 4 ∷ []
  pub kept_low : kept_written 0 (Ok (Some (1 ∷ 2 ∷ 3 ∷ 4 ∷ []))) ≡ stretch 0 2 ∷ []

pub record WorkedProcedures : Type 0 where
  -- NEW of three words with the pointer variable at 1000, MARK with the variable at 1000, IORESULT, and SCAN.
  pub new : memory_written memory.New (3 ∷ 1000 ∷ []) 0 ≡ stretch 1000 2 ∷ []
  pub mark : memory_written memory.Mark (1000 ∷ []) 0 ≡ stretch 1000 2 ∷ []
  pub result : memory_written memory.IoResult [] 100 ≡ stretch 98 2 ∷ []
  pub scan : memory_written memory.Scan [] 100 ≡ stretch 110 2 ∷ []
  -- MOVELEFT of 5 bytes to 2000 + 3, MOVELEFT of no byte, and MOVERIGHT of -1 bytes. FILLCHAR of 5 bytes to 2000 + 3.
  pub five : memory_written memory.MoveLeft (5 ∷ 3 ∷ 2000 ∷ []) 0 ≡ stretch 2003 5 ∷ []
  pub none : memory_written memory.MoveLeft (0 ∷ 3 ∷ 2000 ∷ []) 0 ≡ []
  pub below_none : memory_written memory.MoveRight (65535 ∷ 3 ∷ 2000 ∷ []) 0 ≡ []
  pub filled : memory_written memory.Fill (65 ∷ 5 ∷ 3 ∷ 2000 ∷ []) 0 ≡ stretch 2003 5 ∷ []
  -- UNITREAD of 512 bytes from block 3 of unit 4 to 4000 + 2, and to 65,280, where only 256 bytes exist (error 7).
  -- UNITBUSY. TIME to the addresses 2000 and 1000.
  pub read : units_written units.Read (0 ∷ 3 ∷ 512 ∷ 2 ∷ 4000 ∷ 4 ∷ []) 0 ≡ stretch 4002 512 ∷ []
  pub not_read : units_written units.Read (0 ∷ 3 ∷ 512 ∷ 0 ∷ 65280 ∷ 4 ∷ []) 0 ≡ stretch 65280 512 ∷ []
  pub busy : units_written units.Busy [] 100 ≡ stretch 100 2 ∷ []
  pub time : units_written units.Time (1000 ∷ 2000 ∷ []) 0 ≡ stretch 2000 2 ∷ stretch 1000 2 ∷ []

pub record WorkedStretches : Type 0 where
  pub touches : WorkedTouches
  pub rows : WorkedRows
  pub frames : WorkedFrames
  pub procedures : WorkedProcedures
