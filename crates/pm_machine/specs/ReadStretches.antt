-- What a step reads: the ranges of memory that the rule of its instruction reads, in the state before the step. The
-- bytes of the instruction itself are not included: its opcode, its operands, and words or a table of jumps in the
-- code.
--
-- For a step that ends with an error, the ranges are those that the step would read without the error. These are the
-- exceptions:
--
-- - An EXIT that does not find its procedure reads no frame.
-- - A call does not reach its segment if its code does not fit below SP or its slot has no code. Such a call reads
--   nothing.
-- - A call that does not find its table reads no parameters and no links.
-- - An operation on sets or WORDS that this machine does not have (error 11) reads what it would compare; a comparison
--   of REAL reads nothing.
-- - STP reads its word even if it replaces all of it.
use Rattle.std.specs.Prelude.{ℕ, zero, suc, ◌+◌, ◌*◌, ◌/◌, ◌%◌, ◌==◌, not, Bool, true, nat_lt, ℤ, pos, negsuc}
use Rattle.std.specs.Prelude.{◌+ℤ◌, ◌-ℤ◌, int_le}
use Rattle.std.specs.Prelude.{List, [], ◌∷◌, ◌++◌, Option, Some, None, Result, Ok, Err, if◌then◌else◌}
use Rattle.std.specs.List.{list_any}
use Rattle.pm_words.specs.declared.error.ExecError.{ExecError}
use Rattle.pm_words.specs.Words.{byte_at, word_at}
use Rattle.pm_words.specs.Signed.{signed}
use Rattle.pm_words.specs.Stack.{is_even, minus}
use Rattle.pm_families.specs.declared.families.Arithmetic.{Arithmetic}
use Rattle.pm_families.specs.declared.families.Scope.{Scope}
use Rattle.pm_families.specs.declared.families.Scope.TheVariants as scope
use Rattle.pm_families.specs.declared.families.Variable.{Variable}
use Rattle.pm_families.specs.declared.families.Variable.TheVariants as variable
use Rattle.pm_families.specs.declared.families.Pointer.{Pointer}
use Rattle.pm_families.specs.declared.families.Pointer.TheVariants as pointer
use Rattle.pm_families.specs.declared.families.Value.{Value}
use Rattle.pm_families.specs.declared.families.Value.TheVariants as value
use Rattle.pm_families.specs.declared.families.Byte.TheVariants as byte
use Rattle.pm_families.specs.declared.families.Kind.{Kind}
use Rattle.pm_families.specs.declared.families.Kind.TheVariants as kind
use Rattle.pm_families.specs.declared.families.Text.TheVariants as text
use Rattle.pm_families.specs.declared.families.Field.TheVariants as field
use Rattle.pm_families.specs.declared.families.Condition.{Condition}
use Rattle.pm_families.specs.declared.families.Condition.TheVariants as condition
use Rattle.pm_families.specs.declared.families.Jump.{Jump}
use Rattle.pm_families.specs.declared.families.Jump.TheVariants as jump
use Rattle.pm_families.specs.declared.families.Call.{Call}
use Rattle.pm_families.specs.declared.families.Call.TheVariants.{Clp, Cgp, Cbp, Cip, Cxp}
use Rattle.pm_opcode.specs.declared.instr.Instr.{Instr}
use Rattle.pm_opcode.specs.declared.operation.Operation.{Operation}
use Rattle.pm_opcode.specs.declared.operation.Operation.TheVariants as operation
use Rattle.pm_opcode.specs.Operations.{operation_of}
use Rattle.pm_effects.specs.declared.effect.Effect.{Effect}
use Rattle.pm_effects.specs.Effects.{arithmetic_effect, condition_effect, jump_effect, pointer_effect, standard_effect}
use Rattle.pm_effects.specs.Effects.{value_effect, variable_effect}
use Rattle.pm_calls.specs.declared.frames.Table.{Table}
use Rattle.pm_calls.specs.declared.registers.Registers.{Registers}
use Rattle.pm_calls.specs.Calls.{Reached, procedure_called}
use Rattle.pm_calls.specs.Exits.{control, frame_up}
use Rattle.pm_calls.specs.Links.{level_of, up}
use Rattle.pm_calls.specs.Tables.{attributes, self_relative}
use Rattle.pm_rows.specs.Variables.{variable_at}
use Rattle.pm_stdproc.specs.declared.procedures.OnMemory.{OnMemory}
use Rattle.pm_stdproc.specs.declared.procedures.OnMemory.TheVariants as memory
use Rattle.pm_stdproc.specs.declared.procedures.OnUnits.{OnUnits}
use Rattle.pm_stdproc.specs.declared.procedures.OnUnits.TheVariants as units
use Rattle.pm_stdproc.specs.declared.procedures.Procedure.{Procedure}
use Rattle.pm_stdproc.specs.declared.procedures.Procedure.TheVariants as procedure
use Rattle.pm_stdproc.specs.Procedures.{procedure_numbered}
use Rattle.pm_machine.specs.Procedures.{is_base_return, parts, words_of_return}
use Rattle.pm_machine.specs.Rows.{fetched}
use Rattle.pm_machine.specs.State.{State}
use Rattle.pm_machine.specs.Written.{Stretch, call_reached, counted_stretch, left_by_exit, place_on_stack, stretch}
use Rattle.pm_machine.specs.Written.{stretch_to, touches, transfer_stretch, wanted_at, word_stretch, words_taken}

-- The words that an instruction with the effect `e` takes off the stack at `sp`.
abbrev pub taken : Effect → List ℕ → ℕ → List Stretch
taken e m sp = stretch sp (2 * words_taken e m sp) ∷ []

abbrev pub taken_if : Option Effect → List ℕ → ℕ → List Stretch
taken_if None m sp = []
taken_if (Some e) m sp = taken e m sp

-- ---- instructions on the stack

-- The static links that are read to follow a given number of links from the frame at `a`.
unfoldable pub links_read : List ℕ → ℕ → ℕ → List Stretch
links_read m a zero = []
links_read m a (suc n) = word_stretch (up m a n) ++ links_read m a n

-- The static links that lead from the frame at `mp` to the frame of a variable of the given scope. An instruction
-- follows at most 127 links.
abbrev pub frame_read : Scope → List ℕ → ℕ → List Stretch
frame_read scope.Global m mp = []
frame_read scope.Local m mp = []
frame_read (scope.Intermediate n) m mp = if nat_lt 127 n then [] else links_read m mp n

abbrev pub variable_read : Variable → State → List Stretch
variable_read (variable.Address scope b) s = frame_read scope s.memory s.registers.mp
variable_read (variable.Load scope b) s =
    word_stretch (variable_at scope b s.memory s.registers) ++ frame_read scope s.memory s.registers.mp
variable_read (variable.Store scope b) s =
    taken (variable_effect (variable.Store scope b)) s.memory s.registers.sp
    ++ frame_read scope s.memory s.registers.mp

-- What an instruction reads at the address that is on the stack. The words that are taken off the stack are not
-- included.
abbrev pub led_to : Pointer → List ℕ → ℕ → List Stretch
led_to (pointer.Load b) m sp = stretch ((word_at m sp + 2 * b) % 65536) 2 ∷ []
led_to (pointer.LoadWords n) m sp = stretch (word_at m sp) (2 * n) ∷ []
led_to (pointer.Move b) m sp = stretch (word_at m sp) (2 * b) ∷ []
led_to o m sp = []

abbrev pub pointer_read : Pointer → List ℕ → ℕ → List Stretch
pointer_read o m sp = taken (pointer_effect o) m sp ++ led_to o m sp

-- The string at address `a`, with its length byte.
abbrev pub text_stretch : List ℕ → ℕ → Stretch
text_stretch m a = stretch a (1 + byte_at m a)

-- The string at the address `e`. If `e` is below 256, it is a character, and nothing is read.
abbrev pub source_read : List ℕ → ℕ → List Stretch
source_read m e = if nat_lt e 256 then [] else text_stretch m e ∷ []

-- The bytes that a comparison reads at addresses on the stack. The words that are taken off the stack are not included.
abbrev pub compared_read : Kind → List ℕ → ℕ → List Stretch
compared_read kind.Real m sp = []
compared_read kind.Boolean m sp = []
compared_read kind.Set m sp = []
compared_read kind.String m sp = text_stretch m (word_at m (sp + 2)) ∷ text_stretch m (word_at m sp) ∷ []
compared_read (kind.Bytes n) m sp = stretch (word_at m (sp + 2)) n ∷ stretch (word_at m sp) n ∷ []
compared_read (kind.Words n) m sp = stretch (word_at m (sp + 2)) (2 * n) ∷ stretch (word_at m sp) (2 * n) ∷ []

-- What an instruction reads at addresses on the stack. The words that are taken off the stack are not included. STP
-- (`Field.Store`) reads its word, because it changes only a part of the word.
abbrev pub value_leads : Value → List ℕ → ℕ → List Stretch
value_leads (value.Byte byte.Load) m sp = stretch (place_on_stack m sp) 1 ∷ []
value_leads (value.Byte byte.Store) m sp = []
value_leads (value.Set o) m sp = []
value_leads (value.Text text.Index) m sp = stretch (word_at m (sp + 2)) 1 ∷ []
value_leads (value.Text (text.Assign n)) m sp = source_read m (word_at m sp)
value_leads (value.Field (field.Index per_word width)) m sp = []
value_leads (value.Field field.Load) m sp = stretch (word_at m (sp + 4)) 2 ∷ []
value_leads (value.Field field.Store) m sp = stretch (word_at m (sp + 6)) 2 ∷ []
value_leads (value.Compare r k) m sp = compared_read k m sp

abbrev pub value_read : Value → List ℕ → ℕ → List Stretch
value_read o m sp = taken_if (value_effect o) m sp ++ value_leads o m sp

-- ---- jumps

-- Is true if a jump with the given condition is taken, with the operands on the stack at `sp`.
abbrev pub is_taken : Condition → List ℕ → ℕ → Bool
is_taken condition.Always m sp = true
is_taken condition.IfFalse m sp = word_at m sp % 2 == 0
is_taken condition.IfDifferent m sp = not (word_at m (sp + 2) == word_at m sp)
is_taken condition.IfEqual m sp = word_at m (sp + 2) == word_at m sp

-- The entry of the jump table that a jump with the offset `offset` reads. Only a jump with a negative offset reads an
-- entry.
abbrev pub entry_read : Registers → ℕ → List Stretch
entry_read r offset = if nat_lt offset 32768 then [] else stretch ((r.jtab + offset) % 65536) 2 ∷ []

-- What a jump reads. The table of XJP (`Case`) is part of the instruction, and is not included.
abbrev pub jump_read : Jump → List ℕ → Registers → List Stretch
jump_read (jump.Short c offset) m r =
    taken (condition_effect c) m r.sp ++ (if is_taken c m r.sp then entry_read r offset else [])
jump_read (jump.Case low high table) m r = taken (jump_effect (jump.Case low high table)) m r.sp

-- ---- calls and returns

-- The static links that are read to follow a given number of links from the frame at `mp`, if the number is 0 to 127.
abbrev pub links_by : List ℕ → ℕ → ℤ → List Stretch
links_by m mp (pos n) = frame_read (scope.Intermediate n) m mp
links_by m mp (negsuc n) = []

-- The level of the running procedure, and the static links from its frame to the frame that encloses a procedure of
-- level `level`.
abbrev pub inner_read : List ℕ → Registers → ℤ → List Stretch
inner_read m r level =
    stretch r.jtab 2 ∷ links_by m r.mp (level_of (word_at m r.jtab) -ℤ level +ℤ pos 1)

abbrev pub base_read : Registers → List Stretch
base_read r = stretch r.base 2 ∷ []

-- The words that a call reads to find the static link of a procedure of level `level`.
abbrev pub static_link_read : Call → List ℕ → Registers → ℤ → List Stretch
static_link_read (Clp p) m r level = []
static_link_read (Cgp p) m r level = []
static_link_read (Cbp p) m r level = base_read r
static_link_read (Cip p) m r level = inner_read m r level
static_link_read (Cxp n p) m r level = if int_le level (pos 0) then base_read r else inner_read m r level

-- What a call reads in the table of procedure `p` of the segment whose highest word is at `s`: the words that lead to
-- the table, the number with the level, the entry address, and the two sizes.
abbrev pub table_read : List ℕ → ℕ → ℕ → List Stretch
table_read m s p =
    let j = self_relative m (minus s (2 * p)) in
    stretch s 2 ∷ stretch (minus s (2 * p)) 2 ∷ stretch j 2 ∷ stretch (minus j 2) 2
    ∷ stretch (minus j 6) 2 ∷ stretch (minus j 8) 2 ∷ []

-- What a call reads after the table: the parameters, which it copies, and the words that lead to the static link.
abbrev pub entry_words : Call → List ℕ → Registers → Result Table ExecError → List Stretch
entry_words call m r (Ok t) = stretch r.sp t.parameters ∷ static_link_read call m r t.level
entry_words call m r (Err e) = []

-- What a call reads if it reaches the given segment. The table is read in the memory after the code was loaded.
abbrev pub reached_read : Call → Registers → Result Reached ExecError → List Stretch
reached_read call r (Ok at) =
    table_read at.memory at.place (procedure_called call)
    ++ entry_words call at.memory r (attributes at.memory at.place (procedure_called call))
reached_read call r (Err e) = []

abbrev pub call_read : Call → State → List Stretch
call_read call s = reached_read call s.registers (call_reached call s)

-- What a return from the frame at `mp` reads: five control words, `n` words of the result, and the saved BASE if it is
-- a base return.
abbrev pub return_read : ℕ → Bool → ℕ → List Stretch
return_read n base mp =
    stretch (mp + 2) 10 ∷ stretch (mp + 12) (2 * n) ∷ (if base then stretch (minus mp 2) 2 ∷ [] else [])

-- ---- EXIT

-- The words that EXIT compares with the requested procedure: the highest word of the segment, at `s`, and of the table,
-- at `j`.
abbrev pub asked_read : ℕ → ℕ → List Stretch
asked_read s j = stretch s 2 ∷ stretch j 2 ∷ []

-- The exit address in the table at `j`.
abbrev pub exit_read : ℕ → Stretch
exit_read j = stretch (minus j 4) 2

-- What EXIT reads when it leaves the frame at `f`: the control words that state the caller, and the words to which
-- these lead.
abbrev pub left_read : List ℕ → ℕ → List Stretch
left_read m f =
    stretch ((f + 2) % 65536) 2 ∷ stretch ((f + 4) % 65536) 2 ∷ stretch ((f + 6) % 65536) 2
    ∷ exit_read (control m f 4) ∷ asked_read (control m f 6) (control m f 4)

-- What EXIT reads when it leaves a given number of frames, of which the first is at `a`.
unfoldable pub frames_read : List ℕ → ℕ → ℕ → List Stretch
frames_read m a zero = []
frames_read m a (suc i) = left_read m (frame_up m a i) ++ frames_read m a i

abbrev pub frames_left_read : List ℕ → ℕ → Result ℕ ExecError → List Stretch
frames_left_read m a (Ok n) = frames_read m a n
frames_left_read m a (Err e) = []

-- What EXIT reads, except for the two words that it takes off the stack.
abbrev pub exit_leads : State → List Stretch
exit_leads s =
    exit_read s.registers.jtab ∷ (asked_read s.registers.seg s.registers.jtab
    ++ frames_left_read s.memory s.registers.mp (left_by_exit (parts s) (wanted_at s.memory s.registers.sp)))

-- ---- standard procedures

-- All bytes that a scan from address `a` on can read. The limit is signed; a scan with a negative limit moves to lower
-- addresses.
abbrev pub scan_stretch : ℕ → ℤ → Stretch
scan_stretch a (pos n) = stretch a n
scan_stretch a (negsuc n) = stretch_to (a + 1) (n + 1)

-- What a standard procedure on the memory reads. The words that are taken off the stack are not included.
abbrev pub memory_leads : OnMemory → List ℕ → ℕ → List Stretch
memory_leads memory.MoveLeft m sp = counted_stretch (place_on_stack m (sp + 6)) (word_at m sp)
memory_leads memory.MoveRight m sp = counted_stretch (place_on_stack m (sp + 6)) (word_at m sp)
memory_leads memory.Scan m sp = scan_stretch (place_on_stack m (sp + 2)) (signed (word_at m (sp + 10))) ∷ []
memory_leads memory.Release m sp = stretch (word_at m sp) 2 ∷ []
memory_leads o m sp = []

-- What a standard procedure on the units or the clock reads. UNITWRITE reads the bytes that it writes to its unit.
abbrev pub units_lead : OnUnits → List ℕ → ℕ → List Stretch
units_lead units.Write m sp = transfer_stretch m sp ∷ []
units_lead o m sp = []

abbrev pub procedure_leads : Procedure → State → List Stretch
procedure_leads (procedure.OnMemory o) s = memory_leads o s.memory s.registers.sp
procedure_leads (procedure.OnUnits o) s = units_lead o s.memory s.registers.sp
procedure_leads procedure.Exit s = exit_leads s
procedure_leads procedure.Keep s = []
procedure_leads procedure.Unkeep s = []
procedure_leads procedure.Unimplemented s = []

-- ---- a step

abbrev pub operation_read : Operation → State → List Stretch
operation_read (operation.Arithmetic o) s = taken (arithmetic_effect o) s.memory s.registers.sp
operation_read (operation.Variable o) s = variable_read o s
operation_read (operation.Pointer o) s = pointer_read o s.memory s.registers.sp
operation_read (operation.Literal o) s = []
operation_read (operation.Value o) s = value_read o s.memory s.registers.sp
operation_read (operation.Jump o) s = jump_read o s.memory s.registers
operation_read (operation.Call o) s = call_read o s
operation_read (operation.Return o) s = return_read (words_of_return o) (is_base_return o) s.registers.mp
operation_read (operation.Standard n) s =
    taken_if (standard_effect n) s.memory s.registers.sp ++ procedure_leads (procedure_numbered n) s
operation_read operation.Nothing s = []
operation_read operation.End s = []
operation_read operation.Unimplemented s = []

abbrev pub instruction_read : Result Instr ExecError → State → List Stretch
instruction_read (Ok i) s = operation_read (operation_of i) s
instruction_read (Err e) s = []

-- The ranges of memory that the instruction at IPC reads.
unfoldable pub read : State → List Stretch
read s = instruction_read (fetched s.memory s.registers.ipc) s

-- Is true if the instruction at IPC reads one of the `n` bytes from address `a` on.
abbrev pub reads : ℕ → ℕ → State → Bool
reads a n s = list_any (touches a n) (read s)
