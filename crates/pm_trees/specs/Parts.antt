-- The items of the code as parts of statements. A part is an item with its place, its role and its stack effect.
use Rattle.std.specs.Prelude.{ℕ, ◌+◌, ◌*◌, Bool, true, false, ◌==◌, ◌||◌, nat_lt, if◌then◌else◌, List, [], ◌∷◌, ◌++◌}
use Rattle.std.specs.Prelude.{Option, Some, None}
use Rattle.std.specs.Prelude.{option_map, slice_index_or}
use Rattle.pm_families.specs.declared.families.Arithmetic.TheVariants as arithmetic
use Rattle.pm_families.specs.declared.families.Call.{Call}
use Rattle.pm_families.specs.declared.families.Call.TheVariants as call
use Rattle.pm_families.specs.declared.families.Condition.{Condition}
use Rattle.pm_opcode.specs.declared.instr.Instr.{Instr}
use Rattle.pm_opcode.specs.declared.operation.Operation.{Operation}
use Rattle.pm_opcode.specs.declared.operation.Operation.TheVariants as operation
use Rattle.pm_opcode.specs.Operations.{operation_of}
use Rattle.pm_opcode.specs.Standing.{bare}
use Rattle.pm_code.specs.Item.{Item, Target, case_opcode, size}
use Rattle.pm_code.specs.Item.Item.{Plain, Jump, Case, OneByte}
use Rattle.pm_code.specs.Item.Target.{To, Through}
use Rattle.pm_code.specs.declared.item.Target as told
use Rattle.pm_code.specs.declared.item.Target.TheVariants as targets
use Rattle.pm_code.specs.Program.{Procedure, is_among}
use Rattle.pm_code.specs.Shown.{named_places}
use Rattle.pm_effects.specs.declared.effect.Share.{Share}
use Rattle.pm_effects.specs.declared.effect.Share.TheVariants as share
use Rattle.pm_effects.specs.declared.effect.Effect.{Effect}
use Rattle.pm_effects.specs.Effects.{words}
use Rattle.pm_effects.specs.History.{instruction_effect}
use Rattle.pm_phrases.specs.Jumps.{condition_of}
use Rattle.pm_trees.specs.declared.items.Layout.{Layout}
use Rattle.pm_trees.specs.declared.left.Role.{Role}
use Rattle.pm_trees.specs.declared.left.Role.TheVariants as role
use Rattle.pm_trees.specs.declared.part.Callee.{Callee}
use Rattle.pm_trees.specs.declared.part.Leaves.{Leaves}
use Rattle.pm_trees.specs.declared.part.Leaves.TheVariants as leaves
use Rattle.pm_trees.specs.declared.part.Place.{Place}
use Rattle.pm_trees.specs.declared.part.Takes.{Takes}

-- ---- the stack effect of an item

-- What is known about the procedures: the segment of the code, and a table with 256 procedures for each segment.
-- `layout` states how statements are indented and grouped.
pub record Known : Type 0 where
  pub segment : ℕ
  pub callees : List (Option Callee)
  pub layout : Layout

-- The index of the called procedure in the table `callees`.
abbrev pub callee_index : ℕ → Call → ℕ
callee_index segment (call.Clp p) = 256 * segment + p
callee_index segment (call.Cgp p) = 256 * segment + p
callee_index segment (call.Cbp p) = 256 * segment + p
callee_index segment (call.Cip p) = 256 * segment + p
callee_index segment (call.Cxp s p) = 256 * s + p

abbrev pub callee_effect : Callee → Effect
callee_effect c = words c.parameters c.results

-- The stack effect of the call `c`, or `None` if the sizes of the called procedure are not known.
abbrev pub call_effect : Known → Call → Option Effect
call_effect k c = option_map callee_effect (slice_index_or k.callees (callee_index k.segment c) None)

-- The stack effect of the instruction `i`. The effect of a call depends on the called procedure. The effect of any
-- other instruction is `instruction_effect`.
abbrev pub effect_by : Known → Operation → Instr → Option Effect
effect_by k (operation.Call c) i = call_effect k c
effect_by k _ i = instruction_effect i

-- The instruction of an item, without its target or its table. A single byte has no instruction.
abbrev pub item_instruction : Item ℕ → Option Instr
item_instruction (Plain i named) = Some i
item_instruction (Jump op target) = Some (bare op)
item_instruction (Case low high otherwise places) = Some (bare case_opcode)
item_instruction (OneByte b) = None

-- ---- the role of an operation

-- The role of an operation that is not a jump: a call, the I/O check, or another operation.
abbrev pub operation_role : Operation → Role
operation_role (operation.Call c) = role.Call
operation_role (operation.Standard n) = if n == 0 then role.Check else role.Call
operation_role _ = role.Other

-- The target of a jump, converted to the type that the code uses.
abbrev pub target_told : Target ℕ → told.Target ℕ
target_told (To place) = targets.To place
target_told (Through k) = targets.Through k

abbrev pub jump_role : Option Condition → told.Target ℕ → Role
jump_role None target = role.Other
jump_role (Some c) target = role.Jump c target

-- The role of the item, whose instruction has the operation `what`.
abbrev pub role_by : Operation → Item ℕ → Role
role_by what (Plain i named) = operation_role what
role_by what (Jump op target) = jump_role (condition_of op) (target_told target)
role_by what (Case low high otherwise places) = role.Case
role_by what (OneByte b) = role.Other

-- ---- parts

-- A part of a statement: an item of the code with its place, the role of its operation, and its stack effect. `known`
-- is false if the stack effect is not known.
pub record Part : Type 0 where
  pub item : Item ℕ
  pub place : Place
  pub role : Role
  pub takes : Takes
  pub leaves : Leaves
  pub known : Bool

-- Whether the place `p` has a label or begins the exit code.
abbrev pub is_reached : Place → Bool
is_reached p = p.has_label || p.is_exit

-- What an instruction with this effect pops. Without an effect, it pops 0 words.
abbrev pub takes_of : Option Effect → Takes
takes_of None = record { top = share.Words 0; below = share.Words 0 }
takes_of (Some e) = record { top = e.top; below = e.below }

abbrev pub leaves_share : Share → Leaves
leaves_share (share.Words n) = leaves.Words n
leaves_share share.Set = leaves.Set

abbrev pub leaves_effect : Option Effect → Leaves
leaves_effect None = leaves.Words 0
leaves_effect (Some e) = leaves_share e.leaves

-- What an instruction that pushes the constant `w` leaves. A constant below 256 may be the number of words of a set.
abbrev pub leaves_constant : ℕ → Leaves
leaves_constant w = if nat_lt w 256 then leaves.Constant w else leaves.Words 1

abbrev pub leaves_by : Operation → Option Effect → Leaves
leaves_by (operation.Arithmetic (arithmetic.Constant w)) e = leaves_constant w
leaves_by _ e = leaves_effect e

-- Whether what the operation pops is known. It is unknown only for a call or a standard procedure without an effect.
-- Any other operation without an effect is not executed by the machine.
abbrev pub is_known : Operation → Option Effect → Bool
is_known (operation.Call c) None = false
is_known (operation.Standard n) None = false
is_known _ _ = true

-- What an instruction pops and pushes, and whether both are known.
pub record Moves : Type 0 where
  pub takes : Takes
  pub leaves : Leaves
  pub known : Bool

abbrev pub moves_by : Operation → Option Effect → Moves
moves_by o e = record { takes = takes_of e; leaves = leaves_by o e; known = is_known o e }

-- What the instruction pops and pushes. A single byte is no instruction, and is treated as an instruction that the
-- machine does not implement.
abbrev pub moves_of : Known → Option Instr → Moves
moves_of k None = moves_by operation.Unimplemented None
moves_of k (Some i) = moves_by (operation_of i) (effect_by k (operation_of i) i)

abbrev pub part_with : Item ℕ → Place → Role → Moves → Part
part_with item place role m =
    record { item = item; place = place; role = role; takes = m.takes; leaves = m.leaves; known = m.known }

-- The role of the item with this instruction. A single byte has no instruction.
abbrev pub role_with : Option Instr → Item ℕ → Role
role_with None item = role_by operation.Unimplemented item
role_with (Some i) item = role_by (operation_of i) item

abbrev pub part_of : Known → Item ℕ → Place → Part
part_of k item place =
    part_with item place (role_with (item_instruction item) item) (moves_of k (item_instruction item))

-- The place at offset `at`. `used` has the offsets with a label, and `exit` is the offset of the exit code.
abbrev pub place_at : List ℕ → ℕ → ℕ → Place
place_at used exit at = record { offset = at; has_label = is_among used at; is_exit = exit == at }

-- The parts of a list of items, the first of which is at offset `at`.
abbrev pub parts : Known → List ℕ → ℕ → ℕ → List (Item ℕ) → List Part
parts k used exit at [] = []
parts k used exit at (item ∷ items) =
    part_of k item (place_at used exit at) ∷ parts k used exit (at + size at item) items

-- The offsets with a label in the procedure `p`: the targets of its jumps, and of the entries of its jump table.
abbrev pub labelled_places : Procedure → List ℕ
labelled_places p = named_places p.items ++ p.entries

-- The parts of the procedure `p`. Its offsets have the same labels as in its text.
abbrev pub procedure_parts : Known → Procedure → List Part
procedure_parts k p = parts k (labelled_places p) p.exit p.start p.items
