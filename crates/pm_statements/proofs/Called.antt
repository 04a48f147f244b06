-- The number of words that the returns of a procedure leave, computed item by item.
use Rattle.std.proofs.Common.{◌≡◌, ◌<◌, ◌∙◌, ℕ, Bool, true, false, List, [], ◌∷◌, Option, Some, None, refl, sym, ap}
use Rattle.std.proofs.lemmas.Bool.{agree_below_at, true≢false}
use Rattle.pm_families.specs.declared.families.Kind.{Kind}
use Rattle.pm_families.specs.declared.families.Relation.{Relation}
use Rattle.pm_families.specs.declared.families.Value.{Value}
use Rattle.pm_families.specs.declared.families.Value.TheVariants as value
use Rattle.pm_opcode.specs.declared.instr.Instr.{Instr}
use Rattle.pm_opcode.specs.declared.operation.Operation.{Operation}
use Rattle.pm_opcode.specs.declared.operation.Operation.TheVariants as operation
use Rattle.pm_opcode.specs.Operations.{comparison_of, filled_value, operation_of, with_operands}
use Rattle.pm_opcode.specs.Table.{groups, shape_of}
use Rattle.pm_families.specs.Kinds.{kind_of}
use Rattle.pm_code.specs.Item.{Item}
use Rattle.pm_statements.specs.declared.callees.Returns.{Returns}
use Rattle.pm_statements.specs.Callees.{is_return_opcode, joined, operation_returns, returns_from, words_returned}

pub returns_step : (r : Returns) (item : Item ℕ) (items all : List (Item ℕ)) → all ≡ item ∷ items
    → returns_from (joined r (words_returned item)) items ≡ returns_from r all
returns_step r item items all e = sym (ap (returns_from r) e)

pub returns_done : (r : Returns) (items : List (Item ℕ)) → items ≡ [] → returns_from r items ≡ r
returns_done r items e = ap (returns_from r) e

-- ---- the opcodes of returns

abbrev is_return : Operation → Bool
is_return (operation.Return what) = true
is_return _ = false

opcodes_return : (op : ℕ) → op < 256 → is_return (shape_of op) ≡ is_return_opcode op
unfolding groups shape_of
opcodes_return op h = agree_below_at (λ n. is_return (shape_of n)) is_return_opcode 256 op refl h

no_comparison : (r : Relation) (kind : Option Kind) → operation_returns (comparison_of r kind) ≡ None
no_comparison r (Some kind) = refl
no_comparison r None = refl

no_value : (v : Value) (i : Instr) → operation_returns (filled_value v i) ≡ None
no_value (value.Byte what) i = refl
no_value (value.Set what) i = refl
no_value (value.Text what) i = refl
no_value (value.Field what) i = refl
no_value (value.Compare r kind) i = no_comparison r (kind_of i.a i.b)

no_return : (o : Operation) (i : Instr) → is_return o ≡ false → operation_returns (with_operands o i) ≡ None
no_return (operation.Arithmetic what) i h = refl
no_return (operation.Variable what) i h = refl
no_return (operation.Pointer what) i h = refl
no_return (operation.Literal what) i h = refl
no_return (operation.Value what) i h = no_value what i
no_return (operation.Jump what) i h = refl
no_return (operation.Call what) i h = refl
no_return (operation.Return what) i h = absurd (true≢false h)
no_return (operation.Standard n) i h = refl
no_return operation.Nothing i h = refl
no_return operation.End i h = refl
no_return operation.Unimplemented i h = refl

pub no_words : (i : Instr) → i.op < 256 → is_return_opcode i.op ≡ false → operation_returns (operation_of i) ≡ None
unfolding operation_of
no_words i small h = no_return (shape_of i.op) i (opcodes_return i.op small ∙ h)
