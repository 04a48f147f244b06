-- Lemmas for the bytes of the code that an instruction reads as data: the words of LDC, and the table of XJP.
use Rattle.std.proofs.Common.{◌≡◌, ◌≤◌, inl, inr, ℕ, ◌+◌, ◌-◌, ◌*◌, ◌%◌, ◌&&◌, ◌||◌, Bool, true, false, nat_le}
use Rattle.std.proofs.Common.{List, [], ◌∷◌, Option, Some, None, refl, sym, subst, arith}
use Rattle.std.specs.Prelude.{not}
use Rattle.std.proofs.lemmas.Bool.{and_parts, cases_Bool, true≢false}
use Rattle.std.proofs.lemmas.Bool.Decides.{nat_tests}
use Rattle.pm_words.specs.Stack.{pop}
use Rattle.pm_families.specs.declared.families.Kind.{Kind}
use Rattle.pm_families.specs.declared.families.Relation.{Relation}
use Rattle.pm_families.specs.declared.families.Jump.TheVariants as jump
use Rattle.pm_families.specs.declared.families.Literal.TheVariants as literal
use Rattle.pm_families.specs.declared.families.Value.TheVariants as value
use Rattle.pm_opcode.specs.declared.instr.Instr.{Instr}
use Rattle.pm_opcode.specs.declared.operand_form.Form.{Form}
use Rattle.pm_opcode.specs.declared.operand_form.Form.TheVariants as form
use Rattle.pm_opcode.specs.declared.operation.Operation.{Operation}
use Rattle.pm_opcode.specs.declared.operation.Operation.TheVariants as operation
use Rattle.pm_opcode.specs.Operations.{comparison_of, operation_of, with_operands}
use Rattle.pm_opcode.specs.Spelling.{in_range, jump_count, lies_within, rank}
use Rattle.pm_opcode.specs.Table.{Group, form_of, group_in, groups, shape_of}
use Rattle.pm_calls.specs.declared.registers.Registers.{Registers}
use Rattle.pm_rows.specs.Jumps.{case_row, case_target}
use Rattle.law_engine.proofs.ReadSteps.{Both, Same, both, pop_same}
use Rattle.law_engine.proofs.ReadOthers.{Equal, NamesSame, entry_same}

-- ---- the case jump

-- The table at `table` of a case jump from `low` to `high` ends within memory, and its bytes are the same in `m` and
-- `n`.
pub record CaseSame (low high table : ℕ) (m n : List ℕ) : Type 0 where
  pub room : table + 2 * jump_count low high ≤ 65536
  pub same : Same m n table (2 * jump_count low high)

case_same : (low high table v : ℕ) (m n : List ℕ) → CaseSame low high table m n → case_target low high table n v ≡ case_target low high table m v
case_same low high table v m n c = elim (cases_Bool (nat_le (rank low) (rank v) && nat_le (rank v) (rank high))) [
  | inl e ↦
      let parts = and_parts (nat_le (rank low) (rank v)) (nat_le (rank v) (rank high)) e in
      let low_below : rank low ≤ rank v = grind (arith, nat_tests, parts.0) in
      let high_above : rank v ≤ rank high = grind (arith, nat_tests, parts.1) in
      let room = c.room in
      let place : (table + 2 * (rank v - rank low)) % 65536 ≡ table + 2 * (rank v - rank low) =
      less (rank low) (rank v) (rank high) low_below high_above room in
      rw (e, place) (entry_same m n (table + 2 * (rank v - rank low)) (part (rank low) (rank v) (rank high) low_below high_above c.same))
  | inr e ↦ rw e refl
]
  where
    less : (l x h : ℕ) → l ≤ x → x ≤ h → table + 2 * (h + 1 - l) ≤ 65536 → (table + 2 * (x - l)) % 65536 ≡ table + 2 * (x - l)
    less l x h a b r = omega (arith, a, b, r)

    part : (l x h : ℕ) → l ≤ x → x ≤ h → Same m n table (2 * (h + 1 - l)) → Same m n (table + 2 * (x - l)) 2
    part l x h a b s = λ y from to. s y (omega (arith, from)) (omega (arith, to, a, b))

pub case_alike : (low high table : ℕ) (m n : List ℕ) (r : Registers) → Same m n r.sp 2 → CaseSame low high table m n
    → Both Equal (case_row low high table m r) (case_row low high table n r)
unfolding case_row
case_alike low high table m n r same c =
    both Equal (pop m r.sp) (pop n r.sp) _ _ (pop_same m n r.sp 2 r.sp same (omega arith) (omega arith)) (λ a h.
    both Equal (case_target low high table m a.word) (case_target low high table n a.word) _ _ (case_same low high table a.word m n c) (λ ipc k.
    record { other = record r { sp = a.above; ipc = ipc }; made = refl; like = refl }))

-- ---- by the table of opcodes

abbrev is_case : Operation → Bool
is_case (operation.Jump (jump.Case low high table)) = true
is_case other = false

abbrev is_jumps : Form → Bool
is_jumps form.Jumps = true
is_jumps other = false

-- Returns true unless `shape` is a case jump and `f` is another form than `Jumps`.
abbrev consistent : Operation → Form → Bool
consistent shape f = not (is_case shape) || is_jumps f

all_consistent : List Group → Bool
all_consistent [] = true
all_consistent (g ∷ gs) = consistent g.shape g.form && all_consistent gs

table_consistent : all_consistent groups ≡ true
unfolding groups all_consistent
table_consistent = refl

group_consistent : (gs : List Group) (op : ℕ) → all_consistent gs ≡ true → consistent (group_in gs op).shape (group_in gs op).form ≡ true
unfolding all_consistent
group_consistent [] op h = refl
group_consistent (g ∷ gs) op h =
    let parts = and_parts (consistent g.shape g.form) (all_consistent gs) h in
    elim (cases_Bool (nat_le op g.last)) [
      | inl e ↦ rw e parts.0
      | inr e ↦ rw e (group_consistent gs op parts.1)
    ]

op_consistent : (op : ℕ) → consistent (shape_of op) (form_of op) ≡ true
unfolding shape_of form_of
op_consistent op = group_consistent groups op table_consistent

-- The bytes of the code that an operation reads as data are the same in both memories.
abbrev pub CodeSame : Operation → List ℕ → List ℕ → Type 0
CodeSame (operation.Literal o) m n = NamesSame o m n
CodeSame (operation.Jump (jump.Case low high table)) m n = CaseSame low high table m n
CodeSame (operation.Jump (jump.Short c offset)) m n = Unit {0}
CodeSame (operation.Arithmetic o) m n = Unit {0}
CodeSame (operation.Variable o) m n = Unit {0}
CodeSame (operation.Pointer o) m n = Unit {0}
CodeSame (operation.Value o) m n = Unit {0}
CodeSame (operation.Call o) m n = Unit {0}
CodeSame (operation.Return o) m n = Unit {0}
CodeSame (operation.Standard k) m n = Unit {0}
CodeSame operation.Nothing m n = Unit {0}
CodeSame operation.End m n = Unit {0}
CodeSame operation.Unimplemented m n = Unit {0}

compared : (r : Relation) (k : Option Kind) (m n : List ℕ) → CodeSame (comparison_of r k) m n
compared r (Some k) m n = tt
compared r None m n = tt

case_range : (f : Form) (i : Instr) → is_jumps f ≡ true → in_range f i ≡ true → lies_within f i 65536 ≡ true
    → (i.count ≡ 2 * jump_count i.a i.b) × (i.start + i.count ≤ 65536)
case_range form.Jumps i h ranges lies = (grind (arith, nat_tests, ranges), grind (arith, nat_tests, lies))
case_range form.Plain i h ranges lies = absurd (true≢false (sym h))
case_range form.Ub i h ranges lies = absurd (true≢false (sym h))
case_range form.Sb i h ranges lies = absurd (true≢false (sym h))
case_range form.Db i h ranges lies = absurd (true≢false (sym h))
case_range form.B i h ranges lies = absurd (true≢false (sym h))
case_range form.UbB i h ranges lies = absurd (true≢false (sym h))
case_range form.UbUb i h ranges lies = absurd (true≢false (sym h))
case_range form.DbB i h ranges lies = absurd (true≢false (sym h))
case_range form.W i h ranges lies = absurd (true≢false (sym h))
case_range form.Chars i h ranges lies = absurd (true≢false (sym h))
case_range form.Words i h ranges lies = absurd (true≢false (sym h))
case_range form.Typed i h ranges lies = absurd (true≢false (sym h))
case_range form.Unassigned i h ranges lies = absurd (true≢false (sym h))

code_same : (shape : Operation) (f : Form) (i : Instr) (m n : List ℕ) → consistent shape f ≡ true → in_range f i ≡ true → lies_within f i 65536 ≡ true
    → Same m n i.start i.count → CodeSame (with_operands shape i) m n
code_same (operation.Literal (literal.String start)) f i m n c ranges lies same = tt
code_same (operation.Literal (literal.Characters start)) f i m n c ranges lies same = tt
code_same (operation.Literal (literal.Words start count)) f i m n c ranges lies same = same
code_same (operation.Jump (jump.Short condition offset)) f i m n c ranges lies same = tt
code_same (operation.Jump (jump.Case low high table)) f i m n c ranges lies same =
    let is = case_range f i c ranges lies in
    record {
      room = subst (λ k. i.start + k ≤ 65536) is.0 is.1;
      same = subst (λ k. Same m n i.start k) is.0 same;
    }
code_same (operation.Arithmetic o) f i m n c ranges lies same = tt
code_same (operation.Variable o) f i m n c ranges lies same = tt
code_same (operation.Pointer o) f i m n c ranges lies same = tt
code_same (operation.Value (value.Byte o)) f i m n c ranges lies same = tt
code_same (operation.Value (value.Set o)) f i m n c ranges lies same = tt
code_same (operation.Value (value.Text o)) f i m n c ranges lies same = tt
code_same (operation.Value (value.Field o)) f i m n c ranges lies same = tt
code_same (operation.Value (value.Compare r k)) f i m n c ranges lies same = compared r _ m n
code_same (operation.Call o) f i m n c ranges lies same = tt
code_same (operation.Return o) f i m n c ranges lies same = tt
code_same (operation.Standard k) f i m n c ranges lies same = tt
code_same operation.Nothing f i m n c ranges lies same = tt
code_same operation.End f i m n c ranges lies same = tt
code_same operation.Unimplemented f i m n c ranges lies same = tt

pub named_same : (i : Instr) (m n : List ℕ) → in_range (form_of i.op) i ≡ true → lies_within (form_of i.op) i 65536 ≡ true → Same m n i.start i.count
    → CodeSame (operation_of i) m n
unfolding operation_of
named_same i m n ranges lies same = code_same (shape_of i.op) (form_of i.op) i m n (op_consistent i.op) ranges lies same
