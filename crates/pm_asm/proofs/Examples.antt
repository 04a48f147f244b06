-- The examples in hints are valid.
use Rattle.std.proofs.Common.{◌≡◌, ◌≢◌, ℕ, [], refl, subst, sym, None}
use Rattle.pm_asm.specs.HintTexts.{AreTaken, ExamplesAreTaken, example}
use Rattle.pm_opcode.specs.declared.operand_form.Form.{Form}
use Rattle.pm_opcode.specs.declared.operand_form.Form.TheVariants as forms
use Rattle.pm_opcode.specs.Table.{form_of}
use Rattle.pm_source.specs.Line.{bare_instruction, checked, instruction_said, operands, short_range}

by_form : (form : Form) (op : ℕ) → form ≢ forms.Unassigned → short_range op ≡ None
    → AreTaken (instruction_said form op (operands (example form)))
by_form forms.Plain op known e = subst (λ range. AreTaken (checked (bare_instruction op range []))) (sym e) refl
by_form forms.Ub op known e = refl
by_form forms.Db op known e = refl
by_form forms.B op known e = refl
by_form forms.UbUb op known e = refl
by_form forms.UbB op known e = refl
by_form forms.DbB op known e = refl
by_form forms.W op known e = refl
by_form forms.Words op known e = refl
by_form forms.Chars op known e = refl
by_form forms.Typed op known e = refl
by_form forms.Sb op known e = refl
by_form forms.Jumps op known e = refl
by_form forms.Unassigned op known e = absurd (known refl)

pub examples_are_taken : ExamplesAreTaken
examples_are_taken op known e = by_form (form_of op) op known e
