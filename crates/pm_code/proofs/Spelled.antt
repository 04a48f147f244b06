-- Instructions that have an encoding.
use Rattle.std.proofs.Common.{◌≡◌, ◌+◌, ℕ, true, List, length, refl, inl, inr, arith}
use Rattle.std.specs.Prelude.{nat_le}
use Rattle.std.proofs.lemmas.Bool.{cases_Bool}
use Rattle.std.proofs.lemmas.Bool.Decides.{nat_tests}
use Rattle.pm_opcode.specs.declared.instr.Instr.{Instr}
use Rattle.pm_opcode.specs.Table.{form_of}
use Rattle.pm_opcode.specs.Spelling.{has_spelling, names_bytes}
use Rattle.pm_code.specs.Item.{IsPlain}

-- If `i` is an instruction that does not jump, and the bytes `named` belong to it, then it has an encoding.
pub plain_spelled : (i : Instr) (named : List ℕ) → IsPlain i named → has_spelling i (length named) ≡ true
plain_spelled i named h =
    let there : nat_le (i.start + i.count) (length named) ≡ true = grind (arith, nat_tests, h.count, h.nowhere.0) in
    elim (cases_Bool (names_bytes (form_of i.op))) [
      | inl n ↦ rw (h.ranges, n, there) refl
      | inr n ↦ rw (h.ranges, n) refl
    ]
