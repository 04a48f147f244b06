-- Lemmas for the code file of a text.
use Rattle.std.proofs.Common.{◌≡◌, ℕ, false, nat_lt, List, None, Ok, ap, ◌∙◌, arith}
use Rattle.std.specs.Prelude.{option_map}
use Rattle.std.proofs.lemmas.Bool.Decides.{nat_tests}
use Rattle.pm_codefile.specs.Dictionary.{file_fault, segment_in}
use Rattle.pm_code.specs.Program.{segment_numbered, segment_bytes}
use Rattle.pm_asm.proofs.Fitting.{short_fits}
use Rattle.law_text.proofs.Held.{file_holds_program, file_is_accepted}
use Rattle.pm_source.proofs.Programs.{spelled_is_program}
use Rattle.pm_asm.specs.Assembled.{Assembles, assembled}
use Rattle.pm_asm.proofs.Outcomes.{assembled_is_spelled}

pub record IsAssembled (text file shown : List ℕ) : Type 0 where
  pub made : Assembles text file shown
  pub slots : (n : ℕ) → nat_lt 15 n ≡ false → segment_in file n ≡ option_map segment_bytes (segment_numbered n made.program)
  pub sound : file_fault file ≡ None

pub is_assembled : (text file shown : List ℕ) → assembled text ≡ Ok (file, shown) → IsAssembled text file shown
is_assembled text file shown h =
    let made = (assembled_is_spelled text file shown).0 h in
    let fits = short_fits made.program made.short in
    let program = spelled_is_program text made.program made.spelled fits in
    let holds = file_holds_program made.program program fits in
    record {
      made = made;
      slots = λ n low. ap (λ k. segment_in k n) made.image ∙ holds.segments n (grind (arith, nat_tests, low));
      sound = ap file_fault made.image ∙ file_is_accepted made.program program fits;
    }
