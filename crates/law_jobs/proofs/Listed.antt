-- Lemmas: a machine loads from an assembled file what the listing states.
use Rattle.std.proofs.Common.{◌≡◌, ℕ, ◌+◌, ◌-◌, true, nat_lt, List, length, inl, inr, Option, Some, None, refl, sym, ◌∙◌, subst}
use Rattle.std.specs.Prelude.{option_map}
use Rattle.std.proofs.lemmas.Bool.{cases_Bool}
use Rattle.pm_words.specs.Words.{IsMemory, bytes_at}
use Rattle.pm_codefile.specs.Dictionary.{segment_in}
use Rattle.pm_code.specs.Program.{segment_numbered, Segment, segment_bytes}
use Rattle.law_text.proofs.Listed.{listing_is_segment}
use Rattle.pm_machine.specs.State.{State}
use Rattle.law_engine.specs.Loads.{StandsBelow}
use Rattle.law_engine.proofs.LoadLaws.{boots_load_segment, steps_load}
use Rattle.law_engine.proofs.KeptLoads.{steps_keep}
use Rattle.law_jobs.specs.Loaded.{AssembledBootsListed, AssembledKeepsListed, AssembledLoadsListed, StandsAsListed, listed}
use Rattle.law_jobs.proofs.Files.{IsAssembled, is_assembled}

segment_there : (o : Option Segment) (code : List ℕ) → option_map segment_bytes o ≡ Some code → (s : Segment) × (o ≡ Some s) × (segment_bytes s ≡ code)
segment_there None code h = cc
segment_there (Some s) code h = (s, refl, cc)

none_above : (file : List ℕ) (n : ℕ) → nat_lt 15 n ≡ true → segment_in file n ≡ None
unfolding segment_in
none_above file n h = rw h refl

listed_as : (text file shown : List ℕ) (n below : ℕ) (m : List ℕ) → IsAssembled text file shown → StandsBelow file n below m
    → StandsAsListed text shown n below m
listed_as text file shown n below m is at = elim (cases_Bool (nat_lt 15 n)) [
  | inl high ↦ let no = none_above file n high in let there = at.segment in absurd (cc)
  | inr low ↦
      let s = segment_there (segment_numbered n is.made.program) at.code (sym (is.slots n low) ∙ at.segment) in
      let bytes : at.code ≡ listed s.0 = sym s.2 ∙ sym (listing_is_segment s.0) in
      record {
        program = is.made.program;
        spelled = is.made.spelled;
        lines = is.made.lines;
        segment = s.0;
        numbered = s.1;
        stands = subst (λ code. bytes_at m (below - length code) (length code) ≡ code) bytes at.stands;
      }
]

pub assembled_loads_listed : (s : State) → IsMemory s.memory → AssembledLoadsListed s
assembled_loads_listed s memory text shown file image unit n p is volume from there none at goes =
    listed_as text file shown n s.registers.sp _ (is_assembled text file shown is) (steps_load s memory image file unit n p volume from there none at goes)

pub assembled_keeps_listed : (s : State) → IsMemory s.memory → AssembledKeepsListed s
assembled_keeps_listed s memory text shown file image unit n is volume from there none at goes =
    listed_as text file shown n (s.registers.sp + 2) _ (is_assembled text file shown is) (steps_keep s memory image file unit n volume from there none at goes)

pub assembled_boots_listed : AssembledBootsListed
assembled_boots_listed text shown file images image name entry unit clock s is volume on found start =
    listed_as text file shown 1 65492 s.memory (is_assembled text file shown is)
    (boots_load_segment images image name file entry unit clock s volume on found start)
