-- The result of assembling source text.
use Rattle.std.specs.Prelude.{◌≡◌, ◌↔◌, ◌<◌, ℕ, Bool, if◌then◌else◌, List, [], Option, Some, None, Result, Ok, Err}
use Rattle.std.specs.Option.{unwrap_or}
use Rattle.pm_codefile.specs.Dictionary.{segment_in}
use Rattle.pm_code.specs.Program.{Segment}
use Rattle.pm_source.specs.declared.fault.AsmFault.{AsmFault}
use Rattle.pm_source.specs.declared.fault.AsmFault.TheVariants.{TooLong}
use Rattle.pm_source.specs.Denoted.{ArePlacedFrom, denoted, denoted_bytes, of_segment}
use Rattle.pm_source.specs.Faults.{faults}
use Rattle.pm_code.specs.Image.{file_of, listing}
use Rattle.pm_source.specs.Meaning.{Spells, program_of}
use Rattle.pm_reader.specs.Firsts.{first_of}
use Rattle.pm_asm.specs.Lengths.{AreShort, first_long}

-- The result of assembling: a code file and a listing, or a fault.
abbrev pub Outcome : Type 0
Outcome = Result (List ℕ × List ℕ) AsmFault

-- The result for the program `ss`. `Some n` states that `n` is the first segment that is too long.
abbrev pub outcome_of : List Segment → Option ℕ → Outcome
outcome_of ss None = Ok (file_of ss, listing ss)
outcome_of ss (Some n) = Err (TooLong n)

abbrev pub outcome_by : List ℕ → Option AsmFault → Outcome
outcome_by text None = outcome_of (program_of text) (first_long (program_of text))
outcome_by text (Some fault) = Err fault

-- The result of assembling `text`. If the text has a fault, the result is its first fault. Else, if a segment is too
-- long, it is `TooLong` with the first such segment. Else, it is the code file and the listing of the program.
unfoldable pub assembled : List ℕ → Outcome
assembled text = outcome_by text (first_of (faults text))

-- The code file of a result, or its listing if `list` is true. A fault is unchanged.
abbrev pub wanted : Bool → Outcome → Result (List ℕ) AsmFault
wanted list (Ok made) = Ok (if list then made.1 else made.0)
wanted list (Err fault) = Err fault

-- States that `file` and `shown` are the code file and the listing of a program that `text` spells. No segment of the
-- program has more than 60,000 bytes.
pub record Assembles (text file shown : List ℕ) : Type 0 where
  pub program : List Segment
  pub spelled : Spells text program
  pub short : AreShort program
  pub image : file ≡ file_of program
  pub lines : shown ≡ listing program

-- States that `text` does not spell a program whose segments all have at most 60,000 bytes.
abbrev pub SpellsNothing : List ℕ → Type 0
SpellsNothing text = (ss : List Segment) → Spells text ss → AreShort ss → ⊥

-- States when assembling a text results in a given code file and listing. It does so if and only if the text spells a
-- program that has both, and no segment of this program is too long.
abbrev pub AssembledIsSpelled : Type 0
AssembledIsSpelled = (text file shown : List ℕ) → (assembled text ≡ Ok (file, shown)) ↔ Assembles text file shown

-- States that a text that is refused does not spell a program whose segments all have at most 60,000 bytes.
abbrev pub RefusedSpellsNothing : Type 0
RefusedSpellsNothing = (text : List ℕ) (fault : AsmFault) → assembled text ≡ Err fault → SpellsNothing text

-- States that the bytes that a listing shows for segment `n` are those of slot `n` of the code file. If the file has no
-- such segment, the listing shows no bytes for it. Each line of the listing has the offset of its bytes in the segment.
abbrev pub AssembledIsListed : Type 0
AssembledIsListed = (text file shown : List ℕ) (n : ℕ) → n < 16 → assembled text ≡ Ok (file, shown)
    → (denoted_bytes n shown ≡ unwrap_or (segment_in file n) []) × ArePlacedFrom 0 (of_segment n (denoted shown))
