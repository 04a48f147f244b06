-- Lemmas about the stages of assembling: parsing, labels, and lengths.
use Rattle.std.proofs.Common.{◌≡◌, ◌≢◌, ℕ, List, [], ◌∷◌, map, sym, ap, subst, ◌∙◌, Some}
use Rattle.std.specs.Prelude.{if◌then◌else◌, Err}
use Rattle.pm_code.specs.Program.{Segment}
use Rattle.pm_source.specs.declared.fault.AsmFault.{AsmFault}
use Rattle.pm_source.specs.declared.fault.AsmFault.TheVariants.{NoMemory}
use Rattle.pm_source.specs.Faults.{all_label_faults, faults, faults_of_lines, source_of}
use Rattle.pm_source.specs.Meaning.{ascending, found_segment, program_of}
use Rattle.pm_source.specs.Source.{SourceSegment}
use Rattle.pm_source.specs.Words.{is_empty}
use Rattle.pm_reader.specs.Firsts.{IsFirstOf, first_of}
use Rattle.pm_asm.specs.Assembled.{assembled}
use Rattle.pm_asm.specs.Lengths.{IsTooLong}
use Rattle.pm_asm.specs.Found.{by_number}
use Rattle.pm_asm.proofs.Ordered.{found_ascending}
use Rattle.pm_asm.proofs.Outcomes.{fault_refused, long_refused}

-- The given faults of the lines, or the label faults of `ss` if the lines have no fault.
abbrev faults_with : List AsmFault → List SourceSegment → List AsmFault
faults_with lines ss = if is_empty lines then all_label_faults ss else lines

some_first : (fault : AsmFault) (lines : List AsmFault) (ss : List SourceSegment) → first_of lines ≡ Some fault → first_of (faults_with lines ss) ≡ Some fault
some_first fault [] ss h = absurd (cc)
some_first fault (x ∷ lines) ss h = h

-- If the lines of `text` have no faults (`faults_of_lines` is empty), then the faults of `text` are its label faults.
label_faults_alone : (text : List ℕ) (ss : List SourceSegment) → faults_of_lines text ≡ [] → ss ≡ source_of text → faults text ≡ all_label_faults ss
unfolding faults
label_faults_alone text ss lines read = ap (λ fs. faults_with fs (source_of text)) lines ∙ ap all_label_faults (sym read)

-- If the labels are converted to offsets and the segments are sorted, then the result is the program of `text`.
pub program_found : (text : List ℕ) (ss : List SourceSegment) (found ordered : List Segment) → ss ≡ source_of text → found ≡ map found_segment ss
    → ordered ≡ by_number 0 16 found → ordered ≡ program_of text
unfolding program_of
program_found text ss found ordered read are sorted =
    sorted ∙ ap (by_number 0 16) are ∙ found_ascending ss ∙ ap (λ s. map found_segment (ascending s)) read

pub line_refused : (text : List ℕ) (fault : AsmFault) → IsFirstOf fault (faults_of_lines text) → fault ≢ NoMemory → assembled text ≡ Err fault
unfolding faults
line_refused text fault h other = fault_refused text fault (some_first fault (faults_of_lines text) (source_of text) (h other))

pub label_refused : (text : List ℕ) (ss : List SourceSegment) (fault : AsmFault) → faults_of_lines text ≡ [] → ss ≡ source_of text
    → IsFirstOf fault (all_label_faults ss) → fault ≢ NoMemory → assembled text ≡ Err fault
label_refused text ss fault lines read h other = fault_refused text fault (ap first_of (label_faults_alone text ss lines read) ∙ h other)

-- States that parsing `text` and converting its labels found no fault.
pub record IsReady (text : List ℕ) (ss : List SourceSegment) : Type 0 where
  pub lines : faults_of_lines text ≡ []
  pub read : ss ≡ source_of text
  pub labels : all_label_faults ss ≡ []

pub ready_faultless : (text : List ℕ) (ss : List SourceSegment) → IsReady text ss → faults text ≡ []
ready_faultless text ss r = label_faults_alone text ss r.lines r.read ∙ r.labels

pub too_long_refused : (text : List ℕ) (ss : List SourceSegment) (ordered : List Segment) (fault : AsmFault) → IsReady text ss → ordered ≡ program_of text
    → IsTooLong ordered fault → fault ≢ NoMemory → assembled text ≡ Err fault
too_long_refused text ss ordered fault r same long other =
    long_refused text fault (ready_faultless text ss r) (subst (λ p. IsTooLong p fault) same long) other
