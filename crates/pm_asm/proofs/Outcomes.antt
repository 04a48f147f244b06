-- Lemmas about the result of assembling, and about the program that the text spells.
use Rattle.std.proofs.Common.{◌≡◌, ◌≢◌, ℕ, false, List, [], ◌∷◌, length, refl, sym, ap, ◌∙◌, subst, Option, Some, None}
use Rattle.std.specs.Prelude.{nat_lt, if◌then◌else◌, Ok, Err}
use Rattle.std.proofs.lemmas.Bool.{le-ltb}
use Rattle.pm_code.specs.Program.{Segment, IsProgram, segment_bytes}
use Rattle.pm_source.specs.declared.fault.AsmFault.{AsmFault}
use Rattle.pm_source.specs.declared.fault.AsmFault.TheVariants.{TooLong, NoMemory}
use Rattle.pm_source.specs.Faults.{faults}
use Rattle.pm_code.specs.Image.{file_of, listing}
use Rattle.pm_source.specs.Meaning.{program_of}
use Rattle.pm_source.proofs.Spelled.{faultless_is_spelled, spelled_is_faultless}
use Rattle.pm_asm.proofs.Fitting.{short_fits}
use Rattle.pm_source.proofs.Programs.{spelled_is_program}
use Rattle.pm_reader.specs.Firsts.{first_of}
use Rattle.pm_asm.specs.Assembled.{AssembledIsSpelled, Assembles, RefusedSpellsNothing, SpellsNothing, assembled, outcome_by, outcome_of}
use Rattle.pm_asm.specs.Lengths.{AreShort, IsTooLong, first_long}
use Rattle.pm_asm.proofs.FoundLengths.{all_short}
use Rattle.pm_asm.specs.declared.lengths.TheConstants.{LONGEST}

-- If no segment has more than 60,000 bytes, then `first_long` finds none.
pub none_too_long : (ss : List Segment) → AreShort ss → first_long ss ≡ None
none_too_long [] h = refl
none_too_long (s ∷ ss) h =
    let short : nat_lt LONGEST (length (segment_bytes s)) ≡ false = le-ltb LONGEST (length (segment_bytes s)) h.0 in
    ap (λ b. if b then Some s.number else first_long ss) short ∙ none_too_long ss h.1

first_none : (fs : List AsmFault) → first_of fs ≡ None → fs ≡ []
first_none [] h = refl
first_none (f ∷ fs) h = absurd (cc)

-- If `text` has no fault and its segments are not too long, then the result is its code file and its listing.
pub assembled_ok : (text : List ℕ) → faults text ≡ [] → AreShort (program_of text) → assembled text ≡ Ok (file_of (program_of text), listing (program_of text))
unfolding assembled
assembled_ok text none short =
    ap (λ fs. outcome_by text (first_of fs)) none ∙ ap (outcome_of (program_of text)) (none_too_long (program_of text) short)

pub is_assembled : (text file shown : List ℕ) → faults text ≡ [] → AreShort (program_of text) → file ≡ file_of (program_of text)
    → shown ≡ listing (program_of text)
    → assembled text ≡ Ok (file, shown)
is_assembled text file shown none short image lines =
    assembled_ok text none short ∙ sym (ap (λ f. Ok (f, shown)) image ∙ ap (λ l. Ok (file_of (program_of text), l)) lines)

-- If `text` has no fault and its segments are not too long, then `text` spells the program with this code file and
-- listing.
pub is_spelled : (text file shown : List ℕ) → faults text ≡ [] → AreShort (program_of text) → file ≡ file_of (program_of text)
    → shown ≡ listing (program_of text)
    → Assembles text file shown
is_spelled text file shown none short image lines =
    record { program = program_of text; spelled = faultless_is_spelled text none; short = short; image = image; lines = lines }

-- If `text` has a fault, then assembling it is refused with its first fault.
pub fault_refused : (text : List ℕ) (fault : AsmFault) → first_of (faults text) ≡ Some fault → assembled text ≡ Err fault
unfolding assembled
fault_refused text fault h = ap (outcome_by text) h

-- If `text` has no fault but a segment that is too long, then assembling it is refused with the first such segment.
pub length_refused : (text : List ℕ) (n : ℕ) → faults text ≡ [] → first_long (program_of text) ≡ Some n → assembled text ≡ Err (TooLong n)
unfolding assembled
length_refused text n none long = ap (λ fs. outcome_by text (first_of fs)) none ∙ ap (outcome_of (program_of text)) long

-- If assembling a text is refused, then the text does not spell a program whose segments all have at most 60,000 bytes.
pub refused_spells_nothing : RefusedSpellsNothing
refused_spells_nothing text fault h ss spells short =
    let said = spelled_is_faultless text ss spells in
    let ok = assembled_ok text said.0 (subst AreShort (sym said.1) short) in
    absurd (cc (h, ok))

-- If `text` has a fault, then it does not spell a program whose segments all have at most 60,000 bytes.
pub fault_unspelled : (text : List ℕ) (fault : AsmFault) → first_of (faults text) ≡ Some fault → SpellsNothing text
fault_unspelled text fault h = refused_spells_nothing text fault (fault_refused text fault h)

pub length_unspelled : (text : List ℕ) (n : ℕ) → faults text ≡ [] → first_long (program_of text) ≡ Some n → SpellsNothing text
length_unspelled text n none long = refused_spells_nothing text (TooLong n) (length_refused text n none long)

-- If `text` has no fault, and `fault` states the first segment that is too long, then assembling is refused with
-- `fault`.
pub long_refused : (text : List ℕ) (fault : AsmFault) → faults text ≡ [] → IsTooLong (program_of text) fault → fault ≢ NoMemory → assembled text ≡ Err fault
long_refused text (TooLong n) none long other = length_refused text n none long
long_refused text NoMemory none long other = absurd (other refl)
long_refused text _ none long other = absurd long

-- If assembling `text` succeeds, then `text` spells a program with the resulting code file and listing.
assembled_spelled : (text file shown : List ℕ) → assembled text ≡ Ok (file, shown) → Assembles text file shown
unfolding assembled
assembled_spelled text file shown h = by_fault (first_of (faults text)) refl h
  where
    by_length : (o : Option ℕ) → faults text ≡ [] → first_long (program_of text) ≡ o → outcome_of (program_of text) o ≡ Ok (file, shown)
        → Assembles text file shown
    by_length (Some n) none e h = absurd (cc)
    by_length None none e h =
        let made : List ℕ × List ℕ = (file_of (program_of text), listing (program_of text)) in
        let given : List ℕ × List ℕ = (file, shown) in
        let both : made ≡ given = cc in
        is_spelled text file shown none (all_short (program_of text) e) (sym (ap (λ b. b.0) both)) (sym (ap (λ b. b.1) both))

    by_fault : (o : Option AsmFault) → first_of (faults text) ≡ o → outcome_by text o ≡ Ok (file, shown) → Assembles text file shown
    by_fault (Some fault) e h = absurd (cc)
    by_fault None e h = by_length (first_long (program_of text)) (first_none (faults text) e) refl h

-- If `text` spells a program with this code file and listing, then they are the result of assembling `text`.
spelled_assembled : (text file shown : List ℕ) → Assembles text file shown → assembled text ≡ Ok (file, shown)
spelled_assembled text file shown a =
    let said = spelled_is_faultless text a.program a.spelled in
    is_assembled text file shown said.0 (subst AreShort (sym said.1) a.short) (a.image ∙ ap file_of (sym said.1)) (a.lines ∙ ap listing (sym said.1))

pub assembled_is_spelled : AssembledIsSpelled
assembled_is_spelled text file shown = (assembled_spelled text file shown, spelled_assembled text file shown)

-- If `text` has no fault and its segments are not too long, then it spells a program.
pub faultless_is_program : (text : List ℕ) → faults text ≡ [] → AreShort (program_of text) → IsProgram (program_of text)
faultless_is_program text none short = spelled_is_program text (program_of text) (faultless_is_spelled text none) (short_fits (program_of text) short)
