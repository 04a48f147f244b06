-- Lemmas: the text of an assembled file is assembled to the same file.
use Rattle.std.proofs.Common.{◌≤◌, List, [], ◌∷◌, length, refl, sym, ◌∙◌, subst}
use Rattle.std.specs.List.{AllZip}
use Rattle.pm_code.specs.Laws.{IsSameSegment}
use Rattle.pm_code.specs.Program.{Segment}
use Rattle.pm_disasm.specs.Shown.{file_text}
use Rattle.pm_asm.proofs.Fitting.{short_fits}
use Rattle.pm_code.specs.Image.{listing}
use Rattle.law_jobs.specs.RoundTrip.{AssembledIsShownAgain, IsShownAgain}
use Rattle.pm_source.specs.Meaning.{Spells}
use Rattle.pm_source.proofs.Programs.{spelled_is_program}
use Rattle.law_jobs.proofs.Round.{shown_file_is_spelled}
use Rattle.pm_asm.specs.Assembled.{Assembles}
use Rattle.pm_asm.proofs.Outcomes.{assembled_is_spelled}
use Rattle.pm_asm.specs.Lengths.{AreShort}
use Rattle.pm_asm.specs.declared.lengths.TheConstants.{LONGEST}

-- If the segments `ts` have the same bytes as the segments `ss`, and `ss` are short, then `ts` are short.
same_short : (ss ts : List Segment) → AllZip IsSameSegment ss ts → AreShort ss → AreShort ts
same_short [] [] z h = tt
same_short (s ∷ ss) (t ∷ ts) z h = (subst (λ bs. length bs ≤ LONGEST) (sym z.0.bytes) h.0, same_short ss ts z.1 h.1)
same_short [] (t ∷ ts) z h = absurd z
same_short (s ∷ ss) [] z h = absurd z

pub assembled_is_shown_again : AssembledIsShownAgain
assembled_is_shown_again text file shown e =
    let a : Assembles text file shown = (assembled_is_spelled text file shown).0 e in
    let found = shown_file_is_spelled a.program (spelled_is_program text a.program a.spelled (short_fits a.program a.short)) (short_fits a.program a.short) in
    let ts : List Segment = found.0 in
    let again : IsShownAgain a.program ts = found.1 in
    let spelled : Spells (file_text file) ts = subst (λ f. Spells (file_text f) ts) (sym a.image) again.spelled in
    let made : Assembles (file_text file) file (listing ts) = record {
      program = ts;
      spelled = spelled;
      short = same_short a.program ts again.segments a.short;
      image = a.image ∙ sym again.file;
      lines = refl;
    } in
    (listing ts, (assembled_is_spelled (file_text file) file (listing ts)).1 made)
