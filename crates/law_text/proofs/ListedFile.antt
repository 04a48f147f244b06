-- Lemmas: the bytes that a listing denotes are the bytes in the code file.
use Rattle.std.proofs.Common.{◌≡◌, [], refl, sym, ap, subst, ◌∙◌, Option, Some, None}
use Rattle.std.specs.Prelude.{option_map}
use Rattle.std.specs.Option.{unwrap_or}
use Rattle.pm_codefile.specs.Dictionary.{segment_in}
use Rattle.pm_code.specs.Program.{segment_numbered, Segment, segment_bytes}
use Rattle.pm_asm.proofs.Fitting.{short_fits}
use Rattle.pm_source.specs.Denoted.{ArePlacedFrom, denoted, denoted_bytes, of_segment}
use Rattle.pm_code.specs.Image.{bytes_of_segment}
use Rattle.law_text.proofs.Denoting.{listing_denotes_segments}
use Rattle.law_text.proofs.Held.{file_holds_program}
use Rattle.pm_source.proofs.Programs.{spelled_is_program}
use Rattle.pm_asm.specs.Assembled.{AssembledIsListed, Assembles}
use Rattle.pm_asm.proofs.Outcomes.{assembled_is_spelled}

-- The bytes of a slot are the bytes of its segment, or no bytes if the slot has no segment.
bytes_or_none : (o : Option Segment) → bytes_of_segment o ≡ unwrap_or (option_map segment_bytes o) []
bytes_or_none None = refl
bytes_or_none (Some s) = refl

pub assembled_is_listed : AssembledIsListed
assembled_is_listed text file shown n low e =
    let a : Assembles text file shown = (assembled_is_spelled text file shown).0 e in
    let fits = short_fits a.program a.short in
    let program = spelled_is_program text a.program a.spelled fits in
    let read = listing_denotes_segments a.program n program fits in
    let holds = file_holds_program a.program program fits in
    let there : segment_in file n ≡ option_map segment_bytes (segment_numbered n a.program) = ap (λ f. segment_in f n) a.image ∙ holds.segments n low in (
      ap (denoted_bytes n) a.lines ∙ read.0 ∙ bytes_or_none (segment_numbered n a.program) ∙ ap (λ o. unwrap_or o []) (sym there),
      subst (λ cs. ArePlacedFrom 0 (of_segment n (denoted cs))) (sym a.lines) read.1,
    )
