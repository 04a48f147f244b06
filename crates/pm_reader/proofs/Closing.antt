-- Laws of the end of a procedure, which is then appended to the last segment.
use Rattle.std.proofs.Common.{◌≡◌, List, [], ◌∷◌, ◌++◌, ◌∙◌, map, refl, ap, sym}
use Rattle.std.specs.Prelude.{Option, Some, None}
use Rattle.std.specs.Option.{option_map}
use Rattle.std.proofs.lemmas.List.{map-append}
use Rattle.pm_source.specs.Source.{Source, SourceSegment}
use Rattle.pm_source.specs.Faults.{Reading, with_procedure, closed}
use Rattle.pm_reader.specs.declared.source.LabelledProcedure.{LabelledProcedure}
use Rattle.pm_reader.specs.declared.source.LabelledSegment.{LabelledSegment}
use Rattle.pm_reader.specs.declared.current.Current.{Current}
use Rattle.pm_reader.specs.Reader.{current_seen}
use Rattle.pm_reader.specs.Views.{labelled_procedure, labelled_segment, labelled_segments}

with_last : (p : Source) (ss : List SourceSegment) (s : SourceSegment)
    → with_procedure p (ss ++ s ∷ []) ≡ ss ++ record s { procedures = s.procedures ++ p ∷ [] } ∷ []
with_last p [] s = refl
with_last p (t ∷ []) s = refl
with_last p (t ∷ u ∷ ss) s = ap (λ rest. t ∷ rest) (with_last p (u ∷ ss) s)

abbrev pub reading : List SourceSegment → Option Source → Reading
reading segments current = record { segments = segments; current = current }

abbrev pub with_procedures : SourceSegment → List Source → SourceSegment
with_procedures s ps = record s { procedures = ps }

-- If `ps` are the procedures of the segment `last` followed by `p`, then the segment with the procedures `ps` is `last`
-- with `p` appended.
pub one_more : (last : LabelledSegment) (ps : List LabelledProcedure) (p : LabelledProcedure) → ps ≡ last.procedures.items ++ p ∷ []
    → with_procedures (labelled_segment last) (map labelled_procedure ps) ≡ with_procedures (labelled_segment last)
    (map labelled_procedure last.procedures.items ++ labelled_procedure p ∷ [])
one_more last ps p e =
    ap (λ qs. with_procedures (labelled_segment last) qs)
    (ap (λ qs. map labelled_procedure qs) e ∙ map-append labelled_procedure last.procedures.items (p ∷ []))

-- If the procedure that has begun is appended to the last segment, then the new state is the state `closed`.
pub ended_last : (olds news kept : List LabelledSegment) (last changed : LabelledSegment) (opened now : Option Current) (o : Current)
    → opened ≡ Some o → now ≡ None → olds ≡ kept ++ last ∷ [] → news ≡ kept ++ changed ∷ []
    → labelled_segment changed ≡ with_procedures (labelled_segment last) (map labelled_procedure last.procedures.items ++ current_seen o ∷ [])
    → reading (labelled_segments news) (option_map current_seen now) ≡ closed (labelled_segments olds) (option_map current_seen opened)
ended_last olds news kept last changed opened now o was none before behind more =
    let q = current_seen o in
    let old : labelled_segments olds ≡ labelled_segments kept ++ labelled_segment last ∷ [] =
    ap labelled_segments before ∙ map-append labelled_segment kept (last ∷ []) in
    let new : labelled_segments news ≡ labelled_segments kept ++ labelled_segment changed ∷ [] =
    ap labelled_segments behind ∙ map-append labelled_segment kept (changed ∷ []) in
    let ended : labelled_segments news ≡ with_procedure q (labelled_segments olds) =
    new ∙ (ap (λ s. labelled_segments kept ++ s ∷ []) more ∙ sym (ap (with_procedure q) old ∙ with_last q (labelled_segments kept) (labelled_segment last))) in
    ap (λ x. reading (labelled_segments news) (option_map current_seen x)) none
    ∙ (ap (λ ss. reading ss None) ended ∙ sym (ap (λ x. closed (labelled_segments olds) (option_map current_seen x)) was))
