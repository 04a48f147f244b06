-- A text has no faults if and only if it defines a program.
use Rattle.std.proofs.Common.{◌≡◌, ◌<◌, ℕ, ◌+◌, List, [], ◌∷◌, ◌++◌, map, refl, sym, ap, subst, ◌∙◌}
use Rattle.std.specs.Prelude.{if◌then◌else◌}
use Rattle.std.specs.List.{AllByRecursion, AllZip}
use Rattle.pm_code.specs.Program.{Procedure, Segment, FollowFrom, jtab_of}
use Rattle.pm_source.specs.declared.fault.AsmFault.{AsmFault}
use Rattle.pm_source.specs.Words.{is_empty}
use Rattle.pm_source.specs.Source.{Source, SourceSegment, statements, segment_statements}
use Rattle.pm_source.specs.Faults.{faults, faults_of_lines, all_label_faults, label_faults, label_faults_from, source_end, source_of}
use Rattle.pm_source.specs.Meaning.{MeansProcedure, MeansSegment, ascending, found_procedure, found_procedures, found_segment, program_of}
use Rattle.pm_source.specs.Laws.{FaultlessIsSpelled, SpelledIsFaultless}
use Rattle.pm_source.proofs.Labels.{both_empty, labels_found}
use Rattle.pm_source.proofs.Unlabelled.{found_is_faultless}
use Rattle.pm_source.proofs.Exactly.{faultless_is_said, said_is_faultless}
use Rattle.pm_source.proofs.Ends.{found_behind, all_ascending, ascending_all, all_split}
use Rattle.pm_source.proofs.Ranged.{IsRanged, said_ranges}

-- States that the procedures from offset `at` on mean the procedures that are found for them, and that these follow
-- each other.
pub record MeanFrom (at : ℕ) (ps : List Source) : Type 0 where
  pub mean : AllZip MeansProcedure ps (found_procedures at ps)
  pub follow : FollowFrom at (found_procedures at ps)

pub procedures_found : (at : ℕ) (ps : List Source) → label_faults_from at ps ≡ [] → MeanFrom at ps
procedures_found at [] h = record { mean = tt; follow = tt }
procedures_found at (p ∷ ps) h =
    let next : ℕ = source_end at p in
    let parts = both_empty (label_faults at p) (label_faults_from next ps) h in
    let more : MeanFrom next ps = procedures_found next ps parts.1 in
    record {
      mean = (labels_found at p parts.0, more.mean);
      follow =
          (refl, subst (λ k. FollowFrom k (found_procedures next ps)) (sym (found_behind at p)) more.follow);
    }

-- States that the labels of a segment have no faults.
abbrev pub IsClean : SourceSegment → Type 0
IsClean s = label_faults_from 0 s.procedures ≡ []

segment_found : (s : SourceSegment) → IsClean s → MeansSegment s (found_segment s)
segment_found s h =
    let f : MeanFrom 0 s.procedures = procedures_found 0 s.procedures h in
    record { number = refl; name = refl; procedures = f.mean; follow = f.follow }

segments_found : (ss : List SourceSegment) → AllByRecursion IsClean ss → AllZip MeansSegment ss (map found_segment ss)
segments_found [] h = tt
segments_found (s ∷ ss) h = (segment_found s h.0, segments_found ss h.1)

are_clean : (ss : List SourceSegment) → all_label_faults ss ≡ [] → AllByRecursion IsClean ss
are_clean [] h = tt
are_clean (s ∷ ss) h = let parts = both_empty (label_faults_from 0 s.procedures) (all_label_faults ss) h in (parts.0, are_clean ss parts.1)

either : (fs ls : List AsmFault) → (if is_empty fs then ls else fs) ≡ [] → (fs ≡ []) × (ls ≡ [])
either [] ls h = (refl, h)
either (f ∷ fs) ls h = absurd (cc)

neither : (fs ls : List AsmFault) → fs ≡ [] → ls ≡ [] → (if is_empty fs then ls else fs) ≡ []
neither fs ls e f = rw e f

pub faultless_is_spelled : FaultlessIsSpelled
unfolding faults program_of
faultless_is_spelled text h =
    let parts = either (faults_of_lines text) (all_label_faults (source_of text)) h in
    let said = faultless_is_said text parts.0 in
    record {
      source = source_of text;
      said = said.0;
      sound = said.1;
      meant = segments_found (ascending (source_of text)) (all_ascending IsClean (source_of text) (are_clean (source_of text) parts.1));
    }

-- States the converse: the labels of the procedures `ps` have no faults, and `qs` are the procedures found for them.
record ComeFrom (at : ℕ) (ps : List Source) (qs : List Procedure) : Type 0 where
  faults : label_faults_from at ps ≡ []
  same : found_procedures at ps ≡ qs

procedures_come : (at : ℕ) (ps : List Source) (qs : List Procedure) → AllZip MeansProcedure ps qs → FollowFrom at qs → ComeFrom at ps qs
procedures_come at [] [] h f = record { faults = refl; same = refl }
procedures_come at [] (q ∷ qs) h f = absurd h
procedures_come at (p ∷ ps) [] h f = absurd h
procedures_come at (p ∷ ps) (q ∷ qs) h f =
    let one = found_is_faultless p q h.0 in
    let next : ℕ = source_end at p in
    let behind : jtab_of q + 2 ≡ next = ap (λ r. jtab_of r + 2) (sym one.1) ∙ found_behind q.start p ∙ ap (λ k. source_end k p) f.0 in
    let more : ComeFrom next ps qs = procedures_come next ps qs h.1 (subst (λ k. FollowFrom k qs) behind f.1) in
    record {
      faults = ap (λ fs. fs ++ label_faults_from next ps) (ap (λ k. label_faults k p) (sym f.0) ∙ one.0) ∙ more.faults;
      same = ap (λ r. r ∷ found_procedures next ps) (ap (λ k. found_procedure k p) (sym f.0) ∙ one.1) ∙ ap (λ rs. q ∷ rs) more.same;
    }

segment_same : (s t : Segment) → s.number ≡ t.number → s.name ≡ t.name → s.procedures ≡ t.procedures → s ≡ t
segment_same s t n m p =
    ap (λ v. record s { number = v }) n
    ∙ ap (λ v. record s { number = t.number; name = v }) m
    ∙ ap (λ v. record t { procedures = v }) p

pub segments_come : (ss : List SourceSegment) (ts : List Segment) → AllZip MeansSegment ss ts → AllByRecursion IsClean ss × (map found_segment ss ≡ ts)
segments_come [] [] h = (tt, refl)
segments_come [] (t ∷ ts) h = absurd h
segments_come (s ∷ ss) [] h = absurd h
segments_come (s ∷ ss) (t ∷ ts) h =
    let first : MeansSegment s t = h.0 in
    let one : ComeFrom 0 s.procedures t.procedures = procedures_come 0 s.procedures t.procedures first.procedures first.follow in
    let more = segments_come ss ts h.1 in
    let same : found_segment s ≡ t = segment_same (found_segment s) t (sym first.number) (sym first.name) one.same in
    ((one.faults, more.0), ap (λ r. r ∷ map found_segment ss) same ∙ ap (λ rs. t ∷ rs) more.1)

clean_again : (ss : List SourceSegment) → AllByRecursion IsClean ss → all_label_faults ss ≡ []
clean_again [] h = refl
clean_again (s ∷ ss) h = ap (λ fs. fs ++ all_label_faults ss) h.0 ∙ clean_again ss h.1

small_numbers : (ss : List SourceSegment) → AllByRecursion IsRanged (statements ss) → AllByRecursion (λ s. s.number < 16) ss
small_numbers [] h = tt
small_numbers (s ∷ ss) h =
    let parts = all_split IsRanged (segment_statements s) (statements ss) h in
    let first = parts.0 in
    let ranges = first.0 in
    (ranges.0, small_numbers ss parts.1)

pub spelled_is_faultless : SpelledIsFaultless
unfolding faults program_of
spelled_is_faultless text ts h =
    let ss : List SourceSegment = h.source in
    let read = said_is_faultless text ss h.said h.sound in
    let come = segments_come (ascending ss) ts h.meant in
    let numbers : AllByRecursion (λ s. s.number < 16) ss = small_numbers ss (said_ranges text (statements ss) h.said) in
    let distinct = h.sound.0 in
    let clean : AllByRecursion IsClean ss = ascending_all IsClean ss distinct numbers come.0 in (
      neither (faults_of_lines text) (all_label_faults (source_of text)) read.0 (ap all_label_faults read.1 ∙ clean_again ss clean),
      ap (λ xs. map found_segment (ascending xs)) read.1 ∙ come.1,
    )
