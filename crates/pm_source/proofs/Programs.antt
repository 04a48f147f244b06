-- If a text defines segments that fit into the slots, then these segments are a program.
use Rattle.std.proofs.Common.{◌≡◌, ◌<◌, ◌≤◌, ℕ, ◌+◌, ◌%◌, Bool, true, false, List, [], ◌∷◌, ◌++◌}
use Rattle.std.proofs.Common.{length, map, refl, sym, ap, subst, ◌∙◌, arith, Option, Some, None}
use Rattle.std.specs.Prelude.{zero, suc, ◌==◌, if◌then◌else◌}
use Rattle.std.specs.List.{AllByRecursion}
use Rattle.std.specs.Option.{option_to_list}
use Rattle.std.proofs.lemmas.Bool.{eqb-true}
use Rattle.pm_code.specs.Program.{FitSlots, AscendFrom, IsProcedure, IsProgram, IsSegment, is_segment_name, jtab_of, procedures_end, segment_bytes}
use Rattle.pm_source.specs.Source.{Row, Source, SourceSegment, IsSource, code_end, entry_statement, head_statements}
use Rattle.pm_source.specs.Source.{items_of, segment_statements, statements, statements_from}
use Rattle.pm_source.specs.Source.Row.{Items, Exit}
use Rattle.pm_source.specs.Source.Statement.{Code, End}
use Rattle.pm_source.specs.Faults.{label_faults, label_faults_from, source_end}
use Rattle.pm_source.specs.Meaning.{ascending, found_procedure, found_procedures, found_segment, segment_with, segments_from}
use Rattle.pm_source.specs.Laws.{SpelledIsProgram}
use Rattle.pm_source.proofs.Ends.{all_ascending, all_split, found_behind}
use Rattle.pm_source.proofs.Goods.{IsGood}
use Rattle.pm_source.proofs.Labels.{both_empty}
use Rattle.pm_source.proofs.Numerals.{some_is}
use Rattle.pm_source.proofs.Placed.{IsGoodSource, procedure_is}
use Rattle.pm_source.proofs.Ranged.{IsRanged, said_ranges}
use Rattle.pm_source.proofs.Sizes.{code_parity, end_later, end_within}
use Rattle.pm_source.proofs.Sound.{all_append}
use Rattle.pm_source.proofs.Spelled.{IsClean, MeanFrom, procedures_found, segments_come}

-- If statements of code are in their ranges, then the items of the code are valid.
rows_good : (rows : List Row) → AllByRecursion IsRanged (map Code rows) → AllByRecursion IsGood (items_of rows)
rows_good [] h = tt
rows_good (Items line label items ∷ rows) h = all_append IsGood items (items_of rows) h.0 (rows_good rows h.1)
rows_good (Exit ∷ rows) h = rows_good rows h.1

source_good : (n : ℕ) (p : Source) → AllByRecursion IsRanged (head_statements n p) → IsGoodSource p
source_good n p h =
    let first = h.0 in
    let parts = all_split IsRanged (map Code p.code) (map entry_statement p.entries) h.1 in
    record { level = first.1; parameters = first.2; locals = first.3; items = rows_good p.code parts.0 }

record AreGood (n : ℕ) (ps : List Source) : Type 0 where
  sources : AllByRecursion IsGoodSource ps
  few : n + length ps ≤ 256

sources_good : (n : ℕ) (ps : List Source) → n ≤ 256 → AllByRecursion IsRanged (statements_from n ps) → AreGood n ps
sources_good n [] low h = record { sources = tt; few = omega (arith, low) }
sources_good n (p ∷ ps) low h =
    let parts = all_split IsRanged (head_statements n p) (End ∷ statements_from (n + 1) ps) h in
    let front = parts.0 in
    let first = front.0 in
    let behind = parts.1 in
    let small : n < 256 = first.0 in
    let more : AreGood (n + 1) ps = sources_good (n + 1) ps (omega (arith, small)) behind.1 in
    record { sources = (source_good n p parts.0, more.sources); few = omega (arith, more.few) }

-- States that the values of the segment `s` of a text are in their ranges.
record IsGoodSegment (s : SourceSegment) : Type 0 where
  number : s.number < 16
  name : is_segment_name s.name ≡ true
  sources : AllByRecursion IsGoodSource s.procedures
  few : length s.procedures < 256

segments_good : (ss : List SourceSegment) → AllByRecursion IsRanged (statements ss) → AllByRecursion IsGoodSegment ss
segments_good [] h = tt
segments_good (s ∷ ss) h =
    let parts = all_split IsRanged (segment_statements s) (statements ss) h in
    let front = parts.0 in
    let first = front.0 in
    let good : AreGood 1 s.procedures = sources_good 1 s.procedures (omega arith) front.1 in
    (record { number = first.0; name = first.1; sources = good.sources; few = omega (arith, good.few) }, segments_good ss parts.1)

-- If a segment is not too long, then its procedures, after the labels are replaced by offsets, are procedures of a
-- program.
procedures_are : (at : ℕ) (ps : List Source) → label_faults_from at ps ≡ [] → AllByRecursion IsSource ps → AllByRecursion IsGoodSource ps → at % 2 ≡ 0
    → procedures_end at (found_procedures at ps) ≤ 65534
    → AllByRecursion IsProcedure (found_procedures at ps)
procedures_are at [] h s g e b = tt
procedures_are at (p ∷ ps) h s g e b =
    let next : ℕ = source_end at p in
    let parts = both_empty (label_faults at p) (label_faults_from next ps) h in
    let behind : jtab_of (found_procedure at p) + 2 ≡ next = found_behind at p in
    let rest : procedures_end next (found_procedures next ps) ≤ 65534 = subst (λ k. procedures_end k (found_procedures next ps) ≤ 65534) behind b in
    let more : MeanFrom next ps = procedures_found next ps parts.1 in
    let last : next ≤ procedures_end next (found_procedures next ps) = end_later next (found_procedures next ps) more.follow in
    let zero_even : at % 2 ≡ 0 % 2 = e in
    let whole : IsSource p = s.0 in
    let even : code_end at p.code % 2 ≡ 0 = code_parity at 0 p.code zero_even ∙ whole.even in
    let next_even : next % 2 ≡ 0 = omega (arith, even) in
    (procedure_is at p parts.0 whole g.0 e (omega (arith, last, rest)), procedures_are next ps parts.1 s.1 g.1 next_even rest)

found_count : (at : ℕ) (ps : List Source) → length (found_procedures at ps) ≡ length ps
found_count at [] = refl
found_count at (p ∷ ps) = ap suc (found_count (source_end at p) ps)

segment_is : (s : SourceSegment) → IsClean s → AllByRecursion IsSource s.procedures → IsGoodSegment s → length (segment_bytes (found_segment s)) ≤ 65534
    → IsSegment (found_segment s)
segment_is s c h g b =
    let m : MeanFrom 0 s.procedures = procedures_found 0 s.procedures c in
    let last : procedures_end 0 (found_procedures 0 s.procedures) ≤ length (segment_bytes (found_segment s)) = end_within (found_segment s) m.follow in
    record {
      number = g.number;
      name = g.name;
      procedures = procedures_are 0 s.procedures c h g.sources refl (omega (arith, last, b));
      few = omega (arith, found_count 0 s.procedures, g.few);
      follow = m.follow;
    }

segments_are : (ss : List SourceSegment) → AllByRecursion IsClean ss → AllByRecursion (λ s. AllByRecursion IsSource s.procedures) ss
    → AllByRecursion IsGoodSegment ss → FitSlots (map found_segment ss)
    → AllByRecursion IsSegment (map found_segment ss)
segments_are [] c h g b = tt
segments_are (s ∷ ss) c h g b = (segment_is s c.0 h.0 g.0 b.0, segments_are ss c.1 h.1 g.1 b.1)

-- If a segment is found by the number `n`, then its number is `n`.
numbered : (n : ℕ) (ss : List SourceSegment) (s : SourceSegment) → segment_with n ss ≡ Some s → s.number ≡ n
numbered n [] s e = absurd (cc)
numbered n (t ∷ ss) s e = by (t.number == n) refl e (λ f. numbered n ss s f)
  where
    by : (b : Bool) → (t.number == n) ≡ b → (if b then Some t else segment_with n ss) ≡ Some s → (segment_with n ss ≡ Some s → s.number ≡ n) → s.number ≡ n
    by true f e more = ap (λ x. x.number) (sym (some_is t s e)) ∙ eqb-true t.number n f
    by false f e more = more e

ascends : (n count least : ℕ) (ss : List SourceSegment) → least ≤ n → AscendFrom least (map found_segment (segments_from n count ss))
ascends n zero least ss low = tt
ascends n (suc count) least ss low = by (segment_with n ss) refl (λ k h. ascends (n + 1) count k ss h)
  where
    by : (o : Option SourceSegment) → segment_with n ss ≡ o → ((k : ℕ) → k ≤ n + 1 → AscendFrom k (map found_segment (segments_from (n + 1) count ss)))
        → AscendFrom least (map found_segment (option_to_list o ++ segments_from (n + 1) count ss))
    by None e more = more least (omega (arith, low))
    by (Some s) e more =
        let same : s.number ≡ n = numbered n ss s e in
        (omega (arith, low, same), more (s.number + 1) (omega (arith, same)))

pub spelled_is_program : SpelledIsProgram
spelled_is_program text ts h b =
    let ss : List SourceSegment = h.source in
    let come = segments_come (ascending ss) ts h.meant in
    let same : map found_segment (ascending ss) ≡ ts = come.1 in
    let good : AllByRecursion IsGoodSegment (ascending ss) = all_ascending IsGoodSegment ss (segments_good ss (said_ranges text (statements ss) h.said)) in
    let whole = all_ascending (λ s. AllByRecursion IsSource s.procedures) ss h.sound.1 in
    let short : FitSlots (map found_segment (ascending ss)) = subst FitSlots (sym same) b in
    let program : IsProgram (map found_segment (ascending ss)) = record {
      segments = segments_are (ascending ss) come.0 whole good short;
      ascend = ascends 0 16 0 ss (omega arith);
    } in
    subst IsProgram same program
