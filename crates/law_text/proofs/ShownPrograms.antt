-- Lemmas: the text that is shown for a program spells the program.
use Rattle.std.proofs.Common.{◌≡◌, ◌<◌, ◌≤◌, ℕ, zero, suc, ◌+◌, ◌-◌, Bool, true, false, eqb, List, [], ◌∷◌}
use Rattle.std.proofs.Common.{◌++◌, length, map, reverse, refl, sym, ap, subst, ◌∙◌, arith, None, append_assoc}
use Rattle.std.specs.Prelude.{◌==◌, codes, nat_eq, slice_index}
use Rattle.std.specs.List.{list_all, AllByRecursion, AllZip, IsDistinct, slice_split, onto_first}
use Rattle.std.specs.Option.{option_to_list}
use Rattle.std.specs.Str.{bytes_eq}
use Rattle.std.specs.Str.Lines.{lines, lines_of_parts, strip_carriage_return}
use Rattle.std.proofs.lemmas.List.{length-append}
use Rattle.std.proofs.lemmas.Bool.{eqb-true}
use Rattle.std.proofs.lemmas.Bool.Decides.{nat_tests}
use Rattle.pm_code.specs.Program as program
use Rattle.pm_code.specs.Program.{Procedure, IsProcedure, IsSegment, FitSlots, AscendFrom}
use Rattle.pm_code.specs.Program.{code_end, dictionary_bytes, procedures_bytes, procedures_end, segment_bytes}
use Rattle.pm_code.specs.Shown.{joined, procedure_lines, procedures_lines, segment_line, segments_lines, program_text}
use Rattle.pm_source.specs.Words.{cut}
use Rattle.pm_source.specs.Source.{Source, SourceSegment, Statement, IsSource, head_statements, statements_from, statements}
use Rattle.pm_source.specs.Source.Statement.{Segment, End}
use Rattle.pm_source.specs.Line.{Line, line_of, is_character, uncommented}
use Rattle.pm_source.specs.Line.Flaw.{NoFlaw}
use Rattle.pm_source.specs.Line.Line.{Blank, Wrong, Strange, Says}
use Rattle.pm_source.specs.Faults.{lines_from}
use Rattle.pm_source.specs.Meaning.{AreSaid, MeansProcedure, MeansSegment, ascending, segment_with, segments_from}
use Rattle.pm_source.specs.Laws.{ShownIsSpelled}
use Rattle.law_text.proofs.Cutting.{and_parts}
use Rattle.law_text.proofs.SpokenLines.{segment_line_again}
use Rattle.law_text.proofs.ShownRows.{Show, shows}
use Rattle.law_text.proofs.ShownLengths.{ends_within}
use Rattle.law_text.proofs.ShownProcedures.{IsWhole, shown_source, procedure_after, source_means, source_sound, shows_procedure}

-- If all characters of `l` are valid, then `l`, a line feed and `rest` are split into `l` and the lines of `rest`.
one_line : (l rest : List ℕ) → list_all is_character l ≡ true → slice_split (λ b. b == 10) (l ++ (10 ∷ rest)) ≡ l ∷ slice_split (λ b. b == 10) rest
one_line [] rest h = refl
one_line (c ∷ l) rest h =
    let parts = and_parts _ _ h in
    let other = no_newline c parts.0 in
    rw other (ap (onto_first c) (one_line l rest parts.1))
  where
    no_newline : (c : ℕ) → is_character c ≡ true → (c == 10) ≡ false
    no_newline c h = grind (arith, nat_tests)

abbrev pub AreCharacters : List (List ℕ) → Type 0
AreCharacters ls = AllByRecursion (λ l. list_all is_character l ≡ true) ls

parts_of : (ls : List (List ℕ)) → AreCharacters ls → slice_split (λ b. b == 10) (joined ls) ≡ ls ++ [] ∷ []
parts_of [] h = refl
parts_of (l ∷ ls) h = one_line l (joined ls) h.0 ∙ ap (λ ps. l ∷ ps) (parts_of ls h.1)

no_return : (l : List ℕ) (i : ℕ) → list_all is_character l ≡ true → (slice_index l i == 13) ≡ false
no_return [] i h = refl
no_return (c ∷ l) zero h = one c (and_parts _ _ h).0
  where
    one : (c : ℕ) → is_character c ≡ true → (c == 13) ≡ false
    one c h = grind (arith, nat_tests)
no_return (c ∷ l) (suc i) h = no_return l i (and_parts _ _ h).1

stripped : (l : List ℕ) → list_all is_character l ≡ true → strip_carriage_return l ≡ l
stripped l h = let none = no_return l (length l - 1) h in rw none refl

all_stripped : (ls : List (List ℕ)) → AreCharacters ls → lines_of_parts (ls ++ [] ∷ []) ≡ ls
all_stripped [] h = refl
all_stripped (l ∷ []) h = ap (λ u. u ∷ []) (stripped l h.0)
all_stripped (l ∷ m ∷ ls) h = ap (λ u. u ∷ lines_of_parts ((m ∷ ls) ++ [] ∷ [])) (stripped l h.0) ∙ ap (λ us. l ∷ us) (all_stripped (m ∷ ls) h.1)

pub lines_joined : (ls : List (List ℕ)) → AreCharacters ls → lines (joined ls) ≡ ls
lines_joined ls h = ap lines_of_parts (parts_of ls h) ∙ all_stripped ls h

-- If a line has a meaning, then it contains only valid characters.
pub said_line : (n : ℕ) (l : List ℕ) (s : Statement) → line_of n l ≡ Says s NoFlaw → list_all is_character l ≡ true
unfolding line_of
said_line n l s h = go (list_all is_character l) refl
  where
    go : (b : Bool) → list_all is_character l ≡ b → list_all is_character l ≡ true
    go true e = e
    go false e =
        let last : Bool = bytes_eq (cut (uncommented false l)).word (codes ".END") in
        let wrong : line_of n l ≡ Wrong last = rw e refl in
        absurd (cc)

-- The lines spell the statements `said`.
record Rest (lines : List Line) : Type 0 where
  said : List Statement
  rest : AreSaid lines said

rest_said : (line : Line) (lines : List Line) (said : List Statement) → AreSaid (line ∷ lines) said → Rest lines
rest_said Blank lines said h = record { said = said; rest = h }
rest_said (Wrong end) lines said h = absurd h
rest_said Strange lines said h = absurd h
rest_said (Says s flaw) lines [] h = absurd h
rest_said (Says s flaw) lines (t ∷ said) h = record { said = said; rest = h.1.1 }

-- If lines have a meaning, then they contain only valid characters.
said_characters : (n : ℕ) (ls : List (List ℕ)) (said : List Statement) → Show n ls said → AreCharacters ls
unfolding line_of
said_characters n [] said h = tt
said_characters n (l ∷ ls) said h =
    let r : Rest (lines_from (n + 1) ls) = rest_said (line_of n l) (lines_from (n + 1) ls) said h in
    (go (list_all is_character l) refl, said_characters (n + 1) ls r.said r.rest)
  where
    wrong : (line : Line) (end : Bool) → line ≡ Wrong end → AreSaid (line ∷ lines_from (n + 1) ls) said → ⊥
    wrong line end e h = subst (λ l. AreSaid (l ∷ lines_from (n + 1) ls) said) e h

    go : (b : Bool) → list_all is_character l ≡ b → list_all is_character l ≡ true
    go true e = e
    go false e = absurd (let last : Bool = bytes_eq (cut (uncommented false l)).word (codes ".END") in let strange : line_of n l
        ≡ Wrong last = rw e refl in wrong (line_of n l) last strange h)

-- Returns the sources of the shown procedures, of which the first begins at line `n`.
shown_sources : ℕ → List Procedure → List Source
shown_sources n [] = []
shown_sources n (p ∷ ps) = shown_source n p ∷ shown_sources (procedure_after n p) ps

sources_after : ℕ → List Procedure → ℕ
sources_after n [] = n
sources_after n (p ∷ ps) = sources_after (procedure_after n p) ps

shown_segments : ℕ → List program.Segment → List SourceSegment
shown_segments n [] = []
shown_segments n (s ∷ ss) =
    record { number = s.number; name = s.name; procedures = shown_sources (n + 1) s.procedures } ∷ shown_segments (sources_after (n + 1) s.procedures) ss

shows_procedures : (n k : ℕ) (ps : List Procedure) (texts : List (List ℕ)) (said : List Statement) → AllByRecursion IsWhole ps → k + length ps ≤ 256
    → Show (sources_after n ps) texts said
    → Show n (procedures_lines k ps ++ texts) (statements_from k (shown_sources n ps) ++ said)
unfolding shown_sources sources_after
shows_procedures n k [] texts said w l s = s
shows_procedures n k (p ∷ ps) texts said w l s =
    let m : ℕ = procedure_after n p in
    let more : Show m (procedures_lines (k + 1) ps ++ texts) (statements_from (k + 1) (shown_sources m ps) ++ said) =
    shows_procedures m (k + 1) ps texts said w.1 (omega (arith, l)) s in
    let first : Show n (procedure_lines k p ++ (procedures_lines (k + 1) ps ++ texts))
    (head_statements k (shown_source n p) ++ End ∷ (statements_from (k + 1) (shown_sources m ps) ++ said)) =
    shows_procedure n k p (procedures_lines (k + 1) ps ++ texts) (statements_from (k + 1) (shown_sources m ps) ++ said) w.0 (omega (arith, l)) more in
    subst (λ ls. Show n ls ((head_statements k (shown_source n p) ++ End ∷ statements_from (k + 1) (shown_sources m ps)) ++ said))
    (sym (append_assoc (procedure_lines k p) (procedures_lines (k + 1) ps) texts))
    (subst (λ ss. Show n (procedure_lines k p ++ (procedures_lines (k + 1) ps ++ texts)) ss)
    (sym (append_assoc (head_statements k (shown_source n p)) (End ∷ statements_from (k + 1) (shown_sources m ps)) said)) first)

-- The segment `s` is valid, and each of its procedures is valid and ends before the offset 100,000.
pub record IsWholeSegment (s : program.Segment) : Type 0 where
  pub segment : IsSegment s
  pub procedures : AllByRecursion IsWhole s.procedures

shows_segments : (n : ℕ) (ss : List program.Segment) → AllByRecursion IsWholeSegment ss → Show n (segments_lines ss) (statements (shown_segments n ss))
unfolding shown_segments
shows_segments n [] w = refl
shows_segments n (s ∷ ss) w =
    let m : ℕ = sources_after (n + 1) s.procedures in
    let more : Show m (segments_lines ss) (statements (shown_segments m ss)) = shows_segments m ss w.1 in
    let procedures : Show (n + 1) (procedures_lines 1 s.procedures ++ segments_lines ss)
    (statements_from 1 (shown_sources (n + 1) s.procedures) ++ statements (shown_segments m ss)) =
    shows_procedures (n + 1) 1 s.procedures (segments_lines ss) (statements (shown_segments m ss)) w.0.procedures (omega (arith, w.0.segment.few)) more in
    shows n (segment_line s.number s.name) (Segment s.number s.name) (procedures_lines 1 s.procedures ++ segments_lines ss)
    (statements_from 1 (shown_sources (n + 1) s.procedures) ++ statements (shown_segments m ss))
    (segment_line_again n s.number s.name w.0.segment.number w.0.segment.name) procedures

-- If the procedures `ps` are valid and not too long, then their shown sources mean `ps`.
sources_mean : (n : ℕ) (ps : List Procedure) → AllByRecursion IsWhole ps → AllZip MeansProcedure (shown_sources n ps) ps
unfolding shown_sources
sources_mean n [] w = tt
sources_mean n (p ∷ ps) w = (source_means n p w.0, sources_mean (procedure_after n p) ps w.1)

sources_sound : (n : ℕ) (ps : List Procedure) → AllByRecursion IsWhole ps → AllByRecursion IsSource (shown_sources n ps)
unfolding shown_sources
sources_sound n [] w = tt
sources_sound n (p ∷ ps) w = (source_sound n p w.0, sources_sound (procedure_after n p) ps w.1)

segments_mean : (n : ℕ) (ss : List program.Segment) → AllByRecursion IsWholeSegment ss → AllZip MeansSegment (shown_segments n ss) ss
unfolding shown_segments
segments_mean n [] w = tt
segments_mean n (s ∷ ss) w = (
  record { number = refl; name = refl; procedures = sources_mean (n + 1) s.procedures w.0.procedures; follow = w.0.segment.follow },
  segments_mean (sources_after (n + 1) s.procedures) ss w.1,
)

segments_sound : (n : ℕ) (ss : List program.Segment) → AllByRecursion IsWholeSegment ss
    → AllByRecursion (λ s. AllByRecursion IsSource s.procedures) (shown_segments n ss)
unfolding shown_segments
segments_sound n [] w = tt
segments_sound n (s ∷ ss) w = (sources_sound (n + 1) s.procedures w.0.procedures, segments_sound (sources_after (n + 1) s.procedures) ss w.1)

-- The numbers of the segments ascend, and the first is at least `least`.
abbrev Ascends : ℕ → List SourceSegment → Type 0
Ascends least [] = Unit {0}
Ascends least (s ∷ ss) = (least ≤ s.number) × Ascends (s.number + 1) ss

abbrev IsBelow : ℕ → SourceSegment → Type 0
IsBelow n s = s.number < n

segments_ascend : (least n : ℕ) (ss : List program.Segment) → AscendFrom least ss → Ascends least (shown_segments n ss)
unfolding shown_segments
segments_ascend least n [] h = tt
segments_ascend least n (s ∷ ss) h = (h.0, segments_ascend (s.number + 1) (sources_after (n + 1) s.procedures) ss h.1)

segments_below : (n : ℕ) (ss : List program.Segment) → AllByRecursion IsWholeSegment ss → AllByRecursion (IsBelow 16) (shown_segments n ss)
unfolding shown_segments
segments_below n [] w = tt
segments_below n (s ∷ ss) w = (w.0.segment.number, segments_below (sources_after (n + 1) s.procedures) ss w.1)

differ : (m n : ℕ) → m < n → (m == n) ≡ false
differ m n h = grind (arith, nat_tests)

differ_up : (m n : ℕ) → m < n → (n == m) ≡ false
differ_up m n h = grind (arith, nat_tests)

others : (k least : ℕ) (ss : List SourceSegment) → k < least → Ascends least ss → AllByRecursion (λ y. nat_eq k y ≡ false) (map (λ s. s.number) ss)
others k least [] l h = tt
others k least (s ∷ ss) l h = (differ k s.number (omega (arith, l, h.0)), others k (s.number + 1) ss (omega (arith, l, h.0)) h.1)

numbers_differ : (least : ℕ) (ss : List SourceSegment) → Ascends least ss → IsDistinct nat_eq (map (λ s. s.number) ss)
unfolding IsDistinct
numbers_differ least [] h = tt
numbers_differ least (s ∷ ss) h = (others s.number (s.number + 1) ss (omega arith) h.1, numbers_differ (s.number + 1) ss h.1)

none_with : (k least : ℕ) (ss : List SourceSegment) → k < least → Ascends least ss → segment_with k ss ≡ None
none_with k least [] l h = refl
none_with k least (s ∷ ss) l h =
    let other = differ_up k s.number (omega (arith, l, h.0)) in rw other (none_with k (s.number + 1) ss (omega (arith, l, h.0)) h.1)

dropped : (n count : ℕ) (s : SourceSegment) (ss : List SourceSegment) → s.number < n → segments_from n count (s ∷ ss) ≡ segments_from n count ss
dropped n zero s ss l = refl
dropped n (suc count) s ss l =
    let other = differ s.number n l in rw other (ap (λ rest. option_to_list (segment_with n ss) ++ rest) (dropped (n + 1) count s ss (omega (arith, l))))

-- If the numbers of segments ascend from `n` on and are less than `n + count`, then sorting by number returns the same
-- list.
in_order : (n count : ℕ) (ss : List SourceSegment) → Ascends n ss → AllByRecursion (IsBelow (n + count)) ss → segments_from n count ss ≡ ss
in_order n zero [] h b = refl
in_order n zero (s ∷ ss) h b = absurd (omega (arith, h.0, b.0))
in_order n (suc count) [] h b = in_order (n + 1) count [] tt tt
in_order n (suc count) (s ∷ ss) h b =
    go (eqb s.number n) refl (λ rest high. in_order (n + 1) count ss rest high) (λ rest high. in_order (n + 1) count (s ∷ ss) rest high)
  where
    raised : (ts : List SourceSegment) → AllByRecursion (IsBelow (n + suc count)) ts → AllByRecursion (IsBelow (n + 1 + count)) ts
    raised [] b = tt
    raised (t ∷ ts) b = (omega (arith, b.0), raised ts b.1)

    above : (m k : ℕ) → (m == k) ≡ false → k ≤ m → k < m
    above m k e l = grind (arith, nat_tests)

    go : (b : Bool) → eqb s.number n ≡ b
        → (Ascends (n + 1) ss → AllByRecursion (IsBelow (n + 1 + count)) ss → segments_from (n + 1) count ss ≡ ss)
        → (Ascends (n + 1) (s ∷ ss) → AllByRecursion (IsBelow (n + 1 + count)) (s ∷ ss) → segments_from (n + 1) count (s ∷ ss) ≡ s ∷ ss)
        → segments_from n (suc count) (s ∷ ss) ≡ s ∷ ss
    go true e f g =
        let same : s.number ≡ n = eqb-true _ _ e in
        let rest : Ascends (n + 1) ss = subst (λ k. Ascends (k + 1) ss) same h.1 in
        rw e (ap (λ ts. s ∷ ts) (dropped (n + 1) count s ss (omega (arith, same)) ∙ f rest (raised ss b.1)))
    go false e f g =
        let less : n < s.number = above s.number n e h.0 in
        let none : segment_with n ss ≡ None = none_with n (s.number + 1) ss (omega (arith, less)) h.1 in
        rw e (rw none (g (omega (arith, less), h.1) (raised (s ∷ ss) b)))

-- If procedures are valid and end at most at `last`, which is less than 100,000, then they are not too long.
wholes : (ps : List Procedure) (last : ℕ) → last < 100000 → AllByRecursion IsProcedure ps → AllByRecursion (λ p. code_end p ≤ last) ps
    → AllByRecursion IsWhole ps
wholes [] last l h e = tt
wholes (p ∷ ps) last l h e = (record { procedure = h.0; short = omega (arith, l, e.0) }, wholes ps last l h.1 e.1)

whole_segment : (s : program.Segment) → IsSegment s → length (segment_bytes s) ≤ 65534 → IsWholeSegment s
whole_segment s h l =
    let parts = length-append (procedures_bytes 1 s.procedures) (dictionary_bytes (procedures_end 0 s.procedures) (reverse s.procedures)
    ++ s.number ∷ length s.procedures ∷ []) in
    record {
      segment = h;
      procedures = wholes s.procedures 65534 (omega arith) h.procedures (ends_within 0 1 65534 s.procedures h.follow (omega (arith, parts, l)));
    }

pub whole_segments : (ss : List program.Segment) → AllByRecursion IsSegment ss → FitSlots ss → AllByRecursion IsWholeSegment ss
whole_segments [] h l = tt
whole_segments (s ∷ ss) h l = (whole_segment s h.0 l.0, whole_segments ss h.1 l.1)

pub shown_is_spelled : ShownIsSpelled
unfolding program_text
shown_is_spelled ss w short =
    let wholes : AllByRecursion IsWholeSegment ss = whole_segments ss w.segments short in
    let ls : List (List ℕ) = segments_lines ss in
    let source : List SourceSegment = shown_segments 1 ss in
    let shown : Show 1 ls (statements source) = shows_segments 1 ss wholes in
    let same : lines (joined ls) ≡ ls = lines_joined ls (said_characters 1 ls (statements source) shown) in
    let order : Ascends 0 source = segments_ascend 0 1 ss w.ascend in
    let sorted : ascending source ≡ source = in_order 0 16 source order (segments_below 1 ss wholes) in
    record {
      source = source;
      said = subst (λ ts. AreSaid (lines_from 1 ts) (statements source)) (sym same) shown;
      sound = (numbers_differ 0 source order, segments_sound 1 ss wholes);
      meant = subst (λ ts. AllZip MeansSegment ts ss) (sym sorted) (segments_mean 1 ss wholes);
    }
