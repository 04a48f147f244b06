-- Lemmas: assembling returns the first of all faults.
use Rattle.std.proofs.Common.{◌≡◌, ℕ, ◌+◌, List, [], ◌∷◌, ◌++◌, Option, Some, None, refl}
use Rattle.std.specs.Prelude.{if◌then◌else◌}
use Rattle.std.specs.Option.{option_to_list}
use Rattle.pm_code.specs.Program.{end_of}
use Rattle.pm_reader.specs.Each.{first_in, firsts_from, firsts_of_lines}
use Rattle.pm_reader.specs.Firsts.{first_of}
use Rattle.pm_source.specs.declared.fault.AsmFault.{AsmFault}
use Rattle.pm_source.specs.Faults.{Places, Reading, after_line, all_label_faults, code_faults, faults, faults_from}
use Rattle.pm_source.specs.Faults.{faults_of_lines, label_faults, label_faults_from, line_faults, lines_of, place_of, source_end, source_of, start}
use Rattle.pm_source.specs.Line.{Line}
use Rattle.pm_source.specs.Source.{Row, Source, SourceSegment, row_items}
use Rattle.pm_source.specs.Words.{is_empty}
use Rattle.pm_asm.specs.Assembled.{assembled, outcome_by}
use Rattle.pm_asm.specs.Each.{FirstOfAll, all_faults, all_label_firsts, code_firsts, fault_in, label_firsts, label_firsts_from}
use Rattle.pm_asm.specs.Firsts.{row_faults}
use Rattle.pm_asm.proofs.Firsts.{row_first}

same_front : (xs ys zs : List AsmFault) → first_of ys ≡ first_of zs → first_of (first_in xs ++ ys) ≡ first_of (xs ++ zs)
same_front [] ys zs h = h
same_front (x ∷ xs) ys zs h = refl

same_both : (a b c d : List AsmFault) → first_of a ≡ first_of b → first_of c ≡ first_of d → first_of (a ++ c) ≡ first_of (b ++ d)
same_both [] [] c d h k = k
same_both [] (y ∷ b) c d h k = cc
same_both (x ∷ a) [] c d h k = cc
same_both (x ∷ a) (y ∷ b) c d h k = h

same_lines : (n : ℕ) (r : Reading) (lines : List Line) → first_of (firsts_from n r lines) ≡ first_of (faults_from n r lines)
unfolding firsts_from
same_lines n r [] = refl
same_lines n r (line ∷ rest) = same_front (line_faults n r line rest) _ _ (same_lines (n + 1) (after_line r line) rest)

same_code : (places : Places) (at : ℕ) (rows : List Row) → first_of (code_firsts places at rows) ≡ first_of (code_faults places at rows)
unfolding code_firsts
same_code places at [] = refl
same_code places at (row ∷ rows) =
    rw (row_first places at row rows) (same_front (row_faults places at row) _ _ (same_code places (end_of at (row_items row)) rows))

same_labels : (at : ℕ) (p : Source) → first_of (label_firsts at p) ≡ first_of (label_faults at p)
unfolding label_firsts
same_labels at p = same_both _ _ _ _ (same_code (place_of at p.code) at p.code) refl

same_procedures : (at : ℕ) (ps : List Source) → first_of (label_firsts_from at ps) ≡ first_of (label_faults_from at ps)
unfolding label_firsts_from
same_procedures at [] = refl
same_procedures at (p ∷ ps) = same_both _ _ _ _ (same_labels at p) (same_procedures (source_end at p) ps)

same_segments : (ss : List SourceSegment) → first_of (all_label_firsts ss) ≡ first_of (all_label_faults ss)
unfolding all_label_firsts
same_segments [] = refl
same_segments (s ∷ ss) = same_both _ _ _ _ (same_procedures 0 s.procedures) (same_segments ss)

one_left : (o : Option AsmFault) → first_of (option_to_list o) ≡ o
one_left None = refl
one_left (Some fault) = refl

same_whole : (text : List ℕ) (a b c d : List AsmFault) → first_of a ≡ first_of b → first_of c ≡ first_of d
    → first_of (if is_empty a then (if is_empty c
    then option_to_list (fault_in (outcome_by text (first_of (if is_empty b then d else b)))) else c) else a)
    ≡ fault_in (outcome_by text (first_of (if is_empty b then d else b)))
same_whole text [] [] [] [] h k = one_left (fault_in (outcome_by text None))
same_whole text [] [] [] (y ∷ d) h k = cc
same_whole text [] [] (x ∷ c) [] h k = cc
same_whole text [] [] (x ∷ c) (y ∷ d) h k = k
same_whole text [] (y ∷ b) c d h k = cc
same_whole text (x ∷ a) [] c d h k = cc
same_whole text (x ∷ a) (y ∷ b) c d h k = h

pub first_of_all : FirstOfAll
unfolding all_faults assembled faults firsts_of_lines
first_of_all text =
    same_whole text (firsts_of_lines text) (faults_of_lines text) (all_label_firsts (source_of text)) (all_label_faults (source_of text))
    (same_lines 1 start (lines_of text)) (same_segments (source_of text))
