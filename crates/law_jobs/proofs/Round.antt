-- Lemmas: the text of the code file of a program spells a program with the same code file.
use Rattle.std.proofs.Common.{◌≡◌, ◌≤◌, ℕ, zero, suc, ◌+◌, ◌-◌, Bool, true, false, List, [], ◌∷◌}
use Rattle.std.proofs.Common.{◌++◌, length, map, replicate, refl, sym, ap, subst, ◌∙◌, Option, Some}
use Rattle.std.specs.Prelude.{◌==◌, if◌then◌else◌}
use Rattle.std.specs.List.{AllByRecursion, AllZip}
use Rattle.pm_codefile.specs.Layout.{layout}
use Rattle.pm_code.specs.Laws.{IsSameSegment}
use Rattle.pm_code.specs.Program.{segment_numbered, Procedure, Segment, AreInstructions, FitSlots}
use Rattle.law_text.proofs.ShownFile.{program_is_shown}
use Rattle.pm_code.specs.Image.{bytes_of_segment, file_of, joined_bytes, name_of_segment, slots_of}
use Rattle.law_jobs.specs.RoundTrip.{ShownFileIsSpelled}
use Rattle.pm_source.specs.Meaning.{Spells}
use Rattle.law_text.proofs.Held.{file_holds_program}
use Rattle.law_text.proofs.ShownPrograms.{shown_is_spelled}

-- The slots `s` and `t` have the same name and the same bytes in the file.
record IsSameSlot (s t : Option Segment) : Type 0 where
  name : name_of_segment t ≡ name_of_segment s
  bytes : bytes_of_segment t ≡ bytes_of_segment s

same_numbered : (n : ℕ) (ss ts : List Segment) → AllZip IsSameSegment ss ts → IsSameSlot (segment_numbered n ss) (segment_numbered n ts)
same_numbered n [] [] h = record { name = refl; bytes = refl }
same_numbered n [] (t ∷ ts) h = absurd h
same_numbered n (s ∷ ss) [] h = absurd h
same_numbered n (s ∷ ss) (t ∷ ts) h =
    subst (λ m. IsSameSlot (segment_numbered n (s ∷ ss)) (if m == n then Some t else segment_numbered n ts)) (sym h.0.number)
    (by (s.number == n) (same_numbered n ss ts h.1))
  where
    by : (b : Bool) → IsSameSlot (segment_numbered n ss) (segment_numbered n ts)
        → IsSameSlot (if b then Some s else segment_numbered n ss) (if b then Some t else segment_numbered n ts)
    by true more = record { name = ap (λ name. name ++ replicate (8 - length name) 32) h.0.name; bytes = h.0.bytes }
    by false more = more

same_slots : (n count : ℕ) (ss ts : List Segment) → AllZip IsSameSegment ss ts → AllZip IsSameSlot (slots_of n count ss) (slots_of n count ts)
same_slots n zero ss ts h = tt
same_slots n (suc count) ss ts h = (same_numbered n ss ts h, same_slots (n + 1) count ss ts h)

-- Returns the code file with these slots.
abbrev file_with : List (Option Segment) → List ℕ
file_with slots = layout (map name_of_segment slots) (map (λ s. length (bytes_of_segment s)) slots) (joined_bytes slots)

record AreSame (ss ts : List (Option Segment)) : Type 0 where
  names : map name_of_segment ts ≡ map name_of_segment ss
  lengths : map (λ s. length (bytes_of_segment s)) ts ≡ map (λ s. length (bytes_of_segment s)) ss
  bytes : joined_bytes ts ≡ joined_bytes ss

are_same : (ss ts : List (Option Segment)) → AllZip IsSameSlot ss ts → AreSame ss ts
are_same [] [] h = record { names = refl; lengths = refl; bytes = refl }
are_same [] (t ∷ ts) h = absurd h
are_same (s ∷ ss) [] h = absurd h
are_same (s ∷ ss) (t ∷ ts) h =
    let more = are_same ss ts h.1 in
    let lengths_of : List (Option Segment) → List ℕ = map (λ s. length (bytes_of_segment s)) in
    record {
      names = ap (λ name. name ∷ map name_of_segment ts) h.0.name ∙ ap (λ names. name_of_segment s ∷ names) more.names;
      lengths = ap (λ bs. length bs ∷ lengths_of ts) h.0.bytes ∙ ap (λ ns. length (bytes_of_segment s) ∷ ns) more.lengths;
      bytes = ap (λ bs. bs ++ joined_bytes ts) h.0.bytes ∙ ap (λ bs. bytes_of_segment s ++ bs) more.bytes;
    }

same_file : (ss ts : List (Option Segment)) → AllZip IsSameSlot ss ts → file_with ts ≡ file_with ss
same_file ss ts h =
    let same = are_same ss ts h in
    ap (λ names. layout names (map (λ s. length (bytes_of_segment s)) ts) (joined_bytes ts)) same.names
    ∙ ap (λ ns. layout (map name_of_segment ss) ns (joined_bytes ts)) same.lengths
    ∙ ap (λ bs. layout (map name_of_segment ss) (map (λ s. length (bytes_of_segment s)) ss) bs) same.bytes

-- If the segments of two programs are pairwise the same, then both programs have the same code file.
pub same_program_file : (ss ts : List Segment) → AllZip IsSameSegment ss ts → file_of ts ≡ file_of ss
unfolding file_of
same_program_file ss ts h = same_file (slots_of 0 16 ss) (slots_of 0 16 ts) (same_slots 0 16 ss ts h)

same_short : (ss ts : List Segment) → AllZip IsSameSegment ss ts → FitSlots ss → FitSlots ts
same_short [] [] h short = tt
same_short [] (t ∷ ts) h short = absurd h
same_short (s ∷ ss) [] h short = absurd h
same_short (s ∷ ss) (t ∷ ts) h short = (subst (λ bs. length bs ≤ 65534) (sym h.0.bytes) short.0, same_short ss ts h.1 short.1)

same_segments : (ss ts : List Segment) → AllZip IsSameSegment ss ts
    → AllByRecursion (λ s. AllByRecursion (λ (p : Procedure). AreInstructions p.items) s.procedures) ss → ts ≡ ss
same_segments [] [] h i = refl
same_segments [] (t ∷ ts) h i = absurd h
same_segments (s ∷ ss) [] h i = absurd h
same_segments (s ∷ ss) (t ∷ ts) h i = ap (λ u. u ∷ ts) (h.0.same i.0) ∙ ap (λ us. s ∷ us) (same_segments ss ts h.1 i.1)

pub shown_file_is_spelled : ShownFileIsSpelled
shown_file_is_spelled ss h short =
    let shown = program_is_shown (file_of ss) ss h short (file_holds_program ss h short) in
    let ts : List Segment = shown.0 in (
      ts,
      record {
        spelled = subst (λ text. Spells text ts) (sym shown.3) (shown_is_spelled ts shown.1 (same_short ss ts shown.2 short));
        segments = shown.2;
        file = same_program_file ss ts shown.2;
        same = λ i. same_segments ss ts shown.2 i;
      },
    )
