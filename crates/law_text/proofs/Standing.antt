-- Lemmas for where the procedures of a segment and its dictionary are.
use Rattle.std.proofs.Common.{◌≡◌, ℕ, ◌+◌, List, [], ◌∷◌, ◌++◌, length, map, drop, reverse, sym, ap, ◌∙◌, arith, append_assoc, drop-drop}
use Rattle.std.specs.List.{AllByRecursion}
use Rattle.std.proofs.Math.Seq.{drop-append_seam}
use Rattle.pm_code.specs.Program.{Procedure, Segment, IsProcedure, IsSegment, FollowFrom, dictionary_bytes, jtab_of, procedure_bytes, procedures_bytes}
use Rattle.pm_code.specs.Program.{procedures_end, segment_bytes}
use Rattle.pm_disasm.specs.Laws.{StandsIn}
use Rattle.pm_disasm.proofs.Stored.{Table}
use Rattle.pm_code.proofs.ItemBytes.{AreBytes}
use Rattle.pm_code.proofs.Laid.{dictionary_reversed, length-jtabs, length-procedure, length-procedures, length-segment}

-- Each procedure is in the segment.
abbrev pub AllStand : List ℕ → ℕ → List Procedure → Type 0
AllStand segment number [] = Unit {0}
AllStand segment number (p ∷ ps) = StandsIn segment number p × AllStand segment (number + 1) ps

pub all_stand : (segment rest : List ℕ) (at number : ℕ) (ps : List Procedure) → AreBytes segment → drop at segment ≡ procedures_bytes number ps ++ rest
    → FollowFrom at ps → AllByRecursion IsProcedure ps → AllStand segment number ps
all_stand segment rest at number [] b e h k = tt
all_stand segment rest at number (p ∷ ps) b e h k =
    let one : List ℕ = procedure_bytes number p in
    let more : List ℕ = procedures_bytes (number + 1) ps ++ rest in
    let here : drop p.start segment ≡ one ++ more = ap (λ n. drop n segment) h.0 ∙ e ∙ append_assoc one (procedures_bytes (number + 1) ps) rest in
    let next : drop (jtab_of p + 2) segment ≡ more =
    ap (λ n. drop n segment) (sym (length-procedure number p)) ∙ sym (drop-drop (length one) p.start segment) ∙ ap (drop (length one)) here
    ∙ drop-append_seam one more in
    (record { procedure = k.0; rest = more; there = here; bytes = b }, all_stand segment rest (jtab_of p + 2) (number + 1) ps b next h.1 k.1)

-- The dictionary of a segment follows its procedures.
pub dictionary_there : (s : Segment) (h : IsSegment s) → Table (segment_bytes s) (procedures_end 0 s.procedures) (length (segment_bytes s) + 6) 0
    (map jtab_of s.procedures) (s.number ∷ length s.procedures ∷ [])
dictionary_there s h =
    let end = procedures_end 0 s.procedures in
    let before : List ℕ = procedures_bytes 1 s.procedures in
    let last : List ℕ = s.number ∷ length s.procedures ∷ [] in
    let begins : end ≡ length before = sym (length-procedures 0 1 s.procedures h.follow) ∙ omega arith in
    record {
      there = ap (λ n. drop n (segment_bytes s)) begins ∙ drop-append_seam before (dictionary_bytes end (reverse s.procedures) ++ last)
          ∙ ap (λ bs. bs ++ last) (dictionary_reversed end s.procedures);
      ends = omega (arith, length-segment s h, length-jtabs s.procedures);
    }
