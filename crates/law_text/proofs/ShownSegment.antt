-- Lemmas: a segment of a program is shown as a segment with the same bytes.
use Rattle.std.proofs.Common.{◌≡◌, ◌≤◌, ℕ, ◌+◌, ◌-◌, ◌*◌, false, cond, ltb, List, [], ◌∷◌, ◌++◌, length, map, drop}
use Rattle.std.proofs.Common.{reverse, refl, sym, ap, ◌∙◌, subst, arith, length-append, length-drop, drop-drop, Some}
use Rattle.std.specs.List.{AllByRecursion}
use Rattle.std.proofs.Math.Seq.{drop-append_seam}
use Rattle.std.proofs.lemmas.Bool.{le-ltb}
use Rattle.pm_codefile.specs.declared.table.Attributes.{Attributes}
use Rattle.pm_codefile.specs.Dictionary.{word_in}
use Rattle.pm_codefile.specs.Segments.{attributes_in, procedures_in}
use Rattle.pm_code.specs.Program.{Procedure, Segment, IsProcedure, IsSegment, AreInstructions, FollowFrom, back_to, dictionary_bytes, entry_bytes, jtab_of}
use Rattle.pm_code.specs.Program.{procedure_bytes, procedures_bytes, procedures_end, segment_bytes}
use Rattle.pm_disasm.specs.Split.{procedure_of}
use Rattle.pm_disasm.specs.Shown.{missing_line, table_lines_or, tables_lines}
use Rattle.pm_code.specs.Shown.{procedure_lines, procedures_lines}
use Rattle.pm_disasm.specs.Laws.{attributes_of, IsShownAs}
use Rattle.pm_code.specs.Laws.{IsSameSegment}
use Rattle.law_text.proofs.Again.{later}
use Rattle.pm_disasm.proofs.Stored.{Table, first_word, other_words}
use Rattle.law_text.proofs.LeastCount.{procedure_is_shown}
use Rattle.law_text.proofs.Standing.{AllStand, all_stand, dictionary_there}
use Rattle.pm_code.proofs.Laid.{are_segment_bytes, dictionary_reversed, tables_before}
use Rattle.law_text.proofs.FoundTables.{table_found, stored_byte}

-- Returns the procedures that are shown for the given procedures, which are numbered from `number` on.
abbrev pub shown_from : List ℕ → ℕ → List Procedure → List Procedure
shown_from segment number [] = []
shown_from segment number (p ∷ ps) = procedure_of segment (attributes_of number p) ∷ shown_from segment (number + 1) ps

abbrev pub shown_segment : Segment → Segment
shown_segment s = record s { procedures = shown_from (segment_bytes s) 1 s.procedures }

-- The table of each procedure is found by its number.
abbrev pub AllFound : List ℕ → ℕ → List Procedure → Type 0
AllFound segment number [] = Unit {0}
AllFound segment number (p ∷ ps) = (attributes_in segment number ≡ Some (attributes_of number p)) × AllFound segment (number + 1) ps

all_found : (segment rest : List ℕ) (at number k : ℕ) (ps : List Procedure) → Table segment at (length segment + 6) k (map jtab_of ps) rest → number ≡ k + 1
    → number + length ps ≤ procedures_in segment + 1 → AllStand segment number ps → AllByRecursion (λ p. jtab_of p + 2 ≤ at) ps → AllFound segment number ps
all_found segment rest at number k [] t e few s b = tt
all_found segment rest at number k (p ∷ ps) t e few s b =
    let place = length segment + 6 - 10 - 2 * k in
    let word : word_in segment place ≡ place - jtab_of p = first_word segment at (length segment + 6) k (jtab_of p) (map jtab_of ps) rest t in (
      table_found segment number place p s.0 (omega (arith, e)) (omega (arith, few)) (omega (arith, t.ends, e)) word (omega (arith, t.ends, b.0)),
      all_found segment (back_to (at + 2 * length (map jtab_of ps)) (jtab_of p) ++ rest) at (number + 1) (k + 1) ps
          (other_words segment at (length segment + 6) k (jtab_of p) (map jtab_of ps) rest t) (omega (arith, e)) (omega (arith, few)) s.1 b.1,
    )

-- The count of procedures that is read from the bytes of a segment is the number of its procedures.
count_there : (s : Segment) → IsSegment s → procedures_in (segment_bytes s) ≡ length s.procedures
count_there s h =
    let segment : List ℕ = segment_bytes s in
    let at = procedures_end 0 s.procedures in
    let last : List ℕ = s.number ∷ length s.procedures ∷ [] in
    let entries : List ℕ = entry_bytes at (reverse (map jtab_of s.procedures)) in
    let t = dictionary_there s h in
    let there : drop (at + length entries) segment ≡ last = sym (drop-drop (length entries) at segment) ∙ ap (drop (length entries)) t.there
    ∙ drop-append_seam entries last in
    let total : at + (length segment - at) ≡ length segment = omega (arith, t.ends) in
    let long : length segment - at ≡ length entries + 2 = sym (length-drop at segment) ∙ ap length t.there ∙ length-append entries last in
    stored_byte segment last (at + length entries) (length segment - 1) 1 there (omega (arith, total, long))

tables_shown : (segment : List ℕ) (number : ℕ) (ps : List Procedure) → AllStand segment number ps → AllFound segment number ps
    → tables_lines segment number (length ps) ≡ procedures_lines number (shown_from segment number ps)
tables_shown segment number [] s f = refl
tables_shown segment number (p ∷ ps) s f =
    let h = s.0.procedure in
    let a : Attributes = attributes_of number p in
    let t : ltb p.exit p.start ≡ false = le-ltb _ _ (later p.start p.items p.exit h.exit) in
    let one : table_lines_or segment number (attributes_in segment number) ≡ procedure_lines number (procedure_of segment a) =
    ap (table_lines_or segment number) f.0 ∙ ap (λ b. cond b (missing_line number) (procedure_lines number (procedure_of segment a))) t in
    ap (λ ls. ls ++ tables_lines segment (number + 1) (length ps)) one
    ∙ ap (λ ls. procedure_lines number (procedure_of segment a) ++ ls) (tables_shown segment (number + 1) ps s.1 f.1)

-- The procedures that are shown for `ps` are valid, and have the same count, JTABs, bytes and end as `ps`.
record AreShownAs (segment : List ℕ) (number at : ℕ) (ps : List Procedure) : Type 0 where
  procedures : AllByRecursion IsProcedure (shown_from segment number ps)
  count : length (shown_from segment number ps) ≡ length ps
  follow : FollowFrom at ps → FollowFrom at (shown_from segment number ps)
  jtabs : map jtab_of (shown_from segment number ps) ≡ map jtab_of ps
  bytes : procedures_bytes number (shown_from segment number ps) ≡ procedures_bytes number ps
  ends : procedures_end at (shown_from segment number ps) ≡ procedures_end at ps
  same : AllByRecursion (λ (p : Procedure). AreInstructions p.items) ps → shown_from segment number ps ≡ ps

are_shown_as : (segment : List ℕ) (number at : ℕ) (ps : List Procedure) → AllStand segment number ps → AreShownAs segment number at ps
are_shown_as segment number at [] s = record { procedures = tt; count = refl; follow = λ f. tt; jtabs = refl; bytes = refl; ends = refl; same = λ i. refl }
are_shown_as segment number at (p ∷ ps) s =
    let q = procedure_of segment (attributes_of number p) in
    let one : IsShownAs number p q = procedure_is_shown segment number p s.0 in
    let more = are_shown_as segment (number + 1) (jtab_of p + 2) ps s.1 in
    let qs : List Procedure = shown_from segment (number + 1) ps in
    record {
      procedures = (one.procedure, more.procedures);
      count = omega (arith, more.count);
      follow = λ f. (one.start ∙ f.0, subst (λ n. FollowFrom (n + 2) qs) (sym one.jtab) (more.follow f.1));
      jtabs = ap (λ n. n ∷ map jtab_of qs) one.jtab ∙ ap (λ ns. jtab_of p ∷ ns) more.jtabs;
      bytes = ap (λ bs. bs ++ procedures_bytes (number + 1) qs) one.bytes ∙ ap (λ bs. procedure_bytes number p ++ bs) more.bytes;
      ends = ap (λ n. procedures_end (n + 2) qs) one.jtab ∙ more.ends;
      same = λ i. ap (λ p. p ∷ qs) (one.same i.0) ∙ ap (λ ps. p ∷ ps) (more.same i.1);
    }

-- The segment that is shown for `s` is valid and has the same bytes as `s`. The tables of its procedures are found.
pub record ShownWell (s : Segment) : Type 0 where
  pub segment : IsSegment (shown_segment s)
  pub same : IsSameSegment s (shown_segment s)
  pub found : AllFound (segment_bytes s) 1 s.procedures
  pub count : procedures_in (segment_bytes s) ≡ length s.procedures
  pub lines : tables_lines (segment_bytes s) 1 (procedures_in (segment_bytes s)) ≡ procedures_lines 1 (shown_segment s).procedures

pub shown_well : (s : Segment) → IsSegment s → length (segment_bytes s) ≤ 65534 → ShownWell s
shown_well s h short =
    let bytes : List ℕ = segment_bytes s in
    let ps : List Procedure = s.procedures in
    let end = procedures_end 0 ps in
    let last : List ℕ = s.number ∷ length ps ∷ [] in
    let stand : AllStand bytes 1 ps = all_stand bytes (dictionary_bytes end (reverse ps) ++ last) 0 1 ps
    (are_segment_bytes s h short) refl h.follow h.procedures in
    let count = count_there s h in
    let found : AllFound bytes 1 ps = all_found bytes last end 1 0 ps (dictionary_there s h) refl (omega (arith, count)) stand
    (tables_before 0 ps h.follow h.procedures) in
    let shown = are_shown_as bytes 1 0 ps stand in
    let qs : List Procedure = shown_from bytes 1 ps in
    let dictionary : dictionary_bytes (procedures_end 0 qs) (reverse qs) ≡ dictionary_bytes end (reverse ps) =
    dictionary_reversed (procedures_end 0 qs) qs
    ∙ ap (λ n. entry_bytes n (reverse (map jtab_of qs))) shown.ends
    ∙ ap (λ ns. entry_bytes end (reverse ns)) shown.jtabs
    ∙ sym (dictionary_reversed end ps) in
    record {
      segment = record {
        number = h.number;
        name = h.name;
        procedures = shown.procedures;
        few = omega (arith, shown.count, h.few);
        follow = shown.follow h.follow;
      };
      same = record {
        number = refl;
        name = refl;
        bytes = ap (λ bs. bs ++ (dictionary_bytes (procedures_end 0 qs) (reverse qs) ++ s.number ∷ length qs ∷ [])) shown.bytes
            ∙ ap (λ bs. procedures_bytes 1 ps ++ (bs ++ s.number ∷ length qs ∷ [])) dictionary
            ∙ ap (λ n. procedures_bytes 1 ps ++ (dictionary_bytes end (reverse ps) ++ s.number ∷ n ∷ [])) shown.count;
        same = λ i. ap (λ qs. record s { procedures = qs }) (shown.same i);
      };
      found = found;
      count = count;
      lines = ap (tables_lines bytes 1) count ∙ tables_shown bytes 1 ps stand found;
    }
