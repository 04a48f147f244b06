-- Lemmas about the offsets of the procedures of a segment and of its dictionary.
use Rattle.std.proofs.Common.{◌≡◌, ◌<◌, ◌≤◌, ℕ, ◌+◌, ◌-◌, ◌*◌, List, [], ◌∷◌, ◌++◌, length, map, reverse, refl, sym, ap, ◌∙◌, subst, arith, length-append}
use Rattle.std.specs.List.{AllByRecursion}
use Rattle.std.proofs.lemmas.List.{length-reverse, map-append, reverse-append}
use Rattle.pm_opcode.specs.Spelling.{spelled_word}
use Rattle.pm_code.specs.Program.{Procedure, Segment, IsProcedure, IsSegment, FollowFrom, attribute_bytes, back_to, code_end, code_of, dictionary_bytes}
use Rattle.pm_code.specs.Program.{entry_bytes, jtab_of, procedure_bytes, procedures_bytes, procedures_end, segment_bytes}
use Rattle.pm_code.proofs.Sizes.{length-code}
use Rattle.pm_code.proofs.Stored.{length-entry_bytes}
use Rattle.pm_code.proofs.ItemBytes.{AreBytes, join_bytes, word_bytes, are_code_bytes, are_entry_bytes}

pub length-procedure : (number : ℕ) (p : Procedure) → p.start + length (procedure_bytes number p) ≡ jtab_of p + 2
length-procedure number p =
    let entries : List ℕ = entry_bytes (code_end p) (reverse p.entries) in
    omega (
      arith,
      length-append (code_of p) (entries ++ attribute_bytes number p),
      length-append entries (attribute_bytes number p),
      length-entry_bytes (code_end p) (reverse p.entries),
      length-reverse p.entries,
      length-code p.start p.items,
    )

pub length-procedures : (at number : ℕ) (ps : List Procedure) → FollowFrom at ps → at + length (procedures_bytes number ps) ≡ procedures_end at ps
length-procedures at number [] h = omega arith
length-procedures at number (p ∷ ps) h =
    omega (
      arith,
      h.0,
      length-append (procedure_bytes number p) (procedures_bytes (number + 1) ps),
      length-procedure number p,
      length-procedures (jtab_of p + 2) (number + 1) ps h.1,
    )

-- The bytes of a dictionary are those of a jump table whose entries lead to the attribute tables of the procedures.
pub dictionary_entries : (at : ℕ) (ps : List Procedure) → dictionary_bytes at ps ≡ entry_bytes at (map jtab_of ps)
dictionary_entries at [] = refl
dictionary_entries at (p ∷ ps) = ap (λ bs. back_to at (jtab_of p) ++ bs) (dictionary_entries (at + 2) ps)

pub length-jtabs : (ps : List Procedure) → length (map jtab_of ps) ≡ length ps
length-jtabs [] = refl
length-jtabs (p ∷ ps) = omega (arith, length-jtabs ps)

map-reverse : (ps : List Procedure) → map jtab_of (reverse ps) ≡ reverse (map jtab_of ps)
map-reverse [] = refl
map-reverse (p ∷ ps) =
    ap (map jtab_of) (reverse-append (p ∷ []) ps)
    ∙ map-append jtab_of (reverse ps) (p ∷ [])
    ∙ ap (λ ns. ns ++ jtab_of p ∷ []) (map-reverse ps)
    ∙ sym (reverse-append (jtab_of p ∷ []) (map jtab_of ps))

pub dictionary_reversed : (at : ℕ) (ps : List Procedure) → dictionary_bytes at (reverse ps) ≡ entry_bytes at (reverse (map jtab_of ps))
dictionary_reversed at ps = dictionary_entries at (reverse ps) ∙ ap (entry_bytes at) (map-reverse ps)

-- If the procedures follow one another from offset `at`, then they end at `at` or later.
pub ends_later : (at : ℕ) (ps : List Procedure) → FollowFrom at ps → AllByRecursion IsProcedure ps → at ≤ procedures_end at ps
ends_later at [] h k = omega arith
ends_later at (p ∷ ps) h k = omega (arith, h.0, length-code p.start p.items, ends_later (jtab_of p + 2) ps h.1 k.1)

pub tables_before : (at : ℕ) (ps : List Procedure) → FollowFrom at ps → AllByRecursion IsProcedure ps
    → AllByRecursion (λ p. jtab_of p + 2 ≤ procedures_end at ps) ps
tables_before at [] h k = tt
tables_before at (p ∷ ps) h k = (ends_later (jtab_of p + 2) ps h.1 k.1, tables_before (jtab_of p + 2) ps h.1 k.1)

-- If `p` is a procedure, `number` is below 256 and the offset `jtab_of p` is at most 65,536, then each byte of `p` is
-- below 256.
pub are_procedure_bytes : (number : ℕ) (p : Procedure) → IsProcedure p → number < 256 → jtab_of p ≤ 65536 → AreBytes (procedure_bytes number p)
are_procedure_bytes number p h n short =
    let entries : List ℕ = entry_bytes (code_end p) (reverse p.entries) in
    let last : List ℕ = number ∷ p.level ∷ [] in
    let exit : List ℕ = back_to (jtab_of p - 4) p.exit in
    let start : List ℕ = back_to (jtab_of p - 2) p.start in
    join_bytes (code_of p) (entries ++ attribute_bytes number p) (are_code_bytes p.start p.items h.items)
    (join_bytes entries (attribute_bytes number p) (are_entry_bytes (code_end p) (reverse p.entries) (omega (arith, length-reverse p.entries, short)))
    (join_bytes (spelled_word p.locals) (spelled_word p.parameters ++ (exit ++ (start ++ last))) (word_bytes p.locals h.locals.0)
    (join_bytes (spelled_word p.parameters) (exit ++ (start ++ last)) (word_bytes p.parameters h.parameters.0)
    (join_bytes exit (start ++ last) (word_bytes (jtab_of p - 4 - p.exit) (omega (arith, short)))
    (join_bytes start last (word_bytes (jtab_of p - 2 - p.start) (omega (arith, short))) (n, (h.level, tt)))))))

are_procedures_bytes : (number end : ℕ) (ps : List Procedure) → AllByRecursion IsProcedure ps → number + length ps ≤ 256 → end ≤ 65536
    → AllByRecursion (λ p. jtab_of p + 2 ≤ end) ps → AreBytes (procedures_bytes number ps)
are_procedures_bytes number end [] h n e b = tt
are_procedures_bytes number end (p ∷ ps) h n e b =
    join_bytes (procedure_bytes number p) (procedures_bytes (number + 1) ps) (are_procedure_bytes number p h.0 (omega (arith, n)) (omega (arith, b.0, e)))
    (are_procedures_bytes (number + 1) end ps h.1 (omega (arith, n)) e b.1)

-- If the procedures of `s` follow one another, then this is the size of segment `s`.
pub length-followed : (s : Segment) → FollowFrom 0 s.procedures
    → length (segment_bytes s) ≡ procedures_end 0 s.procedures + 2 * length s.procedures + 2
length-followed s h =
    let end = procedures_end 0 s.procedures in
    let entries : List ℕ = entry_bytes end (reverse (map jtab_of s.procedures)) in
    let last : List ℕ = s.number ∷ length s.procedures ∷ [] in
    ap (λ bs. length (procedures_bytes 1 s.procedures ++ (bs ++ last))) (dictionary_reversed end s.procedures)
    ∙ omega (
      arith,
      length-append (procedures_bytes 1 s.procedures) (entries ++ last),
      length-append entries last,
      length-entry_bytes end (reverse (map jtab_of s.procedures)),
      length-reverse (map jtab_of s.procedures),
      length-jtabs s.procedures,
      length-procedures 0 1 s.procedures h,
    )

-- The size of segment `s` is the offset of its dictionary, plus a word for each procedure and one more word.
pub length-segment : (s : Segment) → IsSegment s → length (segment_bytes s) ≡ procedures_end 0 s.procedures + 2 * length s.procedures + 2
length-segment s h = length-followed s h.follow

-- If the segment `s` has at most 65,534 bytes, then each of its bytes is below 256.
pub are_segment_bytes : (s : Segment) → IsSegment s → length (segment_bytes s) ≤ 65534 → AreBytes (segment_bytes s)
are_segment_bytes s h short =
    let end = procedures_end 0 s.procedures in
    let entries : List ℕ = entry_bytes end (reverse (map jtab_of s.procedures)) in
    let last : List ℕ = s.number ∷ length s.procedures ∷ [] in
    let long = length-segment s h in
    subst (λ bs. AreBytes (procedures_bytes 1 s.procedures ++ (bs ++ last))) (sym (dictionary_reversed end s.procedures))
    (join_bytes (procedures_bytes 1 s.procedures) (entries ++ last)
    (are_procedures_bytes 1 end s.procedures h.procedures (omega (arith, h.few)) (omega (arith, long, short))
    (tables_before 0 s.procedures h.follow h.procedures))
    (join_bytes entries last (are_entry_bytes end (reverse (map jtab_of s.procedures))
    (omega (arith, length-reverse (map jtab_of s.procedures), length-jtabs s.procedures, long, short)))
    (omega (arith, h.number), (h.few, tt))))
