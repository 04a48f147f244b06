-- Lemmas: a procedure is shown as a procedure with the same bytes.
use Rattle.std.proofs.Common.{◌≡◌, ◌≤◌, ℕ, zero, suc, ◌+◌, ◌-◌, ◌*◌, Bool, true, eqb, List, [], ◌∷◌, ◌++◌, length}
use Rattle.std.proofs.Common.{take, drop, reverse, refl, sym, ap, ◌∙◌, arith, append_assoc, length-append, drop-drop}
use Rattle.std.specs.Prelude.{◌&&◌, nat_le, ◌==◌}
use Rattle.std.specs.List.{list_all, AllByRecursion}
use Rattle.std.proofs.Math.Seq.{take-add, take-append_seam}
use Rattle.std.proofs.lemmas.List.{length-take, length-drop, length-reverse}
use Rattle.std.proofs.lemmas.Bool.{and_parts, leb-true, eqb-true, eq-eqb}
use Rattle.pm_opcode.specs.Spelling.{spelled_word}
use Rattle.pm_codefile.specs.Dictionary.{word_in}
use Rattle.pm_code.specs.Item.{IsByte}
use Rattle.pm_code.specs.Program.{Procedure, IsProcedure, IsIn, is_among, code_of, code_end, places_of, entry_bytes}
use Rattle.pm_code.specs.Program.{attribute_bytes, back_to, jtab_of, procedure_bytes, entries_needed}
use Rattle.pm_disasm.specs.Split.{entry_places, are_after, end_with, code_with, procedure_with, fits}
use Rattle.pm_disasm.specs.Laws.{StandsIn, attributes_of}
use Rattle.pm_code.proofs.Sizes.{length-code}
use Rattle.pm_disasm.proofs.Fronts.{take-bytes, drop-bytes}
use Rattle.pm_disasm.proofs.Joined.{Joins, code_joined}
use Rattle.law_text.proofs.Boundaries.{forced_written, jumps_written, or_right}
use Rattle.law_text.proofs.Again.{later}
use Rattle.pm_disasm.proofs.Stored.{entries_again, length-entry_places}
use Rattle.pm_code.proofs.Stored.{length-entry_bytes}
use Rattle.law_text.proofs.OwnCount.{code_there, behind_code, level_again}

-- The count `t` of entries satisfies the conditions under which the procedure `p` is shown with `t` entries.
pub record Counted (segment : List ℕ) (number : ℕ) (p : Procedure) (allowed : Bool) (t : ℕ) : Type 0 where
  pub room : p.start + 8 + 2 * t ≤ jtab_of p
  pub exit : p.exit ≤ end_with (attributes_of number p) t
  pub after : are_after segment p.start (jtab_of p) 0 t ≡ true
  pub within : AllByRecursion (λ place. place ≤ end_with (attributes_of number p) t) (entry_places segment (jtab_of p) 0 t)
  pub used : t ≡ entries_needed (procedure_with segment (attributes_of number p) allowed t).items

passed_below : (end : ℕ) (places : List ℕ) → list_all (λ place. nat_le place end) places ≡ true → AllByRecursion (λ place. place ≤ end) places
passed_below end [] h = tt
passed_below end (place ∷ places) h =
    let both = and_parts (nat_le place end) (list_all (λ place. nat_le place end) places) h in (leb-true _ _ both.0, passed_below end places both.1)

pub fits_counted : (segment : List ℕ) (number : ℕ) (p : Procedure) (t : ℕ) → fits segment (attributes_of number p) t ≡ true → Counted segment number p true t
fits_counted segment number p t h =
    let a = attributes_of number p in
    let q = procedure_with segment a true t in
    let last : Bool = t == entries_needed q.items in
    let below : Bool = list_all (λ place. nat_le place (end_with a t)) (p.exit ∷ q.entries) in
    let after : Bool = are_after segment p.start (jtab_of p) 0 t in
    let one = and_parts (nat_le (p.start + 8 + 2 * t) (jtab_of p)) (nat_le p.start p.exit && (after && (below && last))) h in
    let two = and_parts (nat_le p.start p.exit) (after && (below && last)) one.1 in
    let three = and_parts after (below && last) two.1 in
    let four = and_parts below last three.1 in
    let places = passed_below (end_with a t) (p.exit ∷ q.entries) four.0 in
    record { room = leb-true _ _ one.0; exit = places.0; after = three.0; within = places.1; used = eqb-true _ _ four.1 }

-- The segment has at least the bytes from the beginning of the procedure `p` to the end of the word at its JTAB.
long_enough : (segment : List ℕ) (number : ℕ) (p : Procedure) (s : StandsIn segment number p) → jtab_of p + 2 ≤ p.start + length (drop p.start segment)
long_enough segment number p s =
    let entries : List ℕ = entry_bytes (code_end p) (reverse p.entries) in
    omega (
      arith,
      ap length (code_there segment number p s),
      length-append (code_of p) (behind_code number p s.rest),
      length-append entries (attribute_bytes number p ++ s.rest),
      length-entry_bytes (code_end p) (reverse p.entries),
      length-reverse p.entries,
      length-code p.start p.items,
    )

-- If the procedure `p` is read with the count `t`, then its code ends at `end_with (attributes_of number p) t`.
taken_length : (segment : List ℕ) (number : ℕ) (p : Procedure) (t : ℕ) (s : StandsIn segment number p) → p.start + 8 + 2 * t ≤ jtab_of p
    → p.start + length (code_with segment (attributes_of number p) t) ≡ end_with (attributes_of number p) t
taken_length segment number p t s room =
    omega (arith, length-take (jtab_of p - 8 - 2 * t - p.start) (drop p.start segment), long_enough segment number p s, room)

-- In the segment, the code of the procedure `p` is followed by the bytes of its jump table entries.
front_there : (segment : List ℕ) (number : ℕ) (p : Procedure) (s : StandsIn segment number p)
    → take (jtab_of p - 8 - p.start) (drop p.start segment) ≡ code_of p ++ entry_bytes (code_end p) (reverse p.entries)
front_there segment number p s =
    let entries : List ℕ = entry_bytes (code_end p) (reverse p.entries) in
    let long : jtab_of p - 8 - p.start ≡ length (code_of p ++ entries) =
    omega (
      arith,
      length-append (code_of p) entries,
      length-entry_bytes (code_end p) (reverse p.entries),
      length-reverse p.entries,
      length-code p.start p.items,
    ) in
    let there : drop p.start segment ≡ (code_of p ++ entries) ++ (attribute_bytes number p ++ s.rest) =
    code_there segment number p s ∙ sym (append_assoc (code_of p) entries (attribute_bytes number p ++ s.rest)) in
    ap (λ n. take n (drop p.start segment)) long ∙ ap (take (length (code_of p ++ entries))) there
    ∙ take-append_seam (code_of p ++ entries) (attribute_bytes number p ++ s.rest)

after_all : (segment : List ℕ) (enter jtab k t : ℕ) → are_after segment enter jtab k t ≡ true
    → AllByRecursion (λ place. enter ≤ place) (entry_places segment jtab k t)
after_all segment enter jtab k zero h = tt
after_all segment enter jtab k (suc t) h =
    let at = jtab - 10 - 2 * k in
    let both = and_parts (nat_le (enter + word_in segment at) at) (are_after segment enter jtab (k + 1) t) h in
    (omega (arith, leb-true _ _ both.0), after_all segment enter jtab (k + 1) t both.1)

-- If each forced offset from `start` to `end` is in `bounds`, and `xs` consists of such offsets, then all offsets in
-- `xs` are in `bounds`.
all_bound : (forced bounds xs : List ℕ) (start end : ℕ) → ((place : ℕ) → IsIn forced place → start ≤ place → place ≤ end → IsIn bounds place)
    → ((place : ℕ) → IsIn xs place → IsIn forced place) → AllByRecursion (λ place. start ≤ place) xs → AllByRecursion (λ place. place ≤ end) xs
    → AllByRecursion (IsIn bounds) xs
all_bound forced bounds [] start end f sub low high = tt
all_bound forced bounds (x ∷ xs) start end f sub low high =
    let first : IsIn (x ∷ xs) x = (let t : eqb x x ≡ true = eq-eqb x x refl in rw t refl) in
    (f x (sub x first) low.0 high.0, all_bound forced bounds xs start end f (λ place i. sub place (or_right (eqb x place) (is_among xs place) i)) low.1 high.1)

-- The procedure `q` is valid, and has the same JTAB and the same bytes as `p`.
pub record SameBytes (number : ℕ) (p q : Procedure) : Type 0 where
  pub procedure : IsProcedure q
  pub jtab : jtab_of q ≡ jtab_of p
  pub bytes : procedure_bytes number q ≡ procedure_bytes number p

pub counted_shown : (segment : List ℕ) (number : ℕ) (p : Procedure) (allowed : Bool) (t : ℕ) → StandsIn segment number p → Counted segment number p allowed t
    → SameBytes number p (procedure_with segment (attributes_of number p) allowed t)
counted_shown segment number p allowed t s c =
    let a = attributes_of number p in
    let q = procedure_with segment a allowed t in
    let forced : List ℕ = p.exit ∷ q.entries in
    let code : List ℕ = code_with segment a t in
    let end : ℕ = end_with a t in
    let h = s.procedure in
    let are_bytes : AllByRecursion IsByte code = take-bytes (end - p.start) (drop p.start segment) (drop-bytes p.start segment s.bytes) in
    let joins : Joins p.start code q.items = code_joined forced allowed p.start code are_bytes in
    let length_of : p.start + length code ≡ end = taken_length segment number p t s c.room in
    let ends : code_end q ≡ end = joins.ends ∙ length_of in
    let count : length q.entries ≡ t = length-entry_places segment (jtab_of p) 0 t in
    let bounds : (place : ℕ) → IsIn forced place → p.start ≤ place → place ≤ end → IsIn (places_of q) place =
    λ place i low high. forced_written forced allowed p.start code place are_bytes i low (omega (arith, high, length_of)) in
    let self : eqb p.exit p.exit ≡ true = eq-eqb p.exit p.exit refl in
    let jtab : jtab_of q ≡ jtab_of p = omega (arith, ends, count, c.room) in
    let level : q.level ≡ p.level = level_again p.level h.level in
    let attributes : attribute_bytes number q ≡ attribute_bytes number p =
    ap (λ j. spelled_word p.locals ++ (spelled_word p.parameters ++ (back_to (j - 4) p.exit ++ (back_to (j - 2) p.start ++ number ∷ q.level ∷ [])))) jtab
    ∙ ap (λ l. spelled_word p.locals ++ (spelled_word p.parameters
    ++ (back_to (jtab_of p - 4) p.exit ++ (back_to (jtab_of p - 2) p.start ++ number ∷ l ∷ [])))) level in
    let entries : entry_bytes (code_end q) (reverse q.entries) ≡ take (2 * t) (drop end segment) =
    ap (λ n. entry_bytes n (reverse q.entries)) ends
    ∙ entries_again segment p.start end (jtab_of p) 0 t (omega (arith, c.room))
    (omega (arith, long_enough segment number p s, length-drop p.start segment)) s.bytes c.after in
    let from : drop end segment ≡ drop (end - p.start) (drop p.start segment) =
    ap (λ n. drop n segment) (omega (arith, c.room)) ∙ sym (drop-drop (end - p.start) p.start segment) in
    let front : code_of q ++ entry_bytes (code_end q) (reverse q.entries) ≡ code_of p ++ entry_bytes (code_end p) (reverse p.entries) =
    ap (λ bs. bs ++ entry_bytes (code_end q) (reverse q.entries)) joins.joined
    ∙ ap (λ bs. code ++ bs) (entries ∙ ap (take (2 * t)) from)
    ∙ sym (take-add (end - p.start) (2 * t) (drop p.start segment))
    ∙ ap (λ n. take n (drop p.start segment)) (omega (arith, c.room))
    ∙ front_there segment number p s in
    record {
      procedure = record {
        level = omega (arith, level, h.level);
        parameters = h.parameters;
        locals = h.locals;
        items = joins.sound;
        jumps = jumps_written forced allowed p.start code are_bytes;
        exit = bounds p.exit (rw self refl) (later p.start p.items p.exit h.exit) c.exit;
        entries = all_bound forced (places_of q) q.entries p.start end bounds (λ place i. or_right (eqb p.exit place) (is_among q.entries place) i)
            (after_all segment p.start (jtab_of p) 0 t c.after) c.within;
        used = count ∙ c.used;
        begins = h.begins;
        ends = omega (arith, ends, h.ends, c.room);
      };
      jtab = jtab;
      bytes = sym (append_assoc (code_of q) (entry_bytes (code_end q) (reverse q.entries)) (attribute_bytes number q))
          ∙ ap (λ bs. bs ++ attribute_bytes number q) front
          ∙ ap (λ bs. (code_of p ++ entry_bytes (code_end p) (reverse p.entries)) ++ bs) attributes
          ∙ append_assoc (code_of p) (entry_bytes (code_end p) (reverse p.entries)) (attribute_bytes number p);
    }
