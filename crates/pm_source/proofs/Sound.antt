-- If statements are read without a fault, then the segments are sound, and the statements are those of the segments.
use Rattle.std.proofs.Common.{◌≡◌, ◌<◌, ◌≤◌, ℕ, ◌+◌, ◌%◌, Bool, true, false, eqb, not, List, [], ◌∷◌, ◌++◌, length}
use Rattle.std.proofs.Common.{map, refl, sym, ap, subst, ◌∙◌, arith, append_assoc, Option, Some, None}
use Rattle.std.specs.Prelude.{◌&&◌, ◌||◌, ◌==◌, nat_eq, nat_lt}
use Rattle.std.specs.List.{list_any, AllByRecursion, IsDistinct}
use Rattle.std.specs.Str.{bytes_eq}
use Rattle.std.proofs.lemmas.Bool.{eq-eqb, eqb-true, lt-ltb}
use Rattle.pm_source.specs.Source.{Name, Row, Statement, Source, SourceSegment, head_statements, entry_statement, statements_from}
use Rattle.pm_source.specs.Source.{segment_statements, statements, labels_of, exits_of, code_end, entries_used, IsSource}
use Rattle.pm_source.specs.Source.Row.{Items, Exit}
use Rattle.pm_source.specs.Source.Statement.{Segment, Begin, Code, Entry, End}
use Rattle.pm_source.specs.Words.{is_empty}
use Rattle.pm_source.specs.Faults.{Reading, with_procedure, procedure_count, after}
use Rattle.pm_source.proofs.Fit.{IsFit, AreFit, after_all, taken_in, IsSound}
use Rattle.pm_source.proofs.Ranged.{IsRanged}
use Rattle.pm_source.proofs.Complete.{append_nil, statements_append, labels_append, map_append, exits_append, any_number, has_exit_is, has_label_is}

-- If the items of a list are distinct and `y` differs from all of them, then the list followed by `y` has distinct
-- items.
distinct_push : {K : Type 0} (eq : K → K → Bool) (xs : List K) (y : K) → IsDistinct eq xs → list_any (λ x. eq x y) xs ≡ false → IsDistinct eq (xs ++ y ∷ [])
unfolding IsDistinct
distinct_push eq [] y d h = (tt, tt)
distinct_push eq (x ∷ xs) y d h = let parts = split (eq x y) (list_any (λ z. eq z y) xs) h in (push xs d.0 parts.0, distinct_push eq xs y d.1 parts.1)
  where
    push : (zs : List _) → AllByRecursion (λ z. eq x z ≡ false) zs → eq x y ≡ false → AllByRecursion (λ z. eq x z ≡ false) (zs ++ y ∷ [])
    push [] a e = (e, tt)
    push (z ∷ zs) a e = (a.0, push zs a.1 e)

    split : (a b : Bool) → (a || b) ≡ false → (a ≡ false) × (b ≡ false)
    split true b e = absurd (cc)
    split false b e = (refl, e)

-- States what reading the statement `s` in the state `r` preserves: the state is sound, and `s` is appended to the
-- statements.
record Steps (r : Reading) (s : Statement) : Type 0 where
  sound : IsSound (after r s)
  more : taken_in (after r s) ≡ taken_in r ++ s ∷ []

abbrev with : List SourceSegment → Option Source → Reading
with segments current = record { segments = segments; current = current }

pub all_append : {A : Type 0} (P : A → Type 0) (xs ys : List A) → AllByRecursion P xs → AllByRecursion P ys → AllByRecursion P (xs ++ ys)
all_append P [] ys h k = k
all_append P (x ∷ xs) ys h k = (h.0, all_append P xs ys h.1 k)

-- If `a` is true and `a && b` is false, then `b` is false.
behind : (a b : Bool) → a ≡ true → (a && b) ≡ false → b ≡ false
behind true b e f = f
behind false b e f = absurd (cc)

segment_step : (segments : List SourceSegment) (n : ℕ) (name : Name) → n < 16 → IsSound (with segments None) → IsFit (with segments None) (Segment n name)
    → Steps (with segments None) (Segment n name)
segment_step segments n name small h f =
    let other : list_any (λ s. s.number == n) segments ≡ false = behind (nat_lt n 16) _ (lt-ltb n 16 small) f.new in
    let new : SourceSegment = record { number = n; name = name; procedures = [] } in
    let numbers : IsDistinct nat_eq (map (λ s. s.number) segments ++ n ∷ []) =
    distinct_push nat_eq (map (λ s. s.number) segments) n h.finished.0 (sym (any_number segments n) ∙ other) in
    record {
      sound = record {
        finished = (
          subst (IsDistinct nat_eq) (sym (map_append (λ s. s.number) segments (new ∷ []))) numbers,
          all_append (λ s. AllByRecursion IsSource s.procedures) segments (new ∷ []) h.finished.1 (tt, tt),
        );
        begun = tt;
      };
      more = append_nil (statements (segments ++ new ∷ [])) ∙ statements_append segments (new ∷ [])
          ∙ ap (λ ss. ss ++ Segment n name ∷ []) (sym (append_nil (statements segments)));
    }

none_distinct : IsDistinct bytes_eq []
unfolding IsDistinct
none_distinct = tt

begin_step : (segments : List SourceSegment) (n level parameters locals : ℕ) → IsSound (with segments None)
    → IsFit (with segments None) (Begin n level parameters locals) → Steps (with segments None) (Begin n level parameters locals)
begin_step segments n level parameters locals h f =
    let same : n ≡ procedure_count segments + 1 = equal (eqb n (procedure_count segments + 1)) refl f.counted in
    record {
      sound = record { finished = h.finished; begun = (none_distinct, omega arith, some (is_empty segments) refl f.in_place) };
      more = ap (λ k. statements segments ++ Begin k level parameters locals ∷ []) (sym same)
          ∙ ap (λ ss. ss ++ Begin n level parameters locals ∷ []) (sym (append_nil (statements segments)));
    }
  where
    equal : (b : Bool) → eqb n (procedure_count segments + 1) ≡ b → not b ≡ false → n ≡ procedure_count segments + 1
    equal true e t = eqb-true _ _ e
    equal false e t = absurd (cc)

    some : (b : Bool) → is_empty segments ≡ b → (true && not b) ≡ true → is_empty segments ≡ false
    some true e t = absurd (cc)
    some false e t = e

empty_list : {A : Type 0} (xs : List A) → is_empty xs ≡ true → xs ≡ []
empty_list [] h = refl
empty_list (x ∷ xs) h = absurd (cc)

code_more : (segments : List SourceSegment) (p : Source) (row : Row) → p.entries ≡ []
    → taken_in (after (with segments (Some p)) (Code row)) ≡ taken_in (with segments (Some p)) ++ Code row ∷ []
code_more segments p row e =
    let n : ℕ = procedure_count segments + 1 in
    let before : head_statements n p ≡ Begin n p.level p.parameters p.locals ∷ map Code p.code =
    ap (λ es. Begin n p.level p.parameters p.locals ∷ map Code p.code ++ map entry_statement es) e
    ∙ ap (λ ss. Begin n p.level p.parameters p.locals ∷ ss) (append_nil (map Code p.code)) in
    let behind : head_statements n (record p { code = p.code ++ row ∷ [] }) ≡ head_statements n p ++ Code row ∷ [] =
    ap (λ es. Begin n p.level p.parameters p.locals ∷ map Code (p.code ++ row ∷ []) ++ map entry_statement es) e
    ∙ ap (λ ss. Begin n p.level p.parameters p.locals ∷ ss) (append_nil (map Code (p.code ++ row ∷ [])) ∙ map_append Code p.code (row ∷ []))
    ∙ ap (λ ss. ss ++ Code row ∷ []) (sym before) in
    ap (λ ss. statements segments ++ ss) behind ∙ sym (append_assoc (statements segments) (head_statements n p) (Code row ∷ []))

code_step : (segments : List SourceSegment) (p : Source) (row : Row) → IsSound (with segments (Some p)) → IsFit (with segments (Some p)) (Code row)
    → Steps (with segments (Some p)) (Code row)
code_step segments p row h f = record {
  sound = record { finished = h.finished; begun = (marks row f, exits row f, h.begun.2) };
  more = code_more segments p row (empty_list p.entries f.in_place);
}
  where
    marks : (row : Row) → IsFit (with segments (Some p)) (Code row) → IsDistinct bytes_eq (labels_of (p.code ++ row ∷ []))
    marks (Items line None items) f = subst (IsDistinct bytes_eq) (sym
        (labels_append p.code (Items line None items ∷ []) ∙ append_nil (labels_of p.code))) h.begun.0
    marks (Items line (Some label) items) f = subst (IsDistinct bytes_eq) (sym (labels_append p.code (Items line (Some label) items ∷ [])))
        (distinct_push bytes_eq (labels_of p.code) label h.begun.0 (sym (has_label_is label p.code) ∙ f.new))
    marks Exit f = subst (IsDistinct bytes_eq) (sym (labels_append p.code (Exit ∷ []) ∙ append_nil (labels_of p.code))) h.begun.0

    none : (b : Bool) → eqb (exits_of p.code) 0 ≡ b → not b ≡ false → exits_of p.code ≡ 0
    none true e t = eqb-true _ _ e
    none false e t = absurd (cc)

    exits : (row : Row) → IsFit (with segments (Some p)) (Code row) → exits_of (p.code ++ row ∷ []) ≤ 1
    exits (Items line label items) f = omega (arith, exits_append p.code (Items line label items ∷ []), h.begun.1)
    exits Exit f = omega (arith, exits_append p.code (Exit ∷ []), none (eqb (exits_of p.code) 0) refl (sym (has_exit_is p.code) ∙ f.new))

entry_step : (segments : List SourceSegment) (p : Source) (line : ℕ) (name : Name) → IsSound (with segments (Some p))
    → Steps (with segments (Some p)) (Entry line name)
entry_step segments p line name h =
    let n : ℕ = procedure_count segments + 1 in
    let behind : head_statements n (record p { entries = p.entries ++ (line, name) ∷ [] }) ≡ head_statements n p ++ Entry line name ∷ [] =
    ap (λ ss. Begin n p.level p.parameters p.locals ∷ ss) (ap (λ ss. map Code p.code ++ ss) (map_append entry_statement p.entries ((line, name) ∷ []))
    ∙ sym (append_assoc (map Code p.code) (map entry_statement p.entries) (Entry line name ∷ []))) in
    record {
      sound = record { finished = h.finished; begun = h.begun };
      more = ap (λ ss. statements segments ++ ss) behind ∙ sym (append_assoc (statements segments) (head_statements n p) (Entry line name ∷ []));
    }

from_push : (n : ℕ) (ps : List Source) (p : Source) (m : ℕ) → m ≡ n + length ps
    → statements_from n (ps ++ p ∷ []) ≡ statements_from n ps ++ (head_statements m p ++ End ∷ [])
from_push n [] p m e = ap (λ k. head_statements k p ++ End ∷ []) (omega arith)
from_push n (q ∷ ps) p m e =
    ap (λ ss. head_statements n q ++ End ∷ ss) (from_push (n + 1) ps p m (omega arith))
    ∙ sym (append_assoc (head_statements n q) (End ∷ statements_from (n + 1) ps) (head_statements m p ++ End ∷ []))

closed_more : (s : SourceSegment) (ss : List SourceSegment) (p : Source)
    → statements (with_procedure p (s ∷ ss)) ≡ statements (s ∷ ss) ++ (head_statements (procedure_count (s ∷ ss) + 1) p ++ End ∷ [])
closed_more s [] p =
    let last : List Statement = head_statements (length s.procedures + 1) p ++ End ∷ [] in
    append_nil (segment_statements (record s { procedures = s.procedures ++ p ∷ [] }))
    ∙ ap (λ ss. Segment s.number s.name ∷ ss) (from_push 1 s.procedures p (length s.procedures + 1) (omega arith))
    ∙ ap (λ ss. ss ++ last) (sym (append_nil (segment_statements s)))
closed_more s (t ∷ ss) p =
    ap (λ xs. segment_statements s ++ xs) (closed_more t ss p)
    ∙ sym (append_assoc (segment_statements s) (statements (t ∷ ss)) (head_statements (procedure_count (t ∷ ss) + 1) p ++ End ∷ []))

closed_numbers : (ss : List SourceSegment) (p : Source) → map (λ s. s.number) (with_procedure p ss) ≡ map (λ s. s.number) ss
closed_numbers [] p = refl
closed_numbers (s ∷ []) p = refl
closed_numbers (s ∷ t ∷ ss) p = ap (λ ns. s.number ∷ ns) (closed_numbers (t ∷ ss) p)

abbrev Finished : SourceSegment → Type 0
Finished s = AllByRecursion IsSource s.procedures

closed_finished : (ss : List SourceSegment) (p : Source) → AllByRecursion Finished ss → IsSource p → AllByRecursion Finished (with_procedure p ss)
closed_finished [] p h i = tt
closed_finished (s ∷ []) p h i = (all_append IsSource s.procedures (p ∷ []) h.0 (i, tt), tt)
closed_finished (s ∷ t ∷ ss) p h i = (h.0, closed_finished (t ∷ ss) p h.1 i)

end_more : (ss : List SourceSegment) (p : Source) → is_empty ss ≡ false → taken_in (with (with_procedure p ss) None) ≡ taken_in (with ss (Some p)) ++ End ∷ []
end_more [] p e = absurd (cc)
end_more (s ∷ ss) p e =
    append_nil (statements (with_procedure p (s ∷ ss))) ∙ closed_more s ss p
    ∙ sym (append_assoc (statements (s ∷ ss)) (head_statements (procedure_count (s ∷ ss) + 1) p) (End ∷ []))

end_step : (segments : List SourceSegment) (p : Source) → IsSound (with segments (Some p)) → IsFit (with segments (Some p)) End
    → Steps (with segments (Some p)) End
end_step segments p h f =
    let tests = neither (not (eqb (code_end 0 p.code % 2) 0)) (not (eqb (length p.entries) (entries_used p.code))) f.counted in
    let whole : IsSource p = record {
      labels = h.begun.0;
      exit = let some : exits_of p.code ≡ 0 → ⊥ = λ e. never (eqb (exits_of p.code) 0) (eq-eqb _ _ e) (sym (has_exit_is p.code) ∙ f.in_place) in omega
          (arith, h.begun.1, some);
      even = equal (eqb (code_end 0 p.code % 2) 0) (code_end 0 p.code % 2) 0 refl tests.0;
      used = equal (eqb (length p.entries) (entries_used p.code)) (length p.entries) (entries_used p.code) refl tests.1;
    } in
    record {
      sound = record {
        finished = (subst (IsDistinct nat_eq) (sym (closed_numbers segments p)) h.finished.0, closed_finished segments p h.finished.1 whole);
        begun = tt;
      };
      more = end_more segments p h.begun.2;
    }
  where
    neither : (a b : Bool) → (a || b) ≡ false → (a ≡ false) × (b ≡ false)
    neither true b e = absurd (cc)
    neither false b e = (refl, e)

    equal : (b : Bool) (m n : ℕ) → eqb m n ≡ b → not b ≡ false → m ≡ n
    equal true m n e t = eqb-true _ _ e
    equal false m n e t = absurd (cc)

    never : (b : Bool) → b ≡ true → not b ≡ true → ⊥
    never true e f = cc
    never false e f = cc

step : (segments : List SourceSegment) (current : Option Source) (s : Statement) → IsRanged s → IsSound (with segments current)
    → IsFit (with segments current) s → Steps (with segments current) s
step segments None (Segment n name) i h f = segment_step segments n name i.0 h f
step segments None (Begin n level parameters locals) i h f = begin_step segments n level parameters locals h f
step segments None (Code row) i h f = absurd (let e : false ≡ true = f.in_place in cc)
step segments None (Entry line name) i h f = absurd (let e : false ≡ true = f.in_place in cc)
step segments None End i h f = absurd (let e : false ≡ true = f.in_place in cc)
step segments (Some p) (Segment n name) i h f = absurd (let e : false ≡ true = f.in_place in cc)
step segments (Some p) (Begin n level parameters locals) i h f = absurd (let e : false ≡ true = f.in_place in cc)
step segments (Some p) (Code row) i h f = code_step segments p row h f
step segments (Some p) (Entry line name) i h f = entry_step segments p line name h
step segments (Some p) End i h f = end_step segments p h f

-- States what reading the statements `said` preserves: the state is sound, and `said` is appended to the statements.
pub record Reads (r : Reading) (said : List Statement) : Type 0 where
  pub sound : IsSound (after_all r said)
  pub more : taken_in (after_all r said) ≡ taken_in r ++ said

pub reads : (r : Reading) (said : List Statement) → AllByRecursion IsRanged said → IsSound r → AreFit r said → Reads r said
reads r [] i h f = record { sound = h; more = sym (append_nil (taken_in r)) }
reads r (s ∷ said) i h f =
    let one : Steps r s = step r.segments r.current s i.0 h f.0 in
    let rest : Reads (after r s) said = reads (after r s) said i.1 one.sound f.1 in
    record { sound = rest.sound; more = rest.more ∙ ap (λ ss. ss ++ said) one.more ∙ append_assoc (taken_in r) (s ∷ []) said }
