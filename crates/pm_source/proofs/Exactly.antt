-- The lines of a text have no faults if and only if they state the statements of sound segments.
use Rattle.std.proofs.Common.{◌≡◌, ℕ, ◌+◌, Bool, true, false, List, [], ◌∷◌, ◌++◌, map, refl, sym, ap, subst, ◌∙◌, append_assoc, Option, Some, None}
use Rattle.std.specs.Prelude.{◌||◌, is_some, nat_eq}
use Rattle.std.specs.List.{list_any, IsDistinct}
use Rattle.pm_source.specs.Source.{Row, Statement, Source, SourceSegment, head_statements, entry_statement, statements_from, statements, AreSources}
use Rattle.pm_source.specs.Source.Statement.{Segment, Begin, Code, Entry, End}
use Rattle.pm_source.specs.Faults.{Reading, start, is_begin, is_end, lines_of, source_of}
use Rattle.pm_source.specs.Meaning.{AreSaid}
use Rattle.pm_source.specs.Laws.{FaultlessIsSaid, SaidIsFaultless}
use Rattle.pm_source.proofs.Fit.{AreFit, AllEnd, after_all, taken_in}
use Rattle.pm_source.proofs.Complete.{append_nil, program_fits}
use Rattle.pm_source.proofs.Sound.{Reads, reads}
use Rattle.pm_source.proofs.Lines.{Clean, clean, SaysFit, says_fit}
use Rattle.pm_source.proofs.Ranged.{said_ranges}

abbrev with : List SourceSegment → Option Source → Reading
with segments current = record { segments = segments; current = current }

closed_at_end : (segments : List SourceSegment) (current : Option Source) (said : List Statement) → AreFit (with segments current) said
    → (is_some current ≡ true → list_any is_end said ≡ true) → AllEnd said → (after_all (with segments current) said).current ≡ None
closed_at_end segments None [] f h e = refl
closed_at_end segments (Some p) [] f h e = absurd (let k : false ≡ true = h refl in cc)
closed_at_end segments None (Segment n name ∷ said) f h e = closed_at_end _ None said f.1 (λ k. absurd (let l : false ≡ true = k in cc)) e.1
closed_at_end segments None (Begin n level parameters locals ∷ said) f h e = closed_at_end segments (Some _) said f.1 (λ k. e.0 refl) e.1
closed_at_end segments None (Code row ∷ said) f h e = absurd (let k : false ≡ true = f.0.in_place in cc)
closed_at_end segments None (Entry line name ∷ said) f h e = absurd (let k : false ≡ true = f.0.in_place in cc)
closed_at_end segments None (End ∷ said) f h e = absurd (let k : false ≡ true = f.0.in_place in cc)
closed_at_end segments (Some p) (Segment n name ∷ said) f h e = absurd (let k : false ≡ true = f.0.in_place in cc)
closed_at_end segments (Some p) (Begin n level parameters locals ∷ said) f h e = absurd (let k : false ≡ true = f.0.in_place in cc)
closed_at_end segments (Some p) (Code row ∷ said) f h e = closed_at_end segments (Some _) said f.1 h e.1
closed_at_end segments (Some p) (Entry line name ∷ said) f h e = closed_at_end segments (Some _) said f.1 h e.1
closed_at_end segments (Some p) (End ∷ said) f h e = closed_at_end _ None said f.1 (λ k. absurd (let l : false ≡ true = k in cc)) e.1

-- If no procedure is open, then the statements read so far are the statements of the complete segments.
closed_reading : (r : Reading) (said : List Statement) → taken_in r ≡ said → r.current ≡ None → statements r.segments ≡ said
closed_reading r said e c = closing r.current c e
  where
    closing : (current : Option Source) → current ≡ None → taken_in (with r.segments current) ≡ said → statements r.segments ≡ said
    closing None c e = sym (append_nil (statements r.segments)) ∙ e
    closing (Some p) c e = absurd (cc)

none_distinct : IsDistinct nat_eq []
unfolding IsDistinct
none_distinct = tt

pub faultless_is_said : FaultlessIsSaid
faultless_is_said text e =
    let s : SaysFit start (lines_of text) = says_fit 1 start (lines_of text) e in
    let r : Reads start s.said = reads start s.said (said_ranges text s.said s.are_said) (record { finished = (none_distinct, tt); begun = tt }) s.fit in
    let end : (after_all start s.said).current ≡ None = closed_at_end [] None s.said s.fit (λ k. absurd (let l : false ≡ true = k in cc)) s.all_end in
    let all : statements (after_all start s.said).segments ≡ s.said = closed_reading (after_all start s.said) s.said r.more end in
    let same : source_of text ≡ (after_all start s.said).segments = ap (λ q. q.segments) s.same in
    (subst (AreSaid (lines_of text)) (sym (ap statements same ∙ all)) s.are_said, subst AreSources (sym same) r.sound.finished)

-- If a list has no statement that begins a procedure, then appending statements whose procedures all end gives a list
-- whose procedures all end.
no_begin : (xs ys : List Statement) → list_any is_begin xs ≡ false → AllEnd ys → AllEnd (xs ++ ys)
no_begin [] ys h k = k
no_begin (x ∷ xs) ys h k = (λ b. absurd (contradict (is_begin x) b h), no_begin xs ys (rest (is_begin x) h) k)
  where
    contradict : (a : Bool) → a ≡ true → (a || list_any is_begin xs) ≡ false → ⊥
    contradict true b e = cc
    contradict false b e = cc

    rest : (a : Bool) → (a || list_any is_begin xs) ≡ false → list_any is_begin xs ≡ false
    rest true e = absurd (cc)
    rest false e = e

any_append : (xs ys : List Statement) → list_any is_end ys ≡ true → list_any is_end (xs ++ ys) ≡ true
any_append [] ys h = h
any_append (x ∷ xs) ys h = more (is_end x) (any_append xs ys h)
  where
    more : (a : Bool) → list_any is_end (xs ++ ys) ≡ true → (a || list_any is_end (xs ++ ys)) ≡ true
    more true e = refl
    more false e = e

body_begins : (p : Source) → list_any is_begin (map Code p.code ++ map entry_statement p.entries) ≡ false
body_begins p = rows p.code
  where
    entries : (es : List (ℕ × List ℕ)) → list_any is_begin (map entry_statement es) ≡ false
    entries [] = refl
    entries (e ∷ es) = entries es

    rows : (rs : List Row) → list_any is_begin (map Code rs ++ map entry_statement p.entries) ≡ false
    rows [] = entries p.entries
    rows (r ∷ rs) = rows rs

procedures_end : (n : ℕ) (ps : List Source) (ys : List Statement) → AllEnd ys → AllEnd (statements_from n ps ++ ys)
procedures_end n [] ys k = k
procedures_end n (p ∷ ps) ys k =
    let body : List Statement = map Code p.code ++ map entry_statement p.entries in
    let rest : List Statement = End ∷ (statements_from (n + 1) ps ++ ys) in
    let tail : AllEnd rest = (λ b. absurd (let l : false ≡ true = b in cc), procedures_end (n + 1) ps ys k) in
    let whole : AllEnd (Begin n p.level p.parameters p.locals ∷ body ++ rest) = (λ b. any_append body rest refl, no_begin body rest (body_begins p) tail) in
    subst AllEnd (sym (append_assoc (head_statements n p) (End ∷ statements_from (n + 1) ps) ys)) whole

program_ends : (ss : List SourceSegment) → AllEnd (statements ss)
program_ends [] = tt
program_ends (s ∷ ss) = (λ b. absurd (let l : false ≡ true = b in cc), procedures_end 1 s.procedures (statements ss) (program_ends ss))

pub said_is_faultless : SaidIsFaultless
said_is_faultless text source h k =
    let f = program_fits source k in
    let c : Clean 1 start (lines_of text) (statements source) = clean 1 start (lines_of text) (statements source) h f.0 (program_ends source) in
    (c.faults, ap (λ q. q.segments) (c.same ∙ f.1))
