-- Lemmas: the symbols of segments are exactly those of their procedures and labels.
use Rattle.std.proofs.Common.{◌≡◌, ◌⊎◌, ℕ, zero, suc, ◌+◌, ◌-◌, true, List, [], ◌∷◌, ◌++◌, ◌∙◌, ap, sym, subst, refl, inl, inr}
use Rattle.std.proofs.Common.{length, map, Option, Some, None, Ok, Err, arith}
use Rattle.std.specs.List.{Contains}
use Rattle.std.specs.Option.{unwrap_or}
use Rattle.std.specs.Str.{bytes_eq}
use Rattle.std.proofs.lemmas.Bool.{cases_Bool}
use Rattle.std.proofs.lemmas.List.Elements.{Contains-append_cases, Contains-append_left, Contains-append_right}
use Rattle.std.proofs.lemmas.Slice.Eq.{bytes_eq-Decides}
use Rattle.pm_code.specs.Program.{Procedure, end_of}
use Rattle.pm_source.proofs.Spelled.{spelled_is_faultless}
use Rattle.pm_source.specs.Faults.{place_of, source_end, source_of}
use Rattle.pm_source.specs.Meaning.{Spells, found_label, found_procedure, found_procedures, program_of}
use Rattle.pm_source.specs.Source.{Name, Row, Source, SourceSegment, labels_of}
use Rattle.pm_source.specs.Source.Row.{Exit, Items}
use Rattle.pm_asm.proofs.Outcomes.{assembled_is_spelled}
use Rattle.pm_asm.proofs.SymbolPlaces.{place_after}
use Rattle.pm_asm.specs.Assembled.{Assembles, Outcome, assembled}
use Rattle.pm_asm.specs.Symbols.{Symbol, label_symbol, procedure_symbols, symbol_lines, symbol_text, symbols, symbols_by, symbols_from}
use Rattle.law_text.proofs.SymbolsDiffer.{symbols_differ}
use Rattle.law_text.specs.SymbolLaws.{IsSymbolOf, StandsBehind, SymbolsAreDefined, SymbolsAreOfTheProgram}

-- ---- elements

here : {A : Type 0} (x : A) (xs : List A) → Contains (x ∷ xs) x
here x xs = (0, omega arith, refl)

further : {A : Type 0} (y x : A) (xs : List A) → Contains xs x → Contains (y ∷ xs) x
further y x xs h = Contains-append_right (y ∷ []) xs x h

one-only : {A : Type 0} (y x : A) → Contains (y ∷ []) x → y ≡ x
one-only y x (zero, below, is) = is
one-only y x (suc k, below, is) = absurd (omega arith)

none-there : {A : Type 0} (x : A) → Contains [] x → ⊥
none-there x (k, below, is) = omega arith

front-or-rest : {A : Type 0} (y x : A) (xs : List A) → Contains (y ∷ xs) x → (y ≡ x) ⊎ Contains xs x
front-or-rest y x xs h = elim (Contains-append_cases (y ∷ []) xs x h) [
  | inl first ↦ inl (one-only y x first)
  | inr rest ↦ inr rest
]

contains-map : {A B : Type 0} (f : A → B) (a : A) (xs : List A) → Contains xs a → Contains (map f xs) (f a)
contains-map f a [] h = absurd (none-there a h)
contains-map f a (x ∷ xs) h = elim (front-or-rest x a xs h) [
  | inl same ↦ subst (λ b. Contains (f x ∷ map f xs) (f b)) same (here (f x) (map f xs))
  | inr rest ↦ further (f x) (f a) (map f xs) (contains-map f a xs rest)
]

map-contains : {A B : Type 0} (f : A → B) (b : B) (xs : List A) → Contains (map f xs) b → (a : A) × Contains xs a × (f a ≡ b)
map-contains f b [] h = absurd (none-there b h)
map-contains f b (x ∷ xs) h = elim (front-or-rest (f x) b (map f xs) h) [
  | inl same ↦ (x, here x xs, same)
  | inr rest ↦ let more = map-contains f b xs rest in (more.0, further x more.0 xs more.1, more.2)
]

-- ---- labels

-- If a name is a label of the code, then it has an offset in the code.
placed : (rows : List Row) (at : ℕ) (name : Name) → Contains (labels_of rows) name → (place : ℕ) × (place_of at rows name ≡ Some place)
placed [] at name h = absurd (none-there name h)
placed (Exit ∷ rows) at name h = placed rows at name h
placed (Items line None items ∷ rows) at name h = placed rows (end_of at items) name h
placed (Items line (Some label) items ∷ rows) at name h = elim (cases_Bool (bytes_eq label name)) [
  | inl same ↦ rw same (at, refl)
  | inr other ↦
      elim (front-or-rest label name (labels_of rows) h) [
        | inl same ↦ let told : bytes_eq label name ≡ true = (bytes_eq-Decides label name).1 same in cc
        | inr rest ↦ rw other (placed rows (end_of at items) name rest)
      ]
]

-- If a name has an offset in the code, then it is a label of the code.
labelled : (rows : List Row) (at : ℕ) (name : Name) (place : ℕ) → place_of at rows name ≡ Some place → Contains (labels_of rows) name
labelled [] at name place h = cc
labelled (Exit ∷ rows) at name place h = labelled rows at name place h
labelled (Items line None items ∷ rows) at name place h = labelled rows (end_of at items) name place h
labelled (Items line (Some label) items ∷ rows) at name place h = elim (cases_Bool (bytes_eq label name)) [
  | inl same ↦ subst (λ n. Contains (label ∷ labels_of rows) n) ((bytes_eq-Decides label name).0 same) (here label (labels_of rows))
  | inr other ↦
      let rest : place_of (end_of at items) rows name ≡ Some place = rw other at h in
      further label name (labels_of rows) (labelled rows (end_of at items) name place rest)
]

-- ---- one procedure

-- The symbol `x` belongs to the procedure `p`, which has the number `procedure` in `segment` and begins at `start`.
record IsOf (segment procedure start : ℕ) (p : Source) (x : Symbol) : Type 0 where
  owner : x.segment ≡ segment
  number : x.procedure ≡ procedure
  stands : StandsBehind start p x.offset x.label

told : (segment procedure start : ℕ) (p : Source) (x : Symbol) → Contains (procedure_symbols segment procedure start p) x → IsOf segment procedure start p x
told segment procedure start p x h =
    elim (front-or-rest _ x (map (label_symbol segment procedure start p.code) (labels_of p.code)) h) [
      | inl same ↦ subst (IsOf segment procedure start p) same (record { owner = refl; number = refl; stands = refl })
      | inr rest ↦
          let label = map-contains (label_symbol segment procedure start p.code) x (labels_of p.code) rest in
          let place = placed p.code start label.0 label.1 in
          let above = place_after p.code start label.0 place.0 place.1 in
          let back : start + (found_label (place_of start p.code) label.0 - start) ≡ place.0 =
          ap (λ o. start + (unwrap_or o 0 - start)) place.1 ∙ omega (arith, above) in
          subst (IsOf segment procedure start p) label.2
          (record { owner = refl; number = refl; stands = place.1 ∙ ap Some (sym back) })
    ]

symbol-same : (s p o : ℕ) (l : Option Name) (x : Symbol) → s ≡ x.segment → p ≡ x.procedure → o ≡ x.offset → l ≡ x.label
    → record { segment = s; procedure = p; offset = o; label = l } ≡ x
symbol-same s p o l x segment procedure offset label = rw (segment, procedure, offset, label) refl

tells : (segment procedure start : ℕ) (p : Source) (x : Symbol) → IsOf segment procedure start p x → Contains (procedure_symbols segment procedure start p) x
tells segment procedure start p x h = by x.label refl h.stands
  where
    by : (label : Option Name) → x.label ≡ label → StandsBehind start p x.offset label → Contains (procedure_symbols segment procedure start p) x
    by None none stands =
        let labels : List Symbol = map (label_symbol segment procedure start p.code) (labels_of p.code) in
        let itself : Symbol = record { segment = segment; procedure = procedure; offset = 0; label = None } in
        let same : itself ≡ x = symbol-same segment procedure 0 None x (sym h.owner) (sym h.number) (sym stands) (sym none) in
        subst (λ y. Contains (itself ∷ labels) y) same (here itself labels)
    by (Some name) some stands =
        let f = label_symbol segment procedure start p.code in
        let offset : found_label (place_of start p.code) name - start ≡ x.offset = ap (λ o. unwrap_or o 0 - start) stands ∙ omega arith in
        let same : f name ≡ x =
        symbol-same segment procedure (found_label (place_of start p.code) name - start) (Some name) x (sym h.owner) (sym h.number) offset (sym some) in
        subst (λ y. Contains (procedure_symbols segment procedure start p) y) same
        (further _ (f name) (map f (labels_of p.code)) (contains-map f name (labels_of p.code) (labelled p.code start name (start + x.offset) stands)))

-- ---- the procedures of a segment

-- The symbol `x` belongs to one of the procedures `ps`, which are numbered from `n` on and begin at the offset `at`.
record IsAmong (segment n at : ℕ) (ps : List Source) (x : Symbol) : Type 0 where
  before : List Source
  procedure : Source
  after : List Source
  there : ps ≡ before ++ procedure ∷ after
  front : List Procedure
  found : Procedure
  back : List Procedure
  meant : found_procedures at ps ≡ front ++ found ∷ back
  as_many : length front ≡ length before
  is : IsOf segment (n + length before) found.start procedure x

among : (segment n at : ℕ) (ps : List Source) (x : Symbol) → Contains (symbols_from segment n at ps) x → IsAmong segment n at ps x
unfolding symbols_from
among segment n at [] x h = absurd (none-there x h)
among segment n at (p ∷ ps) x h =
    elim (Contains-append_cases (procedure_symbols segment n at p) (symbols_from segment (n + 1) (source_end at p) ps) x h) [
      | inl first ↦
          let own : n ≡ n + 0 = omega arith in
          record {
            before = [];
            procedure = p;
            after = ps;
            there = refl;
            front = [];
            found = found_procedure at p;
            back = found_procedures (source_end at p) ps;
            meant = refl;
            as_many = refl;
            is = subst (λ k. IsOf segment k at p x) own (told segment n at p x first);
          }
      | inr rest ↦
          let more = among segment (n + 1) (source_end at p) ps x rest in
          let next : n + 1 + length more.before ≡ n + (length more.before + 1) = omega arith in
          record {
            before = p ∷ more.before;
            procedure = more.procedure;
            after = more.after;
            there = ap (λ qs. p ∷ qs) more.there;
            front = found_procedure at p ∷ more.front;
            found = more.found;
            back = more.back;
            meant = ap (λ qs. found_procedure at p ∷ qs) more.meant;
            as_many = ap suc more.as_many;
            is = subst (λ k. IsOf segment k more.found.start more.procedure x) (omega arith) more.is;
          }
    ]

-- If a symbol belongs to the procedure `p` after the procedures `before`, then it is one of the symbols of all
-- procedures.
from_parts : (segment n at : ℕ) (before : List Source) (p : Source) (after : List Source) (front : List Procedure) (q : Procedure)
    (back : List Procedure) (x : Symbol)
    → found_procedures at (before ++ p ∷ after) ≡ front ++ q ∷ back → length front ≡ length before → IsOf segment (n + length before) q.start p x
    → Contains (symbols_from segment n at (before ++ p ∷ after)) x
unfolding symbols_from
from_parts segment n at [] p after [] q back x meant many is =
    let start : at ≡ q.start = cc in
    let own : n + 0 ≡ n = omega arith in
    let one : IsOf segment n at p x = subst (λ k. IsOf segment k at p x) own (subst (λ s. IsOf segment (n + 0) s p x) (sym start) is) in
    Contains-append_left (procedure_symbols segment n at p) (symbols_from segment (n + 1) (source_end at p) after) x (tells segment n at p x one)
from_parts segment n at [] p after (f ∷ front) q back x meant many is = absurd (omega (arith, many))
from_parts segment n at (b ∷ before) p after [] q back x meant many is = absurd (omega (arith, many))
from_parts segment n at (b ∷ before) p after (f ∷ front) q back x meant many is =
    let rest : found_procedures (source_end at b) (before ++ p ∷ after) ≡ front ++ q ∷ back = cc in
    Contains-append_right (procedure_symbols segment n at b) (symbols_from segment (n + 1) (source_end at b) (before ++ p ∷ after)) x
    (from_parts segment (n + 1) (source_end at b) before p after front q back x rest (omega (arith, many))
    (subst (λ k. IsOf segment k q.start p x) (omega arith) is))

-- ---- the segments

of_segment : (s : SourceSegment) (x : Symbol) → Contains (symbols_from s.number 1 0 s.procedures) x → IsSymbolOf s x
of_segment s x h =
    let a = among s.number 1 0 s.procedures x h in
    record {
      before = a.before;
      procedure = a.procedure;
      after = a.after;
      there = a.there;
      front = a.front;
      found = a.found;
      back = a.back;
      meant = a.meant;
      as_many = a.as_many;
      segment = a.is.owner;
      number = a.is.number ∙ omega arith;
      stands = a.is.stands;
    }

in_segment : (s : SourceSegment) (x : Symbol) → IsSymbolOf s x → Contains (symbols_from s.number 1 0 s.procedures) x
in_segment s x h =
    let meant : found_procedures 0 (h.before ++ h.procedure ∷ h.after) ≡ h.front ++ h.found ∷ h.back =
    ap (found_procedures 0) (sym h.there) ∙ h.meant in
    subst (λ ps. Contains (symbols_from s.number 1 0 ps) x) (sym h.there)
    (from_parts s.number 1 0 h.before h.procedure h.after h.front h.found h.back x meant h.as_many
    (record { owner = h.segment; number = h.number ∙ omega arith; stands = h.stands }))

defined : (ss : List SourceSegment) (x : Symbol) → Contains (symbols ss) x → (s : SourceSegment) × Contains ss s × IsSymbolOf s x
unfolding symbols
defined [] x h = absurd (none-there x h)
defined (s ∷ ss) x h = elim (Contains-append_cases (symbols_from s.number 1 0 s.procedures) (symbols ss) x h) [
  | inl first ↦ (s, here s ss, of_segment s x first)
  | inr rest ↦ let more = defined ss x rest in (more.0, further s more.0 ss more.1, more.2)
]

defines : (ss : List SourceSegment) (x : Symbol) (s : SourceSegment) → Contains ss s → IsSymbolOf s x → Contains (symbols ss) x
unfolding symbols
defines [] x s there h = absurd (none-there s there)
defines (t ∷ ss) x s there h = elim (front-or-rest t s ss there) [
  | inl same ↦
      Contains-append_left (symbols_from t.number 1 0 t.procedures) (symbols ss) x (in_segment t x (subst (λ u. IsSymbolOf u x) (sym same) h))
  | inr rest ↦ Contains-append_right (symbols_from t.number 1 0 t.procedures) (symbols ss) x (defines ss x s rest h)
]

pub symbols_are_defined : SymbolsAreDefined
symbols_are_defined ss x = (defined ss x, λ h. defines ss x h.0 h.1 h.2)

-- ---- the text

told_by : (text lines : List ℕ) (o : Outcome) → symbols_by text o ≡ Ok lines
    → (made : List ℕ × List ℕ) × (o ≡ Ok made) × (symbol_lines (symbols (source_of text)) ≡ lines)
told_by text lines (Ok made) h = (made, refl, cc)
told_by text lines (Err fault) h = cc

pub symbols_are_of_the_program : SymbolsAreOfTheProgram
unfolding symbol_text program_of
symbols_are_of_the_program text lines h =
    let parts = told_by text lines (assembled text) h in
    let a : Assembles text parts.0.0 parts.0.1 = (assembled_is_spelled text parts.0.0 parts.0.1).0 parts.1 in
    let same = (spelled_is_faultless text a.program a.spelled).1 in
    record {
      told = sym parts.2;
      once = symbols_differ text a.program a.spelled;
      spelled = subst (Spells text) (sym same) a.spelled;
    }
