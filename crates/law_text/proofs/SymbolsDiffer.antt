-- Lemmas: no symbol of a text is printed twice.
use Rattle.std.proofs.Common.{◌≡◌, ◌<◌, ◌≤◌, ℕ, ◌+◌, Bool, true, false, List, [], ◌∷◌, ◌++◌, map, refl, sym, subst, arith, None}
use Rattle.std.specs.Prelude.{◌&&◌, nat_eq}
use Rattle.std.specs.List.{AllByRecursion, IsDistinct}
use Rattle.std.specs.Str.{bytes_eq}
use Rattle.std.proofs.lemmas.Bool.Decides.{nat_tests}
use Rattle.pm_source.proofs.Exactly.{said_is_faultless}
use Rattle.pm_source.specs.Faults.{source_end, source_of}
use Rattle.pm_source.specs.Meaning.{Spells}
use Rattle.pm_source.specs.Source.{AreSources, IsSource, Name, Row, Source, SourceSegment, labels_of}
use Rattle.pm_code.specs.Program.{Segment}
use Rattle.pm_asm.specs.Symbols.{Symbol, label_symbol, procedure_symbols, symbols, symbols_from}
use Rattle.law_text.specs.SymbolLaws.{is_same_label, is_same_symbol}

-- ---- lists

both_parts : {K : Type 0} (P : K → Type 0) (xs ys : List K) → AllByRecursion P xs → AllByRecursion P ys → AllByRecursion P (xs ++ ys)
both_parts P [] ys front back = back
both_parts P (x ∷ xs) ys front back = (front.0, both_parts P xs ys front.1 back)

-- The symbol `x` is different from all symbols in `ys`.
abbrev IsOther : List Symbol → Symbol → Type 0
IsOther ys x = AllByRecursion (λ y. is_same_symbol x y ≡ false) ys

distinct_parts : (xs ys : List Symbol) → IsDistinct is_same_symbol xs → IsDistinct is_same_symbol ys → AllByRecursion (IsOther ys) xs
    → IsDistinct is_same_symbol (xs ++ ys)
unfolding IsDistinct
distinct_parts [] ys front back others = back
distinct_parts (x ∷ xs) ys front back others =
    (both_parts (λ y. is_same_symbol x y ≡ false) xs ys front.0 others.0, distinct_parts xs ys front.1 back others.1)

-- ---- what distinguishes two symbols

first_differs : (a b c : Bool) → a ≡ false → (a && (b && c)) ≡ false
first_differs true b c h = cc
first_differs false b c h = refl

second_differs : (a b c : Bool) → b ≡ false → (a && (b && c)) ≡ false
second_differs true true c h = cc
second_differs true false c h = refl
second_differs false b c h = refl

third_differs : (a b c : Bool) → c ≡ false → (a && (b && c)) ≡ false
third_differs true true c h = h
third_differs true false c h = refl
third_differs false b c h = refl

below_differs : (m n : ℕ) → m < n → nat_eq m n ≡ false
below_differs m n h = grind (arith, nat_tests)

-- ---- one procedure

labels_differ : (segment n at : ℕ) (code : List Row) (name : Name) (names : List Name) → AllByRecursion (λ y. bytes_eq name y ≡ false) names
    → IsOther (map (label_symbol segment n at code) names) (label_symbol segment n at code name)
labels_differ segment n at code name [] h = tt
labels_differ segment n at code name (y ∷ names) h =
    (third_differs (nat_eq segment segment) (nat_eq n n) (bytes_eq name y) h.0, labels_differ segment n at code name names h.1)

labels_distinct : (segment n at : ℕ) (code : List Row) (names : List Name) → IsDistinct bytes_eq names
    → IsDistinct is_same_symbol (map (label_symbol segment n at code) names)
unfolding IsDistinct
labels_distinct segment n at code [] h = tt
labels_distinct segment n at code (name ∷ names) h = (labels_differ segment n at code name names h.0, labels_distinct segment n at code names h.1)

abbrev itself : ℕ → ℕ → Symbol
itself segment n = record { segment = segment; procedure = n; offset = 0; label = None }

itself_differs : (segment n at : ℕ) (code : List Row) (names : List Name) → IsOther (map (label_symbol segment n at code) names) (itself segment n)
itself_differs segment n at code [] = tt
itself_differs segment n at code (name ∷ names) =
    (third_differs (nat_eq segment segment) (nat_eq n n) false refl, itself_differs segment n at code names)

procedure_distinct : (segment n at : ℕ) (p : Source) → IsSource p → IsDistinct is_same_symbol (procedure_symbols segment n at p)
unfolding IsDistinct
procedure_distinct segment n at p h =
    (itself_differs segment n at p.code (labels_of p.code), labels_distinct segment n at p.code (labels_of p.code) h.labels)

-- ---- one segment

-- The symbol `x` belongs to the segment `segment`, and to a procedure with the number `n` or a greater number.
record IsFrom (segment n : ℕ) (x : Symbol) : Type 0 where
  owner : x.segment ≡ segment
  from : n ≤ x.procedure

labels_from : (segment n m at : ℕ) (code : List Row) (names : List Name) → m ≤ n
    → AllByRecursion (IsFrom segment m) (map (label_symbol segment n at code) names)
labels_from segment n m at code [] h = tt
labels_from segment n m at code (name ∷ names) h = (record { owner = refl; from = h }, labels_from segment n m at code names h)

all_from : (segment n m at : ℕ) (ps : List Source) → m ≤ n → AllByRecursion (IsFrom segment m) (symbols_from segment n at ps)
unfolding symbols_from
all_from segment n m at [] h = tt
all_from segment n m at (p ∷ ps) h =
    both_parts (IsFrom segment m) (procedure_symbols segment n at p) (symbols_from segment (n + 1) (source_end at p) ps)
    (record { owner = refl; from = h }, labels_from segment n m at p.code (labels_of p.code) h)
    (all_from segment (n + 1) m (source_end at p) ps (omega (arith, h)))

behind_differs : (segment n : ℕ) (x : Symbol) (ys : List Symbol) → x.procedure ≡ n → AllByRecursion (IsFrom segment (n + 1)) ys → IsOther ys x
behind_differs segment n x [] e h = tt
behind_differs segment n x (y ∷ ys) e h =
    let below : x.procedure < y.procedure = omega (arith, e, h.0.from) in (
      second_differs (nat_eq x.segment y.segment) (nat_eq x.procedure y.procedure) (is_same_label x.label y.label)
          (below_differs x.procedure y.procedure below),
      behind_differs segment n x ys e h.1,
    )

labels_before : (segment n at : ℕ) (code : List Row) (names : List Name) (ys : List Symbol) → AllByRecursion (IsFrom segment (n + 1)) ys
    → AllByRecursion (IsOther ys) (map (label_symbol segment n at code) names)
labels_before segment n at code [] ys h = tt
labels_before segment n at code (name ∷ names) ys h =
    (behind_differs segment n (label_symbol segment n at code name) ys refl h, labels_before segment n at code names ys h)

segment_distinct : (segment n at : ℕ) (ps : List Source) → AllByRecursion IsSource ps → IsDistinct is_same_symbol (symbols_from segment n at ps)
unfolding symbols_from IsDistinct
segment_distinct segment n at [] h = tt
segment_distinct segment n at (p ∷ ps) h =
    let rest : List Symbol = symbols_from segment (n + 1) (source_end at p) ps in
    let from : AllByRecursion (IsFrom segment (n + 1)) rest = all_from segment (n + 1) (n + 1) (source_end at p) ps (omega arith) in
    distinct_parts (procedure_symbols segment n at p) rest (procedure_distinct segment n at p h.0)
    (segment_distinct segment (n + 1) (source_end at p) ps h.1)
    (behind_differs segment n (itself segment n) rest refl from, labels_before segment n at p.code (labels_of p.code) rest from)

-- ---- the segments

-- The symbol belongs to another segment than `number`.
abbrev IsElsewhere : ℕ → Symbol → Type 0
IsElsewhere number y = nat_eq number y.segment ≡ false

elsewhere : (number segment : ℕ) (ys : List Symbol) → nat_eq number segment ≡ false → AllByRecursion (IsFrom segment 1) ys
    → AllByRecursion (IsElsewhere number) ys
elsewhere number segment [] e h = tt
elsewhere number segment (y ∷ ys) e h =
    (subst (λ k. nat_eq number k ≡ false) (sym h.0.owner) e, elsewhere number segment ys e h.1)

all_elsewhere : (number : ℕ) (ss : List SourceSegment) → AllByRecursion (λ k. nat_eq number k ≡ false) (map (λ s. s.number) ss)
    → AllByRecursion (IsElsewhere number) (symbols ss)
unfolding symbols
all_elsewhere number [] h = tt
all_elsewhere number (s ∷ ss) h =
    let own : List Symbol = symbols_from s.number 1 0 s.procedures in
    both_parts (IsElsewhere number) own (symbols ss)
    (elsewhere number s.number own h.0 (all_from s.number 1 1 0 s.procedures (omega arith))) (all_elsewhere number ss h.1)

apart_from : (number : ℕ) (x : Symbol) (ys : List Symbol) → x.segment ≡ number → AllByRecursion (IsElsewhere number) ys → IsOther ys x
apart_from number x [] e h = tt
apart_from number x (y ∷ ys) e h = (
  first_differs (nat_eq x.segment y.segment) (nat_eq x.procedure y.procedure) (is_same_label x.label y.label)
      (subst (λ k. nat_eq k y.segment ≡ false) (sym e) h.0),
  apart_from number x ys e h.1,
)

all_apart : (number : ℕ) (xs ys : List Symbol) → AllByRecursion (IsFrom number 1) xs → AllByRecursion (IsElsewhere number) ys
    → AllByRecursion (IsOther ys) xs
all_apart number [] ys f h = tt
all_apart number (x ∷ xs) ys f h = (apart_from number x ys f.0.owner h, all_apart number xs ys f.1 h)

symbols_distinct : (ss : List SourceSegment) → AreSources ss → IsDistinct is_same_symbol (symbols ss)
unfolding symbols IsDistinct
symbols_distinct [] h = tt
symbols_distinct (s ∷ ss) h =
    let own : List Symbol = symbols_from s.number 1 0 s.procedures in
    distinct_parts own (symbols ss) (segment_distinct s.number 1 0 s.procedures h.1.0) (symbols_distinct ss (h.0.1, h.1.1))
    (all_apart s.number own (symbols ss) (all_from s.number 1 1 0 s.procedures (omega arith)) (all_elsewhere s.number ss h.0.0))

-- If a text spells a program, then it has no symbol twice.
pub symbols_differ : (text : List ℕ) (p : List Segment) → Spells text p → IsDistinct is_same_symbol (symbols (source_of text))
symbols_differ text p h =
    let said = said_is_faultless text h.source h.said h.sound in
    symbols_distinct (source_of text) (subst AreSources (sym said.1) h.sound)
