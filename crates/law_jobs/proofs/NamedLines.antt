-- Lemmas: the notes after the lines of a text have no meaning.
use Rattle.std.proofs.Common.{◌≡◌, ℕ, zero, suc, ◌+◌, ◌-◌, ◌*◌, Bool, true, false, List, [], ◌∷◌, ◌++◌, length, map, take, drop}
use Rattle.std.proofs.Common.{refl, sym, ap, subst, ◌∙◌, arith, Option, None, Some, append_assoc, append-nil}
use Rattle.std.specs.Prelude.{◌==◌, ◌&&◌, ◌||◌, codes, if◌then◌else◌, is_some, not, slice_index}
use Rattle.std.specs.Fmt.{decimal}
use Rattle.std.specs.List.{list_all, slice_split, onto_first}
use Rattle.std.specs.Map.{lookup}
use Rattle.std.specs.Option.{option_and_then, option_or}
use Rattle.std.specs.Str.{bytes_eq}
use Rattle.std.specs.Str.Lines.{lines_of_parts, strip_carriage_return}
use Rattle.std.proofs.Math.Dec.{eqb-suc-zero}
use Rattle.std.proofs.lemmas.Bool.Decides.{nat_tests}
use Rattle.std.proofs.lemmas.List.{take-append-drop}
use Rattle.std.proofs.lemmas.List.Folds.{list_all-append}
use Rattle.std.proofs.lemmas.Slice.Eq.{bytes_eq-Decides}
use Rattle.pm_codefile.specs.declared.file.Slot.{Slot}
use Rattle.pm_codefile.specs.Dictionary.{slot_in}
use Rattle.pm_codefile.specs.Segments.{◌>>=◌}
use Rattle.pm_disasm.specs.Shown.{file_text}
use Rattle.pm_notes.specs.Lines.{comment, named_from, named_line, with_names}
use Rattle.pm_notes.specs.Marks.{is_native, is_unquoted, kind_name, kind_names, kind_told, native_note, note_on, notes_joined}
use Rattle.pm_notes.specs.Marks.{number_before_blank, number_note, other_number, slot_note, slot_said}
use Rattle.pm_notes.specs.Names.{behind, is_digit, name_called, number_in}
use Rattle.pm_notes.specs.Names.{standard_called, standard_name, standard_names, system_called, system_name, system_names}
use Rattle.law_text.proofs.Unquoted.{decimal_unquoted, may_stand}
use Rattle.pm_source.specs.Faults.{after_lines, all_label_faults, faults, faults_from, lines_from, lines_of, start}
use Rattle.pm_source.specs.Line.{is_character, line_of}
use Rattle.pm_source.specs.Meaning.{ascending, found_segment, program_of}
use Rattle.law_text.specs.Same.{is_open}
use Rattle.pm_source.specs.Words.{is_empty}
use Rattle.law_text.proofs.Cutting.{and_parts}
use Rattle.law_text.proofs.EndBlanks.{end_blank_says_nothing}
use Rattle.law_text.proofs.SameLines.{comment_says_nothing}
use Rattle.pm_source.specs.declared.fault.AsmFault.{AsmFault}
use Rattle.pm_reader.specs.Firsts.{first_of}
use Rattle.pm_asm.specs.Assembled.{assembled, outcome_by, outcome_of}
use Rattle.pm_asm.specs.Lengths.{first_long}
use Rattle.law_jobs.specs.RoundTrip.{NamedIsShownAgain, NamesSayNothing}
use Rattle.law_jobs.proofs.ShownAgain.{assembled_is_shown_again}

-- ---- names are characters

abbrev are_characters : List (ℕ × List ℕ) → Bool
are_characters rows = list_all (λ row. list_all is_character row.1) rows

looked_up : (n : ℕ) (rows : List (ℕ × List ℕ)) (name : List ℕ) → are_characters rows ≡ true
    → lookup (λ m. m == n) rows ≡ Some name → list_all is_character name ≡ true
looked_up n [] name h e = cc
looked_up n (row ∷ rows) name h e = by (row.0 == n) (λ k. looked_up n rows name (and_parts _ _ h).1 k) e
  where
    by : (b : Bool) → (lookup (λ m. m == n) rows ≡ Some name → list_all is_character name ≡ true)
        → (if b then Some row.1 else lookup (λ m. m == n) rows) ≡ Some name → list_all is_character name ≡ true
    by true more e = let named : row.1 ≡ name = cc in subst (λ s. list_all is_character s ≡ true) named (and_parts _ _ h).0
    by false more e = more e

standard_rows : are_characters standard_names ≡ true
unfolding standard_names
standard_rows = refl

standard_good : (n : ℕ) (name : List ℕ) → standard_name n ≡ Some name → list_all is_character name ≡ true
unfolding standard_name
standard_good n name e = looked_up n standard_names name standard_rows e

system_rows : are_characters system_names ≡ true
unfolding system_names
system_rows = refl

system_good : (n : ℕ) (name : List ℕ) → system_name n ≡ Some name → list_all is_character name ≡ true
unfolding system_name
system_good n name e = looked_up n system_names name system_rows e

kind_rows : are_characters kind_names ≡ true
unfolding kind_names
kind_rows = refl

kind_good : (n : ℕ) (name : List ℕ) → kind_name n ≡ Some name → list_all is_character name ≡ true
unfolding kind_name
kind_good n name e = looked_up n kind_names name kind_rows e

-- ---- a line that calls a procedure with a name

-- Quotes are closed after `line`, and all characters of `line` and of the note are valid.
record IsNoted (line name : List ℕ) : Type 0 where
  closed : is_open false line ≡ false
  good : list_all is_character line ≡ true
  named : list_all is_character name ≡ true

digit_good : (d : ℕ) → is_digit d ≡ true → (is_character d ≡ true) × ((d == 34) ≡ false)
digit_good d h = (grind (arith, nat_tests), grind (arith, nat_tests))

-- Quotes are closed after `digits`, and all characters of `digits` are valid.
record AreGood (digits : List ℕ) : Type 0 where
  closed : is_open false digits ≡ false
  good : list_all is_character digits ≡ true

digits_good : (digits : List ℕ) (n : ℕ) → number_in digits ≡ Some n → AreGood digits
digits_good [] n e = cc
digits_good (d ∷ []) n e = by (is_digit d) refl e
  where
    by : (b : Bool) → is_digit d ≡ b → (if b then Some (d - 48) else None) ≡ Some n → AreGood (d ∷ [])
    by false t e = absurd (cc)
    by true t e = let g = digit_good d t in record { closed = rw g.1 refl; good = rw g.0 refl }
digits_good (c ∷ d ∷ []) n e = by (is_digit c) (is_digit d) refl refl e
  where
    by : (a b : Bool) → is_digit c ≡ a → is_digit d ≡ b → (if a && b then Some (10 * (c - 48) + (d - 48)) else None) ≡ Some n
        → AreGood (c ∷ d ∷ [])
    by false b s t e = absurd (cc)
    by true false s t e = absurd (cc)
    by true true s t e = let f = digit_good c s in let g = digit_good d t in
        record { closed = rw (f.1, g.1) refl; good = rw (f.0, g.0) refl }
digits_good (c ∷ d ∷ x ∷ xs) n e = cc

behind_is : (front line rest : List ℕ) → behind front line ≡ Some rest → line ≡ front ++ rest
behind_is front line rest e = by (bytes_eq (take (length front) line) front) refl e
  where
    by : (b : Bool) → bytes_eq (take (length front) line) front ≡ b → (if b then Some (drop (length front) line) else None) ≡ Some rest
        → line ≡ front ++ rest
    by false t e = absurd (cc)
    by true t e =
        let first : take (length front) line ≡ front = (bytes_eq-Decides (take (length front) line) front).0 t in
        let last : drop (length front) line ≡ rest = cc in
        sym (take-append-drop (length front) line) ∙ ap (λ f. f ++ drop (length front) line) first ∙ ap (λ r. front ++ r) last

called : (front line : List ℕ) (name_of : ℕ → Option (List ℕ)) (name : List ℕ)
    → is_open false front ≡ false → list_all is_character front ≡ true
    → ((n : ℕ) → name_of n ≡ Some name → list_all is_character name ≡ true)
    → ((digits : List ℕ) → AreGood digits → AreGood (front ++ digits))
    → option_and_then name_of (option_and_then number_in (behind front line)) ≡ Some name → IsNoted line name
called front line name_of name closed good names joins e = by (behind front line) refl e
  where
    of : (digits : List ℕ) (o : Option ℕ) → line ≡ front ++ digits → number_in digits ≡ o → option_and_then name_of o ≡ Some name → IsNoted line name
    of digits None l t e = absurd (cc)
    of digits (Some n) l t e =
        let g : AreGood (front ++ digits) = joins digits (digits_good digits n t) in
        record {
          closed = subst (λ x. is_open false x ≡ false) (sym l) g.closed;
          good = subst (λ x. list_all is_character x ≡ true) (sym l) g.good;
          named = names n e;
        }

    by : (o : Option (List ℕ)) → behind front line ≡ o → option_and_then name_of (option_and_then number_in o) ≡ Some name → IsNoted line name
    by None b e = absurd (cc)
    by (Some digits) b e = of digits (number_in digits) (behind_is front line digits b) refl e

call : (line name : List ℕ) → name_called line ≡ Some name → IsNoted line name
unfolding name_called standard_called system_called
call line name e = by (standard_called line) refl e
  where
    by : (o : Option (List ℕ)) → standard_called line ≡ o → option_or o (system_called line) ≡ Some name → IsNoted line name
    by None s e =
        called (codes "  CXP 0, ") line system_name name refl refl (λ n t. system_good n name t)
        (λ digits g. record { closed = g.closed; good = g.good }) e
    by (Some found) s e =
        called (codes "  CSP ") line standard_name name refl refl (λ n t. standard_good n name t)
        (λ digits g. record { closed = g.closed; good = g.good }) (s ∙ e)

-- ---- a line of a segment, or of native code

-- Quotes are closed after `line`, and all characters of `line` are valid.
record IsPlain (line : List ℕ) : Type 0 where
  closed : is_open false line ≡ false
  good : list_all is_character line ≡ true

plain : (line : List ℕ) → is_unquoted line ≡ true → IsPlain line
plain [] h = record { closed = refl; good = refl }
plain (c ∷ line) h =
    let parts = and_parts (may_stand c) (is_unquoted line) h in
    let rest : IsPlain line = plain line parts.1 in
    let first = one c parts.0 in
    record { closed = rw (first.1) rest.closed; good = rw (first.0) rest.good }
  where
    one : (c : ℕ) → may_stand c ≡ true → (is_character c ≡ true) × ((c == 34) ≡ false)
    one c h = (grind (arith, nat_tests), grind (arith, nat_tests))

number_good : (n : ℕ) → list_all is_character (number_note n) ≡ true
number_good n =
    list_all-append is_character (codes "number ") (decimal n ++ codes " in its highest word")
    ∙ (list_all-append is_character (decimal n) (codes " in its highest word") ∙ rw ((plain (decimal n) (decimal_unquoted n)).good) refl)

joined_good : (number : Option ℕ) (kind : Option (List ℕ)) (note : List ℕ)
    → ((name : List ℕ) → kind ≡ Some name → list_all is_character name ≡ true) → notes_joined number kind ≡ Some note
    → list_all is_character note ≡ true
joined_good None kind note h e = h note e
joined_good (Some n) None note h e = let same : number_note n ≡ note = cc in subst (λ s. list_all is_character s ≡ true) same (number_good n)
joined_good (Some n) (Some name) note h e =
    let same : number_note n ++ (codes ", " ++ name) ≡ note = cc in
    let good : list_all is_character (number_note n ++ (codes ", " ++ name)) ≡ true =
    list_all-append is_character (number_note n) (codes ", " ++ name) ∙ rw (number_good n) (h name refl) in
    subst (λ s. list_all is_character s ≡ true) same good

told_good : (file : List ℕ) (n : ℕ) (name : List ℕ) → kind_told file n ≡ Some name → list_all is_character name ≡ true
unfolding kind_told
told_good file n name e = by (slot_in file n) e
  where
    by : (o : Option Slot) → (o >>= λ slot. kind_name slot.kind) ≡ Some name → list_all is_character name ≡ true
    by None e = absurd (cc)
    by (Some slot) e = kind_good slot.kind name e

slot_good : (file : List ℕ) (n : ℕ) (note : List ℕ) → slot_note file n ≡ Some note → list_all is_character note ≡ true
slot_good file n note e = joined_good (other_number file n) (kind_told file n) note (told_good file n) e

slot_plain : (line : List ℕ) (n : ℕ) → slot_said line ≡ Some n → IsPlain line
unfolding slot_said
slot_plain line n e = by (behind (codes ".SEG ") line) e
  where
    of : (text : List ℕ) (b : Bool) → is_unquoted line ≡ b → (if b then number_before_blank text else None) ≡ Some n → IsPlain line
    of text true h e = plain line h
    of text false h e = absurd (cc)

    by : (o : Option (List ℕ)) → (o >>= λ text. if is_unquoted line then number_before_blank text else None) ≡ Some n → IsPlain line
    by None e = absurd (cc)
    by (Some text) e = of text (is_unquoted line) refl e

native_plain : (line : List ℕ) → is_native line ≡ true → IsPlain line
unfolding is_native
native_plain line e = by (bytes_eq line (codes "; procedure 0")) refl e
  where
    by : (b : Bool) → bytes_eq line (codes "; procedure 0") ≡ b
        → (b || (is_some (behind (codes ".PROC 0 ") line) && is_unquoted line)) ≡ true → IsPlain line
    by true t e =
        let same : line ≡ codes "; procedure 0" = (bytes_eq-Decides line (codes "; procedure 0")).0 t in
        subst IsPlain (sym same) (record { closed = refl; good = refl })
    by false t e = plain line (and_parts (is_some (behind (codes ".PROC 0 ") line)) (is_unquoted line) e).1

-- ---- a line with a note

noted : (file line note : List ℕ) → note_on file line ≡ Some note → IsNoted line note
unfolding note_on
noted file line note e = by (name_called line) refl e
  where
    of_slot : (o : Option ℕ) → slot_said line ≡ o → option_and_then (slot_note file) o ≡ Some note → IsNoted line note
    of_slot None s e = absurd (cc)
    of_slot (Some n) s e =
        let p : IsPlain line = slot_plain line n s in
        record { closed = p.closed; good = p.good; named = slot_good file n note e }

    of_native : (b : Bool) → is_native line ≡ b
        → option_or (if b then Some (codes "native code") else None) (option_and_then (slot_note file) (slot_said line)) ≡ Some note
        → IsNoted line note
    of_native true t e =
        let p : IsPlain line = native_plain line t in
        let same : codes "native code" ≡ note = cc in
        record { closed = p.closed; good = p.good; named = subst (λ s. list_all is_character s ≡ true) same refl }
    of_native false t e = of_slot (slot_said line) refl e

    by : (o : Option (List ℕ)) → name_called line ≡ o
        → option_or o (option_or (native_note line) (option_and_then (slot_note file) (slot_said line))) ≡ Some note → IsNoted line note
    by None s e = of_native (is_native line) refl e
    by (Some name) s e = call line note (s ∙ e)

-- ---- a line has the same meaning with its note

no_return : (l : List ℕ) (i : ℕ) → list_all is_character l ≡ true → (slice_index l i == 13) ≡ false
no_return [] i h = refl
no_return (c ∷ l) zero h = one c (and_parts _ _ h).0
  where
    one : (c : ℕ) → is_character c ≡ true → (c == 13) ≡ false
    one c h = grind (arith, nat_tests)
no_return (c ∷ l) (suc i) h = no_return l i (and_parts _ _ h).1

stripped : (l : List ℕ) → list_all is_character l ≡ true → strip_carriage_return l ≡ l
stripped l h = let none = no_return l (length l - 1) h in rw none refl

-- Returns `line` with the note `name`.
abbrev commented : List ℕ → List ℕ → List ℕ
commented line name = line ++ (codes " ; " ++ name)

still_closed : (quoted : Bool) (line : List ℕ) → is_open quoted line ≡ false → is_open quoted (line ++ 32 ∷ []) ≡ false
still_closed quoted [] h = h
still_closed quoted (c ∷ line) h = still_closed (if c == 34 then not quoted else quoted) line h

all_good : (line name : List ℕ) → IsNoted line name → list_all is_character (commented line name) ≡ true
all_good line name c = list_all-append is_character line (codes " ; " ++ name) ∙ rw (c.good) c.named

same_commented : (n : ℕ) (line name : List ℕ) → IsNoted line name → line_of n (commented line name) ≡ line_of n line
same_commented n line name c =
    ap (line_of n) (sym (append_assoc line (32 ∷ []) (59 ∷ 32 ∷ name)))
    ∙ comment_says_nothing n (line ++ 32 ∷ []) (32 ∷ name) (still_closed false line c.closed) (rw c.named refl)
    ∙ end_blank_says_nothing n 32 line refl

-- `line` has the same meaning with and without its note, whether or not it ends with a carriage return.
record SaysSame (file line : List ℕ) : Type 0 where
  whole : (n : ℕ) → line_of n (named_line file line) ≡ line_of n line
  ended : (n : ℕ) → line_of n (strip_carriage_return (named_line file line)) ≡ line_of n (strip_carriage_return line)

says_same : (file line : List ℕ) → SaysSame file line
unfolding named_line
says_same file line = by (note_on file line) refl
  where
    by : (o : Option (List ℕ)) → note_on file line ≡ o → SaysSame file line
    by None e =
        let same : line ++ comment (note_on file line) ≡ line = ap (λ o. line ++ comment o) e ∙ append-nil line in
        record { whole = λ n. ap (line_of n) same; ended = λ n. ap (λ l. line_of n (strip_carriage_return l)) same }
    by (Some name) e =
        let c : IsNoted line name = noted file line name e in
        let same : line ++ comment (note_on file line) ≡ commented line name = ap (λ o. line ++ comment o) e in
        record {
          whole = λ n. ap (line_of n) same ∙ same_commented n line name c;
          ended = λ n.
              ap (λ l. line_of n (strip_carriage_return l)) same
              ∙ ap (line_of n) (stripped (commented line name) (all_good line name c))
              ∙ same_commented n line name c
              ∙ sym (ap (line_of n) (stripped line c.good));
        }

none_named : (file : List ℕ) → named_line file [] ≡ []
unfolding named_line note_on name_called standard_called system_called is_native slot_said
none_named file = refl

some_named : (file : List ℕ) (c : ℕ) (cs : List ℕ) → (length (named_line file (c ∷ cs)) == 0) ≡ false
unfolding named_line
some_named file c cs = eqb-suc-zero (length (cs ++ comment (note_on file (c ∷ cs))))

one_line : (n : ℕ) (l : List ℕ) → (length l == 0) ≡ false → lines_from n (lines_of_parts (l ∷ [])) ≡ line_of n l ∷ []
one_line n l h = rw h refl

same_lines : (file : List ℕ) (n : ℕ) (parts : List (List ℕ)) → lines_from n (lines_of_parts (map (named_line file) parts)) ≡ lines_from n (lines_of_parts parts)
same_lines file n [] = refl
same_lines file n ([] ∷ []) = ap (λ l. lines_from n (lines_of_parts (l ∷ []))) (none_named file)
same_lines file n ((c ∷ cs) ∷ []) =
    one_line n (named_line file (c ∷ cs)) (some_named file c cs)
    ∙ ap (λ l. l ∷ []) ((says_same file (c ∷ cs)).whole n)
    ∙ sym (one_line n (c ∷ cs) (eqb-suc-zero (length cs)))
same_lines file n (x ∷ y ∷ more) =
    ap (λ l. l ∷ lines_from (n + 1) (lines_of_parts (map (named_line file) (y ∷ more)))) ((says_same file x).ended n)
    ∙ ap (λ ls. line_of n (strip_carriage_return x) ∷ ls) (same_lines file (n + 1) (y ∷ more))

-- ---- the parts of a text with notes

abbrev no_feed : List ℕ → Bool
no_feed line = list_all (λ c. not (c == 10)) line

abbrev parts : List ℕ → List (List ℕ)
parts cs = slice_split (λ b. b == 10) cs

one_part : (l rest : List ℕ) → no_feed l ≡ true → parts (l ++ (10 ∷ rest)) ≡ l ∷ parts rest
one_part [] rest h = refl
one_part (c ∷ l) rest h = by (c == 10) (and_parts _ _ h).0 (one_part l rest (and_parts _ _ h).1)
  where
    by : (b : Bool) → not b ≡ true → parts (l ++ (10 ∷ rest)) ≡ l ∷ parts rest
        → (if b then [] ∷ parts (l ++ (10 ∷ rest)) else onto_first c (parts (l ++ (10 ∷ rest)))) ≡ (c ∷ l) ∷ parts rest
    by true t more = absurd (cc)
    by false t more = ap (onto_first c) more

last_part : (l : List ℕ) → no_feed l ≡ true → parts l ≡ l ∷ []
last_part [] h = refl
last_part (c ∷ l) h = by (c == 10) (and_parts _ _ h).0 (last_part l (and_parts _ _ h).1)
  where
    by : (b : Bool) → not b ≡ true → parts l ≡ l ∷ [] → (if b then [] ∷ parts l else onto_first c (parts l)) ≡ (c ∷ l) ∷ []
    by true t more = absurd (cc)
    by false t more = ap (onto_first c) more

no_feed_character : (c : ℕ) → is_character c ≡ true → (c == 10) ≡ false
no_feed_character c h = grind (arith, nat_tests)

feedless : (l : List ℕ) → list_all is_character l ≡ true → no_feed l ≡ true
feedless [] h = refl
feedless (c ∷ l) h = let first = no_feed_character c (and_parts _ _ h).0 in rw first (feedless l (and_parts _ _ h).1)

named_feedless : (file l : List ℕ) → no_feed l ≡ true → no_feed (named_line file l) ≡ true
unfolding named_line
named_feedless file l h = by (note_on file l) refl
  where
    by : (o : Option (List ℕ)) → note_on file l ≡ o → no_feed (l ++ comment (note_on file l)) ≡ true
    by None e = ap (λ o. no_feed (l ++ comment o)) e ∙ ap no_feed (append-nil l) ∙ h
    by (Some name) e = ap (λ o. no_feed (l ++ comment o)) e ∙ feedless (commented l name) (all_good l name (noted file l name e))

-- Returns the list with `line` joined to the front of its first element.
abbrev onto : List ℕ → List (List ℕ) → List (List ℕ)
onto line [] = line ∷ []
onto line (x ∷ xs) = (line ++ x) ∷ xs

onto_more : (line : List ℕ) (c : ℕ) (parts : List (List ℕ)) → onto (line ++ c ∷ []) parts ≡ onto line (onto_first c parts)
onto_more line c [] = refl
onto_more line c (x ∷ xs) = ap (λ l. l ∷ xs) (append_assoc line (c ∷ []) x)

first_not : (c : ℕ) (ps : List (List ℕ)) → onto_first c ps ≡ [] → ⊥
first_not c [] e = cc
first_not c (p ∷ ps) e = cc

not_empty : (cs : List ℕ) → parts cs ≡ [] → ⊥
not_empty [] e = cc
not_empty (c ∷ cs) e = by (c == 10) e
  where
    by : (b : Bool) → (if b then [] ∷ parts cs else onto_first c (parts cs)) ≡ [] → ⊥
    by true e = cc
    by false e = first_not c (parts cs) e

onto_none : (cs : List ℕ) → onto [] (parts cs) ≡ parts cs
onto_none cs = by (parts cs) refl
  where
    by : (ps : List (List ℕ)) → parts cs ≡ ps → onto [] ps ≡ ps
    by [] e = absurd (not_empty cs e)
    by (p ∷ ps) e = refl

snoc_feedless : (line : List ℕ) (c : ℕ) → no_feed line ≡ true → (c == 10) ≡ false → no_feed (line ++ c ∷ []) ≡ true
snoc_feedless line c h t = list_all-append (λ c. not (c == 10)) line (c ∷ []) ∙ rw (h, t) refl

split_named : (file line cs : List ℕ) → no_feed line ≡ true → parts (named_from file line cs) ≡ map (named_line file) (onto line (parts cs))
unfolding named_from
split_named file line [] h = last_part (named_line file line) (named_feedless file line h) ∙ ap (λ l. named_line file l ∷ []) (sym (append-nil line))
split_named file line (c ∷ cs) h =
    by (c == 10) refl (split_named file [] cs refl) (λ t. split_named file (line ++ c ∷ []) cs (snoc_feedless line c h t))
  where
    by : (b : Bool) → (c == 10) ≡ b → parts (named_from file [] cs) ≡ map (named_line file) (onto [] (parts cs))
        → ((c == 10) ≡ false → parts (named_from file (line ++ c ∷ []) cs) ≡ map (named_line file) (onto (line ++ c ∷ []) (parts cs)))
        → parts (if b then named_line file line ++ 10 ∷ named_from file [] cs else named_from file (line ++ c ∷ []) cs)
        ≡ map (named_line file) (onto line (if b then [] ∷ parts cs else onto_first c (parts cs)))
    by true t next more =
        one_part (named_line file line) (named_from file [] cs) (named_feedless file line h)
        ∙ ap (λ ps. named_line file line ∷ ps) (next ∙ ap (map (named_line file)) (onto_none cs))
        ∙ ap (λ l. named_line file l ∷ map (named_line file) (parts cs)) (sym (append-nil line))
    by false t next more = more t ∙ ap (map (named_line file)) (onto_more line c (parts cs))

same_text : (file text : List ℕ) → lines_of (with_names file text) ≡ lines_of text
unfolding with_names
same_text file text =
    ap (λ ps. lines_from 1 (lines_of_parts ps)) (split_named file [] text refl ∙ ap (map (named_line file)) (onto_none text))
    ∙ same_lines file 1 (parts text)

same_faults : (file text : List ℕ) → faults (with_names file text) ≡ faults text
unfolding faults
same_faults file text =
    ap (λ ls. if is_empty (faults_from 1 start ls) then all_label_faults (after_lines start ls).segments else faults_from 1 start ls)
    (same_text file text)

same_program : (file text : List ℕ) → program_of (with_names file text) ≡ program_of text
unfolding program_of
same_program file text = ap (λ ls. map found_segment (ascending (after_lines start ls).segments)) (same_text file text)

same_outcome : (t u : List ℕ) (o : Option AsmFault) → program_of t ≡ program_of u → outcome_by t o ≡ outcome_by u o
same_outcome t u None e = ap (λ ss. outcome_of ss (first_long ss)) e
same_outcome t u (Some fault) e = refl

pub names_say_nothing : NamesSayNothing
unfolding assembled
names_say_nothing file text =
    ap (λ fs. outcome_by (with_names file text) (first_of fs)) (same_faults file text)
    ∙ same_outcome (with_names file text) text (first_of (faults text)) (same_program file text)

pub named_is_shown_again : NamedIsShownAgain
named_is_shown_again text file shown e =
    let again = assembled_is_shown_again text file shown e in
    (again.0, names_say_nothing file (file_text file) ∙ again.1)
