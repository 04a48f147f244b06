-- Lemmas: the characters of a listing denote its lines.
use Rattle.std.proofs.Common.{◌≡◌, ◌<◌, ◌≤◌, ℕ, ◌^◌, ◌+◌, ◌/◌, ◌%◌, Bool, true, false, List, [], ◌∷◌, ◌++◌}
use Rattle.std.proofs.Common.{length, map, reverse, refl, sym, ap, subst, ◌∙◌, arith, append_assoc, Some}
use Rattle.std.specs.Prelude.{◌==◌, if◌then◌else◌}
use Rattle.std.specs.List.{AllByRecursion, list_all}
use Rattle.std.specs.Char.{digit_value}
use Rattle.std.specs.Str.Lines.{lines}
use Rattle.std.specs.Str.Parse.{digits_value}
use Rattle.std.proofs.lemmas.List.{length-append, map-append, reverse-append}
use Rattle.std.proofs.lemmas.List.Folds.{list_all-append}
use Rattle.std.proofs.lemmas.Bool.{eqb-true}
use Rattle.std.proofs.lemmas.Bool.Decides.{nat_tests}
use Rattle.pm_code.specs.Item.{Item, size}
use Rattle.pm_code.specs.Program.{segment_numbered, Procedure, Segment, AreItems, AscendFrom, FitSlots, IsSegment, code_end, segment_bytes}
use Rattle.pm_code.specs.Shown.{entry_line, joined, named_places, padded, shown_item}
use Rattle.pm_code.proofs.ItemBytes.{AreBytes}
use Rattle.pm_code.proofs.Laid.{are_segment_bytes}
use Rattle.pm_source.specs.Denoted.{Denoted, ArePlacedFrom, ListingDenotesSegments, ListingIsRead, bytes_of_lines, denoted}
use Rattle.pm_source.specs.Denoted.{denoted_line, denoted_program, line_by_words, line_value, of_segment, pairs_value}
use Rattle.pm_code.specs.Image.{Listed, StandFrom, bytes_of_segment, listed_attributes, listed_bytes, listed_dictionary, listed_entries, listed_items}
use Rattle.pm_code.specs.Image.{listed_line, listed_lines, listed_procedure, listed_procedures, listed_segment, listing, pairs_text, upper_digit}
use Rattle.pm_source.specs.Line.{is_character}
use Rattle.pm_source.specs.Words.{cut, ends_word}
use Rattle.law_text.proofs.Cutting.{and_turned, first_cut, word_characters}
use Rattle.law_text.proofs.Listed.{listing_is_segment, listing_is_placed}
use Rattle.law_text.proofs.Numbers.{padded_value, padded_word}
use Rattle.law_text.proofs.Operanded.{IsWord}
use Rattle.law_text.proofs.ShownProcedures.{IsLow, IsWhole, all_append, all_back, all_front, are_writable, used_low}
use Rattle.law_text.proofs.ShownPrograms.{AreCharacters, IsWholeSegment, lines_joined, said_line, whole_segments}
use Rattle.law_text.proofs.SpokenLines.{IsWritableItem, item_line, jump_entry_line}

-- A hexadecimal digit that is written is read as its value.
digit_again : (d : ℕ) → d < 16 → digit_value (upper_digit d) ≡ d
digit_again d h = grind (arith, nat_tests)

digit_shown : (d : ℕ) → d < 16 → (upper_digit d == 32) ≡ false
digit_shown d h = grind (arith, nat_tests)

digit_character : (d : ℕ) → d < 16 → is_character (upper_digit d) ≡ true
digit_character d h = grind (arith, nat_tests)

pair_value : (b : ℕ) → b < 256 → digits_value 16 (upper_digit (b / 16) ∷ upper_digit (b % 16) ∷ []) ≡ b
pair_value b h =
    let high = digit_again (b / 16) (omega (arith, h)) in
    let low = digit_again (b % 16) (omega arith) in
    omega (arith, high, low)

pairs_again : (bs what : List ℕ) → AreBytes bs → pairs_value (pairs_text bs ++ (32 ∷ 32 ∷ what)) ≡ bs
pairs_again [] [] h = refl
pairs_again [] (c ∷ cs) h = refl
pairs_again (b ∷ bs) what h =
    let some = digit_shown (b / 16) (omega (arith, h.0)) in
    let value = pair_value b h.0 in
    rw some (ap (λ n. n ∷ pairs_value (pairs_text bs ++ (32 ∷ 32 ∷ what))) value ∙ ap (λ cs. b ∷ cs) (pairs_again bs what h.1))

pairs_end : (bs what : List ℕ) → ends_word (pairs_text bs ++ (32 ∷ what)) ≡ true
pairs_end [] what = refl
pairs_end (b ∷ bs) what = refl

pairs_characters : (bs : List ℕ) → AreBytes bs → list_all is_character (pairs_text bs) ≡ true
pairs_characters [] h = refl
pairs_characters (b ∷ bs) h =
    let high = digit_character (b / 16) (omega (arith, h.0)) in
    let low = digit_character (b % 16) (omega arith) in
    rw (high, low) (pairs_characters bs h.1)

-- Returns the text of a line of the listing, without its line feed.
abbrev line_text : ℕ → Listed → List ℕ
line_text number l = padded 2 number ++ (32 ∷ padded 3 l.procedure ++ (32 ∷ padded 5 l.at ++ (pairs_text l.bytes ++ (32 ∷ 32 ∷ l.what))))

ended : (number : ℕ) (l : Listed) (rest : List ℕ) → listed_line number l ++ rest ≡ line_text number l ++ 10 ∷ rest
ended number l rest =
    let a : List ℕ = padded 2 number in
    let b : List ℕ = padded 3 l.procedure in
    let c : List ℕ = padded 5 l.at in
    let d : List ℕ = pairs_text l.bytes in
    let e : List ℕ = l.what in
    five a b c d e
  where
    five : (a b c d e : List ℕ) → (a ++ (32 ∷ b ++ (32 ∷ c ++ (d ++ (32 ∷ 32 ∷ e ++ (10 ∷ [])))))) ++ rest
        ≡ (a ++ (32 ∷ b ++ (32 ∷ c ++ (d ++ (32 ∷ 32 ∷ e))))) ++ 10 ∷ rest
    five a b c d e =
        append_assoc a (32 ∷ b ++ (32 ∷ c ++ (d ++ (32 ∷ 32 ∷ e ++ (10 ∷ []))))) rest
        ∙ ap (λ u. a ++ 32 ∷ u) (append_assoc b (32 ∷ c ++ (d ++ (32 ∷ 32 ∷ e ++ (10 ∷ [])))) rest
        ∙ ap (λ u. b ++ 32 ∷ u) (append_assoc c (d ++ (32 ∷ 32 ∷ e ++ (10 ∷ []))) rest
        ∙ ap (λ u. c ++ u) (append_assoc d (32 ∷ 32 ∷ e ++ (10 ∷ [])) rest
        ∙ ap (λ u. d ++ 32 ∷ 32 ∷ u) (append_assoc e (10 ∷ []) rest) ∙ sym (append_assoc d (32 ∷ 32 ∷ e) (10 ∷ rest)))
        ∙ sym (append_assoc c (d ++ (32 ∷ 32 ∷ e)) (10 ∷ rest)))
        ∙ sym (append_assoc b (32 ∷ c ++ (d ++ (32 ∷ 32 ∷ e))) (10 ∷ rest)))
        ∙ sym (append_assoc a (32 ∷ b ++ (32 ∷ c ++ (d ++ (32 ∷ 32 ∷ e)))) (10 ∷ rest))

-- The numbers of the line `l` are less than 2 ^ 64, its bytes are bytes, and the characters of its text are valid.
record IsLine (l : Listed) : Type 0 where
  procedure : l.procedure < 2 ^ 64
  at : l.at < 2 ^ 64
  bytes : AreBytes l.bytes
  what : list_all is_character l.what ≡ true

behind : (w tail : List ℕ) → IsWord w → ends_word tail ≡ true → cut (32 ∷ w ++ tail) ≡ record { word = w; rest = tail }
unfolding cut
behind w tail h e = first_cut w tail h.some h.plain e

line_again : (number : ℕ) (l : Listed) → number < 2 ^ 64 → IsLine l → line_value (line_text number l) ≡ denoted_line number l
line_again number l n h =
    let third : List ℕ = pairs_text l.bytes ++ (32 ∷ 32 ∷ l.what) in
    let second : List ℕ = 32 ∷ padded 5 l.at ++ third in
    let first : List ℕ = 32 ∷ padded 3 l.procedure ++ second in
    let a = padded_word 2 number n in
    let c : cut (line_text number l) ≡ record { word = padded 2 number; rest = first } = first_cut (padded 2 number) first a.some a.plain refl in
    let d : cut first ≡ record { word = padded 3 l.procedure; rest = second } =
    behind (padded 3 l.procedure) second (padded_word 3 l.procedure h.procedure) refl in
    let e : cut second ≡ record { word = padded 5 l.at; rest = third } =
    behind (padded 5 l.at) third (padded_word 5 l.at h.at) (pairs_end l.bytes (32 ∷ l.what)) in
    let p = padded_value 2 number n in
    let q = padded_value 3 l.procedure h.procedure in
    let r = padded_value 5 l.at h.at in
    let s = pairs_again l.bytes l.what h.bytes in
    ap (λ k. line_by_words k (cut k.rest) (cut (cut k.rest).rest)) c
    ∙ ap (λ k. line_by_words (record { word = padded 2 number; rest = first }) k (cut k.rest)) d
    ∙ ap (λ k. line_by_words (record { word = padded 2 number; rest = first }) (record { word = padded 3 l.procedure; rest = second }) k) e
    ∙ rw (p, q, r, s) refl

line_characters : (number : ℕ) (l : Listed) → number < 2 ^ 64 → IsLine l → list_all is_character (line_text number l) ≡ true
line_characters number l n h =
    word_then (padded 2 number) (32 ∷ padded 3 l.procedure ++ (32 ∷ padded 5 l.at ++ (pairs_text l.bytes ++ (32 ∷ 32 ∷ l.what)))) (padded_word 2 number n)
    (word_then (padded 3 l.procedure) (32 ∷ padded 5 l.at ++ (pairs_text l.bytes ++ (32 ∷ 32 ∷ l.what))) (padded_word 3 l.procedure h.procedure)
    (word_then (padded 5 l.at) (pairs_text l.bytes ++ (32 ∷ 32 ∷ l.what)) (padded_word 5 l.at h.at)
    (list_all-append is_character (pairs_text l.bytes) (32 ∷ 32 ∷ l.what) ∙ and_turned _ _ (pairs_characters l.bytes h.bytes) h.what)))
  where
    word_then : (w rest : List ℕ) → IsWord w → list_all is_character rest ≡ true → list_all is_character (w ++ rest) ≡ true
    word_then w rest k e = list_all-append is_character w rest ∙ and_turned _ _ (word_characters w k.plain) e

-- Returns the texts of the lines of a program.
abbrev texts_of : List Segment → List (List ℕ)
texts_of [] = []
texts_of (s ∷ ss) = map (line_text s.number) (listed_segment s) ++ texts_of ss

segment_joined : (number : ℕ) (ls : List Listed) (texts : List (List ℕ)) → listed_lines number ls ++ joined texts ≡ joined (map (line_text number) ls ++ texts)
segment_joined number [] texts = refl
segment_joined number (l ∷ ls) texts =
    append_assoc (listed_line number l) (listed_lines number ls) (joined texts)
    ∙ ap (λ u. listed_line number l ++ u) (segment_joined number ls texts)
    ∙ ended number l (joined (map (line_text number) ls ++ texts))

listing_joined : (ss : List Segment) → listing ss ≡ joined (texts_of ss)
unfolding listing
listing_joined [] = refl
listing_joined (s ∷ ss) =
    ap (λ u. listed_lines s.number (listed_segment s) ++ u) (listing_joined ss) ∙ segment_joined s.number (listed_segment s) (texts_of ss)

lines_again : (number : ℕ) (ls : List Listed) → number < 2 ^ 64 → AllByRecursion IsLine ls
    → map line_value (map (line_text number) ls) ≡ map (denoted_line number) ls
lines_again number [] n h = refl
lines_again number (l ∷ ls) n h =
    ap (λ d. d ∷ map line_value (map (line_text number) ls)) (line_again number l n h.0) ∙ ap (λ ds. denoted_line number l ∷ ds) (lines_again number ls n h.1)

lines_characters : (number : ℕ) (ls : List Listed) (texts : List (List ℕ)) → number < 2 ^ 64 → AllByRecursion IsLine ls → AreCharacters texts
    → AreCharacters (map (line_text number) ls ++ texts)
lines_characters number [] texts n h k = k
lines_characters number (l ∷ ls) texts n h k = (line_characters number l n h.0, lines_characters number ls texts n h.1 k)

-- The number of the procedure of `l` is less than 2 ^ 64, and the characters of the text after its bytes are valid.
record IsNamed (l : Listed) : Type 0 where
  procedure : l.procedure < 2 ^ 64
  what : list_all is_character l.what ≡ true

items_named : (number at : ℕ) (items : List (Item ℕ)) (rest : List Listed) → number < 2 ^ 64 → AreItems at items → AllByRecursion IsWritableItem items
    → AllByRecursion IsNamed rest → AllByRecursion IsNamed (listed_items number at items ++ rest)
items_named number at [] rest n h w k = k
items_named number at (item ∷ items) rest n h w k = (
  record { procedure = n; what = said_line 1 (32 ∷ 32 ∷ shown_item item) _ (item_line 1 at item h.0 w.0) },
  items_named number (at + size at item) items rest n h.1 w.1 k,
)

entries_named : (number at : ℕ) (places : List ℕ) (rest : List Listed) → number < 2 ^ 64 → AllByRecursion IsLow places
    → AllByRecursion IsNamed rest → AllByRecursion IsNamed (listed_entries number at places ++ rest)
entries_named number at [] rest n h k = k
entries_named number at (place ∷ places) rest n h k =
    (record { procedure = n; what = said_line 1 (entry_line place) _ (jump_entry_line 1 place h.0) }, entries_named number (at + 2) places rest n h.1 k)

low_reversed : (places : List ℕ) → AllByRecursion IsLow places → AllByRecursion IsLow (reverse places)
low_reversed [] h = tt
low_reversed (place ∷ places) h =
    subst (AllByRecursion IsLow) (sym (reverse-append (place ∷ []) places)) (all_append IsLow (reverse places) (place ∷ []) (low_reversed places h.1) (h.0, tt))

procedure_named : (number : ℕ) (p : Procedure) (rest : List Listed) → number < 2 ^ 64 → IsWhole p → AllByRecursion IsNamed rest
    → AllByRecursion IsNamed (listed_procedure number p rest)
procedure_named number p rest n w k =
    let low = used_low p w in
    items_named number p.start p.items (listed_entries number (code_end p) (reverse p.entries) ++ listed_attributes number p ∷ rest) n w.procedure.items
    (are_writable p.start p.items w.procedure.items (all_front IsLow (named_places p.items) p.entries low))
    (entries_named number (code_end p) (reverse p.entries) (listed_attributes number p ∷ rest) n
    (low_reversed p.entries (all_back IsLow (named_places p.items) p.entries low))
    (record { procedure = n; what = refl }, k))

procedures_named : (number : ℕ) (ps : List Procedure) (rest : List Listed) → number + length ps ≤ 256 → AllByRecursion IsWhole ps → AllByRecursion IsNamed rest
    → AllByRecursion IsNamed (listed_procedures number ps rest)
procedures_named number [] rest n w k = k
procedures_named number (p ∷ ps) rest n w k =
    procedure_named number p (listed_procedures (number + 1) ps rest) (omega (arith, n)) w.0 (procedures_named (number + 1) ps rest (omega (arith, n)) w.1 k)

-- If a list consists of bytes, then both parts of the list consist of bytes.
append_bytes : (xs ys : List ℕ) → AreBytes (xs ++ ys) → AreBytes xs × AreBytes ys
append_bytes [] ys h = (tt, h)
append_bytes (x ∷ xs) ys h = let more = append_bytes xs ys h.1 in ((h.0, more.0), more.1)

each_line : (at : ℕ) (ls : List Listed) → AllByRecursion IsNamed ls → AreBytes (listed_bytes ls) → StandFrom at ls → at + length (listed_bytes ls) ≤ 65534
    → AllByRecursion IsLine ls
each_line at [] n b s short = tt
each_line at (l ∷ ls) n b s short =
    let parts = append_bytes l.bytes (listed_bytes ls) b in
    let whole = length-append l.bytes (listed_bytes ls) in (
      record { procedure = n.0.procedure; at = omega (arith, s.0, short); bytes = parts.0; what = n.0.what },
      each_line (at + length l.bytes) ls n.1 parts.1 s.1 (omega (arith, whole, short)),
    )

segment_lines_are : (s : Segment) → IsWholeSegment s → length (segment_bytes s) ≤ 65534 → AllByRecursion IsLine (listed_segment s)
segment_lines_are s w short =
    let same = listing_is_segment s in
    each_line 0 (listed_segment s)
    (procedures_named 1 s.procedures (listed_dictionary s ∷ []) (omega (arith, w.segment.few)) w.procedures
    (record { procedure = omega arith; what = refl }, tt))
    (subst AreBytes (sym same) (are_segment_bytes s w.segment short))
    (listing_is_placed s w.segment.follow)
    (omega (arith, ap length same, short))

program_characters : (ss : List Segment) → AllByRecursion IsWholeSegment ss → FitSlots ss → AreCharacters (texts_of ss)
program_characters [] w short = tt
program_characters (s ∷ ss) w short =
    lines_characters s.number (listed_segment s) (texts_of ss) (omega (arith, w.0.segment.number)) (segment_lines_are s w.0 short.0)
    (program_characters ss w.1 short.1)

program_again : (ss : List Segment) → AllByRecursion IsWholeSegment ss → FitSlots ss → map line_value (texts_of ss) ≡ denoted_program ss
program_again [] w short = refl
program_again (s ∷ ss) w short =
    map-append line_value (map (line_text s.number) (listed_segment s)) (texts_of ss)
    ∙ ap (λ ds. ds ++ map line_value (texts_of ss)) (lines_again s.number (listed_segment s) (omega (arith, w.0.segment.number))
    (segment_lines_are s w.0 short.0))
    ∙ ap (λ ds. map (denoted_line s.number) (listed_segment s) ++ ds) (program_again ss w.1 short.1)

pub listing_is_read : ListingIsRead
unfolding denoted
listing_is_read ss h short =
    let w = whole_segments ss h.segments short in
    ap (λ cs. map line_value (lines cs)) (listing_joined ss)
    ∙ ap (map line_value) (lines_joined (texts_of ss) (program_characters ss w short))
    ∙ program_again ss w short

-- If `ls` are lines of segment `n`, then all of them remain if the lines of segment `n` are selected.
of_same : (n : ℕ) (ls : List Listed) (ds : List Denoted) → of_segment n (map (denoted_line n) ls ++ ds) ≡ map (denoted_line n) ls ++ of_segment n ds
of_same n [] ds = refl
of_same n (l ∷ ls) ds = let same = itself n in rw same (ap (λ more. denoted_line n l ∷ more) (of_same n ls ds))
  where
    itself : (n : ℕ) → (n == n) ≡ true
    itself n = grind (arith, nat_tests)

of_other : (m n : ℕ) (ls : List Listed) (ds : List Denoted) → (m == n) ≡ false → of_segment n (map (denoted_line m) ls ++ ds) ≡ of_segment n ds
of_other m n [] ds e = refl
of_other m n (l ∷ ls) ds e = rw e (of_other m n ls ds e)

of_none : (n least : ℕ) (ss : List Segment) → n < least → AscendFrom least ss → of_segment n (denoted_program ss) ≡ []
of_none n least [] l h = refl
of_none n least (s ∷ ss) l h =
    of_other s.number n (listed_segment s) (denoted_program ss) (differ s.number n (omega (arith, l, h.0)))
    ∙ of_none n (s.number + 1) ss (omega (arith, l, h.0)) h.1
  where
    differ : (m n : ℕ) → n < m → (m == n) ≡ false
    differ m n h = grind (arith, nat_tests)

append_nil : {A : Type 0} (xs : List A) → xs ++ [] ≡ xs
append_nil [] = refl
append_nil (x ∷ xs) = ap (λ ys. x ∷ ys) (append_nil xs)

bytes_again : (n : ℕ) (ls : List Listed) → bytes_of_lines (map (denoted_line n) ls) ≡ listed_bytes ls
bytes_again n [] = refl
bytes_again n (l ∷ ls) = ap (λ bs. l.bytes ++ bs) (bytes_again n ls)

placed_again : (n at : ℕ) (ls : List Listed) → StandFrom at ls → ArePlacedFrom at (map (denoted_line n) ls)
placed_again n at [] h = tt
placed_again n at (l ∷ ls) h = (h.0, placed_again n (at + length l.bytes) ls h.1)

-- The lines of segment `n` in the program `ss` denote its bytes at their offsets.
record IsDenoted (n : ℕ) (ss : List Segment) : Type 0 where
  bytes : bytes_of_lines (of_segment n (denoted_program ss)) ≡ bytes_of_segment (segment_numbered n ss)
  placed : ArePlacedFrom 0 (of_segment n (denoted_program ss))

segment_denoted : (n least : ℕ) (ss : List Segment) → AscendFrom least ss → AllByRecursion IsSegment ss → IsDenoted n ss
segment_denoted n least [] a h = record { bytes = refl; placed = tt }
segment_denoted n least (s ∷ ss) a h = by (s.number == n) refl (segment_denoted n (s.number + 1) ss a.1 h.1)
  where
    here : s.number ≡ n → of_segment n (denoted_program (s ∷ ss)) ≡ map (denoted_line n) (listed_segment s)
    here e =
        ap (λ m. of_segment n (map (denoted_line m) (listed_segment s) ++ denoted_program ss)) e
        ∙ of_same n (listed_segment s) (denoted_program ss)
        ∙ ap (λ ds. map (denoted_line n) (listed_segment s) ++ ds) (of_none n (s.number + 1) ss (omega (arith, e)) a.1)
        ∙ append_nil (map (denoted_line n) (listed_segment s))

    by : (b : Bool) → (s.number == n) ≡ b → IsDenoted n ss → IsDenoted n (s ∷ ss)
    by true f more =
        let e : s.number ≡ n = eqb-true s.number n f in
        record {
          bytes = ap bytes_of_lines (here e) ∙ bytes_again n (listed_segment s) ∙ listing_is_segment s
              ∙ ap (λ b. bytes_of_segment (if b then Some s else segment_numbered n ss)) (sym f);
          placed = subst (ArePlacedFrom 0) (sym (here e)) (placed_again n 0 (listed_segment s) (listing_is_placed s h.0.follow));
        }
    by false f more =
        let there = of_other s.number n (listed_segment s) (denoted_program ss) f in
        record {
          bytes = ap bytes_of_lines there ∙ more.bytes ∙ ap (λ b. bytes_of_segment (if b then Some s else segment_numbered n ss)) (sym f);
          placed = subst (ArePlacedFrom 0) (sym there) more.placed;
        }

pub listing_denotes_segments : ListingDenotesSegments
listing_denotes_segments ss n h short =
    let read = listing_is_read ss h short in
    let is = segment_denoted n 0 ss h.ascend h.segments in
    (ap (λ ds. bytes_of_lines (of_segment n ds)) read ∙ is.bytes, subst (λ ds. ArePlacedFrom 0 (of_segment n ds)) (sym read) is.placed)
