-- Laws of the fields of a line.
use Rattle.std.proofs.Common.{◌≡◌, ◌<◌, ◌≤◌, ◌+◌, ◌-◌, ◌/◌, ◌%◌, ◌^◌, ◌==◌, ◌&&◌, ◌||◌, ◌∙◌, ℕ, zero, suc, Bool, true, false, not, cond, List, [], ◌∷◌, ◌++◌, Option, None, Some, length, drop, replicate, decimal, codes, refl, ap, sym, arith, append_assoc, append-nil, inl, inr}
use Rattle.std.specs.List.{All, AllByRecursion, join_with_byte, list_all, list_any, onto_first, slice_split}
use Rattle.std.proofs.lemmas.Bool.{and_from, and_parts, both_ways, ne_eqb, not-true, or_from}
use Rattle.std.proofs.lemmas.Fmt.{decimal_by_steps}
use Rattle.std.proofs.lemmas.List.Elements.{All-head, All-tail}
use Rattle.percent_encoding.specs.AsciiSet.{should_percent_encode}
use Rattle.percent_encoding.specs.Percent.{percent_encode}
use Rattle.percent_encoding.proofs.PercentLemmas.{All-percent_encode, IsEscapeByte}
use Rattle.pm_bytes.specs.Decimals.{padded}
use Rattle.pm_filer.specs.Listing.{date_text, kind_word}
use Rattle.pm_folder.specs.Folder.{kind_text, word_or}
use Rattle.pm_folder.specs.Names.{listed_name}
use Rattle.pm_folder.specs.declared.names.TheConstants.{LISTED}
use Rattle.pm_volume.specs.Dates.{date_of}
use Rattle.pm_volume.specs.Names.{characters_of}
use Rattle.pm_volume.specs.Files.{bytes_of}
use Rattle.pm_table.specs.Tabs.{line_of}
use Rattle.pm_table.specs.Worked.{IsInRange, fields_of}
use Rattle.pm_table.specs.declared.rows.TableRow.{TableRow}

-- ---- bytes that are no tab and no line feed

abbrev is_plain : ℕ → Bool
is_plain b = not (b == 9) && not (b == 10)

plain_from : (b : ℕ) → (b ≡ 9 → ⊥) → (b ≡ 10 → ⊥) → is_plain b ≡ true
plain_from b no_tab no_feed =
    let t = ne_eqb b 9 no_tab in
    let f = ne_eqb b 10 no_feed in
    rw (t, f) refl

all_append : (xs ys : List ℕ) → list_all is_plain xs ≡ true → list_all is_plain ys ≡ true → list_all is_plain (xs ++ ys) ≡ true
all_append [] ys first second = second
all_append (x ∷ xs) ys first second =
    let parts = and_parts (is_plain x) (list_all is_plain xs) first in
    and_from (is_plain x) (list_all is_plain (xs ++ ys)) parts.0 (all_append xs ys parts.1 second)

all_zeros : (n : ℕ) → list_all is_plain (replicate n 48) ≡ true
all_zeros zero = refl
all_zeros (suc n) = all_zeros n

plain_digit : (d : ℕ) → d < 10 → list_all is_plain ((48 + d) ∷ []) ≡ true
plain_digit d small =
    let p = plain_from (48 + d) (λ e. omega (arith, e)) (λ e. omega (arith, e)) in
    and_from (is_plain (48 + d)) true p refl

plain_decimal : (n : ℕ) → n < 2 ^ 64 → list_all is_plain (decimal n) ≡ true
plain_decimal n small =
    decimal_by_steps (λ n ds. list_all is_plain ds ≡ true) plain_digit
    (λ n ds high rest. all_append ds ((48 + n % 10) ∷ []) rest (plain_digit (n % 10) (omega arith))) n small

plain_padded : (width n : ℕ) → n < 2 ^ 64 → list_all is_plain (padded width n) ≡ true
unfolding padded
plain_padded width n small =
    all_append (replicate (width - length (decimal n)) 48) (decimal n) (all_zeros (width - length (decimal n))) (plain_decimal n small)

plain_date : (word : ℕ) → word < 2 ^ 16 → list_all is_plain (date_text word) ≡ true
unfolding date_text
plain_date word small =
    let date = date_of word in
    all_append (padded 3 date.year) (45 ∷ (padded 2 date.month ++ (45 ∷ padded 2 date.day))) (plain_padded 3 date.year (omega arith))
    (all_append (padded 2 date.month) (45 ∷ padded 2 date.day) (plain_padded 2 date.month (omega arith)) (plain_padded 2 date.day (omega arith)))

tab : should_percent_encode LISTED 9 ≡ true
unfolding should_percent_encode
tab = refl

feed : should_percent_encode LISTED 10 ≡ true
unfolding should_percent_encode
feed = refl

-- A byte that a name in LIST has unchanged.
plain_kept : (b : ℕ) → should_percent_encode LISTED b ≡ false → is_plain b ≡ true
plain_kept b kept =
    plain_from b (λ e. both_ways (should_percent_encode LISTED b) kept (ap (should_percent_encode LISTED) e ∙ tab))
    (λ e. both_ways (should_percent_encode LISTED b) kept (ap (should_percent_encode LISTED) e ∙ feed))

plain_escape : (b : ℕ) → IsEscapeByte b → is_plain b ≡ true
plain_escape b (inl e) = plain_from b (λ t. omega (arith, e, t)) (λ t. omega (arith, e, t))
plain_escape b (inr (inl d)) = plain_from b (λ t. omega (arith, d, t)) (λ t. omega (arith, d, t))
plain_escape b (inr (inr d)) = plain_from b (λ t. omega (arith, d, t)) (λ t. omega (arith, d, t))

all_plain : (xs : List ℕ) → All (λ b. is_plain b ≡ true) xs → list_all is_plain xs ≡ true
all_plain [] each = refl
all_plain (x ∷ xs) each =
    and_from (is_plain x) (list_all is_plain xs) (All-head (λ b. is_plain b ≡ true) x xs each)
    (all_plain xs (All-tail (λ b. is_plain b ≡ true) x xs each))

plain_name : (name : List ℕ) → list_all is_plain (listed_name name) ≡ true
plain_name name = all_plain (percent_encode LISTED name) (All-percent_encode (λ b. is_plain b ≡ true) LISTED name plain_kept plain_escape)

plain_kind : (kind : ℕ) → kind < 2 ^ 8 → list_all is_plain (kind_text kind) ≡ true
unfolding kind_word
plain_kind kind small =
    by (kind == 0) (kind == 1) (kind == 2) (kind == 3) (kind == 4) (kind == 5) (kind == 6) (kind == 7) (kind == 8)
  where
    by : (none bad code text info plain graf foto secure : Bool)
        → list_all is_plain (word_or (cond none (Some (codes "none")) (cond bad (Some (codes "badb")) (cond code (Some (codes "code"))
        (cond text (Some (codes "text")) (cond info (Some (codes "info")) (cond plain (Some (codes "data")) (cond graf (Some (codes "graf"))
        (cond foto (Some (codes "foto")) (cond secure (Some (codes "secd")) None))))))))) kind) ≡ true
    by true b c d e f g h i = refl
    by false true c d e f g h i = refl
    by false false true d e f g h i = refl
    by false false false true e f g h i = refl
    by false false false false true f g h i = refl
    by false false false false false true g h i = refl
    by false false false false false false true h i = refl
    by false false false false false false false true i = refl
    by false false false false false false false false true = refl
    by false false false false false false false false false = plain_decimal kind (omega arith)

-- ---- lines

abbrev ArePlain : List (List ℕ) → Type 0
ArePlain fields = AllByRecursion (λ field. list_all is_plain field ≡ true) fields

all_are_plain : (image : List ℕ) (row : TableRow) → IsInRange image row → ArePlain (fields_of image row)
all_are_plain image row r = (
  plain_decimal row.slot (omega (arith, r.slot)),
  (
    plain_name (characters_of row.entry.name),
    (
      plain_kind row.entry.kind r.kind,
      (
        plain_decimal row.entry.first (omega (arith, r.first)),
        (
          plain_decimal (row.entry.end - row.entry.first) (omega (arith, r.end)),
          (
            plain_decimal row.entry.last_bytes (omega (arith, r.last_bytes)),
            (
              plain_decimal (length (bytes_of image row.entry)) r.bytes,
              (plain_date row.entry.date r.date, tt),
            ),
          ),
        ),
      ),
    ),
  ),
)

no_tab : (b : ℕ) → is_plain b ≡ true → (b == 9) ≡ false
no_tab b plain = not-true (b == 9) (and_parts (not (b == 9)) (not (b == 10)) plain).0

no_feed : (b : ℕ) → is_plain b ≡ true → (b == 10) ≡ false
no_feed b plain = not-true (b == 10) (and_parts (not (b == 9)) (not (b == 10)) plain).1

split_first : (xs ys : List ℕ) → list_all is_plain xs ≡ true
    → slice_split (λ b. b == 9) (xs ++ 9 ∷ ys) ≡ xs ∷ slice_split (λ b. b == 9) ys
split_first [] ys plain = refl
split_first (x ∷ xs) ys plain =
    let parts = and_parts (is_plain x) (list_all is_plain xs) plain in
    let rest = slice_split (λ b. b == 9) (xs ++ 9 ∷ ys) in
    ap (λ b. cond b ([] ∷ rest) (onto_first x rest)) (no_tab x parts.0) ∙ ap (onto_first x) (split_first xs ys parts.1)

split_last : (xs : List ℕ) → list_all is_plain xs ≡ true → slice_split (λ b. b == 9) xs ≡ xs ∷ []
split_last [] plain = refl
split_last (x ∷ xs) plain =
    let parts = and_parts (is_plain x) (list_all is_plain xs) plain in
    let rest = slice_split (λ b. b == 9) xs in
    ap (λ b. cond b ([] ∷ rest) (onto_first x rest)) (no_tab x parts.0) ∙ ap (onto_first x) (split_last xs parts.1)

split_joined : (field : List ℕ) (fields : List (List ℕ)) → ArePlain (field ∷ fields)
    → slice_split (λ b. b == 9) (join_with_byte 9 (field ∷ fields)) ≡ field ∷ fields
split_joined field [] plain = split_last field plain.0
split_joined field (next ∷ fields) plain =
    split_first field (join_with_byte 9 (next ∷ fields)) plain.0
    ∙ ap (λ (fs : List (List ℕ)). field ∷ fs) (split_joined next fields plain.1)

feed_append : (xs ys : List ℕ) → list_all is_plain xs ≡ true → list_any (λ b. b == 10) ys ≡ false
    → list_any (λ b. b == 10) (xs ++ ys) ≡ false
feed_append [] ys plain none = none
feed_append (x ∷ xs) ys plain none =
    let parts = and_parts (is_plain x) (list_all is_plain xs) plain in
    or_from (x == 10) (list_any (λ b. b == 10) (xs ++ ys)) (no_feed x parts.0) (feed_append xs ys parts.1 none)

feed_joined : (field : List ℕ) (fields : List (List ℕ)) → ArePlain (field ∷ fields)
    → list_any (λ b. b == 10) (join_with_byte 9 (field ∷ fields)) ≡ false
feed_joined field [] plain =
    ap (list_any (λ b. b == 10)) (sym (append-nil field)) ∙ feed_append field [] plain.0 refl
feed_joined field (next ∷ fields) plain =
    feed_append field (9 ∷ join_with_byte 9 (next ∷ fields)) plain.0 (feed_joined next fields plain.1)

-- The fields after the first one.
abbrev rest_of : List ℕ → TableRow → List (List ℕ)
rest_of image row = drop 1 (fields_of image row)

pub fields : (image : List ℕ) (row : TableRow) → line_of image row ≡ join_with_byte 9 (fields_of image row) ++ 10 ∷ []
fields image row = simp append_assoc

pub cut : (image : List ℕ) (row : TableRow) → IsInRange image row
    → slice_split (λ b. b == 9) (join_with_byte 9 (fields_of image row)) ≡ fields_of image row
cut image row r = split_joined (decimal row.slot) (rest_of image row) (all_are_plain image row r)

pub one_line : (image : List ℕ) (row : TableRow) → IsInRange image row
    → list_any (λ b. b == 10) (join_with_byte 9 (fields_of image row)) ≡ false
one_line image row r = feed_joined (decimal row.slot) (rest_of image row) (all_are_plain image row r)
