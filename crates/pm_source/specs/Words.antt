-- Words, names and numbers of an assembly text.
use Rattle.std.specs.Prelude.{ℕ, ◌-◌, ◌%◌, Bool, true, false, not, List, [], ◌∷◌, length, reverse}
use Rattle.std.specs.Prelude.{nat_lt, nat_le, min, ◌==◌, ◌||◌, ◌&&◌, if◌then◌else◌, Option, Some, None}
use Rattle.std.specs.List.{list_all, onto_first}
use Rattle.std.specs.Char.{is_ascii_digit, is_ascii_hexdigit, is_ascii_alphabetic, is_ascii_alphanumeric}
use Rattle.std.specs.Str.Parse.{digits_value}
use Rattle.pm_source.specs.declared.number.Numeral.{Numeral}

-- Whether `c` is a space or a tab.
abbrev pub is_blank : ℕ → Bool
is_blank c = (c == 32) || (c == 9)

abbrev pub is_empty : {A : Type 0} → List A → Bool
is_empty [] = true
is_empty (x ∷ xs) = false

-- The characters after the leading spaces and tabs are removed.
abbrev pub unindented : List ℕ → List ℕ
unindented [] = []
unindented (c ∷ cs) = if is_blank c then unindented cs else c ∷ cs

-- The characters after the leading and trailing spaces and tabs are removed.
abbrev pub trimmed : List ℕ → List ℕ
trimmed cs = reverse (unindented (reverse (unindented cs)))

-- A word, and the characters after it.
pub record Cut : Type 0 where
  pub word : List ℕ
  pub rest : List ℕ

abbrev pub onto_word : ℕ → Cut → Cut
onto_word c k = record k { word = c ∷ k.word }

-- The characters before the first space or tab, and the rest.
abbrev pub cut_word : List ℕ → Cut
cut_word [] = record { word = []; rest = [] }
cut_word (c ∷ cs) = if is_blank c then record { word = []; rest = c ∷ cs } else onto_word c (cut_word cs)

-- The first word of the characters, and the rest.
unfoldable pub cut : List ℕ → Cut
cut cs = cut_word (unindented cs)

-- Whether a word that these characters follow is complete: they are empty, or begin with a space or tab.
abbrev pub ends_word : List ℕ → Bool
ends_word [] = true
ends_word (c ∷ cs) = is_blank c

-- All words of the characters. A word is a longest sequence without spaces and tabs.
abbrev pub words : List ℕ → List (List ℕ)
words [] = []
words (c ∷ cs) = if is_blank c then words cs else if ends_word cs then (c ∷ []) ∷ words cs else onto_first c (words cs)

abbrev pub begins_name : ℕ → Bool
begins_name c = is_ascii_alphabetic c || (c == 95)

abbrev pub continues_name : ℕ → Bool
continues_name c = is_ascii_alphanumeric c || (c == 95)

-- Whether the characters are a name: a letter or `_`, then letters, digits and `_`, at most 32 characters in all.
abbrev pub is_name : List ℕ → Bool
is_name [] = false
is_name (c ∷ cs) = begins_name c && nat_lt (length cs) 32 && list_all continues_name cs

-- The number that decimal digits denote, or `None`. A magnitude above 1,000,000 is stored as 1,000,000, which is
-- outside every range.
abbrev pub decimal_number : Bool → List ℕ → Option Numeral
decimal_number negative digits =
    if is_empty digits || not (list_all is_ascii_digit digits) then None
    else Some (record { negative = negative; magnitude = min 1000000 (digits_value 10 digits) })

-- The number that one to four hexadecimal digits denote, or `None`.
abbrev pub hexadecimal_number : List ℕ → Option Numeral
hexadecimal_number digits =
    if is_empty digits || nat_lt 4 (length digits) || not (list_all is_ascii_hexdigit digits) then None
    else Some (record { negative = false; magnitude = digits_value 16 digits })

-- The number that the characters denote: decimal digits with an optional `-` before them, or `$` and hexadecimal
-- digits.
abbrev pub number : List ℕ → Option Numeral
number [] = None
number (c ∷ cs) =
    if c == 45 then decimal_number true cs else if c == 36 then hexadecimal_number cs else decimal_number false (c ∷ cs)

-- Whether the number `n` is from -`below` to `above`.
abbrev pub within : ℕ → ℕ → Numeral → Bool
within below above n = if n.negative then nat_le n.magnitude below else nat_le n.magnitude above

-- The number `n` modulo `w`.
abbrev pub stored : ℕ → Numeral → ℕ
stored w n = if n.negative then (w - n.magnitude) % w else n.magnitude % w
