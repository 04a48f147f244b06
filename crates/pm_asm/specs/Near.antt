-- Mnemonics and directives that are similar to a word.
use Rattle.std.specs.Prelude.{ℕ, zero, suc, ◌+◌, Bool, true, false, List, [], ◌∷◌, length, nat_le, ◌||◌, ◌&&◌}
use Rattle.std.specs.Prelude.{if◌then◌else◌, Option, Some, None}
use Rattle.std.specs.Char.{eq_ignore_ascii_case}
use Rattle.std.specs.Map.{lookup}
use Rattle.std.specs.Option.{option_or}
use Rattle.std.specs.Str.{str_eq_ignore_ascii_case}
use Rattle.pm_opcode.specs.Table.{mnemonic_of}
use Rattle.pm_source.specs.Words.{is_empty}
use Rattle.pm_source.specs.Line.{Keyword, directives, mnemonic_keyword}

-- Is true if the texts `word` and `name`, whose first characters differ, differ in one letter only. `word_rest` and
-- `name_rest` are these texts without their first characters.
abbrev pub are_off : List ℕ → List ℕ → List ℕ → List ℕ → Bool
are_off word word_rest name name_rest = str_eq_ignore_ascii_case word_rest name_rest
    || str_eq_ignore_ascii_case word_rest name || str_eq_ignore_ascii_case word name_rest

-- Is true if `word` differs from `name` in one letter: one letter is replaced, added or removed. Upper and lower case
-- are equal.
unfoldable pub is_near : List ℕ → List ℕ → Bool
is_near [] name = nat_le (length name) 1
is_near (a ∷ word) [] = is_empty word
is_near (a ∷ word) (b ∷ name) =
    if eq_ignore_ascii_case a b then is_near word name else are_off (a ∷ word) word (b ∷ name) name

-- Is true if `word` is `name` in upper or lower case. If `near` is true, a word of two or more letters may also differ
-- from `name` in one letter.
abbrev pub is_like : Bool → List ℕ → List ℕ → Bool
is_like near word name = str_eq_ignore_ascii_case word name || (near && nat_le 2 (length word) && is_near word name)

-- The first of the `count` opcodes from `op` on whose mnemonic is similar to `word`, or `None`.
abbrev pub liked_from : Bool → List ℕ → ℕ → ℕ → Option ℕ
liked_from near word op zero = None
liked_from near word op (suc count) =
    if is_like near word (mnemonic_of op) then Some op else liked_from near word (op + 1) count

-- The first directive that is similar to `word`. If no directive is similar, the first mnemonic that is similar.
unfoldable pub liked : Bool → List ℕ → Option Keyword
liked near word = option_or (lookup (is_like near word) directives) (mnemonic_keyword (liked_from near word 0 256))

-- The keyword that `word` may mean: the keyword in another case. If none exists, the first that differs in one letter.
unfoldable pub meant : List ℕ → Option Keyword
meant word = option_or (liked false word) (liked true word)
