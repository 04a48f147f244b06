-- The texts of sets. A set is either one operand, or two operands: its words and their count.
use Rattle.std.specs.Prelude.{ℕ, zero, suc, ◌+◌, ◌-◌, ◌*◌, ◌/◌, ◌%◌, ◌^◌, ◌==◌, ◌&&◌, ◌||◌, nat_le, nat_lt}
use Rattle.std.specs.Prelude.{Bool, true, false, if◌then◌else◌, length, slice_index_or}
use Rattle.std.specs.Prelude.{List, [], ◌++◌, codes, Option, Some, None}
use Rattle.std.specs.Fmt.{decimal}
use Rattle.std.specs.Int.{to_le_bytes, w16}
use Rattle.pm_families.specs.declared.families.Set.{Set}
use Rattle.pm_families.specs.declared.families.Set.TheVariants as set
use Rattle.pm_phrases.specs.declared.operand.Form.{Form}
use Rattle.pm_phrases.specs.declared.operand.Form.TheVariants as form
use Rattle.pm_phrases.specs.declared.sets.Behind.{Behind}
use Rattle.pm_phrases.specs.declared.sets.Behind.TheVariants as behind
use Rattle.pm_phrases.specs.Shown.{Shown, standing, value, value_text}

-- ---- sets that are constants

-- Is true if `e` is a member of the set with the words `bytes`. Number `e` is bit `e` mod 16 of a word. This word is
-- `e` div 16 words before the last word. The last word is pushed last and contains the lowest numbers.
unfoldable pub is_member : List ℕ → ℕ → Bool
is_member bytes e = nat_lt (e / 8) (length bytes)
    && (slice_index_or bytes (2 * (length bytes / 2 - (e / 16 + 1)) + e / 8 % 2) 0 / 2 ^ (e % 8) % 2 == 1)

abbrev pub behind_next : Behind → Bool → Behind
behind_next b true = behind.Member
behind_next behind.Nothing false = behind.Nothing
behind_next _ false = behind.Gap

-- The text of the number `e` in a list of members. The first of consecutive members is shown. The last of them is shown
-- after `..`.
abbrev pub member_text : Behind → Bool → Bool → ℕ → List ℕ
member_text behind.Nothing true next e = decimal e
member_text behind.Gap true next e = codes ", " ++ decimal e
member_text behind.Member true false e = codes ".." ++ decimal e
member_text _ _ _ e = []

abbrev pub no_member : Behind
no_member = behind.Nothing

-- The text of the members among the `n` numbers from `e`.
abbrev pub members_from : List ℕ → Behind → ℕ → ℕ → List ℕ
members_from bytes before e zero = []
members_from bytes before e (suc n) = member_text before (is_member bytes e) (is_member bytes (e + 1)) e
    ++ members_from bytes (behind_next before (is_member bytes e)) (e + 1) n

-- The size `n` in words after `#` if the highest word of the set is 0. Without it, the text would denote a set of fewer
-- words.
abbrev pub count_text : List ℕ → ℕ → List ℕ
count_text bytes n =
    if (slice_index_or bytes 0 0 == 0) && (slice_index_or bytes 1 0 == 0) then codes "#" ++ decimal n else []

-- The text of a set of `n` words: the list of its members.
unfoldable pub members_text : List ℕ → ℕ → List ℕ
members_text bytes n =
    codes "[" ++ (members_from bytes no_member 0 (16 * n) ++ (codes "]" ++ count_text bytes n))

abbrev pub if_counted : List ℕ → ℕ → Option (List ℕ)
if_counted bytes n = if nat_le 2 n && (length bytes / 2 == n) then Some (members_text bytes n) else None

abbrev pub constant_by : Option (List ℕ) → Form → Form → Option (List ℕ)
constant_by (Some bytes) f (form.Constant n) = if_counted bytes n
constant_by None (form.Constant w) (form.Constant n) =
    if n == 1 then Some (members_text (to_le_bytes w16 w) 1) else None
constant_by _ _ _ = None

-- The text of the set with these words and their count `n` if both are constants, else `None`. If the set has one word,
-- `words` is a number. If the set has several words, they are the words of an LDC.
abbrev pub constant_set : Shown → Shown → Option (List ℕ)
constant_set words n = constant_by words.words words.form n.form

abbrev pub or_counted : Option (List ℕ) → Shown → Shown → List ℕ
or_counted (Some text) words n = text
or_counted None words n = codes "SET(" ++ (value_text words 0 ++ (codes ", " ++ (value_text n 0 ++ codes ")")))

-- The text of the set whose words are the operand `words`, and whose count of words is the operand `n`.
unfoldable pub counted_text : Shown → Shown → List ℕ
counted_text words n = or_counted (constant_set words n) words n

abbrev pub is_constant : Form → Bool
is_constant (form.Constant w) = true
is_constant _ = false

-- The mark of a set that is computed from operands of these two forms: `!` if both are constants. Without the mark, the
-- text would be that of a constant set.
abbrev pub constant_mark : Form → Form → List ℕ
constant_mark a b = if is_constant a && is_constant b then codes "!" else []

abbrev pub is_no_words : Form → Bool
is_no_words (form.Constant w) = w == 0
is_no_words _ = false

-- The text of the set `s`, which is one operand, next to an operator of precedence `k`. The number 0 is the empty set.
unfoldable pub set_text : Shown → ℕ → List ℕ
set_text s k = if is_no_words s.form then codes "[]" else value_text s k

abbrev pub is_set : Form → Bool
is_set (form.Set k) = true
is_set f = is_no_words f

-- ---- operations

-- The operator of an operation that computes a set from two sets, or `None` for other operations.
abbrev pub set_sign : Set → Option (List ℕ)
set_sign set.Union = Some (codes "+")
set_sign set.Difference = Some (codes "-")
set_sign set.Intersection = Some (codes "*")
set_sign _ = None

abbrev pub set_strength : Set → ℕ
set_strength set.Intersection = 3
set_strength _ = 2

-- The text of the sets `a` and `b` with the operator `sign` between them.
abbrev pub joined : ℕ → List ℕ → List ℕ → List ℕ → Shown
joined strength a sign b = standing (form.Set strength) (a ++ (codes " " ++ (sign ++ (codes " " ++ b))))

-- The text of SGS or ADJ with one operand.
unfoldable pub set_one : Set → Shown → Option Shown
set_one set.Singleton a =
    Some (standing (form.Set 9) (codes "[" ++ (value_text a 0 ++ (codes "]" ++ constant_mark a.form a.form))))
set_one (set.Adjust n) a = Some (value 4 (codes "adj[" ++ (decimal n ++ (codes "] " ++ set_text a 4))))
set_one _ a = None

abbrev pub joined_by : ℕ → Shown → Shown → Option (List ℕ) → Option Shown
joined_by k a b (Some sign) = if is_set a.form && is_set b.form
    then Some (joined k (set_text a k) sign (set_text b (k + 1)))
    else None
joined_by k a b None = None

-- The text of an operator on the sets `a` and `b`, or `None`. Both operands must be sets, because the operators of
-- integers look the same.
unfoldable pub sets_joined : Set → Shown → Shown → Option Shown
sets_joined o a b = joined_by (set_strength o) a b (set_sign o)

-- The text of INN, SRS, ADJ, UNI, DIF or INT with two operands.
unfoldable pub set_two : Set → Shown → Shown → Option Shown
set_two set.Member a b = Some (value 1 (value_text a 2 ++ (codes " IN " ++ set_text b 2)))
set_two set.Subrange a b =
    Some (standing (form.Set 9) (codes "[" ++ (value_text a 0 ++ (codes ".."
    ++ (value_text b 0 ++ (codes "]" ++ constant_mark a.form b.form))))))
set_two (set.Adjust n) a b = Some (value 4 (codes "adj[" ++ (decimal n ++ (codes "] " ++ counted_text a b))))
set_two o a b = sets_joined o a b

abbrev pub counted_by : ℕ → Shown → Shown → Shown → Option (List ℕ) → Form → Form → Option Shown
counted_by k a b c (Some sign) (form.Set m) _ = Some (joined k (value_text a k) sign (counted_text b c))
counted_by k a b c (Some sign) _ (form.Set n) = Some (joined k (counted_text a b) sign (value_text c (k + 1)))
counted_by k a b c _ _ _ = None

-- The text of an operation on two sets with three operands. One set is a single operand, and the other set is words and
-- their count.
unfoldable pub one_counted : Set → Shown → Shown → Shown → Option Shown
one_counted o a b c = counted_by (set_strength o) a b c (set_sign o) a.form c.form

unfoldable pub set_three : Set → Shown → Shown → Shown → Option Shown
set_three set.Member a b c = Some (value 1 (value_text a 2 ++ (codes " IN " ++ counted_text b c)))
set_three o a b c = one_counted o a b c

abbrev pub four_by : ℕ → Shown → Shown → Shown → Shown → Option (List ℕ) → Option Shown
four_by k a b c d (Some sign) = Some (joined k (counted_text a b) sign (counted_text c d))
four_by k a b c d None = None

-- The text of an operation on two sets, both given by words and their count: four operands. If the first or the last
-- operand is a set, the result is `None`, because then the words of the other set are two operands.
unfoldable pub set_four : Set → Shown → Shown → Shown → Shown → Option Shown
set_four o a b c d =
    if is_set a.form || is_set d.form then None else four_by (set_strength o) a b c d (set_sign o)
