-- The texts of operations on addresses.
use Rattle.std.specs.Prelude.{ℕ, Bool, false, ◌==◌, if◌then◌else◌, ◌++◌, codes, Option, Some, None}
use Rattle.std.specs.Fmt.{decimal}
use Rattle.pm_families.specs.declared.families.Pointer.{Pointer}
use Rattle.pm_families.specs.declared.families.Pointer.TheVariants as pointer
use Rattle.pm_phrases.specs.declared.operand.Form.{Form}
use Rattle.pm_phrases.specs.declared.operand.Form.TheVariants as form
use Rattle.pm_phrases.specs.declared.spelling.Spelling.{Spelling}
use Rattle.pm_phrases.specs.declared.spelling.Spelling.TheVariants as spelling
use Rattle.pm_phrases.specs.Shown.{Shown, place_text, standing, stored_text, value, value_text}
use Rattle.pm_phrases.specs.Spelled.{marked}

-- Is true if the text of a load of word `n` omits this number. This holds for word 0 in the shortest encoding, except
-- of a variable, a field or a literal. The reason is that `x` and `x.k` are values themselves.
unfoldable pub is_unnumbered : Spelling → Form → ℕ → Bool
is_unnumbered s form.Variable n = false
is_unnumbered s form.Place n = false
is_unnumbered s form.Literal n = false
is_unnumbered spelling.Shortest _ n = n == 0
is_unnumbered _ _ n = false

-- The text of SIND or IND: word `n` from the address `a`.
unfoldable pub loaded : Spelling → ℕ → Shown → Shown
loaded s n a =
    if is_unnumbered s a.form n then value 9 (place_text a) else value 9 (place_text a ++ (codes "." ++ marked n s))

-- The text of INC, SIND, IND or LDM with the address `a`.
unfoldable pub pointer_one : Spelling → Pointer → Shown → Option Shown
pointer_one s (pointer.Increment n) a = Some (standing form.Place (place_text a ++ (codes "." ++ marked n s)))
pointer_one s (pointer.Load n) a = Some (loaded s n a)
pointer_one s (pointer.LoadWords n) a = Some (value 4 (codes "load[" ++ (decimal n ++ (codes "] " ++ place_text a))))
pointer_one s _ a = None

unfoldable pub is_by_word : Spelling → ℕ → Bool
is_by_word spelling.Shortest n = n == 1
is_by_word _ n = false

-- The text of IXA: element `b` of the array at `a`. The size `n` of an element is shown if it is not one word.
unfoldable pub indexed : Spelling → ℕ → Shown → Shown → Shown
indexed s n a b =
    if is_by_word s n then standing form.Element (place_text a ++ (codes "[" ++ (value_text b 0 ++ codes "]")))
    else standing form.Element
    (place_text a ++ (codes "[" ++ (value_text b 0 ++ (codes ":" ++ (marked n s ++ codes "]")))))

-- The text of MOV: `n` words are moved from the address `b` to the address `a`.
unfoldable pub moved : Spelling → ℕ → Shown → Shown → Shown
moved s n a b = value 0 (place_text a ++ (codes " := move[" ++ (marked n s ++ (codes "] " ++ place_text b))))

-- The text of IXA, STO, STM or MOV with two operands.
unfoldable pub pointer_two : Spelling → Pointer → Shown → Shown → Option Shown
pointer_two s (pointer.Index n) a b = Some (indexed s n a b)
pointer_two s pointer.Store a b = Some (value 0 (stored_text a ++ (codes " := " ++ value_text b 0)))
pointer_two s (pointer.StoreWords n) a b =
    Some (value 0 (place_text a ++ (codes " :=[" ++ (decimal n ++ (codes "] " ++ value_text b 0)))))
pointer_two s (pointer.Move n) a b = Some (moved s n a b)
pointer_two s _ a b = None
