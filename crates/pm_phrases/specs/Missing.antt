-- The stand-ins for the part of an operation's input that no operand supplies. A share is a part of the stack: a number
-- of words, or a set. A stand-in is a text, such as `POP`, that represents a missing share.
use Rattle.std.specs.Prelude.{ℕ, Bool, List, [], ◌∷◌, ◌++◌, ◌==◌, if◌then◌else◌, codes}
use Rattle.std.specs.Fmt.{decimal}
use Rattle.pm_effects.specs.declared.effect.Share.{Share}
use Rattle.pm_effects.specs.declared.effect.Share.TheVariants as share
use Rattle.pm_phrases.specs.declared.around.Missing.{Missing}
use Rattle.pm_phrases.specs.declared.operand.Form.TheVariants as form
use Rattle.pm_phrases.specs.Shown.{Shown, standing, value}

-- The text that represents a share on top of the stack: `POP` for one word, `POP*n` for `n` words, `POP SET` for a set.
abbrev pub share_text : Share → List ℕ
share_text (share.Words n) = if n == 1 then codes "POP" else codes "POP*" ++ decimal n
share_text share.Set = codes "POP SET"

-- The operand that represents a missing share. Words are a value, and a set is a set. Neither needs parentheses.
abbrev pub stand_in : Share → Shown
stand_in (share.Words n) = value 9 (share_text (share.Words n))
stand_in share.Set = standing (form.Set 9) (share_text share.Set)

-- The stand-in for a share as a list. The list is empty for 0 words.
abbrev pub pop_of : Share → List Shown
pop_of (share.Words n) = if n == 0 then [] else stand_in (share.Words n) ∷ []
pop_of share.Set = stand_in share.Set ∷ []

-- The stand-ins for both missing shares. The lower share on the stack comes first.
abbrev pub pops_of : Missing → List Shown
pops_of m = pop_of m.below ++ pop_of m.top

-- The stand-ins for the missing operands `m`. If the input is not known (`known` is false), the only stand-in is `?`.
abbrev pub stand_ins : Bool → Missing → List Shown
stand_ins known m = if known then pops_of m else value 9 (codes "?") ∷ []
