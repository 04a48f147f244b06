-- The value of `--form` on the command line.
use Rattle.std.specs.Prelude.{◌≡◌, ⊤, ℕ, List, Option, None, Some, IsSome}
use Rattle.pm_check.specs.declared.order.Order.TheVariants as orders
use Rattle.pm_forms.specs.Forms.{choice_named}
use Rattle.pm_forms.specs.declared.form.Form.TheVariants as forms
use Rattle.pm_forms.specs.declared.form.FormChoice.{FormChoice}
use Rattle.pm_forms.specs.declared.form.FormChoice.TheVariants as choices

-- Is true if `choice` is what `--form` specifies. The first argument is its value before the verb, and the second its
-- value after the verb. At most one of them can be given. The default is `In Blocks` for all images.
abbrev pub AsksForm : Option (List ℕ) → Option (List ℕ) → FormChoice → Type 0
AsksForm None None choice = choice ≡ choices.Named (forms.In orders.Blocks)
AsksForm (Some word) None choice = choice_named word ≡ Some choice
AsksForm None (Some word) choice = choice_named word ≡ Some choice
AsksForm (Some before) (Some behind) choice = ⊥

-- Is true if `--form` is valid: its value is `auto` or names one of the four forms, and it is not given both before and
-- after the verb.
abbrev pub IsFormWord : Option (List ℕ) → Option (List ℕ) → Type 0
IsFormWord None None = ⊤
IsFormWord (Some word) None = IsSome (choice_named word)
IsFormWord None (Some word) = IsSome (choice_named word)
IsFormWord (Some before) (Some behind) = ⊥
