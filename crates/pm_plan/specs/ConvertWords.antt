-- The arguments of `convert`.
use Rattle.std.specs.Prelude.{◌≡◌, ◌≢◌, ⊤, ℕ, Bool, false, true, List, [], Option, None, Some, string_bytes}
use Rattle.pm_convert.specs.Formats.{format_named}
use Rattle.pm_convert.specs.declared.format.ByteOrder.TheVariants as orders
use Rattle.pm_convert.specs.declared.format.Cover.TheVariants as covers
use Rattle.pm_convert.specs.declared.format.Format.{Format}
use Rattle.pm_plan.specs.declared.convert_words.Target.{Target}
use Rattle.pm_plan.specs.declared.convert_words.Target.TheVariants as targets

-- The format of an image with its blocks in order and without a header.
abbrev pub plain : Format
plain = record { cover = covers.Bare; order = orders.Blocks }

-- The format that the word of an option names, if the option is given.
abbrev pub IsFormat : Option (List ℕ) → Option Format → Type 0
IsFormat None format = format ≡ None
IsFormat (Some word) format = (format ≡ format_named word) × (format_named word ≢ None)

-- Is true if the word names a format.
abbrev pub IsGoodFormat : Option (List ℕ) → Type 0
IsGoodFormat None = ⊤
IsGoodFormat (Some word) = format_named word ≢ None

-- The format of the new image. Without options it is blocks in order. `--as` names a format, and `--back` an image.
abbrev pub IsTarget : Option (List ℕ) → Option (List ℕ) → Target → Type 0
IsTarget None None (targets.As format) = format ≡ plain
IsTarget (Some word) None (targets.As format) = format_named word ≡ Some format
IsTarget None (Some path) (targets.Back image) = path ≡ string_bytes image
IsTarget _ _ _ = ⊥

-- Is true if `--as` and `--back` are not both given, and `--as` names a format, and the path of `--back` is not empty.
abbrev pub IsGoodTarget : Option (List ℕ) → Option (List ℕ) → Type 0
IsGoodTarget None None = ⊤
IsGoodTarget (Some word) None = format_named word ≢ None
IsGoodTarget None (Some path) = path ≢ []
IsGoodTarget (Some word) (Some path) = ⊥

-- Is true if a new image is named, or no option is given that requires one.
abbrev pub HasNew : Option (List ℕ) → Bool → Type 0
HasNew (Some new) options = ⊤
HasNew None false = ⊤
HasNew None true = ⊥
