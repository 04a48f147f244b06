-- The texts of leaves. A leaf is a text that is generated when it is appended to another text.
use Rattle.std.specs.Prelude.{ℕ, Bool, List, [], string_bytes}
use Rattle.pm_code.specs.Item.{Item}
use Rattle.pm_code.specs.Item.Item.{Plain, OneByte}
use Rattle.pm_code.specs.Text.{signed_text}
use Rattle.pm_phrases.specs.declared.leaf.Bare.{Bare}
use Rattle.pm_phrases.specs.declared.leaf.Bare.TheVariants as bare
use Rattle.pm_phrases.specs.declared.leaf.Leaf.{Leaf}
use Rattle.pm_phrases.specs.declared.leaf.Leaf.TheVariants as leaf
use Rattle.pm_phrases.specs.declared.leaf.Text.{Text}
use Rattle.pm_phrases.specs.declared.leaf.Text.TheVariants as texts
use Rattle.pm_phrases.specs.Missing.{share_text, stand_ins}
use Rattle.pm_phrases.specs.Shown.{braced}
use Rattle.pm_phrases.specs.Variables.{variable_text}

-- An instruction to which no bytes belong.
abbrev pub instruction : ℕ → ℕ → ℕ → Bool → Item ℕ
instruction op a b long =
    Plain (record { op = op; a = a; b = b; c = 0; long = long; start = 0; count = 0; len = 0 }) []

abbrev pub item_of : Bare → Item ℕ
item_of (bare.Instruction op a b long) = instruction op a b long
item_of (bare.OneByte b) = OneByte b

abbrev pub leaf_text : Leaf → List ℕ
leaf_text (leaf.Number w) = signed_text w
leaf_text (leaf.Variable around scope n s) = variable_text around scope n s
leaf_text (leaf.Fixed text) = text.now
leaf_text (leaf.StandIn share) = share_text share
leaf_text (leaf.Braced b known missing) = braced (item_of b) (stand_ins known missing)

abbrev pub bytes_of : Text → List ℕ
bytes_of (texts.Written text) = string_bytes text
bytes_of (texts.Leaf l) = leaf_text l
