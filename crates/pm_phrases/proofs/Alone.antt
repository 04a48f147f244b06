-- Set operations on stand-ins only.
use Rattle.std.proofs.Common.{◌≡◌, List, ℕ, Some, ap, ◌∙◌}
use Rattle.std.specs.Prelude.{codes}
use Rattle.pm_effects.specs.declared.effect.Share.TheVariants as share
use Rattle.pm_families.specs.declared.families.Set.TheVariants as set
use Rattle.pm_phrases.specs.declared.operand.Form.{Form}
use Rattle.pm_phrases.specs.declared.operand.Form.TheVariants as form
use Rattle.pm_phrases.specs.Missing.{share_text, stand_in}
use Rattle.pm_phrases.specs.Sets as texts
use Rattle.pm_phrases.specs.Shown.{Shown, standing, value, value_text}

-- The operand `a` with the text and the form replaced.
abbrev with_text : Shown → List ℕ → Form → Shown
with_text a text form = record { text = text; form = form; words = a.words }

pub one_word : (a : Shown) → a.text ≡ share_text (share.Words 1) → a.form ≡ (stand_in (share.Words 1)).form
    → texts.set_one set.Singleton a ≡ Some (standing (form.Set 9) (codes "[POP]"))
unfolding texts.set_one value_text
one_word a e f =
    ap (λ kind. texts.set_one set.Singleton (with_text a a.text kind)) f
    ∙ ap (λ text. texts.set_one set.Singleton (with_text a text (form.Value 9))) e

pub word_and_set : (a b : Shown) → a.text ≡ share_text (share.Words 1) → a.form ≡ (stand_in (share.Words 1)).form
    → b.text ≡ share_text share.Set → b.form ≡ (stand_in share.Set).form
    → texts.set_two set.Member a b ≡ Some (value 1 (codes "POP IN POP SET"))
unfolding texts.set_two texts.set_text value_text
word_and_set a b e f g h =
    ap (λ kind. texts.set_two set.Member (with_text a a.text kind) b) f
    ∙ ap (λ text. texts.set_two set.Member (with_text a text (form.Value 9)) b) e
    ∙ ap (λ kind. texts.set_two set.Member (with_text a (codes "POP") (form.Value 9)) (with_text b b.text kind)) h
    ∙ ap (λ text. texts.set_two set.Member (with_text a (codes "POP") (form.Value 9)) (with_text b text (form.Set 9))) g
