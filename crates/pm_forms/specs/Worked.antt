-- Laws of the form that `--form auto` selects.
use Rattle.std.specs.Prelude.{◌≡◌, ◌≢◌, ◌⊎◌, ℕ, List, true, false, None, Some}
use Rattle.pm_check.specs.Forms.{form_seen}
use Rattle.pm_forms.specs.AutoForm.{found_form, noted_form, opens}
use Rattle.pm_forms.specs.declared.form.Form.{Form}

-- The image opens in two different forms.
pub record AreTwo (image : List ℕ) : Type 0 where
  pub first : Form
  pub second : Form
  pub apart : first ≢ second
  pub first_opens : opens image first ≡ true
  pub second_opens : opens image second ≡ true

-- The form that `--form auto` selects for an image. The image opens in no other form. The image opens in this form, or
-- it is the form that `check` notes. No form is selected only if the image opens in two forms. If the image opens in no
-- form, the form that `check` notes is selected.
pub record WorkedAuto : Type 0 where
  pub alone : (image : List ℕ) (form other : Form) → found_form image ≡ Some form → opens image other ≡ true
      → other ≡ form
  pub selected : (image : List ℕ) (form : Form) → found_form image ≡ Some form
      → (opens image form ≡ true) ⊎ (form ≡ noted_form (form_seen image))
  pub two : (image : List ℕ) → found_form image ≡ None → AreTwo image
  pub noted : (image : List ℕ) → ((form : Form) → opens image form ≡ false)
      → found_form image ≡ Some (noted_form (form_seen image))
