-- Laws of the form that `--form auto` selects.
use Rattle.std.proofs.Common.{◌≡◌, ◌⊎◌, inl, inr, ℕ, Bool, true, false, List, Option, None, Some, refl, sym, subst, ◌∙◌}
use Rattle.std.specs.List.{filter}
use Rattle.pm_check.specs.Forms.{form_seen}
use Rattle.pm_check.specs.declared.note.Form.{Form as Noted}
use Rattle.pm_check.specs.declared.order.Order.TheVariants as orders
use Rattle.pm_forms.specs.AutoForm.{all_forms, forms_of, found_form, noted_form, only_form, opens}
use Rattle.pm_forms.specs.Worked.{AreTwo, WorkedAuto}
use Rattle.pm_forms.specs.declared.form.Form.{Form}
use Rattle.pm_forms.specs.declared.form.Form.TheVariants as forms

-- Whether an image opens in a form, if it is given for each of the four forms.
abbrev opening : Bool → Bool → Bool → Bool → Form → Bool
opening b d s h (forms.In orders.Blocks) = b
opening b d s h (forms.In orders.Dos) = d
opening b d s h (forms.In orders.Swapped) = s
opening b d s h forms.Headed = h

opened : (image : List ℕ) (form : Form) → opens image form
    ≡ opening (opens image (forms.In orders.Blocks)) (opens image (forms.In orders.Dos))
    (opens image (forms.In orders.Swapped)) (opens image forms.Headed) form
opened image (forms.In orders.Blocks) = refl
opened image (forms.In orders.Dos) = refl
opened image (forms.In orders.Swapped) = refl
opened image forms.Headed = refl

alone_of : (remark : Option Noted) (b d s h : Bool) (form other : Form)
    → only_form remark (filter (opening b d s h) all_forms) ≡ Some form → opening b d s h other ≡ true → other ≡ form
alone_of remark true true s h form other found is = cc
alone_of remark true false true h form other found is = cc
alone_of remark true false false true form other found is = cc
alone_of remark true false false false form (forms.In orders.Blocks) found is = cc
alone_of remark true false false false form (forms.In orders.Dos) found is = cc
alone_of remark true false false false form (forms.In orders.Swapped) found is = cc
alone_of remark true false false false form forms.Headed found is = cc
alone_of remark false true true h form other found is = cc
alone_of remark false true false true form other found is = cc
alone_of remark false true false false form (forms.In orders.Blocks) found is = cc
alone_of remark false true false false form (forms.In orders.Dos) found is = cc
alone_of remark false true false false form (forms.In orders.Swapped) found is = cc
alone_of remark false true false false form forms.Headed found is = cc
alone_of remark false false true true form other found is = cc
alone_of remark false false true false form (forms.In orders.Blocks) found is = cc
alone_of remark false false true false form (forms.In orders.Dos) found is = cc
alone_of remark false false true false form (forms.In orders.Swapped) found is = cc
alone_of remark false false true false form forms.Headed found is = cc
alone_of remark false false false true form (forms.In orders.Blocks) found is = cc
alone_of remark false false false true form (forms.In orders.Dos) found is = cc
alone_of remark false false false true form (forms.In orders.Swapped) found is = cc
alone_of remark false false false true form forms.Headed found is = cc
alone_of remark false false false false form (forms.In orders.Blocks) found is = cc
alone_of remark false false false false form (forms.In orders.Dos) found is = cc
alone_of remark false false false false form (forms.In orders.Swapped) found is = cc
alone_of remark false false false false form forms.Headed found is = cc

selected_of : (remark : Option Noted) (b d s h : Bool) (form : Form)
    → only_form remark (filter (opening b d s h) all_forms) ≡ Some form
    → (opening b d s h form ≡ true) ⊎ (form ≡ noted_form remark)
selected_of remark true true s h form found = cc
selected_of remark true false true h form found = cc
selected_of remark true false false true form found = cc
selected_of remark true false false false (forms.In orders.Blocks) found = inl refl
selected_of remark true false false false (forms.In orders.Dos) found = cc
selected_of remark true false false false (forms.In orders.Swapped) found = cc
selected_of remark true false false false forms.Headed found = cc
selected_of remark false true true h form found = cc
selected_of remark false true false true form found = cc
selected_of remark false true false false (forms.In orders.Blocks) found = cc
selected_of remark false true false false (forms.In orders.Dos) found = inl refl
selected_of remark false true false false (forms.In orders.Swapped) found = cc
selected_of remark false true false false forms.Headed found = cc
selected_of remark false false true true form found = cc
selected_of remark false false true false (forms.In orders.Blocks) found = cc
selected_of remark false false true false (forms.In orders.Dos) found = cc
selected_of remark false false true false (forms.In orders.Swapped) found = inl refl
selected_of remark false false true false forms.Headed found = cc
selected_of remark false false false true (forms.In orders.Blocks) found = cc
selected_of remark false false false true (forms.In orders.Dos) found = cc
selected_of remark false false false true (forms.In orders.Swapped) found = cc
selected_of remark false false false true forms.Headed found = inl refl
selected_of remark false false false false form found = inr cc

two_of : (image : List ℕ) (remark : Option Noted) (b d s h : Bool) → opens image (forms.In orders.Blocks) ≡ b
    → opens image (forms.In orders.Dos) ≡ d → opens image (forms.In orders.Swapped) ≡ s → opens image forms.Headed ≡ h
    → only_form remark (filter (opening b d s h) all_forms) ≡ None → AreTwo image
two_of image remark true true s h blocks dos swapped headed found = record {
  first = forms.In orders.Blocks;
  second = forms.In orders.Dos;
  apart = λ same. cc;
  first_opens = blocks;
  second_opens = dos;
}
two_of image remark true false true h blocks dos swapped headed found = record {
  first = forms.In orders.Blocks;
  second = forms.In orders.Swapped;
  apart = λ same. cc;
  first_opens = blocks;
  second_opens = swapped;
}
two_of image remark true false false true blocks dos swapped headed found = record {
  first = forms.In orders.Blocks;
  second = forms.Headed;
  apart = λ same. cc;
  first_opens = blocks;
  second_opens = headed;
}
two_of image remark true false false false blocks dos swapped headed found = cc
two_of image remark false true true h blocks dos swapped headed found = record {
  first = forms.In orders.Dos;
  second = forms.In orders.Swapped;
  apart = λ same. cc;
  first_opens = dos;
  second_opens = swapped;
}
two_of image remark false true false true blocks dos swapped headed found = record {
  first = forms.In orders.Dos;
  second = forms.Headed;
  apart = λ same. cc;
  first_opens = dos;
  second_opens = headed;
}
two_of image remark false true false false blocks dos swapped headed found = cc
two_of image remark false false true true blocks dos swapped headed found = record {
  first = forms.In orders.Swapped;
  second = forms.Headed;
  apart = λ same. cc;
  first_opens = swapped;
  second_opens = headed;
}
two_of image remark false false true false blocks dos swapped headed found = cc
two_of image remark false false false true blocks dos swapped headed found = cc
two_of image remark false false false false blocks dos swapped headed found = cc

alone : (image : List ℕ) (form other : Form) → found_form image ≡ Some form → opens image other ≡ true → other ≡ form
unfolding forms_of
alone image form other found is =
    alone_of (form_seen image) (opens image (forms.In orders.Blocks)) (opens image (forms.In orders.Dos))
    (opens image (forms.In orders.Swapped)) (opens image forms.Headed) form other found (sym (opened image other) ∙ is)

selected : (image : List ℕ) (form : Form) → found_form image ≡ Some form
    → (opens image form ≡ true) ⊎ (form ≡ noted_form (form_seen image))
unfolding forms_of
selected image form found =
    subst (λ is. (is ≡ true) ⊎ (form ≡ noted_form (form_seen image))) (sym (opened image form))
    (selected_of (form_seen image) (opens image (forms.In orders.Blocks)) (opens image (forms.In orders.Dos))
    (opens image (forms.In orders.Swapped)) (opens image forms.Headed) form found)

two : (image : List ℕ) → found_form image ≡ None → AreTwo image
unfolding forms_of
two image found =
    two_of image (form_seen image) (opens image (forms.In orders.Blocks)) (opens image (forms.In orders.Dos))
    (opens image (forms.In orders.Swapped)) (opens image forms.Headed) refl refl refl refl found

noted : (image : List ℕ) → ((form : Form) → opens image form ≡ false)
    → found_form image ≡ Some (noted_form (form_seen image))
unfolding forms_of
noted image none = rw (
  none (forms.In orders.Blocks),
  none (forms.In orders.Dos),
  none (forms.In orders.Swapped),
  none forms.Headed,
) refl

pub worked_auto : WorkedAuto
worked_auto = record { alone = alone; selected = selected; two = two; noted = noted }
