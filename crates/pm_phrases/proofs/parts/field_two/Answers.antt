use Rattle.std.proofs.Common.{rules, ◌≡◌, string_bytes, ℕ, List, ◌++◌, Some, sym, ap, ◌∙◌}
use Rattle.std.specs.Prelude.{codes}
use Rattle.std.specs.Fmt.{decimal}
use Rattle.pm_phrases.specs.declared.operand.Form.TheVariants as form
use Rattle.pm_phrases.specs.Parts as texts
use Rattle.pm_phrases.specs.Shown.{Shown, place_text, standing, value_text}
use Rattle.pm_phrases.proofs.Offsets.{text_joined}
use Rattle.pm_phrases.proofs.parts.field_two.Goals as goal

pub returns-in_ok-push_str-in-Index-default-4 : goal.returns-in_ok-push_str-in-Index-default-4
unfolding texts.field_two texts.packed
returns-in_ok-push_str-in-Index-default-4 c =
    let items : ℕ = c.in-Index-default.per_word in
    let width : ℕ = c.in-Index-default.width in
    let a : Shown = c.args.a.now in
    let b : Shown = c.args.b.now in
    let one : string_bytes c.push_place.new.out ≡ place_text a = search rules in
    let two : string_bytes c.push_str.new.self ≡ string_bytes c.push_place.new.out ++ codes ".packed[" = search rules in
    let three : string_bytes c.push_value.new.out ≡ string_bytes c.push_str.new.self ++ value_text b 0 = search rules in
    let four : string_bytes c.push_str-in-Index-default.new.self ≡ string_bytes c.push_value.new.out ++ codes ": " = search rules in
    let five : string_bytes c.push_number.new.out ≡ string_bytes c.push_str-in-Index-default.new.self ++ decimal items = search rules in
    let six : string_bytes c.push_str-in-Index-default-2.new.self ≡ string_bytes c.push_number.new.out ++ codes " of " = search rules in
    let seven : string_bytes c.push_number-in-Index-default.new.out
    ≡ string_bytes c.push_str-in-Index-default-2.new.self ++ decimal width = search rules in
    let eight : string_bytes c.push_str-in-Index-default-3.new.self
    ≡ string_bytes c.push_number-in-Index-default.new.out ++ codes " bits]" = search rules in
    let whole : List ℕ = string_bytes c.push_str-in-Index-default-3.new.self in
    let from_width : List ℕ = decimal width ++ codes " bits]" in
    let from_items : List ℕ = decimal items ++ (codes " of " ++ from_width) in
    let to_seven : whole ≡ string_bytes c.push_str-in-Index-default-2.new.self ++ from_width =
    text_joined (string_bytes c.push_str-in-Index-default-2.new.self) (string_bytes c.push_number-in-Index-default.new.out)
    whole (decimal width) (codes " bits]") seven eight in
    let to_six : whole ≡ string_bytes c.push_number.new.out ++ (codes " of " ++ from_width) =
    text_joined (string_bytes c.push_number.new.out) (string_bytes c.push_str-in-Index-default-2.new.self)
    whole (codes " of ") from_width six to_seven in
    let to_five : whole ≡ string_bytes c.push_str-in-Index-default.new.self ++ from_items =
    text_joined (string_bytes c.push_str-in-Index-default.new.self) (string_bytes c.push_number.new.out)
    whole (decimal items) (codes " of " ++ from_width) five to_six in
    let to_four : whole ≡ string_bytes c.push_value.new.out ++ (codes ": " ++ from_items) =
    text_joined (string_bytes c.push_value.new.out) (string_bytes c.push_str-in-Index-default.new.self)
    whole (codes ": ") from_items four to_five in
    let to_three : whole ≡ string_bytes c.push_str.new.self ++ (value_text b 0 ++ (codes ": " ++ from_items)) =
    text_joined (string_bytes c.push_str.new.self) (string_bytes c.push_value.new.out)
    whole (value_text b 0) (codes ": " ++ from_items) three to_four in
    let to_two : whole ≡ string_bytes c.push_place.new.out ++ (codes ".packed[" ++ (value_text b 0 ++ (codes ": " ++ from_items))) =
    text_joined (string_bytes c.push_place.new.out) (string_bytes c.push_str.new.self)
    whole (codes ".packed[") (value_text b 0 ++ (codes ": " ++ from_items)) two to_three in
    record {
      shown =
          ap Some (c.standing.ensures.standing ∙ ap (standing form.Bits) (to_two
          ∙ ap (λ t. t ++ (codes ".packed[" ++ (value_text b 0 ++ (codes ": " ++ from_items)))) one))
          ∙ ap (λ w. texts.field_two w a b) (sym c.in-Index-default.is-0);
    }
