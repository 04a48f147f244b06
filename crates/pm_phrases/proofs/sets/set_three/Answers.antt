use Rattle.std.proofs.Common.{rules, ◌≡◌, string_bytes, ℕ, List, ◌++◌, ◌+◌, append_assoc, ap, ◌∙◌}
use Rattle.std.specs.Prelude.{codes}
use Rattle.pm_phrases.specs.Sets as texts
use Rattle.pm_phrases.specs.Shown.{Shown, value_text}
use Rattle.pm_phrases.proofs.Offsets.{text_joined}
use Rattle.pm_phrases.proofs.sets.set_three.Goals as goal

pub returns-in_ok-push_operand-in-Some-default-Set : goal.returns-in_ok-push_operand-in-Some-default-Set
unfolding texts.set_three texts.one_counted
returns-in_ok-push_operand-in-Some-default-Set c =
    let a : Shown = c.args.a.now in
    let b : Shown = c.args.b.now in
    let d : Shown = c.args.c.now in
    let sign : List ℕ = c.in-Some-default-Set.sign.now in
    let last : List ℕ = value_text d (c.in-Some-default-Set.strength + 1) in
    let one : string_bytes c.push_counted-in-Some-default-Set.new.out ≡ texts.counted_text a b = search rules in
    let two : string_bytes c.push_sign-in-Some-default-Set.new.out
    ≡ string_bytes c.push_counted-in-Some-default-Set.new.out ++ (codes " " ++ (sign ++ codes " ")) = search rules in
    let three : string_bytes c.push_operand-in-Some-default-Set.new.out
    ≡ string_bytes c.push_sign-in-Some-default-Set.new.out ++ last = search rules in
    let all : string_bytes c.push_operand-in-Some-default-Set.new.out
    ≡ texts.counted_text a b ++ (codes " " ++ (sign ++ (codes " " ++ last))) =
    text_joined (string_bytes c.push_counted-in-Some-default-Set.new.out) (string_bytes c.push_sign-in-Some-default-Set.new.out)
    (string_bytes c.push_operand-in-Some-default-Set.new.out) (codes " " ++ (sign ++ codes " ")) last two three
    ∙ ap (λ t. t ++ ((codes " " ++ (sign ++ codes " ")) ++ last)) one
    ∙ ap (λ t. texts.counted_text a b ++ (codes " " ++ t)) (append_assoc sign (codes " ") last) in
    search (rules, all)
