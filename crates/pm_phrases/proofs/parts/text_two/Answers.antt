use Rattle.std.proofs.Common.{rules, ◌≡◌, string_bytes, ℕ, ◌++◌, append_assoc, sym, ap, ◌∙◌}
use Rattle.std.specs.Prelude.{codes}
use Rattle.std.specs.Fmt.{decimal}
use Rattle.pm_phrases.specs.Parts as texts
use Rattle.pm_phrases.specs.Shown.{Shown, place_text, value}
use Rattle.pm_phrases.proofs.Offsets.{text_joined}
use Rattle.pm_phrases.proofs.parts.text_two.Goals as goal

pub returns-in_ok-push_place-in-Assign-2 : goal.returns-in_ok-push_place-in-Assign-2
unfolding texts.text_two
returns-in_ok-push_place-in-Assign-2 c =
    let n : ℕ = c.in-Assign.n in
    let a : Shown = c.args.a.now in
    let b : Shown = c.args.b.now in
    let one : string_bytes c.push_place-in-Assign.new.out ≡ place_text a = search rules in
    let two : string_bytes c.push_sized.new.out
    ≡ string_bytes c.push_place-in-Assign.new.out ++ (codes " := string[" ++ (decimal n ++ codes "] ")) = search rules in
    let three : string_bytes c.push_place-in-Assign-2.new.out ≡ string_bytes c.push_sized.new.out ++ place_text b = search rules in
    let all : string_bytes c.push_place-in-Assign-2.new.out
    ≡ string_bytes c.push_place-in-Assign.new.out ++ ((codes " := string[" ++ (decimal n ++ codes "] ")) ++ place_text b) =
    text_joined (string_bytes c.push_place-in-Assign.new.out) (string_bytes c.push_sized.new.out)
    (string_bytes c.push_place-in-Assign-2.new.out) (codes " := string[" ++ (decimal n ++ codes "] ")) (place_text b) two three in
    let text : (codes " := string[" ++ (decimal n ++ codes "] ")) ++ place_text b
    ≡ codes " := string[" ++ (decimal n ++ (codes "] " ++ place_text b)) =
    ap (λ t. codes " := string[" ++ t) (append_assoc (decimal n) (codes "] ") (place_text b)) in
    record {
      shown =
          c.valued.ensures.value
          ∙ ap (value 0) (all ∙ ap (λ t. t ++ ((codes " := string[" ++ (decimal n ++ codes "] ")) ++ place_text b)) one
          ∙ ap (λ t. place_text a ++ t) text)
          ∙ ap (λ w. texts.text_two w a b) (sym c.in-Assign.is);
    }
