use Rattle.std.proofs.Common.{rules, ◌≡◌, ◌-◌, ◌++◌, ◌∷◌, ◌∙◌, [], List, ℕ, ap, arith, length, string_bytes}
use Rattle.std.specs.Prelude.{codes}
use Rattle.pm_code.specs.Image.{listed_line}
use Rattle.pm_code.specs.Program.{attribute_bytes, jtab_of}
use Rattle.pm_code.specs.Views.{procedure_seen}
use Rattle.pm_code.proofs.ListedMore.{added}
use Rattle.pm_code.proofs.listing.list_attributes.Goals as goal

pub returns-clause-text : goal.returns-clause-text
returns-clause-text c =
    let p = procedure_seen c.args.procedure.now in
    let segment : ℕ = c.args.place.segment in
    let number : ℕ = c.args.place.procedure in
    let before : List ℕ = c.args.bytes.now.items in
    let first : List ℕ = string_bytes c.args.text.now in
    let at : ℕ = c.len-at.result in
    let begins : at ≡ length before = search rules in
    let part = added before c.push_attributes.new.out.items (attribute_bytes number p) c.deref.result.now at begins
    c.in_ok-push_attributes.ensures.bytes c.deref.ensures.value in
    let line : string_bytes c.writeln.new.self ≡ string_bytes c.push_front.new.text ++ (codes ".ATTR" ++ (10 ∷ [])) = search rules in
    let place : at ≡ jtab_of p - 8 = omega (arith, begins, c.requires.there) in
    line
    ∙ c.in_ok-push_front.ensures.text (codes ".ATTR")
    ∙ ap (λ bs. first ++ listed_line segment (record { procedure = number; at = at; bytes = bs; what = codes ".ATTR" })) part
    ∙ ap (λ n. first ++ listed_line segment (record { procedure = number; at = n; bytes = attribute_bytes number p; what = codes ".ATTR" })) place
