use Rattle.std.proofs.Common.{rules, ◌≡◌, ◌++◌, ◌∷◌, ◌∙◌, [], List, ℕ, ap, length, string_bytes}
use Rattle.std.specs.Prelude.{codes}
use Rattle.pm_code.specs.Image.{listed_line}
use Rattle.pm_code.specs.Program.{back_to}
use Rattle.pm_code.specs.Shown.{entry_line, label_text}
use Rattle.pm_code.proofs.ListedMore.{added, entry_label}
use Rattle.pm_code.proofs.listing.list_entry.Goals as goal

pub returns-clause-text : goal.returns-clause-text
returns-clause-text c =
    let segment : ℕ = c.args.place.segment in
    let number : ℕ = c.args.place.procedure in
    let leads : ℕ = c.args.leads in
    let before : List ℕ = c.args.bytes.now.items in
    let first : List ℕ = string_bytes c.args.text.now in
    let second : List ℕ = string_bytes c.push_front.new.text in
    let at : ℕ = c.len-at.result in
    let begins : at ≡ length before = search rules in
    let part = added before c.push_distance.new.out.items (back_to (length before) leads) c.deref.result.now at begins
    c.in_ok-push_distance.ensures.bytes c.deref.ensures.value in
    let line : string_bytes c.writeln.new.self ≡ second ++ ((codes ".JUMP " ++ label_text leads) ++ (10 ∷ [])) = search rules in
    line
    ∙ ap (λ what. second ++ (what ++ (10 ∷ []))) (entry_label leads)
    ∙ c.in_ok-push_front.ensures.text (entry_line leads)
    ∙ ap (λ bs. first ++ listed_line segment (record { procedure = number; at = at; bytes = bs; what = entry_line leads })) part
    ∙ ap (λ n. first ++ listed_line segment (record {
      procedure = number;
      at = n;
      bytes = back_to (length before) leads;
      what = entry_line leads;
    })) begins
