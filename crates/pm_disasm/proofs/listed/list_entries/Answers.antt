use Rattle.std.proofs.Common.{rules, ◌≡◌, ◌∙◌, ◌+◌, ◌-◌, ◌*◌, ◌++◌, ◌∷◌, [], List, ℕ, ap, get_or, length, refl, string_bytes}
use Rattle.std.specs.Prelude.{codes}
use Rattle.pm_code.specs.Image.{listed_line}
use Rattle.pm_code.specs.Shown.{entry_line, label_text}
use Rattle.pm_code.proofs.ListedMore.{entry_label}
use Rattle.pm_disasm.specs.Listing.{stored}
use Rattle.pm_disasm.proofs.Stores.{entry_stored}
use Rattle.pm_disasm.proofs.listed.list_entries.Goals as goal

pub loop-done-preserved : goal.loop-done-preserved
loop-done-preserved c =
    let slot : ℕ = c.args.from.slot in
    let segment : List ℕ = c.args.from.segment.now in
    let number : ℕ = c.args.from.procedure in
    let entries : List ℕ = c.args.entries.now in
    let done : ℕ = c.loop-done.done in
    let at : ℕ = c.args.at + 2 * done in
    let place : ℕ = get_or entries (length entries - 1 - done) 0 in
    let before : List ℕ = string_bytes c.loop-done.text in
    let front : List ℕ = string_bytes c.push_front.new.text in
    let after : List ℕ = string_bytes c.writeln.new.self in
    let line : after ≡ front ++ ((codes ".JUMP " ++ label_text place) ++ (10 ∷ [])) = search rules in
    let whole : after ≡ before ++ listed_line slot (stored segment number at 2 (entry_line place)) =
    line ∙ ap (λ what. front ++ (what ++ (10 ∷ []))) (entry_label place) ∙ c.in_ok-push_front.ensures.text (entry_line place) in
    record {
      written = entry_stored slot segment number c.args.at (length entries) done entries before after _ c.loop-done-test.true refl whole
          c.loop-done.invariant.written;
    }
