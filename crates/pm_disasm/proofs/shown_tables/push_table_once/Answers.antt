use Rattle.std.proofs.Common.{◌≡◌, ◌∙◌, ◌++◌, List, ℕ, ap, subst, string_bytes, sym}
use Rattle.std.specs.List.{AllByRecursion}
use Rattle.pm_code.specs.Shown.{joined}
use Rattle.pm_disasm.specs.Shown.{table_lines}
use Rattle.pm_disasm.proofs.Readings.{given}
use Rattle.pm_disasm.proofs.shown_tables.push_table_once.Goals as goal

pub returns-in-Some-clause-text : goal.returns-in-Some-clause-text
returns-in-Some-clause-text c =
    let segment : List ℕ = c.args.segment.now in
    let kept = subst (λ ss. AllByRecursion (λ s. string_bytes s.text ≡ joined (table_lines segment s.table)) ss) (sym c.deref.ensures.value) c.requires.shown in
    let known : c.in-Some.known.now ≡ joined (table_lines segment c.args.a) =
    given (λ text. text.now ≡ joined (table_lines segment c.args.a)) c.text_of.result c.in-Some.known c.in-Some.is
    (c.text_of.ensures.text (λ a. joined (table_lines segment a)) kept) in
    c.in_ok-push_str.ensures.bytes ∙ ap (λ bytes. string_bytes c.args.text.now ++ bytes) known
