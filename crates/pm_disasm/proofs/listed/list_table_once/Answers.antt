use Rattle.std.proofs.Common.{◌≡◌, ◌∙◌, ◌++◌, List, ℕ, ap, subst, string_bytes, sym}
use Rattle.std.specs.List.{AllByRecursion}
use Rattle.pm_disasm.specs.Listing.{table_listing}
use Rattle.pm_disasm.proofs.Readings.{given}
use Rattle.pm_disasm.proofs.listed.list_table_once.Goals as goal

pub returns-in-Some-clause-text : goal.returns-in-Some-clause-text
returns-in-Some-clause-text c =
    let slot : ℕ = c.args.slot in
    let segment : List ℕ = c.args.segment.now in
    let kept = subst (λ ss. AllByRecursion (λ s. string_bytes s.text ≡ table_listing slot segment s.table) ss) (sym c.deref.ensures.value) c.requires.listed in
    let known : c.in-Some.known.now ≡ table_listing slot segment c.args.a =
    given (λ text. text.now ≡ table_listing slot segment c.args.a) c.text_of.result c.in-Some.known c.in-Some.is
    (c.text_of.ensures.text (table_listing slot segment) kept) in
    c.in_ok-push_str.ensures.bytes ∙ ap (λ bytes. string_bytes c.args.text.now ++ bytes) known
