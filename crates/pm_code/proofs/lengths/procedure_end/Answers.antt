use Rattle.std.proofs.Common.{rules, ◌≡◌, ◌+◌, ◌*◌, ◌∙◌, ap, arith, length, map}
use Rattle.pm_code.specs.Program.{code_end, end_of}
use Rattle.pm_code.specs.Views.{placed_item, procedure_seen}
use Rattle.pm_code.proofs.lengths.procedure_end.Goals as goal

pub returns-clause-end : goal.returns-clause-end
returns-clause-end c =
    let p = procedure_seen c.args.procedure.now in
    let code : c.in_ok-code.code ≡ code_end p = c.in_ok-code.ensures.end ∙ ap (λ is. end_of p.start (map placed_item is)) c.deref.ensures.value in
    let count : c.len.result ≡ length p.entries = search rules in
    omega (arith, code, count, c.in_ok-entries.ensures.1, c.in_ok-checked_add.ensures.1, c.in_ok-end.ensures.1)
