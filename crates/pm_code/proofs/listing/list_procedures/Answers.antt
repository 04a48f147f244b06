use Rattle.std.proofs.Common.{rules, ◌≡◌, ◌≤◌, ◌+◌, ◌-◌, ◌++◌, ◌∙◌, List, ℕ, ap, drop, length, map, subst, sym, string_bytes}
use Rattle.std.specs.List.{AllByRecursion}
use Rattle.pm_code.specs.Image.{listed_lines, listed_procedures}
use Rattle.pm_code.specs.Program.{FollowFrom, IsProcedure, jtab_of, procedures_bytes, procedures_end}
use Rattle.pm_code.specs.Views.{procedure_seen}
use Rattle.pm_code.proofs.Lists.{there}
use Rattle.pm_code.proofs.Pushed.{procedure_long, procedure_more, procedure_short, procedure_table}
use Rattle.pm_code.proofs.listing.list_procedures.Goals as goal

pub list_procedure-requires-clause-procedure : goal.list_procedure-requires-clause-procedure
list_procedure-requires-clause-procedure c =
    let next = there c.args.procedures.now c.loop-done.done c.index-procedures-done.result c.loop-done-test.true c.index-procedures-done.is in
    (subst (λ ps. AllByRecursion IsProcedure (map procedure_seen ps)) next c.loop-done.invariant.good).0

pub list_procedure-requires-clause-start : goal.list_procedure-requires-clause-start
list_procedure-requires-clause-start c =
    let next = there c.args.procedures.now c.loop-done.done c.index-procedures-done.result c.loop-done-test.true c.index-procedures-done.is in
    (subst (λ ps. FollowFrom (length c.loop-done.bytes.items) (map procedure_seen ps)) next c.loop-done.invariant.follow).0

pub list_procedure-requires-clause-short : goal.list_procedure-requires-clause-short
list_procedure-requires-clause-short c =
    let next = there c.args.procedures.now c.loop-done.done c.index-procedures-done.result c.loop-done-test.true c.index-procedures-done.is in
    let at : ℕ = length c.loop-done.bytes.items in
    procedure_short at (procedure_seen c.index-procedures-done.result) (map procedure_seen (drop (c.loop-done.done + 1) c.args.procedures.now))
    (subst (λ ps. FollowFrom at (map procedure_seen ps)) next c.loop-done.invariant.follow)
    (subst (λ ps. AllByRecursion IsProcedure (map procedure_seen ps)) next c.loop-done.invariant.good)
    (subst (λ ps. procedures_end at (map procedure_seen ps) ≤ 65534) next c.loop-done.invariant.short)

pub loop-done-preserved : goal.loop-done-preserved
loop-done-preserved c =
    let next = there c.args.procedures.now c.loop-done.done c.index-procedures-done.result c.loop-done-test.true c.index-procedures-done.is in
    let number : ℕ = c.loop-done.done + 1 in
    let before : List ℕ = c.loop-done.bytes.items in
    let after : List ℕ = c.list_procedure.new.bytes.items in
    let p = procedure_seen c.index-procedures-done.result in
    let rest = map procedure_seen (drop (c.loop-done.done + 1) c.args.procedures.now) in
    let follow = subst (λ ps. FollowFrom (length before) (map procedure_seen ps)) next c.loop-done.invariant.follow in
    let added = c.in_ok-list_procedure.ensures.bytes in
    let long = procedure_long before after number p follow.0 added in
    let ends : c.len.result ≡ length after = search rules in
    record {
      whole = procedure_more before after number p rest added
          ∙ ap (λ ps. before ++ procedures_bytes number (map procedure_seen ps)) (sym next)
          ∙ c.loop-done.invariant.whole;
      tables = ap (λ ts. ts ++ map jtab_of rest) c.in_ok-push.ensures.items
          ∙ procedure_table before after number p rest c.loop-done.tables.items (c.len.result - 2) follow.0 added (ap (λ n. n - 2) ends)
          ∙ ap (λ ps. c.loop-done.tables.items ++ map jtab_of (map procedure_seen ps)) (sym next)
          ∙ c.loop-done.invariant.tables;
      good = (subst (λ ps. AllByRecursion IsProcedure (map procedure_seen ps)) next c.loop-done.invariant.good).1;
      follow = subst (λ n. FollowFrom n rest) (sym long) follow.1;
      short = subst (λ n. procedures_end n rest ≤ 65534) (sym long)
          (subst (λ ps. procedures_end (length before) (map procedure_seen ps) ≤ 65534) next c.loop-done.invariant.short);
      written = λ more.
          c.in_ok-list_procedure.ensures.text (listed_procedures (number + 1) rest more)
          ∙ ap (λ ps. string_bytes c.loop-done.text ++ listed_lines c.args.segment (listed_procedures number (map procedure_seen ps) more)) (sym next)
          ∙ c.loop-done.invariant.written more;
    }
