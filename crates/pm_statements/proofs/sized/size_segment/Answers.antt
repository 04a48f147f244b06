use Rattle.std.proofs.Common.{rules, ◌≡◌, ◌+◌, ◌-◌, ◌++◌, ◌∷◌, [], ◌∙◌, None, ap, append-nil, arith, sym}
use Rattle.pm_statements.specs.Files.{callee_in, callees_from}
use Rattle.pm_statements.proofs.Filed.{next_callee}
use Rattle.pm_statements.proofs.sized.size_segment.Goals as goal
use Rattle.pm_statements.proofs.sized.size_segment.Goals.{in-Some+in_ok-callee-in-Some, in-None}

pub loop-done-init : goal.loop-done-init
loop-done-init c = record {
  callees = ap (λ cs. cs ++ callees_from c.args.segment.now 1 255)
      (c.in_ok-push.ensures.items ∙ ap (λ cs. cs ++ None ∷ []) c.new-callees.ensures.items);
  tables = search rules;
}

pub loop-done-preserved : goal.loop-done-preserved
loop-done-preserved c =
    let segment = c.args.segment.now in
    let done = c.loop-done.done in
    let before = c.loop-done.callees.items in
    elim c.match-attributes.branch [
      | in-Some+in_ok-callee-in-Some w ↦ record {
        callees = next_callee segment done _ before _ c.match-attributes.callee (omega (arith, c.loop-done-test.true))
            (ap (callee_in segment) (sym c.attributes.ensures.value ∙ w.in-Some.is)
            ∙ sym (w.callee-is ∙ w.in_ok-callee-in-Some.ensures.callee))
            c.in_ok-push-2.ensures.items c.loop-done.invariant.callees;
        tables = rw w.tables-is w.in_ok-callee-in-Some.ensures.sized;
      }
      | in-None w ↦ record {
        callees = next_callee segment done _ before _ c.match-attributes.callee (omega (arith, c.loop-done-test.true))
            (ap (callee_in segment) (sym c.attributes.ensures.value ∙ w.in-None.is) ∙ sym w.callee-is)
            c.in_ok-push-2.ensures.items c.loop-done.invariant.callees;
        tables = rw w.tables-is c.loop-done.invariant.tables;
      }
    ]

pub returns-clause-sized : goal.returns-clause-sized
returns-clause-sized c =
    let none : 0 ≡ 255 - c.loop-done.done = omega (arith, c.loop-done-test.false) in
    record {
      callees = sym (append-nil c.loop-done.callees.items)
          ∙ ap (λ k. c.loop-done.callees.items ++ callees_from c.args.segment.now (c.loop-done.done + 1) k) none
          ∙ c.loop-done.invariant.callees;
      tables = c.loop-done.invariant.tables;
    }
