use Rattle.std.proofs.Common.{rules, arith, refl, ◌-◌, ◌+◌}
use Rattle.std.proofs.lemmas.Result.{err_from_is_err_and}
use Rattle.pm_tool.proofs.Driven.{under_way_none, under_way_turned, under_way_cleared, under_way_went, under_way_waited, under_way_key}
use Rattle.pm_tool.proofs.Driven.{over_limit, over_ended, over_halted, over_waiting, broken_between, broken_writing, broken_taking}
use Rattle.pm_tool.proofs.QuickSteps.{under_way_unshown}
use Rattle.pm_tool.proofs.steps.drive.Goals as goal

pub steps-init : goal.steps-init
steps-init g c = record {
  under_way = under_way_none _ _ _ _ _ _ (search rules) (omega arith);
  source_well = c.requires.well.0;
  sink_well = c.requires.well.1;
  few = omega arith;
  counted = λ low. omega arith;
  within = omega arith;
}

pub returns-in_err-step-clause-broken : goal.returns-in_err-step-clause-broken
returns-in_err-step-clause-broken g c =
    let p = err_from_is_err_and c.from_residual.result c.from_residual.ensures.1 in
    rw (p.1, p.2) (broken_between _ _ _ _ _ _ _ _ _ c.steps.invariant.under_way _ c.steps.invariant.source_well
    (λ read e. (c.steps.invariant.sink_well, c.steps.invariant.source_well, omega arith)))

pub returns-in-Ended-clause-over : goal.returns-in-Ended-clause-over
returns-in-Ended-clause-over g c =
    over_ended _ _ _ _ _ _ _ _ _ c.steps.invariant.under_way c.step.new.page.items c.step.new.machine.state (omega arith) c.steps.invariant.few
    (search rules) (search rules)

pub returns-in-Halted-clause-over : goal.returns-in-Halted-clause-over
returns-in-Halted-clause-over g c =
    over_halted _ _ _ _ _ _ _ _ _ c.steps.invariant.under_way c.step.new.page.items c.step.new.machine.state
    (omega arith) c.in-Halted.error c.steps.invariant.few (search rules) (search rules)

pub returns-clause-over : goal.returns-clause-over
returns-clause-over g c = over_limit _ _ _ _ _ _ _ _ _ c.steps.invariant.under_way c.steps.invariant.few (omega arith)

pub steps-preserved-in-Went : goal.steps-preserved-in-Went
steps-preserved-in-Went g c = record {
  under_way = under_way_unshown _ _ _ _ _ _ _ _ _
      (under_way_turned _ _ _ _ _ _ _ _ _
      (under_way_went _ _ _ _ _ _ _ _ _ c.steps.invariant.under_way c.step.new.page.items c.step.new.machine.state (omega arith)
      (c.args.limit - (c.steps.went + 1)) (search rules) (search rules) (omega arith))
      _ _ c.in_ok-turn_page-in-Went.ensures.written)
      _ _ _ c.unshown_steps-went.ensures.unshown (omega arith);
  source_well = c.steps.invariant.source_well;
  sink_well = c.in_ok-turn_page-in-Went.ensures.well;
  few = c.steps.invariant.few;
  counted = c.steps.invariant.counted;
  within = omega (arith, c.unshown_steps-went.ensures.unshown.within);
}

pub returns-in_err-turn_page-in-Went-clause-broken :
    goal.returns-in_err-turn_page-in-Went-clause-broken
returns-in_err-turn_page-in-Went-clause-broken g c =
    let r = c.from_residual-in_err-turn_page-in-Went in
    let p = err_from_is_err_and r.result r.ensures.1 in
    rw (p.1, p.2) (broken_writing _ _ _ _ _ _ _ _ _
    (under_way_went _ _ _ _ _ _ _ _ _ c.steps.invariant.under_way c.step.new.page.items c.step.new.machine.state (omega arith)
    (c.args.limit - c.steps.went - 1) (search rules) (search rules) (omega arith))
    _ _ c.steps.invariant.few c.in_err-turn_page-in-Went.ensures.front c.steps.invariant.source_well c.in_err-turn_page-in-Went.ensures.cause)

pub returns-in_err-write_page-in-Waiting-clause-broken :
    goal.returns-in_err-write_page-in-Waiting-clause-broken
returns-in_err-write_page-in-Waiting-clause-broken g c =
    let r = c.from_residual-in_err-write_page-in-Waiting in
    let p = err_from_is_err_and r.result r.ensures.1 in
    rw (p.1, p.2) (broken_writing _ _ _ _ _ _ _ _ _
    (under_way_waited _ _ _ _ _ _ _ _ _ c.steps.invariant.under_way c.step.new.page.items c.step.new.machine.state (omega arith) (search rules))
    _ _ c.steps.invariant.few c.in_err-write_page-in-Waiting.ensures.front c.steps.invariant.source_well c.in_err-write_page-in-Waiting.ensures.cause)

pub returns-in_err-byte-in-Waiting-clause-broken :
    goal.returns-in_err-byte-in-Waiting-clause-broken
returns-in_err-byte-in-Waiting-clause-broken g c =
    let r = c.from_residual-in_err-byte-in-Waiting in
    let p = err_from_is_err_and r.result r.ensures.1 in
    rw (p.1, p.2) (broken_taking _ _ (g.R.Source.seen c.next_byte.new.source) _ _ _ _ _ _ _
    (under_way_cleared _ _ _ _ _ _ _ _ _
    (under_way_waited _ _ _ _ _ _ _ _ _ c.steps.invariant.under_way c.step.new.page.items c.step.new.machine.state (omega arith) (search rules))
    _ _ c.in_ok-write_page-in-Waiting.ensures.written c.in_ok-write_page-in-Waiting.ensures.cleared)
    c.in_err-byte-in-Waiting.ensures.none _ c.in_err-byte-in-Waiting.ensures.refusal c.in_ok-write_page-in-Waiting.ensures.well
    c.in_ok-write_page-in-Waiting.ensures.cleared c.step.new.machine.state (omega arith) (search rules))

pub returns-in_default-clause-over : goal.returns-in_default-clause-over
returns-in_default-clause-over g c =
    over_waiting _ _ _ _ _ _ _ _ _
    (under_way_cleared _ _ _ _ _ _ _ _ _
    (under_way_waited _ _ _ _ _ _ _ _ _ c.steps.invariant.under_way c.step.new.page.items c.step.new.machine.state (omega arith) (search rules))
    _ _ c.in_ok-write_page-in-Waiting.ensures.written c.in_ok-write_page-in-Waiting.ensures.cleared)
    c.write_page.new.page.items c.step.new.machine.state (omega arith) _ c.steps.invariant.few (search rules)
    (rw c.in_default.is at c.in_ok-byte-in-Waiting.ensures.byte).0

pub steps-preserved : goal.steps-preserved
steps-preserved g c = record {
  under_way = rw (rw c.in-Some.is at c.in_ok-byte-in-Waiting.ensures.byte).2
      (under_way_key _ _ _ _ _ _ _ _ _
      (under_way_cleared _ _ _ _ _ _ _ _ _
      (under_way_waited _ _ _ _ _ _ _ _ _ c.steps.invariant.under_way c.step.new.page.items c.step.new.machine.state (omega arith) (search rules))
      _ _ c.in_ok-write_page-in-Waiting.ensures.written c.in_ok-write_page-in-Waiting.ensures.cleared)
      c.write_page.new.page.items c.step.new.machine.state (omega arith) _ c.in-Some.byte _ (search rules)
      (rw c.in-Some.is at c.in_ok-byte-in-Waiting.ensures.byte).0 c.in_ok-key-in-Waiting.ensures.event);
  source_well = c.in_ok-byte-in-Waiting.ensures.well;
  sink_well = c.in_ok-write_page-in-Waiting.ensures.well;
  few = omega (arith, rw c.in-Some.is at c.in_ok-byte-in-Waiting.ensures.byte);
  counted = λ low. search rules;
  within = c.steps.invariant.within;
}

pub returns-in_err-key-in-Waiting-clause-broken : goal.returns-in_err-key-in-Waiting-clause-broken
returns-in_err-key-in-Waiting-clause-broken g c =
    let r = c.from_residual-in_err-key-in-Waiting in
    let p = err_from_is_err_and r.result r.ensures.1 in
    rw (p.1, p.2) (broken_between _ _ _ _ _ _ _ _ _
    (under_way_key _ _ _ _ _ _ _ _ _
    (under_way_cleared _ _ _ _ _ _ _ _ _
    (under_way_waited _ _ _ _ _ _ _ _ _ c.steps.invariant.under_way c.step.new.page.items c.step.new.machine.state (omega arith) (search rules))
    _ _ c.in_ok-write_page-in-Waiting.ensures.written c.in_ok-write_page-in-Waiting.ensures.cleared)
    c.write_page.new.page.items c.step.new.machine.state (omega arith) _ c.in-Some.byte _ (search rules)
    (rw c.in-Some.is at c.in_ok-byte-in-Waiting.ensures.byte).0 refl)
    _ c.in_ok-byte-in-Waiting.ensures.well (λ read e. (
      c.in_ok-write_page-in-Waiting.ensures.well,
      c.in_ok-byte-in-Waiting.ensures.well,
      omega (arith, rw c.in-Some.is at c.in_ok-byte-in-Waiting.ensures.byte),
    )))
