use Rattle.std.proofs.Common.{rules, arith}
use Rattle.std.proofs.lemmas.Bool.Decides.{nat_tests}
use Rattle.std.proofs.lemmas.Result.{err_from_is_err_and}
use Rattle.pm_tool.proofs.Talked.{talking_none, talking_byte, talking_line, told_by_quit, told_at_end}
use Rattle.pm_tool.proofs.Talked.{told_at_last, cut_behind, cut_answering, cut_at_last, cut_taking}
use Rattle.pm_tool.proofs.debug.converse.Goals as goal

pub bytes-init : goal.bytes-init
bytes-init g c = record {
  talking = talking_none _ _ _ (search rules);
  source_well = c.requires.well.0;
  sink_well = c.requires.well.1;
  few = omega arith;
  counted = λ low. omega arith;
}

pub returns-in_err-byte-clause-cut : goal.returns-in_err-byte-clause-cut
returns-in_err-byte-clause-cut g c =
    let p = err_from_is_err_and c.from_residual.result c.from_residual.ensures.1 in
    rw (p.1, p.2) (cut_taking _ _ (g.R.Source.seen c.next_byte.new.source) _ _ _ _ c.bytes.invariant.talking c.in_err-byte.ensures.none
    _ c.in_err-byte.ensures.refusal c.bytes.invariant.sink_well)

pub returns-in_err-turn-clause-cut : goal.returns-in_err-turn-clause-cut
returns-in_err-turn-clause-cut g c =
    let r = c.from_residual-in_err-turn in
    let p = err_from_is_err_and r.result r.ensures.1 in
    rw (p.1, p.2) (cut_answering _ _ _ _ _ _ c.bytes.invariant.talking _ c.in-Some.byte (rw c.in-Some.is at c.in_ok-byte.ensures.byte).0 (search rules)
    _ _ (rw c.deref.ensures.value at c.in_err-turn.ensures.front)
    (omega (arith, rw c.in-Some.is at c.in_ok-byte.ensures.byte)) c.in_ok-byte.ensures.well c.in_err-turn.ensures.cause)

pub returns-then-not-branch-clause-told : goal.returns-then-not-branch-clause-told
returns-then-not-branch-clause-told g c =
    told_by_quit _ _ _ _ _ _ c.bytes.invariant.talking _ c.in-Some.byte (rw c.in-Some.is at c.in_ok-byte.ensures.byte).0 (search rules)
    _ (search rules) (rw c.deref.ensures.value at c.in_ok-turn.ensures.written) (omega (arith, rw c.in-Some.is at c.in_ok-byte.ensures.byte))

pub bytes-preserved-then-byte-eq10 : goal.bytes-preserved-then-byte-eq10
bytes-preserved-then-byte-eq10 g c = record {
  talking = rw (rw c.in-Some.is at c.in_ok-byte.ensures.byte).2 (talking_line _ _ _ _ _ _ c.bytes.invariant.talking _ c.in-Some.byte
      (rw c.in-Some.is at c.in_ok-byte.ensures.byte).0 (search rules)
      _ _ _ (search rules) (rw c.deref.ensures.value at c.in_ok-turn.ensures.written) c.clear.ensures.items (search rules));
  source_well = c.in_ok-byte.ensures.well;
  sink_well = c.in_ok-turn.ensures.well;
  few = omega (arith, rw c.in-Some.is at c.in_ok-byte.ensures.byte);
  counted = λ low. search rules;
}

pub bytes-preserved : goal.bytes-preserved
bytes-preserved g c = record {
  talking = rw (rw c.in-Some.is at c.in_ok-byte.ensures.byte).2 (talking_byte _ _ _ _ _ _ c.bytes.invariant.talking _ c.in-Some.byte
      (rw c.in-Some.is at c.in_ok-byte.ensures.byte).0 _ (grind (arith, nat_tests))
      (search rules));
  source_well = c.in_ok-byte.ensures.well;
  sink_well = c.bytes.invariant.sink_well;
  few = omega (arith, rw c.in-Some.is at c.in_ok-byte.ensures.byte);
  counted = λ low. search rules;
}

pub returns-in_default-push-clause-cut : goal.returns-in_default-push-clause-cut
returns-in_default-push-clause-cut g c =
    cut_behind _ _ _ _ _ _ c.bytes.invariant.talking _ c.in-Some.byte (rw c.in-Some.is at c.in_ok-byte.ensures.byte).0 _ c.in_ok-byte.ensures.well
    (λ read e. (c.bytes.invariant.sink_well, c.in_ok-byte.ensures.well, omega (arith, rw c.in-Some.is at c.in_ok-byte.ensures.byte)))

pub returns-then-is_empty-clause-told : goal.returns-then-is_empty-clause-told
returns-then-is_empty-clause-told g c =
    told_at_end _ _ _ _ _ _ c.bytes.invariant.talking _ (rw c.in_default.is at c.in_ok-byte.ensures.byte).0 (search rules) c.bytes.invariant.few

pub returns-in_err-turn-2-clause-cut : goal.returns-in_err-turn-2-clause-cut
returns-in_err-turn-2-clause-cut g c =
    let r = c.from_residual-in_err-turn-2 in
    let p = err_from_is_err_and r.result r.ensures.1 in
    rw (p.1, p.2) (cut_at_last _ _ _ _ _ _ c.bytes.invariant.talking _ (rw c.in_default.is at c.in_ok-byte.ensures.byte).0 (search rules)
    _ _ (rw c.deref-2.ensures.value at c.in_err-turn-2.ensures.front) c.bytes.invariant.few c.in_ok-byte.ensures.well c.in_err-turn-2.ensures.cause)

pub returns-clause-told : goal.returns-clause-told
returns-clause-told g c =
    told_at_last _ _ _ _ _ _ c.bytes.invariant.talking _ (rw c.in_default.is at c.in_ok-byte.ensures.byte).0 (search rules)
    _ (rw c.deref-2.ensures.value at c.in_ok-turn-2.ensures.written) c.bytes.invariant.few
