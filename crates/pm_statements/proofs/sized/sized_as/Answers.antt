use Rattle.std.proofs.Common.{◌≡◌, ◌∙◌, arith, sym, subst, true}
use Rattle.std.specs.Str.{bytes_eq}
use Rattle.std.proofs.lemmas.List.Folds.{list_any_at}
use Rattle.pm_statements.specs.Files.{IsSizedSegment}
use Rattle.pm_statements.proofs.Filed.{all_at, none_more, taken_all}
use Rattle.pm_statements.proofs.sized.sized_as.Goals as goal

pub loop-sized-preserved : goal.loop-sized-preserved
loop-sized-preserved c = none_more c.args.segments.now c.args.segment.now c.loop-sized.sized-index c.sized-item.result
    c.loop-sized-test.true (subst (λ s. bytes_eq s.segment.now c.args.segment.now ≡ _) c.sized-item.is (sym c.eq.ensures ∙ c.if-eq.false))
    c.loop-sized.invariant

pub returns-then-eq-clause-found : goal.returns-then-eq-clause-found
returns-then-eq-clause-found c = sym (list_any_at (λ s. bytes_eq s.segment.now c.args.segment.now) c.args.segments.now
    c.loop-sized.sized-index c.sized-item.result c.loop-sized-test.true
    (subst (λ s. bytes_eq s.segment.now c.args.segment.now ≡ true) c.sized-item.is (sym c.eq.ensures ∙ c.if-eq.true)))

pub returns-then-eq-clause-sized : goal.returns-then-eq-clause-sized
returns-then-eq-clause-sized c = λ all. subst IsSizedSegment (sym c.sized-item.is)
    (all_at IsSizedSegment c.args.segments.now c.loop-sized.sized-index c.sized-item.result c.loop-sized-test.true all)

pub returns-clause-found : goal.returns-clause-found
returns-clause-found c = sym (taken_all c.args.segments.now c.args.segment.now c.loop-sized.sized-index (omega (arith, c.loop-sized-test.false))
    c.loop-sized.invariant)
