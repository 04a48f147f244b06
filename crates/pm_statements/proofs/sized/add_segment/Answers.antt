use Rattle.std.proofs.Common.{◌∙◌, ◌++◌, ap, sym, subst}
use Rattle.std.specs.List.{AllByRecursion}
use Rattle.pm_statements.specs.Files.{IsSizedSegment, segment_callees}
use Rattle.pm_statements.proofs.Filed.{sized_last}
use Rattle.pm_statements.proofs.sized.add_segment.Goals as goal

pub returns-in-Some-clause-callees : goal.returns-in-Some-clause-callees
returns-in-Some-clause-callees c =
    let all = subst (AllByRecursion IsSizedSegment) (sym c.deref.ensures.value) c.requires.sized in
    let sized = c.in-Some.ensures.sized all in
    c.in_ok-extend_from_slice.ensures.items
    ∙ ap (λ cs. c.args.callees.now.items ++ cs)
    (c.deref-in-Some.ensures.value ∙ sized.callees ∙ ap segment_callees c.in-Some.ensures.segment)

pub returns-clause-callees : goal.returns-clause-callees
returns-clause-callees c =
    c.in_ok-extend_from_slice-2.ensures.items
    ∙ ap (λ cs. c.args.callees.now.items ++ cs)
    (c.deref-2.ensures.value ∙ c.in_ok-sized.ensures.sized.callees ∙ ap segment_callees c.in_ok-sized.ensures.segment)

pub returns-clause-read : goal.returns-clause-read
returns-clause-read c = rw c.in_ok-push.ensures.items
    (sized_last c.args.segments.now.items c.in_ok-sized.sized c.args.segment.now c.in_ok-sized.ensures.segment)
