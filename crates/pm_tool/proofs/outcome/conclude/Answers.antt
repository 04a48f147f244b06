use Rattle.std.proofs.Common.{ℕ, List, Some, Result, Ok, Err, IfOk}
use Rattle.std.specs.declared.alloc.AllocError.{AllocError}
use Rattle.pm_tool.specs.Outcomes.{IsOutcome, judged, refused}
use Rattle.pm_tool.specs.declared.outcome.Outcome.{Outcome}
use Rattle.pm_batch.specs.declared.refusal.Refusal.{Refusal}
use Rattle.pm_tool.proofs.outcome.conclude.Goals as goal

-- If a result is the outcome of a refused input, then it is also the outcome of a refused report, for any text of the
-- report.
with_text : (r : Result Outcome AllocError) (refusal : Refusal)
    → IfOk r (λ outcome. (unread : List ℕ) → IsOutcome outcome (refused refusal unread))
    → IfOk r (λ outcome. (text unread : List ℕ) → IsOutcome outcome (judged text (Some refusal) unread))
with_text (Ok outcome) refusal h = λ text unread.
    let i = h unread in record { exit = i.exit; message = i.message; image = i.image; others = i.others; printer = i.printer; stopped = i.stopped }
with_text (Err error) refusal h = tt

pub returns-in-Some-clause-outcome : goal.returns-in-Some-clause-outcome
returns-in-Some-clause-outcome c = rw c.in-Some.is (with_text c.refuse_line.result c.in-Some.refusal c.refuse_line.ensures.outcome)
