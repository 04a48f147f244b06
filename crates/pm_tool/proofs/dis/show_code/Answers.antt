use Rattle.pm_tool.proofs.dis.show_code.Goals as goal

pub returns-in-Err-clause-outcome : goal.returns-in-Err-clause-outcome
returns-in-Err-clause-outcome g c = λ unread. rw c.in-Err.ensures.refusal (c.in_ok-refuse_line-in-Err.ensures.outcome unread)
