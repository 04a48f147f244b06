use Rattle.pm_tool.proofs.batch.deliver.Goals as goal

pub returns-in_ok-refuse_line-in-Refused-clause-outcome : goal.returns-in_ok-refuse_line-in-Refused-clause-outcome
returns-in_ok-refuse_line-in-Refused-clause-outcome g c = λ unread. rw c.in-Refused.is (c.in_ok-refuse_line-in-Refused.ensures.outcome unread)

pub returns-in_ok-write_all-in-Judged-clause-outcome : goal.returns-in_ok-write_all-in-Judged-clause-outcome
returns-in_ok-write_all-in-Judged-clause-outcome g c = λ unread. rw c.in-Judged.is (c.in_ok-outcome-in-Judged.ensures.outcome c.in-Judged.text.items unread)
