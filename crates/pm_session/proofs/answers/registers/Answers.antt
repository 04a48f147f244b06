use Rattle.std.proofs.Common.{append_assoc}
use Rattle.std.proofs.lemmas.Result.{IfOk-weaker}
use Rattle.pm_session.specs.Answers.{registers_text}
use Rattle.pm_session.proofs.answers.registers.Goals as goal

pub returns : goal.returns
unfolding registers_text
returns c = record { text = IfOk-weaker c.format.result _ _ (λ text h. simp append_assoc at h) c.format.ensures.ok }
