use Rattle.std.proofs.Common.{length, ℕ}
use Rattle.pm_forms.proofs.in_form.+form_at.Given as goal

abbrev pub decreases-form_at : goal.decreases-form_at
decreases-form_at l = length l.own.now
