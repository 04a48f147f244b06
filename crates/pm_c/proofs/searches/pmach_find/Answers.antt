use Rattle.std.proofs.Common.{inl, inr}
use Rattle.pm_c.proofs.searches.pmach_find.Goals as goal

-- If the pattern is UTF-8, the status is 12 if and only if the path is not.
pub returns-clause-text : goal.returns-clause-text
returns-clause-text c = (
  (λ e. inr (c.search_in.ensures.text.0 e)),
  (λ s. elim s [ inl bad ↦ absurd (bad c.in-Ok.ensures.cases.1) | inr bad ↦ c.search_in.ensures.text.1 bad ]),
)
