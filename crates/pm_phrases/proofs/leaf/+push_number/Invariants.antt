use Rattle.pm_phrases.proofs.leaf.+push_number.Given as goal

-- The number decreases with each call, because it has one digit fewer.
abbrev pub decreases-push_number : goal.decreases-push_number
decreases-push_number l = l.number
