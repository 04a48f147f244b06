use Rattle.law_headline.proofs.Played.{Played}
use Rattle.law_headline.proofs.action.play.Given as goal

-- The actions before the present one are executed.
abbrev pub invariant-loop-action : goal.invariant-loop-action
invariant-loop-action l = Played l.fn.machine.state l.fn.actions.items l.machine.state l.yielded l.action-iterator.rest.items
