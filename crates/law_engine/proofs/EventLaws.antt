-- Lists of events.
use Rattle.std.proofs.Common.{[], ◌∷◌, refl, ◌∙◌, ap}
use Rattle.pm_machine.specs.Events.{next, after_all}
use Rattle.law_engine.specs.EventLaws.{CallsGiveAll, EventsGoOn}

pub calls_give_all : CallsGiveAll
calls_give_all s t [] h = h
calls_give_all s t (e ∷ es) h = calls_give_all h.0 t es h.2 ∙ ap (λ u. after_all u es) h.1

pub events_go_on : EventsGoOn
events_go_on s [] more = refl
events_go_on s (e ∷ es) more = events_go_on (next s e) es more
