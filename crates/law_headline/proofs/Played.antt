-- Lemmas for actions that are executed one after the other.
use Rattle.std.proofs.Common.{◌≡◌, List, [], ◌∷◌, ◌++◌, map, refl, sym, ap, ◌∙◌, append_assoc}
use Rattle.law_headline.specs.declared.action.Action.{Action}
use Rattle.law_headline.specs.Actions.{IsCut, event_of}
use Rattle.pm_machine.specs.Events.{after_all, next}
use Rattle.pm_machine.specs.State.{State}

-- If one more action is executed, then the state is the next state by the event of this action.
pub after_more : (s : State) (done : List Action) (action : Action)
    → after_all s (map event_of (done ++ action ∷ [])) ≡ next (after_all s (map event_of done)) (event_of action)
after_more s [] action = refl
after_more s (d ∷ done) action = after_more (next s (event_of d)) done action

map_append : (done left : List Action) → map event_of (done ++ left) ≡ map event_of done ++ map event_of left
map_append [] left = refl
map_append (d ∷ done) left = ap (λ es. event_of d ∷ es) (map_append done left)

-- The actions `done` are executed and the actions `left` remain. `now` is the state after `done`, from the state
-- `start`.
pub record Played (start : State) (actions : List Action) (now : State) (done left : List Action) : Type 0 where
  pub all : actions ≡ done ++ left
  pub state : now ≡ after_all start (map event_of done)

pub one_played : (start now new : State) (actions done left rest : List Action) (action : Action) → Played start actions now done left
    → left ≡ action ∷ rest → new ≡ next now (event_of action) → Played start actions new (done ++ action ∷ []) rest
one_played start now new actions done left rest action p more e = record {
  all = p.all ∙ ap (λ l. done ++ l) more ∙ sym (append_assoc done (action ∷ []) rest);
  state = e ∙ ap (λ s. next s (event_of action)) p.state ∙ sym (after_more start done action);
}

pub is_cut : (start now : State) (actions done left rest : List Action) (action : Action) → Played start actions now done left
    → left ≡ action ∷ rest → IsCut start (map event_of actions) now
is_cut start now actions done left rest action p more = record {
  done = map event_of done;
  event = event_of action;
  rest = map event_of rest;
  all = ap (map event_of) (p.all ∙ ap (λ l. done ++ l) more) ∙ map_append done (action ∷ rest);
  state = p.state;
}
