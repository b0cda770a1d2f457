use Rattle.std.proofs.Common.{◌≡◌, Some, sym, ◌∙◌, subst}
use Rattle.event_rows.specs.EventValues.{EventValue}
use Rattle.causal_world.specs.Room.{HasRoomBefore}
use Rattle.causal_world.proofs.WorldCallLemmas.{popped, undo_here, can_pop}
use Rattle.causal_world.proofs.rolling.take_back.Goals as goal
use Rattle.causal_world.proofs.rolling.take_back.Goals.{After-unwrap-event}

pub pop-requires : goal.pop-requires
pop-requires c = record { whole = can_pop _ c.args.grid.now c.args.pid.0 c.requires.1 }

pub revert-requires-clause-here : goal.revert-requires-clause-here
revert-requires-clause-here c =
    undo_here c.requires.1.world.0 _ c.args.pid.0 c.requires.1.event c.requires.1.world.1 c.requires.1.was

was : (c : After-unwrap-event) → Some c.unwrap-event.result ≡ Some c.requires.1.event
was c = sym (popped _ _ c.pop.result c.unwrap-event.result c.pop.ensures.last c.unwrap-event.ensures) ∙ c.requires.1.was

pub revert-requires-clause-messages : goal.revert-requires-clause-messages
revert-requires-clause-messages c =
    let same = was (goal.at.revert-requires-clause-messages c).After-unwrap-event in
    let is : c.requires.1.event ≡ c.unwrap-event.result = cc in
    subst (λ (e : EventValue). HasRoomBefore c.args.grid.now c.args.pid.0 e.exchange) is c.requires.1.messages

pub returns-clause-was : goal.returns-clause-was
returns-clause-was c = popped _ _ c.pop.result c.unwrap-event.result c.pop.ensures.last c.unwrap-event.ensures
