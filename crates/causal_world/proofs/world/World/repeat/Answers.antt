use Rattle.std.proofs.Common.{◌<◌, ℤ, List, [], length, ap, ◌∙◌, refl, subst, sym}
use Rattle.cut_core.specs.declared.kind.Kind.{Kind}
use Rattle.dbg_base.specs.declared.limits.TheConstants.{EVENTS}
use Rattle.event_rows.specs.EventValues.{EventValue}
use Rattle.std.specs.Prelude.{Some, slice_index_or}
use Rattle.causal_world.specs.Scenes.{channels_after, with_event}
use Rattle.causal_world.specs.Pasts.{kind_done, with_kind, IsWhole}
use Rattle.causal_world.proofs.WorldCallLemmas.{can_here, can_keep, can_few, can_whole, same_scene, next_few, some_repeat}
use Rattle.causal_world.proofs.world.World.repeat.Goals as goal

pub happen-requires-clause-here : goal.happen-requires-clause-here
happen-requires-clause-here c = (
  can_here _ c.args.pid.0 c.args.choice.0 c.args.event (rw (← c.self.view_is) at c.requires.can),
  subst (λ (kinds : List (List Kind)). c.args.pid.0 < length kinds) (sym c.in_ok-make_room.ensures.same.kinds)
      (can_keep _ c.args.pid.0 c.args.choice.0 c.args.event (rw (← c.self.view_is) at c.requires.can)),
)

pub happen-requires-clause-room : goal.happen-requires-clause-room
happen-requires-clause-room c =
    c.in_ok-make_room.ensures.room (can_keep _ c.args.pid.0 c.args.choice.0 c.args.event (rw (← c.self.view_is) at c.requires.can))

pub happen-requires-clause-few : goal.happen-requires-clause-few
happen-requires-clause-few c =
    let can = rw (← c.self.view_is) at c.requires.can in
    subst (λ (kinds : List (List Kind)). length (slice_index_or kinds c.args.pid.0 []) < EVENTS) (sym c.in_ok-make_room.ensures.same.kinds)
    (can_few _ c.args.pid.0 c.args.choice.0 c.args.event can
    (next_few can.0 _ _ _ can.1 (rw (← c.self.view_is) at c.requires.next)))

pub happen-requires-clause-whole : goal.happen-requires-clause-whole
happen-requires-clause-whole c =
    subst (λ (kinds : List (List Kind)). IsWhole (with_kind kinds c.args.pid.0 (kind_done c.args.event.exchange)))
    (sym c.in_ok-make_room.ensures.same.kinds)
    (can_whole _ c.args.pid.0 c.args.choice.0 c.args.event (rw (← c.self.view_is) at c.requires.can))

pub invariant_of-self-2 : goal.invariant_of-self-2
invariant_of-self-2 c =
    let p = c.args.pid.0 in
    let event = c.args.event in
    some_repeat _ _ p c.args.choice.0 event c.happen.ensures.appended.clocks (rw (← c.self.view_is) at c.requires.can)
    (rw (← c.self.view_is) at c.requires.next)
    (same_scene _ _ _ c.happen.new.past _ c.advance.ensures c.happen.ensures.states
    (c.happen.ensures.channels
    ∙ ap (λ (l : List (List (List ℤ))). channels_after l p event.exchange) c.in_ok-make_room.ensures.channels)
    (c.happen.ensures.appended.starts ∙ c.in_ok-make_room.ensures.same.starts)
    (c.happen.ensures.appended.events ∙ ap (λ (l : List (List EventValue)). with_event l p (Some event)) c.in_ok-make_room.ensures.same.events)
    (c.happen.ensures.appended.kinds
    ∙ ap (λ (l : List (List Kind)). with_kind l p (kind_done event.exchange)) c.in_ok-make_room.ensures.same.kinds)
    refl)
