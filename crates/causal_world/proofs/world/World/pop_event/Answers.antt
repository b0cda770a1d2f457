use Rattle.std.proofs.Common.{◌≡◌, ℤ, List, Some, subst, sym, ap, ◌∙◌}
use Rattle.dbg_base.specs.SystemStates.{SystemState}
use Rattle.causal_world.specs.Scenes.{Scene, scene, IsWorldOf, unmade}
use Rattle.causal_world.specs.Worlds.{last_event}
use Rattle.causal_world.specs.Rollings.{CanTakeBack, TakesOut}
use Rattle.causal_world.proofs.WorldCallLemmas.{can_take, may_take}
use Rattle.causal_world.proofs.world.World.pop_event.Goals as goal
use Rattle.causal_world.proofs.world.World.pop_event.Goals.{After-retreat}

pub take_back-taken-requires : goal.take_back-taken-requires
take_back-taken-requires c =
    let inside = c.self.inside in (
      inside.lines,
      subst (λ (channels : List (List (List ℤ))). CanTakeBack (scene inside.lines inside.envs.items channels inside.past)
          c.make_room_before.new.grid c.args.pid.0) (sym c.in_ok-make_room_before.ensures.kept)
          (can_take _ c.make_room_before.new.grid c.args.pid.0 c.in_ok-exchange.exchange c.self.invariant
          (rw (← c.self.view_is) at c.in_ok-exchange.ensures) c.in_ok-make_room_before.ensures.room),
    )

took : (c : After-retreat) → TakesOut c.args.self.now c.args.pid.0 c.take_back-taken.result.event
    (scene c.retreat.new.self c.take_back-taken.new.envs.items c.take_back-taken.new.grid.channels c.take_back-taken.new.past)
took c =
    let inside = c.self.inside in
    let p = c.args.pid.0 in
    let event = c.take_back-taken.result.event in
    let now : List (List (List ℤ)) → Scene = λ channels. scene inside.lines inside.envs.items channels inside.past in
    let same : now c.make_room_before.new.grid.channels ≡ c.args.self.now = ap now c.in_ok-make_room_before.ensures.kept ∙ c.self.view_is in
    let was : last_event c.args.self.now p ≡ Some event =
    ap (λ (w : Scene). last_event w p) (sym same) ∙ c.take_back-taken.ensures.was in
    record {
      was = was;
      may = may_take c.args.self.now p event c.in_ok-exchange.ensures was;
      left = ap (λ (state : SystemState). scene state c.take_back-taken.new.envs.items c.take_back-taken.new.grid.channels c.take_back-taken.new.past)
          c.retreat.ensures ∙ c.take_back-taken.ensures.left inside.lines ∙ ap (λ (w : Scene). unmade w p event) same;
    }

pub invariant_of-self-2 : goal.invariant_of-self-2
invariant_of-self-2 c =
    let t = took (goal.at.invariant_of-self-2 c).After-retreat in
    let P = c.self.invariant.0 in
    (P, subst (IsWorldOf P) (sym t.left) (t.may P (subst (IsWorldOf P) c.self.view_is c.self.invariant.1)).1)

pub returns-clause-took : goal.returns-clause-took
returns-clause-took c = took (goal.at.returns-clause-took c).After-retreat
