use Rattle.std.proofs.Common.{◌≡◌, List, [], ◌∷◌, ◌++◌, sum, Some, refl, subst, sym, ap, ◌∙◌, arith}
use Rattle.dbg_base.specs.LocalStates.{LocalState}
use Rattle.dbg_base.specs.SystemStates.{SystemState}
use Rattle.causal_world.specs.declared.rolled.Taken.{Taken}
use Rattle.causal_world.specs.Scenes.{Scene, scene, unmade}
use Rattle.causal_world.specs.Worlds.{IsSomeWorld, last_event}
use Rattle.causal_world.specs.Rollings.{IsNextBack}
use Rattle.cut_core.specs.ConsistentCuts.{places}
use Rattle.causal_world.proofs.WorldCallLemmas.{undo_left}
use Rattle.causal_world.proofs.RollbackLemmas.{some_left, can_back, reverses_on, fewer, more_left, at_rest, Reverses}
use Rattle.causal_world.proofs.rolling.roll_back.Goals as goal
use Rattle.causal_world.proofs.rolling.roll_back.Goals.{In-Some, After-retreat}

pub next_back-requires-clause-world : goal.next_back-requires-clause-world
next_back-requires-clause-world c =
    subst (λ (states : List LocalState). IsSomeWorld (scene c.loop-pid.lines states c.loop-pid.grid.channels c.loop-pid.past))
    (sym c.as_slice.ensures.value) (some_left _ _ _ _ _ c.requires.world c.loop-pid.invariant.reverses)

next : (c : In-Some) → IsNextBack (scene c.loop-pid.lines c.loop-pid.envs.items c.loop-pid.grid.channels c.loop-pid.past) c.args.cut.now
    c.in-Some.pid.0
next c =
    subst (λ (states : List LocalState). IsNextBack (scene c.loop-pid.lines states c.loop-pid.grid.channels c.loop-pid.past)
    c.args.cut.now c.in-Some.pid.0) c.as_slice.ensures.value c.in-Some.ensures

pub take_back-requires : goal.take_back-requires
take_back-requires c = (
  c.loop-pid.lines,
  can_back _ c.loop-pid.grid c.args.cut.now c.in-Some.pid.0 (some_left _ _ _ _ _ c.requires.world c.loop-pid.invariant.reverses) refl
      c.loop-pid.invariant.reverses.consistent c.loop-pid.invariant.reverses.ways (next (goal.at.take_back-requires c).In-Some),
)

pub push_reserved-requires : goal.push_reserved-requires
push_reserved-requires c =
    let n = next (goal.at.push_reserved-requires c).In-Some in
    omega (
      arith,
      more_left c.loop-pid.past.kinds c.args.cut.now c.in-Some.pid.0 c.loop-pid.invariant.reverses.consistent n.0,
      c.loop-pid.invariant.room,
    )

was : (c : After-retreat)
    → last_event (scene c.loop-pid.lines c.loop-pid.envs.items c.loop-pid.grid.channels c.loop-pid.past) c.in-Some.pid.0
    ≡ Some c.take_back.result.event
was c = c.take_back.ensures.was

left : (c : After-retreat) → scene c.retreat.new.self c.take_back.new.envs.items c.take_back.new.grid.channels c.take_back.new.past
    ≡ unmade (scene c.loop-pid.lines c.loop-pid.envs.items c.loop-pid.grid.channels c.loop-pid.past) c.in-Some.pid.0
    c.take_back.result.event
left c =
    ap (λ (state : SystemState). scene state c.take_back.new.envs.items c.take_back.new.grid.channels c.take_back.new.past) c.retreat.ensures
    ∙ c.take_back.ensures.left c.loop-pid.lines

pub loop-pid-smaller : goal.loop-pid-smaller
loop-pid-smaller c =
    let some = some_left _ _ _ _ _ c.requires.world c.loop-pid.invariant.reverses in
    let less = fewer _ c.in-Some.pid.0 c.take_back.result.event some (was (goal.at.loop-pid-smaller c).After-retreat) in
    let kinds = ap (λ (w : Scene). sum (places w.kinds)) (left (goal.at.loop-pid-smaller c).After-retreat) in
    omega (arith, less, kinds)

pub loop-pid-preserved : goal.loop-pid-preserved
loop-pid-preserved c =
    let some = some_left _ _ _ _ _ c.requires.world c.loop-pid.invariant.reverses in
    let after = (goal.at.loop-pid-preserved c).After-retreat in
    let p = c.in-Some.pid.0 in
    let event = c.take_back.result.event in
    let n = next (goal.at.loop-pid-preserved c).In-Some in
    let less = fewer _ p event some (was after) in
    let kinds = ap (λ (w : Scene). sum (places w.kinds)) (left after) in
    let same : record { pid = c.in-Some.pid; event = event } ≡ c.take_back.result =
    λ i. record { pid = sym c.take_back.ensures.of i; event = event } in
    record {
      reverses = subst (Reverses _ _ c.take_back.new.grid.room c.args.cut.now)
          (ap (λ (taken : Taken). c.loop-pid.taken.items ++ taken ∷ []) same ∙ sym c.push_reserved.ensures.items)
          (reverses_on _ _ _ c.loop-pid.grid.room c.take_back.new.grid.room c.args.cut.now c.loop-pid.taken.items
          (record { pid = c.in-Some.pid; event = event }) c.requires.world c.loop-pid.invariant.reverses n.0 (was after)
          (undo_left _ p event n.1.1 (was after)) (left after) c.take_back.ensures.ways);
      room = omega (arith, less, kinds, c.loop-pid.invariant.room, c.push_reserved.ensures.len, c.push_reserved.ensures.capacity);
    }

pub returns-clause-moves : goal.returns-clause-moves
returns-clause-moves c = at_rest _ _ _ _ _ c.requires.world c.loop-pid.invariant.reverses c.in_default.ensures
