use Rattle.std.proofs.Common.{◌≡◌, ℕ, ◌<◌, length, get_or, refl, ap, ◌∙◌, arith, rules}
use Rattle.std.proofs.lemmas.Option.{slice_get_read}
use Rattle.std.proofs.lemmas.List.{get_or_default}
use Rattle.dbg_base.specs.LocalStates.{no_state}
use Rattle.causal_world.specs.Scenes.{Scene}
use Rattle.causal_world.specs.Worlds.{IsSomeWorld}
use Rattle.causal_world.proofs.LastEventLemmas.{states_there}
use Rattle.causal_world.proofs.SameWorldLemmas.{present}
use Rattle.causal_world.proofs.world.World.env.Goals as goal

there : (w : Scene) (p : ℕ) → IsSomeWorld w → p < length w.state.places → p < length w.standing.states
there w p some here = omega (arith, here, states_there some.0 w some.1, some.1.state.places)

pub index-requires : goal.index-requires
index-requires c =
    let here = there _ c.args.pid.0 c.self.invariant (rw (← c.self.view_is) at c.requires) in
    (search rules)

is : (c : goal.After-index) → c.index.result.now ≡ get_or c.args.self.now.standing.states c.args.pid.0 c.index.result.now
is c = c.index.ensures ∙ ap (λ (w : Scene). get_or w.standing.states c.args.pid.0 c.index.result.now) c.self.view_is

pub returns-clause-present : goal.returns-clause-present
returns-clause-present c =
    let w = c.args.self.now in
    slice_get_read w.standing.states (length w.standing.states) c.args.pid.0 c.index.result.now refl
    (there w c.args.pid.0 (rw c.self.view_is at c.self.invariant) c.requires) (is c)

pub returns-clause-past : goal.returns-clause-past
returns-clause-past c =
    let w = c.args.self.now in
    let some : IsSomeWorld w = rw c.self.view_is at c.self.invariant in
    let here = c.requires in
    is c ∙ get_or_default w.standing.states c.args.pid.0 c.index.result.now no_state (there w c.args.pid.0 some here)
    ∙ present some.0 w c.args.pid.0 some.1 (omega (arith, here, some.1.state.places))
