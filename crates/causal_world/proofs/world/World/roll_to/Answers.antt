use Rattle.std.proofs.Common.{◌≡◌, ℤ, List, append-nil, subst, sym, ap, ◌∙◌}
use Rattle.dbg_base.specs.Trees.{Program}
use Rattle.causal_world.specs.declared.rolled.Taken.{Taken}
use Rattle.causal_world.specs.Scenes.{Scene, scene, IsWorldOf}
use Rattle.causal_world.specs.Rollings.{IsRolledFrom}
use Rattle.causal_world.proofs.RollbackLemmas.{rolled_of, ways_back}
use Rattle.causal_world.proofs.world.World.roll_to.Goals as goal
use Rattle.causal_world.proofs.world.World.roll_to.Goals.{After-roll_back}

pub roll_back-requires-clause-ways : goal.roll_back-requires-clause-ways
roll_back-requires-clause-ways c =
    let inside = c.self.inside in
    let now : List (List (List ℤ)) → Scene = λ channels. scene inside.lines inside.envs.items channels inside.past in
    ways_back (now c.self.inside.grid.channels) c.make_room_back.new.grid.room _ c.tally-2.result.now.kinds c.self.invariant
    c.tally-2.ensures c.in_ok-make_room_back.ensures.room

back : (c : After-roll_back) → (P : Program) → IsWorldOf P c.args.self.now → IsRolledFrom P c.args.self.now c.roll_back.new.taken.items
    (scene c.roll_back.new.lines c.roll_back.new.envs.items c.roll_back.new.grid.channels c.roll_back.new.past)
back c P of =
    let inside = c.self.inside in
    let now : List (List (List ℤ)) → Scene = λ channels. scene inside.lines inside.envs.items channels inside.past in
    let same : now c.make_room_back.new.grid.channels ≡ c.args.self.now = ap now c.in_ok-make_room_back.ensures.channels ∙ c.self.view_is in
    subst (λ (w : Scene). IsRolledFrom P w c.roll_back.new.taken.items
    (scene c.roll_back.new.lines c.roll_back.new.envs.items c.roll_back.new.grid.channels c.roll_back.new.past)) same
    (c.roll_back.ensures.back P (subst (IsWorldOf P) (sym same) of))

pub invariant_of-self-2 : goal.invariant_of-self-2
invariant_of-self-2 c =
    let P = c.self.invariant.0 in
    (P, rolled_of P _ _ _ (back (goal.at.invariant_of-self-2 c).After-roll_back P (subst (IsWorldOf P) c.self.view_is c.self.invariant.1)))

pub returns-clause-of : goal.returns-clause-of
returns-clause-of c = λ P of. rolled_of P _ _ _ (back (goal.at.returns-clause-of c).After-roll_back P of)

pub returns-clause-back : goal.returns-clause-back
returns-clause-back c = λ P of.
    let after = (goal.at.returns-clause-back c).After-roll_back in
    let new : Scene = scene after.roll_back.new.lines after.roll_back.new.envs.items after.roll_back.new.grid.channels after.roll_back.new.past in
    subst (λ (l : List Taken). IsRolledFrom P c.args.self.now l new) (sym (append-nil after.roll_back.new.taken.items)) (back after P of)
