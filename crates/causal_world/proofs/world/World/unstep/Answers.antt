use Rattle.std.proofs.Common.{◌≡◌, ℤ, List, Some, refl, subst, sym, ap, ◌∙◌}
use Rattle.dbg_base.specs.Trees.{Program}
use Rattle.causal_world.specs.Scenes.{Scene, scene, IsWorldOf, unmade, restored}
use Rattle.causal_world.specs.Worlds.{last_event}
use Rattle.causal_world.specs.Rollings.{CanTakeBack, IsStepped}
use Rattle.causal_world.proofs.WorldCallLemmas.{can_take, undo_left}
use Rattle.causal_world.proofs.Inverses.{step_may, step_back, not_refused}
use Rattle.causal_world.proofs.world.World.unstep.Goals as goal
use Rattle.causal_world.proofs.world.World.unstep.Goals.{After-drop-cutoff-inside}

pub returns-in-Err-clause-refuses : goal.returns-in-Err-clause-refuses
returns-in-Err-clause-refuses c =
    let P = c.requires.0 in
    let s = c.requires.1 in (
      not_refused P c.args.self.now c.args.pid.0 c.in-Err.refusal s.now
          (step_may P c.args.pid.0 c.args.cutoff c.args.self.now s) (c.in-Err.ensures P s.now),
      refl,
    )

pub take_back-requires : goal.take_back-requires
take_back-requires c =
    let inside = c.self.inside in (
      inside.lines,
      subst (λ (channels : List (List (List ℤ))). CanTakeBack (scene inside.lines inside.envs.items channels inside.past)
          c.make_room_before.new.grid c.args.pid.0) (sym c.in-Ok-make_room_before.ensures.kept)
          (can_take _ c.make_room_before.new.grid c.args.pid.0 c.in-Ok.exchange c.self.invariant
          (rw (← c.self.view_is) at c.in-Ok.ensures) c.in-Ok-make_room_before.ensures.room),
    )

back : (c : After-drop-cutoff-inside) → (P : Program) (s : IsStepped P c.args.pid.0 c.args.cutoff c.args.self.now)
    → scene c.restore.new.self c.take_back.new.envs.items c.take_back.new.grid.channels c.take_back.new.past ≡ s.before
back c P s =
    let inside = c.self.inside in
    let p = c.args.pid.0 in
    let event = c.take_back.result.event in
    let now : List (List (List ℤ)) → Scene = λ channels. scene inside.lines inside.envs.items channels inside.past in
    let same : now c.make_room_before.new.grid.channels ≡ c.args.self.now = ap now c.in-Ok-make_room_before.ensures.kept ∙ c.self.view_is in
    let was : last_event c.args.self.now p ≡ Some event =
    ap (λ (w : Scene). last_event w p) (sym same) ∙ c.take_back.ensures.was in
    let left = c.take_back.ensures.left inside.lines ∙ ap (λ (w : Scene). unmade w p event) same in
    let cutoff : c.as_slice.result.now ≡ c.args.cutoff = c.as_slice.ensures.value ∙ c.cutoff.view_is in
    let state : c.restore.new.self ≡ restored c.args.self.now.state p c.args.cutoff =
    c.in-Ok-restore.ensures.restored ∙ ap (restored inside.lines p) cutoff
    ∙ ap (λ (w : Scene). restored w.state p c.args.cutoff) c.self.view_is in
    step_back P p c.args.cutoff c.args.self.now _ event s was (undo_left c.args.self.now p event c.in-Ok.ensures was P s.now)
    (λ i. record (left i) { state = state i })

pub invariant_of-self-2 : goal.invariant_of-self-2
invariant_of-self-2 c =
    let P = c.requires.0 in
    let s = c.requires.1 in
    (P, subst (IsWorldOf P) (sym (back (goal.at.invariant_of-self-2 c).After-drop-cutoff-inside P s)) s.of)

pub returns-clause-back : goal.returns-clause-back
returns-clause-back c = λ P s. back (goal.at.returns-clause-back c).After-drop-cutoff-inside P s
