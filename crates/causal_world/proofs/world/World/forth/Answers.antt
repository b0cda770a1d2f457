use Rattle.std.proofs.Common.{◌≡◌, List, length, refl, subst, sym, ◌∙◌}
use Rattle.cut_core.specs.declared.kind.Kind.{Kind}
use Rattle.dbg_base.specs.Trees.{Program}
use Rattle.causal_world.specs.declared.rolled.Taken.{Taken}
use Rattle.causal_world.specs.Scenes.{Scene, scene, IsWorldOf}
use Rattle.causal_world.specs.Room.{HasRoomForth}
use Rattle.causal_world.specs.Rollings.{IsRolled, IsRolledFrom}
use Rattle.causal_world.proofs.WorldCallLemmas.{same_scene}
use Rattle.causal_world.proofs.Inverses.{ways_forth}
use Rattle.causal_world.proofs.world.World.forth.Goals as goal
use Rattle.causal_world.proofs.world.World.forth.Goals.{After-roll_forth}

pub roll_forth-requires-clause-ways : goal.roll_forth-requires-clause-ways
roll_forth-requires-clause-ways c =
    let inside = c.self.inside in
    let room = c.in_ok-make_room_forth.ensures in
    subst (λ (k : List (List Kind)). HasRoomForth (length k) c.make_room_forth.new.grid.room c.gather.new.taken.items)
    (sym room.same.kinds)
    (ways_forth (scene inside.lines inside.envs.items inside.grid.channels inside.past) c.make_room_forth.new.grid.room
    c.gather.new.taken.items c.as_slice.result.now c.self.invariant c.as_slice.ensures.value room.ways)

back : (c : After-roll_forth) (P : Program) (r : IsRolled P c.args.rolled.now c.args.self.now)
    → scene c.roll_forth.new.lines c.roll_forth.new.envs.items c.roll_forth.new.grid.channels c.roll_forth.new.past ≡ r.before
back c P r =
    let inside = c.self.inside in
    let room = c.in_ok-make_room_forth.ensures in
    let same : scene inside.lines inside.envs.items c.make_room_forth.new.grid.channels c.make_room_forth.new.past ≡ c.args.self.now =
    same_scene inside.lines inside.envs.items c.make_room_forth.new.grid.channels c.make_room_forth.new.past
    (scene inside.lines inside.envs.items inside.grid.channels inside.past) refl refl room.channels room.same.starts room.same.events
    room.same.kinds
    room.same.clocks ∙ c.self.view_is in
    let gathered : c.gather.new.taken.items ≡ c.args.rolled.now = c.in_ok-gather.ensures.gathered.0 ∙ c.rolled.view_is in
    c.roll_forth.ensures.back P (record {
      before = r.before;
      from = subst (λ (w : Scene). IsRolledFrom P r.before c.gather.new.taken.items w) (sym same)
          (subst (λ (l : List Taken). IsRolledFrom P r.before l c.args.self.now) (sym gathered) r.from);
    })

pub invariant_of-self-2 : goal.invariant_of-self-2
invariant_of-self-2 c =
    let P = c.requires.0 in
    let r = c.requires.1 in
    (P, subst (IsWorldOf P) (sym (back (goal.at.invariant_of-self-2 c).After-roll_forth P r)) r.from.of)

pub returns-clause-back : goal.returns-clause-back
returns-clause-back c = λ P r. back (goal.at.returns-clause-back c).After-roll_forth P r
