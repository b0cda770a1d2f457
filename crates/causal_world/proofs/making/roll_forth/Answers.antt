use Rattle.std.proofs.Common.{◌≡◌, ℕ, List, [], ◌∷◌, ◌++◌, length, get_or, refl, sym, ap, ◌∙◌, subst, arith, rules}
use Rattle.std.proofs.lemmas.List.{length-set}
use Rattle.dbg_base.specs.Trees.{Program}
use Rattle.dbg_base.specs.SystemStates.{after_redo}
use Rattle.cut_core.specs.declared.kind.Kind.{Kind}
use Rattle.causal_world.specs.declared.rolled.Taken.{Taken}
use Rattle.causal_world.specs.Scenes.{Scene, scene, made}
use Rattle.causal_world.specs.Pasts.{AreClocksOf, kind_done}
use Rattle.causal_world.specs.Room.{HasRoomForth, HasRoomForEach}
use Rattle.causal_world.specs.Worlds.{CanMake}
use Rattle.causal_world.specs.Rollings.{IsRolled, IsRolledFrom, unmade_all}
use Rattle.causal_world.proofs.WorldCallLemmas.{can_here, can_keep, can_few, can_whole, next_few, same_scene}
use Rattle.causal_world.proofs.RollbackLemmas.{channels_there}
use Rattle.causal_world.proofs.Inverses.{Again, again, room_for_last, room_after, room_one, room_each}
use Rattle.causal_world.proofs.making.roll_forth.Goals as goal
use Rattle.causal_world.proofs.making.roll_forth.Goals.{In-Some}

-- the world before the last event is made again
abbrev now : In-Some → Scene
now c = scene c.loop-pid.lines c.loop-pid.envs.items c.loop-pid.grid.channels c.loop-pid.past

made_again : (c : In-Some) (P : Program)
    (r : IsRolled P c.args.taken.now.items (scene c.args.lines.now c.args.envs.now.items c.args.grid.now.channels c.args.past.now))
    → Again P r.before (now c) c.pop.new.self.items c.in-Some.field-0
made_again c P r =
    again P r.before (now c) c.pop.new.self.items c.in-Some.field-0
    (subst (λ (l : List Taken). IsRolledFrom P r.before l (now c)) c.in-Some.ensures.items (c.loop-pid.invariant.rolled P r))

known : (c : In-Some) → Again c.requires.rolled.0 c.requires.rolled.1.before (now c) c.pop.new.self.items c.in-Some.field-0
known c = made_again c c.requires.rolled.0 c.requires.rolled.1

can : (c : In-Some) → CanMake (now c) c.in-Some.field-0.pid.0 (known c).choice c.in-Some.field-0.event
can c = let a = known c in (c.requires.rolled.0, a.of, a.makes)

pub advance-requires-clause-place : goal.advance-requires-clause-place
advance-requires-clause-place c =
    let a = known (goal.at.advance-requires-clause-place c).In-Some in
    let here = a.makes.here in
    omega (arith, here, a.of.state.places)

pub advance-requires-clause-room : goal.advance-requires-clause-room
advance-requires-clause-room c =
    let i = (goal.at.advance-requires-clause-room c).In-Some in
    next_few (can i).0 (now i) c.in-Some.field-0.pid.0 (known i).choice (can i).1 (known i).next

pub happen-requires-clause-here : goal.happen-requires-clause-here
happen-requires-clause-here c =
    let i = (goal.at.happen-requires-clause-here c).In-Some in (
      can_here (now i) c.in-Some.field-0.pid.0 (known i).choice c.in-Some.field-0.event (can i),
      can_keep (now i) c.in-Some.field-0.pid.0 (known i).choice c.in-Some.field-0.event (can i),
    )

pub happen-requires-clause-messages : goal.happen-requires-clause-messages
happen-requires-clause-messages c =
    let i = (goal.at.happen-requires-clause-messages c).In-Some in
    let p = c.in-Some.field-0.pid.0 in
    let kept = can_keep (now i) p (known i).choice c.in-Some.field-0.event (can i) in
    let square = channels_there (now i) (c.requires.rolled.0, (known i).of) in
    let columns = square.columns p kept in
    room_for_last (length c.loop-pid.past.kinds) c.loop-pid.grid c.pop.new.self.items c.in-Some.field-0 kept
    (λ j column. omega (arith, column, columns))
    (subst (HasRoomForth (length c.loop-pid.past.kinds) c.loop-pid.grid.room) c.in-Some.ensures.items c.loop-pid.invariant.ways)

pub happen-requires-clause-room : goal.happen-requires-clause-room
happen-requires-clause-room c =
    let i = (goal.at.happen-requires-clause-room c).In-Some in
    room_one c.loop-pid.past c.pop.new.self.items c.in-Some.field-0
    (can_keep (now i) c.in-Some.field-0.pid.0 (known i).choice c.in-Some.field-0.event (can i))
    (subst (HasRoomForEach c.loop-pid.past) c.in-Some.ensures.items c.loop-pid.invariant.room)

pub happen-requires-clause-few : goal.happen-requires-clause-few
happen-requires-clause-few c =
    let i = (goal.at.happen-requires-clause-few c).In-Some in
    let p = c.in-Some.field-0.pid.0 in
    can_few (now i) p (known i).choice c.in-Some.field-0.event (can i)
    (next_few (can i).0 (now i) p (known i).choice (can i).1 (known i).next)

pub happen-requires-clause-whole : goal.happen-requires-clause-whole
happen-requires-clause-whole c =
    let i = (goal.at.happen-requires-clause-whole c).In-Some in
    can_whole (now i) c.in-Some.field-0.pid.0 (known i).choice c.in-Some.field-0.event (can i)

pub loop-pid-preserved : goal.loop-pid-preserved
loop-pid-preserved c =
    let i = (goal.at.loop-pid-preserved c).In-Some in
    let t = c.in-Some.field-0 in
    let p = t.pid.0 in
    let prefix = c.pop.new.self.items in
    let past = c.happen.new.past in
    let size : length past.kinds ≡ length c.loop-pid.past.kinds =
    ap (λ (k : List (List Kind)). length k) c.happen.ensures.appended.kinds
    ∙ length-set c.loop-pid.past.kinds p (get_or c.loop-pid.past.kinds p [] ++ kind_done t.event.exchange ∷ []) in
    record {
      rolled = λ P r.
          let a = made_again i P r in
          let timed = subst (λ (k : List (List Kind)). AreClocksOf k past.clocks) c.happen.ensures.appended.kinds c.happen.ensures.appended.clocks in
          let new : scene c.advance.new.self c.happen.new.envs.items c.happen.new.grid.channels past
          ≡ made (now i) p t.event (after_redo c.loop-pid.lines p) past.clocks =
          same_scene _ _ _ past _ c.advance.ensures c.happen.ensures.states c.happen.ensures.channels c.happen.ensures.appended.starts
          c.happen.ensures.appended.events c.happen.ensures.appended.kinds refl in
          subst (IsRolledFrom P r.before prefix) (sym (new ∙ a.same past.clocks timed)) a.left;
      ways = subst (λ (n : ℕ). HasRoomForth n c.happen.new.grid.room prefix) (sym size)
          (room_after (length c.loop-pid.past.kinds) c.loop-pid.grid.room c.happen.new.grid.room prefix t c.happen.ensures.ways
          (subst (HasRoomForth (length c.loop-pid.past.kinds) c.loop-pid.grid.room) c.in-Some.ensures.items
          c.loop-pid.invariant.ways));
      room = room_each c.loop-pid.past past prefix t size c.happen.ensures.appended.own c.happen.ensures.appended.others
          (subst (HasRoomForEach c.loop-pid.past) c.in-Some.ensures.items c.loop-pid.invariant.room);
    }

pub returns-clause-back : goal.returns-clause-back
returns-clause-back c = λ P r.
    let none : c.loop-pid.taken.items ≡ [] = search rules in
    (c.loop-pid.invariant.rolled P r).is ∙ ap (unmade_all r.before) none
