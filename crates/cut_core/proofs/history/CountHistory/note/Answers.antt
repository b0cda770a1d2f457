use Rattle.std.proofs.Common.{◌≡◌, ◌-◌, length, sym, ◌∙◌, arith}
use Rattle.std.specs.Vec.{vec_len, vec_capacity}
use Rattle.cut_core.proofs.NotedEventLemmas.{its_list_there, noted, noted_room, room_there}
use Rattle.cut_core.proofs.history.CountHistory.note.Goals as goal

pub push-requires : goal.push-requires
push-requires c =
    let lists = c.self.inside.lists.items in
    let many : c.len.result ≡ length lists = c.len.ensures ∙ c.self.inside.lists.ok.0 in
    room_there c.args.kind lists c.list-s.result c.len.result c.index_mut-list.result.now c.index_mut-list.result.now
    (sym c.index_mut-list.ensures.value) many c.list-s.ensures c.self.inside.kinds.items c.self.inside.kinds.items
    (vec_capacity c.self.inside.kinds - vec_len c.self.inside.kinds) 0 c.self.inside.room
    (its_list_there c.args.kind lists c.list-s.result c.len.result c.index_mut-list.result.now c.index_mut-list.result.now
    (sym c.index_mut-list.ensures.value) many c.list-s.ensures c.self.invariant.0.0) c.self.invariant.1
    (rw (← c.self.view_is) at c.requires)

pub invariant_of-self : goal.invariant_of-self
invariant_of-self c =
    let kinds = c.self.inside.kinds.items in
    let lists = c.self.inside.lists.items in
    let many : c.len.result ≡ length lists = c.len.ensures ∙ c.self.inside.lists.ok.0 in (
      noted c.args.kind lists c.list-s.result c.len.result c.index_mut-list.result.now c.push.new.self
          (sym c.index_mut-list.ensures.value) many c.list-s.ensures kinds c.push_reserved.new.self.items 0 0 0 c.len-place.result
          c.self.invariant.0 (c.len-place.ensures ∙ c.self.inside.kinds.ok.0) c.push_reserved.ensures.items c.push.ensures.places,
      noted_room c.args.kind lists c.list-s.result c.len.result c.index_mut-list.result.now c.push.new.self
          (sym c.index_mut-list.ensures.value) many c.list-s.ensures kinds c.push_reserved.new.self.items
          (vec_capacity c.self.inside.kinds - vec_len c.self.inside.kinds)
          (vec_capacity c.push_reserved.new.self - vec_len c.push_reserved.new.self) c.self.inside.room
          (its_list_there c.args.kind lists c.list-s.result c.len.result c.index_mut-list.result.now c.push.new.self
          (sym c.index_mut-list.ensures.value) many c.list-s.ensures c.self.invariant.0.0)
          c.self.invariant.1 c.push_reserved.ensures.items
          (omega (arith, c.push_reserved.ensures.len, c.push_reserved.ensures.capacity)) (rw (← c.self.view_is) at c.requires)
          c.push.ensures.room,
    )
