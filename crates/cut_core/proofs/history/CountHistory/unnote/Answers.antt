use Rattle.std.proofs.Common.{◌≡◌, ◌-◌, length, sym, ◌∙◌, arith}
use Rattle.std.specs.Vec.{vec_len, vec_capacity}
use Rattle.cut_core.proofs.NotedEventLemmas.{its_list_there, unnoted, unnoted_room}
use Rattle.cut_core.proofs.history.CountHistory.unnote.Goals as goal

pub invariant_of-self : goal.invariant_of-self
invariant_of-self c =
    let kinds = c.self.inside.kinds.items in
    let lists = c.self.inside.lists.items in
    let many : c.len.result ≡ length lists = c.len.ensures ∙ c.self.inside.lists.ok.0 in (
      unnoted c.in-Some.kind lists c.list-s.result c.len.result c.index_mut-list.result.now c.pop-in-Some.new.self
          (sym c.index_mut-list.ensures.value) many c.list-s.ensures kinds c.pop.new.self.items 0 0 0
          c.self.invariant.0 c.in-Some.ensures.items c.pop-in-Some.ensures.places,
      unnoted_room c.in-Some.kind lists c.list-s.result c.len.result c.index_mut-list.result.now c.pop-in-Some.new.self
          (sym c.index_mut-list.ensures.value) many c.list-s.ensures kinds c.pop.new.self.items
          (vec_capacity c.self.inside.kinds - vec_len c.self.inside.kinds) (vec_capacity c.pop.new.self - vec_len c.pop.new.self)
          c.self.inside.room (its_list_there c.in-Some.kind lists c.list-s.result c.len.result c.index_mut-list.result.now
          c.pop-in-Some.new.self (sym c.index_mut-list.ensures.value) many c.list-s.ensures c.self.invariant.0.0)
          c.self.invariant.1 c.in-Some.ensures.items (omega (arith, c.pop.ensures.len, c.pop.ensures.capacity))
          c.pop-in-Some.ensures.grows,
    )
