use Rattle.std.proofs.Common.{◌≡◌, ◌≤◌, take, sym, arith}
use Rattle.std.specs.List.{count_by}
use Rattle.cut_core.specs.Kinds.{is_like}
use Rattle.cut_core.proofs.CountLemmas.{count_within}
use Rattle.cut_core.proofs.PositionLemmas.{below_are}
use Rattle.cut_core.proofs.PositionListLemmas.{own_places}
use Rattle.cut_core.proofs.history.CountHistory.count.Goals as goal

pub overflow_cast-result : goal.overflow_cast-result
overflow_cast-result c =
    let kinds = c.self.inside.kinds.items in
    let is : c.before-then-list-len.result ≡ count_by (is_like c.args.wanted) (take c.args.n kinds) =
    below_are (is_like c.args.wanted) kinds c.index.result.now.places
    (own_places kinds c.self.inside.lists.items c.self.invariant.0 c.own_list-list.result c.index.result.now
    (sym c.index.ensures) c.args.wanted c.own_list-list.ensures (omega (arith, c.self.inside.lists.ok.0)))
    c.args.n c.before-then-list-len.result c.before-then-list-len.ensures.within c.before-then-list-len.ensures.below
    c.before-then-list-len.ensures.above in
    let most : count_by (is_like c.args.wanted) (take c.args.n kinds) ≤ c.args.n = count_within (is_like c.args.wanted) kinds c.args.n in
    omega (arith, is, most, c.ranges.n)

pub returns-then-list-len : goal.returns-then-list-len
returns-then-list-len c =
    rw (← c.self.view_is) (below_are (is_like c.args.wanted) c.self.inside.kinds.items c.index.result.now.places
    (own_places c.self.inside.kinds.items c.self.inside.lists.items c.self.invariant.0 c.own_list-list.result c.index.result.now
    (sym c.index.ensures) c.args.wanted c.own_list-list.ensures (omega (arith, c.self.inside.lists.ok.0)))
    c.args.n c.before-then-list-len.result c.before-then-list-len.ensures.within c.before-then-list-len.ensures.below
    c.before-then-list-len.ensures.above)
