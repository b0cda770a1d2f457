use Rattle.std.proofs.Common.{◌≡◌, ℕ, ◌+◌, ◌-◌, get_or, sym, ap, ◌∙◌, arith}
use Rattle.cut_core.specs.Kinds.{is_like}
use Rattle.cut_core.specs.Places.{IsPlace}
use Rattle.cut_core.proofs.PositionLemmas.{place_after}
use Rattle.cut_core.proofs.PositionListLemmas.{own_there, own_place}
use Rattle.cut_core.proofs.history.CountHistory.nth.Goals as goal

pub at-requires : goal.at-requires
at-requires c =
    own_there c.self.inside.kinds.items c.self.inside.lists.items c.self.invariant.0 c.own_list-list.result c.index.result.now
    (sym c.index.ensures) c.args.wanted c.own_list-list.ensures (omega (arith, c.self.inside.lists.ok.0)) c.args.k c.requires.first
    (rw (← c.self.view_is) at c.requires.enough)

pub overflow_add-result : goal.overflow_add-result
overflow_add-result c =
    let place : IsPlace (is_like c.args.wanted) c.self.inside.kinds.items (c.args.k - 1) c.at.result =
    own_place c.self.inside.kinds.items c.self.inside.lists.items c.self.invariant.0 c.own_list-list.result c.index.result.now
    (sym c.index.ensures) c.args.wanted c.own_list-list.ensures (omega (arith, c.self.inside.lists.ok.0)) c.args.k c.at.result
    c.requires.first (rw (← c.self.view_is) at c.requires.enough) c.at.ensures in
    omega (arith, place.within, c.self.invariant.1.counted)

pub returns-then-list-len-clause-within : goal.returns-then-list-len-clause-within
returns-then-list-len-clause-within c =
    let place : IsPlace (is_like c.args.wanted) c.self.inside.kinds.items (c.args.k - 1) c.at.result =
    own_place c.self.inside.kinds.items c.self.inside.lists.items c.self.invariant.0 c.own_list-list.result c.index.result.now
    (sym c.index.ensures) c.args.wanted c.own_list-list.ensures (omega (arith, c.self.inside.lists.ok.0)) c.args.k c.at.result
    c.requires.first (rw (← c.self.view_is) at c.requires.enough) c.at.ensures in
    rw (← c.self.view_is) (omega (arith, place.within))

pub returns-then-list-len-clause-like : goal.returns-then-list-len-clause-like
returns-then-list-len-clause-like c =
    let place : IsPlace (is_like c.args.wanted) c.self.inside.kinds.items (c.args.k - 1) c.at.result =
    own_place c.self.inside.kinds.items c.self.inside.lists.items c.self.invariant.0 c.own_list-list.result c.index.result.now
    (sym c.index.ensures) c.args.wanted c.own_list-list.ensures (omega (arith, c.self.inside.lists.ok.0)) c.args.k c.at.result
    c.requires.first (rw (← c.self.view_is) at c.requires.enough) c.at.ensures in
    let back : c.at.result + 1 - 1 ≡ c.at.result = omega arith in
    rw (← c.self.view_is) (ap (λ (n : ℕ). is_like c.args.wanted (get_or c.self.inside.kinds.items n c.args.wanted)) back
    ∙ place.passes c.args.wanted)

pub returns-then-list-len-clause-count : goal.returns-then-list-len-clause-count
returns-then-list-len-clause-count c =
    let place : IsPlace (is_like c.args.wanted) c.self.inside.kinds.items (c.args.k - 1) c.at.result =
    own_place c.self.inside.kinds.items c.self.inside.lists.items c.self.invariant.0 c.own_list-list.result c.index.result.now
    (sym c.index.ensures) c.args.wanted c.own_list-list.ensures (omega (arith, c.self.inside.lists.ok.0)) c.args.k c.at.result
    c.requires.first (rw (← c.self.view_is) at c.requires.enough) c.at.ensures in
    let count : c.args.k - 1 + 1 ≡ c.args.k = omega (arith, c.requires.first) in
    rw (← c.self.view_is) (place_after (is_like c.args.wanted) c.self.inside.kinds.items (c.args.k - 1) c.at.result place ∙ count)
