use Rattle.std.proofs.Common.{◌-◌, sym, arith}
use Rattle.cut_core.proofs.PositionListLemmas.{none_past}
use Rattle.cut_core.proofs.history.CountHistory.stranger.Goals as goal

pub returns-then-before-eq0 : goal.returns-then-before-eq0
returns-then-before-eq0 c i past =
    rw (← c.self.view_is) (none_past c.self.inside.kinds.items c.self.inside.lists.items c.self.invariant.0 (c.len-last.result - 1)
    c.index.result.now (sym c.index.ensures) c.args.n c.before-then-last-processes.result i (omega (arith, c.self.inside.lists.ok.0))
    (omega arith) (omega arith) c.before-then-last-processes.ensures.within c.before-then-last-processes.ensures.above)

pub returns : goal.returns
returns c = rw (sym c.first.ensures.kinds) c.stranger.ensures
