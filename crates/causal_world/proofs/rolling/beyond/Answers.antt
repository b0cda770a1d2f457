use Rattle.std.proofs.Common.{arith}
use Rattle.cut_core.specs.ConsistentCuts.{places}
use Rattle.causal_world.proofs.LastKindLemmas.{sum_next, placed}
use Rattle.causal_world.proofs.rolling.beyond.Goals as goal

pub loop-p-preserved : goal.loop-p-preserved
loop-p-preserved c =
    let kinds = c.args.tally.now.kinds in
    let before = c.loop-p.invariant in (
      omega (
        arith,
        before.0,
        sum_next (places kinds) c.loop-p.p,
        sum_next c.args.cut.now c.loop-p.p,
        placed kinds c.loop-p.p,
        c.len.ensures,
        c.count_of.ensures,
        c.saturating_sub-own.ensures,
      ),
      omega (arith, before.1, c.saturating_sub-own.type_inv),
    )
